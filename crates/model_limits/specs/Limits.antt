-- The limits of models. What a reader believes after this file: how long their texts, how deep
-- their expressions, how many their objects and cells, how heavy their expressions and how large
-- their numbers may be.
use Rattle.std.specs.Prelude.{ℕ, ℤ, pos, neg_ℤ}

-- bytes of a model's text, and of a configuration's
abbrev pub model_bytes : ℕ
model_bytes = 1048576

abbrev pub config_bytes : ℕ
config_bytes = 16777216

-- the greatest number in a text
abbrev pub most_literal : ℕ
most_literal = 1000000000

-- how deep expressions nest
abbrev pub most_nesting : ℕ
most_nesting = 200

abbrev pub most_objects : ℕ
most_objects = 10000

-- how many names an object's path has
abbrev pub most_names : ℕ
most_names = 60

abbrev pub most_cells : ℕ
most_cells = 20000

abbrev pub most_weight : ℕ
most_weight = 2000000

-- how far from 0 a number lies: 2 to the 50th
abbrev pub most_width : ℕ
most_width = 1125899906842624

-- the numbers of `int`
abbrev pub least_int : ℤ
least_int = neg_ℤ (pos 1048576)

abbrev pub greatest_int : ℤ
greatest_int = pos 1048575
