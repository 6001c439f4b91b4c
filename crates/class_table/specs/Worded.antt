-- What a reader believes after this file: when the names of an outline are words. The names of
-- variables, of attributes and of values are words, and the values of an enumeration differ.
use Rattle.std.specs.Prelude.{◌≡◌, ℕ, true, List, [], All}
use Rattle.conf_syntax.specs.Spelling.{is_word}
use Rattle.class_table.specs.declared.table.Enumeration.{Enumeration}
use Rattle.class_table.specs.declared.table.Variable.{Variable}
use Rattle.class_table.specs.Outline.{Outline, attributes}
use Rattle.class_table.specs.Tables.{all_differ}

abbrev pub IsWord : List ℕ → Type 0
IsWord w = is_word w ≡ true

abbrev pub HasWord : Variable → Type 0
HasWord v = IsWord v.name

pub record HasWordValues (x : Enumeration) : Type 0 where
  pub words : All IsWord x.values
  pub differ : all_differ x.values [] ≡ true

pub record HasWords (o : Outline) : Type 0 where
  pub roots : All HasWord o.roots
  pub attributes : (c : ℕ) → All HasWord (attributes o.classes c)
  pub values : All HasWordValues o.enumerations
