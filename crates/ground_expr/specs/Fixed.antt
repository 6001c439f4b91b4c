-- Paths that are the same in every configuration. What a reader believes after this file: which
-- expressions name an object or a list with no reference on the way.
use Rattle.std.specs.Prelude.{◌≡◌, ℕ, Bool, true, false, ◌&&◌, List, ℤ, Option}
use Rattle.class_table.specs.Outline.{Outline}
use Rattle.conf_types.specs.Trees.{Tree}
use Rattle.conf_types.specs.Trees as tree
use Rattle.conf_eval.specs.Meaning.{value}
use Rattle.expr_forms.specs.FixedForms.{is_part}

-- a class, or a path of parts
abbrev pub is_fixed_path : Tree → Bool
is_fixed_path (tree.This at) = true
is_fixed_path (tree.Local at k) = true
is_fixed_path (tree.Class at c) = true
is_fixed_path (tree.Paren at e) = is_fixed_path e
is_fixed_path (tree.Own at k s) = is_part s
is_fixed_path (tree.Root at k s) = is_part s
is_fixed_path (tree.Dot at e k s) = is_part s && is_fixed_path e
is_fixed_path (tree.Number at n) = false
is_fixed_path (tree.Truth at b) = false
is_fixed_path (tree.Minus at e) = false
is_fixed_path (tree.Not at e) = false
is_fixed_path (tree.Pair at op l r) = false
is_fixed_path (tree.Value at e k) = false
is_fixed_path (tree.Quant at q over f bs) = false
is_fixed_path (tree.Missing at) = false

-- whatever the configuration is, the expression has one value
abbrev pub IsFixed : Tree → Type 0
IsFixed t =
    (o : Outline) (this : Option ℕ) (vars : List ℕ) (v w : List ℤ)
    → value t (record { outline = o; values = v; this = this; vars = vars })
    ≡ value t (record { outline = o; values = w; this = this; vars = vars })
