-- Constraints that may give cells their values. What a reader believes after this file: which they
-- are. No promise rests on this choice.
use Rattle.std.specs.Prelude.{Bool, true, false, ◌&&◌, cond, List, ℤ}
use Rattle.std.specs.List.{list_all}
use Rattle.class_table.specs.Outline.{Outline}
use Rattle.conf_syntax.specs.declared.tree.QuantKind.{QuantKind}
use Rattle.conf_syntax.specs.declared.tree.QuantKind.TheVariants as kind
use Rattle.conf_types.specs.Programs.{ResolvedConstraint}
use Rattle.conf_types.specs.Trees.{Tree, Filter, Bodies}
use Rattle.conf_types.specs.Trees as tree
use Rattle.form_truths.specs.Tests.{wanted}
use Rattle.ground_expr.specs.Asked.{are_full, holds_of}

-- it says that something holds of all, or of some
abbrev pub joins_truths : QuantKind → Bool
joins_truths kind.Forall = true
joins_truths kind.Exists = true
joins_truths k = false

-- there is no quantifier in it
abbrev pub is_simple : Tree → Bool
is_simple (tree.Paren at e) = is_simple e
is_simple (tree.Minus at e) = is_simple e
is_simple (tree.Not at e) = is_simple e
is_simple (tree.Dot at e k s) = is_simple e
is_simple (tree.Pair at q l r) = is_simple l && is_simple r
is_simple (tree.Quant at k over f bodies) = false
is_simple t = true

abbrev pub is_simple_filter : Filter → Bool
is_simple_filter tree.NoFilter = true
is_simple_filter (tree.Where e) = is_simple e

abbrev pub are_simple : Bodies → Bool
are_simple tree.NoBody = true
are_simple (tree.Body e es) = is_simple e && are_simple es

-- it needs no sum, count or packing, and its quantifiers have none within
abbrev pub fixes : Tree → Bool
fixes (tree.Paren at e) = fixes e
fixes (tree.Minus at e) = fixes e
fixes (tree.Not at e) = fixes e
fixes (tree.Dot at e k s) = fixes e
fixes (tree.Pair at q l r) = fixes l && fixes r
fixes (tree.Quant at k over filter bodies) =
    joins_truths k && (is_simple over && (is_simple_filter filter && are_simple bodies))
fixes t = true

-- what is asked of a constraint in the pass for those that may fix something, or in that for the
-- others
abbrev pub holds_in : Bool → Outline → List ℤ → ResolvedConstraint → Bool
holds_in fixing o values k = cond (wanted fixing (fixes k.tree)) (holds_of o values k) true

-- the sets are full, and the constraints of that pass hold
abbrev pub satisfied_by_fixing : Outline → List ResolvedConstraint → List ℤ → Bool
satisfied_by_fixing o ks values = are_full o values && list_all (holds_in true o values) ks
