-- What is asked of a configuration, as a test: that the constraints of a model hold, and that its
-- sets are full.
use Rattle.std.specs.Prelude.{ℕ, Bool, true, ◌&&◌, List, Option, ℤ, length, nat_eq}
use Rattle.std.specs.List.{list_all}
use Rattle.class_table.specs.declared.table.Resolved.{Resolved}
use Rattle.class_table.specs.declared.table.Resolved.TheVariants as shape
use Rattle.class_table.specs.Outline.{Outline}
use Rattle.conf_types.specs.Programs.{ResolvedConstraint}
use Rattle.object_alloc.specs.declared.object.Leaf.{Leaf}
use Rattle.object_alloc.specs.Walk.{walk, leaves_in}
use Rattle.conf_eval.specs.Meaning.{value, truth_of, objects_of, attribute_value}
use Rattle.conf_eval.specs.Satisfying.{setting, stated_for}

-- a set of this shape has as many members as the shape says
abbrev pub has_count : Resolved → ℕ → Bool
has_count (shape.RefSet c n) members = nat_eq members n
has_count (shape.Span low high) members = true
has_count shape.Truth members = true
has_count (shape.Choice e) members = true
has_count (shape.Ref c) members = true
has_count (shape.One c) members = true
has_count (shape.Many c n) members = true

abbrev pub is_full : Outline → List ℤ → Leaf → Bool
is_full o values l =
    has_count l.shape (length (objects_of (attribute_value o values l.owner l.attribute l.shape)))

abbrev pub are_full : Outline → List ℤ → Bool
are_full o values = list_all (is_full o values) (leaves_in (walk o))

abbrev pub holds_for : Outline → List ℤ → ResolvedConstraint → Option ℕ → Bool
holds_for o values k this = truth_of (value k.tree (setting o values this))

abbrev pub holds_of : Outline → List ℤ → ResolvedConstraint → Bool
holds_of o values k = list_all (holds_for o values k) (stated_for o k.class)

-- the sets are full, and the constraints hold
abbrev pub satisfied_by : Outline → List ResolvedConstraint → List ℤ → Bool
satisfied_by o ks values = are_full o values && list_all (holds_of o values) ks
