-- The laws on values of typed expressions, and on reference sets that are full.
use Rattle.std.proofs.Common.{◌≡◌, ℕ, List, length, ℤ, subst}
use Rattle.std.specs.Prelude.{All}
use Rattle.std.proofs.lemmas.List.Elements.{All-weaker}
use Rattle.class_table.specs.Outline.{Outline}
use Rattle.class_table.specs.Sound.{IsSound}
use Rattle.conf_types.specs.declared.types.ExprType.{ExprType}
use Rattle.conf_types.specs.Trees.{Tree}
use Rattle.object_alloc.specs.declared.object.Leaf.{Leaf}
use Rattle.object_alloc.specs.Configurations.{IsConfiguration}
use Rattle.object_alloc.specs.Members.{HasItsSize}
use Rattle.object_alloc.specs.Walk.{leaves_in, walk}
use Rattle.conf_eval.specs.Fitting.{IsReached, IsValueOf, IsWithin}
use Rattle.conf_eval.specs.Meaning.{Setting, attribute_value, int_of, objects_of, value}
use Rattle.conf_limits.specs.Measures.{interval, reach}
use Rattle.conf_eval.specs.Satisfying.{IsFull}
use Rattle.conf_eval.specs.TypedValues.{HasType}
use Rattle.conf_eval.proofs.LawsNarrow.{value_reached, value_typed, value_within}

module _ (o : Outline) (vs : List ℤ) (sound : IsSound o) (conf : IsConfiguration o vs) where
  pub typed_value : (t : Tree) (s : Setting) (ty : ExprType) → HasType o vs t s ty → IsValueOf o ty (value t s)
  typed_value t s ty h = value_typed o vs sound conf t h.place s ty h.setting h.typed

  pub value_in_interval : (t : Tree) (s : Setting) (ty : ExprType) → HasType o vs t s ty → IsWithin (interval o t) (int_of (value t s))
  value_in_interval t s ty h = value_within o vs sound conf t h.place s ty h.setting h.typed

  pub value_in_reach : (t : Tree) (s : Setting) (ty : ExprType) → HasType o vs t s ty → IsReached (reach o t) ty (value t s)
  value_in_reach t s ty h = value_reached o vs sound conf t h.place s ty h.setting h.typed

sized : (o : Outline) (vs : List ℤ) (l : Leaf) → IsFull o vs l → HasItsSize o vs l
sized o vs l h = λ c n is. subst (λ s. length (objects_of (attribute_value o vs l.owner l.attribute s)) ≡ n) is (h c n is)

pub all_sized : (o : Outline) (vs : List ℤ) → All (IsFull o vs) (leaves_in (walk o)) → All (HasItsSize o vs) (leaves_in (walk o))
all_sized o vs h = All-weaker (IsFull o vs) (HasItsSize o vs) (sized o vs) (leaves_in (walk o)) h
