-- The parts and the cells of an attribute are those of its shape.
use Rattle.std.proofs.Common.{◌≡◌, ℕ, zero, suc, ◌+◌, ◌<◌, List, [], ◌∷◌, Option, None, Some, length, map, refl, ap, sym, ◌∙◌, subst, arith}
use Rattle.std.specs.Prelude.{slice_get}
use Rattle.std.specs.List.{flat_map}
use Rattle.std.specs.Option.{option_map, option_map_or}
use Rattle.class_table.specs.declared.table.Resolved.{Resolved}
use Rattle.class_table.specs.declared.table.Resolved.TheVariants.{Span, Truth, Choice, One, Many, Ref, RefSet}
use Rattle.class_table.specs.declared.table.Variable.{Variable}
use Rattle.class_table.specs.Outline.{Outline}
use Rattle.class_table.specs.Sound.{IsSound, held_class}
use Rattle.class_table.specs.Tables.{IsShapeOf}
use Rattle.object_alloc.specs.declared.object.Object.{Object}
use Rattle.object_alloc.specs.Cells.{cells, leaf_cells}
use Rattle.object_alloc.specs.Groups.{is_part_of, is_cell_of}
use Rattle.object_alloc.specs.Variables.{variables_of, variables}
use Rattle.object_alloc.specs.Own.{inside_of, IsOwner, IsOwned, held}
use Rattle.object_alloc.specs.Walk.{within, top, objects_in, leaves_in, visit, walk, objects}
use Rattle.object_alloc.proofs.OwnNumbers.{filtered, kept_objects, kept_cells, first_objects, first_cells}
use Rattle.object_alloc.proofs.OwnWalk.{kept, first_met, in_list, all_hit, IsOwn, AllOwn, members_own, members_first, visit_owns}
use Rattle.object_alloc.proofs.ShapeLaws.{root_shapes}

shape_class : (m e : ℕ) (s : Resolved) (c : ℕ) → IsShapeOf m e s → held_class s ≡ Some c → c < m
shape_class m e (One d) c h g = let same : d ≡ c = cc in omega (arith, h, same)
shape_class m e (Many d i) c h g = let same : d ≡ c = cc in omega (arith, h, same)
shape_class m e (Span low high) c h g = cc
shape_class m e Truth c h g = cc
shape_class m e (Choice x) c h g = cc
shape_class m e (Ref d) c h g = cc
shape_class m e (RefSet d i) c h g = cc

no_object : (xs : List Object) (n : ℕ) → slice_get xs n ≡ None → n < length xs → ⊥
no_object [] n e h = omega (arith, h)
no_object (x ∷ xs) zero e h = cc
no_object (x ∷ xs) (suc n) e h = no_object xs n e (omega (arith, h))

module _ (o : Outline) (sound : IsSound o) where
  roots_own : AllOwn o (visit o) top o.roots
  roots_own j v c g held = visit_owns o sound.nesting (length o.classes) c (sound.nesting.below c (shape_class (length o.classes) (length o.enumerations) v.shape c (root_shapes o sound v (in_list o.roots j v g)) held))

  walk_own : IsOwn o None 0 (walk o)
  walk_own = members_own o (visit o) top 0 o.roots 0 roots_own tt

  -- what the walk meets as attribute k of the owner
  pub met_is : (owner : Option ℕ) (k : ℕ) (v : Variable) → IsOwner o owner → slice_get (variables_of o owner) k ≡ Some v → kept owner k (walk o) ≡ first_met (inside_of o owner) k v.shape
  met_is None k v there g = members_first o (visit o) top k 0 o.roots 0 roots_own tt ∙ all_hit top 0 o.roots k k v (omega arith) g
  met_is (Some n) k v there g = by (slice_get (objects o) n) refl g
    where
      by : (x : Option Object) → slice_get (objects o) n ≡ x → slice_get (variables o (option_map (λ (y : Object). y.class) x)) k ≡ Some v → kept (Some n) k (walk o) ≡ first_met (record { owner = Some n; depth = option_map_or (λ (y : Object). y.depth) x 0 }) k v.shape
      by None e g = absurd (no_object (objects o) n e there)
      by (Some y) e g = let at : 0 + n ≡ n = omega arith in subst (λ m. kept (Some m) k (walk o) ≡ first_met (within m y) k v.shape) at (walk_own.own n k y v e g)

  pub owned : (owner : Option ℕ) (k : ℕ) (v : Variable) → IsOwner o owner → slice_get (variables_of o owner) k ≡ Some v → IsOwned o owner k v.shape
  owned owner k v there g =
      let met = met_is owner k v there g in
      record {
        parts = filtered (is_part_of owner k) (objects o) ∙ ap (map Some) (sym (kept_objects owner k (walk o)) ∙ ap objects_in met ∙ first_objects (inside_of o owner) k v.shape);
        cells = filtered (is_cell_of owner k) (cells o) ∙ ap (map Some) (sym (kept_cells owner k o (walk o)) ∙ ap (λ ms. flat_map (leaf_cells o) (leaves_in ms)) met ∙ first_cells o (inside_of o owner) k v.shape);
      }
