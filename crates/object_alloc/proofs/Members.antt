-- Variables one by one.
use Rattle.std.proofs.Common.{◌≡◌, ℕ, zero, suc, ◌+◌, ◌<◌, List, [], ◌∷◌, ◌++◌, Option, None, Some, length, drop, refl, ap, sym, ◌∙◌, subst, arith, length-append, append_assoc, get_or}
use Rattle.std.specs.Prelude.{Contains, slice_index_or}
use Rattle.class_table.specs.declared.table.Resolved.{Resolved}
use Rattle.class_table.specs.declared.table.Variable.{Variable}
use Rattle.class_table.specs.Outline.{Outline}
use Rattle.class_table.specs.Sound.{IsSound}
use Rattle.class_table.specs.Tables.{IsShapeOf}
use Rattle.object_alloc.specs.declared.fault.AllocFault.{AllocFault}
use Rattle.object_alloc.specs.declared.queue.Kind.{Kind}
use Rattle.object_alloc.specs.Holding.{kinds_in}
use Rattle.object_alloc.specs.Sums.{held_kinds, kinds_of, IsExcess}
use Rattle.object_alloc.specs.Variables.{variables}
use Rattle.object_alloc.proofs.QueueSteps.{excess_more}
use Rattle.object_alloc.proofs.ShapeLaws.{shapes, root_shapes}

-- the variable at a place, with its shape
pub record IsAt (vs : List Variable) (k : ℕ) (s : Resolved) : Type 0 where
  pub variable : Variable
  pub shape : s ≡ variable.shape
  pub has : Contains vs variable
  pub left : drop k vs ≡ variable ∷ drop (k + 1) vs

pub variable_at : (vs : List Variable) (k : ℕ) (s : Resolved) → k < length vs → ((v : Variable) → s ≡ (slice_index_or vs k v).shape) → IsAt vs k s
variable_at [] k s h e = absurd (omega (arith, h))
variable_at (v ∷ vs) zero s h e = record { variable = v; shape = e v; has = (0, omega arith, refl); left = refl }
variable_at (v ∷ vs) (suc k) s h e =
    let r = variable_at vs k s (omega (arith, h)) e in
    let same : suc (k + 1) ≡ suc k + 1 = omega arith in
    record {
      variable = r.variable;
      shape = r.shape;
      has = (suc r.has.0, omega (arith, r.has.1), r.has.2);
      left = r.left ∙ ap (λ i. r.variable ∷ drop i (v ∷ vs)) same;
    }

-- the shape of a class's variable, or of the top level's
pub variable_there : (o : Outline) → IsSound o → (c : Option ℕ) (k : ℕ) (s : Resolved) → IsAt (variables o c) k s → IsShapeOf (length o.classes) (length o.enumerations) s
variable_there o sound None k s a = subst (IsShapeOf (length o.classes) (length o.enumerations)) (sym a.shape) (root_shapes o sound a.variable a.has)
variable_there o sound (Some c) k s a = subst (IsShapeOf (length o.classes) (length o.enumerations)) (sym a.shape) (shapes o sound c a.variable a.has)

module _ (d : ℕ) (vs : List Variable) (k : ℕ) (s : Resolved) (h : k < length vs) (e : (v : Variable) → s ≡ (slice_index_or vs k v).shape) where
  kinds_at : kinds_of d (drop k vs) ≡ held_kinds d s ++ kinds_of d (drop (k + 1) vs)
  kinds_at =
      let a = variable_at vs k s h e in
      ap (kinds_of d) a.left ∙ ap (λ x. held_kinds d x ++ kinds_of d (drop (k + 1) vs)) (sym a.shape)

  pub push_next : (queue new all : List Kind) → queue ++ kinds_of d (drop k vs) ≡ all → new ≡ queue ++ held_kinds d s → new ++ kinds_of d (drop (k + 1) vs) ≡ all
  push_next queue new all i n =
      ap (λ xs. xs ++ kinds_of d (drop (k + 1) vs)) n
      ∙ append_assoc queue (held_kinds d s) (kinds_of d (drop (k + 1) vs))
      ∙ ap (λ xs. queue ++ xs) (sym kinds_at) ∙ i

  pub push_excess : (queue old : List Kind) (f : AllocFault) → queue ++ kinds_of d (drop k vs) ≡ old ++ kinds_of d vs → IsExcess (length queue + length (held_kinds d s)) f → IsExcess (length old + length (kinds_of d vs)) f
  push_excess queue old f i x =
      excess_more (length queue + length (held_kinds d s)) (length old + length (kinds_of d vs)) f
      (omega (arith, ap length i, length-append queue (kinds_of d (drop k vs)), length-append old (kinds_of d vs), ap length kinds_at, length-append (held_kinds d s) (kinds_of d (drop (k + 1) vs)))) x

-- the shape at an index, and those behind it
pub shape_next : (d : ℕ) (shapes : List Resolved) (i : ℕ) (s : Resolved) → i < length shapes → kinds_in d (drop i shapes) ≡ held_kinds d (get_or shapes i s) ++ kinds_in d (drop (i + 1) shapes)
shape_next d [] i s h = absurd (omega (arith, h))
shape_next d (x ∷ xs) zero s h = refl
shape_next d (x ∷ xs) (suc i) s h =
    let same : suc (i + 1) ≡ suc i + 1 = omega arith in
    shape_next d xs i s (omega (arith, h)) ∙ ap (λ k. held_kinds d (get_or xs i s) ++ kinds_in d (drop k (x ∷ xs))) same
