-- The points of the cells' boxes are the configurations.
use Rattle.std.proofs.Common.{◌≡◌, ◌↔◌, ℕ, zero, suc, ◌<◌, true, List, [], ◌∷◌, ℤ, ◌≤ℤ◌, map, length, refl, ap, arith}
use Rattle.std.proofs.lemmas.Int.{ints}
use Rattle.class_table.specs.Outline.{Outline}
use Rattle.object_alloc.specs.declared.object.Cell.{Cell}
use Rattle.object_alloc.specs.declared.object.Domain.{Domain}
use Rattle.object_alloc.specs.declared.object.Domain.TheVariants.{Span, Extent}
use Rattle.object_alloc.specs.Cells.{cells, extent}
use Rattle.object_alloc.specs.Configurations.{IsInDomain, AreValues, IsConfiguration}
use Rattle.object_alloc.specs.Walk.{objects}
use Rattle.signed_clause.specs.Ranges.{has}
use Rattle.signed_clause.specs.Clauses.{Boxes, box_of}
use Rattle.signed_clause.specs.SetAlgebra.{piece}
use Rattle.ground_form.specs.Meaning.{value_of}
use Rattle.ground_form.specs.Solutions.{IsPoint}
use Rattle.ground_cells.specs.CellBoxes.{domain_box, cell_boxes}
use Rattle.ground_cells.proofs.NumberRanges.{extent_ascends, numbers_have, numbers_of}

span_have : (low high v : ℤ) → low ≤ℤ v → v ≤ℤ high → has (piece low high []) v ≡ true
span_have low high v h k = grind (arith, ints)

span_of : (low high v : ℤ) → has (piece low high []) v ≡ true → (low ≤ℤ v) × (v ≤ℤ high)
span_of low high v h = (grind (arith, ints), grind (arith, ints))

-- the box of a domain has its values
pub domain_have : (o : Outline) (d : Domain) (v : ℤ) → IsInDomain o d v → has (domain_box o d) v ≡ true
domain_have o (Span low high) v h = span_have low high v h.0 h.1
domain_have o (Extent c) v h = numbers_have 0 (extent o c) v (extent_ascends o.classes c 0 (objects o)) (record { number = h.object; has = h.has; is = h.is })

pub domain_of : (o : Outline) (d : Domain) (v : ℤ) → has (domain_box o d) v ≡ true → IsInDomain o d v
domain_of o (Span low high) v h = span_of low high v h
domain_of o (Extent c) v h =
    let n = numbers_of 0 (extent o c) v (extent_ascends o.classes c 0 (objects o)) h in
    record { object = n.number; has = n.has; is = n.is }

abbrev boxes_of : Outline → List Cell → Boxes
boxes_of o cs = map (λ (c : Cell). domain_box o c.domain) cs

point_of : (o : Outline) (cs : List Cell) (t : List ℤ) → AreValues o cs t → IsPoint (boxes_of o cs) t
point_of o [] [] h = record { size = refl; within = λ x lt. absurd (omega (arith, lt)) }
point_of o [] (v ∷ vs) h = absurd h
point_of o (c ∷ cs) [] h = absurd h
point_of o (c ∷ cs) (v ∷ vs) h =
    let rest = point_of o cs vs h.1 in
    record { size = ap suc rest.size; within = at rest }
  where
    at : IsPoint (boxes_of o cs) vs → (x : ℕ) → x < length (boxes_of o (c ∷ cs)) → has (box_of (boxes_of o (c ∷ cs)) x) (value_of (v ∷ vs) x) ≡ true
    at rest zero lt = domain_have o c.domain v h.0
    at rest (suc x) lt = rest.within x (omega (arith, lt))

values_of : (o : Outline) (cs : List Cell) (t : List ℤ) → IsPoint (boxes_of o cs) t → AreValues o cs t
values_of o [] [] p = tt
values_of o [] (v ∷ vs) p = absurd (omega (arith, p.size))
values_of o (c ∷ cs) [] p = absurd (omega (arith, p.size))
values_of o (c ∷ cs) (v ∷ vs) p =
    (domain_of o c.domain v (p.within 0 (omega arith)), values_of o cs vs (record { size = omega (arith, p.size); within = λ x lt. p.within (suc x) (omega (arith, lt)) }))

pub cells_agree : (o : Outline) (t : List ℤ) → IsPoint (cell_boxes o) t ↔ IsConfiguration o t
cells_agree o t = (values_of o (cells o) t, point_of o (cells o) t)
