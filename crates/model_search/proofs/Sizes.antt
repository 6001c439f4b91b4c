-- A model has as many configurations as its ground problem has points of searched variables.
use Rattle.std.proofs.Common.{◌≡◌, ◌∙◌, ℕ, zero, suc, ◌+◌, ◌*◌, Bool, true, false, cond, List, [], ◌∷◌, ℤ, pos, ◌≤ℤ◌, ◌<ℤ◌, ◌-ℤ◌, ◌+ℤ◌, unsigned_abs, map, take, length, Option, int_lt, refl, ap, arith}
use Rattle.std.proofs.lemmas.Int.{ints}
use Rattle.std.specs.Int.{int_max}
use Rattle.class_table.specs.Outline.{Outline}
use Rattle.ground_cells.proofs.NumberRanges.{extent_ascends}
use Rattle.ground_cells.specs.CellBoxes.{single, AscendFrom, number_ranges, domain_box, cell_boxes}
use Rattle.ground_form.specs.declared.ground.Ground.{Ground}
use Rattle.ground_form.specs.Solutions.{volume, size_of}
use Rattle.conf_types.specs.Programs.{ResolvedConstraint, ResolvedGoal}
use Rattle.object_alloc.specs.Cells.{cells, extent}
use Rattle.object_alloc.specs.Counts.{span_size, domain_size, cell_ways, configuration_count}
use Rattle.object_alloc.specs.declared.object.Cell.{Cell}
use Rattle.object_alloc.specs.declared.object.Domain.{Domain}
use Rattle.object_alloc.specs.declared.object.Domain.TheVariants.{Span, Extent}
use Rattle.object_alloc.specs.Walk.{objects}
use Rattle.signed_clause.specs.Clauses.{Boxes}
use Rattle.signed_clause.specs.Ranges.{count_of}
use Rattle.signed_clause.specs.SetAlgebra.{piece}
use Rattle.signed_clause.specs.Union.{fuse}
use Rattle.reconfigure.specs.declared.repair.Repair.{Repair}
use Rattle.model_search.specs.Problems.{IsProblemOf}

abbrev width : ℤ → ℤ → ℕ
width low high = suc (unsigned_abs (high -ℤ low))

width_one : (x : ℕ) → width (pos x) (pos x) ≡ 1
width_one x = grind (arith, ints)

-- one number more, next to a range
width_next : (low high : ℤ) (x : ℕ) → low ≤ℤ high → high <ℤ pos x → int_lt (high +ℤ pos 1) (pos x) ≡ false → width low (int_max high (pos x)) ≡ suc (width low high)
width_next low high x le lt is = grind (arith, ints)

max_above : (low high : ℤ) (x : ℕ) → low ≤ℤ high → high <ℤ pos x → (low ≤ℤ int_max high (pos x)) × (int_max high (pos x) <ℤ pos (suc x))
max_above low high x le lt = (grind (arith, ints), grind (arith, ints))

-- the next number, in a range of its own or in this one
fuse_step : (b : Bool) (low high : ℤ) (x : ℕ) (xs : List ℕ) → low ≤ℤ high → high <ℤ pos x → count_of (fuse (pos x) (pos x) (map single xs)) ≡ width (pos x) (pos x) + length xs → count_of (fuse low (int_max high (pos x)) (map single xs)) ≡ width low (int_max high (pos x)) + length xs → int_lt (high +ℤ pos 1) (pos x) ≡ b → count_of (cond b ((low, high) ∷ fuse (pos x) (pos x) (map single xs)) (fuse low (int_max high (pos x)) (map single xs))) ≡ width low high + suc (length xs)
fuse_step true low high x xs le lt behind joined is =
    let e = behind ∙ ap (λ n. n + length xs) (width_one x) in
    omega (arith, e)
fuse_step false low high x xs le lt behind joined is =
    let e = joined ∙ ap (λ n. n + length xs) (width_next low high x le lt is) in
    omega (arith, e)

fuse_counts : (low high : ℤ) (n : ℕ) (xs : List ℕ) → low ≤ℤ high → high <ℤ pos n → AscendFrom n xs → count_of (fuse low high (map single xs)) ≡ width low high + length xs
fuse_counts low high n [] le lt h = omega arith
fuse_counts low high n (x ∷ xs) le lt h =
    let least = h.0 in
    let below : high <ℤ pos x = omega (arith, ints, lt, least) in
    let above = max_above low high x le below in
    fuse_step (int_lt (high +ℤ pos 1) (pos x)) low high x xs le below (fuse_counts (pos x) (pos x) (suc x) xs (omega (arith, ints)) (omega (arith, ints)) h.1) (fuse_counts low (int_max high (pos x)) (suc x) xs above.0 above.1 h.1) refl

numbers_count : (n : ℕ) (xs : List ℕ) → AscendFrom n xs → count_of (number_ranges xs) ≡ length xs
numbers_count n [] h = refl
numbers_count n (x ∷ xs) h =
    let e = fuse_counts (pos x) (pos x) (suc x) xs (omega (arith, ints)) (omega (arith, ints)) h.1 ∙ ap (λ n. n + length xs) (width_one x) in
    omega (arith, e)

span_counts : (low high : ℤ) → count_of (piece low high []) ≡ span_size low high
span_counts low high = grind (arith, ints)

domain_counts : (o : Outline) (d : Domain) → count_of (domain_box o d) ≡ domain_size o d
domain_counts o (Span low high) = span_counts low high
domain_counts o (Extent c) = numbers_count 0 (extent o c) (extent_ascends o.classes c 0 (objects o))

cells_count : (o : Outline) (cs : List Cell) → volume (length cs) (map (λ (c : Cell). domain_box o c.domain) cs) ≡ cell_ways o cs
cells_count o [] = refl
cells_count o (c ∷ cs) = ap (λ n. n * volume (length cs) (map (λ (c : Cell). domain_box o c.domain) cs)) (domain_counts o c.domain) ∙ ap (λ n. domain_size o c.domain * n) (cells_count o cs)

volume_front : (n : ℕ) (boxes : Boxes) → volume n boxes ≡ volume n (take n boxes)
volume_front zero boxes = refl
volume_front (suc n) [] = refl
volume_front (suc n) (b ∷ bs) = ap (λ v. count_of b * v) (volume_front n bs)

pub length_map : {X Y : Type 0} (f : X → Y) (xs : List X) → length (map f xs) ≡ length xs
length_map f [] = refl
length_map f (x ∷ xs) = ap suc (length_map f xs)

pub problem_size : (o : Outline) (ks : List ResolvedConstraint) (gs : List ResolvedGoal) (r : Option Repair) (g : Ground) → IsProblemOf o ks gs r g → size_of g ≡ configuration_count o
problem_size o ks gs r g p =
    volume_front g.search g.domains
    ∙ ap (λ b. volume g.search b) p.stands.cells_first
    ∙ ap (λ n. volume n (cell_boxes o)) (p.stands.searched ∙ length_map (λ (c : Cell). domain_box o c.domain) (cells o))
    ∙ cells_count o (cells o)
