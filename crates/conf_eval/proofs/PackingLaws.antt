-- Loads and sums, one item more.
use Rattle.std.proofs.Common.{◌≡◌, ℕ, zero, suc, ◌+◌, ◌<◌, ◌≤◌, List, [], ◌∷◌, ℤ, pos, neg_ℤ, ◌+ℤ◌, ◌≤ℤ◌, refl, ap, sym, ◌∙◌, arith, drop, get_or, length, map}
use Rattle.std.proofs.lemmas.Int.{ints}
use Rattle.class_table.proofs.ListLaws.{drop_next}
use Rattle.conf_eval.specs.declared.packing.Item.{Item as Packed}
use Rattle.conf_eval.specs.declared.value.Value.{Value}
use Rattle.conf_eval.specs.Evaluating.{IsSmall}
use Rattle.conf_eval.specs.Fitting.{IsNarrow}
use Rattle.conf_eval.specs.Meaning.{load}
use Rattle.conf_eval.specs.Packing.{item_view, size_at}

-- what was added, and a term, stay small where the rest and the whole are narrow
pub small_step : (done term rest left whole : ℤ) → left ≡ term +ℤ rest → done +ℤ left ≡ whole → IsNarrow rest → IsNarrow whole → IsSmall (done +ℤ term)
small_step done term rest left whole split all r w =
    let a = r.low in
    let b = r.high in
    let c = w.low in
    let d = w.high in
    record { low = omega (arith, ints, split, all, a, b, c, d); high = omega (arith, ints, split, all, a, b, c, d) }

pub sum_step : (done term rest left whole next : ℤ) → left ≡ term +ℤ rest → done +ℤ left ≡ whole → next ≡ done +ℤ term → next +ℤ rest ≡ whole
sum_step done term rest left whole next split all is = omega (arith, ints, split, all, is)

mapped : {X Y : Type 0} (f : X → Y) (xs : List X) (i : ℕ) (x : X) → i < length xs → x ≡ get_or xs i x → f x ≡ get_or (map f xs) i (f x)
mapped f [] i x h e = refl
mapped f (y ∷ ys) zero x h e = ap f e
mapped f (y ∷ ys) (suc i) x h e = mapped f ys i x (omega (arith, h)) e

count_mapped : {X Y : Type 0} (f : X → Y) (xs : List X) → length (map f xs) ≡ length xs
count_mapped f [] = refl
count_mapped f (x ∷ xs) = ap suc (count_mapped f xs)

pub load_next : (bin : Value) (items : List Packed) (i : ℕ) (x : Packed) → i < length items → x ≡ get_or items i x → load bin (drop i (map item_view items)) ≡ size_at bin (item_view x) +ℤ load bin (drop (i + 1) (map item_view items))
load_next bin items i x h e = ap (load bin) (drop_next (map item_view items) i (item_view x) (omega (arith, h, count_mapped item_view items)) (mapped item_view items i x h e))
