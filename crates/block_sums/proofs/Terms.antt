-- Lists of terms: with one more, one behind the other, and as a problem grows.
use Rattle.std.proofs.Common.{◌≡◌, ℕ, zero, suc, ◌+◌, ◌*◌, ◌<◌, List, [], ◌∷◌, ◌++◌, ℤ, pos, ◌+ℤ◌, ◌*ℤ◌, unsigned_abs, length, All, refl, ap, ◌∙◌, arith}
use Rattle.std.proofs.lemmas.Int.{ints}
use Rattle.signed_clause.specs.Ranges.{Ranges}
use Rattle.signed_clause.specs.Clauses.{Boxes, box_of}
use Rattle.ground_form.specs.declared.ground.Ground.{Ground}
use Rattle.ground_form.specs.Meaning.{value_of, sum_at}
use Rattle.ground_form.specs.Bounds.{reach_of, term_weight, weight_of}
use Rattle.form_build.specs.Worlds.{Grows}
use Rattle.form_build.proofs.Growth.{no_less, box_kept}

-- ---- a term more

nought_swap : (x : ℤ) → (x +ℤ pos 0) ≡ (pos 0 +ℤ x)
nought_swap x = omega (arith, ints)

group : (x y z : ℤ) → (x +ℤ (y +ℤ z)) ≡ ((x +ℤ y) +ℤ z)
group x y z = omega (arith, ints)

pub sum_more : (ts : List (ℤ × ℕ)) (t : ℤ × ℕ) (a : List ℤ) → sum_at (ts ++ t ∷ []) a ≡ (sum_at ts a +ℤ (t.0 *ℤ value_of a t.1))
sum_more [] t a = nought_swap (t.0 *ℤ value_of a t.1)
sum_more (u ∷ ts) t a =
    ap (λ (z : ℤ). (u.0 *ℤ value_of a u.1) +ℤ z) (sum_more ts t a)
    ∙ group (u.0 *ℤ value_of a u.1) (sum_at ts a) (t.0 *ℤ value_of a t.1)

pub weight_more : (ts : List (ℤ × ℕ)) (t : ℤ × ℕ) (boxes : Boxes) → weight_of (ts ++ t ∷ []) boxes ≡ weight_of ts boxes + term_weight t boxes
weight_more [] t boxes = omega arith
weight_more (u ∷ ts) t boxes = let rest = weight_more ts t boxes in omega (arith, rest)

-- ---- two lists

pub sum_both : (ts us : List (ℤ × ℕ)) (a : List ℤ) → sum_at (ts ++ us) a ≡ (sum_at ts a +ℤ sum_at us a)
sum_both [] us a = omega (arith, ints)
sum_both (t ∷ ts) us a = let rest = sum_both ts us a in omega (arith, ints, rest)

pub weight_both : (ts us : List (ℤ × ℕ)) (boxes : Boxes) → weight_of (ts ++ us) boxes ≡ weight_of ts boxes + weight_of us boxes
weight_both [] us boxes = omega arith
weight_both (t ∷ ts) us boxes = let rest = weight_both ts us boxes in omega (arith, rest)

pub front_there : (n : ℕ) (ts us : List (ℤ × ℕ)) → All (λ t. t.1 < n) (ts ++ us) → All (λ t. t.1 < n) ts
front_there n [] us all k d lt = absurd (omega (arith, lt))
front_there n (t ∷ ts) us all zero d lt = all 0 t (omega arith)
front_there n (t ∷ ts) us all (suc k) d lt = front_there n ts us (λ i e less. all (suc i) e (omega (arith, less))) k d (omega (arith, lt))

pub behind_there : (n : ℕ) (ts us : List (ℤ × ℕ)) → All (λ t. t.1 < n) (ts ++ us) → All (λ t. t.1 < n) us
behind_there n [] us all = all
behind_there n (t ∷ ts) us all = behind_there n ts us (λ i e less. all (suc i) e (omega (arith, less)))

-- ---- as the problem grows

pub there_still : (old new : Ground) (ts : List (ℤ × ℕ)) → Grows old new → All (λ t. t.1 < length old.domains) ts → All (λ t. t.1 < length new.domains) ts
there_still old new ts g all k d lt = let more = no_less old new g in let there = all k d lt in omega (arith, more, there)

pub weight_kept : (old new : Ground) (ts : List (ℤ × ℕ)) → Grows old new → All (λ t. t.1 < length old.domains) ts → weight_of ts new.domains ≡ weight_of ts old.domains
unfolding term_weight
weight_kept old new [] g all = refl
weight_kept old new (t ∷ ts) g all =
    let box = box_kept old new t.1 g (all 0 t (omega arith)) in
    let rest = weight_kept old new ts g (λ k d lt. all (suc k) d (omega (arith, lt))) in
    ap (λ (z : Ranges). unsigned_abs t.0 * reach_of z + weight_of ts new.domains) box
    ∙ ap (λ (n : ℕ). unsigned_abs t.0 * reach_of (box_of old.domains t.1) + n) rest
