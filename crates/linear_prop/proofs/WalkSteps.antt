-- One step of the walk over a row's terms.
use Rattle.std.proofs.Common.{◌≡◌, ℕ, ◌+◌, ◌<◌, ◌≤◌, Bool, true, false, cond, List, [], ◌∷◌, ℤ, pos, ◌+ℤ◌, ◌-ℤ◌, ◌≤ℤ◌, ◌<ℤ◌, unsigned_abs, length, get_or, drop, add-one, drop-cons, refl, ap, ◌∙◌, arith}
use Rattle.std.specs.Prelude.{int_lt}
use Rattle.std.specs.Int.{int_max}
use Rattle.std.proofs.lemmas.Int.{ints, clamps}
use Rattle.signed_clause.specs.Clauses.{Boxes}
use Rattle.ground_form.specs.Bounds.{term_weight, weight_of, least_term, greatest_term, least_sum}
use Rattle.ground_form.proofs.SingleValues.{abs_plus}
use Rattle.ground_form.proofs.Weights.{least_sum-drop, least_term_fits, greatest_term_fits}
use Rattle.box_rules.proofs.SumSteps.{weight_left}
use Rattle.linear_prop.specs.Rows.{spread_of, greatest_spread}

pub spread_some : (ts : List (ℤ × ℕ)) (boxes : Boxes) → pos 0 ≤ℤ greatest_spread ts boxes
spread_some [] boxes = omega (arith, ints)
spread_some (t ∷ ts) boxes = let more = spread_some ts boxes in omega (arith, ints, clamps)

spread-drop : (ts : List (ℤ × ℕ)) (boxes : Boxes) (i : ℕ) → i < length ts →
    greatest_spread (drop i ts) boxes ≡ int_max (spread_of (get_or ts i (pos 0, 0)) boxes) (greatest_spread (drop (i + 1) ts) boxes)
spread-drop ts boxes i h = rw (add-one, drop-cons ts i (pos 0, 0)) refl

pub value_step : (ts : List (ℤ × ℕ)) (boxes : Boxes) (i : ℕ) (t : ℤ × ℕ) (before low after whole : ℤ) → i < length ts → t ≡ get_or ts i (pos 0, 0) →
    low ≡ least_term t boxes → after ≡ before +ℤ low → before +ℤ least_sum (drop i ts) boxes ≡ whole → after +ℤ least_sum (drop (i + 1) ts) boxes ≡ whole
value_step ts boxes i t before low after whole h e l a w =
    let s = least_sum-drop ts boxes i h in
    let is : low ≡ least_term (get_or ts i (pos 0, 0)) boxes = l ∙ ap (λ (z : ℤ × ℕ). least_term z boxes) e in
    omega (arith, ints)

pub fits_step : (ts : List (ℤ × ℕ)) (boxes : Boxes) (i : ℕ) (t : ℤ × ℕ) (before low after : ℤ) (whole : ℕ) → i < length ts → t ≡ get_or ts i (pos 0, 0) →
    low ≡ least_term t boxes → after ≡ before +ℤ low → unsigned_abs before + weight_of (drop i ts) boxes ≤ whole → unsigned_abs after + weight_of (drop (i + 1) ts) boxes ≤ whole
fits_step ts boxes i t before low after whole h e l a w =
    let s = weight_left ts boxes i h in
    let is : low ≡ least_term (get_or ts i (pos 0, 0)) boxes = l ∙ ap (λ (z : ℤ × ℕ). least_term z boxes) e in
    let f = least_term_fits (get_or ts i (pos 0, 0)) boxes in
    let g : unsigned_abs low ≤ term_weight (get_or ts i (pos 0, 0)) boxes = rw is f in
    let p = abs_plus before low in
    let q : unsigned_abs after ≤ unsigned_abs before + unsigned_abs low = rw a p in
    omega (arith, s, g, q, w)

pub term_fits : (ts : List (ℤ × ℕ)) (boxes : Boxes) (i : ℕ) (t : ℤ × ℕ) (before : ℤ) (whole : ℕ) → i < length ts → t ≡ get_or ts i (pos 0, 0) →
    unsigned_abs before + weight_of (drop i ts) boxes ≤ whole → term_weight t boxes ≤ whole
term_fits ts boxes i t before whole h e w =
    let s = weight_left ts boxes i h in
    let is : term_weight t boxes ≡ term_weight (get_or ts i (pos 0, 0)) boxes = ap (λ (z : ℤ × ℕ). term_weight z boxes) e in
    omega (arith, s, is, w)

pub low_fits : (t : ℤ × ℕ) (boxes : Boxes) (low : ℤ) (n : ℕ) → low ≡ least_term t boxes → term_weight t boxes ≤ n → unsigned_abs low ≤ n
low_fits t boxes low n e w = let f = least_term_fits t boxes in rw e (omega arith)

pub high_fits : (t : ℤ × ℕ) (boxes : Boxes) (high : ℤ) (n : ℕ) → high ≡ greatest_term t boxes → term_weight t boxes ≤ n → unsigned_abs high ≤ n
high_fits t boxes high n e w = let f = greatest_term_fits t boxes in rw e (omega arith)

pub rise_is : (t : ℤ × ℕ) (boxes : Boxes) (low high : ℤ) → low ≡ least_term t boxes → high ≡ greatest_term t boxes → high -ℤ low ≡ spread_of t boxes
rise_is t boxes low high e f = rw (e, f) refl

pub spread_step : (ts : List (ℤ × ℕ)) (boxes : Boxes) (i : ℕ) (t : ℤ × ℕ) (before x after whole : ℤ) → i < length ts → t ≡ get_or ts i (pos 0, 0) →
    x ≡ spread_of t boxes → after ≡ int_max before x → int_max before (greatest_spread (drop i ts) boxes) ≡ whole → int_max after (greatest_spread (drop (i + 1) ts) boxes) ≡ whole
spread_step ts boxes i t before x after whole h e l a w =
    let s = spread-drop ts boxes i h in
    let is : x ≡ spread_of (get_or ts i (pos 0, 0)) boxes = l ∙ ap (λ (z : ℤ × ℕ). spread_of z boxes) e in
    omega (arith, ints, clamps)

pub some_step : (before x after : ℤ) → after ≡ int_max before x → pos 0 ≤ℤ before → pos 0 ≤ℤ after
some_step before x after e h = omega (arith, ints, clamps)

index_at : (b : Bool) (before x after : ℤ) (i p q : ℕ) → int_lt before x ≡ b → after ≡ int_max before x → q ≡ cond b i p → (pos 0 <ℤ before → p < i) → pos 0 <ℤ after → q < i + 1
index_at true before x after i p q t a e h k = omega arith
index_at false before x after i p q t a e h k = let l : pos 0 <ℤ before = grind (arith, ints) in let m = h l in omega arith

pub index_step : (before x after : ℤ) (i p q : ℕ) → after ≡ int_max before x → q ≡ cond (int_lt before x) i p → (pos 0 <ℤ before → p < i) → pos 0 <ℤ after → q < i + 1
index_step before x after i p q a e h k = index_at (int_lt before x) before x after i p q refl a e h k

widest_at : (b : Bool) (f : ℕ → ℤ) (before x after : ℤ) (i p q : ℕ) → int_lt before x ≡ b → f i ≡ x → after ≡ int_max before x → q ≡ cond b i p → (pos 0 <ℤ before → f p ≡ before) → pos 0 <ℤ after → f q ≡ after
widest_at true f before x after i p q t s a e h k = let same : x ≡ after = grind (arith, ints) in ap f e ∙ s ∙ same
widest_at false f before x after i p q t s a e h k =
    let same : before ≡ after = grind (arith, ints) in let l : pos 0 <ℤ before = grind (arith, ints) in ap f e ∙ h l ∙ same

pub widest_step : (f : ℕ → ℤ) (before x after : ℤ) (i p q : ℕ) → f i ≡ x → after ≡ int_max before x → q ≡ cond (int_lt before x) i p → (pos 0 <ℤ before → f p ≡ before) → pos 0 <ℤ after → f q ≡ after
widest_step f before x after i p q s a e h k = widest_at (int_lt before x) f before x after i p q refl s a e h k
