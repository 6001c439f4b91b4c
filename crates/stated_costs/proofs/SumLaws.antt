-- Sums by the value of an index.
use Rattle.std.proofs.Common.{◌≡◌, ℕ, Bool, true, false, not, ◌&&◌, List, [], ◌∷◌, ℤ, pos, ◌+ℤ◌, ◌*ℤ◌, ◌≤ℤ◌, refl, sym, ap, ◌∙◌, subst, arith, true≢false}
use Rattle.std.specs.Int.{int_max}
use Rattle.std.proofs.lemmas.Int.{ints}
use Rattle.signed_clause.specs.Ranges.{Ranges, has, is_nil}
use Rattle.ground_form.specs.declared.ground.Ground.{Ground}
use Rattle.ground_form.proofs.Products.{mul_greatest}
use Rattle.ground_form.specs.Meaning.{value_of, sum_at}
use Rattle.form_build.specs.declared.form.Linear.{Linear}
use Rattle.form_build.specs.Forms.{linear_at}
use Rattle.form_build.specs.Worlds.{IsWorld, AllHold}
use Rattle.stated_facts.specs.Rows.{Follows}
use Rattle.stated_costs.specs.Sums.{IsMostWhere, IsBelowWhere}
use Rattle.stated_costs.specs.Values.{AreValues}

pub most_by : (c least greatest v low high most c1 c2 l g : ℤ) → c1 ≡ c → c2 ≡ c → l ≡ least → g ≡ greatest → low ≡ (c1 *ℤ l) → high ≡ (c2 *ℤ g) → most ≡ int_max low high → least ≤ℤ v → v ≤ℤ greatest → (c *ℤ v) ≤ℤ most
most_by c least greatest v low high most c1 c2 l g e1 e2 e3 e4 e f m h k =
    let down : low ≡ (c *ℤ least) = e ∙ ap (λ (z : ℤ). z *ℤ l) e1 ∙ ap (λ (z : ℤ). c *ℤ z) e3 in
    let up : high ≡ (c *ℤ greatest) = f ∙ ap (λ (z : ℤ). z *ℤ g) e2 ∙ ap (λ (z : ℤ). c *ℤ z) e4 in
    subst (λ (z : ℤ). (c *ℤ v) ≤ℤ z) (sym (m ∙ ap (λ (z : ℤ). int_max z high) down ∙ ap (λ (z : ℤ). int_max (c *ℤ least) z) up)) (mul_greatest c least greatest v h k)

-- the terms are at most the number and those that are left
abbrev pub IsMostFrom : Ground → ℕ → Ranges → List (ℤ × ℕ) → List (ℤ × ℕ) → ℤ → Type 0
IsMostFrom g x at ts left n =
    (a : List ℤ) → IsWorld g a → AllHold g a → has at (value_of a x) ≡ true → sum_at ts a ≤ℤ (n +ℤ sum_at left a)

pub most_next : (g : Ground) (x : ℕ) (at : Ranges) (ts : List (ℤ × ℕ)) (t : ℤ × ℕ) (rest : List (ℤ × ℕ)) (n r : ℤ) → IsMostFrom g x at ts (t ∷ rest) n →
    ((a : List ℤ) → IsWorld g a → AllHold g a → has at (value_of a x) ≡ true → (n +ℤ (t.0 *ℤ value_of a t.1)) ≤ℤ r) → IsMostFrom g x at ts rest r
most_next g x at ts t rest n r inv bound a w all h =
    let so_far = inv a w all h in
    let one = bound a w all h in
    omega (arith, ints, so_far, one)

-- a sum by its terms
pub below_by : (g : Ground) (x : ℕ) (at : Ranges) (f : Linear) (n sum : ℤ) → IsMostWhere g x at f.terms n → sum ≡ (n +ℤ f.offset) → sum ≤ℤ pos 0 → IsBelowWhere g x at f
below_by g x at f n sum most e h a w all there =
    let terms = most a w all there in
    omega (arith, ints, terms, e, h)

-- the sum is at most 0 but where x has a value that is left
abbrev pub IsBelowBut : Ground → ℕ → Ranges → Linear → Type 0
IsBelowBut g x left f =
    (a : List ℤ) → IsWorld g a → AllHold g a → has left (value_of a x) ≡ false → linear_at f a ≤ℤ pos 0

both_ways : (b : Bool) (P : Type 0) → b ≡ true → b ≡ false → P
both_ways true P h e = absurd (true≢false e)
both_ways false P h e = absurd (true≢false (sym h))

gone : (p q : Bool) (P : Type 0) → (p && not q) ≡ false → (p ≡ false → P) → (q ≡ true → P) → P
gone true true P e f g = g refl
gone true false P e f g = absurd (true≢false e)
gone false q P e f g = f refl

nil_has : (rs : Ranges) (v : ℤ) → is_nil rs ≡ true → has rs v ≡ false
nil_has [] v h = refl
nil_has (r ∷ rs) v h = absurd (true≢false (sym h))

pub below_first : (g : Ground) (x : ℕ) (own : Ranges) (f : Linear) → AreValues g x own → IsBelowBut g x own f
below_first g x own f values a w all e = both_ways (has own (value_of a x)) _ (values a w all) e

pub below_next : (g : Ground) (x : ℕ) (left at less : Ranges) (f : Linear) → IsBelowBut g x left f → IsBelowWhere g x at f → ((v : ℤ) → has less v ≡ (has left v && not (has at v))) → IsBelowBut g x less f
below_next g x left at less f but there is a w all e =
    gone (has left (value_of a x)) (has at (value_of a x)) _ (sym (is (value_of a x)) ∙ e) (but a w all) (there a w all)

pub below_last : (g : Ground) (x : ℕ) (left : Ranges) (f : Linear) → IsBelowBut g x left f → is_nil left ≡ true → Follows g f
below_last g x left f but nil a w all = but a w all (nil_has left (value_of a x) nil)
