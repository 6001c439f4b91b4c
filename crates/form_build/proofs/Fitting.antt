-- A sum that became a variable.
use Rattle.std.proofs.Common.{◌≡◌, ℕ, suc, zero, ◌^◌, ◌<◌, ◌≤◌, max, Bool, false, cond, List, [], ◌∷◌, ◌++◌, ℤ, pos, ◌≤ℤ◌, ◌<ℤ◌, neg_ℤ, unsigned_abs, length, length-append, refl, sym, ap, ◌∙◌, subst, arith}
use Rattle.std.specs.Prelude.{nat_le}
use Rattle.std.proofs.lemmas.Int.{ints}
use Rattle.std.proofs.lemmas.Bool.Decides.{nat_tests}
use Rattle.signed_clause.specs.Ranges.{Ranges, is_nil}
use Rattle.signed_clause.specs.Clauses.{Boxes, box_of}
use Rattle.ground_form.specs.declared.con.Con.TheVariants.{LinDef}
use Rattle.ground_form.specs.declared.ground.Ground.{Ground}
use Rattle.ground_form.specs.Bounds.{low_of, high_of, reach_of}
use Rattle.ground_build.specs.Growing.{IsDefined}
use Rattle.ground_build.specs.NewDomains.{some_empty, linear_domain}
use Rattle.ground_build.proofs.Sums.{sums_ordered}
use Rattle.form_build.specs.declared.form.Linear.{Linear}
use Rattle.form_build.specs.Forms.{linear_at}
use Rattle.form_build.specs.Worlds.{IsVariableOf}
use Rattle.form_build.specs.Sums.{IsOpen, AreTerms, linear_weight, least_linear, greatest_linear, LiesFrom, IsSum, IsVariable}
use Rattle.form_build.proofs.Singles.{variable_linear, variable_lies, heavy_open}

open_some : (box : Ranges) → IsOpen box → is_nil box ≡ false
open_some [] h = absurd (omega (arith, ints, h))
open_some (r ∷ rs) h = refl

pub none_empty : (boxes : Boxes) (n : ℕ) (ts : List (ℤ × ℕ)) → AreTerms boxes n ts → some_empty ts boxes ≡ false
none_empty boxes n [] h = refl
none_empty boxes n (t ∷ ts) h = rw (open_some (box_of boxes t.1) h.3) (none_empty boxes (suc t.1) ts h.4)

pub box_last : (ds : Boxes) (d : Ranges) (x : ℕ) → x ≡ length ds → box_of (ds ++ d ∷ []) x ≡ d
box_last [] d zero e = refl
box_last [] d (suc x) e = absurd (omega (arith, e))
box_last (b ∷ ds) d zero e = absurd (omega (arith, e))
box_last (b ∷ ds) d (suc x) e = box_last ds d x (omega (arith, e))

-- the box of a variable that is this sum
pub box_made : (f : Linear) (old new : Ground) (x : ℕ) → AreTerms old.domains 0 f.terms → IsDefined old new x (linear_domain f.terms f.offset old.domains) (LinDef x f.terms f.offset) → box_of new.domains x ≡ (least_linear f old.domains, greatest_linear f old.domains) ∷ []
box_made f old new x h d =
    ap (λ (g : Ground). box_of g.domains x) d.grown
    ∙ box_last old.domains (linear_domain f.terms f.offset old.domains) x d.variable
    ∙ ap (λ (b : Bool). cond b [] ((least_linear f old.domains, greatest_linear f old.domains) ∷ [])) (none_empty old.domains 0 f.terms h)

pub there_made : (f : Linear) (old new : Ground) (x : ℕ) → IsDefined old new x (linear_domain f.terms f.offset old.domains) (LinDef x f.terms f.offset) → x < length new.domains
there_made f old new x d = subst (λ (g : Ground). x < length g.domains) (sym d.grown) (omega (arith, d.variable, length-append old.domains (linear_domain f.terms f.offset old.domains ∷ [])))

within_reach : (v w : ℤ) → unsigned_abs v ≤ 2 ^ 50 → unsigned_abs w ≤ 2 ^ 50 → max (unsigned_abs v) (unsigned_abs w) ≤ 2 ^ 58
within_reach v w h k = omega (arith, h, k)

small_abs : (v : ℤ) → neg_ℤ (pos (2 ^ 50)) ≤ℤ v → v ≤ℤ pos (2 ^ 50) → unsigned_abs v ≤ 2 ^ 50
small_abs v h k = omega (arith, ints, h, k)

-- a variable over an interval that is narrow
pub interval_sum : (x : ℕ) (r : Linear) (boxes : Boxes) (low high : ℤ) → IsVariable x r → x < length boxes → low_of (box_of boxes x) ≡ low → high_of (box_of boxes x) ≡ high → low <ℤ high → unsigned_abs low ≤ 2 ^ 50 → unsigned_abs high ≤ 2 ^ 50 → IsSum boxes low high r
interval_sum x r boxes low high is there below above wide small small' =
    let wide_box : IsOpen (box_of boxes x) = omega (arith, ints, below, above, wide) in
    let linear = variable_linear x r boxes is there wide_box in
    let lies = variable_lies x r boxes is (omega (arith, ints, wide_box)) in
    let left = ap unsigned_abs below in
    let right = ap unsigned_abs above in
    let fits = within_reach (low_of (box_of boxes x)) (high_of (box_of boxes x)) (omega (arith, left, small)) (omega (arith, right, small')) in
    record {
      linear = record { terms = linear.terms; bounded = omega (arith, linear.bounded, fits) };
      lies = record { low_is = omega (arith, ints, lies.low_is, below); high_is = omega (arith, ints, lies.high_is, above) };
    }

heavier : (m n : ℕ) → nat_le m n ≡ false → n < m
heavier m n e = grind (arith, nat_tests)

-- a heavy sum within narrow bounds, as a variable
pub fit_sum : (f r : Linear) (boxes : Boxes) (new : Ground) (x : ℕ) → IsVariableOf new x (least_linear f boxes) (greatest_linear f boxes) (λ a. linear_at f a) → IsVariable x r → AreTerms boxes 0 f.terms → LiesFrom (neg_ℤ (pos (2 ^ 50))) (pos (2 ^ 50)) boxes f → nat_le (linear_weight f boxes) (2 ^ 58) ≡ false → IsSum new.domains (least_linear f boxes) (greatest_linear f boxes) r
fit_sum f r boxes new x v is terms lies heavy =
    let order = sums_ordered f.terms boxes in
    let low = small_abs (least_linear f boxes) lies.low_is (omega (arith, ints, lies.high_is, order)) in
    let high = small_abs (greatest_linear f boxes) (omega (arith, ints, lies.low_is, order)) lies.high_is in
    let wide = heavy_open f.terms f.offset boxes terms (heavier (linear_weight f boxes) (2 ^ 58) heavy) low in
    interval_sum x r new.domains (least_linear f boxes) (greatest_linear f boxes) is v.exists v.low v.high (omega (arith, ints, wide)) low high
