-- `sum` and `count` by what each part adds.
use Rattle.std.proofs.Common.{◌≡◌, ℕ, ◌+◌, ◌<◌, Bool, true, false, ◌&&◌, cond, List, [], ◌∷◌, ◌++◌, map, take, length, get_or, ℤ, pos, ◌+ℤ◌, refl, sym, ap, ◌∙◌, arith}
use Rattle.std.specs.Prelude.{count_by}
use Rattle.std.proofs.lemmas.Int.{ints}
use Rattle.std.proofs.lemmas.List.{take_more, map-append}
use Rattle.std.proofs.lemmas.List.Sums.{sum_by-cons}
use Rattle.conf_syntax.specs.declared.tree.QuantKind.{QuantKind}
use Rattle.conf_syntax.specs.declared.tree.QuantKind.TheVariants as kind
use Rattle.ground_form.specs.Meaning.{bit}
use Rattle.form_build.specs.declared.form.Linear.{Linear}
use Rattle.form_build.specs.Forms.{linear_at, truth_at}
use Rattle.conf_eval.specs.declared.value.Value.{Value}
use Rattle.conf_eval.specs.declared.value.Value.TheVariants.{Int}
use Rattle.conf_eval.specs.Meaning.{int_of, first_of, total, all_true}
use Rattle.expr_forms.specs.declared.form.Form.{Form}
use Rattle.expr_forms.specs.FormValues.{nought}
use Rattle.expr_forms.proofs.PartValues.{number_part_at}
use Rattle.quantifier_forms.specs.declared.part.Part.{Part}
use Rattle.quantifier_forms.specs.PartValues.{form_values, body_values, kept_values, over_values, is_case, share, first_number}
use Rattle.quantifier_forms.specs.Quantified.{adds_up}

-- ---- a quantifier by its shares

sum_step : (b : Bool) (vs : List Value) (vss : List (List Value)) (r : ℤ) → total (map (λ ws. int_of (first_of ws)) vss) ≡ r → total (map (λ ws. int_of (first_of ws)) (cond b (vs ∷ vss) vss)) ≡ (cond b (int_of (first_of vs)) (pos 0) +ℤ r)
sum_step true vs vss r e = ap (λ (z : ℤ). int_of (first_of vs) +ℤ z) e
sum_step false vs vss r e = omega (arith, ints, e)

sum_shares : (ps : List Part) (a : List ℤ) → total (map (λ vs. int_of (first_of vs)) (kept_values ps a)) ≡ total (map (λ p. share kind.Sum p a) ps)
sum_shares [] a = refl
sum_shares (p ∷ ps) a = sum_step (truth_at p.kept a) (body_values p a) (kept_values ps a) (total (map (λ q. share kind.Sum q a) ps)) (sum_shares ps a)

count_one : (b : Bool) (n : ℕ) (r : ℤ) → pos n ≡ r → pos (cond b 1 0 + n) ≡ (bit b +ℤ r)
count_one true n r e = omega (arith, ints, e)
count_one false n r e = omega (arith, ints, e)

count_step : (b : Bool) (vs : List Value) (vss : List (List Value)) (r : ℤ) → pos (count_by all_true vss) ≡ r → pos (count_by all_true (cond b (vs ∷ vss) vss)) ≡ (bit (b && all_true vs) +ℤ r)
count_step true vs vss r e = ap pos (sum_by-cons (λ ws. cond (all_true ws) 1 0) vs vss) ∙ count_one (all_true vs) (count_by all_true vss) r e
count_step false vs vss r e = omega (arith, ints, e)

count_shares : (ps : List Part) (a : List ℤ) → pos (count_by all_true (kept_values ps a)) ≡ total (map (λ p. share kind.Count p a) ps)
count_shares [] a = refl
count_shares (p ∷ ps) a = count_step (truth_at p.kept a) (body_values p a) (kept_values ps a) (total (map (λ q. share kind.Count q a) ps)) (count_shares ps a)

pub over_shares : (q : QuantKind) (ps : List Part) (a : List ℤ) → adds_up q ≡ true → over_values q (kept_values ps a) ≡ Int (total (map (λ p. share q p a) ps))
over_shares kind.Sum ps a h = ap (λ (v : ℤ). Int v) (sum_shares ps a)
over_shares kind.Count ps a h = ap (λ (v : ℤ). Int v) (count_shares ps a)
over_shares kind.Forall ps a h = absurd cc
over_shares kind.Exists ps a h = absurd cc
over_shares kind.AllDifferent ps a h = absurd cc
over_shares kind.Pack ps a h = absurd cc

-- ---- one part

first_at : (fs : List Form) (a : List ℤ) → linear_at (first_number fs) a ≡ int_of (first_of (form_values fs a))
first_at [] a = omega (arith, ints)
first_at (f ∷ fs) a = number_part_at f a

-- the first body where the part is kept
pub summed_is : (p : Part) (a : List ℤ) (f : Linear) (v : ℤ) → f ≡ first_number p.bodies.items → v ≡ cond (truth_at p.kept a) (linear_at f a) (pos 0) → v ≡ share kind.Sum p a
summed_is p a f v e h =
    h ∙ ap (λ (n : ℤ). cond (truth_at p.kept a) n (pos 0)) (ap (λ (g : Linear). linear_at g a) e ∙ first_at p.bodies.items a)

no_sum : (b : Bool) → pos 0 ≡ cond b (pos 0) (pos 0)
no_sum true = refl
no_sum false = refl

-- where the first body is no number
pub none_is : (p : Part) (a : List ℤ) (v : ℤ) → first_number p.bodies.items ≡ nought → v ≡ pos 0 → v ≡ share kind.Sum p a
none_is p a v e h =
    let zero_at : linear_at nought a ≡ pos 0 = omega (arith, ints) in
    h ∙ no_sum (truth_at p.kept a) ∙ ap (λ (n : ℤ). cond (truth_at p.kept a) n (pos 0)) (sym zero_at ∙ sym (ap (λ (g : Linear). linear_at g a) e) ∙ first_at p.bodies.items a)

pub counted_is : (p : Part) (a : List ℤ) (t : Bool) (one v : ℤ) → t ≡ is_case true p a → one ≡ pos 1 → v ≡ cond t one (pos 0) → v ≡ share kind.Count p a
counted_is p a t one v e is h = h ∙ ap (λ (n : ℤ). cond t n (pos 0)) is ∙ ap bit e

-- ---- the walk over the parts

pub shares_step : (q : QuantKind) (ps : List Part) (k : ℕ) (p : Part) (a : List ℤ) (fs gs : List Linear) (f : Linear) → k < length ps → p ≡ get_or ps k p → gs ≡ fs ++ f ∷ [] → map (λ g. linear_at g a) fs ≡ map (λ o. share q o a) (take k ps) → linear_at f a ≡ share q p a → map (λ g. linear_at g a) gs ≡ map (λ o. share q o a) (take (k + 1) ps)
shares_step q ps k p a fs gs f lt e made before is =
    ap (map (λ g. linear_at g a)) made
    ∙ map-append (λ (g : Linear). linear_at g a) fs (f ∷ [])
    ∙ ap (λ (vs : List ℤ). vs ++ linear_at f a ∷ []) before
    ∙ ap (λ (v : ℤ). map (λ o. share q o a) (take k ps) ++ v ∷ []) is
    ∙ sym (map-append (λ (o : Part). share q o a) (take k ps) (p ∷ []))
    ∙ ap (map (λ o. share q o a)) (ap (λ (o : Part). take k ps ++ o ∷ []) e ∙ sym (take_more ps k p lt))
