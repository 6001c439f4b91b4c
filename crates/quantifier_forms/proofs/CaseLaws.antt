-- `forall` and `exists` by the cases among the parts, and the steps of the walks that look for them.
use Rattle.std.proofs.Common.{◌≡◌, ℕ, ◌+◌, ◌<◌, ◌≤◌, Bool, true, false, not, ◌&&◌, ◌||◌, cond, List, [], ◌∷◌, ◌++◌, take, length, get_or, ℤ, refl, sym, ap, ◌∙◌}
use Rattle.std.specs.List.{list_all, list_any}
use Rattle.std.proofs.lemmas.List.{take_all, take_more, map-append}
use Rattle.std.proofs.lemmas.List.Folds.{list_all-append, list_any_more}
use Rattle.conf_syntax.specs.declared.tree.QuantKind.TheVariants as kind
use Rattle.form_build.specs.declared.form.Truth.{Truth as ATruth}
use Rattle.form_build.specs.Forms.{truth_at}
use Rattle.form_truths.specs.Tests.{wanted}
use Rattle.conf_eval.specs.declared.value.Value.{Value}
use Rattle.conf_eval.specs.declared.value.Value.TheVariants.{Truth}
use Rattle.conf_eval.specs.Meaning.{truth_of, all_true}
use Rattle.expr_forms.specs.declared.form.Form.{Form}
use Rattle.expr_forms.specs.FormValues.{form_value, truth_part}
use Rattle.expr_forms.proofs.PartValues.{truth_part_at}
use Rattle.quantifier_forms.specs.declared.part.Part.{Part}
use Rattle.quantifier_forms.specs.PartValues.{form_values, are_true, body_values, kept_values, over_values, is_case}
use Rattle.quantifier_forms.specs.Quantified.{IsOnlyBody}

-- ---- quantifiers by their cases

any_step : (b : Bool) (vs : List Value) (vss : List (List Value)) (r : Bool) → list_any all_true vss ≡ r → list_any all_true (cond b (vs ∷ vss) vss) ≡ ((b && wanted true (all_true vs)) || r)
any_step true vs vss r e = ap (λ (z : Bool). all_true vs || z) e
any_step false vs vss r e = e

any_case : (ps : List Part) (a : List ℤ) → list_any all_true (kept_values ps a) ≡ list_any (λ p. is_case true p a) ps
any_case [] a = refl
any_case (p ∷ ps) a = any_step (truth_at p.kept a) (body_values p a) (kept_values ps a) (list_any (λ q. is_case true q a) ps) (any_case ps a)

both_hold : (t r : Bool) → (t && not r) ≡ not (not t || r)
both_hold true r = refl
both_hold false r = refl

all_step : (b : Bool) (vs : List Value) (vss : List (List Value)) (r : Bool) → list_all all_true vss ≡ not r → list_all all_true (cond b (vs ∷ vss) vss) ≡ not ((b && wanted false (all_true vs)) || r)
all_step true vs vss r e = ap (λ (z : Bool). all_true vs && z) e ∙ both_hold (all_true vs) r
all_step false vs vss r e = e

no_case : (ps : List Part) (a : List ℤ) → list_all all_true (kept_values ps a) ≡ not (list_any (λ p. is_case false p a) ps)
no_case [] a = refl
no_case (p ∷ ps) a = all_step (truth_at p.kept a) (body_values p a) (kept_values ps a) (list_any (λ q. is_case false q a) ps) (no_case ps a)

pub exists_is : (ps : List Part) (a : List ℤ) (t : Bool) → t ≡ list_any (λ p. is_case true p a) ps → Truth t ≡ over_values kind.Exists (kept_values ps a)
exists_is ps a t e = ap (λ (b : Bool). Truth b) (e ∙ sym (any_case ps a))

pub forall_is : (ps : List Part) (a : List ℤ) (t : Bool) → t ≡ not (list_any (λ p. is_case false p a) ps) → Truth t ≡ over_values kind.Forall (kept_values ps a)
forall_is ps a t e = ap (λ (b : Bool). Truth b) (e ∙ sym (no_case ps a))

-- ---- walks over the bodies

one_true : (b : Bool) → (b && true) ≡ b
one_true true = refl
one_true false = refl

-- the truth of one body more
true_more : (fs : List Form) (k : ℕ) (f : Form) (a : List ℤ) → k < length fs → f ≡ get_or fs k f → are_true (take (k + 1) fs) a ≡ (are_true (take k fs) a && truth_of (form_value f a))
true_more fs k f a lt e =
    ap (λ (gs : List Form). are_true gs a) (take_more fs k f lt ∙ ap (λ (g : Form). take k fs ++ g ∷ []) (sym e))
    ∙ ap (list_all truth_of) (map-append (λ (g : Form). form_value g a) (take k fs) (f ∷ []))
    ∙ list_all-append truth_of (form_values (take k fs) a) (form_value f a ∷ [])
    ∙ ap (λ (b : Bool). are_true (take k fs) a && b) (one_true (truth_of (form_value f a)))

fails_more : (d t b : Bool) → (not b || (d || not t)) ≡ (d || not (t && b))
fails_more true true true = refl
fails_more true true false = refl
fails_more true false b = elim b as (λ c. (not c || true) ≡ true) [ true ↦ refl | false ↦ refl ]
fails_more false true true = refl
fails_more false true false = refl
fails_more false false true = refl
fails_more false false false = refl

-- one body more that may not hold
pub failing_step : (fs : List Form) (k : ℕ) (f : Form) (a : List ℤ) (t : ATruth) (d old new : Bool) → k < length fs → f ≡ get_or fs k f → t ≡ truth_part f → old ≡ (d || not (are_true (take k fs) a)) → new ≡ (not (truth_at t a) || old) → new ≡ (d || not (are_true (take (k + 1) fs) a))
failing_step fs k f a t d old new lt e is before after =
    after
    ∙ ap (λ (b : Bool). not b || old) (ap (λ (u : ATruth). truth_at u a) is ∙ truth_part_at f a)
    ∙ ap (λ (b : Bool). not (truth_of (form_value f a)) || b) before
    ∙ fails_more d (are_true (take k fs) a) (truth_of (form_value f a))
    ∙ ap (λ (b : Bool). d || not b) (sym (true_more fs k f a lt e))

faults_more : (d kept t b : Bool) → ((kept && not b) || (d || (kept && not t))) ≡ (d || (kept && not (t && b)))
faults_more d true t b = fails_more d t b
faults_more true false t b = refl
faults_more false false t b = refl

-- one body more that may not hold where the part is kept
pub faults_step : (fs : List Form) (k : ℕ) (f : Form) (a : List ℤ) (kept d old new : Bool) → k < length fs → f ≡ get_or fs k f → old ≡ (d || (kept && not (are_true (take k fs) a))) → new ≡ ((kept && not (truth_of (form_value f a))) || old) → new ≡ (d || (kept && not (are_true (take (k + 1) fs) a)))
faults_step fs k f a kept d old new lt e before after =
    after
    ∙ ap (λ (b : Bool). (kept && not (truth_of (form_value f a))) || b) before
    ∙ faults_more d kept (are_true (take k fs) a) (truth_of (form_value f a))
    ∙ ap (λ (b : Bool). d || (kept && not b)) (sym (true_more fs k f a lt e))

-- ---- one part

-- what none of these is, is that the part is kept and its bodies hold
pub holds_is : (kept all d d' t : Bool) → d ≡ (not kept || false) → d' ≡ (d || not all) → t ≡ not d' → t ≡ (kept && all)
holds_is kept all d d' t e f g = g ∙ ap not (f ∙ ap (λ (b : Bool). b || not all) e) ∙ by kept all
  where
    by : (kept all : Bool) → not ((not kept || false) || not all) ≡ (kept && all)
    by true true = refl
    by true false = refl
    by false all = refl

pub fault_is : (kept body d d' t : Bool) → d ≡ (not kept || false) → d' ≡ (body || d) → t ≡ not d' → t ≡ (kept && not body)
fault_is kept body d d' t e f g = g ∙ ap not (f ∙ ap (λ (b : Bool). body || b) e) ∙ by kept body
  where
    by : (kept body : Bool) → not (body || (not kept || false)) ≡ (kept && not body)
    by true true = refl
    by true false = refl
    by false true = refl
    by false false = refl

-- the truth of the one body of a part that is kept in any case
pub only_is : (f : Form) (p : Part) (a : List ℤ) (t : ATruth) → IsOnlyBody f p → t ≡ truth_part f → truth_at t a ≡ is_case true p a
only_is f p a t h e =
    ap (λ (u : ATruth). truth_at u a) e
    ∙ truth_part_at f a
    ∙ sym (one_true (truth_of (form_value f a)))
    ∙ sym (ap (λ (fs : List Form). are_true fs a) h.body)
    ∙ sym (ap (λ (u : ATruth). truth_at u a && are_true p.bodies.items a) h.kept)

-- ---- the walk over the parts

or_group : (p q r : Bool) → ((p || q) || r) ≡ (p || (q || r))
or_group true q r = refl
or_group false q r = refl

pub cases_step : (want : Bool) (ps : List Part) (k : ℕ) (p : Part) (a : List ℤ) (old new : Bool) → k < length ps → p ≡ get_or ps k p → old ≡ list_any (λ q. is_case want q a) (take k ps) → new ≡ (old || is_case want p a) → new ≡ list_any (λ q. is_case want q a) (take (k + 1) ps)
cases_step want ps k p a old new lt e before after =
    after
    ∙ ap (λ (b : Bool). b || is_case want p a) before
    ∙ ap (λ (q : Part). list_any (λ o. is_case want o a) (take k ps) || is_case want q a) e
    ∙ sym (list_any_more (λ q. is_case want q a) ps k p lt)

-- ---- where a walk begins and ends

pub none_yet : (d kept : Bool) → d ≡ (d || (kept && false))
none_yet true kept = refl
none_yet false true = refl
none_yet false false = refl

pub cases_all : (want : Bool) (ps : List Part) (k : ℕ) (a : List ℤ) (t : Bool) → length ps ≤ k → t ≡ list_any (λ p. is_case want p a) (take k ps) → t ≡ list_any (λ p. is_case want p a) ps
cases_all want ps k a t le e = e ∙ ap (list_any (λ p. is_case want p a)) (take_all k ps le)
