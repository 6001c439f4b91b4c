-- Statements that members don't clash, one after another.
use Rattle.std.proofs.Common.{◌≡◌, ℕ, zero, suc, ◌+◌, ◌-◌, ◌<◌, ◌≤◌, Bool, true, false, not, ◌&&◌, ◌||◌, List, [], ◌∷◌, take, drop, get_or, ℤ, length, refl, sym, ap, ◌∙◌, arith}
use Rattle.std.specs.List.{list_any}
use Rattle.std.proofs.lemmas.List.{take_all, take_rest}
use Rattle.pairwise_forms.specs.declared.members.Keyed.{Keyed}
use Rattle.pairwise_forms.specs.Clashing.{clash_at, some_clash}
use Rattle.pairwise_forms.proofs.ClashSteps.{or_none, or_group, clashes_step}

not_both : (p q : Bool) → (not p && not q) ≡ not (p || q)
not_both true q = refl
not_both false q = refl

-- one more that this member doesn't clash with
pub apart_more : (e : Keyed) (fs : List Keyed) (k : ℕ) (f : Keyed) (a : List ℤ) → k < length fs → f ≡ get_or fs k f → (not (list_any (λ o. clash_at e o a) (take k fs)) && not (clash_at e f a)) ≡ not (list_any (λ o. clash_at e o a) (take (k + 1) fs))
apart_more e fs k f a lt is =
    let before = list_any (λ o. clash_at e o a) (take k fs) in
    not_both before (clash_at e f a) ∙ ap not (clashes_step e fs k f a false before (before || clash_at e f a) lt is refl refl)

pub apart_all : (e : Keyed) (fs : List Keyed) (k : ℕ) (a : List ℤ) → length fs ≤ k → not (list_any (λ o. clash_at e o a) (take k fs)) ≡ not (list_any (λ o. clash_at e o a) fs)
apart_all e fs k a le = ap (λ (z : List Keyed). not (list_any (λ o. clash_at e o a) z)) (take_all k fs le)

-- some of the first members clashes with one behind it
abbrev pub clash_upto : ℕ → List Keyed → List ℤ → Bool
clash_upto zero es a = false
clash_upto (suc i) [] a = false
clash_upto (suc i) (e ∷ es) a = list_any (λ f. clash_at e f a) es || clash_upto i es a

upto_next : (i : ℕ) (es : List Keyed) (e : Keyed) (a : List ℤ) → i < length es → e ≡ get_or es i e → clash_upto (suc i) es a ≡ (clash_upto i es a || list_any (λ f. clash_at e f a) (drop (suc i) es))
upto_next i [] e a lt is = absurd (omega (arith, lt))
upto_next zero (x ∷ es) e a lt is = or_none (list_any (λ f. clash_at x f a) es) ∙ ap (λ (o : Keyed). list_any (λ f. clash_at o f a) es) (sym is)
upto_next (suc i) (x ∷ es) e a lt is =
    ap (λ b. list_any (λ f. clash_at x f a) es || b) (upto_next i es e a (omega (arith, lt)) is)
    ∙ sym (or_group (list_any (λ f. clash_at x f a) es) (clash_upto i es a) (list_any (λ f. clash_at e f a) (drop (suc i) es)))

upto_end : (i : ℕ) (es : List Keyed) (a : List ℤ) → length es ≤ i → clash_upto i es a ≡ some_clash es a
upto_end zero [] a le = refl
upto_end (suc i) [] a le = refl
upto_end zero (x ∷ es) a le = absurd (omega (arith, le))
upto_end (suc i) (x ∷ es) a le = ap (λ b. list_any (λ f. clash_at x f a) es || b) (upto_end i es a (omega (arith, le)))

-- one member more that clashes with none behind it
pub upto_more : (es : List Keyed) (k : ℕ) (e : Keyed) (a : List ℤ) → k < length es → e ≡ get_or es k e → (not (clash_upto k es a) && not (list_any (λ f. clash_at e f a) (take (length es - (k + 1)) (drop (k + 1) es)))) ≡ not (clash_upto (k + 1) es a)
upto_more es k e a lt is =
    let next : k + 1 ≡ suc k = omega arith in
    not_both (clash_upto k es a) (list_any (λ f. clash_at e f a) (take (length es - (k + 1)) (drop (k + 1) es)))
    ∙ ap not (
    ap (λ (z : List Keyed). clash_upto k es a || list_any (λ f. clash_at e f a) z) (take_rest es (k + 1))
    ∙ ap (λ n. clash_upto k es a || list_any (λ f. clash_at e f a) (drop n es)) next
    ∙ sym (upto_next k es e a lt is)
    ∙ ap (λ n. clash_upto n es a) (sym next))

pub upto_all : (es : List Keyed) (k : ℕ) (a : List ℤ) → length es ≤ k → not (clash_upto k es a) ≡ not (some_clash es a)
upto_all es k a le = ap not (upto_end k es a le)
