-- The walks over pairs of members.
use Rattle.std.proofs.Common.{◌≡◌, ℕ, ◌+◌, ◌-◌, ◌<◌, ◌≤◌, Bool, true, false, not, ◌&&◌, ◌||◌, List, ◌∷◌, take, drop, get_or, ℤ, length, refl, sym, ap, ◌∙◌}
use Rattle.std.specs.List.{list_any}
use Rattle.std.proofs.lemmas.List.{take_all, drop_all, take_rest}
use Rattle.class_table.proofs.ListLaws.{drop_next}
use Rattle.std.proofs.lemmas.List.Folds.{list_any_more}
use Rattle.pairwise_forms.specs.declared.members.Keyed.{Keyed}
use Rattle.pairwise_forms.specs.Clashing.{clash_at, some_clash}

-- ---- two variables

-- ---- one pair

-- what none of these is, is that all three hold
pub three_is : (s t u d d' d'' r : Bool) → d ≡ (not s || false) → d' ≡ (not t || d) → d'' ≡ (not u || d') → r ≡ not d'' → r ≡ ((s && t) && u)
three_is s t u d d' d'' r e f g h = h ∙ ap not (g ∙ ap (λ (b : Bool). not u || b) (f ∙ ap (λ (b : Bool). not t || b) e)) ∙ by s t u
  where
    by : (s t u : Bool) → not (not u || (not t || (not s || false))) ≡ ((s && t) && u)
    by true true true = refl
    by true true false = refl
    by true false true = refl
    by true false false = refl
    by false true true = refl
    by false true false = refl
    by false false true = refl
    by false false false = refl

-- where one truth is that none of these is, that it doesn't hold is that some is
pub row_is : (some d r n d' : Bool) → r ≡ (false || some) → n ≡ not r → d' ≡ (not n || d) → d' ≡ (d || some)
row_is some d r n d' e f g = g ∙ ap (λ (b : Bool). not b || d) (f ∙ ap not e) ∙ by some d
  where
    by : (some d : Bool) → (not (not (false || some)) || d) ≡ (d || some)
    by true true = refl
    by true false = refl
    by false true = refl
    by false false = refl

and_none : (b : Bool) → (b && false) ≡ false
and_none true = refl
and_none false = refl

-- ---- the walks

pub or_group : (p q r : Bool) → ((p || q) || r) ≡ (p || (q || r))
or_group true q r = refl
or_group false q r = refl

-- one member more that may clash with this one
pub clashes_step : (e : Keyed) (fs : List Keyed) (k : ℕ) (f : Keyed) (a : List ℤ) (d old new : Bool) → k < length fs → f ≡ get_or fs k f → old ≡ (d || list_any (λ o. clash_at e o a) (take k fs)) → new ≡ (old || clash_at e f a) → new ≡ (d || list_any (λ o. clash_at e o a) (take (k + 1) fs))
clashes_step e fs k f a d old new lt is before after =
    after
    ∙ ap (λ (b : Bool). b || clash_at e f a) before
    ∙ or_group d (list_any (λ o. clash_at e o a) (take k fs)) (clash_at e f a)
    ∙ ap (λ (o : Keyed). d || (list_any (λ q. clash_at e q a) (take k fs) || clash_at e o a)) is
    ∙ ap (λ (b : Bool). d || b) (sym (list_any_more (λ o. clash_at e o a) fs k f lt))

pub or_none : (b : Bool) → (b || false) ≡ b
or_none true = refl
or_none false = refl

pub clashes_all : (e : Keyed) (fs : List Keyed) (k : ℕ) (a : List ℤ) (d v : Bool) → length fs ≤ k → v ≡ (d || list_any (λ o. clash_at e o a) (take k fs)) → v ≡ (d || list_any (λ o. clash_at e o a) fs)
clashes_all e fs k a d v le h = h ∙ ap (λ (z : List Keyed). d || list_any (λ o. clash_at e o a) z) (take_all k fs le)

-- what one member more leaves for the rest
pub rest_step : (es : List Keyed) (k : ℕ) (e : Keyed) (a : List ℤ) (all old new : Bool) → k < length es → e ≡ get_or es k e → (old || some_clash (drop k es) a) ≡ all → new ≡ (old || list_any (λ f. clash_at e f a) (take (length es - (k + 1)) (drop (k + 1) es))) → (new || some_clash (drop (k + 1) es) a) ≡ all
rest_step es k e a all old new lt is before after =
    let others = drop (k + 1) es in
    let split : drop k es ≡ e ∷ others = drop_next es k e lt is in
    ap (λ (b : Bool). b || some_clash others a) (after ∙ ap (λ (z : List Keyed). old || list_any (λ f. clash_at e f a) z) (take_rest es (k + 1)))
    ∙ or_group old (list_any (λ f. clash_at e f a) others) (some_clash others a)
    ∙ ap (λ (z : List Keyed). old || some_clash z a) (sym split)
    ∙ before

pub rest_done : (es : List Keyed) (k : ℕ) (a : List ℤ) (all d t : Bool) → length es ≤ k → (d || some_clash (drop k es) a) ≡ all → t ≡ not d → t ≡ not all
rest_done es k a all d t le before after =
    after ∙ ap not (sym (or_none d) ∙ ap (λ (z : List Keyed). d || some_clash z a) (sym (drop_all k es le)) ∙ before)
