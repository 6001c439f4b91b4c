-- The clauses of a Bound line, one by one.
use Rattle.std.proofs.Common.{◌≡◌, ℕ, zero, suc, ◌+◌, ◌<◌, true, false, not, ◌||◌, get_or, add-one, List, [], ◌∷◌, ◌++◌, ℤ, length, drop, refl, sym, ap, ◌∙◌, arith, subst, IsTrue, append_assoc}
use Rattle.std.proofs.lemmas.Bool.{and_from, le-leb}
use Rattle.signed_clause.specs.Ranges.{Ranges, IsValid, is_nil}
use Rattle.signed_clause.specs.Clauses.{Boxes, Literals, IsClause, IsClauseFrom, clause_from, is_clause}
use Rattle.ground_form.specs.declared.ground.GroundGoal.{GroundGoal}
use Rattle.log_form.specs.Acceptance.{has_empty, with_literal, bounds_from, better_values, as_good_values}
use Rattle.log_form.proofs.WithForm.{with_form}

pub with_nothing : (x : ℕ) (s : Ranges) (c : Literals) → is_nil s ≡ true → with_literal x s c ≡ c
with_nothing x s [] h = rw h refl
with_nothing x s (l ∷ c) h = rw h refl

form_of : (n : ℕ) (c : Literals) → IsClauseFrom n c → clause_from n c ≡ true
form_of n [] h = refl
form_of n (l ∷ c) h = and_from _ _ (le-leb n l.0 h.0) (and_from _ _ (ap not h.1) (form_of (suc l.0) c h.3))

pub with_is_clause : (x : ℕ) (s : Ranges) (c d e : Literals) → IsValid s → IsClause c → d ≡ c → e ≡ with_literal x s d → IsTrue (is_clause e)
with_is_clause x s c d e v f same made =
    form_of 0 e (subst IsClause (sym (made ∙ ap (with_literal x s) same)) (with_form 0 x s c (omega arith) v f))

-- the clause of the last goal
pub bounds_last : (ds : Boxes) (a : List ℤ) (e : Literals) (goals : List GroundGoal) (k : ℕ) (d : GroundGoal) → k + 1 ≡ length goals →
    bounds_from ds a e (drop k goals) ≡ with_literal (get_or goals k d).var (better_values ds a (get_or goals k d)) e ∷ []
bounds_last ds a e [] k d h = absurd (omega arith)
bounds_last ds a e (goal ∷ []) zero d h = refl
bounds_last ds a e (goal ∷ next ∷ goals) zero d h = absurd (omega arith)
bounds_last ds a e (goal ∷ goals) (suc k) d h = bounds_last ds a e goals k d (omega arith)

-- the clause of another goal, and those behind it
bounds_next : (ds : Boxes) (a : List ℤ) (e : Literals) (goals : List GroundGoal) (k : ℕ) (d : GroundGoal) → k + 1 < length goals →
    bounds_from ds a e (drop k goals)
    ≡ with_literal (get_or goals k d).var (as_good_values ds a (get_or goals k d)) e
    ∷ bounds_from ds a (with_literal (get_or goals k d).var (better_values ds a (get_or goals k d)) e) (drop (suc k) goals)
bounds_next ds a e [] k d h = absurd (omega arith)
bounds_next ds a e (goal ∷ []) zero d h = absurd (omega arith)
bounds_next ds a e (goal ∷ next ∷ goals) zero d h = refl
bounds_next ds a e (goal ∷ goals) (suc k) d h = bounds_next ds a e goals k d (omega arith)

pub bounds_more : (ds : Boxes) (a : List ℤ) (e : Literals) (goals : List GroundGoal) (k : ℕ) (d : GroundGoal) → k + 1 < length goals →
    bounds_from ds a e (drop k goals)
    ≡ with_literal (get_or goals k d).var (as_good_values ds a (get_or goals k d)) e
    ∷ bounds_from ds a (with_literal (get_or goals k d).var (better_values ds a (get_or goals k d)) e) (drop (k + 1) goals)
bounds_more ds a e goals k d h = rw add-one (bounds_next ds a e goals k d h)

-- one goal further in the walk
pub next_clause : (ds : Boxes) (a : List ℤ) (e : Literals) (goals : List GroundGoal) (k : ℕ) (d : GroundGoal) (before now whole : List Literals) (better as_good : Literals) →
    k + 1 < length goals → better ≡ with_literal (get_or goals k d).var (better_values ds a (get_or goals k d)) e →
    as_good ≡ with_literal (get_or goals k d).var (as_good_values ds a (get_or goals k d)) e →
    now ≡ before ++ as_good ∷ [] → before ++ bounds_from ds a e (drop k goals) ≡ whole → now ++ bounds_from ds a better (drop (k + 1) goals) ≡ whole
next_clause ds a e goals k d before now whole better as_good lt b g n w =
    let goal = get_or goals k d in
    let rest = drop (k + 1) goals in
    ap (λ z. z ++ bounds_from ds a better rest) n
    ∙ append_assoc before (as_good ∷ []) (bounds_from ds a better rest)
    ∙ ap (λ z. before ++ z ∷ bounds_from ds a better rest) g
    ∙ ap (λ z. before ++ with_literal goal.var (as_good_values ds a goal) e ∷ bounds_from ds a z rest) b
    ∙ ap (λ z. before ++ z) (sym (bounds_more ds a e goals k d lt)) ∙ w

-- the last goal
pub last_clause : (ds : Boxes) (a : List ℤ) (e : Literals) (goals : List GroundGoal) (k : ℕ) (d : GroundGoal) (before now whole : List Literals) (better : Literals) →
    k + 1 ≡ length goals → better ≡ with_literal (get_or goals k d).var (better_values ds a (get_or goals k d)) e →
    now ≡ before ++ better ∷ [] → before ++ bounds_from ds a e (drop k goals) ≡ whole → now ≡ whole
last_clause ds a e goals k d before now whole better h b n w =
    n ∙ ap (λ z. before ++ z ∷ []) b ∙ ap (λ z. before ++ z) (sym (bounds_last ds a e goals k d h)) ∙ w
