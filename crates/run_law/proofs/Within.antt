-- The clauses of a run name values of the domains alone.
use Rattle.std.proofs.Common.{◌≡◌, ℕ, suc, ◌<◌, inl, inr, true, false, ◌&&◌, ◌||◌, cond, List, [], ◌∷◌, ℤ, length, refl, sym, ap, ◌∙◌, arith, subst, nat_lt, ◌==◌, All, Option, Some, None}
use Rattle.std.specs.List.{AllByRecursion}
use Rattle.std.proofs.lemmas.Bool.{and_parts, cases_eq, eqb-true}
use Rattle.signed_clause.specs.Ranges.{Ranges, has, is_nil, IsValid, IsSubset}
use Rattle.signed_clause.specs.SetAlgebra.{is_within, join, meet}
use Rattle.signed_clause.specs.Clauses.{Boxes, Literals, box_of, has_var, resolvent, IsClause, IsClauseFrom, AreValid}
use Rattle.signed_clause.proofs.SetFacts.{within_law}
use Rattle.signed_clause.proofs.RangeSteps.{has-meet_valid, has-join_valid, IsValid-meet}
use Rattle.signed_clause.proofs.ClauseLaws.{IsClauseFrom-resolvent}
use Rattle.signed_clause.proofs.ResolventLaws.{set_here, set_later}
use Rattle.ground_form.specs.declared.ground.Ground.{Ground}
use Rattle.ground_form.specs.declared.ground.GroundGoal.{GroundGoal}
use Rattle.ground_form.specs.Meaning.{value_of}
use Rattle.ground_form.specs.Solutions.{IsPoint}
use Rattle.ground_form.specs.WellMade.{IsWellMade}
use Rattle.log_form.specs.Acceptance.{clause_at, chain_holds, chain_end, with_literal, better_values, as_good_values, bounds, bounds_from, bounds_of}
use Rattle.log_check.specs.Soundness.{FoundSolves}
use Rattle.log_check.proofs.Bounds.{with_form, fits_at, better_than_valid, as_good_as_valid}
use Rattle.learn_clauses.specs.Learnt.{IsWithinDomains}
use Rattle.learn_clauses.proofs.WithinLaws.{within-resolvent}
use Rattle.run_law.specs.Replay.{are_sets_within}

-- ---- literal by literal

abbrev pub AreWithin : Boxes → Literals → Type 0
AreWithin domains [] = Unit {0}
AreWithin domains (l ∷ ls) = IsSubset l.1 (box_of domains l.0) × AreWithin domains ls

pub within_each : (domains : Boxes) (c : Literals) → AreWithin domains c → IsWithinDomains domains c
within_each domains [] w x v h = absurd cc
within_each domains (l ∷ c) w x v h =
    elim (cases_eq l.0 x) [
      | inl e ↦
          let here : has l.1 v ≡ true = sym (ap (λ z. has z v) (set_here l c x e)) ∙ h in
          subst (λ (y : ℕ). has (box_of domains y) v ≡ true) e (w.0 v here)
      | inr e ↦
          within_each domains c w.1 x v (sym (ap (λ z. has z v) (set_later l c x e)) ∙ h)
    ]

-- as an axiom has to be
pub sets_within : (domains : Boxes) (c : Literals) (n : ℕ) → AreValid domains → IsClauseFrom n c →
    are_sets_within domains c ≡ true → AreWithin domains c
sets_within domains [] n a f h = tt
sets_within domains (l ∷ c) n a f h =
    let box = box_of domains l.0 in
    let p = and_parts (is_within l.1 box) (are_sets_within domains c) h in (
      (within_law l.1 box f.2 (a l.0)).0 p.0,
      sets_within domains c (suc l.0) a f.3 p.1,
    )

-- ---- chains

pub chain_within : (domains : Boxes) (cs : List Literals) (c : Literals) (ss : List (ℕ × ℕ)) →
    ((j : ℕ) → IsClause (clause_at cs j)) →
    ((j : ℕ) → IsWithinDomains domains (clause_at cs j)) → IsClause c →
    IsWithinDomains domains c → chain_holds cs c ss ≡ true →
    IsWithinDomains domains (chain_end cs c ss)
chain_within domains cs c [] forms within f w h = w
chain_within domains cs c (s ∷ ss) forms within f w h =
    let d = clause_at cs s.1 in
    let next = resolvent s.0 c d in
    let rest = chain_holds cs next ss in
    let p = and_parts (nat_lt s.1 (length cs)) (has_var c s.0 && (has_var d s.0 && rest)) h in
    let q = and_parts (has_var c s.0) (has_var d s.0 && rest) p.1 in
    let r = and_parts (has_var d s.0) rest q.1 in
    chain_within domains cs next ss forms within
    (IsClauseFrom-resolvent s.0 c d 0 f (forms s.1))
    (within-resolvent domains s.0 c d f (forms s.1) q.0 r.0 w (within s.1)) r.1

-- ---- bounds

join_within : (a b box : Ranges) → IsValid a → IsValid b → IsSubset a box → IsSubset b box →
    IsSubset (join a b) box
join_within a b box f g p q v h =
    (elim (has a v) as (λ z. has a v ≡ z → (z || has b v) ≡ true → has box v ≡ true) [
      | true ↦ λ e k. p v e
      | false ↦ λ e k. q v k
    ]) refl (sym (has-join_valid a b f g v) ∙ h)

with_within : (domains : Boxes) (x : ℕ) (s : Ranges) (c : Literals) (n : ℕ) → IsValid s →
    IsClauseFrom n c → IsSubset s (box_of domains x) → AreWithin domains c →
    AreWithin domains (with_literal x s c)
with_within domains x s [] n v f p w =
    elim (is_nil s) as (λ b. AreWithin domains (cond b [] ((x, s) ∷ []))) [
      | true ↦ tt
      | false ↦ (p, tt)
    ]
with_within domains x s (l ∷ c) n v f p w =
    let later = with_literal x s c in
    elim (is_nil s) as (λ b. AreWithin domains (cond b (l ∷ c)
    (cond (nat_lt x l.0) ((x, s) ∷ l ∷ c) (cond (l.0 == x) ((x, join l.1 s) ∷ c) (l ∷ later))))) [
      | true ↦ w
      | false ↦ elim (nat_lt x l.0) as (λ b. AreWithin domains
          (cond b ((x, s) ∷ l ∷ c) (cond (l.0 == x) ((x, join l.1 s) ∷ c) (l ∷ later)))) [
            | true ↦ (p, w)
            | false ↦ (elim (l.0 == x) as (λ b. (l.0 == x) ≡ b → AreWithin domains
                (cond b ((x, join l.1 s) ∷ c) (l ∷ later))) [
                  | true ↦ λ e.
                      let here = subst (λ (y : ℕ). IsSubset l.1 (box_of domains y))
                      (eqb-true l.0 x e) w.0 in
                      (join_within l.1 s (box_of domains x) f.2 v here p, w.1)
                  | false ↦ λ e. (w.0, with_within domains x s c (suc l.0) v f.3 p w.1)
                ]) refl
          ]
    ]

meet_within : (a b : Ranges) → IsValid a → IsValid b → IsSubset (meet a b) a
meet_within a b f g v h =
    (and_parts (has a v) (has b v) (sym (has-meet_valid a b f g v) ∙ h)).0

-- what is known of a bound at a goal
pub record IsBoundSet (domains : Boxes) (x : ℕ) (s : Ranges) : Type 0 where
  pub valid : IsValid s
  pub within : IsSubset s (box_of domains x)

bound_set : (domains : Boxes) (x : ℕ) (s : Ranges) → All (λ s. IsValid s) domains →
    x < length domains → IsValid s → IsBoundSet domains x (meet (box_of domains x) s)
bound_set domains x s a lt v =
    let box = box_of domains x in
    let valid : IsValid box = a x [] lt in
    record { valid = IsValid-meet box s valid v; within = meet_within box s valid v }

pub better_set : (domains : Boxes) (b : List ℤ) (goal : GroundGoal) → All (λ s. IsValid s) domains →
    IsPoint domains b → goal.var < length domains →
    IsBoundSet domains goal.var (better_values domains b goal)
better_set domains b goal a p lt =
    bound_set domains goal.var _ a lt
    (better_than_valid goal.max (value_of b goal.var) (fits_at domains b goal.var a p lt))

pub as_good_set : (domains : Boxes) (b : List ℤ) (goal : GroundGoal) →
    All (λ s. IsValid s) domains → IsPoint domains b → goal.var < length domains →
    IsBoundSet domains goal.var (as_good_values domains b goal)
as_good_set domains b goal a p lt =
    bound_set domains goal.var _ a lt
    (as_good_as_valid goal.max (value_of b goal.var) (fits_at domains b goal.var a p lt))

with_bound : (domains : Boxes) (x : ℕ) (s : Ranges) (c : Literals) → IsBoundSet domains x s →
    IsClause c → AreWithin domains c → AreWithin domains (with_literal x s c)
with_bound domains x s c b f w = with_within domains x s c 0 b.valid f b.within w

bounds_within : (domains : Boxes) (b : List ℤ) (goals : List GroundGoal) (earlier : Literals) →
    All (λ s. IsValid s) domains → IsPoint domains b →
    All (λ goal. goal.var < length domains) goals → IsClause earlier → AreWithin domains earlier →
    AllByRecursion (λ c. IsWithinDomains domains c) (bounds_from domains b earlier goals)
bounds_within domains b [] earlier a p w f e = tt
bounds_within domains b (goal ∷ []) earlier a p w f e =
    let better = better_set domains b goal a p (w 0 goal (omega arith)) in
    (within_each domains _ (with_bound domains goal.var _ earlier better f e), tt)
bounds_within domains b (goal ∷ next ∷ goals) earlier a p w f e =
    let lt : goal.var < length domains = w 0 goal (omega arith) in
    let better = better_set domains b goal a p lt in
    let good = as_good_set domains b goal a p lt in
    let form = with_form 0 goal.var _ earlier (omega arith) better.valid f in (
      within_each domains _ (with_bound domains goal.var _ earlier good f e),
      bounds_within domains b (next ∷ goals) _ a p (λ k d less. w (suc k) d (omega arith)) form
          (with_bound domains goal.var _ earlier better f e),
    )

bounds_of_within : (domains : Boxes) (b : List ℤ) (goals : List GroundGoal) →
    All (λ s. IsValid s) domains → IsPoint domains b →
    All (λ goal. goal.var < length domains) goals →
    AllByRecursion (λ c. IsWithinDomains domains c) (bounds_of goals domains b)
bounds_of_within domains b [] a p w = (within_each domains [] tt, tt)
bounds_of_within domains b (goal ∷ goals) a p w =
    bounds_within domains b (goal ∷ goals) [] a p w tt tt

-- those of a Bound line
pub bound_within : (g : Ground) (found : Option (List ℤ)) → IsWellMade g → FoundSolves g found →
    AllByRecursion (λ c. IsWithinDomains g.domains c) (bounds g found)
bound_within g None w s = tt
bound_within g (Some b) w s = bounds_of_within g.domains b g.goals w.domains s.point w.goals
