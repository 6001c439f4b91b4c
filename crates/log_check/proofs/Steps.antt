-- Accepted lines make only clauses that are true at each better solution.
use Rattle.std.proofs.Common.{◌≡◌, ℕ, zero, suc, ◌<◌, inl, inr, Bool, true, false, ◌&&◌, List, [], ◌∷◌, ◌++◌, ℤ, pos, length, refl, eq-eqb, sym, ap, ◌∙◌, arith, subst, nat_lt, ◌==◌, Option, Some, None, All}
use Rattle.std.specs.Ordering.{int_eq}
use Rattle.std.specs.List.{AllByRecursion}
use Rattle.std.proofs.lemmas.List.Elements.{All-nil, All-cons}
use Rattle.std.proofs.lemmas.Int.{ints}
use Rattle.std.proofs.lemmas.Bool.Decides.{Decides-int_eq}
use Rattle.std.proofs.lemmas.Bool.{and_parts, ltb-true, eqb-true}
use Rattle.signed_clause.specs.Ranges.{Ranges, has, is_nil, IsValid}
use Rattle.signed_clause.specs.Clauses.{Boxes, Literals, box_of, has_var, clause_true, resolvent, IsClause}
use Rattle.signed_clause.proofs.ClauseLaws.{resolvent_true, IsClauseFrom-resolvent}
use Rattle.ground_form.specs.declared.con.Con.{Con}
use Rattle.ground_form.specs.declared.con.Con.TheVariants.{LinLe}
use Rattle.ground_form.specs.declared.ground.Ground.{Ground}
use Rattle.ground_form.specs.declared.ground.GroundGoal.{GroundGoal}
use Rattle.ground_form.specs.Meaning.{value_of, con_true, clause_vars}
use Rattle.ground_form.specs.Solutions.{IsPoint, IsSolution, better}
use Rattle.ground_form.specs.WellMade.{IsWellMade}
use Rattle.box_rules.specs.Justified.{justified}
use Rattle.log_form.specs.declared.line.Line.{Line}
use Rattle.log_form.specs.declared.line.Line.TheVariants.{Axiom, Chain, Bound, Use, Found, Decide, Empty}
use Rattle.log_form.specs.Acceptance.{Made, start, clause_at, has_empty, chain_holds, chain_end, all_same, same_set, same_clause, point_of, all_true, beats, bounds, bounds_of, states_found, vars_below, con_at, accepts, after, shown_by}
use Rattle.log_check.specs.Soundness.{FoundSolves, IsSound, Means, HasClause}
use Rattle.log_check.proofs.Justified.{justified-true}
use Rattle.log_check.proofs.Bounds.{beats_value, at_goal, bounds_true, bounds_form}

-- ---- equal lists

all_same-equal : {X : Type 0} (same : X → X → Bool) (xs ys : List X) → ((x y : X) → same x y ≡ true → x ≡ y) → all_same same xs ys ≡ true → xs ≡ ys
all_same-equal same [] [] e h = refl
all_same-equal same [] (y ∷ ys) e h = absurd (cc)
all_same-equal same (x ∷ xs) [] e h = absurd (cc)
all_same-equal same (x ∷ xs) (y ∷ ys) e h =
    let parts = and_parts (same x y) (all_same same xs ys) h in
    let first = e x y parts.0 in
    let rest = all_same-equal same xs ys e parts.1 in
    cc

same_range-equal : (r s : ℤ × ℤ) → (int_eq r.0 s.0 && int_eq r.1 s.1) ≡ true → r ≡ s
same_range-equal (a, b) (c, d) h =
    let parts = and_parts (int_eq a c) (int_eq b d) h in
    let first = (Decides-int_eq a c).0 parts.0 in
    let last = (Decides-int_eq b d).0 parts.1 in cc

same_set-equal : (a b : Ranges) → same_set a b ≡ true → a ≡ b
same_set-equal a b h = all_same-equal _ a b same_range-equal h

same_literal-equal : (l m : ℕ × Ranges) → (l.0 == m.0 && same_set l.1 m.1) ≡ true → l ≡ m
same_literal-equal (x, s) (y, t) h =
    let parts = and_parts (x == y) (same_set s t) h in
    let first = eqb-true x y parts.0 in
    let last = same_set-equal s t parts.1 in cc

pub same_clause-equal : (c d : Literals) → same_clause c d ≡ true → c ≡ d
same_clause-equal c d h = all_same-equal _ c d same_literal-equal h

pub all_same-self : {X : Type 0} (same : X → X → Bool) (xs : List X) → ((x : X) → same x x ≡ true) → all_same same xs xs ≡ true
all_same-self same [] e = refl
all_same-self same (x ∷ xs) e = rw (e x, all_same-self same xs e) refl

same_range-self : (r : ℤ × ℤ) → (int_eq r.0 r.0 && int_eq r.1 r.1) ≡ true
same_range-self r = rw ((Decides-int_eq r.0 r.0).1 refl, (Decides-int_eq r.1 r.1).1 refl) refl

same_literal-self : (l : ℕ × Ranges) → (l.0 == l.0 && same_set l.1 l.1) ≡ true
same_literal-self l = rw (eq-eqb l.0 l.0 refl, all_same-self _ l.1 same_range-self) refl

pub same_clause-self : (c : Literals) → same_clause c c ≡ true
same_clause-self c = all_same-self _ c same_literal-self

-- ---- more clauses

none_at : (P : Literals → Type 0) → P [] → (j : ℕ) → P (clause_at [] j)
none_at P none zero = none
none_at P none (suc j) = none

at_append : (P : Literals → Type 0) (cs ds : List Literals) (j : ℕ) → ((i : ℕ) → i < length cs → P (clause_at cs i)) → AllByRecursion P ds → j < length (cs ++ ds) → P (clause_at (cs ++ ds) j)
at_append P [] [] j old new h = absurd (omega arith)
at_append P [] (d ∷ ds) zero old new h = new.0
at_append P [] (d ∷ ds) (suc j) old new h = at_append P [] ds j (λ i lt. absurd (omega arith)) new.1 (omega arith)
at_append P (c ∷ cs) ds zero old new h = old 0 (omega arith)
at_append P (c ∷ cs) ds (suc j) old new h = at_append P cs ds j (λ i lt. old (suc i) (omega arith)) new (omega arith)

-- what holds of each clause, and of the empty one past the end
pub all_append : (P : Literals → Type 0) → P [] → (cs ds : List Literals) (j : ℕ) →
    ((i : ℕ) → P (clause_at cs i)) → AllByRecursion P ds → P (clause_at (cs ++ ds) j)
all_append P none [] [] zero old new = none
all_append P none [] [] (suc j) old new = none
all_append P none [] (d ∷ ds) zero old new = new.0
all_append P none [] (d ∷ ds) (suc j) old new =
    all_append P none [] ds j (λ i. none_at P none i) new.1
all_append P none (c ∷ cs) ds zero old new = old 0
all_append P none (c ∷ cs) ds (suc j) old new = all_append P none cs ds j (λ i. old (suc i)) new

with_clauses : (g : Ground) (m : Made) (ds : List Literals) → IsSound g m → AllByRecursion (λ c. IsClause c) ds →
    ((a : List ℤ) → IsSolution g a → beats g.goals m.found a ≡ true → AllByRecursion (λ c. clause_true c a ≡ true) ds) →
    IsSound g (record { clauses = m.clauses ++ ds; found = m.found })
with_clauses g m ds s f h = record {
  forms = λ j. all_append (λ c. IsClause c) tt m.clauses ds j s.forms f;
  truths = λ a sol b j lt. at_append (λ d. clause_true d a ≡ true) m.clauses ds j (λ i less. s.truths a sol b i less) (h a sol b) lt;
  solved = s.solved;
}

-- ---- chains

chain_true : (cs : List Literals) (c : Literals) (ss : List (ℕ × ℕ)) (a : List ℤ) → ((j : ℕ) → IsClause (clause_at cs j)) → ((j : ℕ) → j < length cs → clause_true (clause_at cs j) a ≡ true) →
    IsClause c → clause_true c a ≡ true → chain_holds cs c ss ≡ true → clause_true (chain_end cs c ss) a ≡ true
chain_true cs c [] a forms truths f h k = h
chain_true cs c (s ∷ ss) a forms truths f h k =
    let d = clause_at cs s.1 in
    let p = and_parts (nat_lt s.1 (length cs)) (has_var c s.0 && (has_var d s.0 && chain_holds cs (resolvent s.0 c d) ss)) k in
    let q = and_parts (has_var c s.0) (has_var d s.0 && chain_holds cs (resolvent s.0 c d) ss) p.1 in
    let r = and_parts (has_var d s.0) (chain_holds cs (resolvent s.0 c d) ss) q.1 in
    chain_true cs (resolvent s.0 c d) ss a forms truths (IsClauseFrom-resolvent s.0 c d 0 f (forms s.1))
    (resolvent_true s.0 c d 0 0 a f (forms s.1) h (truths s.1 (ltb-true s.1 (length cs) p.0))) r.1

-- ---- a solution that was found

pub point_from : (ds : Boxes) (a : List ℤ) → point_of ds a ≡ true → IsPoint ds a
point_from [] [] h = record { size = refl; within = λ x lt. absurd (omega arith) }
point_from [] (v ∷ vs) h = absurd (cc)
point_from (d ∷ ds) [] h = absurd (cc)
point_from (d ∷ ds) (v ∷ vs) h =
    let parts = and_parts (has d v) (point_of ds vs) h in
    let rest = point_from ds vs parts.1 in
    let P : ℕ → Type 0 = λ x. x < length (d ∷ ds) → has (box_of (d ∷ ds) x) (value_of (v ∷ vs) x) ≡ true in
    let by : (x : ℕ) → P x = λ x. elim x as P [ zero ↦ λ lt. parts.0 | suc y ↦ λ lt. rest.within y (omega arith) ] in
    record { size = ap suc rest.size; within = by }

all_true-All : (cons : List Con) (a : List ℤ) → all_true cons a ≡ true → All (λ con. con_true con a ≡ true) cons
all_true-All [] a h = All-nil (λ con. con_true con a ≡ true)
all_true-All (con ∷ cons) a h =
    let parts = and_parts (con_true con a) (all_true cons a) h in
    All-cons (λ con. con_true con a ≡ true) con cons parts.0 (all_true-All cons a parts.1)

beats_apart : (up : Bool) (v w : ℤ) → beats_value up v w ≡ true → int_eq v w ≡ false
beats_apart true v w h = grind (arith, ints)
beats_apart false v w h = grind (arith, ints)

beats_trans : (up : Bool) (u v w : ℤ) → beats_value up u v ≡ true → beats_value up v w ≡ true → beats_value up u w ≡ true
beats_trans true u v w h k = grind (arith, ints)
beats_trans false u v w h k = grind (arith, ints)

pub here_better : (goal : GroundGoal) (goals : List GroundGoal) (a b : List ℤ) → beats_value goal.max (value_of a goal.var) (value_of b goal.var) ≡ true → better (goal ∷ goals) a b ≡ true
here_better goal goals a b h =
    let apart = beats_apart goal.max (value_of a goal.var) (value_of b goal.var) h in
    rw apart h

pub later_better : (goal : GroundGoal) (goals : List GroundGoal) (a b : List ℤ) → value_of a goal.var ≡ value_of b goal.var → better goals a b ≡ true → better (goal ∷ goals) a b ≡ true
later_better goal goals a b e h =
    let same : int_eq (value_of a goal.var) (value_of b goal.var) ≡ true = (Decides-int_eq (value_of a goal.var) (value_of b goal.var)).1 e in
    rw same h

-- better than what is better is better
better_through : (goals : List GroundGoal) (a b c : List ℤ) → better goals a b ≡ true → better goals b c ≡ true → better goals a c ≡ true
better_through [] a b c h k = absurd cc
better_through (goal ∷ goals) a b c h k =
    elim (at_goal goal goals a b h) [
      | inl p ↦ elim (at_goal goal goals b c k) [
        | inl q ↦ here_better goal goals a c (beats_trans goal.max (value_of a goal.var) (value_of b goal.var) (value_of c goal.var) p q)
        | inr q ↦ here_better goal goals a c (subst (λ (z : ℤ). beats_value goal.max (value_of a goal.var) z ≡ true) q.0 p)
      ]
      | inr p ↦ elim (at_goal goal goals b c k) [
        | inl q ↦ here_better goal goals a c (subst (λ (z : ℤ). beats_value goal.max z (value_of c goal.var) ≡ true) (sym p.0) q)
        | inr q ↦ later_better goal goals a c (p.0 ∙ q.0) (better_through goals a b c p.1 q.1)
      ]
    ]

beats_through : (goals : List GroundGoal) (found : Option (List ℤ)) (a b : List ℤ) → beats goals found b ≡ true → better goals a b ≡ true → beats goals found a ≡ true
beats_through goals None a b h k = refl
beats_through goals (Some c) a b h k = better_through goals a b c k h

-- ---- the clauses of a Bound line

-- the values found last are a point
abbrev FoundPoint : Boxes → Option (List ℤ) → Type 0
FoundPoint ds None = Unit {0}
FoundPoint ds (Some b) = IsPoint ds b

found_point : (g : Ground) (found : Option (List ℤ)) → FoundSolves g found → FoundPoint g.domains found
found_point g None s = tt
found_point g (Some b) s = s.point

bounds_form_of : (goals : List GroundGoal) (ds : Boxes) (b : List ℤ) → All (λ s. IsValid s) ds → All (λ goal. goal.var < length ds) goals → IsPoint ds b → AllByRecursion (λ c. IsClause c) (bounds_of goals ds b)
bounds_form_of [] ds b s w p = (tt, tt)
bounds_form_of (goal ∷ goals) ds b s w p = bounds_form ds b (goal ∷ goals) [] s p w tt

bounds_true_of : (goals : List GroundGoal) (ds : Boxes) (a b : List ℤ) → All (λ s. IsValid s) ds → All (λ goal. goal.var < length ds) goals → IsPoint ds a → IsPoint ds b → better goals a b ≡ true →
    AllByRecursion (λ c. clause_true c a ≡ true) (bounds_of goals ds b)
bounds_true_of [] ds a b s w p q h = absurd cc
bounds_true_of (goal ∷ goals) ds a b s w p q h = bounds_true ds a b (goal ∷ goals) [] s p q w tt (inr h)

bounds_are_clauses : (g : Ground) (found : Option (List ℤ)) → IsWellMade g → FoundPoint g.domains found → AllByRecursion (λ c. IsClause c) (bounds g found)
bounds_are_clauses g None w p = tt
bounds_are_clauses g (Some b) w p = bounds_form_of g.goals g.domains b w.domains w.goals p

bounds_hold : (g : Ground) (found : Option (List ℤ)) (values a : List ℤ) → IsWellMade g → IsPoint g.domains a → FoundPoint g.domains found → states_found g.goals found values ≡ true → beats g.goals found a ≡ true →
    AllByRecursion (λ c. clause_true c a ≡ true) (bounds g found)
bounds_hold g None values a w p q h k = tt
bounds_hold g (Some b) values a w p q h k = bounds_true_of g.goals g.domains a b w.domains w.goals p q k

bound_step : (g : Ground) (m : Made) (values : List ℤ) → IsWellMade g → IsSound g m → states_found g.goals m.found values ≡ true → IsSound g (record { clauses = m.clauses ++ bounds g m.found; found = m.found })
bound_step g m values w s h =
    with_clauses g m (bounds g m.found) s (bounds_are_clauses g m.found w (found_point g m.found s.solved))
    (λ a sol b. bounds_hold g m.found values a w sol.point (found_point g m.found s.solved) h b)

-- ---- one line

empty_domain : (rs : Ranges) (v : ℤ) → is_nil rs ≡ true → has rs v ≡ true → ⊥
empty_domain [] v h k = absurd cc
empty_domain (r ∷ rs) v h k = absurd cc

pub sound_step : (g : Ground) (m : Made) (l : Line) → IsWellMade g → HasClause l → IsSound g m → accepts g m l ≡ true → IsSound g (after g m l)
unfolding accepts after
sound_step g m (Axiom k c) w f s h =
    let p = and_parts (nat_lt k (length g.cons)) (vars_below (length g.domains) (clause_vars c) && justified (con_at g.cons k) g.domains c) h in
    let q = and_parts (vars_below (length g.domains) (clause_vars c)) (justified (con_at g.cons k) g.domains c) p.1 in
    let lt : k < length g.cons = ltb-true k (length g.cons) p.0 in
    with_clauses g m (c ∷ []) s (f, tt) (λ a sol _. (justified-true (con_at g.cons k) g.domains c a w.domains (w.constraints k (LinLe [] (pos 0)) lt) f sol.point q.1 (sol.truths k (LinLe [] (pos 0)) lt), tt))
sound_step g m (Chain chain c) w f s h =
    let d = clause_at m.clauses chain.first in
    let p = and_parts (nat_lt chain.first (length m.clauses)) (chain_holds m.clauses d chain.steps && same_clause (chain_end m.clauses d chain.steps) c) h in
    let q = and_parts (chain_holds m.clauses d chain.steps) (same_clause (chain_end m.clauses d chain.steps) c) p.1 in
    let e = same_clause-equal (chain_end m.clauses d chain.steps) c q.1 in
    with_clauses g m (c ∷ []) s (f, tt) (λ a sol b. (
      subst (λ (z : Literals). clause_true z a ≡ true) e
          (chain_true m.clauses d chain.steps a s.forms (s.truths a sol b) (s.forms chain.first) (s.truths a sol b chain.first (ltb-true chain.first (length m.clauses) p.0)) q.0),
      tt,
    ))
sound_step g m (Bound values) w f s h = bound_step g m values w s h
sound_step g m (Use i) w f s h = s
sound_step g m (Found a) w f s h =
    let p = and_parts (point_of g.domains a) (all_true g.cons a && beats g.goals m.found a) h in
    let q = and_parts (all_true g.cons a) (beats g.goals m.found a) p.1 in
    record {
      forms = s.forms;
      truths = λ b sol k j lt. s.truths b sol (beats_through g.goals m.found b a q.1 k) j lt;
      solved = record { point = point_from g.domains a p.0; truths = all_true-All g.cons a q.0 };
    }
sound_step g m (Decide x set) w f s h = s
sound_step g m (Empty x) w f s h =
    let p = and_parts (nat_lt x (length g.domains)) (is_nil (box_of g.domains x)) h in
    with_clauses g m ([] ∷ []) s (tt, tt) (λ a sol b. absurd (empty_domain (box_of g.domains x) (value_of a x) p.1 (sol.point.within x (ltb-true x (length g.domains) p.0))))

-- ---- all lines

pub sound_start : (g : Ground) → IsSound g start
sound_start g = record {
  forms = λ j. none_at (λ c. IsClause c) tt j;
  truths = λ a sol b j lt. absurd (omega arith);
  solved = tt;
}

empty_at : (cs : List Literals) (P : Literals → Type 0) → has_empty cs ≡ true → ((j : ℕ) → j < length cs → P (clause_at cs j)) → P []
empty_at [] P h k = absurd (cc)
empty_at ([] ∷ cs) P h k = k 0 (omega arith)
empty_at ((l ∷ c) ∷ cs) P h k = empty_at cs P h (λ j lt. k (suc j) (omega arith))

closed_means : (g : Ground) (m : Made) → IsSound g m → has_empty m.clauses ≡ true → (a : List ℤ) → IsSolution g a → beats g.goals m.found a ≡ true → ⊥
closed_means g m s h a sol b =
    let wrong : false ≡ true = empty_at m.clauses (λ c. clause_true c a ≡ true) h (s.truths a sol b) in cc

shown_means : (g : Ground) (found : Option (List ℤ)) (closed : Bool) → FoundSolves g found → (closed ≡ true → (a : List ℤ) → IsSolution g a → beats g.goals found a ≡ true → ⊥) → Means g (shown_by closed found)
shown_means g None true s k = λ a sol. k refl a sol refl
shown_means g (Some b) true s k = (s, λ a sol h. k refl a sol h)
shown_means g None false s k = tt
shown_means g (Some b) false s k = tt

-- what sound clauses show is so
pub sound_means : (g : Ground) (m : Made) → IsSound g m → Means g (shown_by (has_empty m.clauses) m.found)
sound_means g m s = shown_means g m.found (has_empty m.clauses) s.solved (closed_means g m s)
