-- The clauses that lines make have variables of the problem alone.
use Rattle.std.proofs.Common.{◌≡◌, ℕ, zero, suc, ◌<◌, Bool, true, false, not, ◌&&◌, cond, nat_lt}
use Rattle.std.proofs.Common.{◌==◌, List, [], ◌∷◌, ◌++◌, ℤ, length, Option, Some, None, All}
use Rattle.std.proofs.Common.{refl, sym, ap, ◌∙◌, arith, subst}
use Rattle.std.specs.List.{AllByRecursion}
use Rattle.std.proofs.lemmas.List.Elements.{All-nil, All-cons}
use Rattle.std.proofs.lemmas.Bool.{and_parts, and_from, ltb-true, lt-ltb}
use Rattle.signed_clause.specs.Ranges.{Ranges, is_nil}
use Rattle.signed_clause.specs.SetAlgebra.{meet, join}
use Rattle.signed_clause.specs.Clauses.{Boxes, Literal, Literals, IsWithinBoxes}
use Rattle.signed_clause.specs.Clauses.{both_literals, resolve_from, resolvent}
use Rattle.ground_form.specs.declared.ground.Ground.{Ground}
use Rattle.ground_form.specs.declared.ground.GroundGoal.{GroundGoal}
use Rattle.ground_form.specs.Meaning.{clause_vars}
use Rattle.ground_form.specs.WellMade.{IsWellMade}
use Rattle.box_rules.specs.Justified.{justified}
use Rattle.log_form.specs.declared.line.Line.{Line}
use Rattle.log_form.specs.declared.line.Line.TheVariants.{Axiom, Chain, Bound, Use}
use Rattle.log_form.specs.declared.line.Line.TheVariants.{Found, Decide, Empty}
use Rattle.log_form.specs.Acceptance.{Made, start, clause_at, has_empty, con_at, vars_below}
use Rattle.log_form.specs.Acceptance.{chain_holds, chain_end, same_clause, with_literal}
use Rattle.log_form.specs.Acceptance.{better_values, as_good_values, bounds_from, bounds_of}
use Rattle.log_form.specs.Acceptance.{bounds, may_come, accepts, after}
use Rattle.log_check.specs.Soundness.{HasClause, IsSound}
use Rattle.log_check.specs.Chains.{AreBelow}
use Rattle.log_check.specs.Progress.{made_of, IsRight}
use Rattle.log_check.specs.declared.progress.Progress.{Progress}
use Rattle.log_check.proofs.Steps.{same_clause-equal, all_append, sound_start, sound_step}

-- the clause has variables among the first n alone
abbrev pub Below : ℕ → Literals → Type 0
Below n c = vars_below n (clause_vars c) ≡ true

below_parts : (n : ℕ) (l : Literal) (c : Literals) → Below n (l ∷ c) → (l.0 < n) × Below n c
below_parts n l c h =
    let p = and_parts (nat_lt l.0 n) (vars_below n (clause_vars c)) h in
    (ltb-true l.0 n p.0, p.1)

below_cons : (n x : ℕ) (s : Ranges) (c : Literals) → x < n → Below n c → Below n ((x, s) ∷ c)
below_cons n x s c h k = and_from (nat_lt x n) (vars_below n (clause_vars c)) (lt-ltb x n h) k

below_cond : (n : ℕ) (b : Bool) (c d : Literals) → Below n c → Below n d → Below n (cond b c d)
below_cond n true c d h k = h
below_cond n false c d h k = k

below_all : (n : ℕ) (c : Literals) → Below n c → All (λ l. l.0 < n) c
below_all n [] h = All-nil (λ l. l.0 < n)
below_all n (l ∷ c) h =
    let p = below_parts n l c h in
    All-cons (λ l. l.0 < n) l c p.0 (below_all n c p.1)

-- a clause that was made fits into a table
pub within_boxes : (cs : List Literals) (boxes : Boxes) (j : ℕ) (c : Literals) →
    AreBelow (length boxes) cs → c ≡ clause_at cs j → IsWithinBoxes c boxes
within_boxes cs boxes j c h e =
    let n = length boxes in
    below_all n c (ap (λ z. vars_below n (clause_vars z)) e ∙ h j)

-- ---- chains

below_both : (n x : ℕ) (l : Literal) (s : Ranges) (c : Literals) → l.0 < n → Below n c →
    Below n (both_literals x l s c)
below_both n x l s c h k =
    let met = below_cons n l.0 (meet l.1 s) c h k in
    let joined = below_cons n l.0 (join l.1 s) c h k in
    below_cond n (l.0 == x) _ _ (below_cond n (is_nil (meet l.1 s)) _ _ k met) joined

below_from : (n x : ℕ) (rest : Literals → Literals) (l : Literal) (d : Literals) →
    ((e : Literals) → Below n e → Below n (rest e)) → l.0 < n → Below n d →
    Below n (resolve_from x rest l d)
below_from n x rest l [] f h k = below_cons n l.0 l.1 (rest []) h (f [] refl)
below_from n x rest l (m ∷ d) f h k =
    let p = below_parts n m d k in
    let before = below_cons n l.0 l.1 (rest (m ∷ d)) h (f (m ∷ d) k) in
    let behind = below_from n x rest l d f h p.1 in
    let other = below_cons n m.0 m.1 (resolve_from x rest l d) p.0 behind in
    let both = below_both n x l m.1 (rest d) h (f d p.1) in
    below_cond n (nat_lt l.0 m.0) _ _ before (below_cond n (nat_lt m.0 l.0) _ _ other both)

below_resolvent : (n x : ℕ) (c d : Literals) → Below n c → Below n d → Below n (resolvent x c d)
below_resolvent n x [] d h k = k
below_resolvent n x (l ∷ c) d h k =
    let p = below_parts n l c h in
    below_from n x (resolvent x c) l d (λ e q. below_resolvent n x c e p.1 q) p.0 k

below_end : (n : ℕ) (cs : List Literals) (c : Literals) (ss : List (ℕ × ℕ)) → AreBelow n cs →
    Below n c → Below n (chain_end cs c ss)
below_end n cs c [] h k = k
below_end n cs c (s ∷ ss) h k =
    let d = clause_at cs s.1 in
    below_end n cs (resolvent s.0 c d) ss h (below_resolvent n s.0 c d k (h s.1))

-- ---- bounds

below_with : (n x : ℕ) (s : Ranges) (c : Literals) → x < n → Below n c →
    Below n (with_literal x s c)
below_with n x s [] h k = below_cond n (is_nil s) _ _ refl (below_cons n x s [] h refl)
below_with n x s (l ∷ c) h k =
    let p = below_parts n l c k in
    let before = below_cons n x s (l ∷ c) h k in
    let joined = below_cons n x (join l.1 s) c h p.1 in
    let behind = below_cons n l.0 l.1 (with_literal x s c) p.0 (below_with n x s c h p.1) in
    below_cond n (is_nil s) _ _ k
    (below_cond n (nat_lt x l.0) _ _ before (below_cond n (l.0 == x) _ _ joined behind))

-- the goals' variables exist
abbrev AreNamed : Boxes → List GroundGoal → Type 0
AreNamed ds goals = All (λ goal. goal.var < length ds) goals

-- each clause of a list has variables of the domains alone
abbrev AllBelow : Boxes → List Literals → Type 0
AllBelow ds cs = AllByRecursion (λ c. Below (length ds) c) cs

below_bounds_from : (ds : Boxes) (a : List ℤ) (earlier : Literals) (goals : List GroundGoal) →
    AreNamed ds goals → Below (length ds) earlier → AllBelow ds (bounds_from ds a earlier goals)
below_bounds_from ds a earlier [] w h = tt
below_bounds_from ds a earlier (goal ∷ []) w h =
    let lt : goal.var < length ds = w 0 goal (omega arith) in
    (below_with (length ds) goal.var (better_values ds a goal) earlier lt h, tt)
below_bounds_from ds a earlier (goal ∷ next ∷ goals) w h =
    let n = length ds in
    let x = goal.var in
    let lt : x < length ds = w 0 goal (omega arith) in
    let said = with_literal x (better_values ds a goal) earlier in
    let better = below_with n x (better_values ds a goal) earlier lt h in
    let as_good = below_with n x (as_good_values ds a goal) earlier lt h in
    let named : AreNamed ds (next ∷ goals) = λ k d less. w (suc k) d (omega arith) in
    (as_good, below_bounds_from ds a said (next ∷ goals) named better)

below_bounds_of : (goals : List GroundGoal) (ds : Boxes) (a : List ℤ) → AreNamed ds goals →
    AllBelow ds (bounds_of goals ds a)
below_bounds_of [] ds a w = (refl, tt)
below_bounds_of (goal ∷ goals) ds a w = below_bounds_from ds a [] (goal ∷ goals) w refl

below_bounds : (g : Ground) (found : Option (List ℤ)) → IsWellMade g →
    AllBelow g.domains (bounds g found)
below_bounds g None w = tt
below_bounds g (Some a) w = below_bounds_of g.goals g.domains a w.goals

-- ---- lines

-- a line adds these clauses
below_more : (ds : Boxes) (cs new : List Literals) → AreBelow (length ds) cs → AllBelow ds new →
    AreBelow (length ds) (cs ++ new)
below_more ds cs new h k j = all_append (λ c. Below (length ds) c) refl cs new j h k

-- the clause of an accepted axiom
below_axiom : (g : Ground) (m : Made) (k : ℕ) (c : Literals) → accepts g m (Axiom k c) ≡ true →
    Below (length g.domains) c
unfolding accepts
below_axiom g m k c h =
    let there = nat_lt k (length g.cons) in
    let below = vars_below (length g.domains) (clause_vars c) in
    let right = justified (con_at g.cons k) g.domains c in
    let p = and_parts there (below && right) h in
    let q = and_parts below right p.1 in
    q.0

-- what an accepted chain states
chain_states : (g : Ground) (m : Made) (chain : _) (c : Literals) →
    accepts g m (Chain chain c) ≡ true →
    chain_end m.clauses (clause_at m.clauses chain.first) chain.steps ≡ c
unfolding accepts
chain_states g m chain c h =
    let d = clause_at m.clauses chain.first in
    let last = chain_end m.clauses d chain.steps in
    let there = nat_lt chain.first (length m.clauses) in
    let holds = chain_holds m.clauses d chain.steps in
    let p = and_parts there (holds && same_clause last c) h in
    let q = and_parts holds (same_clause last c) p.1 in
    same_clause-equal last c q.1

below_step : (g : Ground) (m : Made) (l : Line) → IsWellMade g →
    AreBelow (length g.domains) m.clauses → accepts g m l ≡ true →
    AreBelow (length g.domains) (after g m l).clauses
unfolding after
below_step g m (Axiom k c) w b h =
    below_more g.domains m.clauses (c ∷ []) b (below_axiom g m k c h, tt)
below_step g m (Chain chain c) w b h =
    let n = length g.domains in
    let d = clause_at m.clauses chain.first in
    let last = below_end n m.clauses d chain.steps b (b chain.first) in
    let stated = subst (λ (z : Literals). Below n z) (chain_states g m chain c h) last in
    below_more g.domains m.clauses (c ∷ []) b (stated, tt)
below_step g m (Bound values) w b h =
    below_more g.domains m.clauses (bounds g m.found) b (below_bounds g m.found w)
below_step g m (Use i) w b h = b
below_step g m (Found a) w b h = b
below_step g m (Decide x set) w b h = b
below_step g m (Empty x) w b h = below_more g.domains m.clauses ([] ∷ []) b (refl, tt)

-- ---- what is kept

none_below : (n : ℕ) → AreBelow n []
none_below n zero = refl
none_below n (suc j) = refl

pub right_start : (g : Ground) (p : Progress) → made_of p ≡ start → p.derived.closed ≡ false →
    length p.running ≡ length g.domains → IsRight g p
right_start g p e f h =
    let n = length g.domains in
    record {
      closed = f ∙ ap (λ (m : Made). has_empty m.clauses) (sym e);
      sound = subst (λ (m : Made). IsSound g m) (sym e) (sound_start g);
      below = subst (λ (m : Made). AreBelow n m.clauses) (sym e) (none_below n);
      table = h;
    }

-- another table of the same variables
pub right_with : (g : Ground) (p q : Progress) → IsRight g p → made_of q ≡ made_of p →
    q.derived.closed ≡ p.derived.closed → length q.running ≡ length p.running → IsRight g q
right_with g p q r e f h =
    let n = length g.domains in
    record {
      closed = f ∙ r.closed ∙ ap (λ (m : Made). has_empty m.clauses) (sym e);
      sound = subst (λ (m : Made). IsSound g m) (sym e) r.sound;
      below = subst (λ (m : Made). AreBelow n m.clauses) (sym e) r.below;
      table = h ∙ r.table;
    }

pub right_step : (g : Ground) (p q : Progress) (l : Line) → IsWellMade g → HasClause l →
    IsRight g p → may_come g (made_of p) l ≡ true → made_of q ≡ after g (made_of p) l →
    q.derived.closed ≡ has_empty q.derived.clauses → length q.running ≡ length p.running →
    IsRight g q
right_step g p q l w f r came e closed table =
    let n = length g.domains in
    let m = made_of p in
    let taken = and_parts (not (has_empty p.derived.clauses)) (accepts g m l) came in
    let sound = sound_step g m l w f r.sound taken.1 in
    let below = below_step g m l w r.below taken.1 in
    record {
      closed = closed;
      sound = subst (λ (m : Made). IsSound g m) (sym e) sound;
      below = subst (λ (m : Made). AreBelow n m.clauses) (sym e) below;
      table = table ∙ r.table;
    }
