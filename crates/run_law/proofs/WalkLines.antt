-- The walk back from a conflict is a line that may follow.
use Rattle.std.proofs.Common.{◌≡◌, ℕ, ◌<◌, Bool, true, false, ◌&&◌, cond, List, [], ◌∷◌, ◌++◌, ℤ, length, refl, ap, ◌∙◌, subst, slice_set, nat_lt, ◌==◌, Option, Some, None}
use Rattle.std.proofs.lemmas.Bool.{and_parts, and_from, lt-ltb, eq-eqb}
use Rattle.signed_clause.specs.Clauses.{Boxes, Literals, box_of, has_var, false_in, resolvent}
use Rattle.ground_form.specs.declared.ground.Ground.{Ground}
use Rattle.numbered_clauses.specs.declared.chain.Chain as chains
use Rattle.log_form.specs.declared.line.Line.{Line}
use Rattle.log_form.specs.declared.line.Line.TheVariants.{Chain}
use Rattle.log_form.specs.Acceptance.{Made, clause_at, has_empty, chain_holds, chain_end, all_same, same_clause, accepts, may_come, made}
use Rattle.log_form.specs.Acceptance as acceptance
use Rattle.log_check.proofs.Steps.{all_same-self, same_clause-self}
use Rattle.fd_store.specs.Levels.{Entry}
use Rattle.learn_clauses.specs.Walk.{Walk, with_step, walk_at, walk, walk_from, trail_of}
use Rattle.learn_clauses.specs.Learnt.{IsFrom, AreFrom}
use Rattle.run_law.specs.Replay.{State, Mode, Going, Conflict, AtFound, Closed, is_walk, leads_back, may_explain, may_stand, is_run, state_of}
use Rattle.run_law.specs.Replay as replay
use Rattle.run_law.proofs.Units.{some_same, none_some}
use Rattle.run_law.proofs.StateSteps.{HoldsIn}
use Rattle.run_law.proofs.LevelFacts.{stack_came}
use Rattle.run_law.proofs.RunLaws.{IsRunOf, state_is}
use Rattle.run_law.proofs.Fronts.{run_more}

-- the chain of a walk from c holds, and ends with the walk's clause
pub record IsDerived (cs : List Literals) (c : Literals) (w : Walk) : Type 0 where
  pub holds : chain_holds cs c w.steps ≡ true
  pub ends : chain_end cs c w.steps ≡ w.clause

ended : (cs : List Literals) (c : Literals) (w : Walk) →
    Some (record { steps = []; clause = c }) ≡ Some w → IsDerived cs c w
ended cs c w h =
    let here : IsDerived cs c (record { steps = []; clause = c }) =
    record { holds = refl; ends = refl } in
    subst (IsDerived cs c) (some_same (record { steps = []; clause = c }) w h) here

stepped : (cs : List Literals) (c : Literals) (x j : ℕ) (rest : Option Walk) (w : Walk) →
    j < length cs → (has_var c x && has_var (clause_at cs j) x) ≡ true →
    ((v : Walk) → rest ≡ Some v → IsDerived cs (resolvent x c (clause_at cs j)) v) →
    with_step (x, j) rest ≡ Some w → IsDerived cs c w
stepped cs c x j None w lt vars more h = absurd (none_some w h)
stepped cs c x j (Some v) w lt vars more h =
    let d = clause_at cs j in
    let next = resolvent x c d in
    let p = and_parts (has_var c x) (has_var d x) vars in
    let later = more v refl in
    let whole : Walk = record { steps = (x, j) ∷ v.steps; clause = v.clause } in
    let here : IsDerived cs c whole = record {
      holds = and_from (nat_lt j (length cs))
          (has_var c x && (has_var d x && chain_holds cs next v.steps)) (lt-ltb j (length cs) lt)
          (and_from (has_var c x) (has_var d x && chain_holds cs next v.steps) p.0
          (and_from (has_var d x) (chain_holds cs next v.steps) p.1 later.holds));
      ends = later.ends;
    } in
    subst (IsDerived cs c) (some_same whole w h) here

walked_at : (from : Option ℕ) (cs : List Literals) (before : Boxes) (x : ℕ)
    (now : List (ℤ × ℤ)) (c : Literals) (rest : Literals → Option Walk) (w : Walk) →
    IsFrom from cs before x now →
    ((d : Literals) (v : Walk) → rest d ≡ Some v → IsDerived cs d v) →
    walk_at from cs x c rest ≡ Some w → IsDerived cs c w
walked_at None cs before x now c rest w came more h = ended cs c w h
walked_at (Some j) cs before x now c rest w came more h =
    (elim (has_var c x && has_var (clause_at cs j) x) as (λ b.
    (has_var c x && has_var (clause_at cs j) x) ≡ b →
    cond b (with_step (x, j) (rest (resolvent x c (clause_at cs j)))) None ≡ Some w →
    IsDerived cs c w) [
      | true ↦ λ e h.
          stepped cs c x j (rest (resolvent x c (clause_at cs j))) w came.0 e
          (more (resolvent x c (clause_at cs j))) h
      | false ↦ λ e h. absurd (none_some w h)
    ]) refl h

pub walk_derived : (es : List Entry) (boxes : Boxes) (cs : List Literals) (c : Literals)
    (w : Walk) → AreFrom cs boxes es → walk boxes es cs c ≡ Some w → IsDerived cs c w
walk_derived [] boxes cs c w came h = ended cs c w h
walk_derived (e ∷ es) boxes cs c w came h =
    let before = slice_set boxes e.var e.before in
    let rest = walk before es cs in
    (elim (false_in before c) as (λ b.
    cond b (walk before es cs c) (walk_at e.from cs e.var c rest) ≡ Some w → IsDerived cs c w) [
      | true ↦ λ h. walk_derived es before cs c w came.1 h
      | false ↦ λ h. walked_at e.from cs before e.var (box_of boxes e.var) c rest w came.0
          (λ d v k. walk_derived es before cs d v came.1 k) h
    ]) h

-- ---- the line

same_step : (s : ℕ × ℕ) → (s.0 == s.0 && s.1 == s.1) ≡ true
same_step s = rw (eq-eqb s.0 s.0 refl, eq-eqb s.1 s.1 refl) refl

abbrev are_same_steps : List (ℕ × ℕ) → List (ℕ × ℕ) → Bool
are_same_steps a b = all_same (λ s t. s.0 == t.0 && s.1 == t.1) a b

same_steps : (steps : List (ℕ × ℕ)) → are_same_steps steps steps ≡ true
same_steps steps = all_same-self _ steps same_step

-- the walk from the clause of this number, over what the lines leave
pub record IsWalkLine (m : Made) (s : State) (n : ℕ) (steps : List (ℕ × ℕ)) (c : Literals) : Type 0
  where
    pub conflict : s.mode ≡ Conflict n
    pub walked : walk_from s.levels m.clauses n ≡ Some (record { steps = steps; clause = c })
    pub leads : leads_back s.levels c ≡ true

walk_stands : (m : Made) (s : State) (n : ℕ) (steps : List (ℕ × ℕ)) (c : Literals) →
    IsWalkLine m s n steps c → may_explain m s n steps c s.mode ≡ true
walk_stands m s n steps c w =
    let is : is_walk (walk_from s.levels m.clauses n) steps c ≡ true =
    ap (λ (o : Option Walk). is_walk o steps c) w.walked
    ∙ and_from (are_same_steps steps steps) (same_clause c c) (same_steps steps)
    (same_clause-self c) in
    ap (may_explain m s n steps c) w.conflict
    ∙ and_from (n == n) (is_walk (walk_from s.levels m.clauses n) steps c && leads_back s.levels c)
    (eq-eqb n n refl) (and_from (is_walk (walk_from s.levels m.clauses n) steps c)
    (leads_back s.levels c) is w.leads)

-- a conflict means that the empty clause wasn't made, and that its own was
pub in_conflict : (m : Made) (boxes : Boxes) (mode : Mode) (n : ℕ) → mode ≡ Conflict n →
    HoldsIn m boxes mode → (has_empty m.clauses ≡ false) × (n < length m.clauses)
in_conflict m boxes mode n e h =
    let here : HoldsIn m boxes (Conflict n) = subst (HoldsIn m boxes) e h in (here.0, here.1)

-- where the lines are in conflict, the walk's line may follow
pub walk_follows : (g : Ground) (ls : List Line) (chain : chains.Chain) (c : Literals) →
    IsRunOf g ls → IsWalkLine (made g ls) (state_of g ls) chain.first chain.steps c →
    is_run g (ls ++ Chain chain c ∷ []) ≡ true
unfolding acceptance.accepts replay.may_stand
walk_follows g ls chain c r w =
    let m = made g ls in
    let s = state_of g ls in
    let n = chain.first in
    let steps = chain.steps in
    let d = clause_at m.clauses n in
    let state = state_is g ls r in
    let open_so_far = in_conflict m s.levels.top.now s.mode n w.conflict state.mode_holds in
    let came = stack_came m.clauses g.domains s.levels state.stack in
    let derived = walk_derived (trail_of s.levels) s.levels.top.now m.clauses d
    (record { steps = steps; clause = c }) came w.walked in
    let same : same_clause (chain_end m.clauses d steps) c ≡ true =
    ap (λ (z : Literals). same_clause z c) derived.ends ∙ same_clause-self c in
    let takes : accepts g m (Chain chain c) ≡ true =
    and_from (nat_lt n (length m.clauses))
    (chain_holds m.clauses d steps && same_clause (chain_end m.clauses d steps) c)
    (lt-ltb n (length m.clauses) open_so_far.1)
    (and_from (chain_holds m.clauses d steps) (same_clause (chain_end m.clauses d steps) c)
    derived.holds same) in
    let comes : may_come g m (Chain chain c) ≡ true = rw (open_so_far.0, takes) refl in
    run_more g ls (Chain chain c)
    ∙ and_from (is_run g ls) (may_come g m (Chain chain c) && may_stand g m s (Chain chain c)) r.run
    (and_from (may_come g m (Chain chain c)) (may_stand g m s (Chain chain c)) comes
    (walk_stands m s n steps c w))
