-- A run decides fewer times than its problem has points.
use Rattle.std.proofs.Common.{◌≡◌, ℕ, suc, ◌+◌, ◌<◌, ◌≤◌, true, false, not, ◌&&◌, ◌||◌, cond, List, [], ◌∷◌, ◌++◌, length, refl, sym, arith, inl, inr, subst, All, Some, None, ◌==◌}
use Rattle.std.proofs.lemmas.Bool.{and_parts, cases_lt}
use Rattle.signed_clause.specs.Ranges.{Ranges, is_nil}
use Rattle.signed_clause.specs.SetAlgebra.{meet}
use Rattle.signed_clause.specs.Clauses.{Literals, box_of, false_in, unit_of, IsClause, AreValid}
use Rattle.signed_clause.proofs.RangeSteps.{IsValid-meet}
use Rattle.ground_form.specs.declared.ground.Ground.{Ground}
use Rattle.ground_form.specs.Solutions.{volume, size_of}
use Rattle.ground_form.specs.WellMade.{IsWellMade}
use Rattle.log_form.specs.declared.line.Line.{Line}
use Rattle.log_form.specs.declared.line.Line.TheVariants.{Axiom, Chain, Bound, Use, Found, Decide, Empty}
use Rattle.log_form.specs.Acceptance.{Made, clause_at, has_empty, accepts, after, may_come}
use Rattle.log_form.specs.Acceptance as acceptance
use Rattle.log_check.specs.Soundness.{IsSound}
use Rattle.log_check.proofs.Steps.{sound_step, sound_start}
use Rattle.fd_store.specs.Levels.{Level, Stack, moved, reacted, pruned_by}
use Rattle.learn_clauses.specs.Walk.{walk_from}
use Rattle.learn_clauses.proofs.WithinLaws.{valid_boxes}
use Rattle.run_law.specs.Replay.{State, Mode, Going, Conflict, AtFound, Closed, start, top_boxes, is_walk, leads_back, may_explain, learned, may_stand, changed, next, run_from, is_run}
use Rattle.run_law.specs.Decisions.{decisions, MayDecide}
use Rattle.run_law.specs.Lines.{HasSets}
use Rattle.run_law.proofs.LineSets.{has_clause, first_has, rest_has, one_more}
use Rattle.run_law.proofs.Volumes.{volume-some, prune_adds_none}
use Rattle.run_law.proofs.Units.{AreValid-set, IsUnitBy, unit_is}
use Rattle.run_law.proofs.Budget.{IsBounded}
use Rattle.run_law.proofs.LineSteps.{bounded_less, decision_parts, line_step, HasForms}

-- ---- counting

pub decisions-cons : (l : Line) (ls : List Line) →
    decisions (l ∷ ls) ≡ decisions (l ∷ []) + decisions ls
decisions-cons (Axiom k c) ls = omega arith
decisions-cons (Chain chain c) ls = omega arith
decisions-cons (Bound values) ls = omega arith
decisions-cons (Use i) ls = omega arith
decisions-cons (Found a) ls = omega arith
decisions-cons (Decide x half) ls = omega arith
decisions-cons (Empty x) ls = omega arith

decisions-behind : (ls : List Line) (x : ℕ) (half : Ranges) →
    decisions (ls ++ Decide x half ∷ []) ≡ suc (decisions ls)
decisions-behind [] x half = refl
decisions-behind (l ∷ ls) x half =
    let more = decisions-behind ls x half in
    let one = decisions-cons l (ls ++ Decide x half ∷ []) in
    let other = decisions-cons l ls in
    omega (arith, more, one, other)

-- ---- one line of a run

-- the parts of one line of a run
pub record IsRunLine (g : Ground) (m : Made) (s : State) (l : Line) (ls : List Line) : Type 0 where
  pub comes : may_come g m l ≡ true
  pub accepted : accepts g m l ≡ true
  pub stands : may_stand g m s l ≡ true
  pub rest : run_from g (after g m l) (next g m s l) ls ≡ true

pub run_line : (g : Ground) (m : Made) (s : State) (l : Line) (ls : List Line) →
    run_from g m s (l ∷ ls) ≡ true → IsRunLine g m s l ls
run_line g m s l ls h =
    let rest = run_from g (after g m l) (next g m s l) ls in
    let p = and_parts (may_come g m l) (may_stand g m s l && rest) h in
    let q = and_parts (may_stand g m s l) rest p.1 in
    let a = and_parts (not (has_empty m.clauses)) (accepts g m l) p.0 in
    record { comes = p.0; accepted = a.1; stands = q.0; rest = q.1 }

-- ---- a problem that has a point

run_less : (g : Ground) (m : Made) (s : State) (d : ℕ) (ls : List Line) → IsWellMade g →
    All (λ l. HasSets l) ls → IsSound g m → run_from g m s ls ≡ true →
    IsBounded g d s.levels s.mode → d + decisions ls < size_of g
run_less g m s d [] w f t h b =
    let less = bounded_less g d s.levels s.mode b in omega (arith, less)
run_less g m s d (l ∷ ls) w f t h b =
    let p = run_line g m s l ls h in
    let has = first_has l ls f in
    let more = run_less g (after g m l) (next g m s l) (d + decisions (l ∷ [])) ls w
    (rest_has l ls f) (sound_step g m l w (has_clause l has) t p.accepted) p.rest
    (line_step g m s d l has t.forms p.stands b) in
    let e = decisions-cons l ls in
    omega (arith, more, e)

pub decides_less : (g : Ground) (ls : List Line) → IsWellMade g → All (λ l. HasSets l) ls →
    is_run g ls ≡ true → 1 ≤ size_of g → decisions ls < size_of g
decides_less g ls w f h some =
    let first : IsBounded g 0 (start g).levels (start g).mode = record {
      stack = tt;
      sets = valid_boxes g.domains w.domains;
      alive = some;
      within = omega arith;
    } in
    let less = run_less g acceptance.start (start g) 0 ls w f (sound_start g) h first in
    omega (arith, less)

-- ---- a problem without a point

-- level 0 alone stands, and has no point
record IsVoid (n : ℕ) (s : Stack) : Type 0 where
  pub sets : AreValid s.top.now
  pub none : volume n s.top.now ≡ 0
  pub alone : s.below ≡ []

pruned_void : (n k : ℕ) (s : Stack) (u : ℕ × Ranges) (z : Ranges) → IsVoid n s →
    IsUnitBy s.top.now u z → IsVoid n (moved (Some k) u.0 u.1 s)
pruned_void n k s u z v w =
    let left = meet z (box_of s.top.now u.0) in
    let P : Ranges → Type 0 = λ set. IsVoid n (moved (Some k) u.0 set s) in
    let adds = prune_adds_none n s.top.now u.0 z v.sets w.valid w.exists in
    let none = v.none in
    let here : P left = record {
      sets = AreValid-set s.top.now u.0 left w.exists v.sets
          (IsValid-meet z (box_of s.top.now u.0) w.valid (v.sets u.0));
      none = omega (arith, adds, none);
      alone = v.alone;
    } in
    subst P (sym w.is) here

reacted_void : (n k : ℕ) (s : Stack) (c : Literals) → IsClause c → IsVoid n s →
    IsVoid n (reacted k c s)
reacted_void n k s c f v =
    elim (false_in s.top.now c) as (λ b.
    IsVoid n (cond b s (pruned_by k (unit_of s.top.now c) s))) [
      | true ↦ v
      | false ↦ (elim (unit_of s.top.now c) as (λ u. unit_of s.top.now c ≡ u →
          IsVoid n (pruned_by k u s)) [
            | None ↦ λ e. v
            | Some u ↦ λ e.
                let w = unit_is c 0 s.top.now u f e in pruned_void n k s u w.0 v w.1
          ]) refl
    ]

-- no clause leads back where no level stands below
nowhere_back : (below : List Level) (top : Level) (c : Literals) → below ≡ [] →
    leads_back (record { top = top; below = below }) c ≡ true → is_nil c ≡ true
nowhere_back [] top c e h =
    (elim (is_nil c) as (λ b. (b || false) ≡ true → b ≡ true) [
      | true ↦ λ h. refl
      | false ↦ λ h. h
    ]) h
nowhere_back (l ∷ ls) top c e h = absurd cc

learned_void : (n k : ℕ) (s : State) (c : Literals) → leads_back s.levels c ≡ true →
    IsVoid n s.levels → IsVoid n (learned k c s).levels
learned_void n k s c h v =
    let nil = nowhere_back s.levels.below s.levels.top c v.alone h in rw nil v

explain_void : (m : Made) (n k j : ℕ) (s : State) (steps : List (ℕ × ℕ)) (c : Literals)
    (mode : Mode) → may_explain m s j steps c mode ≡ true → IsVoid n s.levels →
    IsVoid n (learned k c s).levels
explain_void m n k j s steps c Going h v = absurd cc
explain_void m n k j s steps c (Conflict i) h v =
    let walk = walk_from s.levels m.clauses i in
    let p = and_parts (j == i) (is_walk walk steps c && leads_back s.levels c) h in
    let q = and_parts (is_walk walk steps c) (leads_back s.levels c) p.1 in
    learned_void n k s c q.1 v
explain_void m n k j s steps c AtFound h v = absurd cc
explain_void m n k j s steps c Closed h v = absurd cc

-- no line decides, and each leaves it so
line_void : (g : Ground) (m : Made) (s : State) (l : Line) → HasSets l → HasForms m →
    may_stand g m s l ≡ true → IsVoid g.search s.levels →
    (decisions (l ∷ []) ≡ 0) × IsVoid g.search (next g m s l).levels
unfolding may_stand changed
line_void g m s (Axiom k c) f t h v =
    (refl, reacted_void g.search (length m.clauses) s.levels c f v)
line_void g m s (Use i) f t h v =
    (refl, reacted_void g.search i s.levels (clause_at m.clauses i) (t i) v)
line_void g m s (Decide x half) f t h v =
    let some = volume-some g.search (top_boxes s) (decision_parts g m s x half f h).some in
    let none = v.none in
    absurd (omega (arith, some, none))
line_void g m s (Found a) f t h v = (refl, v)
line_void g m s (Bound values) f t h v = (refl, v)
line_void g m s (Chain chain c) f t h v =
    (refl, explain_void m g.search (length m.clauses) chain.first s chain.steps c s.mode h v)
line_void g m s (Empty x) f t h v = (refl, v)

run_void : (g : Ground) (m : Made) (s : State) (ls : List Line) → IsWellMade g →
    All (λ l. HasSets l) ls → IsSound g m → run_from g m s ls ≡ true → IsVoid g.search s.levels →
    decisions ls ≡ 0
run_void g m s [] w f t h v = refl
run_void g m s (l ∷ ls) w f t h v =
    let p = run_line g m s l ls h in
    let has = first_has l ls f in
    let one = line_void g m s l has t.forms p.stands v in
    let more = run_void g (after g m l) (next g m s l) ls w (rest_has l ls f)
    (sound_step g m l w (has_clause l has) t p.accepted) p.rest one.1 in
    let e = decisions-cons l ls in
    let none = one.0 in
    omega (arith, more, e, none)

-- ---- a further decision

pub decides_less_by_two : (g : Ground) (ls : List Line) → IsWellMade g → All (λ l. HasSets l) ls →
    MayDecide g ls → decisions ls + 2 ≤ size_of g
decides_less_by_two g ls w f d =
    let more = ls ++ Decide d.var d.half ∷ [] in
    let has : All (λ l. HasSets l) more = one_more ls (Decide d.var d.half) f d.set in
    let count = decisions-behind ls d.var d.half in
    elim (cases_lt 0 (size_of g)) [
      | inl some ↦
          let less = decides_less g more w has d.stands (omega (arith, some)) in
          omega (arith, less, count)
      | inr zero_size ↦
          let first : IsVoid g.search (start g).levels = record {
            sets = valid_boxes g.domains w.domains;
            none = omega (arith, zero_size);
            alone = refl;
          } in
          let none = run_void g acceptance.start (start g) more w has (sound_start g) d.stands
          first in
          absurd (omega (arith, none, count))
    ]

pub ruleset laws_of_decisions = (decides_less, decides_less_by_two)
