-- A run has at most as many levels above level 0 as it has decided.
use Rattle.std.proofs.Common.{◌≡◌, ℕ, suc, ◌+◌, ◌≤◌, true, false, not, ◌&&◌, cond, List, [], ◌∷◌, length, refl, arith, subst, Some, None}
use Rattle.std.specs.Prelude.{unwrap_or}
use Rattle.signed_clause.specs.Ranges.{is_nil}
use Rattle.signed_clause.specs.Clauses.{Literals, false_in, unit_of}
use Rattle.ground_form.specs.declared.ground.Ground.{Ground}
use Rattle.log_form.specs.declared.line.Line.{Line}
use Rattle.log_form.specs.declared.line.Line.TheVariants.{Axiom, Chain, Bound, Use, Found, Decide, Empty}
use Rattle.log_form.specs.Acceptance.{Made, clause_at, after}
use Rattle.log_form.specs.Acceptance as acceptance
use Rattle.fd_store.specs.Levels.{Level, Stack, reacted, pruned_by}
use Rattle.learn_clauses.specs.Walk.{back_from, back_to}
use Rattle.run_law.specs.Replay.{State, Closed, start, led_back, react, learned, changed, next, state_from, state_of}
use Rattle.run_law.specs.Decisions.{decisions}
use Rattle.run_law.proofs.Units.{some_same, none_some}
use Rattle.run_law.proofs.FewDecisions.{decisions-cons}

-- how many levels stand above level 0
abbrev depth_of : Stack → ℕ
depth_of s = length s.below

reacted-depth : (k : ℕ) (c : Literals) (s : Stack) → depth_of (reacted k c s) ≡ depth_of s
reacted-depth k c s =
    elim (false_in s.top.now c) as (λ b.
    depth_of (cond b s (pruned_by k (unit_of s.top.now c) s)) ≡ depth_of s) [
      | true ↦ refl
      | false ↦ elim (unit_of s.top.now c) as (λ u. depth_of (pruned_by k u s) ≡ depth_of s) [
        | None ↦ refl
        | Some u ↦ refl
      ]
    ]

back-depth : (c : Literals) (top : Level) (below : List Level) (lower : Stack) →
    back_from c top below ≡ Some lower → depth_of lower ≤ length below
back-depth c top [] lower h = absurd (none_some lower h)
back-depth c top (l ∷ ls) lower h =
    (elim (false_in top.first c && not (false_in l.now c)) as (λ b.
    cond b (Some (record { top = l; below = ls })) (back_from c l ls) ≡ Some lower →
    depth_of lower ≤ suc (length ls)) [
      | true ↦ λ e.
          let here : depth_of (record { top = l; below = ls }) ≤ suc (length ls) = omega arith in
          subst (λ (q : Stack). depth_of q ≤ suc (length ls)) (some_same _ lower e) here
      | false ↦ λ e. let more = back-depth c l ls lower e in omega (arith, more)
    ]) h

learned-depth : (k : ℕ) (c : Literals) (s : State) →
    depth_of (learned k c s).levels ≤ depth_of s.levels
learned-depth k c s =
    let n = depth_of s.levels in
    elim (is_nil c) as (λ b. depth_of
    (cond b (record s { mode = Closed; learnt = c ∷ s.learnt }) (react k c (led_back c s))).levels
    ≤ n) [
      | true ↦ omega arith
      | false ↦ (elim (back_to c s.levels) as (λ o. back_to c s.levels ≡ o →
          depth_of (reacted k c (unwrap_or o s.levels)) ≤ n) [
            | None ↦ λ e. let same = reacted-depth k c s.levels in omega (arith, same)
            | Some lower ↦ λ e.
                let same = reacted-depth k c lower in
                let less = back-depth c s.levels.top s.levels.below lower e in
                omega (arith, same, less)
          ]) refl
    ]

line-depth : (g : Ground) (m : Made) (s : State) (l : Line) →
    depth_of (next g m s l).levels ≤ depth_of s.levels + decisions (l ∷ [])
unfolding changed
line-depth g m s (Axiom k c) =
    let same = reacted-depth (length m.clauses) c s.levels in omega (arith, same)
line-depth g m s (Use i) =
    let same = reacted-depth i (clause_at m.clauses i) s.levels in omega (arith, same)
line-depth g m s (Decide x half) = omega arith
line-depth g m s (Found a) = omega arith
line-depth g m s (Bound values) = omega arith
line-depth g m s (Chain chain c) =
    let less = learned-depth (length m.clauses) c s in omega (arith, less)
line-depth g m s (Empty x) = omega arith

lines-depth : (g : Ground) (m : Made) (s : State) (ls : List Line) →
    depth_of (state_from g m s ls).levels ≤ depth_of s.levels + decisions ls
lines-depth g m s [] = omega arith
lines-depth g m s (l ∷ ls) =
    let one = line-depth g m s l in
    let more = lines-depth g (after g m l) (next g m s l) ls in
    let e = decisions-cons l ls in
    omega (arith, one, more, e)

pub run_depth : (g : Ground) (ls : List Line) →
    length (state_of g ls).levels.below ≤ decisions ls
run_depth g ls =
    let all = lines-depth g acceptance.start (start g) ls in omega (arith, all)
