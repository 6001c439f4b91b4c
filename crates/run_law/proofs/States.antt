-- What every run leaves, line by line.
use Rattle.std.proofs.Common.{◌≡◌, ℕ, zero, suc, ◌<◌, true, false, not, ◌&&◌, List, [], ◌∷◌, ◌++◌, ℤ, length, refl, sym, ◌∙◌, arith, subst, nat_lt, All}
use Rattle.std.proofs.lemmas.Bool.{and_parts, ltb-true, not-true}
use Rattle.signed_clause.specs.Ranges.{Ranges}
use Rattle.signed_clause.specs.Clauses.{Literals, IsClause}
use Rattle.ground_form.specs.declared.ground.Ground.{Ground}
use Rattle.ground_form.specs.WellMade.{IsWellMade}
use Rattle.log_form.specs.declared.line.Line.{Line}
use Rattle.log_form.specs.declared.line.Line.TheVariants.{Axiom, Chain, Bound, Use, Found, Decide, Empty}
use Rattle.log_form.specs.Acceptance.{Made, clause_at, has_empty, chain_holds, chain_end, same_clause, bounds, accepts, after, may_come, made_from, made}
use Rattle.log_form.specs.Acceptance as acceptance
use Rattle.log_check.specs.Soundness.{IsSound}
use Rattle.log_check.proofs.Steps.{sound_step, sound_start, same_clause-equal}
use Rattle.learn_clauses.specs.Learnt.{IsWithinDomains}
use Rattle.learn_clauses.proofs.WithinLaws.{valid_boxes}
use Rattle.run_law.specs.Replay.{State, start, top_boxes, is_going, acts, are_sets_within, may_explain, react, learned, may_stand, changed, next, run_from, is_run, state_from, state_of}
use Rattle.run_law.specs.Lines.{HasSets}
use Rattle.run_law.proofs.LineSets.{has_clause, first_has, rest_has}
use Rattle.run_law.proofs.LineSteps.{decision_parts}
use Rattle.run_law.proofs.FewDecisions.{run_line}
use Rattle.run_law.proofs.Within.{within_each, sets_within, chain_within, bound_within}
use Rattle.run_law.proofs.LevelFacts.{stack_more}
use Rattle.run_law.proofs.LevelSteps.{reacted_stack, decided_stack}
use Rattle.run_law.proofs.StateSteps.{at_append, empty_one, some_at, made_more, made_new, reacted_mode, bounds_mode}
use Rattle.run_law.proofs.ClauseStates.{IsState, aged, nothing_within, IsMore, plus, more_within, reacts, explained_state}

-- ---- one line

-- what is known of a line where it stands
record IsHere (g : Ground) (m : Made) (s : State) (l : Line) : Type 0 where
  pub well_made : IsWellMade g
  pub sets : HasSets l
  pub sound : IsSound g m
  pub open_so_far : has_empty m.clauses ≡ false
  pub accepted : accepts g m l ≡ true
  pub stands : may_stand g m s l ≡ true

axiom_state : (g : Ground) (m : Made) (s : State) (k : ℕ) (c : Literals) →
    IsHere g m s (Axiom k c) → IsState g m s →
    IsState g (after g m (Axiom k c)) (next g m s (Axiom k c))
unfolding may_stand changed after
axiom_state g m s k c h old =
    let p = and_parts (is_going s.mode) (are_sets_within g.domains c && acts (top_boxes s) c)
    h.stands in
    let q = and_parts (are_sets_within g.domains c) (acts (top_boxes s) c) p.1 in
    let valid = valid_boxes g.domains h.well_made.domains in
    let within = within_each g.domains c (sets_within g.domains c 0 valid h.sets q.0) in
    let new : IsMore g m c =
    record { form = h.sets; within = within; open_so_far = h.open_so_far } in
    aged g (plus m c) (react (length m.clauses) c s) (reacts g m s c new old.within old.stack
    (made_more m.clauses (c ∷ []) s.learnt old.learnt_made) old.bounds_made)

use_state : (g : Ground) (m : Made) (s : State) (i : ℕ) → IsHere g m s (Use i) → IsState g m s →
    IsState g (after g m (Use i)) (next g m s (Use i))
unfolding accepts changed after
use_state g m s i h old =
    let c = clause_at m.clauses i in
    let lt : i < length m.clauses = ltb-true i (length m.clauses) h.accepted in
    let some = some_at m.clauses i h.open_so_far lt in
    record {
      within = old.within;
      stack = reacted_stack m.clauses g.domains i c s.levels lt refl (h.sound.forms i) old.stack;
      mode_holds = reacted_mode m i c s.levels (h.open_so_far ∙ sym some) lt refl;
      learnt_made = old.learnt_made;
      bounds_made = old.bounds_made;
    }

decide_state : (g : Ground) (m : Made) (s : State) (x : ℕ) (half : Ranges) →
    IsHere g m s (Decide x half) → IsState g m s →
    IsState g (after g m (Decide x half)) (next g m s (Decide x half))
unfolding changed after
decide_state g m s x half h old =
    let d = decision_parts g m s x half h.sets h.stands in
    record {
      within = old.within;
      stack = decided_stack m.clauses g.domains x half s.levels d.half_is old.stack;
      mode_holds = h.open_so_far;
      learnt_made = old.learnt_made;
      bounds_made = old.bounds_made;
    }

bound_state : (g : Ground) (m : Made) (s : State) (values : List ℤ) →
    IsHere g m s (Bound values) → IsState g m s →
    IsState g (after g m (Bound values)) (next g m s (Bound values))
unfolding changed after
bound_state g m s values h old =
    let cs = bounds g m.found in
    record {
      within = at_append (λ d. IsWithinDomains g.domains d) m.clauses cs
          (nothing_within g.domains) old.within (bound_within g m.found h.well_made h.sound.solved);
      stack = stack_more m.clauses cs g.domains s.levels old.stack;
      mode_holds = bounds_mode (record { clauses = m.clauses ++ cs; found = m.found })
          (top_boxes s) m.clauses cs refl h.open_so_far;
      learnt_made = made_more m.clauses cs s.learnt old.learnt_made;
      bounds_made = made_new m.clauses cs;
    }

chain_state : (g : Ground) (m : Made) (s : State) (first : ℕ) (steps : List (ℕ × ℕ))
    (c : Literals) → IsClause c → IsSound g m → has_empty m.clauses ≡ false →
    (chain_holds m.clauses (clause_at m.clauses first) steps
    && same_clause (chain_end m.clauses (clause_at m.clauses first) steps) c) ≡ true →
    may_explain m s first steps c s.mode ≡ true → IsState g m s →
    IsState g (plus m c) (learned (length m.clauses) c s)
chain_state g m s first steps c f sound open_so_far derived stands old =
    let d = clause_at m.clauses first in
    let p = and_parts (chain_holds m.clauses d steps)
    (same_clause (chain_end m.clauses d steps) c) derived in
    let made_so = chain_within g.domains m.clauses d steps sound.forms old.within
    (sound.forms first) (old.within first) p.0 in
    let is = same_clause-equal (chain_end m.clauses d steps) c p.1 in
    let within = subst (λ (z : Literals). IsWithinDomains g.domains z) is made_so in
    let new : IsMore g m c = record { form = f; within = within; open_so_far = open_so_far } in
    explained_state g m s first steps c s.mode new stands old

empty_state : (g : Ground) (m : Made) (s : State) (x : ℕ) → IsHere g m s (Empty x) →
    IsState g m s → IsState g (after g m (Empty x)) (next g m s (Empty x))
unfolding changed after
empty_state g m s x h old = record {
  within = more_within g m [] old.within (nothing_within g.domains);
  stack = stack_more m.clauses ([] ∷ []) g.domains s.levels old.stack;
  mode_holds = empty_one m.clauses [] h.open_so_far;
  learnt_made = made_more m.clauses ([] ∷ []) s.learnt old.learnt_made;
  bounds_made = made_more m.clauses ([] ∷ []) s.bounds old.bounds_made;
}

line_state : (g : Ground) (m : Made) (s : State) (l : Line) → IsHere g m s l → IsState g m s →
    IsState g (after g m l) (next g m s l)
unfolding accepts may_stand changed after
line_state g m s (Axiom k c) h old = axiom_state g m s k c h old
line_state g m s (Use i) h old = use_state g m s i h old
line_state g m s (Decide x half) h old = decide_state g m s x half h old
line_state g m s (Found a) h old = record {
  within = old.within;
  stack = old.stack;
  mode_holds = (h.open_so_far, refl);
  learnt_made = old.learnt_made;
  bounds_made = old.bounds_made;
}
line_state g m s (Bound values) h old = bound_state g m s values h old
line_state g m s (Chain chain c) h old =
    let d = clause_at m.clauses chain.first in
    let p = and_parts (nat_lt chain.first (length m.clauses))
    (chain_holds m.clauses d chain.steps
    && same_clause (chain_end m.clauses d chain.steps) c) h.accepted in
    aged g (plus m c) (learned (length m.clauses) c s)
    (chain_state g m s chain.first chain.steps c h.sets h.sound h.open_so_far p.1 h.stands old)
line_state g m s (Empty x) h old = empty_state g m s x h old

-- ---- all lines

lines_state : (g : Ground) (m : Made) (s : State) (ls : List Line) → IsWellMade g →
    All (λ l. HasSets l) ls → IsSound g m → run_from g m s ls ≡ true → IsState g m s →
    IsState g (made_from g m ls) (state_from g m s ls)
lines_state g m s [] w f sound h old = old
lines_state g m s (l ∷ ls) w f sound h old =
    let p = run_line g m s l ls h in
    let has = first_has l ls f in
    let come = and_parts (not (has_empty m.clauses)) (accepts g m l) p.comes in
    let here : IsHere g m s l = record {
      well_made = w;
      sets = has;
      sound = sound;
      open_so_far = not-true (has_empty m.clauses) come.0;
      accepted = p.accepted;
      stands = p.stands;
    } in
    lines_state g (after g m l) (next g m s l) ls w (rest_has l ls f)
    (sound_step g m l w (has_clause l has) sound p.accepted) p.rest (line_state g m s l here old)

start_within : (g : Ground) (j : ℕ) → IsWithinDomains g.domains (clause_at [] j)
start_within g zero = nothing_within g.domains
start_within g (suc j) = nothing_within g.domains

start_state : (g : Ground) → IsWellMade g → IsState g acceptance.start (start g)
start_state g w = record {
  within = start_within g;
  stack = (
    record {
      came = tt;
      led = refl;
      boxes = record {
        size = refl;
        sets = valid_boxes g.domains w.domains;
        within = λ x v h. h;
        some = λ x h. h;
      };
      keeps = λ c f k. k;
    },
    refl,
  );
  mode_holds = refl;
  learnt_made = λ k d lt. absurd (omega arith);
  bounds_made = λ k d lt. absurd (omega arith);
}

pub run_state : (g : Ground) (ls : List Line) → IsWellMade g → All (λ l. HasSets l) ls →
    is_run g ls ≡ true → IsState g (made g ls) (state_of g ls)
run_state g ls w f h =
    lines_state g acceptance.start (start g) ls w f (sound_start g) h (start_state g w)
