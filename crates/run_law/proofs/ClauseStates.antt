-- What a new clause leaves of a run's levels, modes and clauses.
use Rattle.std.proofs.Common.{◌≡◌, ℕ, ◌<◌, true, false, ◌&&◌, ◌||◌, cond, List, [], ◌∷◌, ◌++◌, length, refl, ◌∙◌, arith, ◌==◌, Some, None, is_some}
use Rattle.std.specs.Prelude.{unwrap_or}
use Rattle.std.specs.List.{Contains}
use Rattle.std.proofs.lemmas.List.{get_or_push, length_push}
use Rattle.std.proofs.lemmas.List.Elements.{Contains-push, All-cons}
use Rattle.std.proofs.lemmas.Bool.{and_parts}
use Rattle.signed_clause.specs.Ranges.{is_nil}
use Rattle.signed_clause.specs.Clauses.{Boxes, Literals, IsClause}
use Rattle.ground_form.specs.declared.ground.Ground.{Ground}
use Rattle.log_form.specs.Acceptance.{Made, clause_at, has_empty, bounds}
use Rattle.learn_clauses.specs.Walk.{walk_from, back_to}
use Rattle.learn_clauses.specs.Learnt.{IsWithinDomains}
use Rattle.run_law.specs.Replay.{State, Mode, Going, Conflict, AtFound, Closed, top_boxes, is_walk, leads_back, may_explain, led_back, react, learned}
use Rattle.run_law.proofs.LevelFacts.{IsStack, stack_more}
use Rattle.run_law.proofs.LevelSteps.{reacted_stack, stack_back}
use Rattle.run_law.proofs.StateSteps.{at_append, empty_one, AreMade, made_more, HoldsIn, reacted_mode}

-- what the lines so far leave is as every run leaves it
pub record IsState (g : Ground) (m : Made) (s : State) : Type 0 where
  pub within : (j : ℕ) → IsWithinDomains g.domains (clause_at m.clauses j)
  pub stack : IsStack m.clauses g.domains s.levels
  pub mode_holds : HoldsIn m (top_boxes s) s.mode
  pub learnt_made : AreMade m.clauses s.learnt
  pub bounds_made : AreMade m.clauses s.bounds

-- whether a line stood before doesn't matter
pub aged : (g : Ground) (m : Made) (s : State) → IsState g m s →
    IsState g m (record s { fresh = false })
aged g m s h = record {
  within = h.within;
  stack = h.stack;
  mode_holds = h.mode_holds;
  learnt_made = h.learnt_made;
  bounds_made = h.bounds_made;
}

pub nothing_within : (domains : Boxes) → IsWithinDomains domains []
nothing_within domains x v h = absurd cc

-- ---- a clause more

-- the clauses with one more, and the facts that an old state and a new clause have
pub record IsMore (g : Ground) (m : Made) (c : Literals) : Type 0 where
  pub form : IsClause c
  pub within : IsWithinDomains g.domains c
  pub open_so_far : has_empty m.clauses ≡ false

abbrev pub plus : Made → Literals → Made
plus m c = record { clauses = m.clauses ++ c ∷ []; found = m.found }

pub more_within : (g : Ground) (m : Made) (c : Literals) →
    ((j : ℕ) → IsWithinDomains g.domains (clause_at m.clauses j)) →
    IsWithinDomains g.domains c →
    (j : ℕ) → IsWithinDomains g.domains (clause_at (plus m c).clauses j)
more_within g m c old new =
    at_append (λ d. IsWithinDomains g.domains d) m.clauses (c ∷ []) (nothing_within g.domains) old
    (new, tt)

-- a new clause reacts on a state of which only mode and bounds needn't be known
pub reacts : (g : Ground) (m : Made) (s : State) (c : Literals) → IsMore g m c →
    ((j : ℕ) → IsWithinDomains g.domains (clause_at m.clauses j)) →
    IsStack m.clauses g.domains s.levels → AreMade (plus m c).clauses s.learnt →
    AreMade m.clauses s.bounds → IsState g (plus m c) (react (length m.clauses) c s)
reacts g m s c new old stack learnt bounds =
    let k = length m.clauses in
    let more = (plus m c).clauses in
    let long = length_push m.clauses c in
    let there : k < length more = omega (arith, long) in
    let at : clause_at more k ≡ c = get_or_push m.clauses c [] k refl in
    record {
      within = more_within g m c old new.within;
      stack = reacted_stack more g.domains k c s.levels there at new.form
          (stack_more m.clauses (c ∷ []) g.domains s.levels stack);
      mode_holds = reacted_mode (plus m c) k c s.levels (empty_one m.clauses c new.open_so_far)
          there at;
      learnt_made = learnt;
      bounds_made = made_more m.clauses (c ∷ []) s.bounds bounds;
    }

-- ---- a chain

learnt_more : (m : Made) (s : State) (c : Literals) → AreMade m.clauses s.learnt →
    AreMade (plus m c).clauses (c ∷ s.learnt)
learnt_more m s c h =
    All-cons (λ d. Contains (plus m c).clauses d) c s.learnt (Contains-push m.clauses c)
    (made_more m.clauses (c ∷ []) s.learnt h)

learned_state : (g : Ground) (m : Made) (s : State) (c : Literals) → IsMore g m c →
    leads_back s.levels c ≡ true → IsState g m s →
    IsState g (plus m c) (learned (length m.clauses) c s)
learned_state g m s c new h old =
    let k = length m.clauses in
    let P : State → Type 0 = λ t. IsState g (plus m c) t in
    let learnt = learnt_more m s c old.learnt_made in
    let closed : State = record s { mode = Closed; learnt = c ∷ s.learnt } in
    (elim (is_nil c) as (λ b. is_nil c ≡ b → (b || is_some (back_to c s.levels)) ≡ true →
    P (cond b closed (react k c (led_back c s)))) [
      | true ↦ λ e h. record {
        within = more_within g m c old.within new.within;
        stack = stack_more m.clauses (c ∷ []) g.domains s.levels old.stack;
        mode_holds = empty_one m.clauses c new.open_so_far ∙ e;
        learnt_made = learnt;
        bounds_made = made_more m.clauses (c ∷ []) s.bounds old.bounds_made;
      }
      | false ↦ λ e h. (elim (back_to c s.levels) as (λ o. back_to c s.levels ≡ o →
          is_some o ≡ true →
          P (react k c (record s { levels = unwrap_or o s.levels; learnt = c ∷ s.learnt }))) [
            | None ↦ λ e h. absurd cc
            | Some lower ↦ λ e h.
                let below = stack_back m.clauses g.domains c s.levels lower e old.stack in
                reacts g m (record s { levels = lower; learnt = c ∷ s.learnt }) c new old.within
                below.0 learnt old.bounds_made
          ]) refl h
    ]) refl h

pub explained_state : (g : Ground) (m : Made) (s : State) (n : ℕ) (steps : List (ℕ × ℕ))
    (c : Literals) (mode : Mode) → IsMore g m c → may_explain m s n steps c mode ≡ true →
    IsState g m s → IsState g (plus m c) (learned (length m.clauses) c s)
explained_state g m s n steps c Going new h old = absurd cc
explained_state g m s n steps c (Conflict j) new h old =
    let walk = walk_from s.levels m.clauses j in
    let p = and_parts (n == j) (is_walk walk steps c && leads_back s.levels c) h in
    let q = and_parts (is_walk walk steps c) (leads_back s.levels c) p.1 in
    learned_state g m s c new q.1 old
explained_state g m s n steps c AtFound new h old = absurd cc
explained_state g m s n steps c Closed new h old = absurd cc
