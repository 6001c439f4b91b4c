-- The quantity that bounds the decisions of a run, and what a clause and a decision do to it.
--
-- Each level begins with a part of the boxes below, and what that part leaves aside has to be come
-- back to. The decisions so far, the points of the present boxes, and what each level leaves aside
-- less one, together are at most as many as the problem's points.
use Rattle.std.proofs.Common.{◌≡◌, ℕ, ◌+◌, ◌-◌, ◌≤◌, true, false, not, ◌&&◌, cond, List, [], ◌∷◌, refl, sym, ap, arith, subst, slice_set, Some, None}
use Rattle.std.proofs.Math.Nat.{le_refl}
use Rattle.std.proofs.lemmas.Bool.{and_parts, not-true}
use Rattle.signed_clause.specs.Ranges.{Ranges}
use Rattle.signed_clause.specs.SetAlgebra.{meet}
use Rattle.signed_clause.specs.Clauses.{Boxes, Literals, box_of, false_in, unit_of, IsClause, AreValid}
use Rattle.signed_clause.proofs.RangeSteps.{IsValid-meet}
use Rattle.ground_form.specs.declared.ground.Ground.{Ground}
use Rattle.ground_form.specs.Solutions.{volume, size_of}
use Rattle.fd_store.specs.Levels.{Level, Stack, moved, reacted, pruned_by}
use Rattle.learn_clauses.specs.Walk.{back_from, back_to}
use Rattle.run_law.specs.Replay.{Mode, Going, Conflict, AtFound, Closed}
use Rattle.run_law.proofs.Volumes.{IsCut, prune_adds_none, prune_leaves_some, cut_volume, beside_volume}
use Rattle.run_law.proofs.Units.{some_same, none_some, IsUnitBy, unit_is, IsHalf, unit_before, AreValid-set}

-- each level is a cut of the one below, whose boxes are sets and have a point
abbrev pub Stacked : ℕ → Level → List Level → Type 0
Stacked n top [] = Unit {0}
Stacked n top (l ∷ ls) =
    IsCut n l.now top.first × AreValid l.now × (1 ≤ volume n l.now) × Stacked n l ls

-- what each level leaves aside, less one, added up
abbrev pub pending : ℕ → Level → List Level → ℕ
pending n top [] = 0
pending n top (l ∷ ls) = (volume n l.now - volume n top.first) - 1 + pending n l ls

-- what the points of the present boxes count for
abbrev pub counted : Mode → ℕ → ℕ
counted Going v = v
counted (Conflict k) v = 1
counted AtFound v = v
counted Closed v = 1

abbrev pub Alive : Mode → ℕ → Type 0
Alive Going v = 1 ≤ v
Alive (Conflict k) v = Unit {0}
Alive AtFound v = 1 ≤ v
Alive Closed v = Unit {0}

-- behind so many decisions
pub record IsBounded (g : Ground) (decided : ℕ) (s : Stack) (mode : Mode) : Type 0 where
  pub stack : Stacked g.search s.top s.below
  pub sets : AreValid s.top.now
  pub alive : Alive mode (volume g.search s.top.now)
  pub within : decided + counted mode (volume g.search s.top.now) + pending g.search s.top s.below
      ≤ size_of g

-- the same where the present boxes have a point, and all of their points count
pub record IsOpen (g : Ground) (decided : ℕ) (s : Stack) : Type 0 where
  pub stack : Stacked g.search s.top s.below
  pub sets : AreValid s.top.now
  pub alive : 1 ≤ volume g.search s.top.now
  pub within : decided + volume g.search s.top.now + pending g.search s.top s.below ≤ size_of g

pub in_mode : (g : Ground) (d : ℕ) (s : Stack) (mode : Mode) → IsOpen g d s → IsBounded g d s mode
in_mode g d s Going o =
    record { stack = o.stack; sets = o.sets; alive = o.alive; within = o.within }
in_mode g d s (Conflict k) o =
    let alive = o.alive in
    let within = o.within in
    record { stack = o.stack; sets = o.sets; alive = tt; within = omega (arith, alive, within) }
in_mode g d s AtFound o =
    record { stack = o.stack; sets = o.sets; alive = o.alive; within = o.within }
in_mode g d s Closed o =
    let alive = o.alive in
    let within = o.within in
    record { stack = o.stack; sets = o.sets; alive = tt; within = omega (arith, alive, within) }

-- ---- what doesn't matter to the levels below: all of the last level but its first boxes

stack_kept : (n : ℕ) (top other : Level) (ls : List Level) → top.first ≡ other.first →
    Stacked n top ls → Stacked n other ls
stack_kept n top other [] e s = tt
stack_kept n top other (l ∷ ls) e s = (subst (IsCut n l.now) e s.0, s.1, s.2, s.3)

pending_kept : (n : ℕ) (top other : Level) (ls : List Level) → top.first ≡ other.first →
    pending n top ls ≡ pending n other ls
pending_kept n top other [] e = refl
pending_kept n top other (l ∷ ls) e =
    ap (λ b. (volume n l.now - volume n b) - 1 + pending n l ls) e

-- ---- a clause

pruned_open : (g : Ground) (d k : ℕ) (s : Stack) (u : ℕ × Ranges) (z : Ranges) → IsOpen g d s →
    IsUnitBy s.top.now u z → IsOpen g d (moved (Some k) u.0 u.1 s)
pruned_open g d k s u z o w =
    let n = g.search in
    let left = meet z (box_of s.top.now u.0) in
    let P : Ranges → Type 0 = λ set. IsOpen g d (moved (Some k) u.0 set s) in
    let adds = prune_adds_none n s.top.now u.0 z o.sets w.valid w.exists in
    let same = pending_kept n s.top (moved (Some k) u.0 left s).top s.below refl in
    let within = o.within in
    let here : P left = record {
      stack = stack_kept n s.top _ s.below refl o.stack;
      sets = AreValid-set s.top.now u.0 left w.exists o.sets
          (IsValid-meet z (box_of s.top.now u.0) w.valid (o.sets u.0));
      alive = prune_leaves_some n s.top.now u.0 z w.exists w.meets o.alive;
      within = omega (arith, adds, same, within);
    } in
    subst P (sym w.is) here

-- it prunes, or leaves all as it was
pub reacted_open : (g : Ground) (d k : ℕ) (s : Stack) (c : Literals) → IsClause c →
    IsOpen g d s → IsOpen g d (reacted k c s)
reacted_open g d k s c f o =
    elim (false_in s.top.now c) as (λ b.
    IsOpen g d (cond b s (pruned_by k (unit_of s.top.now c) s))) [
      | true ↦ o
      | false ↦ (elim (unit_of s.top.now c) as (λ u. unit_of s.top.now c ≡ u →
          IsOpen g d (pruned_by k u s)) [
            | None ↦ λ e. o
            | Some u ↦ λ e.
                let w = unit_is c 0 s.top.now u f e in
                pruned_open g d k s u w.0 o w.1
          ]) refl
    ]

-- ---- a decision

pub decided_open : (g : Ground) (d x : ℕ) (half : Ranges) (s : Stack) → IsOpen g d s →
    IsCut g.search s.top.now (slice_set s.top.now x half) → AreValid (slice_set s.top.now x half) →
    IsOpen g (d + 1) (moved None x half s)
decided_open g d x half s o cut sets =
    let volumes = cut_volume g.search s.top.now (slice_set s.top.now x half) o.sets o.alive cut in
    let within = o.within in
    record {
      stack = (cut, o.sets, o.alive, o.stack);
      sets = sets;
      alive = volumes.0;
      within = omega (arith, volumes, within);
    }

-- ---- a learnt clause

-- the level t stands above those that the clause drops to
record IsJump (n : ℕ) (c : Literals) (t : Level) (lower : Stack) : Type 0 where
  pub stack : Stacked n t (lower.top ∷ lower.below)
  pub at : false_in t.first c ≡ true
  pub not_below : false_in lower.top.now c ≡ false

jump_to : (n : ℕ) (c : Literals) (top : Level) (below : List Level) (lower : Stack) →
    Stacked n top below → back_from c top below ≡ Some lower →
    (t : Level) × IsJump n c t lower
    × (pending n t (lower.top ∷ lower.below) ≤ pending n top below)
jump_to n c top [] lower s h = absurd (none_some lower h)
jump_to n c top (l ∷ ls) lower s h =
    (elim (false_in top.first c && not (false_in l.now c)) as (λ b.
    (false_in top.first c && not (false_in l.now c)) ≡ b →
    cond b (Some (record { top = l; below = ls })) (back_from c l ls) ≡ Some lower →
    (t : Level) × IsJump n c t lower
    × (pending n t (lower.top ∷ lower.below) ≤ pending n top (l ∷ ls))) [
      | true ↦ λ b e.
          let parts = and_parts (false_in top.first c) (not (false_in l.now c)) b in
          let here : IsJump n c top (record { top = l; below = ls }) =
          record { stack = s; at = parts.0; not_below = not-true (false_in l.now c) parts.1 } in
          let P : Stack → Type 0 = λ q. (t : Level) × IsJump n c t q
          × (pending n t (q.top ∷ q.below) ≤ pending n top (l ∷ ls)) in
          let at : P (record { top = l; below = ls }) = (top, here, le_refl _) in
          subst P (some_same (record { top = l; below = ls }) lower e) at
      | false ↦ λ b e.
          let more = jump_to n c l ls lower s.3 e in
          let le = more.2 in
          (more.0, more.1, omega (arith, le))
    ]) refl h

-- the pruned boxes fit beside the half of the level that is dropped
jumped_open : (g : Ground) (d k : ℕ) (s : Stack) (c : Literals) (t : Level) → IsClause c →
    IsJump g.search c t s → d + 1 + pending g.search t (s.top ∷ s.below) ≤ size_of g →
    IsOpen g d (reacted k c s)
jumped_open g d k s c t f j within =
    let n = g.search in
    let st = j.stack in
    let cut = st.0 in
    let x = cut.var in
    let half : IsHalf s.top.now x cut.half =
    record { exists = cut.exists; valid = cut.valid; some = cut.some; part = cut.part } in
    let at : false_in (slice_set s.top.now x cut.half) c ≡ true =
    subst (λ (b : Boxes). false_in b c ≡ true) cut.is j.at in
    let unit = unit_before c 0 s.top.now x cut.half f st.1 half at j.not_below in
    let z = unit.0 in
    let left = meet z (box_of s.top.now x) in
    let by = unit.1.by in
    let volumes = cut_volume n s.top.now t.first st.1 st.2 cut in
    let beside = beside_volume n s.top.now t.first z st.1 cut by.valid unit.1.lacks in
    let same = pending_kept n s.top (moved (Some k) x left s).top s.below refl in
    let here : IsOpen g d (moved (Some k) x left s) = record {
      stack = stack_kept n s.top _ s.below refl st.3;
      sets = AreValid-set s.top.now x left cut.exists st.1
          (IsValid-meet z (box_of s.top.now x) by.valid (st.1 x));
      alive = prune_leaves_some n s.top.now x z cut.exists by.meets st.2;
      within = omega (arith, same, beside, volumes, within);
    } in
    let is : reacted k c s ≡ moved (Some k) x left s = rw (j.not_below, unit.1.unit) refl in
    subst (IsOpen g d) (sym is) here

-- where the clause leads back, it prunes the levels that it drops to
pub learned_open : (g : Ground) (d k : ℕ) (s lower : Stack) (c : Literals) → IsClause c →
    Stacked g.search s.top s.below → d + 1 + pending g.search s.top s.below ≤ size_of g →
    back_to c s ≡ Some lower → IsOpen g d (reacted k c lower)
learned_open g d k s lower c f st within e =
    let jump = jump_to g.search c s.top s.below lower st e in
    let le = jump.2 in
    jumped_open g d k lower c jump.0 f jump.1 (omega (arith, le, within))
