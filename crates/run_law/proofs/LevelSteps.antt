-- What a decision, a clause and a learnt clause leave of the levels of a run.
use Rattle.std.proofs.Common.{◌≡◌, ℕ, ◌<◌, true, false, not, ◌&&◌, cond, List, [], ◌∷◌, length, refl, sym, ap, ◌∙◌, subst, slice_set, Some, None}
use Rattle.std.proofs.lemmas.Bool.{and_parts, not-true}
use Rattle.signed_clause.specs.Ranges.{Ranges}
use Rattle.signed_clause.specs.Clauses.{Boxes, Literals, box_of, false_in, unit_of, IsClause}
use Rattle.fd_store.specs.Levels.{Level, Stack, moved, reacted, pruned_by}
use Rattle.fd_store.proofs.StackLaws.{put_back}
use Rattle.log_form.specs.Acceptance.{clause_at}
use Rattle.learn_clauses.specs.Walk.{back_from, back_to}
use Rattle.learn_clauses.specs.Learnt.{IsFrom, AreFrom}
use Rattle.run_law.proofs.Units.{some_same, none_some, box-set_same, unit_is, IsHalf}
use Rattle.run_law.proofs.LevelFacts.{IsPart, part_in, part_keeps, half_part, unit_part, undone_by, IsLevel, AreLevels, IsStack, stack_boxes}

-- ---- a pruning

-- clause k was made, and it is unit in the boxes, with this pair
pub record IsPruning (clauses : List Literals) (boxes : Boxes) (k : ℕ) (u : ℕ × Ranges) : Type 0
  where
    pub made : k < length clauses
    pub unit : unit_of boxes (clause_at clauses k) ≡ Some u
    pub exists : u.0 < length boxes
    pub part : IsPart (box_of boxes u.0) u.1

-- the last level behind it
abbrev behind : ℕ → ℕ × Ranges → Level → Level
behind k u l = record {
  first = l.first;
  now = slice_set l.now u.0 u.1;
  entries = record { var = u.0; before = box_of l.now u.0; from = Some k } ∷ l.entries;
}

pruned_level : (clauses : List Literals) (domains before : Boxes) (k : ℕ) (u : ℕ × Ranges)
    (l : Level) → IsPruning clauses l.now k u → IsLevel clauses domains before l →
    IsLevel clauses domains before (behind k u l)
pruned_level clauses domains before k u l w h =
    let now = slice_set l.now u.0 u.1 in
    let back : slice_set now u.0 (box_of l.now u.0) ≡ l.now = put_back l.now u.0 u.1 in
    let at : box_of now u.0 ≡ u.1 = box-set_same l.now u.0 u.1 w.exists in
    let here : IsFrom (Some k) clauses l.now u.0 u.1 = (w.made, w.unit) in
    let came : IsFrom (Some k) clauses l.now u.0 (box_of now u.0) =
    subst (λ (s : Ranges). IsFrom (Some k) clauses l.now u.0 s) (sym at) here in
    let P : Boxes → Type 0 = λ b. IsFrom (Some k) clauses b u.0 (box_of now u.0)
    × AreFrom clauses b l.entries in
    record {
      came = subst P (sym back) (came, h.came);
      led = ap (λ (b : Boxes). undone_by b l.entries) back ∙ h.led;
      boxes = part_in domains l.now u.0 u.1 h.boxes w.exists w.part;
      keeps = λ c f k. part_keeps l.now u.0 u.1 h.boxes.sets w.exists w.part c f (h.keeps c f k);
    }

pruned_levels : (clauses : List Literals) (domains : Boxes) (k : ℕ) (u : ℕ × Ranges) (top : Level)
    (below : List Level) → IsPruning clauses top.now k u → AreLevels clauses domains top below →
    AreLevels clauses domains (behind k u top) below
pruned_levels clauses domains k u top [] w a =
    (pruned_level clauses domains domains k u top w a.0, a.1)
pruned_levels clauses domains k u top (l ∷ ls) w a =
    (pruned_level clauses domains l.now k u top w a.0, a.1, a.2)

-- clause k, which was made, prunes or leaves all as it was
pub reacted_stack : (clauses : List Literals) (domains : Boxes) (k : ℕ) (c : Literals) (s : Stack) →
    k < length clauses → clause_at clauses k ≡ c → IsClause c → IsStack clauses domains s →
    IsStack clauses domains (reacted k c s)
reacted_stack clauses domains k c s lt is f a =
    elim (false_in s.top.now c) as (λ b.
    IsStack clauses domains (cond b s (pruned_by k (unit_of s.top.now c) s))) [
      | true ↦ a
      | false ↦ (elim (unit_of s.top.now c) as (λ u. unit_of s.top.now c ≡ u →
          IsStack clauses domains (pruned_by k u s)) [
            | None ↦ λ e. a
            | Some u ↦ λ e.
                let w = unit_is c 0 s.top.now u f e in
                let boxes = stack_boxes clauses domains s a in
                let prunes : IsPruning clauses s.top.now k u = record {
                  made = lt;
                  unit = ap (unit_of s.top.now) is ∙ e;
                  exists = w.1.exists;
                  part = unit_part s.top.now u w.0 boxes.sets w.1;
                } in
                pruned_levels clauses domains k u s.top s.below prunes a
          ]) refl
    ]

-- ---- a decision

pub decided_stack : (clauses : List Literals) (domains : Boxes) (x : ℕ) (half : Ranges)
    (s : Stack) → IsHalf s.top.now x half → IsStack clauses domains s →
    IsStack clauses domains (moved None x half s)
decided_stack clauses domains x half s w a =
    let boxes = stack_boxes clauses domains s a in
    let part = half_part s.top.now x half boxes.sets w in (
      record {
        came = (tt, tt);
        led = put_back s.top.now x half;
        boxes = part_in domains s.top.now x half boxes w.exists part;
        keeps = λ c f k. k;
      },
      record { var = x; half = half; is_half = w; is = refl },
      a,
    )

-- ---- levels that are dropped

levels_back : (clauses : List Literals) (domains : Boxes) (c : Literals) (top : Level)
    (below : List Level) (lower : Stack) → back_from c top below ≡ Some lower →
    AreLevels clauses domains top below →
    IsStack clauses domains lower × (false_in lower.top.now c ≡ false)
levels_back clauses domains c top [] lower h a = absurd (none_some lower h)
levels_back clauses domains c top (l ∷ ls) lower h a =
    (elim (false_in top.first c && not (false_in l.now c)) as (λ b.
    (false_in top.first c && not (false_in l.now c)) ≡ b →
    cond b (Some (record { top = l; below = ls })) (back_from c l ls) ≡ Some lower →
    IsStack clauses domains lower × (false_in lower.top.now c ≡ false)) [
      | true ↦ λ b e.
          let out = (and_parts (false_in top.first c) (not (false_in l.now c)) b).1 in
          let P : Stack → Type 0 = λ q. IsStack clauses domains q × (false_in q.top.now c ≡ false)
          in
          let here : P (record { top = l; below = ls }) = (a.2, not-true (false_in l.now c) out) in
          subst P (some_same (record { top = l; below = ls }) lower e) here
      | false ↦ λ b e. levels_back clauses domains c l ls lower e a.2
    ]) refl h

-- those that a clause leads back to are levels still, and it isn't false there
pub stack_back : (clauses : List Literals) (domains : Boxes) (c : Literals) (s lower : Stack) →
    back_to c s ≡ Some lower → IsStack clauses domains s →
    IsStack clauses domains lower × (false_in lower.top.now c ≡ false)
stack_back clauses domains c s lower h a =
    levels_back clauses domains c s.top s.below lower h a
