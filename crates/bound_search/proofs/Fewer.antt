-- What a clause and a decision leave of the boxes: each lies within what it was, and where a clause
-- prunes there are fewer values.
use Rattle.std.proofs.Common.{◌≡◌, ℕ, zero, suc, ◌+◌, ◌<◌, true, false, not, ◌&&◌, cond, List, [], ◌∷◌, ℤ, length, refl, sym, ap, ◌∙◌, arith, subst, slice_set, Option, Some, None, is_some}
use Rattle.std.proofs.lemmas.Bool.{and_parts, not-true, false_from_ne_true}
use Rattle.signed_clause.specs.Ranges.{Ranges, has, is_nil, IsValid, count_of}
use Rattle.signed_clause.specs.SetAlgebra.{is_disjoint, is_within, meet, less}
use Rattle.signed_clause.specs.Clauses.{Boxes, Literals, box_of, false_in, unit_of, alone_of, IsClauseFrom, IsClause, AreValid}
use Rattle.signed_clause.proofs.RangeSteps.{has-meet_valid, IsValid-meet}
use Rattle.signed_clause.proofs.SetFacts.{within_law}
use Rattle.signed_clause.proofs.CountLaws.{count-part, count-some}
use Rattle.ground_form.specs.declared.ground.Ground.{Ground}
use Rattle.fd_store.specs.Levels.{Level, Stack, moved, reacted, pruned_by}
use Rattle.fd_store.specs.Undo.{AreWider}
use Rattle.prop_queue.specs.Work.{AreAllQuiet}
use Rattle.run_law.specs.Replay.{Going, Conflict, Closed, acts, mode_by}
use Rattle.run_law.proofs.Units.{some_same, none_some, unit_is}
use Rattle.run_law.proofs.LevelFacts.{AreBoxesIn, IsPart, part_in, unit_part}
use Rattle.bound_search.specs.Boards.{IsBelow, AreLower}
use Rattle.bound_search.specs.Engines.{total}

-- ---- fewer values

total-set : (boxes : Boxes) (x : ℕ) (s : Ranges) → x < length boxes →
    total (slice_set boxes x s) + count_of (box_of boxes x) ≡ total boxes + count_of s
total-set [] x s lt = absurd (omega arith)
total-set (b ∷ boxes) zero s lt = omega arith
total-set (b ∷ boxes) (suc x) s lt =
    let more = total-set boxes x s (omega arith) in omega (arith, more)

meet_parts : (s box : Ranges) (v : ℤ) → IsValid s → IsValid box → has (meet s box) v ≡ true →
    (has s v ≡ true) × (has box v ≡ true)
meet_parts s box v f g h =
    and_parts (has s v) (has box v) (sym (has-meet_valid s box f g v) ∙ h)

-- what a set takes away from a box that isn't within it
meet_less : (s box : Ranges) → IsValid s → IsValid box → is_within box s ≡ false →
    count_of (meet s box) < count_of box
meet_less s box f g h =
    let part = meet s box in
    let valid = IsValid-meet s box f g in
    let inside = (within_law part box valid g).1 (λ v k. (meet_parts s box v f g k).1) in
    let whole = count-part part box valid g inside in
    let outside : is_within box part ≡ false = false_from_ne_true (is_within box part) (λ k.
    let sub = (within_law box part g valid).0 k in
    let all = (within_law box s g f).1 (λ v m. (meet_parts s box v f g (sub v m)).0) in
    grind arith) in
    let some = count-some (less box part) outside in
    omega (arith, whole, some)

alone_less : (boxes : Boxes) (l : ℕ × Ranges) (c : Literals) (u : ℕ × Ranges) → IsValid l.1 →
    AreValid boxes → alone_of boxes l c ≡ Some u → count_of u.1 < count_of (box_of boxes u.0)
alone_less boxes l c u f a h =
    (elim (false_in boxes c && not (is_within (box_of boxes l.0) l.1)) as (λ b.
    (false_in boxes c && not (is_within (box_of boxes l.0) l.1)) ≡ b →
    cond b (Some (l.0, meet l.1 (box_of boxes l.0))) None ≡ Some u →
    count_of u.1 < count_of (box_of boxes u.0)) [
      | true ↦ λ k e.
          let p = and_parts (false_in boxes c) (not (is_within (box_of boxes l.0) l.1)) k in
          let here = meet_less l.1 (box_of boxes l.0) f (a l.0)
          (not-true (is_within (box_of boxes l.0) l.1) p.1) in
          subst (λ (u : ℕ × Ranges). count_of u.1 < count_of (box_of boxes u.0)) (some_same _ u e)
          here
      | false ↦ λ k e. absurd (none_some u e)
    ]) refl h

unit_less : (c : Literals) (n : ℕ) (boxes : Boxes) (u : ℕ × Ranges) → IsClauseFrom n c →
    AreValid boxes → unit_of boxes c ≡ Some u → count_of u.1 < count_of (box_of boxes u.0)
unit_less [] n boxes u f a h = absurd (none_some u h)
unit_less (l ∷ c) n boxes u f a h =
    (elim (is_disjoint l.1 (box_of boxes l.0)) as (λ b.
    cond b (unit_of boxes c) (alone_of boxes l c) ≡ Some u →
    count_of u.1 < count_of (box_of boxes u.0)) [
      | true ↦ λ e. unit_less c (suc l.0) boxes u f.3 a e
      | false ↦ λ e. alone_less boxes l c u f.2 a e
    ]) h

-- the clause isn't false and yet acts: it is unit
unit_acts : (boxes : Boxes) (c : Literals) → false_in boxes c ≡ false → acts boxes c ≡ true →
    is_some (unit_of boxes c) ≡ true
unit_acts boxes c e h = rw e at h

going_by : (boxes : Boxes) (n : ℕ) (c : Literals) → mode_by boxes n c ≡ Going →
    false_in boxes c ≡ false
going_by boxes n c h =
    (elim (is_nil c) as (λ b. cond b Closed (cond (false_in boxes c) (Conflict n) Going) ≡ Going →
    false_in boxes c ≡ false) [
      | true ↦ λ h. absurd cc
      | false ↦ λ h. (elim (false_in boxes c) as (λ b.
          cond b (Conflict n) Going ≡ Going → b ≡ false) [
            | true ↦ λ h. absurd cc
            | false ↦ λ h. refl
          ]) h
    ]) h

unit_fewer : (n : ℕ) (c : Literals) (s : Stack) (o : Option (ℕ × Ranges)) → IsClause c →
    AreValid s.top.now → unit_of s.top.now c ≡ o → is_some o ≡ true →
    total (pruned_by n o s).top.now < total s.top.now
unit_fewer n c s None f a e h = absurd cc
unit_fewer n c s (Some u) f a e h =
    let there = (unit_is c 0 s.top.now u f e).1.exists in
    let less = unit_less c 0 s.top.now u f a e in
    let sums = total-set s.top.now u.0 u.1 there in
    omega (arith, less, sums)

-- where a clause that acts leaves the search going, there are fewer values
pub fewer_values : (n : ℕ) (c : Literals) (s t : Stack) → IsClause c → AreValid s.top.now →
    acts s.top.now c ≡ true → t ≡ reacted n c s → mode_by s.top.now n c ≡ Going →
    total t.top.now < total s.top.now
fewer_values n c s t f a h e mode =
    let open_is = going_by s.top.now n c mode in
    let some = unit_acts s.top.now c open_is h in
    let u = unit_of s.top.now c in
    let less = unit_fewer n c s u f a refl some in
    let is : reacted n c s ≡ pruned_by n u s =
    ap (λ b. cond b s (pruned_by n u s)) open_is in
    subst (λ (k : Stack). total k.top.now < total s.top.now) (sym (e ∙ is)) less

-- ---- narrower boxes

boxes_in : (boxes : Boxes) → AreValid boxes → AreBoxesIn boxes boxes
boxes_in boxes a =
    record { size = refl; sets = a; within = λ x v h. h; some = λ x h. h }

pub reacted_in : (n : ℕ) (c : Literals) (s : Stack) → IsClause c → AreValid s.top.now →
    AreBoxesIn s.top.now (reacted n c s).top.now
reacted_in n c s f a =
    let now = s.top.now in
    elim (false_in now c) as (λ b.
    AreBoxesIn now (cond b s (pruned_by n (unit_of now c) s)).top.now) [
      | true ↦ boxes_in now a
      | false ↦ (elim (unit_of now c) as (λ u. unit_of now c ≡ u →
          AreBoxesIn now (pruned_by n u s).top.now) [
            | None ↦ λ e. boxes_in now a
            | Some u ↦ λ e.
                let w = unit_is c 0 now u f e in
                part_in now now u.0 u.1 (boxes_in now a) w.1.exists (unit_part now u w.0 a w.1)
          ]) refl
    ]

pub decided_in : (x : ℕ) (half : Ranges) (s : Stack) → AreValid s.top.now → x < length s.top.now →
    IsPart (box_of s.top.now x) half → AreBoxesIn s.top.now (moved None x half s).top.now
decided_in x half s a lt p = part_in s.top.now s.top.now x half (boxes_in s.top.now a) lt p

pub wider_in : (a b : Boxes) → AreValid a → AreBoxesIn a b → AreWider b a
wider_in a b v h = record { small_valid = h.sets; large_valid = v; within = h.within }

below_still : (g : Ground) (a b c : Boxes) → AreBoxesIn a b → IsBelow g a c → IsBelow g b c
below_still g a b c h k = record {
  size = k.size ∙ sym h.size;
  wider = record {
    small_valid = h.sets;
    large_valid = k.wider.large_valid;
    within = λ x v m. k.wider.within x v (h.within x v m);
  };
  is_quiet = k.is_quiet;
}

-- the levels below stay below
pub lower_still_below : (g : Ground) (a b : Boxes) (below : List Level) → AreBoxesIn a b →
    AreLower g a below → AreLower g b below
lower_still_below g a b [] h k = tt
lower_still_below g a b (l ∷ ls) h k = (below_still g a b l.now h k.0, k.1)

pub reacted-below : (n : ℕ) (c : Literals) (s : Stack) → (reacted n c s).below ≡ s.below
reacted-below n c s =
    elim (false_in s.top.now c) as (λ b.
    (cond b s (pruned_by n (unit_of s.top.now c) s)).below ≡ s.below) [
      | true ↦ refl
      | false ↦ elim (unit_of s.top.now c) as (λ u. (pruned_by n u s).below ≡ s.below) [
        | None ↦ refl
        | Some u ↦ refl
      ]
    ]

pub below_same : (n : ℕ) (c : Literals) (s t : Stack) → t ≡ reacted n c s → t.below ≡ s.below
below_same n c s t e = ap (λ (k : Stack). k.below) e ∙ reacted-below n c s

pub reacted_lower : (g : Ground) (n : ℕ) (c : Literals) (s t : Stack) → IsClause c →
    AreValid s.top.now → t ≡ reacted n c s → AreLower g s.top.now s.below →
    AreLower g t.top.now t.below
reacted_lower g n c s t f a e h =
    let here : AreLower g (reacted n c s).top.now s.below =
    lower_still_below g s.top.now (reacted n c s).top.now s.below (reacted_in n c s f a) h in
    let one : AreLower g (reacted n c s).top.now (reacted n c s).below =
    subst (λ (ls : List Level). AreLower g (reacted n c s).top.now ls) (sym (reacted-below n c s))
    here in
    subst (λ (k : Stack). AreLower g k.top.now k.below) (sym e) one

pub decided_lower : (g : Ground) (x : ℕ) (half : Ranges) (s t : Stack) → AreValid s.top.now →
    x < length s.top.now → IsPart (box_of s.top.now x) half → AreAllQuiet g s.top.now →
    t ≡ moved None x half s → AreLower g s.top.now s.below → AreLower g t.top.now t.below
decided_lower g x half s t a lt p q e h =
    let inside = decided_in x half s a lt p in
    let here : AreLower g (moved None x half s).top.now (s.top ∷ s.below) = (
      record {
        size = sym inside.size;
        wider = wider_in s.top.now (moved None x half s).top.now a inside;
        is_quiet = q;
      },
      h,
    ) in
    subst (λ (k : Stack). AreLower g k.top.now k.below) (sym e) here
