-- The levels of a trail, with an entry more and with an entry less.
use Rattle.std.proofs.Common.{◌≡◌, ◌≢◌, not, ◌&&◌, ℕ, suc, ◌<◌, ◌≤◌, true, false, cond, List, [], ◌∷◌, length, refl, sym, ap, ◌∙◌, arith, subst, slice_set, Option, Some, None, set-set, length-set, reverse, ◌++◌, IfSome}
use Rattle.std.proofs.lemmas.List.{set-get_or, get_or-set_same, get_or-set_other, reverse-append}
use Rattle.std.proofs.lemmas.List.Elements.{All-set, All-get_or}
use Rattle.std.proofs.lemmas.Bool.{lt-ltb, le-ltb, and_parts}
use Rattle.std.specs.List.{All}
use Rattle.signed_clause.specs.Ranges.{Ranges, IsValid, has}
use Rattle.signed_clause.specs.SetAlgebra.{is_disjoint, is_within, meet}
use Rattle.signed_clause.specs.Clauses.{Boxes, Literals, box_of, false_in, unit_of, alone_of, IsClauseFrom, IsClause}
use Rattle.signed_clause.proofs.RangeSteps.{IsValid-meet, has-meet_valid}
use Rattle.signed_clause.proofs.CountLaws.{within_from_has}
use Rattle.fd_store.specs.declared.trail.Moved.{Moved}
use Rattle.fd_store.specs.Levels.{Entry, Level, Stack, with_entry, moved}
use Rattle.fd_store.specs.Undo.{dropped_from, dropped, back_by, taken_back, entries_in, IsWiderAt}
use Rattle.fd_store.specs.Trails.{entry_of, stack_of, level_of, level_after, IsTrail, IsStore, IsNarrowing, IsNewest, undone, older}

-- ---- what the levels show of the trail

with_entry-now : (from : Option ℕ) (boxes : Boxes) (e : Entry) (s : Stack) →
    (with_entry from boxes e s).top.now ≡ boxes
with_entry-now None boxes e s = refl
with_entry-now (Some j) boxes e s = refl

pub stack-now : (ms : List Moved) (boxes : Boxes) → (stack_of boxes ms).top.now ≡ boxes
stack-now [] boxes = refl
stack-now (m ∷ ms) boxes =
    with_entry-now m.from boxes (entry_of m) (stack_of (slice_set boxes m.var m.before) ms)

with_entry-level : (from : Option ℕ) (boxes : Boxes) (e : Entry) (s : Stack) (k : ℕ) →
    length s.below ≡ k →
    length (with_entry from boxes e s).below ≡ level_after from k
with_entry-level None boxes e s k h = omega arith
with_entry-level (Some j) boxes e s k h = h

pub stack-level : (ms : List Moved) (boxes : Boxes) → IsTrail boxes ms →
    length (stack_of boxes ms).below ≡ level_of ms
stack-level [] boxes t = refl
stack-level (m ∷ ms) boxes t =
    let before = slice_set boxes m.var m.before in
    let rest = stack-level ms before t.1 in
    with_entry-level m.from boxes (entry_of m) (stack_of before ms) (level_of ms) rest
    ∙ sym t.0.level_is

-- what a store's value shows of its fields
pub boxes_of : (ms : List Moved) (boxes : Boxes) (s : Stack) → stack_of boxes ms ≡ s →
    boxes ≡ s.top.now
boxes_of ms boxes s h = sym (stack-now ms boxes) ∙ ap (λ (s : Stack). s.top.now) h

pub level_is : (ms : List Moved) (boxes : Boxes) (s : Stack) → IsStore boxes ms →
    stack_of boxes ms ≡ s → level_of ms ≡ length s.below
level_is ms boxes s k h = sym (stack-level ms boxes k.trail) ∙ ap (λ (s : Stack). length s.below) h

pub stack_is : (ms : List Moved) (boxes : Boxes) (s : Stack) → stack_of boxes ms ≡ s →
    s ≡ stack_of s.top.now ms
stack_is ms boxes s h = sym h ∙ ap (λ (b : Boxes). stack_of b ms) (boxes_of ms boxes s h)

pub store_is : (ms : List Moved) (boxes : Boxes) (s : Stack) → IsStore boxes ms →
    stack_of boxes ms ≡ s → IsStore s.top.now ms
store_is ms boxes s k h = subst (λ (b : Boxes). IsStore b ms) (boxes_of ms boxes s h) k

-- ---- an entry more

pub put_back : (boxes : Boxes) (x : ℕ) (set : Ranges) →
    slice_set (slice_set boxes x set) x (box_of boxes x) ≡ boxes
put_back boxes x set = set-set boxes x set (box_of boxes x) ∙ set-get_or boxes x []

abbrev entry_in : Moved → Boxes → Entry
entry_in m boxes = record { var = m.var; before = box_of boxes m.var; from = m.from }

pub stack-moved : (ms : List Moved) (boxes : Boxes) (set : Ranges) (m : Moved) →
    m.before ≡ box_of boxes m.var →
    stack_of (slice_set boxes m.var set) (m ∷ ms) ≡ moved m.from m.var set (stack_of boxes ms)
stack-moved ms boxes set m h =
    let new = slice_set boxes m.var set in
    let back : slice_set new m.var m.before ≡ boxes =
    ap (λ (b : Ranges). slice_set new m.var b) h ∙ put_back boxes m.var set in
    let now : (stack_of boxes ms).top.now ≡ boxes = stack-now ms boxes in
    ap (λ (b : Boxes). with_entry m.from new (entry_of m) (stack_of b ms)) back
    ∙ ap (λ (b : Ranges).
    with_entry m.from new (record { var = m.var; before = b; from = m.from }) (stack_of boxes ms))
    h
    ∙ sym (ap (λ (b : Boxes).
    with_entry m.from (slice_set b m.var set) (entry_in m b) (stack_of boxes ms)) now)

pub store-moved : (ms : List Moved) (boxes : Boxes) (set : Ranges) (m : Moved) → IsStore boxes ms →
    m.var < length boxes → IsValid set → is_within set (box_of boxes m.var) ≡ true →
    m.level ≡ level_after m.from (level_of ms) → m.before ≡ box_of boxes m.var →
    IsStore (slice_set boxes m.var set) (m ∷ ms)
store-moved ms boxes set m k lt valid within level before =
    let there : IsValid (box_of boxes m.var) = All-get_or (λ s. IsValid s) boxes m.var [] lt k.sets
    in
    let back : boxes ≡ slice_set (slice_set boxes m.var set) m.var m.before =
    sym (ap (λ (b : Ranges). slice_set (slice_set boxes m.var set) m.var b) before
    ∙ put_back boxes m.var set) in
    record {
      sets = All-set (λ s. IsValid s) boxes m.var set valid k.sets;
      trail = (
        record {
          exists = omega (arith, length-set boxes m.var set);
          valid = subst IsValid (sym before) there;
          narrows =
              ap (λ (b : Ranges). is_within b m.before) (get_or-set_same boxes m.var set [] lt)
              ∙ ap (λ (b : Ranges). is_within set b) before
              ∙ within;
          level_is = level;
        },
        subst (λ (b : Boxes). IsTrail b ms) back k.trail,
      );
    }

reverse-push : (old with_room new : List Moved) (m : Moved) → with_room ≡ old →
    new ≡ with_room ++ m ∷ [] → reverse new ≡ m ∷ reverse old
reverse-push old with_room new m h k =
    ap (λ (ms : List Moved). reverse ms) (k ∙ ap (λ (ms : List Moved). ms ++ m ∷ []) h)
    ∙ reverse-append old (m ∷ [])

-- boxes and trail once a box is replaced and its entry is pushed
pub narrowed_stack : (old with_room new : List Moved) (boxes now : Boxes) (set : Ranges)
    (m : Moved) → with_room ≡ old → new ≡ with_room ++ m ∷ [] → m.before ≡ box_of boxes m.var →
    now ≡ slice_set boxes m.var set →
    stack_of now (reverse new) ≡ moved m.from m.var set (stack_of boxes (reverse old))
narrowed_stack old with_room new boxes now set m h k before is =
    rw (reverse-push old with_room new m h k, is) (stack-moved (reverse old) boxes set m before)

pub narrowed_store : (old with_room new : List Moved) (boxes now : Boxes) (set : Ranges)
    (m : Moved) → with_room ≡ old → new ≡ with_room ++ m ∷ [] → m.before ≡ box_of boxes m.var →
    now ≡ slice_set boxes m.var set →
    IsStore boxes (reverse old) → m.var < length boxes → IsValid set →
    is_within set (box_of boxes m.var) ≡ true →
    m.level ≡ level_after m.from (level_of (reverse old)) → IsStore now (reverse new)
narrowed_store old with_room new boxes now set m h k before is kept lt valid within level =
    rw (reverse-push old with_room new m h k, is)
    (store-moved (reverse old) boxes set m kept lt valid within level before)

-- ---- an entry less

with_entry-dropped : (from : Option ℕ) (boxes : Boxes) (e : Entry) (s : Stack) (k : ℕ) →
    k < length (with_entry from boxes e s).below →
    dropped k (with_entry from boxes e s) ≡ dropped k s
with_entry-dropped None boxes e s k h = rw (lt-ltb k (suc (length s.below)) h) refl
with_entry-dropped (Some j) boxes e s k h =
    (elim s.below as (λ b. k < length b →
    dropped_from k (record { first = s.top.first; now = boxes; entries = e ∷ s.top.entries }) b
    ≡ dropped_from k s.top b) [
      | [] ↦ λ h. absurd (omega arith)
      | l ∷ ls ↦ λ h. rw (lt-ltb k (suc (length ls)) h) refl
    ]) h

pub dropped-older : (ms : List Moved) (k : ℕ) (boxes : Boxes) → IsTrail boxes ms → k < level_of ms →
    dropped k (stack_of boxes ms) ≡ dropped k (stack_of (undone boxes ms) (older ms))
dropped-older [] k boxes t h = refl
dropped-older (m ∷ ms) k boxes t h =
    let level = stack-level (m ∷ ms) boxes t in
    with_entry-dropped m.from boxes (entry_of m) (stack_of (slice_set boxes m.var m.before) ms) k
    (omega (arith, level))

pub dropped_from-none : (below : List Level) (top : Level) (k : ℕ) → length below ≤ k →
    dropped_from k top below ≡ record { top = top; below = below }
dropped_from-none [] top k h = refl
dropped_from-none (l ∷ ls) top k h = rw (le-ltb k (suc (length ls)) h) refl

pub dropped-none : (ms : List Moved) (k : ℕ) (boxes : Boxes) → IsTrail boxes ms → level_of ms ≤ k →
    dropped k (stack_of boxes ms) ≡ stack_of boxes ms
dropped-none ms k boxes t h =
    let level = stack-level ms boxes t in
    dropped_from-none (stack_of boxes ms).below (stack_of boxes ms).top k (omega (arith, level))

pub store-older : (ms : List Moved) (boxes : Boxes) → IsStore boxes ms →
    IsStore (undone boxes ms) (older ms)
store-older [] boxes k = k
store-older (m ∷ ms) boxes k = record {
  sets = All-set (λ s. IsValid s) boxes m.var m.before k.trail.0.valid k.sets;
  trail = k.trail.1;
}

-- ---- what a unit clause leaves of a box

none_some : {X : Type 0} (x : X) → None ≡ Some x → ⊥
none_some x h = cc

some_same : {X : Type 0} (x y : X) → Some x ≡ Some y → x ≡ y
some_same x y h = cc

meet-within : (a b : Ranges) → IsValid a → IsValid b → is_within (meet a b) b ≡ true
meet-within a b p q =
    within_from_has (meet a b) b (IsValid-meet a b p q) q
    (λ v h. (and_parts (has a v) (has b v) (sym (has-meet_valid a b p q v) ∙ h)).1)

alone_narrows : (boxes : Boxes) (l : ℕ × Ranges) (c : Literals) (u : ℕ × Ranges) →
    All (λ s. IsValid s) boxes → IsValid l.1 → l.0 < length boxes → alone_of boxes l c ≡ Some u →
    IsNarrowing boxes u.0 u.1
alone_narrows boxes l c u sets valid lt h =
    let there : IsValid (box_of boxes l.0) = All-get_or (λ s. IsValid s) boxes l.0 [] lt sets in
    let here : IsNarrowing boxes l.0 (meet l.1 (box_of boxes l.0)) =
    record { exists = lt; within = meet-within l.1 (box_of boxes l.0) valid there } in
    (elim (false_in boxes c && not (is_within (box_of boxes l.0) l.1)) as (λ b.
    cond b (Some (l.0, meet l.1 (box_of boxes l.0))) None ≡ Some u →
    IsNarrowing boxes u.0 u.1) [
      | true ↦ λ h.
          subst (λ (w : ℕ × Ranges). IsNarrowing boxes w.0 w.1)
          (some_same (l.0, meet l.1 (box_of boxes l.0)) u h) here
      | false ↦ λ h. absurd (none_some u h)
    ]) h

pub unit_narrows : (c : Literals) (n : ℕ) (boxes : Boxes) (u : ℕ × Ranges) → IsClauseFrom n c →
    All (λ s. IsValid s) boxes → All (λ l. l.0 < length boxes) c → unit_of boxes c ≡ Some u →
    IsNarrowing boxes u.0 u.1
unit_narrows [] n boxes u f sets w h = absurd (none_some u h)
unit_narrows (l ∷ c) n boxes u f sets w h =
    (elim (is_disjoint l.1 (box_of boxes l.0)) as (λ b.
    cond b (unit_of boxes c) (alone_of boxes l c) ≡ Some u → IsNarrowing boxes u.0 u.1) [
      | true ↦ λ h.
          unit_narrows c (suc l.0) boxes u f.3 sets (λ k d lt. w (suc k) d (omega arith)) h
      | false ↦ λ h. alone_narrows boxes l c u sets f.2 (w 0 l (omega arith)) h
    ]) h

-- boxes and trail once the newest entry is taken back
pub undone_levels : (ms older_ms : List Moved) (k : ℕ) (boxes now : Boxes) (all : Stack) →
    IsStore boxes ms → k < level_of ms → now ≡ undone boxes ms → older_ms ≡ older ms →
    dropped k (stack_of boxes ms) ≡ all → dropped k (stack_of now older_ms) ≡ all
undone_levels ms older_ms k boxes now all kept lt h e is =
    rw (h, e) (sym (dropped-older ms k boxes kept.trail lt) ∙ is)

pub undone_store : (ms older_ms : List Moved) (boxes now : Boxes) → IsStore boxes ms →
    now ≡ undone boxes ms → older_ms ≡ older ms → IsStore now older_ms
undone_store ms older_ms boxes now kept h e = rw (h, e) (store-older ms boxes kept)

pub narrows_if : (c : Literals) (boxes : Boxes) (u : Option (ℕ × Ranges)) → IsClause c →
    All (λ s. IsValid s) boxes → All (λ l. l.0 < length boxes) c → u ≡ unit_of boxes c →
    IfSome u (λ l. IsNarrowing boxes l.0 l.1)
narrows_if c boxes None f sets w h = tt
narrows_if c boxes (Some u) f sets w h = unit_narrows c 0 boxes u f sets w (sym h)

-- ---- what was done last is taken back

with_back : (from : Option ℕ) (boxes : Boxes) (e : Entry) (s : Stack) → e.from ≡ from →
    s.top.now ≡ slice_set boxes e.var e.before → taken_back (with_entry from boxes e s) ≡ s
with_back None boxes e s is now =
    ap (λ (f : Option ℕ). back_by f e []
    (record {
      top = record { first = boxes; now = boxes; entries = e ∷ [] };
      below = s.top ∷ s.below;
    })) is
with_back (Some j) boxes e s is now =
    ap (λ (f : Option ℕ). back_by f e s.top.entries
    (record {
      top = record { first = s.top.first; now = boxes; entries = e ∷ s.top.entries };
      below = s.below;
    })) is
    ∙ ap (λ (b : Boxes). record {
      top = record {
        first = s.top.first;
        now = b;
        entries = s.top.entries;
      };
      below = s.below;
    }) (sym now)

pub stack_back : (ms : List Moved) (boxes : Boxes) →
    stack_of (undone boxes ms) (older ms) ≡ taken_back (stack_of boxes ms)
stack_back [] boxes = refl
stack_back (m ∷ ms) boxes =
    let before = slice_set boxes m.var m.before in
    sym (with_back m.from boxes (entry_of m) (stack_of before ms) refl (stack-now ms before))

with_count : (from : Option ℕ) (boxes : Boxes) (e : Entry) (s : Stack) →
    entries_in (with_entry from boxes e s) ≡ suc (entries_in s)
with_count None boxes e s = omega arith
with_count (Some j) boxes e s = omega arith

pub stack_count : (ms : List Moved) (boxes : Boxes) → entries_in (stack_of boxes ms) ≡ length ms
stack_count [] boxes = refl
stack_count (m ∷ ms) boxes =
    let before = slice_set boxes m.var m.before in
    with_count m.from boxes (entry_of m) (stack_of before ms) ∙ ap suc (stack_count ms before)

back_other : (boxes : Boxes) (x y : ℕ) (set : Ranges) → y ≢ x →
    box_of (slice_set boxes x set) y ≡ box_of boxes y
back_other boxes x y set n = get_or-set_other boxes x y set [] n

entry_wider : (boxes : Boxes) (m : Moved) (ms : List Moved) → IsStore boxes (m ∷ ms) →
    IsWiderAt m.var boxes (slice_set boxes m.var m.before)
entry_wider boxes m ms k =
    let e = k.trail.0 in
    let same = get_or-set_same boxes m.var m.before [] e.exists in record {
      size = length-set boxes m.var m.before;
      exists = e.exists;
      others = λ y n. back_other boxes m.var y m.before n;
      before_valid = All-get_or (λ s. IsValid s) boxes m.var [] e.exists k.sets;
      after_valid = subst IsValid (sym same) e.valid;
      within = subst (λ (s : Ranges). is_within (box_of boxes m.var) s ≡ true) (sym same) e.narrows;
    }

-- what a store shows once the newest entry is taken back
pub newest_wider : (ms : List Moved) (boxes now : Boxes) (x : ℕ) → IsStore boxes ms →
    IsNewest x ms → now ≡ undone boxes ms → IsWiderAt x boxes now
newest_wider ms boxes now x k newest is =
    let m = newest.entry in
    let at : IsStore boxes (m ∷ newest.earlier) =
    subst (λ (l : List Moved). IsStore boxes l) newest.is k in
    let here : now ≡ slice_set boxes m.var m.before =
    is ∙ ap (λ (l : List Moved). undone boxes l) newest.is in
    subst (λ (y : ℕ). IsWiderAt y boxes now) newest.var
    (subst (λ (b : Boxes). IsWiderAt m.var boxes b) (sym here)
    (entry_wider boxes m newest.earlier at))

stack_fewer : (ms : List Moved) (boxes : Boxes) (m : Moved) (rest : List Moved) → ms ≡ m ∷ rest →
    suc (entries_in (stack_of (undone boxes ms) (older ms))) ≡ entries_in (stack_of boxes ms)
stack_fewer ms boxes m rest is =
    ap suc (stack_count (older ms) (undone boxes ms))
    ∙ ap (λ (l : List Moved). suc (length (older l))) is
    ∙ sym (ap (λ (l : List Moved). length l) is) ∙ sym (stack_count ms boxes)

pub newest_fewer : (ms : List Moved) (boxes : Boxes) (x : ℕ) → IsNewest x ms →
    suc (entries_in (stack_of (undone boxes ms) (older ms))) ≡ entries_in (stack_of boxes ms)
newest_fewer ms boxes x newest =
    stack_fewer ms boxes newest.entry newest.earlier newest.is
