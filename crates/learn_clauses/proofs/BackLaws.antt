-- The levels of a trail: its entries, its domains, and the level that a clause leads back to.
use Rattle.std.proofs.Common.{◌≡◌, ℕ, suc, ◌-◌, ◌<◌, true, false, not, ◌&&◌, cond, List, [], ◌∷◌, length, refl, sym, ap, ◌∙◌, arith, inl, inr, subst, slice_set, Option, Some, None, length-set}
use Rattle.std.proofs.lemmas.Bool.{and_parts, not-true, lt-ltb, le-ltb, cases_lt}
use Rattle.signed_clause.specs.Clauses.{Boxes, Literals, false_in}
use Rattle.fd_store.specs.declared.trail.Moved.{Moved}
use Rattle.fd_store.specs.Levels.{Entry, Level, Stack, with_entry}
use Rattle.fd_store.specs.Undo.{dropped_from, dropped}
use Rattle.fd_store.specs.Trails.{entry_of, entries_of, stack_of}
use Rattle.fd_store.proofs.StackLaws.{stack-now, dropped_from-none}
use Rattle.learn_clauses.specs.Walk.{trail_from, trail_of, back_from, back_to}
use Rattle.learn_clauses.specs.Learnt.{domains_from, domains_of, IsDroppedBy}

-- ---- entries and domains

trail_of-with_entry : (from : Option ℕ) (boxes : Boxes) (e : Entry) (s : Stack) →
    trail_of (with_entry from boxes e s) ≡ e ∷ trail_of s
trail_of-with_entry None boxes e s = refl
trail_of-with_entry (Some j) boxes e s =
    elim s.below as
    (λ b. trail_from (record { first = s.top.first; now = boxes; entries = e ∷ s.top.entries })
    b ≡ e ∷ trail_from s.top b) [
      | [] ↦ refl
      | l ∷ ls ↦ refl
    ]

pub trail_of-stack : (ms : List Moved) (boxes : Boxes) →
    trail_of (stack_of boxes ms) ≡ entries_of ms
trail_of-stack [] boxes = refl
trail_of-stack (m ∷ ms) boxes =
    trail_of-with_entry m.from boxes (entry_of m) (stack_of (slice_set boxes m.var m.before) ms)
    ∙ ap (λ (es : List Entry). entry_of m ∷ es) (trail_of-stack ms (slice_set boxes m.var m.before))

domains_of-with_entry : (from : Option ℕ) (boxes : Boxes) (e : Entry) (s : Stack) →
    domains_of (with_entry from boxes e s) ≡ domains_of s
domains_of-with_entry None boxes e s = refl
domains_of-with_entry (Some j) boxes e s =
    elim s.below as
    (λ b. domains_from (record {
      first = s.top.first;
      now = boxes;
      entries =
          e ∷ s.top.entries;
    }) b ≡ domains_from s.top b) [
      | [] ↦ refl
      | l ∷ ls ↦ refl
    ]

-- the domains are the same with an entry less
pub domains_of-older : (m : Moved) (ms : List Moved) (boxes : Boxes) →
    domains_of (stack_of boxes (m ∷ ms)) ≡ domains_of (stack_of (slice_set boxes m.var m.before) ms)
domains_of-older m ms boxes =
    domains_of-with_entry m.from boxes (entry_of m) (stack_of (slice_set boxes m.var m.before) ms)

pub length-domains : (ms : List Moved) (boxes : Boxes) →
    length (domains_of (stack_of boxes ms)) ≡ length boxes
length-domains [] boxes = refl
length-domains (m ∷ ms) boxes =
    ap (λ (b : Boxes). length b) (domains_of-older m ms boxes)
    ∙ length-domains ms (slice_set boxes m.var m.before)
    ∙ length-set boxes m.var m.before

-- ---- the level to go back to

back_from-first : (below : List Level) (c : Literals) (t u : Level) → t.first ≡ u.first →
    back_from c t below ≡ back_from c u below
back_from-first [] c t u h = refl
back_from-first (l ∷ ls) c t u h =
    ap (λ (b : Boxes). cond (false_in b c && not (false_in l.now c))
    (Some (record { top = l; below = ls })) (back_from c l ls)) h

back_to-with_entry : (from : Option ℕ) (c : Literals) (boxes : Boxes) (e : Entry) (s : Stack) →
    false_in s.top.now c ≡ true → back_to c (with_entry from boxes e s) ≡ back_to c s
back_to-with_entry None c boxes e s h =
    rw h
    (elim (false_in boxes c) as (λ b. cond (b && false) (Some s) (back_to c s) ≡ back_to c s) [
      | true ↦ refl
      | false ↦ refl
    ])
back_to-with_entry (Some j) c boxes e s h =
    back_from-first s.below c (record {
      first = s.top.first;
      now = boxes;
      entries =
          e ∷ s.top.entries;
    }) s.top refl

-- an entry before which the clause is false is passed over
pub back_to-older : (m : Moved) (ms : List Moved) (c : Literals) (boxes : Boxes) →
    false_in (slice_set boxes m.var m.before) c ≡ true →
    back_to c (stack_of boxes (m ∷ ms)) ≡ back_to c (stack_of (slice_set boxes m.var m.before) ms)
back_to-older m ms c boxes h =
    let before = slice_set boxes m.var m.before in
    let now : false_in (stack_of before ms).top.now c ≡ true =
    ap (λ (b : Boxes). false_in b c) (stack-now ms before) ∙ h in
    back_to-with_entry m.from c boxes (entry_of m) (stack_of before ms) now

-- at a decision behind which it is false and before which it isn't, the levels below are the answer
back_to-opened : (from : Option ℕ) (c : Literals) (boxes : Boxes) (e : Entry) (s : Stack) →
    from ≡ None →
    false_in boxes c ≡ true → false_in s.top.now c ≡ false →
    back_to c (with_entry from boxes e s) ≡ Some s
back_to-opened None c boxes e s n h k = rw (h, k) refl
back_to-opened (Some j) c boxes e s n h k = absurd (cc)

pub back_to-decision : (m : Moved) (ms : List Moved) (c : Literals) (boxes : Boxes) →
    m.from ≡ None →
    false_in boxes c ≡ true → false_in (slice_set boxes m.var m.before) c ≡ false →
    back_to c (stack_of boxes (m ∷ ms)) ≡ Some (stack_of (slice_set boxes m.var m.before) ms)
back_to-decision m ms c boxes n h k =
    let before = slice_set boxes m.var m.before in
    let now : false_in (stack_of before ms).top.now c ≡ false =
    ap (λ (b : Boxes). false_in b c) (stack-now ms before) ∙ k in
    back_to-opened m.from c boxes (entry_of m) (stack_of before ms) n h now

-- ---- what it says

none_some : (t : Stack) → None ≡ Some t → ⊥
none_some t h = cc

some_same : (s t : Stack) → Some s ≡ Some t → s ≡ t
some_same s t h = cc

record IsBack (c : Literals) (top : Level) (below : List Level) (t : Stack) : Type 0 where
  pub lower : length t.below < length below
  pub is_false : false_in (dropped_from (suc (length t.below)) top below).top.first c ≡ true
  pub not_below : false_in t.top.now c ≡ false

back_says : (below : List Level) (c : Literals) (top : Level) (t : Stack) →
    back_from c top below ≡ Some t →
    IsBack c top below t
back_says [] c top t h = absurd (none_some t h)
back_says (l ∷ ls) c top t h =
    (elim (false_in top.first c && not (false_in l.now c)) as (λ b.
    (false_in top.first c && not (false_in l.now c)) ≡ b →
    cond b (Some (record { top = l; below = ls })) (back_from c l ls) ≡ Some t →
    IsBack c top (l ∷ ls) t) [
      | true ↦ λ e h.
          let parts = and_parts (false_in top.first c) (not (false_in l.now c)) e in
          let here : IsBack c top (l ∷ ls) (record { top = l; below = ls }) = record {
            lower = omega arith;
            is_false = rw (le-ltb (suc (length ls)) (suc (length ls)) (omega arith)) parts.0;
            not_below = not-true (false_in l.now c) parts.1;
          } in
          subst (λ (t : Stack). IsBack c top (l ∷ ls) t) (some_same _ t h) here
      | false ↦ λ e h.
          let more = back_says ls c l t h in
          let lower = more.lower in
          record {
            lower = omega (arith, lower);
            is_false = rw (lt-ltb (suc (length t.below)) (suc (length ls)) (omega (arith, lower)))
                more.is_false;
            not_below = more.not_below;
          }
    ]) refl h

length-dropped : (below : List Level) (top : Level) (k : ℕ) → k < length below →
    length (dropped_from k top below).below ≡ k
length-dropped [] top k h = absurd (omega arith)
length-dropped (l ∷ ls) top k h =
    elim (cases_lt k (length ls)) [
      | inl lt ↦ rw (lt-ltb k (suc (length ls)) h) (length-dropped ls l k lt)
      | inr le ↦
          let is : k ≡ length ls = omega arith in
          rw (lt-ltb k (suc (length ls)) h)
          (ap (λ (s : Stack). length s.below) (dropped_from-none ls l k le) ∙ sym is)
    ]

pub dropped_by : (c : Literals) (s : Stack) (level : ℕ) → 0 < level →
    back_to c s ≡ Some (dropped (level - 1) s) → IsDroppedBy c s level
dropped_by c s level some h =
    let t = dropped (level - 1) s in
    let back = back_says s.below c s.top t h in
    let lower = back.lower in
    elim (cases_lt (level - 1) (length s.below)) [
      | inl lt ↦
          let is : suc (length t.below) ≡ level =
          let k = length-dropped s.below s.top (level - 1) lt in omega (arith, k, some) in
          record {
            exists = omega (arith, lt, some);
            is_false = subst (λ (k : ℕ). false_in (dropped k s).top.first c
                ≡ true) is back.is_false;
            not_below = back.not_below;
            highest = h;
          }
      | inr le ↦
          let all = ap (λ (s : Stack). length s.below)
          (dropped_from-none s.below s.top (level - 1) le) in
          absurd (omega (arith, all, lower))
    ]
