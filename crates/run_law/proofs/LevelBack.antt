-- A clause leads back from at most one level of a run, and that is the one that is found.
use Rattle.std.proofs.Common.{◌≡◌, ℕ, suc, ◌-◌, ◌≤◌, inl, inr, true, false, not, ◌&&◌, cond, List, [], ◌∷◌, length, refl, sym, ap, ◌∙◌, arith, subst, slice_set, Some, None, is_some}
use Rattle.std.proofs.lemmas.Bool.{and_parts, cases_lt, lt-ltb, le-ltb, not-true}
use Rattle.signed_clause.specs.Clauses.{Boxes, Literals, false_in, IsClause, unit_of}
use Rattle.fd_store.specs.Levels.{Level, Stack}
use Rattle.fd_store.specs.Undo.{dropped_from, dropped}
use Rattle.learn_clauses.specs.Walk.{back_from, back_to}
use Rattle.run_law.specs.Conflicts.{LeadsFrom}
use Rattle.run_law.proofs.Units.{some_same, none_some, unit_before}
use Rattle.run_law.proofs.LevelFacts.{Keeps, AreLevels, IsStack, levels_boxes, opened_keeps}

-- ---- the levels up to k

abbrev here : Level → List Level → Stack
here top below = record { top = top; below = below }

all_left : (below : List Level) (top : Level) (k : ℕ) → length below ≤ k →
    dropped_from k top below ≡ here top below
all_left [] top k h = refl
all_left (l ∷ ls) top k h = rw (le-ltb k (suc (length ls)) h) refl

lower_left : (l : Level) (ls : List Level) (top : Level) (k : ℕ) → k ≤ length ls →
    dropped_from k top (l ∷ ls) ≡ dropped_from k l ls
lower_left l ls top k h = rw (lt-ltb k (suc (length ls)) (omega (arith, h))) refl

levels_keep : (clauses : List Literals) (domains : Boxes) (top : Level) (below : List Level) →
    AreLevels clauses domains top below → Keeps top.first top.now
levels_keep clauses domains top [] a = a.0.keeps
levels_keep clauses domains top (l ∷ ls) a = a.0.keeps

-- what is false at the beginning of a level is false now
false_now : (clauses : List Literals) (domains : Boxes) (top : Level) (below : List Level)
    (c : Literals) (k : ℕ) → IsClause c → AreLevels clauses domains top below → k ≤ length below →
    false_in (dropped_from k top below).top.first c ≡ true → false_in top.now c ≡ true
false_now clauses domains top [] c k f a h e = a.0.keeps c f e
false_now clauses domains top (l ∷ ls) c k f a h e =
    elim (cases_lt (length ls) k) [
      | inl whole ↦
          let at : dropped_from k top (l ∷ ls) ≡ here top (l ∷ ls) =
          all_left (l ∷ ls) top k (omega (arith, whole)) in
          a.0.keeps c f (subst (λ (s : Stack). false_in s.top.first c ≡ true) at e)
      | inr part ↦
          let at : dropped_from k top (l ∷ ls) ≡ dropped_from k l ls =
          lower_left l ls top k part in
          let lower : false_in l.now c ≡ true = false_now clauses domains l ls c k f a.2 part
          (subst (λ (s : Stack). false_in s.top.first c ≡ true) at e) in
          let boxes = levels_boxes clauses domains l ls a.2 in
          a.0.keeps c f (opened_keeps l.now top.first boxes.sets a.1 c f lower)
    ]

-- ---- the level that is found

-- a level over one where the clause is false is passed over
skipped : (c : Literals) (top l : Level) (ls : List Level) → false_in l.now c ≡ true →
    back_from c top (l ∷ ls) ≡ back_from c l ls
skipped c top l ls h =
    rw h (elim (false_in top.first c) as (λ b.
    cond (b && false) (Some (here l ls)) (back_from c l ls) ≡ back_from c l ls) [
      | true ↦ refl
      | false ↦ refl
    ])

back_is : (clauses : List Literals) (domains : Boxes) (top : Level) (below : List Level)
    (c : Literals) (k : ℕ) → IsClause c → AreLevels clauses domains top below →
    LeadsFrom c (here top below) k → back_from c top below ≡ Some (dropped_from (k - 1) top below)
back_is clauses domains top [] c k f a w =
    let above = w.above in
    let exists = w.exists in
    absurd (omega (arith, above, exists))
back_is clauses domains top (l ∷ ls) c k f a w =
    let above = w.above in
    let exists = w.exists in
    elim (cases_lt (length ls) k) [
      | inl whole ↦
          let at : dropped_from k top (l ∷ ls) ≡ here top (l ∷ ls) =
          all_left (l ∷ ls) top k (omega (arith, whole)) in
          let below : dropped_from (k - 1) top (l ∷ ls) ≡ here l ls =
          lower_left l ls top (k - 1) (omega (arith, exists))
          ∙ all_left ls l (k - 1) (omega (arith, whole)) in
          let first : false_in top.first c ≡ true =
          subst (λ (s : Stack). false_in s.top.first c ≡ true) at w.is_false in
          let out : false_in l.now c ≡ false =
          subst (λ (s : Stack). false_in s.top.now c ≡ false) below w.not_below in
          let found : back_from c top (l ∷ ls) ≡ Some (here l ls) = rw (first, out) refl in
          found ∙ ap (λ (s : Stack). Some s) (sym below)
      | inr part ↦
          let at : dropped_from k top (l ∷ ls) ≡ dropped_from k l ls =
          lower_left l ls top k part in
          let below : dropped_from (k - 1) top (l ∷ ls) ≡ dropped_from (k - 1) l ls =
          lower_left l ls top (k - 1) (omega (arith, part)) in
          let lower : LeadsFrom c (here l ls) k = record {
            above = above;
            exists = part;
            is_false = subst (λ (s : Stack). false_in s.top.first c ≡ true) at w.is_false;
            not_below = subst (λ (s : Stack). false_in s.top.now c ≡ false) below w.not_below;
          } in
          let now : false_in l.now c ≡ true =
          false_now clauses domains l ls c k f a.2 part lower.is_false in
          let skips : back_from c top (l ∷ ls) ≡ back_from c l ls = skipped c top l ls now in
          skips ∙ back_is clauses domains l ls c k f a.2 lower
          ∙ ap (λ (s : Stack). Some s) (sym below)
    ]

leads_here : (c : Literals) (top l : Level) (ls : List Level) → false_in top.first c ≡ true →
    false_in l.now c ≡ false → LeadsFrom c (here top (l ∷ ls)) (suc (length ls))
leads_here c top l ls first out =
    let k = suc (length ls) in
    let at : dropped_from k top (l ∷ ls) ≡ here top (l ∷ ls) =
    all_left (l ∷ ls) top k (omega arith) in
    let less : k - 1 ≡ length ls = omega arith in
    let below : dropped_from (k - 1) top (l ∷ ls) ≡ here l ls =
    ap (λ n. dropped_from n top (l ∷ ls)) less ∙ lower_left l ls top (length ls) (omega arith)
    ∙ all_left ls l (length ls) (omega arith) in
    record {
      above = omega arith;
      exists = omega arith;
      is_false = subst (λ (s : Stack). false_in s.top.first c ≡ true) (sym at) first;
      not_below = subst (λ (s : Stack). false_in s.top.now c ≡ false) (sym below) out;
    }

leads_lower : (c : Literals) (top l : Level) (ls : List Level) (k : ℕ) →
    LeadsFrom c (here l ls) k → LeadsFrom c (here top (l ∷ ls)) k
leads_lower c top l ls k w =
    let above = w.above in
    let exists = w.exists in
    let at : dropped_from k top (l ∷ ls) ≡ dropped_from k l ls = lower_left l ls top k exists in
    let below : dropped_from (k - 1) top (l ∷ ls) ≡ dropped_from (k - 1) l ls =
    lower_left l ls top (k - 1) (omega (arith, exists)) in
    record {
      above = above;
      exists = omega (arith, exists);
      is_false = subst (λ (s : Stack). false_in s.top.first c ≡ true) (sym at) w.is_false;
      not_below = subst (λ (s : Stack). false_in s.top.now c ≡ false) (sym below) w.not_below;
    }

-- and what is found is such a level
found_leads : (c : Literals) (top : Level) (below : List Level) (lower : Stack) →
    back_from c top below ≡ Some lower → (k : ℕ) × LeadsFrom c (here top below) k
found_leads c top [] lower h = absurd (none_some lower h)
found_leads c top (l ∷ ls) lower h =
    (elim (false_in top.first c && not (false_in l.now c)) as (λ b.
    (false_in top.first c && not (false_in l.now c)) ≡ b →
    cond b (Some (here l ls)) (back_from c l ls) ≡ Some lower →
    (k : ℕ) × LeadsFrom c (here top (l ∷ ls)) k) [
      | true ↦ λ b e.
          let parts = and_parts (false_in top.first c) (not (false_in l.now c)) b in
          (suc (length ls), leads_here c top l ls parts.0 (not-true (false_in l.now c) parts.1))
      | false ↦ λ b e.
          let more = found_leads c l ls lower e in (more.0, leads_lower c top l ls more.0 more.1)
    ]) refl h

-- a clause is unit in the present boxes of the level below the one that it leads back from
unit_back : (clauses : List Literals) (domains : Boxes) (c : Literals) (top : Level)
    (below : List Level) (lower : Stack) → IsClause c → AreLevels clauses domains top below →
    back_from c top below ≡ Some lower → is_some (unit_of lower.top.now c) ≡ true
unit_back clauses domains c top [] lower f a h = absurd (none_some lower h)
unit_back clauses domains c top (l ∷ ls) lower f a h =
    (elim (false_in top.first c && not (false_in l.now c)) as (λ b.
    (false_in top.first c && not (false_in l.now c)) ≡ b →
    cond b (Some (here l ls)) (back_from c l ls) ≡ Some lower →
    is_some (unit_of lower.top.now c) ≡ true) [
      | true ↦ λ b e.
          let parts = and_parts (false_in top.first c) (not (false_in l.now c)) b in
          let boxes = levels_boxes clauses domains l ls a.2 in
          let o = a.1 in
          let first : false_in (slice_set l.now o.var o.half) c ≡ true =
          subst (λ (b : Boxes). false_in b c ≡ true) o.is parts.0 in
          let unit = unit_before c 0 l.now o.var o.half f boxes.sets o.is_half first
          (not-true (false_in l.now c) parts.1) in
          let some : is_some (unit_of l.now c) ≡ true = rw unit.1.unit refl in
          subst (λ (s : Stack). is_some (unit_of s.top.now c) ≡ true)
          (some_same (here l ls) lower e) some
      | false ↦ λ b e. unit_back clauses domains c l ls lower f a.2 e
    ]) refl h

-- ---- of a whole stack

pub level_unit : (clauses : List Literals) (domains : Boxes) (s : Stack) (c : Literals) (k : ℕ) →
    IsClause c → IsStack clauses domains s → LeadsFrom c s k →
    is_some (unit_of (dropped (k - 1) s).top.now c) ≡ true
level_unit clauses domains s c k f a w =
    unit_back clauses domains c s.top s.below (dropped (k - 1) s) f a
    (back_is clauses domains s.top s.below c k f a w)

pub back_from_level : (clauses : List Literals) (domains : Boxes) (s : Stack) (c : Literals)
    (k : ℕ) → IsClause c → IsStack clauses domains s → LeadsFrom c s k →
    back_to c s ≡ Some (dropped (k - 1) s)
back_from_level clauses domains s c k f a w = back_is clauses domains s.top s.below c k f a w

pub level_of_back : (s : Stack) (c : Literals) → is_some (back_to c s) ≡ true →
    (k : ℕ) × LeadsFrom c s k
level_of_back s c h =
    (elim (back_to c s) as (λ o. back_to c s ≡ o → is_some o ≡ true →
    (k : ℕ) × LeadsFrom c s k) [
      | None ↦ λ e h. absurd cc
      | Some lower ↦ λ e h. found_leads c s.top s.below lower e
    ]) refl h
