-- What a change of a box and a way back leave of a board.
use Rattle.std.proofs.Common.{◌≡◌, ℕ, suc, ◌<◌, ◌≤◌, inl, inr, true, false, cond, List, [], ◌∷◌, length, refl, sym, ap, ◌∙◌, arith, subst, slice_set, nat_lt, Option, Some, None, length-set, map}
use Rattle.std.proofs.lemmas.List.{length-map}
use Rattle.std.proofs.lemmas.Bool.{lt-ltb}
use Rattle.std.specs.List.{All}
use Rattle.std.proofs.lemmas.Bool.{cases_eq}
use Rattle.signed_clause.specs.Ranges.{Ranges, has, is_nil, IsValid}
use Rattle.signed_clause.specs.SetAlgebra.{is_within}
use Rattle.signed_clause.specs.Clauses.{Boxes, Literals, box_of, false_in, unit_of, IsClause, AreValid}
use Rattle.signed_clause.proofs.SetFacts.{within_law}
use Rattle.ground_form.specs.declared.ground.Ground.{Ground}
use Rattle.fd_store.specs.declared.store.Applied.{Applied}
use Rattle.fd_store.specs.declared.store.Applied.TheVariants.{Pruned, Conflict}
use Rattle.fd_store.specs.Levels.{Level, Stack, bottom, moved, reacted, pruned_by}
use Rattle.fd_store.specs.Applying.{applied, applied_by}
use Rattle.fd_store.specs.Undo.{dropped_from, dropped, IsWiderAt, AreWider}
use Rattle.fd_store.proofs.StackLaws.{dropped_from-none}
use Rattle.learn_clauses.proofs.WithinLaws.{valid_boxes}
use Rattle.prop_queue.specs.Work as queue
use Rattle.prop_queue.specs.Work.{Work, IsOver, AreAllQuiet}
use Rattle.clause_watches.specs.declared.rest.Rest.{Rest}
use Rattle.clause_watches.specs.Watching.{Watching, NarrowsAt, WidensAt, IsKnown, clause_of, rest_of}
use Rattle.run_law.proofs.Units.{unit_is, box-set_same, box-set_other, AreValid-set}
use Rattle.run_law.proofs.LevelFacts.{IsPart, unit_part}
use Rattle.bound_search.specs.Boards.{IsBoard, IsBelow, AreLower}

-- ---- the first board

pub new_board : (g : Ground) (s : Stack) (w : Work) (v : Watching) → s ≡ bottom g.domains →
    IsOver g w → ((boxes : Boxes) → queue.Fits g w boxes) → v.variables ≡ length g.domains →
    v.added ≡ [] → v.rests ≡ [] → All (λ d. IsValid d) g.domains → IsBoard g s w v
new_board g s w v e over fits variables a r sets = record {
  size = ap (λ (k : Stack). length k.top.now) e;
  valid = subst (λ (k : Stack). AreValid k.top.now) (sym e) (valid_boxes g.domains sets);
  over = over;
  listed = fits s.top.now;
  variables = variables;
  paired = ap length r ∙ sym (ap length a);
  watched = λ i. subst (λ (rs : List Rest). IsKnown s.top.now (clause_of v.added i) (rest_of rs i))
      (sym r) tt;
}

-- ---- one box changes

pub moved_now : (from : Option ℕ) (x : ℕ) (set : Ranges) (s : Stack) →
    (moved from x set s).top.now ≡ slice_set s.top.now x set
moved_now None x set s = refl
moved_now (Some j) x set s = refl

-- as many boxes, valid ones, and that of x is a part of the one before
pub record IsChange (x : ℕ) (a b : Boxes) : Type 0 where
  pub size : length b ≡ length a
  pub valid : AreValid b
  pub narrows : NarrowsAt x a b

set_changes : (x : ℕ) (set : Ranges) (boxes : Boxes) → x < length boxes → AreValid boxes →
    IsPart (box_of boxes x) set → IsChange x boxes (slice_set boxes x set)
set_changes x set boxes lt valid part =
    let at = box-set_same boxes x set lt in record {
      size = length-set boxes x set;
      valid = AreValid-set boxes x set lt valid part.valid;
      narrows = record {
        others = λ y ne. sym (box-set_other boxes x y set ne);
        before_valid = valid x;
        after_valid = subst IsValid (sym at) part.valid;
        some = subst (λ (s : Ranges). is_nil s ≡ false) (sym at) part.some;
        within = λ v h. part.within v (subst (λ (s : Ranges). has s v ≡ true) at h);
      };
    }

pub move_changes : (from : Option ℕ) (x : ℕ) (set : Ranges) (s t : Stack) → t ≡ moved from x set s →
    x < length s.top.now → AreValid s.top.now → IsPart (box_of s.top.now x) set →
    IsChange x s.top.now t.top.now
move_changes from x set s t e lt valid part =
    let now : t.top.now ≡ slice_set s.top.now x set =
    ap (λ (k : Stack). k.top.now) e ∙ moved_now from x set s in
    subst (IsChange x s.top.now) (sym now) (set_changes x set s.top.now lt valid part)

-- what a decision leaves of a box
pub half_part : (box half : Ranges) → IsValid box → IsValid half → is_nil half ≡ false →
    is_within half box ≡ true → IsPart box half
half_part box half f g some w =
    record { valid = g; within = (within_law half box g f).0 w; some = some }

-- ---- a clause that prunes

-- the clause of the number was unit, and x got what is left
pub record HasPruned (n : ℕ) (c : Literals) (x : ℕ) (s t : Stack) : Type 0 where
  pub set : Ranges
  pub there : x < length s.top.now
  pub part : IsPart (box_of s.top.now x) set
  pub moves : t ≡ moved (Some n) x set s

pruned_same : (x y : ℕ) → Pruned x ≡ Pruned y → x ≡ y
pruned_same x y e = cc

pruned_unit : (n : ℕ) (c : Literals) (x : ℕ) (s : Stack) (o : Option (ℕ × Ranges)) →
    AreValid s.top.now → IsClause c → unit_of s.top.now c ≡ o → applied_by o ≡ Pruned x → HasPruned n c x s (pruned_by n o s)
pruned_unit n c x s None a f e h = absurd cc
pruned_unit n c x s (Some u) a f e h =
    let w = unit_is c 0 s.top.now u f e in
    let here : HasPruned n c u.0 s (moved (Some n) u.0 u.1 s) =
    record {
      set = u.1;
      there = w.1.exists;
      part = unit_part s.top.now u w.0 a w.1;
      moves = refl;
    } in
    subst (λ (y : ℕ). HasPruned n c y s (moved (Some n) u.0 u.1 s)) (pruned_same u.0 x h) here

pub pruned_so : (n : ℕ) (c : Literals) (x : ℕ) (s t : Stack) (a : Applied) →
    AreValid s.top.now → IsClause c → a ≡ applied s.top.now c → a ≡ Pruned x → t ≡ reacted n c s → HasPruned n c x s t
pruned_so n c x s t a valid f e h k =
    let now = s.top.now in
    let u = unit_of now c in
    let it : HasPruned n c x s (reacted n c s) = (elim (false_in now c) as (λ b.
    cond b Conflict (applied_by u) ≡ Pruned x →
    HasPruned n c x s (cond b s (pruned_by n u s))) [
      | true ↦ λ h. absurd cc
      | false ↦ λ h. pruned_unit n c x s u valid f refl h
    ]) (sym e ∙ h) in
    subst (HasPruned n c x s) (sym k) it

-- ---- rests and clauses

-- there is still a rest for each clause where the rests change and the clauses don't
pub still_paired : (w v : Watching) (f : Rest → Rest) → v.rests ≡ map f w.rests →
    v.added ≡ w.added → length w.rests ≡ length w.added → length v.rests ≡ length v.added
still_paired w v f r a e =
    ap length r ∙ length-map w.rests f ∙ e ∙ sym (ap length a)

-- ---- levels that are dropped

-- in the words of the watches
pub widens_at : (x : ℕ) (a b : Boxes) → IsWiderAt x a b → WidensAt x a b
widens_at x a b w = record {
  others = λ y n. sym (w.others y n);
  before_valid = w.before_valid;
  after_valid = w.after_valid;
  within = (within_law (box_of a x) (box_of b x) w.before_valid w.after_valid).0 w.within;
}

pub valid_wider : (x : ℕ) (a b : Boxes) → IsWiderAt x a b → AreValid a → AreValid b
valid_wider x a b w valid y = elim (cases_eq y x) [
  | inl same ↦ subst (λ (z : ℕ). IsValid (box_of b z)) (sym same) w.after_valid
  | inr other ↦ subst IsValid (sym (w.others y other)) (valid y)
]

-- nothing is dropped once no more levels stand
pub dropped_now : (k : ℕ) (s t : Stack) → length s.below ≤ k → dropped k s ≡ dropped k t →
    s ≡ dropped k t
dropped_now k s t h e = sym (dropped_from-none s.below s.top k h) ∙ e

pub wider_still : (a b c : Boxes) → AreWider a b → AreWider b c → AreWider a c
wider_still a b c f h = record {
  small_valid = f.small_valid;
  large_valid = h.large_valid;
  within = λ x v m. h.within x v (f.within x v m);
}

-- the last of the levels is below the boxes, and those below it are so
pub record IsLower (g : Ground) (boxes : Boxes) (s : Stack) : Type 0 where
  pub top : IsBelow g boxes s.top.now
  pub below : AreLower g s.top.now s.below

lower_still : (g : Ground) (a b : Boxes) (s : Stack) → IsBelow g a b → IsLower g b s → IsLower g a s
lower_still g a b s f h = record {
  top = record {
    size = h.top.size ∙ f.size;
    wider = wider_still a b s.top.now f.wider h.top.wider;
    is_quiet = h.top.is_quiet;
  };
  below = h.below;
}

lower_from : (g : Ground) (k : ℕ) (boxes : Boxes) (l : Level) (ls : List Level) →
    IsBelow g boxes l.now → AreLower g l.now ls → IsLower g boxes (dropped_from k l ls)
lower_from g k boxes l [] w a = record { top = w; below = a }
lower_from g k boxes l (m ∷ ls) w a =
    let more = lower_still g boxes l.now (dropped_from k m ls) w
    (lower_from g k l.now m ls a.0 a.1) in
    elim (nat_lt k (suc (length ls))) as (λ b.
    IsLower g boxes (cond b (dropped_from k m ls) (record { top = l; below = m ∷ ls }))) [
      | true ↦ more
      | false ↦ record { top = w; below = a }
    ]

lower_top : (g : Ground) (k : ℕ) (top : Level) (below : List Level) → k < length below →
    AreLower g top.now below → IsLower g top.now (dropped_from k top below)
lower_top g k top [] lt a = absurd (omega arith)
lower_top g k top (l ∷ ls) lt a =
    let yes : nat_lt k (suc (length ls)) ≡ true = lt-ltb k (suc (length ls)) lt in
    let more = lower_from g k top.now l ls a.0 a.1 in
    rw yes more

pub lower_dropped : (g : Ground) (k : ℕ) (s t : Stack) → k < length s.below →
    AreLower g s.top.now s.below → t ≡ dropped k s → IsLower g s.top.now t
lower_dropped g k s t lt a e =
    subst (IsLower g s.top.now) (sym e) (lower_top g k s.top s.below lt a)
