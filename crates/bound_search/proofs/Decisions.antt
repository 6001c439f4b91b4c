-- Where a search stands behind a decision.
use Rattle.std.proofs.Common.{◌≡◌, ◌⊎◌, inl, inr, ℕ, suc, ◌<◌, ◌≤◌, true, false, not, All, List, [], ◌∷◌, ◌++◌, length, refl, ap, arith, subst, None, slice_index_or}
use Rattle.std.specs.List.{Contains}
use Rattle.std.proofs.lemmas.Bool.{and_from, and_parts, not-true, lt-ltb}
use Rattle.std.proofs.lemmas.List.Elements.{All-cons}
use Rattle.signed_clause.specs.Ranges.{Ranges, is_nil}
use Rattle.signed_clause.specs.Clauses.{Boxes, Literals, box_of}
use Rattle.ground_form.specs.declared.ground.Ground.{Ground}
use Rattle.rule_law.specs.Answers.{AreBoxesWithin}
use Rattle.fd_store.specs.Levels.{Stack, moved}
use Rattle.log_form.specs.declared.line.Line.{Line}
use Rattle.log_form.specs.declared.line.Line.TheVariants.{Decide}
use Rattle.log_form.specs.Acceptance.{Made, has_empty, accepts, after, may_come, made}
use Rattle.log_form.specs.Acceptance as acceptance
use Rattle.run_law.specs.Replay.{State, Mode, Going, top_boxes, is_going, acts, none_acts, is_settled, are_quiet, none_empty, is_split, may_stand, changed, next, state_of}
use Rattle.run_law.specs.Replay as replay
use Rattle.run_law.proofs.RunLaws.{none_of}
use Rattle.run_law.proofs.FoundLines.{quiet_all}
use Rattle.bound_search.specs.Awaited.{Awaited}
use Rattle.bound_search.specs.Standing.{clauses_of, AreWatched, IsFixed, IsDecision, IsAt}
use Rattle.bound_search.proofs.MoreLines.{boxes_at, going_on, MayFollow, run_with, IsBehind, at_with}

-- ---- nothing is left to say

idle_all : (boxes : Boxes) (added : List (ℕ × Literals)) →
    ((i : ℕ) → i < length added → acts boxes (slice_index_or added i (0, [])).1 ≡ false) →
    none_acts boxes (clauses_of added) ≡ true
idle_all boxes [] h = refl
idle_all boxes (p ∷ added) h =
    let here : acts boxes p.1 ≡ false = h 0 (omega arith) in
    let more = idle_all boxes added (λ i lt. h (suc i) (omega arith)) in
    rw (here, more) refl

idle_list : (boxes : Boxes) (cs : List Literals) → All (λ c. acts boxes c ≡ false) cs →
    none_acts boxes cs ≡ true
idle_list boxes [] h = refl
idle_list boxes (c ∷ cs) h =
    let here : acts boxes c ≡ false = h 0 c (omega arith) in
    let more = idle_list boxes cs (λ k d lt. h (suc k) d (omega arith)) in
    rw (here, more) refl

idle_one : (boxes : Boxes) (a : List Literals) (c : Literals) → none_acts boxes a ≡ true →
    Contains a c → acts boxes c ≡ false
idle_one boxes a c h w =
    let one = none_of boxes a (c ∷ []) h
    (All-cons (λ d. Contains a d) c [] w (λ k d lt. absurd (omega arith))) in
    not-true (acts boxes c) (and_parts (not (acts boxes c)) true one).0

none_both : (boxes : Boxes) (a b cs : List Literals) → none_acts boxes a ≡ true →
    none_acts boxes b ≡ true → All (λ c. Contains a c ⊎ Contains b c) cs →
    none_acts boxes cs ≡ true
none_both boxes a b [] p q h = refl
none_both boxes a b (c ∷ cs) p q h =
    let here : acts boxes c ≡ false = elim (h 0 c (omega arith)) [
      | inl w ↦ idle_one boxes a c p w
      | inr w ↦ idle_one boxes b c q w
    ] in
    let more = none_both boxes a b cs p q (λ k d lt. h (suc k) d (omega arith)) in
    rw (here, more) refl

pub settled_at : (g : Ground) (clauses : List Literals) (s : State) (added : Awaited) →
    AreWatched clauses s added → IsFixed g (top_boxes s) added → is_settled s ≡ true
settled_at g clauses s added w f =
    let boxes = top_boxes s in
    and_from (none_acts boxes s.learnt) (none_acts boxes s.bounds)
    (none_both boxes (clauses_of added.watched) added.sure s.learnt
    (idle_all boxes added.watched f.watched) (idle_list boxes added.sure f.sure) w.learnt)
    (none_of boxes (clauses_of added.asked) s.bounds (idle_all boxes added.asked f.asked) w.bounds)

some_in : (boxes : Boxes) → ((x : ℕ) → x < length boxes → is_nil (box_of boxes x) ≡ false) →
    none_empty boxes ≡ true
some_in [] h = refl
some_in (b ∷ boxes) h =
    let here : is_nil b ≡ false = h 0 (omega arith) in
    let more = some_in boxes (λ x lt. h (suc x) (omega arith)) in
    rw (here, more) refl

-- ---- a decision

decide_follows : (g : Ground) (m : Made) (s : State) (added : Awaited) (x : ℕ)
    (half : Ranges) → s.mode ≡ Going → has_empty m.clauses ≡ false →
    AreBoxesWithin g.domains (top_boxes s) → g.search ≤ length g.domains →
    AreWatched m.clauses s added → IsFixed g (top_boxes s) added →
    IsDecision g (top_boxes s) x half → MayFollow g m s (Decide x half)
unfolding acceptance.accepts replay.may_stand
decide_follows g m s added x half going open_so_far within few w f d =
    let boxes = top_boxes s in
    let searched = d.searched in
    let there = lt-ltb x (length g.domains) (omega (arith, searched, few)) in
    let below = lt-ltb x g.search searched in
    let on : is_going s.mode ≡ true = ap is_going going in
    let some = some_in boxes within.some in
    let still = quiet_all g.cons boxes f.is_quiet in
    let settled = settled_at g m.clauses s added w f in
    let splits = d.splits in
    record {
      sets = d.valid;
      comes = rw (open_so_far, there) refl;
      stands = rw (on, some, still, settled, below, splits) refl;
    }

decide_behind : (g : Ground) (m : Made) (s : State) (x : ℕ) (half : Ranges)
    (added : Awaited) → AreWatched m.clauses s added →
    IsBehind (after g m (Decide x half)) (next g m s (Decide x half)) m.clauses
    (moved None x half s.levels) added Going
unfolding acceptance.after replay.changed
decide_behind g m s x half added w = record {
  clauses_are = refl;
  levels_are = refl;
  mode_is = refl;
  watched = record { numbered = w.numbered; asked = w.asked; learnt = w.learnt; bounds = w.bounds };
}

decide_self : (g : Ground) (ls : List Line) (added : Awaited) (x : ℕ) (half : Ranges) →
    IsAt g ls (made g ls).clauses (state_of g ls).levels added Going →
    IsFixed g (state_of g ls).levels.top.now added →
    IsDecision g (state_of g ls).levels.top.now x half →
    IsAt g (ls ++ Decide x half ∷ []) (made g ls).clauses (moved None x half (state_of g ls).levels)
    added Going
decide_self g ls added x half at f d =
    let m = made g ls in
    let s = state_of g ls in
    let open_so_far = going_on g ls at.lines at.mode_is in
    let within = boxes_at g ls m.clauses s.levels added Going at in
    let follows = decide_follows g m s added x half at.mode_is open_so_far within
    at.lines.well_made.search at.watched f d in
    let run = run_with g ls (Decide x half) at.lines follows in
    at_with g ls (Decide x half) m.clauses (moved None x half s.levels) added Going run
    (decide_behind g m s x half added at.watched)

pub decide_at : (g : Ground) (ls : List Line) (clauses : List Literals) (levels : Stack)
    (added : Awaited) (x : ℕ) (half : Ranges) → IsAt g ls clauses levels added Going →
    IsFixed g levels.top.now added → IsDecision g levels.top.now x half →
    IsAt g (ls ++ Decide x half ∷ []) clauses (moved None x half levels) added Going
decide_at g ls clauses levels added x half at f d =
    let P : List Literals → Stack → Type 0 = λ cs s.
    IsAt g ls cs s added Going → IsFixed g s.top.now added → IsDecision g s.top.now x half →
    IsAt g (ls ++ Decide x half ∷ []) cs (moved None x half s) added Going in
    let m = made g ls in
    let s = state_of g ls in
    let self : P m.clauses s.levels = decide_self g ls added x half in
    let one : P clauses s.levels =
    subst (λ (cs : List Literals). P cs s.levels) at.clauses_are self in
    (subst (λ (s : Stack). P clauses s) at.levels_are one) at f d
