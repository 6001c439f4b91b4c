-- The walk by the number of entries that are left.
use Rattle.std.proofs.Common.{◌≡◌, ℕ, ◌+◌, ◌<◌, ◌≤◌, Bool, true, false, List, [], ◌∷◌, ◌++◌, length, refl, sym, ap, ◌∙◌, arith, subst, slice_set, Option, Some, None, is_none, not, ◌&&◌, cond, reverse, take, drop, get_or}
use Rattle.std.proofs.lemmas.List.{reverse-append, take_all, drop_all, take_more}
use Rattle.std.specs.List.{All}
use Rattle.signed_clause.specs.Clauses.{Boxes, Literals, IsClause}
use Rattle.signed_clause.proofs.RangeSteps.{left_at}
use Rattle.fd_store.specs.declared.trail.Moved.{Moved}
use Rattle.fd_store.specs.Levels.{Entry, Stack}
use Rattle.fd_store.specs.Trails.{entries_of, stack_of, IsStore}
use Rattle.learn_clauses.specs.Walk.{clause_at, trail_of, walk}
use Rattle.learn_clauses.specs.Learnt.{domains_of, AreFrom, IsWithinDomains, IsDroppedBy, IsLearnt}
use Rattle.learn_clauses.specs.Turns.{is_passed, ends_at, clause_by, steps_by, next_clause, next_steps, IsReadable, IsResolvable, IsStart}
use Rattle.learn_clauses.proofs.BackLaws.{trail_of-stack, length-domains}
use Rattle.learn_clauses.proofs.WithinLaws.{within_at, vars_within}
use Rattle.learn_clauses.proofs.Walking.{Conflict, domains, Walking, HasEnded, walking_first, walking_resolves, walking_goes, walking_ends, walking_last}

-- the boxes before the entries, the oldest of which stands first
abbrev pub boxes_before : Boxes → List Moved → Boxes
boxes_before boxes [] = boxes
boxes_before boxes (m ∷ ms) = slice_set (boxes_before boxes ms) m.var m.before

-- the conflict of clause n in the present boxes, with a trail, the oldest entry first
abbrev pub conflict_of : List Literals → Boxes → List Moved → ℕ → Conflict
conflict_of clauses boxes trail n =
    record { clauses = clauses; boxes = boxes; trail = reverse trail; clause = clause_at clauses n }

abbrev pub WalkingAt : List Literals → Boxes → List Moved → ℕ → ℕ → Literals → List (ℕ × ℕ) → Type 0
WalkingAt clauses boxes trail n left c steps =
    Walking (conflict_of clauses boxes trail n) (boxes_before boxes (drop left trail))
    (reverse (take left trail)) c steps

-- what a store shows of its levels
pub record IsShown (s : Stack) (trail : List Moved) : Type 0 where
  pub levels_are : s ≡ stack_of s.top.now (reverse trail)
  pub kept : IsStore s.top.now (reverse trail)

entries_are : (s : Stack) (trail : List Moved) → IsShown s trail →
    trail_of s ≡ entries_of (reverse trail)
entries_are s trail k =
    ap (λ (s : Stack). trail_of s) k.levels_are ∙ trail_of-stack (reverse trail) s.top.now

within_here : (clauses : List Literals) (s : Stack) (trail : List Moved) → IsShown s trail →
    All (λ c. IsWithinDomains (domains_of s) c) clauses →
    All (λ c. IsWithinDomains (domains_of (stack_of s.top.now (reverse trail))) c) clauses
within_here clauses s trail k w =
    subst (λ (t : Stack). All (λ c. IsWithinDomains (domains_of t) c) clauses) k.levels_are w

-- ---- the begin

-- the domains are as many as the boxes, so the clause that the walk begins with can be read
pub start_readable : (clauses : List Literals) (s : Stack) (trail : List Moved) (sets : Boxes)
    (n : ℕ) → IsShown s trail →
    IsStart clauses s (length sets) n → IsReadable clauses n sets
start_readable clauses s trail sets n k start =
    let size : length (domains_of s) ≡ length s.top.now =
    ap (λ (s : Stack). length (domains_of s)) k.levels_are
    ∙ length-domains (reverse trail) s.top.now in
    let room = start.room in
    record {
      exists = start.exists;
      vars = λ f. vars_within (domains_of s) (clause_at clauses n) 0 (length sets) f
          (omega (arith, size, room)) (within_at (domains_of s) clauses n start.within);
    }

pub walking_begins : (clauses : List Literals) (s : Stack) (trail : List Moved) (count n : ℕ)
    (c : Literals) (steps : List (ℕ × ℕ)) →
    IsShown s trail → IsStart clauses s count n → IsClause (clause_at clauses n) →
    c ≡ clause_at clauses n → steps ≡ [] →
    WalkingAt clauses s.top.now trail n (length trail) c steps
walking_begins clauses s trail count n c steps k start f h e =
    let r = conflict_of clauses s.top.now trail n in
    let came : AreFrom clauses s.top.now (entries_of (reverse trail)) =
    subst (λ (es : List Entry). AreFrom clauses s.top.now es) (entries_are s trail k) start.came in
    let first : Walking r s.top.now (reverse trail) (clause_at clauses n) [] =
    walking_first r f (within_at (domains r) clauses n (within_here clauses s trail k start.within))
    start.is_false came k.kept in
    rw (
      drop_all (length trail) trail (omega arith),
      take_all (length trail) trail (omega arith),
      h,
      e,
    ) first

-- ---- an entry

-- with i entries left behind it, the entry m is looked at
pub record IsEntryAt (trail : List Moved) (i left : ℕ) (m : Moved) : Type 0 where
  pub left_is : left ≡ i + 1
  pub within : i < length trail
  pub is : m ≡ get_or trail i m

seam : (trail : List Moved) (i left : ℕ) (m : Moved) → IsEntryAt trail i left m →
    (drop i trail ≡ m ∷ drop left trail) × (reverse (take left trail) ≡ m ∷ reverse (take i trail))
seam trail i left m at =
    let e = at.left_is in
    let behind : drop i trail ≡ m ∷ drop left trail = rw e (left_at trail i m m at.within at.is) in
    let more : take left trail ≡ take i trail ++ m ∷ [] =
    rw e (take_more trail i m at.within ∙ ap (λ (m : Moved). take i trail ++ m ∷ []) (sym at.is)) in
    (behind, ap (λ (ms : List Moved). reverse ms) more ∙ reverse-append (take i trail) (m ∷ []))

walking_here : (clauses : List Literals) (boxes : Boxes) (trail : List Moved) (n i left : ℕ)
    (m : Moved) (c : Literals) (steps : List (ℕ × ℕ)) →
    IsEntryAt trail i left m → WalkingAt clauses boxes trail n left c steps →
    Walking (conflict_of clauses boxes trail n) (boxes_before boxes (drop left trail))
    (m ∷ reverse (take i trail)) c steps
walking_here clauses boxes trail n i left m c steps at w =
    subst (λ (ms : List Moved). Walking (conflict_of clauses boxes trail n)
    (boxes_before boxes (drop left trail)) ms c steps) (seam trail i left m at).1 w

pub entry_var : (clauses : List Literals) (boxes : Boxes) (trail : List Moved) (n i left count : ℕ)
    (m : Moved) (c : Literals) (steps : List (ℕ × ℕ)) →
    IsEntryAt trail i left m → length boxes ≤ count → WalkingAt clauses boxes trail n left c steps →
    m.var < count
entry_var clauses boxes trail n i left count m c steps at room w' =
    let w = walking_here clauses boxes trail n i left m c steps at w' in
    let here = boxes_before boxes (drop left trail) in
    let size : length here ≡ length boxes =
    sym (length-domains (m ∷ reverse (take i trail)) here)
    ∙ ap (λ (b : Boxes). length b) w.domains_are ∙ length-domains (reverse trail) boxes in
    let exists = w.store.trail.0.exists in
    omega (arith, size, exists, room)

pub entry_resolves : (clauses : List Literals) (s : Stack) (trail : List Moved) (sets : Boxes)
    (n i left : ℕ) (m : Moved) (c : Literals) (steps : List (ℕ × ℕ)) →
    IsShown s trail → All (λ c. IsWithinDomains (domains_of s) c) clauses →
    length s.top.now ≤ length sets →
    IsEntryAt trail i left m → WalkingAt clauses s.top.now trail n left c steps →
    (j : ℕ) → m.from ≡ Some j → is_passed m c ≡ false → IsResolvable clauses c m.var j sets
entry_resolves clauses s trail sets n i left m c steps k within room at w =
    walking_resolves (conflict_of clauses s.top.now trail n)
    (boxes_before s.top.now (drop left trail)) m (reverse (take i trail)) c steps sets
    (within_here clauses s trail k within) room
    (walking_here clauses s.top.now trail n i left m c steps at w)

pub walking_on : (clauses : List Literals) (s : Stack) (trail : List Moved) (n i left : ℕ)
    (m : Moved) (c new : Literals) (steps news : List (ℕ × ℕ)) →
    IsShown s trail → All (λ c. IsWithinDomains (domains_of s) c) clauses →
    IsEntryAt trail i left m → WalkingAt clauses s.top.now trail n left c steps →
    ends_at m c ≡ false →
    ((j : ℕ) → m.from ≡ Some j → is_passed m c ≡ false → IsClause (clause_at clauses j)) →
    new ≡ next_clause clauses m c → news ≡ next_steps m c steps →
    WalkingAt clauses s.top.now trail n i new news
walking_on clauses s trail n i left m c new steps news k within at w h forms p q =
    let went = walking_goes (conflict_of clauses s.top.now trail n)
    (boxes_before s.top.now (drop left trail)) m (reverse (take i trail)) c steps
    (within_here clauses s trail k within)
    (walking_here clauses s.top.now trail n i left m c steps at w) h forms in
    rw ((seam trail i left m at).0, p, q) went

-- ---- the end

learnt_is : (clauses : List Literals) (s : Stack) (trail : List Moved) (n level : ℕ) (c : Literals)
    (steps : List (ℕ × ℕ)) → IsShown s trail →
    HasEnded (conflict_of clauses s.top.now trail n) c steps level →
    IsLearnt clauses s n c steps level
learnt_is clauses s trail n level c steps k e = record {
  walk_is = ap (λ (es : List Entry). walk s.top.now es clauses (clause_at clauses n))
      (entries_are s trail k) ∙ e.walks;
  form = e.form;
  within = subst (λ (t : Stack). IsWithinDomains (domains_of t) c) (sym k.levels_are) e.within;
  closes = e.closes;
  drops = λ z. subst (λ (t : Stack). IsDroppedBy c t level) (sym k.levels_are) (e.drops z);
}

-- where the walk ends, nothing changes
stays : (clauses : List Literals) (from : Option ℕ) (x : ℕ) (passed : Bool) (c : Literals)
    (steps : List (ℕ × ℕ)) → (not passed && is_none from) ≡ true →
    (cond passed c (clause_by from clauses x c) ≡ c)
    × (cond passed steps (steps_by from x steps) ≡ steps)
stays clauses None x passed c steps h = (
  elim passed as (λ b. cond b c c ≡ c) [
    | true ↦ refl
    | false ↦
        refl
  ],
  elim passed as (λ b. cond b steps steps ≡ steps) [ true ↦ refl | false ↦ refl ],
)
stays clauses (Some j) x true c steps h = (refl, refl)
stays clauses (Some j) x false c steps h = absurd (cc)

pub walk_ends : (clauses : List Literals) (s : Stack) (trail : List Moved) (n i left : ℕ)
    (m : Moved) (c new : Literals) (steps news : List (ℕ × ℕ)) →
    IsShown s trail → IsEntryAt trail i left m → WalkingAt clauses s.top.now trail n left c steps →
    ends_at m c ≡ true →
    new ≡ next_clause clauses m c → news ≡ next_steps m c steps →
    IsLearnt clauses s n new news m.level
walk_ends clauses s trail n i left m c new steps news k at w h p q =
    let same = stays clauses m.from m.var (is_passed m c) c steps h in
    let ended = learnt_is clauses s trail n m.level c steps k
    (walking_ends (conflict_of clauses s.top.now trail n) (boxes_before s.top.now (drop left trail))
    m (reverse (take i trail)) c steps
    (walking_here clauses s.top.now trail n i left m c steps at w) h) in
    rw (p, q, same.0, same.1) ended

pub walk_closes : (clauses : List Literals) (s : Stack) (trail : List Moved) (n left : ℕ)
    (c : Literals) (steps : List (ℕ × ℕ)) →
    IsShown s trail → left ≤ 0 → WalkingAt clauses s.top.now trail n left c steps →
    IsLearnt clauses s n c steps 0
walk_closes clauses s trail n left c steps k h w' =
    let zero : left ≡ 0 = omega arith in
    let w = subst (λ (left : ℕ). WalkingAt clauses s.top.now trail n left c steps) zero w' in
    learnt_is clauses s trail n 0 c steps k
    (walking_last (conflict_of clauses s.top.now trail n)
    (boxes_before s.top.now (drop 0 trail)) c steps w)
