-- Where a search stands behind a line more.
use Rattle.std.proofs.Common.{◌≡◌, ◌⊎◌, ℕ, zero, suc, ◌<◌, true, false, ◌&&◌, List, [], ◌∷◌, ◌++◌, length, refl, sym, ap, ◌∙◌, arith, subst, All, Some, slice_get, slice_index_or, length-append}
use Rattle.std.specs.List.{Contains}
use Rattle.std.proofs.lemmas.Bool.{and_from, lt-ltb}
use Rattle.std.proofs.lemmas.List.{get_or_append_left}
use Rattle.signed_clause.specs.SetAlgebra.{is_within}
use Rattle.signed_clause.specs.Clauses.{Boxes, Literals, box_of, IsWithinBoxes}
use Rattle.ground_form.specs.declared.con.Con.{Con}
use Rattle.ground_form.specs.declared.ground.Ground.{Ground}
use Rattle.ground_form.specs.Meaning.{clause_vars}
use Rattle.box_rules.specs.Justified.{justified}
use Rattle.rule_law.specs.Answers.{AreBoxesWithin}
use Rattle.rule_law.specs.CutTo.{AreSetsWithin}
use Rattle.fd_store.specs.Levels.{Stack, reacted}
use Rattle.log_form.specs.declared.line.Line.{Line}
use Rattle.log_form.specs.declared.line.Line.TheVariants.{Axiom, Use}
use Rattle.log_form.specs.Acceptance.{Made, clause_at, has_empty, vars_below, con_at, accepts, after, may_come, made}
use Rattle.log_form.specs.Acceptance as acceptance
use Rattle.run_law.specs.Replay.{State, Mode, Going, top_boxes, is_going, acts, none_acts, is_settled, are_quiet, none_empty, are_sets_within, is_split, mode_by, may_stand, changed, next, is_run, state_of}
use Rattle.run_law.specs.Replay as replay
use Rattle.run_law.specs.Lines.{HasSets}
use Rattle.run_law.proofs.Fronts.{run_more, made_more, state_more}
use Rattle.run_law.proofs.LineSets.{one_more}
use Rattle.run_law.proofs.RunLaws.{IsRunOf, state_is, run_boxes}
use Rattle.run_law.proofs.FoundLines.{going_open}
use Rattle.bound_search.specs.Awaited.{Awaited}
use Rattle.bound_search.specs.Standing.{IsRun, clauses_of, IsNumbered, AreAdded, AreWatched, IsReason, IsAt}

pub run_of : (g : Ground) (ls : List Line) → IsRun g ls → IsRunOf g ls
run_of g ls r = record { well_made = r.well_made; sets = r.sets; run = r.run }

-- the boxes are those that propagators may be asked about
pub boxes_at : (g : Ground) (ls : List Line) (clauses : List Literals) (levels : Stack)
    (added : Awaited) (mode : Mode) → IsAt g ls clauses levels added mode →
    AreBoxesWithin g.domains levels.top.now
boxes_at g ls clauses levels added mode at =
    subst (λ (s : Stack). AreBoxesWithin g.domains s.top.now) at.levels_are
    (run_boxes g ls (run_of g ls at.lines) at.lines.some)

-- ---- one line more

-- the line may follow what the lines leave
pub record MayFollow (g : Ground) (m : Made) (s : State) (l : Line) : Type 0 where
  pub sets : HasSets l
  pub comes : may_come g m l ≡ true
  pub stands : may_stand g m s l ≡ true

pub run_with : (g : Ground) (ls : List Line) (l : Line) → IsRun g ls →
    MayFollow g (made g ls) (state_of g ls) l → IsRun g (ls ++ l ∷ [])
run_with g ls l r f = record {
  well_made = r.well_made;
  some = r.some;
  sets = one_more ls l r.sets f.sets;
  run = run_more g ls l
      ∙ and_from (is_run g ls)
      (may_come g (made g ls) l && may_stand g (made g ls) (state_of g ls) l) r.run
      (and_from (may_come g (made g ls) l) (may_stand g (made g ls) (state_of g ls) l) f.comes
      f.stands);
}

-- what stands behind it
pub record IsBehind (m : Made) (s : State) (clauses : List Literals) (levels : Stack)
    (added : Awaited) (mode : Mode) : Type 0 where
  pub clauses_are : m.clauses ≡ clauses
  pub levels_are : s.levels ≡ levels
  pub mode_is : s.mode ≡ mode
  pub watched : AreWatched clauses s added

pub at_with : (g : Ground) (ls : List Line) (l : Line) (clauses : List Literals) (levels : Stack)
    (added : Awaited) (mode : Mode) → IsRun g (ls ++ l ∷ []) →
    IsBehind (after g (made g ls) l) (next g (made g ls) (state_of g ls) l) clauses levels added mode
    → IsAt g (ls ++ l ∷ []) clauses levels added mode
at_with g ls l clauses levels added mode r b =
    let state = state_more g ls l in
    record {
      lines = r;
      clauses_are = ap (λ (m : Made). m.clauses) (made_more g ls l) ∙ b.clauses_are;
      levels_are = ap (λ (s : State). s.levels) state ∙ b.levels_are;
      mode_is = ap (λ (s : State). s.mode) state ∙ b.mode_is;
      watched = subst (λ (s : State). AreWatched clauses s added) (sym state) b.watched;
    }

-- ---- what is watched

-- each of the learnt clauses is watched or true at level 0
abbrev pub AreKept : Awaited → List Literals → Type 0
AreKept added cs =
    All (λ c. Contains (clauses_of added.watched) c ⊎ Contains added.sure c) cs

-- the numbers stay right where clauses are added
pub numbered_more : (cs ds : List Literals) (added : List (ℕ × Literals)) →
    All (λ p. IsNumbered cs p) added → All (λ p. IsNumbered (cs ++ ds) p) added
numbered_more cs ds added h = λ k d lt.
    let p = slice_index_or added k d in
    let here = h k d lt in
    let exists = here.exists in
    let long = length-append cs ds in
    record {
      exists = omega (arith, exists, long);
      is = get_or_append_left cs ds [] p.0 exists ∙ here.is;
    }

pub watched_more : (cs ds : List Literals) (s t : State) (added : Awaited) →
    t.learnt ≡ s.learnt → t.bounds ≡ s.bounds → AreWatched cs s added →
    AreWatched (cs ++ ds) t added
watched_more cs ds s t added l b w = record {
  numbered = numbered_more cs ds added.watched w.numbered;
  asked = numbered_more cs ds added.asked w.asked;
  learnt = subst (AreKept added) (sym l) w.learnt;
  bounds = subst (AreAdded added.asked) (sym b) w.bounds;
}

-- ---- a clause is used

-- the state is one in which lines go on, and no clause that was made is empty
pub going_on : (g : Ground) (ls : List Line) → IsRun g ls → (state_of g ls).mode ≡ Going →
    has_empty (made g ls).clauses ≡ false
going_on g ls r e =
    let whole = run_of g ls r in
    going_open (made g ls) (top_boxes (state_of g ls)) (state_of g ls).mode e
    (state_is g ls whole).mode_holds

use_follows : (g : Ground) (m : Made) (s : State) (i : ℕ) → s.mode ≡ Going →
    has_empty m.clauses ≡ false → i < length m.clauses →
    acts (top_boxes s) (clause_at m.clauses i) ≡ true → MayFollow g m s (Use i)
unfolding acceptance.accepts replay.may_stand
use_follows g m s i going open_so_far lt h =
    let below = lt-ltb i (length m.clauses) lt in
    let on : is_going s.mode ≡ true = ap is_going going in
    record { sets = tt; comes = rw (open_so_far, below) refl; stands = rw (on, h) refl }

use_behind : (g : Ground) (m : Made) (s : State) (i : ℕ) (added : Awaited) →
    AreWatched m.clauses s added →
    IsBehind (after g m (Use i)) (next g m s (Use i)) m.clauses
    (reacted i (clause_at m.clauses i) s.levels) added
    (mode_by (top_boxes s) i (clause_at m.clauses i))
unfolding acceptance.after replay.changed
use_behind g m s i added w = record {
  clauses_are = refl;
  levels_are = refl;
  mode_is = refl;
  watched = record { numbered = w.numbered; asked = w.asked; learnt = w.learnt; bounds = w.bounds };
}

-- what is asked of the clause of a number that is used
pub record IsUsed (clauses : List Literals) (levels : Stack) (i : ℕ) (c : Literals) : Type 0 where
  pub exists : i < length clauses
  pub is : clause_at clauses i ≡ c
  pub acting : acts levels.top.now c ≡ true

use_self : (g : Ground) (ls : List Line) (added : Awaited) (i : ℕ) →
    IsAt g ls (made g ls).clauses (state_of g ls).levels added Going →
    IsUsed (made g ls).clauses (state_of g ls).levels i (clause_at (made g ls).clauses i) →
    IsAt g (ls ++ Use i ∷ []) (made g ls).clauses
    (reacted i (clause_at (made g ls).clauses i) (state_of g ls).levels) added
    (mode_by (state_of g ls).levels.top.now i (clause_at (made g ls).clauses i))
use_self g ls added i at u =
    let m = made g ls in
    let s = state_of g ls in
    let open_so_far = going_on g ls at.lines at.mode_is in
    let follows = use_follows g m s i at.mode_is open_so_far u.exists u.acting in
    let run = run_with g ls (Use i) at.lines follows in
    at_with g ls (Use i) m.clauses (reacted i (clause_at m.clauses i) s.levels) added
    (mode_by s.levels.top.now i (clause_at m.clauses i)) run (use_behind g m s i added at.watched)

pub use_at : (g : Ground) (ls : List Line) (clauses : List Literals) (levels : Stack)
    (added : Awaited) (i : ℕ) (c : Literals) → IsAt g ls clauses levels added Going →
    IsUsed clauses levels i c →
    IsAt g (ls ++ Use i ∷ []) clauses (reacted i c levels) added (mode_by levels.top.now i c)
use_at g ls clauses levels added i c at u =
    let P : List Literals → Stack → Literals → Type 0 = λ cs k d.
    IsAt g ls cs k added Going → IsUsed cs k i d →
    IsAt g (ls ++ Use i ∷ []) cs (reacted i d k) added (mode_by k.top.now i d) in
    let m = made g ls in
    let s = state_of g ls in
    let self : P m.clauses s.levels (clause_at m.clauses i) = use_self g ls added i in
    let one : P clauses s.levels (clause_at clauses i) =
    subst (λ (cs : List Literals). P cs s.levels (clause_at cs i)) at.clauses_are self in
    let two : P clauses levels (clause_at clauses i) =
    subst (λ (k : Stack). P clauses k (clause_at clauses i)) at.levels_are one in
    (subst (λ (d : Literals). P clauses levels d) u.is two) at u

-- ---- a constraint's clause

vars_there : (n : ℕ) (boxes : Boxes) (c : Literals) → length boxes ≡ n → IsWithinBoxes c boxes →
    vars_below n (clause_vars c) ≡ true
vars_there n boxes [] e h = refl
vars_there n boxes (l ∷ c) e h =
    let there : l.0 < length boxes = h 0 l (omega arith) in
    let below = lt-ltb l.0 n (omega (arith, there, e)) in
    let more = vars_there n boxes c e (λ k d lt. h (suc k) d (omega arith)) in
    rw (below, more) refl

sets_are : (domains : Boxes) (c : Literals) → AreSetsWithin domains c →
    are_sets_within domains c ≡ true
sets_are domains [] h = refl
sets_are domains (l ∷ c) h =
    let here : is_within l.1 (box_of domains l.0) ≡ true = h 0 l (omega arith) in
    let more = sets_are domains c (λ k d lt. h (suc k) d (omega arith)) in
    rw (here, more) refl

con_is : (cons : List Con) (k : ℕ) (con d : Con) → slice_get cons k ≡ Some con →
    slice_index_or cons k d ≡ con
con_is [] k con d e = absurd cc
con_is (x ∷ cons) zero con d e = cc
con_is (x ∷ cons) (suc k) con d e = con_is cons k con d e

axiom_follows : (g : Ground) (m : Made) (s : State) (k : ℕ) (c : Literals) → s.mode ≡ Going →
    has_empty m.clauses ≡ false → length (top_boxes s) ≡ length g.domains →
    IsReason g (top_boxes s) k c → MayFollow g m s (Axiom k c)
unfolding acceptance.accepts replay.may_stand
axiom_follows g m s k c going open_so_far size r =
    let below = lt-ltb k (length g.cons) r.exists in
    let vars = vars_there (length g.domains) (top_boxes s) c size r.prunes.named in
    let just : justified (con_at g.cons k) g.domains c ≡ true =
    ap (λ (con : Con). justified con g.domains c) (con_is g.cons k r.con _ r.there)
    ∙ r.prunes.follows in
    let on : is_going s.mode ≡ true = ap is_going going in
    let sets = sets_are g.domains c r.within in
    let acting : acts (top_boxes s) c ≡ true = r.prunes.acts in
    record {
      sets = r.prunes.form;
      comes = rw (open_so_far, below, vars, just) refl;
      stands = rw (on, sets, acting) refl;
    }

axiom_behind : (g : Ground) (m : Made) (s : State) (k : ℕ) (c : Literals)
    (added : Awaited) → AreWatched m.clauses s added →
    IsBehind (after g m (Axiom k c)) (next g m s (Axiom k c)) (m.clauses ++ c ∷ [])
    (reacted (length m.clauses) c s.levels) added (mode_by (top_boxes s) (length m.clauses) c)
unfolding acceptance.after replay.changed
axiom_behind g m s k c added w = record {
  clauses_are = refl;
  levels_are = refl;
  mode_is = refl;
  watched = watched_more m.clauses (c ∷ []) s (next g m s (Axiom k c)) added refl refl w;
}

axiom_self : (g : Ground) (ls : List Line) (added : Awaited) (k : ℕ) (c : Literals) →
    IsAt g ls (made g ls).clauses (state_of g ls).levels added Going →
    IsReason g (state_of g ls).levels.top.now k c →
    IsAt g (ls ++ Axiom k c ∷ []) ((made g ls).clauses ++ c ∷ [])
    (reacted (length (made g ls).clauses) c (state_of g ls).levels) added
    (mode_by (state_of g ls).levels.top.now (length (made g ls).clauses) c)
axiom_self g ls added k c at r =
    let m = made g ls in
    let s = state_of g ls in
    let open_so_far = going_on g ls at.lines at.mode_is in
    let size = (boxes_at g ls m.clauses s.levels added Going at).size in
    let follows = axiom_follows g m s k c at.mode_is open_so_far size r in
    let run = run_with g ls (Axiom k c) at.lines follows in
    at_with g ls (Axiom k c) (m.clauses ++ c ∷ []) (reacted (length m.clauses) c s.levels) added
    (mode_by s.levels.top.now (length m.clauses) c) run (axiom_behind g m s k c added at.watched)

pub axiom_at : (g : Ground) (ls : List Line) (clauses : List Literals) (levels : Stack)
    (added : Awaited) (k : ℕ) (c : Literals) → IsAt g ls clauses levels added Going →
    IsReason g levels.top.now k c →
    IsAt g (ls ++ Axiom k c ∷ []) (clauses ++ c ∷ []) (reacted (length clauses) c levels) added
    (mode_by levels.top.now (length clauses) c)
axiom_at g ls clauses levels added k c at r =
    let P : List Literals → Stack → Type 0 = λ cs s.
    IsAt g ls cs s added Going → IsReason g s.top.now k c →
    IsAt g (ls ++ Axiom k c ∷ []) (cs ++ c ∷ []) (reacted (length cs) c s) added
    (mode_by s.top.now (length cs) c) in
    let m = made g ls in
    let s = state_of g ls in
    let self : P m.clauses s.levels = axiom_self g ls added k c in
    let one : P clauses s.levels =
    subst (λ (cs : List Literals). P cs s.levels) at.clauses_are self in
    (subst (λ (s : Stack). P clauses s) at.levels_are one) at r
