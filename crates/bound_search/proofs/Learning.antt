-- The steps that decide and that explain a conflict.
use Rattle.std.proofs.Common.{◌≡◌, ◌↔◌, ℕ, zero, suc, ◌+◌, ◌-◌, ◌<◌, ◌≤◌, true, false, not, ◌&&◌, cond, List, [], ◌∷◌, ◌++◌, length, refl, sym, ap, ◌∙◌, arith, subst, nat_lt, All, None}
use Rattle.std.proofs.lemmas.Bool.{and_parts, not-true, lt-ltb}
use Rattle.std.proofs.lemmas.List.{length_push}
use Rattle.signed_clause.specs.Ranges.{Ranges, is_nil}
use Rattle.signed_clause.specs.SetAlgebra.{is_within}
use Rattle.signed_clause.specs.Clauses.{Boxes, Literals, box_of, false_in, IsWithinBoxes}
use Rattle.signed_clause.proofs.SetFacts.{within_law}
use Rattle.ground_form.specs.declared.ground.Ground.{Ground}
use Rattle.numbered_clauses.specs.declared.chain.Chain as chains
use Rattle.fd_store.specs.Levels.{Level, Stack, moved}
use Rattle.fd_store.specs.Undo.{dropped_from, dropped}
use Rattle.learn_clauses.specs.Learnt.{domains_of, CameFrom, IsWithinDomains, IsDroppedBy}
use Rattle.learn_clauses.proofs.WithinLaws.{vars_within}
use Rattle.clause_watches.specs.declared.rest.Rest.{Rest}
use Rattle.clause_watches.specs.declared.rest.Rest.TheVariants.{Listed}
use Rattle.clause_watches.specs.Watching.{Watching, IsKnown, clause_of, rest_of}
use Rattle.branch_choice.specs.declared.split.Order.{Order}
use Rattle.branch_choice.specs.Picks.{Hints}
use Rattle.log_form.specs.declared.line.Line.{Line}
use Rattle.log_form.specs.declared.line.Line.TheVariants.{Chain, Decide}
use Rattle.log_form.specs.Acceptance.{clause_at, has_empty, made}
use Rattle.proof_log.specs.Rounds.{Journal}
use Rattle.prop_queue.specs.Work.{Work}
use Rattle.run_law.specs.Replay.{Mode, Going, Conflict, state_of}
use Rattle.run_law.specs.Ordered.{IsDecidedBy}
use Rattle.run_law.specs.Decisions.{decisions}
use Rattle.run_law.proofs.LevelFacts.{IsPart}
use Rattle.run_law.proofs.RunLaws.{run_came, run_domains, run_within, run_conflict}
use Rattle.bound_search.specs.declared.after.After.{After}
use Rattle.bound_search.specs.declared.after.After.TheVariants as after
use Rattle.bound_search.specs.declared.board.Board.{Board}
use Rattle.bound_search.specs.declared.engine.Engine.{Engine}
use Rattle.bound_search.specs.Modes.{rank}
use Rattle.bound_search.specs.Awaited.{Awaited, keeping, is_sure, ground_boxes}
use Rattle.bound_search.specs.Boards.{IsBoard}
use Rattle.bound_search.specs.Standing.{IsRun, HoldsIn, IsFixed, IsDecision, IsAt}
use Rattle.bound_search.specs.Engines.{added_of, Shows, Reached, IsApplied, IsEngineWith, IsKeptBy, IsKept, MayBackjump, IsBackjumped, IsFall}
use Rattle.bound_search.proofs.BoardLaws.{lower_dropped}
use Rattle.bound_search.proofs.Fewer.{decided_lower, below_same}
use Rattle.bound_search.proofs.MoreLines.{run_of, boxes_at}
use Rattle.bound_search.proofs.Sure.{sure_reacted, sure_decided, sure_dropped, sure_more}
use Rattle.bound_search.proofs.Decisions.{decide_at}
use Rattle.bound_search.proofs.Chains.{IsExplained, chain_closes, chain_at}
use Rattle.bound_search.proofs.Steps.{valid_at, decisions-behind}
use Rattle.bound_search.proofs.UseAxiom.{IsWritten, kept_line, kept_by, line_reached}

-- ---- a decision

-- the parts of a split
pub record IsHalf (boxes : Boxes) (x : ℕ) (half : Ranges) : Type 0 where
  pub some : is_nil half ≡ false
  pub within : is_within half (box_of boxes x) ≡ true
  pub less : is_within (box_of boxes x) half ≡ false

pub half_parts : (g : Ground) (boxes : Boxes) (x : ℕ) (half : Ranges) →
    IsDecision g boxes x half → IsHalf boxes x half
half_parts g boxes x half d =
    let box = box_of boxes x in
    let p = and_parts (not (is_nil half)) (is_within half box && not (is_within box half)) d.splits in
    let q = and_parts (is_within half box) (not (is_within box half)) p.1 in
    record {
      some = not-true (is_nil half) p.0;
      within = q.0;
      less = not-true (is_within box half) q.1;
    }

-- what a decision comes to
pub record HasDecided (g : Ground) (old new : Journal) (d e : Engine) : Type 0 where
  pub at : Shows g new.lines e Going
  pub below : length e.board.store.below ≡ length d.board.store.below + 1
  pub more : decisions new.lines ≡ decisions old.lines + 1

pub decide_kept : (g : Ground) (order : Order) (hints : Hints) (old new : Journal) (d : Engine)
    (x : ℕ) (half : Ranges) → Shows g old.lines d Going →
    IsFixed g d.board.store.top.now (added_of d) →
    IsDecision g d.board.store.top.now x half → IsWritten old new (Decide x half) →
    IsDecidedBy order d.board.store.top.now hints g.search x half →
    IsKeptBy g order hints old new
decide_kept g order hints old new d x half s f h w by =
    let at = decide_at g old.lines d.clauses d.board.store (added_of d) x half s.at f h in
    kept_line g order hints old new (Decide x half) w
    (subst (λ (k : Stack). IsDecidedBy order k.top.now hints g.search x half)
    (sym s.at.levels_are) by) at.lines.run

pub decide_step : (g : Ground) (old new : Journal) (d e : Engine) (x : ℕ) (half : Ranges) →
    Shows g old.lines d Going → IsFixed g d.board.store.top.now (added_of d) →
    IsDecision g d.board.store.top.now x half → IsWritten old new (Decide x half) →
    IsEngineWith d e d.clauses (added_of d) →
    e.board.store ≡ moved None x half d.board.store →
    IsBoard g e.board.store e.board.queue e.board.watches → HasDecided g old new d e
decide_step g old new d e x half s f h w k store board =
    let levels = d.board.store in
    let added = (added_of d) in
    let at = decide_at g old.lines d.clauses levels added x half s.at f h in
    let valid = valid_at g old.lines d.clauses levels added Going s.at in
    let boxes = boxes_at g old.lines d.clauses levels added Going s.at in
    let parts = half_parts g levels.top.now x half h in
    let size = boxes.size in
    let few = s.at.lines.well_made.search in
    let searched = h.searched in
    let part : IsPart (box_of levels.top.now x) half = record {
      valid = h.valid;
      within = (within_law half (box_of levels.top.now x) h.valid (valid x)).0 parts.within;
      some = parts.some;
    } in
    let one : IsAt g (old.lines ++ Decide x half ∷ []) e.clauses (moved None x half levels) added
    Going = subst (λ (cs : List Literals). IsAt g (old.lines ++ Decide x half ∷ []) cs
    (moved None x half levels) added Going) (sym k.clauses_are) at in
    let two : IsAt g (old.lines ++ Decide x half ∷ []) e.clauses e.board.store added Going =
    subst (λ (q : Stack). IsAt g (old.lines ++ Decide x half ∷ []) e.clauses q added Going)
    (sym store) one in
    let three : IsAt g (old.lines ++ Decide x half ∷ []) e.clauses e.board.store
    (added_of e) Going = subst (λ (ps : Awaited).
    IsAt g (old.lines ++ Decide x half ∷ []) e.clauses e.board.store ps Going)
    (sym k.added_are) two in
    let table = s.table in
    let same = k.table in
    let long = decisions-behind old.lines (Decide x half) in
    let lines = ap decisions w.lines in
    let deeper = ap (λ (q : Stack). length q.below) store in
    record {
      at = record {
        at = subst (λ (ls : List Line). IsAt g ls e.clauses e.board.store (added_of e)
            Going) (sym w.lines) three;
        sure = subst (λ (cs : List Literals). All (λ c. HoldsIn (ground_boxes e.board.store) c) cs)
            (sym (ap (λ (w : Awaited). w.sure) k.added_are))
            (sure_decided x half levels e.board.store d.sure.items store s.sure);
        board = board;
        lower = decided_lower g x half levels e.board.store valid
            (omega (arith, searched, few, size)) part f.is_quiet store s.lower;
        table = omega (arith, table, same);
      };
      below = omega (arith, deeper);
      more = omega (arith, long, lines);
    }

-- ---- a conflict

-- what is known of a conflict, for its analysis
pub record IsKnownConflict (clauses : List Literals) (levels : Stack) (n : ℕ) : Type 0 where
  pub exists : n < length clauses
  pub is_false : false_in levels.top.now (clause_at clauses n) ≡ true
  pub within : All (λ c. IsWithinDomains (domains_of levels) c) clauses
  pub came : CameFrom clauses levels

pub conflict_known : (g : Ground) (ls : List Line) (clauses : List Literals) (levels : Stack)
    (added : Awaited) (n : ℕ) → IsAt g ls clauses levels added (Conflict n) →
    IsKnownConflict clauses levels n
conflict_known g ls clauses levels added n at =
    let r = run_of g ls at.lines in
    let m = made g ls in
    let s = state_of g ls in
    let it = run_conflict g ls n r at.mode_is in
    let within : All (λ c. IsWithinDomains (domains_of s.levels) c) m.clauses =
    subst (λ (b : Boxes). All (λ c. IsWithinDomains b c) m.clauses) (sym (run_domains g ls r))
    (run_within g ls r) in
    let self : IsKnownConflict m.clauses s.levels n = record {
      exists = it.exists;
      is_false = it.is_false;
      within = within;
      came = run_came g ls r;
    } in
    let one : IsKnownConflict clauses s.levels n =
    subst (λ (cs : List Literals). IsKnownConflict cs s.levels n) at.clauses_are self in
    subst (λ (k : Stack). IsKnownConflict clauses k n) at.levels_are one

pub domains_at : (g : Ground) (ls : List Line) (clauses : List Literals) (levels : Stack)
    (added : Awaited) (mode : Mode) → IsAt g ls clauses levels added mode →
    domains_of levels ≡ g.domains
domains_at g ls clauses levels added mode at =
    ap domains_of (sym at.levels_are) ∙ run_domains g ls (run_of g ls at.lines)

-- ---- levels that were dropped

dropped_few : (k : ℕ) (l : Level) (ls : List Level) → length (dropped_from k l ls).below ≤ length ls
dropped_few k l [] = omega arith
dropped_few k l (m ∷ ls) =
    let more = dropped_few k m ls in
    elim (nat_lt k (suc (length ls))) as (λ b.
    length (cond b (dropped_from k m ls) (record { top = l; below = m ∷ ls })).below
    ≤ suc (length ls)) [
      | true ↦ omega (arith, more)
      | false ↦ omega arith
    ]

dropped_fewer : (k : ℕ) (l : Level) (ls : List Level) → k < length ls →
    length (dropped_from k l ls).below < length ls
dropped_fewer k l [] lt = absurd (omega arith)
dropped_fewer k l (m ∷ ls) lt =
    let more = dropped_few k m ls in
    let yes : nat_lt k (suc (length ls)) ≡ true = lt-ltb k (suc (length ls)) lt in
    let less : length (dropped_from k m ls).below < suc (length ls) = omega (arith, more) in
    rw yes less

pub fewer_levels : (k : ℕ) (s t : Stack) → k < length s.below → t ≡ dropped k s →
    length t.below < length s.below
fewer_levels k s t lt e =
    let less = dropped_fewer k s.top s.below lt in
    subst (λ (q : Stack). length q.below < length s.below) (sym e) less

rank_few : (a : After) → rank a ≤ 2
rank_few after.Going = omega arith
rank_few (after.Conflict n) = omega arith
rank_few after.Closed = omega arith

-- ---- one clause more is watched

known_more : (boxes : Boxes) (added : List (ℕ × Literals)) (rests : List Rest) (p : ℕ × Literals) →
    length rests ≡ length added →
    ((i : ℕ) → IsKnown boxes (clause_of added i) (rest_of rests i)) →
    (i : ℕ) → IsKnown boxes (clause_of (added ++ p ∷ []) i) (rest_of (rests ++ Listed ∷ []) i)
known_more boxes [] [] p e h zero = tt
known_more boxes [] [] p e h (suc i) = tt
known_more boxes [] (r ∷ rests) p e h i = absurd (omega arith)
known_more boxes (q ∷ added) [] p e h i = absurd (omega arith)
known_more boxes (q ∷ added) (r ∷ rests) p e h zero = h 0
known_more boxes (q ∷ added) (r ∷ rests) p e h (suc i) =
    known_more boxes added rests p (omega (arith, e)) (λ j. h (suc j)) i

pub board_added : (g : Ground) (s : Stack) (work : Work) (w v : Watching) (p : ℕ × Literals) →
    IsBoard g s work w → v.variables ≡ w.variables → v.added ≡ w.added ++ p ∷ [] →
    v.rests ≡ w.rests ++ Listed ∷ [] → IsBoard g s work v
board_added g s work w v p b vars added rests =
    let more = length_push w.added p in
    let longer = length_push w.rests Listed in
    let one = ap length added in
    let two = ap length rests in
    let paired = b.paired in
    let known = known_more s.top.now w.added w.rests p paired b.watched in
    let fits : (i : ℕ) → IsKnown s.top.now (clause_of v.added i) (rest_of (w.rests ++ Listed ∷ []) i)
    = subst (λ (ps : List (ℕ × Literals)). (i : ℕ) →
    IsKnown s.top.now (clause_of ps i) (rest_of (w.rests ++ Listed ∷ []) i)) (sym added) known in
    record {
      size = b.size;
      valid = b.valid;
      over = b.over;
      listed = b.listed;
      variables = vars ∙ b.variables;
      paired = omega (arith, more, longer, one, two, paired);
      watched = subst (λ (rs : List Rest). (i : ℕ) →
          IsKnown s.top.now (clause_of v.added i) (rest_of rs i)) (sym rests) fits;
    }

-- ---- what is learnt

-- the steps and the clause that an analysis answers, with the level that is dropped
pub record IsLesson (clauses : List Literals) (levels : Stack) (n : ℕ) (chain : chains.Chain)
    (c : Literals) (level : ℕ) : Type 0 where
  pub explained : IsExplained clauses levels n chain c
  pub within : IsWithinDomains (domains_of levels) c
  pub closes : (level ≡ 0) ↔ (c ≡ [])
  pub drops : 0 < level → IsDroppedBy c levels level

pub lesson_run : (g : Ground) (ls : List Line) (clauses : List Literals) (levels : Stack)
    (added : Awaited) (n : ℕ) (chain : chains.Chain) (c : Literals) (level : ℕ) →
    IsAt g ls clauses levels added (Conflict n) → IsLesson clauses levels n chain c level →
    IsRun g (ls ++ Chain chain c ∷ [])
lesson_run g ls clauses levels added n chain c zero at h =
    (chain_closes g ls clauses levels added n chain c at h.explained (h.closes.0 refl)).lines
lesson_run g ls clauses levels added n chain c (suc k) at h =
    (chain_at g ls clauses levels added n chain c (suc k) false at h.explained
    (h.drops (omega arith))).lines

pub lesson_kept : (g : Ground) (old new : Journal) (d : Engine) (n : ℕ) (chain : chains.Chain)
    (c : Literals) (level : ℕ) → Shows g old.lines d (Conflict n) →
    IsLesson d.clauses d.board.store n chain c level → IsWritten old new (Chain chain c) →
    IsKept g old new
lesson_kept g old new d n chain c level s h w =
    kept_by g old new (Chain chain c) w (λ g order hints s. tt)
    (lesson_run g old.lines d.clauses d.board.store (added_of d) n chain c level s.at h)

pub lesson_closes : (g : Ground) (old new : Journal) (d : Engine) (n : ℕ) (chain : chains.Chain)
    (c : Literals) (level : ℕ) → Shows g old.lines d (Conflict n) →
    IsLesson d.clauses d.board.store n chain c level → IsWritten old new (Chain chain c) →
    level ≡ 0 → has_empty (made g new.lines).clauses ≡ true
lesson_closes g old new d n chain c level s h w e =
    let closed = (chain_closes g old.lines d.clauses d.board.store (added_of d) n chain c
    s.at h.explained (h.closes.0 e)).closed in
    subst (λ (ls : List Line). has_empty (made g ls).clauses ≡ true) (sym w.lines) closed

pub may_backjump : (g : Ground) (ls : List Line) (d : Engine) (n : ℕ) (chain : chains.Chain)
    (c : Literals) (level : ℕ) → Shows g ls d (Conflict n) →
    IsLesson d.clauses d.board.store n chain c level → 0 < level →
    MayBackjump g d.board.store c level
may_backjump g ls d n chain c level s h lt =
    let levels = d.board.store in
    let added = (added_of d) in
    let size = (boxes_at g ls d.clauses levels added (Conflict n) s.at).size in
    let is = domains_at g ls d.clauses levels added (Conflict n) s.at in
    let within = subst (λ (b : Boxes). IsWithinDomains b c) is h.within in
    record {
      exists = (h.drops lt).exists;
      some = lt;
      vars = vars_within g.domains c 0 (length levels.top.now) h.explained.form (omega (arith, size))
          within;
      form = h.explained.form;
    }

pub lesson_reached : (g : Ground) (old new : Journal) (d e : Engine) (n : ℕ) (chain : chains.Chain)
    (c : Literals) (level : ℕ) (a : After) → Shows g old.lines d (Conflict n) →
    IsLesson d.clauses d.board.store n chain c level → IsWritten old new (Chain chain c) →
    0 < level → IsBackjumped g d e c level a → Reached g new.lines e a
lesson_reached g old new d e n chain c level a s h w lt t =
    let levels = d.board.store in
    let added = (added_of d) in
    let drop = h.drops lt in
    let exists = drop.exists in
    let below = dropped (level - 1) levels in
    let was = (may_backjump g old.lines d n chain c level s h lt).vars in
    let size = s.board.size in
    let now = t.applied.board.size in
    let vars : IsWithinBoxes c e.board.store.top.now = λ k l less.
    let there = was k l less in omega (arith, there, size, now) in
    let b = is_sure e.board.store c in
    let at = chain_at g old.lines d.clauses levels added n chain c level b s.at h.explained drop in
    let lower = lower_dropped g (level - 1) levels below (omega (arith, lt, exists)) s.lower refl in
    line_reached g old new (Chain chain c) d e below (length d.clauses) c (d.clauses ++ c ∷ [])
    (keeping b (length d.clauses) c added) a (record {
      written = w;
      engine = t.engine;
      applied = t.applied;
      lower = lower.below;
      sure = subst (λ (cs : List Literals). All (λ c. HoldsIn (ground_boxes e.board.store) c) cs)
          (sym (ap (λ (w : Awaited). w.sure) t.engine.added_are))
          (sure_more b e.board.store c d.sure.items h.explained.form vars refl
          (sure_reacted (length d.clauses) c below e.board.store d.sure.items h.explained.form
          lower.top.wider.large_valid t.applied.store
          (sure_dropped (level - 1) levels d.sure.items s.sure)));
      form = h.explained.form;
      valid = lower.top.wider.large_valid;
      table = s.table;
    }) at

pub lesson_falls : (g : Ground) (d e : Engine) (c : Literals) (level : ℕ) (a : After) →
    MayBackjump g d.board.store c level → IsBackjumped g d e c level a → IsFall d e a
lesson_falls g d e c level a m t =
    let levels = d.board.store in
    let below = dropped (level - 1) levels in
    let exists = m.exists in
    let some = m.some in
    let less = fewer_levels (level - 1) levels below (omega (arith, exists, some)) refl in
    let same : length e.board.store.below ≡ length below.below =
    ap length (below_same (length d.clauses) c below e.board.store t.applied.store) in
    let few = rank_few a in
    record {
      shorter = omega (arith, less, same, few);
      fewer_levels = omega (arith, less, same);
    }

-- the clause is the same
pub taken_same : (g : Ground) (d e : Engine) (b c : Literals) (level : ℕ) (a : After) → b ≡ c →
    IsBackjumped g d e b level a → IsBackjumped g d e c level a
taken_same g d e b c level a same t =
    subst (λ (k : Literals). IsBackjumped g d e k level a) same t

-- the analysis before it changed no more than what the table holds
pub taken_table : (g : Ground) (d f e : Engine) (c : Literals) (level : ℕ) (a : After) →
    f.board ≡ d.board → f.clauses ≡ d.clauses → added_of f ≡ added_of d →
    length f.running ≡ length d.running →
    IsBackjumped g f e c level a → IsBackjumped g d e c level a
taken_table g d f e c level a boards clauses added table t =
    let P : Board → List Literals → Type 0 = λ b cs.
    IsApplied g e (dropped (level - 1) b.store) (length cs) c a in
    let Q : Awaited → List Literals → Type 0 = λ w cs.
    (e.clauses ≡ cs ++ c ∷ [])
    × (added_of e ≡ keeping (is_sure e.board.store c) (length cs) c w) in
    let one : P d.board f.clauses = subst (λ (b : Board). P b f.clauses) boards t.applied in
    let both : Q (added_of f) f.clauses = (t.engine.clauses_are, t.engine.added_are) in
    let two : Q (added_of d) f.clauses = subst (λ (w : Awaited). Q w f.clauses) added both in
    let three : Q (added_of d) d.clauses =
    subst (λ (cs : List Literals). Q (added_of d) cs) clauses two in
    record {
      applied = subst (λ (cs : List Literals). P d.board cs) clauses one;
      engine = record {
        clauses_are = three.0;
        added_are = three.1;
        table = t.engine.table ∙ table;
      };
    }
