-- Each line of a run keeps the bound on its decisions.
use Rattle.std.proofs.Common.{◌≡◌, ℕ, zero, suc, ◌+◌, ◌<◌, ◌≤◌, true, false, not, ◌&&◌, ◌||◌, cond, List, [], ◌∷◌, length, refl, sym, arith, subst, slice_set, nat_lt, ◌==◌, add-zero, Some, None, is_some}
use Rattle.std.specs.Prelude.{unwrap_or}
use Rattle.std.proofs.lemmas.Int.{ints}
use Rattle.std.proofs.lemmas.Bool.{and_parts, ltb-true, not-true}
use Rattle.signed_clause.specs.Ranges.{Ranges, has, IsValid, is_nil}
use Rattle.signed_clause.specs.SetAlgebra.{is_within}
use Rattle.signed_clause.specs.Clauses.{Boxes, Literals, box_of, IsClause, AreValid}
use Rattle.signed_clause.proofs.ClauseLaws.{has_from_within}
use Rattle.ground_form.specs.declared.ground.Ground.{Ground}
use Rattle.ground_form.specs.Solutions.{size_of}
use Rattle.log_form.specs.declared.line.Line.{Line}
use Rattle.log_form.specs.declared.line.Line.TheVariants.{Axiom, Chain, Bound, Use, Found, Decide, Empty}
use Rattle.log_form.specs.Acceptance.{Made, clause_at, bounds}
use Rattle.fd_store.specs.Levels.{Stack, moved}
use Rattle.learn_clauses.specs.Walk.{walk_from, back_to}
use Rattle.run_law.specs.Replay.{State, Mode, Going, Conflict, AtFound, Closed, is_going, is_found, top_boxes, acts, is_settled, are_quiet, none_empty, are_fixed, are_sets_within, is_walk, leads_back, may_explain, mode_by, mode_by_bounds, led_back, react, learned, is_split, may_stand, changed, next}
use Rattle.run_law.specs.Decisions.{decisions}
use Rattle.run_law.specs.Lines.{HasSets}
use Rattle.run_law.proofs.Volumes.{IsCut}
use Rattle.run_law.proofs.Units.{AreValid-set, IsHalf}
use Rattle.run_law.proofs.Budget.{Stacked, pending, IsBounded, IsOpen, in_mode, reacted_open, decided_open, learned_open}

-- ---- what the modes say

going_open : (g : Ground) (d : ℕ) (s : Stack) (mode : Mode) → is_going mode ≡ true →
    IsBounded g d s mode → IsOpen g d s
going_open g d s Going h b =
    record { stack = b.stack; sets = b.sets; alive = b.alive; within = b.within }
going_open g d s (Conflict k) h b = absurd cc
going_open g d s AtFound h b = absurd cc
going_open g d s Closed h b = absurd cc

found_open : (g : Ground) (d : ℕ) (s : Stack) (mode : Mode) → is_found mode ≡ true →
    IsBounded g d s mode → IsOpen g d s
found_open g d s Going h b = absurd cc
found_open g d s (Conflict k) h b = absurd cc
found_open g d s AtFound h b =
    record { stack = b.stack; sets = b.sets; alive = b.alive; within = b.within }
found_open g d s Closed h b = absurd cc

-- there is always one point left that counts
pub bounded_less : (g : Ground) (d : ℕ) (s : Stack) (mode : Mode) → IsBounded g d s mode →
    d < size_of g
bounded_less g d s Going b = let a = b.alive in let w = b.within in omega (arith, a, w)
bounded_less g d s (Conflict k) b = let w = b.within in omega (arith, w)
bounded_less g d s AtFound b = let a = b.alive in let w = b.within in omega (arith, a, w)
bounded_less g d s Closed b = let w = b.within in omega (arith, w)

-- nothing more may count
closed : (g : Ground) (d : ℕ) (s : Stack) (mode : Mode) → IsBounded g d s mode →
    IsBounded g d s Closed
closed g d s Going b = let a = b.alive in let w = b.within in
    record { stack = b.stack; sets = b.sets; alive = tt; within = omega (arith, a, w) }
closed g d s (Conflict k) b =
    record { stack = b.stack; sets = b.sets; alive = tt; within = b.within }
closed g d s AtFound b = let a = b.alive in let w = b.within in
    record { stack = b.stack; sets = b.sets; alive = tt; within = omega (arith, a, w) }
closed g d s Closed b = b

-- ---- a decision

exists_from_within : (boxes : Boxes) (x : ℕ) (half : Ranges) → IsValid half → is_nil half ≡ false →
    is_within half (box_of boxes x) ≡ true → x < length boxes
exists_from_within boxes x [] v n h = absurd cc
exists_from_within [] x (r ∷ half) v n h =
    let in_half : has (r ∷ half) r.0 ≡ true = grind (arith, ints) in
    let in_none = has_from_within (r ∷ half) [] r.0 v (omega (arith, ints)) h in_half in
    absurd cc
exists_from_within (b ∷ bs) zero (r ∷ half) v n h = omega arith
exists_from_within (b ∷ bs) (suc x) (r ∷ half) v n h =
    let more = exists_from_within bs x (r ∷ half) v n h in omega arith

-- a split is a cut, and a half of its box
record IsSplit (n : ℕ) (boxes : Boxes) (x : ℕ) (half : Ranges) : Type 0 where
  pub cut : IsCut n boxes (slice_set boxes x half)
  pub half_is : IsHalf boxes x half

split_parts : (n : ℕ) (boxes : Boxes) (x : ℕ) (half : Ranges) → IsValid half →
    (nat_lt x n && is_split half (box_of boxes x)) ≡ true → IsSplit n boxes x half
split_parts n boxes x half v h =
    let box = box_of boxes x in
    let p = and_parts (nat_lt x n) (is_split half box) h in
    let q = and_parts (not (is_nil half)) (is_within half box && not (is_within box half)) p.1 in
    let r = and_parts (is_within half box) (not (is_within box half)) q.1 in
    let some = not-true (is_nil half) q.0 in
    let exists = exists_from_within boxes x half v some r.0 in
    record {
      cut = record {
        var = x;
        half = half;
        searched = ltb-true x n p.0;
        exists = exists;
        valid = v;
        some = some;
        part = r.0;
        proper = not-true (is_within box half) r.1;
        is = refl;
      };
      half_is = record { exists = exists; valid = v; some = some; part = r.0 };
    }

-- the parts of what is asked of a decision
pub record IsDecision (g : Ground) (s : State) (x : ℕ) (half : Ranges) : Type 0 where
  pub going : is_going s.mode ≡ true
  pub some : none_empty (top_boxes s) ≡ true
  pub cut : IsCut g.search (top_boxes s) (slice_set (top_boxes s) x half)
  pub half_is : IsHalf (top_boxes s) x half

pub decision_parts : (g : Ground) (m : Made) (s : State) (x : ℕ) (half : Ranges) → IsValid half →
    may_stand g m s (Decide x half) ≡ true → IsDecision g s x half
unfolding may_stand
decision_parts g m s x half v h =
    let top = top_boxes s in
    let last = nat_lt x g.search && is_split half (box_of top x) in
    let p = and_parts (is_going s.mode)
    (none_empty top && (are_quiet g.cons top && (is_settled s && last))) h in
    let q = and_parts (none_empty top) (are_quiet g.cons top && (is_settled s && last)) p.1 in
    let r = and_parts (are_quiet g.cons top) (is_settled s && last) q.1 in
    let t = and_parts (is_settled s) last r.1 in
    let split = split_parts g.search top x half v t.1 in
    record { going = p.0; some = q.0; cut = split.cut; half_is = split.half_is }

decide_step : (g : Ground) (d x : ℕ) (half : Ranges) (s : State) → IsValid half →
    IsDecision g s x half → IsBounded g d s.levels s.mode →
    IsOpen g (d + 1) (moved None x half s.levels)
decide_step g d x half s v w b =
    let o = going_open g d s.levels s.mode w.going b in
    let cut = w.cut in
    let sets = AreValid-set (top_boxes s) cut.var cut.half cut.exists o.sets cut.valid in
    decided_open g d x half s.levels o cut (subst AreValid (sym cut.is) sets)

-- ---- a chain

chain_step : (g : Ground) (d k : ℕ) (s : State) (c : Literals) → IsClause c →
    leads_back s.levels c ≡ true → Stacked g.search s.levels.top s.levels.below →
    AreValid (top_boxes s) → d + 1 + pending g.search s.levels.top s.levels.below ≤ size_of g →
    IsBounded g d (learned k c s).levels (learned k c s).mode
chain_step g d k s c f h st sets within =
    let P : State → Type 0 = λ t. IsBounded g d t.levels t.mode in
    let closed : P (record s { mode = Closed; learnt = c ∷ s.learnt }) =
    record { stack = st; sets = sets; alive = tt; within = within } in
    (elim (is_nil c) as (λ b. (b || is_some (back_to c s.levels)) ≡ true →
    P (cond b (record s { mode = Closed; learnt = c ∷ s.learnt }) (react k c (led_back c s)))) [
      | true ↦ λ h. closed
      | false ↦ λ h. (elim (back_to c s.levels) as (λ o. back_to c s.levels ≡ o → is_some o ≡ true →
          P (react k c (record s { levels = unwrap_or o s.levels; learnt = c ∷ s.learnt }))) [
            | None ↦ λ e h. absurd cc
            | Some lower ↦ λ e h.
                in_mode g d _ (mode_by lower.top.now k c)
                (learned_open g d k s.levels lower c f st within e)
          ]) refl h
    ]) h

explain_step : (g : Ground) (m : Made) (d k n : ℕ) (s : State) (steps : List (ℕ × ℕ))
    (c : Literals) (mode : Mode) → IsClause c → may_explain m s n steps c mode ≡ true →
    IsBounded g d s.levels mode → IsBounded g d (learned k c s).levels (learned k c s).mode
explain_step g m d k n s steps c Going f h b = absurd cc
explain_step g m d k n s steps c (Conflict j) f h b =
    let walk = walk_from s.levels m.clauses j in
    let p = and_parts (n == j) (is_walk walk steps c && leads_back s.levels c) h in
    let q = and_parts (is_walk walk steps c) (leads_back s.levels c) p.1 in
    chain_step g d k s c f q.1 b.stack b.sets b.within
explain_step g m d k n s steps c AtFound f h b = absurd cc
explain_step g m d k n s steps c Closed f h b = absurd cc

-- ---- any line

-- the clauses made so far are clauses
abbrev pub HasForms : Made → Type 0
HasForms m = (j : ℕ) → IsClause (clause_at m.clauses j)

-- what the line leaves is bounded, behind as many decisions more as it is itself
pub line_step : (g : Ground) (m : Made) (s : State) (d : ℕ) (l : Line) → HasSets l → HasForms m →
    may_stand g m s l ≡ true → IsBounded g d s.levels s.mode →
    IsBounded g (d + decisions (l ∷ [])) (next g m s l).levels (next g m s l).mode
unfolding may_stand changed
line_step g m s d (Axiom k c) f t h b =
    let p = and_parts (is_going s.mode) (are_sets_within g.domains c && acts (top_boxes s) c) h in
    let o = going_open g d s.levels s.mode p.0 b in
    rw add-zero (in_mode g d _ (mode_by (top_boxes s) (length m.clauses) c)
    (reacted_open g d (length m.clauses) s.levels c f o))
line_step g m s d (Use i) f t h b =
    let c = clause_at m.clauses i in
    let p = and_parts (is_going s.mode) (acts (top_boxes s) c) h in
    let o = going_open g d s.levels s.mode p.0 b in
    rw add-zero (in_mode g d _ (mode_by (top_boxes s) i c) (reacted_open g d i s.levels c (t i) o))
line_step g m s d (Decide x half) f t h b =
    in_mode g (d + 1) _ Going (decide_step g d x half s f (decision_parts g m s x half f h) b)
line_step g m s d (Found a) f t h b =
    let p = and_parts (is_going s.mode)
    (are_quiet g.cons (top_boxes s) && (is_settled s && are_fixed g.search (top_boxes s) a)) h in
    rw add-zero (in_mode g d s.levels AtFound (going_open g d s.levels s.mode p.0 b))
line_step g m s d (Bound values) f t h b =
    let mode = mode_by_bounds (top_boxes s) (length m.clauses) (bounds g m.found) in
    rw add-zero (in_mode g d s.levels mode (found_open g d s.levels s.mode h b))
line_step g m s d (Chain chain c) f t h b =
    rw add-zero (explain_step g m d (length m.clauses) chain.first s chain.steps c s.mode f h b)
line_step g m s d (Empty x) f t h b = rw add-zero (closed g d s.levels s.mode b)
