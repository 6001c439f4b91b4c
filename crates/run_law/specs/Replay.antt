-- Which logs are runs of a search. What a reader believes after this file: at every line of a run
-- it is known which boxes the lines so far leave, level by level, and each line is one that a
-- search with learning may write there: a decision stands only where no constraint, no learnt
-- clause and no bound has anything left to say.
use Rattle.std.specs.Prelude.{ℕ, zero, suc, Bool, true, false, not, ◌&&◌, ◌||◌, cond, List, [], ◌∷◌, ℤ, Option, None, is_some, unwrap_or, length, nat_lt, ◌==◌}
use Rattle.std.specs.List.{list_all}
use Rattle.std.specs.Option.{option_map_or}
use Rattle.signed_clause.specs.Ranges.{Ranges, is_nil}
use Rattle.signed_clause.specs.SetAlgebra.{is_within}
use Rattle.signed_clause.specs.Clauses.{Boxes, Literal, Literals, box_of, false_in, unit_of}
use Rattle.ground_form.specs.declared.con.Con.{Con}
use Rattle.ground_form.specs.declared.ground.Ground.{Ground}
use Rattle.box_rules.specs.Quiet.{quiet}
use Rattle.fd_store.specs.Levels.{Stack, bottom, moved, reacted}
use Rattle.learn_clauses.specs.Walk.{Walk, walk_from, back_to}
use Rattle.log_form.specs.declared.line.Line.{Line}
use Rattle.log_form.specs.declared.line.Line.TheVariants.{Axiom, Chain, Bound, Use, Found, Decide, Empty}
use Rattle.log_form.specs.Acceptance.{Made, clause_at, has_empty, same_clause, same_set, all_same, bounds, accepts, after, may_come}
use Rattle.log_form.specs.Acceptance as acceptance

-- what the lines so far ask of the next one
pub data Mode : Type 0 where
  -- to prune, to decide or to tell a solution
  Going : Mode
  -- to explain that the clause of this number is false
  Conflict : ℕ → Mode
  -- to ask for a better solution than the one just told
  AtFound : Mode
  -- nothing: the empty clause was made
  Closed : Mode

-- what the lines so far leave: the levels, the mode, the clauses of chains, the clauses of the last
-- Bound line, and whether no line stands before the next one
pub record State : Type 0 where
  pub levels : Stack
  pub mode : Mode
  pub learnt : List Literals
  pub bounds : List Literals
  pub fresh : Bool

-- level 0 with the domains
abbrev pub start : Ground → State
start g =
    record { levels = bottom g.domains; mode = Going; learnt = []; bounds = []; fresh = true }

-- the present boxes
abbrev pub top_boxes : State → Boxes
top_boxes s = s.levels.top.now

abbrev pub is_going : Mode → Bool
is_going Going = true
is_going other = false

abbrev pub is_found : Mode → Bool
is_found AtFound = true
is_found other = false

-- ---- what is asked of boxes

-- the clause is false or unit
abbrev pub acts : Boxes → Literals → Bool
acts boxes c = false_in boxes c || is_some (unit_of boxes c)

-- no clause of the list is
abbrev pub none_acts : Boxes → List Literals → Bool
none_acts boxes cs = list_all (λ c. not (acts boxes c)) cs

-- no learnt clause and no bound has anything to say
abbrev pub is_settled : State → Bool
is_settled s = none_acts (top_boxes s) s.learnt && none_acts (top_boxes s) s.bounds

-- no constraint has
abbrev pub are_quiet : List Con → Boxes → Bool
are_quiet cons boxes = list_all (λ con. quiet con boxes) cons

abbrev pub none_empty : Boxes → Bool
none_empty boxes = list_all (λ (b : Ranges). not (is_nil b)) boxes

-- the first n boxes are these values alone
abbrev pub are_fixed : ℕ → Boxes → List ℤ → Bool
are_fixed zero boxes a = true
are_fixed (suc n) (b ∷ bs) (v ∷ vs) = same_set b ((v, v) ∷ []) && are_fixed n bs vs
are_fixed (suc n) boxes a = false

-- each set of the clause lies within its variable's domain
abbrev pub are_sets_within : Boxes → Literals → Bool
are_sets_within domains ls = list_all (λ (l : Literal). is_within l.1 (box_of domains l.0)) ls

-- ---- chains

-- the walk back has these steps and ends with this clause
abbrev pub is_walk : Option Walk → List (ℕ × ℕ) → Literals → Bool
is_walk walk steps c = option_map_or
    (λ (w : Walk). all_same (λ s t. s.0 == t.0 && s.1 == t.1) w.steps steps
    && same_clause w.clause c) walk false

-- the clause that explains a conflict is empty, or there is a level in whose first boxes it is
-- false and below which it isn't
abbrev pub leads_back : Stack → Literals → Bool
leads_back levels c = is_nil c || is_some (back_to c levels)

-- the chain is the walk back from the clause that is false, and its clause leads back
abbrev pub may_explain : Made → State → ℕ → List (ℕ × ℕ) → Literals → Mode → Bool
may_explain m s first steps c (Conflict n) =
    (first == n) && (is_walk (walk_from s.levels m.clauses n) steps c && leads_back s.levels c)
may_explain m s first steps c other = false

-- ---- what a clause does

-- the empty clause closes, a false one is a conflict, a unit one prunes
abbrev pub mode_by : Boxes → ℕ → Literals → Mode
mode_by boxes n c = cond (is_nil c) Closed (cond (false_in boxes c) (Conflict n) Going)

abbrev pub react : ℕ → Literals → State → State
react n c s = record s { levels = reacted n c s.levels; mode = mode_by (top_boxes s) n c }

-- the clauses of a Bound line, the first of which has the number n, prune nothing: an empty one
-- closes, else the first that is false is the conflict
abbrev pub first_false : Boxes → ℕ → List Literals → Mode
first_false boxes n [] = Going
first_false boxes n (c ∷ cs) = cond (false_in boxes c) (Conflict n) (first_false boxes (suc n) cs)

abbrev pub mode_by_bounds : Boxes → ℕ → List Literals → Mode
mode_by_bounds boxes n cs = cond (has_empty cs) Closed (first_false boxes n cs)

-- the levels that a learnt clause leads back to
abbrev pub led_back : Literals → State → State
led_back c s = record s { levels = unwrap_or (back_to c s.levels) s.levels; learnt = c ∷ s.learnt }

-- a learnt clause drops levels and prunes; the empty one closes
abbrev pub learned : ℕ → Literals → State → State
learned n c s =
    cond (is_nil c) (record s { mode = Closed; learnt = c ∷ s.learnt }) (react n c (led_back c s))

-- the clauses of a Bound line take the place of those of the last one
abbrev pub asked : ℕ → List Literals → State → State
asked n cs s = record s { mode = mode_by_bounds (top_boxes s) n cs; bounds = cs }

-- ---- lines

-- the part takes something away from the box, and leaves something
abbrev pub is_split : Ranges → Ranges → Bool
is_split half box = not (is_nil half) && (is_within half box && not (is_within box half))

-- the line may stand
unfoldable pub may_stand : Ground → Made → State → Line → Bool
may_stand g m s (Axiom k c) =
    is_going s.mode && (are_sets_within g.domains c && acts (top_boxes s) c)
may_stand g m s (Use i) = is_going s.mode && acts (top_boxes s) (clause_at m.clauses i)
may_stand g m s (Decide x half) =
    is_going s.mode && (none_empty (top_boxes s) && (are_quiet g.cons (top_boxes s) && (is_settled s
    && (nat_lt x g.search && is_split half (box_of (top_boxes s) x)))))
may_stand g m s (Found a) =
    is_going s.mode && (are_quiet g.cons (top_boxes s) && (is_settled s
    && are_fixed g.search (top_boxes s) a))
may_stand g m s (Bound values) = is_found s.mode
may_stand g m s (Chain chain c) = may_explain m s chain.first chain.steps c s.mode
-- it is the first line
may_stand g m s (Empty x) = s.fresh

-- what the line does to what the lines before it left
unfoldable pub changed : Ground → Made → State → Line → State
changed g m s (Axiom k c) = react (length m.clauses) c s
changed g m s (Use i) = react i (clause_at m.clauses i) s
changed g m s (Decide x half) = record s { levels = moved None x half s.levels; mode = Going }
changed g m s (Found a) = record s { mode = AtFound }
changed g m s (Bound values) = asked (length m.clauses) (bounds g m.found) s
changed g m s (Chain chain c) = learned (length m.clauses) c s
changed g m s (Empty x) = record s { mode = Closed }

-- what stands behind the line
abbrev pub next : Ground → Made → State → Line → State
next g m s l = record (changed g m s l) { fresh = false }

-- the lines are accepted, and each may stand when its turn comes
abbrev pub run_from : Ground → Made → State → List Line → Bool
run_from g m s [] = true
run_from g m s (l ∷ ls) =
    may_come g m l && (may_stand g m s l && run_from g (after g m l) (next g m s l) ls)

abbrev pub is_run : Ground → List Line → Bool
is_run g ls = run_from g acceptance.start (start g) ls

-- what the lines leave
abbrev pub state_from : Ground → Made → State → List Line → State
state_from g m s [] = s
state_from g m s (l ∷ ls) = state_from g (after g m l) (next g m s l) ls

abbrev pub state_of : Ground → List Line → State
state_of g ls = state_from g acceptance.start (start g) ls
