-- The walk back along the trail from a conflict. What a reader believes after this file: which
-- clause the walk ends with and by which chain, and to which level a clause leads back.
use Rattle.std.specs.Prelude.{ℕ, not, ◌&&◌, cond, List, ◌∷◌, ◌++◌, Option, Some, None, slice_set, []}
use Rattle.std.specs.Option.{option_map}
use Rattle.signed_clause.specs.Clauses.{Boxes, Literals, has_var, false_in, resolvent}
pub use Rattle.numbered_clauses.specs.Numbered.{clause_at}
use Rattle.fd_store.specs.Levels.{Entry, Level, Stack}

-- ---- what the levels have

-- the entries of a last level and of those below it, the newest first
abbrev pub trail_from : Level → List Level → List Entry
trail_from top [] = top.entries
trail_from top (l ∷ ls) = top.entries ++ trail_from l ls

-- all entries, the newest first
abbrev pub trail_of : Stack → List Entry
trail_of s = trail_from s.top s.below

-- ---- the walk

-- what a walk gives: the steps of a chain, each a variable and the number of a clause, and the
-- clause that they make
pub record Walk : Type 0 where
  pub steps : List (ℕ × ℕ)
  pub clause : Literals

-- with one step before the others
abbrev pub with_step : ℕ × ℕ → Option Walk → Option Walk
with_step s walked = option_map (λ (w : Walk). record w { steps = s ∷ w.steps }) walked

-- the walk from an entry of x before which c isn't false, where `rest` walks on from there: it ends
-- at a decision, and at a pruning by clause j it goes on with the resolvent on x of c and clause j,
-- where both have x
abbrev pub walk_at : Option ℕ → List Literals → ℕ → Literals → (Literals → Option Walk) →
    Option Walk
walk_at None clauses x c rest = Some (record { steps = []; clause = c })
walk_at (Some j) clauses x c rest =
    cond (has_var c x && has_var (clause_at clauses j) x)
    (with_step (x, j) (rest (resolvent x c (clause_at clauses j)))) None

-- the walk from c over the entries, the newest first, where the boxes are those behind the first of
-- them: an entry before which c is false is passed over; none where a resolvent isn't defined
abbrev pub walk : Boxes → List Entry → List Literals → Literals → Option Walk
walk boxes [] clauses c = Some (record { steps = []; clause = c })
walk boxes (e ∷ es) clauses c =
    let before = slice_set boxes e.var e.before in
    cond (false_in before c) (walk before es clauses c)
    (walk_at e.from clauses e.var c (walk before es clauses))

-- the walk from clause n over all entries
abbrev pub walk_from : Stack → List Literals → ℕ → Option Walk
walk_from s clauses n = walk s.top.now (trail_of s) clauses (clause_at clauses n)

-- ---- the level to go back to

-- the levels below the highest one whose first boxes make the clause false, while the present boxes
-- of the level below it don't
abbrev pub back_from : Literals → Level → List Level → Option Stack
back_from c top [] = None
back_from c top (l ∷ ls) =
    cond (false_in top.first c && not (false_in l.now c)) (Some (record { top = l; below = ls }))
    (back_from c l ls)

abbrev pub back_to : Literals → Stack → Option Stack
back_to c s = back_from c s.top s.below
