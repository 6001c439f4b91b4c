-- Clauses that are kept from round to round. What a reader believes after this file: each is stated
-- once, behind what stood, and there are at most so many.
use Rattle.std.specs.Prelude.{ℕ, zero, suc, Bool, false, cond, List, [], ◌∷◌, ◌++◌}
use Rattle.std.specs.List.{list_any}
use Rattle.ground_form.specs.declared.con.Con.{Con}
use Rattle.ground_form.specs.declared.con.Con.TheVariants.{LinLe, LinDef, ReifLe, AndDef, MemberDef, EqDef, ElementDef, CondDef, ClauseCon, AllDiff, Pack}
use Rattle.ground_form.specs.declared.ground.Ground.{Ground}
use Rattle.log_form.specs.Acceptance.{same_clause}
use Rattle.signed_clause.specs.Clauses.{Literals}

-- the constraint is this clause
abbrev pub is_that_clause : Literals → Con → Bool
is_that_clause c (LinLe terms bound) = false
is_that_clause c (LinDef out terms offset) = false
is_that_clause c (ReifLe flag terms bound) = false
is_that_clause c (AndDef flag parts) = false
is_that_clause c (MemberDef flag var set) = false
is_that_clause c (EqDef flag left right) = false
is_that_clause c (ElementDef out index items) = false
is_that_clause c (CondDef out flag item) = false
is_that_clause c (ClauseCon clause) = same_clause clause c
is_that_clause c (AllDiff vars) = false
is_that_clause c (Pack items) = false

-- the clause stands as a constraint
abbrev pub is_stated : List Con → Literals → Bool
is_stated cons c = list_any (is_that_clause c) cons

-- the constraints with these clauses behind them, in order, each where it doesn't stand yet, and
-- at most so many
abbrev pub with_kept : ℕ → List Con → List Literals → List Con
with_kept room cons [] = cons
with_kept zero cons (c ∷ cs) = cons
with_kept (suc room) cons (c ∷ cs) =
    cond (is_stated cons c) (with_kept (suc room) cons cs)
    (with_kept room (cons ++ ClauseCon c ∷ []) cs)

-- the problem with them; its domains and its goals stay
abbrev pub keeping : ℕ → Ground → List Literals → Ground
keeping room g cs = record g { cons = with_kept room g.cons cs }
