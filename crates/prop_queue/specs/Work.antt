-- What contracts see of a queue. What a reader believes after this file: which constraints are
-- listed, and which each variable has; that clauses are watched and never listed; and that a queue
-- fits boxes in which every other constraint that isn't listed is quiet, and what the watches know
-- of the clauses is true.
use Rattle.std.specs.Prelude.{◌≡◌, ℕ, suc, Bool, true, false, cond, List, [], ◌∷◌, ◌++◌, length, slice_index_or, slice_get, Some}
use Rattle.signed_clause.specs.Clauses.{Boxes, Literals, box_of}
use Rattle.ground_form.specs.declared.con.Con.{Con}
use Rattle.ground_form.specs.declared.con.Con.TheVariants.{LinLe, LinDef, ReifLe, AndDef, MemberDef, EqDef, ElementDef, CondDef, ClauseCon, AllDiff, Pack}
use Rattle.ground_form.specs.declared.ground.Ground.{Ground}
use Rattle.ground_form.specs.Meaning.{vars_of}
use Rattle.box_rules.specs.Quiet.{quiet}
use Rattle.rule_law.specs.Reasons.{has_number}
use Rattle.clause_watches.specs.Watching as watches
use Rattle.clause_watches.specs.Watching.{Watching}

-- ---- clauses and others

abbrev pub is_clause : Con → Bool
is_clause (LinLe terms bound) = false
is_clause (LinDef out terms offset) = false
is_clause (ReifLe flag terms bound) = false
is_clause (AndDef flag parts) = false
is_clause (MemberDef flag var set) = false
is_clause (EqDef flag left right) = false
is_clause (ElementDef out index items) = false
is_clause (CondDef out flag item) = false
is_clause (ClauseCon clause) = true
is_clause (AllDiff vars) = false
is_clause (Pack items) = false

-- the literals of a clause
abbrev pub literals_of : Con → Literals
literals_of (LinLe terms bound) = []
literals_of (LinDef out terms offset) = []
literals_of (ReifLe flag terms bound) = []
literals_of (AndDef flag parts) = []
literals_of (MemberDef flag var set) = []
literals_of (EqDef flag left right) = []
literals_of (ElementDef out index items) = []
literals_of (CondDef out flag item) = []
literals_of (ClauseCon clause) = clause
literals_of (AllDiff vars) = []
literals_of (Pack items) = []

-- the variables by which a constraint is listed: none of a clause
abbrev pub listed_vars : Con → List ℕ
listed_vars con = cond (is_clause con) [] (vars_of con)

-- the clauses among constraints that are numbered from k on, each with its number
abbrev pub own_clause : ℕ → Con → List (ℕ × Literals)
own_clause k con = cond (is_clause con) ((k, literals_of con) ∷ []) []

abbrev pub clauses_from : ℕ → List Con → List (ℕ × Literals)
clauses_from k [] = []
clauses_from k (con ∷ cons) = own_clause k con ++ clauses_from (suc k) cons

-- and the numbers of the others
abbrev pub own_number : ℕ → Con → List ℕ
own_number k con = cond (is_clause con) [] (k ∷ [])

abbrev pub others_from : ℕ → List Con → List ℕ
others_from k [] = []
others_from k (con ∷ cons) = own_number k con ++ others_from (suc k) cons

-- ---- what is kept

-- for each constraint whether it is listed, for each variable the constraints that name it, the
-- constraints that aren't clauses, and the clauses that are watched
pub record Work : Type 0 where
  pub marks : List Bool
  pub rows : List (List ℕ)
  pub others : List ℕ
  pub clauses : Watching

abbrev pub work : List Bool → List (List ℕ) → List ℕ → Watching → Work
work marks rows others clauses =
    record { marks = marks; rows = rows; others = others; clauses = clauses }

-- the mark of k; numbers past the end have none
abbrev pub is_marked : List Bool → ℕ → Bool
is_marked marks k = slice_index_or marks k false

-- the constraints of x
abbrev pub row_of : List (List ℕ) → ℕ → List ℕ
row_of rows x = slice_index_or rows x []

-- the work is that of this problem: a mark for each constraint, each variable has exactly the
-- constraints that name it and aren't clauses, and all clauses are watched
pub record IsOver (g : Ground) (w : Work) : Type 0 where
  pub marks : length w.marks ≡ length g.cons
  pub rows : length w.rows ≡ length g.domains
  pub named : (x k : ℕ) (con : Con) → slice_get g.cons k ≡ Some con
      → has_number k (row_of w.rows x) ≡ has_number x (listed_vars con)
  pub others : w.others ≡ others_from 0 g.cons
  pub watched : w.clauses.added ≡ clauses_from 0 g.cons
  pub variables : w.clauses.variables ≡ length g.domains

-- ---- what is still to be looked at

-- every constraint without a mark is quiet, clauses aside
abbrev pub FitsMarks : Ground → List Bool → Boxes → Type 0
FitsMarks g marks boxes = (k : ℕ) (con : Con) → slice_get g.cons k ≡ Some con
    → is_clause con ≡ false → is_marked marks k ≡ false → quiet con boxes ≡ true

-- what the watches know of the clauses is true
abbrev pub AreKnown : Boxes → Watching → Type 0
AreKnown boxes clauses = watches.Fits boxes clauses

-- both
pub record Fits (g : Ground) (w : Work) (boxes : Boxes) : Type 0 where
  pub others : FitsMarks g w.marks boxes
  pub clauses : AreKnown boxes w.clauses

-- every constraint is quiet
abbrev pub AreAllQuiet : Ground → Boxes → Type 0
AreAllQuiet g boxes = (k : ℕ) (con : Con) → slice_get g.cons k ≡ Some con → quiet con boxes ≡ true

-- constraint n is a clause that is false in the boxes or unit
pub record IsActingAt (cons : List Con) (boxes : Boxes) (n : ℕ) : Type 0 where
  pub clause : Literals
  pub at : slice_get cons n ≡ Some (ClauseCon clause)
  pub acting : watches.acts boxes clause ≡ true
