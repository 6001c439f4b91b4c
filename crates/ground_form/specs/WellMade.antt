-- When a ground problem is well made. What a reader believes after this file: each variable that
-- isn't searched has exactly one definition, which stands on variables before it; so values of the
-- searched variables leave no choice of the others.
use Rattle.std.specs.Prelude.{◌≡◌, ℕ, ◌<◌, ◌≤◌, ◌^◌, Bool, true, false, ◌&&◌, cond, List, [], ◌∷◌, ℤ, pos, Option, Some, None, length, slice_get}
use Rattle.std.specs.List.{All}
use Rattle.std.specs.Ordering.{int_eq}
use Rattle.signed_clause.specs.Ranges.{IsValid}
use Rattle.signed_clause.specs.Clauses.{Boxes, box_of, IsClause}
use Rattle.ground_form.specs.declared.con.Con.{Con}
use Rattle.ground_form.specs.declared.con.Con.TheVariants.{LinLe, LinDef, ReifLe, AndDef, MemberDef, EqDef, ElementDef, CondDef, ClauseCon, AllDiff, Pack}
use Rattle.ground_form.specs.declared.ground.Ground.{Ground}
use Rattle.ground_form.specs.Meaning.{vars_of, term_vars, part_vars}
use Rattle.ground_form.specs.Bounds.{LiesWithin, IsBounded}

-- the variable that a constraint of a defining kind defines
abbrev pub defined_by : Con → Option ℕ
defined_by (LinDef out terms offset) = Some out
defined_by (ReifLe flag terms bound) = Some flag
defined_by (AndDef flag parts) = Some flag
defined_by (MemberDef flag var set) = Some flag
defined_by (EqDef flag left right) = Some flag
defined_by (ElementDef out index items) = Some out
defined_by (CondDef out flag item) = Some out
defined_by other = None

-- the variables in the other fields of such a constraint
abbrev pub inputs_of : Con → List ℕ
inputs_of (LinDef out terms offset) = term_vars terms
inputs_of (ReifLe flag terms bound) = term_vars terms
inputs_of (AndDef flag parts) = part_vars parts
inputs_of (MemberDef flag var set) = var ∷ []
inputs_of (EqDef flag left right) = left ∷ right ∷ []
inputs_of (ElementDef out index items) = index ∷ term_vars items
inputs_of (CondDef out flag item) = flag ∷ item ∷ []
inputs_of other = []

-- the variables that a constraint takes as flags, parts included
abbrev pub flags_of : Con → List ℕ
flags_of (ReifLe flag terms bound) = flag ∷ []
flags_of (AndDef flag parts) = flag ∷ part_vars parts
flags_of (MemberDef flag var set) = flag ∷ []
flags_of (EqDef flag left right) = flag ∷ []
flags_of (CondDef out flag item) = flag ∷ []
flags_of other = []

-- no item from here on has the value
abbrev pub lacks_value : ℤ → List (ℤ × ℕ) → Bool
lacks_value v [] = true
lacks_value v (t ∷ ts) = cond (int_eq t.0 v) false (lacks_value v ts)

-- the items' values are distinct
abbrev pub distinct_values : List (ℤ × ℕ) → Bool
distinct_values [] = true
distinct_values (t ∷ ts) = lacks_value t.0 ts && distinct_values ts

abbrev pub HasDistinctItems : Con → Type 0
HasDistinctItems (ElementDef out index items) = distinct_values items ≡ true
HasDistinctItems other = Unit {0}

-- the sets within a constraint are sets, which their types keep
abbrev pub HasSets : Con → Type 0
HasSets (MemberDef flag var set) = IsValid set
HasSets (ClauseCon clause) = IsClause clause
HasSets other = Unit {0}

-- what one constraint has to meet over the domains
pub record IsWellMadeCon (domains : Boxes) (con : Con) : Type 0 where
  -- every variable that it names exists
  pub named : All (λ x. x < length domains) (vars_of con)
  -- its flags and parts have domains within 0..1
  pub flags : All (λ x. LiesWithin (pos 0) (pos 1) (box_of domains x)) (flags_of con)
  -- the values of an element's items are distinct
  pub distinct : HasDistinctItems con
  -- its numbers are bounded
  pub bounded : IsBounded con domains
  -- its sets are valid
  pub sets : HasSets con

-- constraint k defines variable x, no other does, and what stands in its other fields has smaller
-- numbers
pub record IsDefinedAt (cons : List Con) (x k : ℕ) : Type 0 where
  pub there : (con : Con) × (slice_get cons k ≡ Some con) × (defined_by con ≡ Some x)
      × All (λ y. y < x) (inputs_of con)
  pub alone : (j : ℕ) → (con : Con) → slice_get cons j ≡ Some con → defined_by con ≡ Some x → j ≡ k

pub record IsWellMade (g : Ground) : Type 0 where
  -- there are fewer than 2^32 variables, and fewer than 2^32 constraints
  pub few_variables : length g.domains < 2 ^ 32
  pub few_constraints : length g.cons < 2 ^ 32
  -- the searched variables exist
  pub search : g.search ≤ length g.domains
  -- each variable from `search` on is defined by exactly one constraint, over variables before it
  pub defined : (x : ℕ) → g.search ≤ x → x < length g.domains → (k : ℕ) × IsDefinedAt g.cons x k
  -- each constraint meets what is asked of its kind
  pub constraints : All (λ con. IsWellMadeCon g.domains con) g.cons
  -- the goals' variables exist
  pub goals : All (λ goal. goal.var < length g.domains) g.goals
  -- the domains are sets, which their type keeps
  pub domains : All (λ d. IsValid d) g.domains
