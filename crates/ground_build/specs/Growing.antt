-- How a ground problem grows. What a reader believes after this file: a call of the builder adds
-- one constraint, with or without one variable, and takes no choice away that there was.
use Rattle.std.specs.Prelude.{◌≡◌, ℕ, ◌-◌, ◌^◌, ◌<◌, ◌≤◌, true, false, pos, List, [], ◌∷◌, ◌++◌, ℤ, length}
use Rattle.std.specs.List.{All}
use Rattle.signed_clause.specs.Ranges.{Ranges, has}
use Rattle.signed_clause.specs.Clauses.{Boxes, box_of}
use Rattle.ground_form.specs.declared.con.Con.{Con}
use Rattle.ground_form.specs.declared.ground.Ground.{Ground}
use Rattle.ground_form.specs.declared.ground.GroundGoal.{GroundGoal}
use Rattle.ground_form.specs.Meaning.{value_of, con_true}
use Rattle.ground_form.specs.Bounds.{LiesWithin}
use Rattle.ground_form.specs.WellMade.{lacks_value, IsWellMade}
use Rattle.ground_form.specs.StandsFor.{IsDefinition, IsExtension}

-- a problem without goals
abbrev pub problem : Boxes → ℕ → List Con → Ground
problem domains search cons = record { domains = domains; search = search; cons = cons; goals = [] }

-- the problem of these cells, all of them searched, without constraints
abbrev pub over_cells : Boxes → Ground
over_cells cells = problem cells (length cells) []

-- with one constraint more
abbrev pub with_constraint : Ground → Con → Ground
with_constraint g con = record g { cons = g.cons ++ con ∷ [] }

-- with one variable more, of this domain, and its definition
abbrev pub with_definition : Ground → Ranges → Con → Ground
with_definition g domain con =
    record g { domains = g.domains ++ domain ∷ []; cons = g.cons ++ con ∷ [] }

-- with these goals
abbrev pub with_goals : Ground → List GroundGoal → Ground
with_goals g goals = record g { goals = goals }

-- one more variable, and one more constraint, can be numbered
pub record HasRoom (g : Ground) : Type 0 where
  pub variables : length g.domains < 2 ^ 32 - 1
  pub constraints : length g.cons < 2 ^ 32 - 1

-- all constraints are true at the values
abbrev pub AreTrue : List Con → List ℤ → Type 0
AreTrue cons a = All (λ con. con_true con a ≡ true) cons

-- the definitions of the variables that aren't searched are true at the values
abbrev pub AreDefined : Ground → List ℤ → Type 0
AreDefined g a = All (λ con. IsDefinition g.search con → con_true con a ≡ true) g.cons

-- wherever the definitions are true, x has the value that the expression has
abbrev pub Means : Ground → ℕ → (List ℤ → ℤ) → Type 0
Means g x e = (a : List ℤ) → AreDefined g a → value_of a x ≡ e a

-- wherever the definitions are true, x has the value of the variable of the item whose value the
-- index has
abbrev pub IsPicked : Ground → ℕ → ℕ → List (ℤ × ℕ) → Type 0
IsPicked g x index items =
    (a : List ℤ) → AreDefined g a → All (λ t. value_of a index ≡ t.0 → value_of a x
    ≡ value_of a t.1) items

-- wherever the definitions are true, x has the item's value where the flag is 1, and is 0 where
-- that is 0
abbrev pub IsItemOrNought : Ground → ℕ → ℕ → ℕ → Type 0
IsItemOrNought g x flag item =
    (a : List ℤ) → AreDefined g a →
    (value_of a flag ≡ pos 1 → value_of a x ≡ value_of a item)
    × (value_of a flag ≡ pos 0 → value_of a x ≡ pos 0)

-- the domain of x lies within 0..1
abbrev pub IsFlag : Ground → ℕ → Type 0
IsFlag g x = LiesWithin (pos 0) (pos 1) (box_of g.domains x)

-- each value of the index's domain is that of an item
abbrev pub HoldsDomain : Ground → ℕ → List (ℤ × ℕ) → Type 0
HoldsDomain g index items =
    (v : ℤ) → has (box_of g.domains index) v ≡ true → lacks_value v items ≡ false

-- the variables of place, size and room exist
abbrev pub AreItemVariables : Ground → ℕ × ℕ × ℕ → Type 0
AreItemVariables g i =
    (i.0 < length g.domains) × (i.1 < length g.domains) × (i.2 < length g.domains)

-- a is the one extension of the configuration t
pub record IsOnlyExtension (g : Ground) (t a : List ℤ) : Type 0 where
  pub extension : IsExtension g t a
  pub alone : (b : List ℤ) → IsExtension g t b → b ≡ a

-- each configuration that had one extension has one still: the same, with a value of the new
-- variable
abbrev pub KeepsExtensions : Ground → Ground → Type 0
KeepsExtensions old new =
    (t a : List ℤ) → IsOnlyExtension old t a → (v : ℤ) × IsOnlyExtension new t (a ++ v ∷ [])

-- each configuration that had one extension has the same still
abbrev pub KeepsSameExtensions : Ground → Ground → Type 0
KeepsSameExtensions old new = (t a : List ℤ) → IsOnlyExtension old t a → IsOnlyExtension new t a

-- x is a new variable of this domain, con its definition; the rest stands as it was, and the
-- problem is well made
pub record IsDefined (old new : Ground) (x : ℕ) (domain : Ranges) (con : Con) : Type 0 where
  pub variable : x ≡ length old.domains
  pub later : old.search ≤ x
  pub grown : new ≡ with_definition old domain con
  pub keeps : KeepsExtensions old new
  pub well_made : IsWellMade new

-- con is a new constraint; the rest stands as it was, and the problem is well made
pub record IsRequired (old new : Ground) (con : Con) : Type 0 where
  pub grown : new ≡ with_constraint old con
  pub keeps : KeepsSameExtensions old new
  pub well_made : IsWellMade new
