-- When a constraint may be added. What a reader believes after this file: a definition is well made
-- over what stands, and at each point it leaves its variable exactly one value, which the
-- variable's domain has.
use Rattle.std.specs.Prelude.{◌≡◌, ◌<◌, true, List, [], ◌∷◌, ◌++◌, ℤ, Some, None, length}
use Rattle.std.specs.List.{All}
use Rattle.signed_clause.specs.Ranges.{Ranges, has, IsValid}
use Rattle.signed_clause.specs.Clauses.{Boxes}
use Rattle.ground_form.specs.declared.con.Con.{Con}
use Rattle.ground_form.specs.declared.ground.Ground.{Ground}
use Rattle.ground_form.specs.Meaning.{con_true}
use Rattle.ground_form.specs.WellMade.{defined_by, inputs_of, IsWellMadeCon}
use Rattle.ground_form.specs.Solutions.{IsPoint}

-- con may define the next variable over this domain
pub record IsNewDefinition (g : Ground) (domain : Ranges) (con : Con) : Type 0 where
  pub defines : defined_by con ≡ Some (length g.domains)
  pub inputs : All (λ y. y < length g.domains) (inputs_of con)
  pub well_made : IsWellMadeCon (g.domains ++ domain ∷ []) con
  pub valid : IsValid domain

-- con may be stated of what stands
pub record IsNewStatement (g : Ground) (con : Con) : Type 0 where
  pub no_definition : defined_by con ≡ None
  pub well_made : IsWellMadeCon g.domains con

-- v is the one value of the new variable that the constraint leaves behind the values a, and the
-- domain has it
pub record IsOnlyValue (domain : Ranges) (con : Con) (a : List ℤ) (v : ℤ) : Type 0 where
  pub member : has domain v ≡ true
  pub holds : con_true con (a ++ v ∷ []) ≡ true
  pub alone : (w : ℤ) → con_true con (a ++ w ∷ []) ≡ true → w ≡ v

-- at each point of the boxes the constraint leaves one value
abbrev pub Determines : Boxes → Ranges → Con → Type 0
Determines boxes domain con = (a : List ℤ) → IsPoint boxes a → (v : ℤ) × IsOnlyValue domain con a v
