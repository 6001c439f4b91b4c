-- Parts of conjunctions. What a reader believes after this file: when a flag has a value exactly
-- where something holds.
use Rattle.std.specs.Prelude.{◌≡◌, ℕ, ◌<◌, Bool, true, not, List, ℤ, pos, length}
use Rattle.std.specs.List.{All}
use Rattle.std.specs.Ordering.{int_eq}
use Rattle.signed_clause.specs.Ranges.{Ranges, has}
use Rattle.signed_clause.specs.Clauses.{Literals, clause_true}
use Rattle.ground_form.specs.declared.ground.Ground.{Ground}
use Rattle.ground_form.specs.Meaning.{value_of, bit, parts_true}
use Rattle.ground_form.specs.Bounds.{LiesWithin}
use Rattle.ground_build.specs.Growing.{IsFlag}
use Rattle.form_build.specs.Worlds.{IsWorld}

-- the box is a flag's, and of its values just this one is in the set
pub record IsOwnPart (box set : Ranges) (want : Bool) : Type 0 where
  pub flag : LiesWithin (pos 0) (pos 1) box
  pub value : (v : ℤ) → has box v ≡ true → int_eq v (bit want) ≡ has set v

-- in every world the flag has its value exactly where this holds
pub record IsPartOf (g : Ground) (p : ℕ × Bool) (says : List ℤ → Bool) : Type 0 where
  pub exists : p.0 < length g.domains
  pub flag : IsFlag g p.0
  pub value : (a : List ℤ) → IsWorld g a → int_eq (value_of a p.0) (bit p.1) ≡ says a

-- in every world all flags have their values exactly where no literal holds
pub record ArePartsOf (g : Ground) (parts : List (ℕ × Bool)) (literals : Literals) : Type 0 where
  pub exist : All (λ p. p.0 < length g.domains) parts
  pub flags : All (λ p. IsFlag g p.0) parts
  pub value : (a : List ℤ) → IsWorld g a → parts_true parts a ≡ not (clause_true literals a)
