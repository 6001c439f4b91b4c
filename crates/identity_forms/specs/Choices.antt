-- Choices by their values. What a reader believes after this file: which values of a variable give
-- an object by a map, and what is asked of a choice.
use Rattle.std.specs.Prelude.{◌≡◌, ℕ, Bool, true, false, cond, List, [], ◌∷◌, ℤ, Option, None, Some, nat_eq}
use Rattle.std.specs.declared.vec.Vec.{Vec}
use Rattle.std.specs.Map.{lookup}
use Rattle.signed_clause.specs.Clauses.{Boxes}
use Rattle.expr_forms.specs.declared.form.Choice.{Choice}
use Rattle.expr_forms.specs.declared.form.Choice.TheVariants as choice
use Rattle.expr_forms.specs.FormBounds.{IsChoiceOf}

-- the variable exists, and each of its values gives an object
abbrev pub IsChoice : Boxes → Choice → Type 0
IsChoice boxes c = IsChoiceOf boxes (λ n. Unit {0}) c

-- the choice is made by a map
abbrev pub is_mapped : Choice → Bool
is_mapped (choice.Fixed n) = false
is_mapped (choice.Cell x) = false
is_mapped (choice.Mapped x map) = true

-- the choice is the value of x
abbrev pub IsCell : ℕ → Choice → Type 0
IsCell x (choice.Fixed n) = ⊥
IsCell x (choice.Cell y) = y ≡ x
IsCell x (choice.Mapped y map) = ⊥

-- the values whose objects pass the test, in order
abbrev pub values_where : (ℕ → Bool) → List (ℤ × ℕ) → List ℤ
values_where test [] = []
values_where test (p ∷ ps) = cond (test p.1) (p.0 ∷ values_where test ps) (values_where test ps)

abbrev pub those : {A : Type 0} → Option (Vec ℤ A) → List ℤ
those None = []
those (Some values) = values.items

-- the values that are kept for an object
abbrev pub group : {A : Type 0} → List (ℕ × Vec ℤ A) → ℕ → List ℤ
group es n = those (lookup (nat_eq n) es)

-- where the choice is made by a map, the values of each object are kept
abbrev pub AreGroups : {A : Type 0} → Choice → List (ℕ × Vec ℤ A) → Type 0
AreGroups (choice.Fixed n) es = Unit {0}
AreGroups (choice.Cell x) es = Unit {0}
AreGroups (choice.Mapped x map) es = (n : ℕ) → group es n ≡ values_where (λ m. nat_eq m n) map.items
