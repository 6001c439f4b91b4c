-- What is stated of many variables that differ. What a reader believes after this file: what is said
-- when a block has been told apart from the variables behind it, and what only follows.
use Rattle.std.specs.Prelude.{◌≡◌, ℕ, Bool, true, ◌&&◌, List, [], ◌∷◌, ℤ}
use Rattle.ground_form.specs.declared.ground.Ground.{Ground}
use Rattle.ground_form.specs.Meaning.{value_of, lacks, all_differ}
use Rattle.form_build.specs.Worlds.{Adds, IsWorld}

-- no variable of the one list has the value of one of the other
abbrev pub apart : List ℕ → List ℕ → List ℤ → Bool
apart [] ys a = true
apart (x ∷ xs) ys a = lacks (value_of a x) ys a && apart xs ys a

-- what was added says at least that the values of the block differ, also from those of these others,
-- and at most that all of them do
pub record KeepsApart (old new : Ground) (block others all : List ℕ) : Type 0 where
  pub says : List ℤ → Bool
  pub adds : Adds [] old new says
  pub least : (a : List ℤ) → says a ≡ true → (all_differ block a && apart block others a) ≡ true
  pub most : (a : List ℤ) → all_differ all a ≡ true → says a ≡ true

-- what was added says nothing that doesn't follow from this
pub record Follows (old new : Ground) (from : List ℤ → Bool) : Type 0 where
  pub says : List ℤ → Bool
  pub adds : Adds [] old new says
  pub most : (a : List ℤ) → IsWorld new a → from a ≡ true → says a ≡ true
