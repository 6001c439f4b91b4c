-- Values of variables. What a reader believes after this file: in which set a variable's value lies
-- wherever all constraints hold, or where besides another variable's value is in a set.
use Rattle.std.specs.Prelude.{◌≡◌, ℕ, true, List, ℤ}
use Rattle.signed_clause.specs.Ranges.{Ranges, has}
use Rattle.ground_form.specs.declared.ground.Ground.{Ground}
use Rattle.ground_form.specs.Meaning.{value_of}
use Rattle.form_build.specs.Worlds.{IsWorld, AllHold}

-- where all constraints hold the variable has one of the values
abbrev pub AreValues : Ground → ℕ → Ranges → Type 0
AreValues g y s =
    (a : List ℤ) → IsWorld g a → AllHold g a → has s (value_of a y) ≡ true

-- where all constraints hold, and x has a value of the first set, y has one of the second
abbrev pub AreValuesWhere : Ground → ℕ → Ranges → ℕ → Ranges → Type 0
AreValuesWhere g x at y s =
    (a : List ℤ) → IsWorld g a → AllHold g a → has at (value_of a x) ≡ true →
    has s (value_of a y) ≡ true
