-- What is required of a configuration. What a reader believes after this file: what was added to a
-- problem asks exactly this of the configuration that a world begins with.
use Rattle.std.specs.Prelude.{ℕ, Bool, List, ℤ, take}
use Rattle.ground_form.specs.declared.ground.Ground.{Ground}
use Rattle.form_build.specs.Worlds.{Adds}

-- where the known variables have their values, what was added asks this test of the configuration
-- that a world begins with, and no more
abbrev pub Requires : List (ℕ × ℤ) → Ground → Ground → (List ℤ → Bool) → Type 0
Requires known old new test = Adds known old new (λ a. test (take old.search a))
