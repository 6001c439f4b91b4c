-- Terms that stand for other terms. What a reader believes after this file: they add up to the same
-- in every world, and their numbers are no greater.
use Rattle.std.specs.Prelude.{◌≡◌, ℕ, ◌<◌, ◌≤◌, List, ℤ, length}
use Rattle.std.specs.List.{All}
use Rattle.ground_form.specs.declared.ground.Ground.{Ground}
use Rattle.ground_form.specs.Meaning.{sum_at}
use Rattle.ground_form.specs.Bounds.{weight_of}
use Rattle.form_build.specs.Worlds.{IsWorld}

-- how many terms a block has
abbrev pub block : ℕ
block = 32

-- the new terms' variables exist, their numbers add up to at most n, and in every world they add up
-- to what the terms do
pub record AreBlocks (g : Ground) (n : ℕ) (terms blocks : List (ℤ × ℕ)) : Type 0 where
  pub exist : All (λ t. t.1 < length g.domains) blocks
  pub bounded : weight_of blocks g.domains ≤ n
  pub value : (a : List ℤ) → IsWorld g a → sum_at blocks a ≡ sum_at terms a
