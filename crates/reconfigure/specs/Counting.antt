-- The number of changes as a sum of flags. What a reader believes after this file: what the sum is
-- at values of the variables, and that its numbers are small.
use Rattle.std.specs.Prelude.{ℕ, ◌+◌, ◌<◌, ◌≤◌, List, ℤ, ◌+ℤ◌, length, unsigned_abs}
use Rattle.std.specs.List.{All}
use Rattle.signed_clause.specs.Clauses.{Boxes}
use Rattle.ground_form.specs.Meaning.{sum_at}
use Rattle.ground_form.specs.Bounds.{weight_of}
use Rattle.reconfigure.specs.declared.count.Count.{Count}

abbrev pub count_at : Count → List ℤ → ℤ
count_at c a = sum_at c.terms.items a +ℤ c.offset

-- the terms' variables exist, they are at most n, and the numbers add up to at most n
pub record IsCount (boxes : Boxes) (n : ℕ) (c : Count) : Type 0 where
  pub exist : All (λ t. t.1 < length boxes) c.terms.items
  pub short : length c.terms.items ≤ n
  pub few : weight_of c.terms.items boxes + unsigned_abs c.offset ≤ n
