-- Configurations: one value for each cell, each in the cell's domain.
use Rattle.std.specs.Prelude.{◌≡◌, ℕ, List, [], ◌∷◌, ℤ, pos, ◌≤ℤ◌, Contains}
use Rattle.class_table.specs.Outline.{Outline}
use Rattle.object_alloc.specs.declared.object.Cell.{Cell}
use Rattle.object_alloc.specs.declared.object.Domain.{Domain}
use Rattle.object_alloc.specs.declared.object.Domain.TheVariants.{Span, Extent}
use Rattle.object_alloc.specs.Cells.{cells, extent}

-- the value is the number of an object of the extent
pub record IsOfExtent (o : Outline) (c : ℕ) (v : ℤ) : Type 0 where
  pub object : ℕ
  pub has : Contains (extent o c) object
  pub is : v ≡ pos object

abbrev pub IsInDomain : Outline → Domain → ℤ → Type 0
IsInDomain o (Span low high) v = (low ≤ℤ v) × (v ≤ℤ high)
IsInDomain o (Extent c) v = IsOfExtent o c v

-- one value for each of these cells, in order
abbrev pub AreValues : Outline → List Cell → List ℤ → Type 0
AreValues o [] [] = Unit {0}
AreValues o (c ∷ cs) (v ∷ vs) = IsInDomain o c.domain v × AreValues o cs vs
AreValues o cs vs = ⊥

abbrev pub IsConfiguration : Outline → List ℤ → Type 0
IsConfiguration o values = AreValues o (cells o) values
