-- How many configurations a model has: the product of how many values its cells may have.
use Rattle.std.specs.Prelude.{ℕ, ◌+◌, ◌*◌, cond, List, [], ◌∷◌, ℤ, ◌-ℤ◌, int_le, unsigned_abs, length}
use Rattle.class_table.specs.Outline.{Outline}
use Rattle.object_alloc.specs.declared.object.Cell.{Cell}
use Rattle.object_alloc.specs.declared.object.Domain.{Domain}
use Rattle.object_alloc.specs.declared.object.Domain.TheVariants.{Span, Extent}
use Rattle.object_alloc.specs.Cells.{cells, extent}

-- how many numbers there are from the least to the greatest
abbrev pub span_size : ℤ → ℤ → ℕ
span_size low high = cond (int_le low high) (unsigned_abs (high -ℤ low) + 1) 0

-- how many values a domain has
abbrev pub domain_size : Outline → Domain → ℕ
domain_size o (Span low high) = span_size low high
domain_size o (Extent c) = length (extent o c)

-- in how many ways each of these cells is given a value
abbrev pub cell_ways : Outline → List Cell → ℕ
cell_ways o [] = 1
cell_ways o (c ∷ cs) = domain_size o c.domain * cell_ways o cs

abbrev pub configuration_count : Outline → ℕ
configuration_count o = cell_ways o (cells o)
