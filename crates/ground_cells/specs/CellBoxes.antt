-- The cells of a model as boxes. What a reader believes after this file: which set of values the
-- box of a cell is, and what a list of ascending numbers is as ranges.
use Rattle.std.specs.Prelude.{ℕ, suc, ◌≤◌, List, [], ◌∷◌, ℤ, pos, map}
use Rattle.class_table.specs.Outline.{Outline}
use Rattle.object_alloc.specs.declared.object.Cell.{Cell}
use Rattle.object_alloc.specs.declared.object.Domain.{Domain}
use Rattle.object_alloc.specs.declared.object.Domain.TheVariants.{Span, Extent}
use Rattle.object_alloc.specs.Cells.{cells, extent}
use Rattle.signed_clause.specs.Ranges.{Ranges}
use Rattle.signed_clause.specs.SetAlgebra.{piece}
use Rattle.signed_clause.specs.Clauses.{Boxes}
use Rattle.signed_clause.specs.Union.{fused}

-- the range of one number
abbrev pub single : ℕ → ℤ × ℤ
single n = (pos n, pos n)

-- the numbers ascend from n on
abbrev pub AscendFrom : ℕ → List ℕ → Type 0
AscendFrom n [] = Unit {0}
AscendFrom n (x ∷ xs) = (n ≤ x) × AscendFrom (suc x) xs

-- ascending numbers as ranges, neighbours fused
abbrev pub number_ranges : List ℕ → Ranges
number_ranges ns = fused (map single ns)

-- the values of a domain
abbrev pub domain_box : Outline → Domain → Ranges
domain_box o (Span low high) = piece low high []
domain_box o (Extent c) = number_ranges (extent o c)

-- one box for each cell, in order
abbrev pub cell_boxes : Outline → Boxes
cell_boxes o = map (λ (c : Cell). domain_box o c.domain) (cells o)
