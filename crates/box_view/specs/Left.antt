-- What is left of a domain.
use Rattle.signed_clause.specs.Ranges.{Ranges}
use Rattle.signed_clause.specs.SetAlgebra.{less}
use Rattle.box_view.specs.declared.cut.Left.{Left}
use Rattle.box_view.specs.declared.cut.Left.TheVariants.{Whole, Rest}

-- the values that are left
abbrev pub left_of : Left → Ranges
left_of (Whole domain) = domain.now
left_of (Rest domain out) = less domain.now out.now
