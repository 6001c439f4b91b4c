-- Which clauses a constraint justifies. What a reader believes after this file: such a clause says
-- no more than the constraint, since where none of its literals is true the constraint is refuted.
use Rattle.std.specs.Prelude.{Bool}
use Rattle.signed_clause.specs.Clauses.{Boxes, Literals}
use Rattle.ground_form.specs.declared.con.Con.{Con}
use Rattle.box_view.specs.Views.{cut}
use Rattle.box_rules.specs.Refuted.{refuted}

-- the constraint is refuted there
abbrev pub justified : Con → Boxes → Literals → Bool
justified con domains c = refuted con (cut domains c)
