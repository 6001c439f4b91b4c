use Rattle.std.proofs.Common.{◌∙◌, subst}
use Rattle.signed_clause.specs.Clauses.{Boxes}
use Rattle.ground_form.specs.StandsFor.{StandsFor}
use Rattle.ground_cells.specs.CellBoxes.{cell_boxes}
use Rattle.ground_expr.specs.Asked.{satisfied_by}
use Rattle.ground_expr.specs.Objectives.{functions}
use Rattle.ground_model.proofs.Endings.{cells_are, function_count}
use Rattle.ground_model.proofs.problem.problem.Goals as goal

pub returns-then-has_empty : goal.returns-then-has_empty
returns-then-has_empty c =
    let o = c.args.objects.now in
    let gs = c.args.model.now.goals in
    let boxes = cells_are c.in_ok-builder.builder c.deref.result.now (cell_boxes o) c.in_ok-builder.ensures (c.deref.ensures.value ∙ c.in_ok-cells.ensures.boxes) in
    record {
      stands = subst (λ (z : Boxes). StandsFor c.in_ok-g.g z (satisfied_by o c.args.model.now.constraints) (functions o gs)) boxes
          (c.in_ok-g.ensures.stands (satisfied_by o c.args.model.now.constraints) (functions o gs) (function_count o gs));
      whole = c.in_ok-g.ensures.whole o;
    }
