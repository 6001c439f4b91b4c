use Rattle.std.proofs.Common.{Some, IfSome, sym, subst}
use Rattle.conf_types.specs.Resolved.{ResolvedConstraint}
use Rattle.ground_expr.specs.Asked.{holds_for}
use Rattle.ground_model.specs.RowsAsked.{IsRowWhere}
use Rattle.ground_model.specs.Stated.{IsReady}
use Rattle.ground_model.proofs.rows.row_for.Goals as goal

pub row_at-requires-clause-standing : goal.row_at-requires-clause-standing
row_at-requires-clause-standing c = subst (λ (k : ResolvedConstraint). IsReady c.args.objects.now k.tree (Some c.args.this)) (sym c.constraint.view_is) c.requires.ready

pub returns-clause-row : goal.returns-clause-row
returns-clause-row c =
    subst (λ (k : ResolvedConstraint). IfSome c.in_ok-row.row (λ r. IsRowWhere c.args.known.now c.row_at.new.maker (λ values. holds_for c.args.objects.now values k (Some c.args.this)) r)) c.constraint.view_is c.in_ok-row.ensures.row
