use Rattle.std.proofs.Common.{Option, Some, IfSome, [], get_or, subst}
use Rattle.std.proofs.lemmas.List.{get_or_default}
use Rattle.form_build.proofs.Growth.{adds_nothing, defines_more}
use Rattle.packed_rows.specs.declared.row.Row.{Row}
use Rattle.ground_expr.specs.Asked.{holds_for}
use Rattle.ground_model.specs.RowsAsked.{IsRowWhere}
use Rattle.ground_model.proofs.KnownCells.{known_still}
use Rattle.ground_model.proofs.RowSteps.{rows_none, rows_next, rows_all}
use Rattle.ground_model.proofs.rows.rows_for.Goals as goal

pub loop-n-init : goal.loop-n-init
loop-n-init c = record {
  rows = rows_none c.args.known.now c.args.maker.now (λ values n. holds_for c.args.objects.now values c.args.constraint.now (Some n)) c.args.members.now c.new-rows.result.items c.new-rows.ensures.items;
  adds = adds_nothing [] c.args.maker.now;
}

pub row_for-requires-clause-known : goal.row_for-requires-clause-known
row_for-requires-clause-known c = known_still c.args.objects.now c.args.known.now c.args.maker.now c.loop-n.maker c.loop-n.invariant.adds.grows c.requires.known

pub returns-in_default-clause-adds : goal.returns-in_default-clause-adds
returns-in_default-clause-adds c = defines_more c.args.maker.now c.loop-n.maker c.row_for.new.maker c.loop-n.invariant.adds c.in_ok-found.ensures.adds

pub loop-n-preserved : goal.loop-n-preserved
loop-n-preserved c =
    let x = get_or c.args.members.now c.loop-n.n-index 0 in
    record {
      rows =
          rows_next c.args.known.now c.loop-n.maker c.row_for.new.maker (λ values n. holds_for c.args.objects.now values c.args.constraint.now (Some n)) c.args.members.now c.loop-n.n-index x c.loop-n.rows.items _ c.in-Some.row
          c.loop-n-test.true (get_or_default c.args.members.now c.loop-n.n-index 0 x c.loop-n-test.true) c.in_ok-push.ensures.items c.in_ok-found.ensures.adds.grows c.loop-n.invariant.rows
          (subst (λ (o : Option Row). IfSome o (λ r. IsRowWhere c.args.known.now c.row_for.new.maker (λ values. holds_for c.args.objects.now values c.args.constraint.now (Some x)) r)) c.in-Some.is c.in_ok-found.ensures.row);
      adds = defines_more c.args.maker.now c.loop-n.maker c.row_for.new.maker c.loop-n.invariant.adds c.in_ok-found.ensures.adds;
    }

pub returns-clause-rows : goal.returns-clause-rows
returns-clause-rows c =
    rows_all c.args.known.now c.loop-n.maker (λ values n. holds_for c.args.objects.now values c.args.constraint.now (Some n)) c.args.members.now c.loop-n.n-index c.loop-n.rows.items c.loop-n-test.false c.loop-n.invariant.rows
