use Rattle.std.proofs.Common.{List, ℤ, Some, take}
use Rattle.std.specs.List.{list_all}
use Rattle.form_build.specs.Worlds.{Defines}
use Rattle.ground_expr.specs.Asked.{holds_for}
use Rattle.ground_model.specs.RowsAsked.{AreRowsWhere}
use Rattle.ground_model.proofs.rows.rows_for.Given as goal

abbrev pub invariant-loop-n : goal.invariant-loop-n
invariant-loop-n l = record {
  rows : AreRowsWhere l.known l.maker (λ (values : List ℤ). list_all (λ n. holds_for l.objects values l.constraint (Some n)) (take l.n-index l.members)) l.rows.items;
  adds : Defines l.fn.maker l.maker;
}
