use Rattle.std.proofs.Common.{◌≡◌, drop}
use Rattle.std.specs.List.{list_any}
use Rattle.goal_rows.specs.Rows.{gives_rows}
use Rattle.goal_rows.proofs.adding.has_rows.Given as goal

abbrev pub invariant-loop-con : goal.invariant-loop-con
invariant-loop-con l = list_any gives_rows (drop l.con-index l.con-items) ≡ list_any gives_rows l.maker.cons
