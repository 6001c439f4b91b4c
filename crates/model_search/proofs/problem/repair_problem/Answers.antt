use Rattle.std.proofs.Common.{◌≤◌, List, Option, length, sym, subst}
use Rattle.std.specs.Prelude.{ℤ}
use Rattle.object_alloc.specs.Cells.{cells}
use Rattle.reconfigure.proofs.HintCounts.{enough_hints}
use Rattle.model_search.proofs.RepairProblems.{repaired_by}
use Rattle.model_search.proofs.problem.repair_problem.Goals as goal

pub with_changes-requires-clause-hints : goal.with_changes-requires-clause-hints
with_changes-requires-clause-hints c =
    let o = c.args.objects.now in
    subst (λ (hs : List (Option ℤ)). length (cells o) ≤ length hs) (sym c.items.ensures.values) (enough_hints o c.args.repair.now.former c.requires.understood.former)

pub returns-in-Ok-clause-problem : goal.returns-in-Ok-clause-problem
returns-in-Ok-clause-problem c =
    repaired_by c.args.objects.now c.args.model.now.constraints c.args.model.now.goals c.args.repair.now c.args.g c.in-Ok.new c.items.result.now c.deref.result.now c.items.ensures.values c.deref.ensures.value c.requires.problem c.in-Ok.ensures.stands

pub returns-in-Ok-clause-well_made : goal.returns-in-Ok-clause-well_made
returns-in-Ok-clause-well_made c =
    (repaired_by c.args.objects.now c.args.model.now.constraints c.args.model.now.goals c.args.repair.now c.args.g c.in-Ok.new c.items.result.now c.deref.result.now c.items.ensures.values c.deref.ensures.value c.requires.problem c.in-Ok.ensures.stands).stands.well_made
