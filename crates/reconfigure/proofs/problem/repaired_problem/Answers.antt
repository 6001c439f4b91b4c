use Rattle.std.proofs.Common.{◌∙◌}
use Rattle.form_build.proofs.Growth.{grows_more}
use Rattle.reconfigure.proofs.NamedLaws.{cells_still}
use Rattle.reconfigure.proofs.Repaired.{first_cells, goals_still, whole_extends, whole_stands}
use Rattle.reconfigure.proofs.problem.repaired_problem.Goals as goal

pub require_allowed-requires-clause-cells : goal.require_allowed-requires-clause-cells
require_allowed-requires-clause-cells c =
    first_cells c.args.objects.now c.args.g c.over-maker.result c.requires.searched c.requires.cells (c.over-maker.ensures ∙ c.over_owned.ensures)

pub count_changes-requires-clause-cells : goal.count_changes-requires-clause-cells
count_changes-requires-clause-cells c =
    cells_still c.args.objects.now c.over-maker.result c.require_allowed.new.maker c.in_ok-require_allowed.ensures.says.grows
    (first_cells c.args.objects.now c.args.g c.over-maker.result c.requires.searched c.requires.cells (c.over-maker.ensures ∙ c.over_owned.ensures))

pub counted_problem-requires-clause-goals : goal.counted_problem-requires-clause-goals
counted_problem-requires-clause-goals c =
    goals_still c.args.g c.over-maker.result c.count_changes.new.maker c.in_ok-goals.goals c.requires.well_made (c.over-maker.ensures ∙ c.over_owned.ensures)
    (grows_more c.over-maker.result c.require_allowed.new.maker c.count_changes.new.maker c.in_ok-require_allowed.ensures.says.grows c.in_ok-count.ensures.adds.grows)
    c.in_ok-goals.ensures

pub returns-clause-stands : goal.returns-clause-stands
returns-clause-stands c test functions st =
    whole_stands c.args.objects.now c.args.failed.now.numbers.items c.args.former.now c.args.g c.over-maker.result c.require_allowed.new.maker c.count_changes.new.maker c.in_ok-new.new c.in_ok-goals.goals c.in_ok-count.count
    (c.over-maker.ensures ∙ c.over_owned.ensures) c.in_ok-require_allowed.ensures.says c.in_ok-count.ensures.adds c.in_ok-count.ensures.value
    c.in_ok-goals.ensures c.in_ok-new.ensures test functions st

pub returns-clause-extends : goal.returns-clause-extends
returns-clause-extends c =
    whole_extends c.args.objects.now c.args.failed.now.numbers.items c.args.former.now c.args.g c.over-maker.result c.require_allowed.new.maker c.count_changes.new.maker c.in_ok-new.new c.in_ok-goals.goals c.in_ok-count.count
    (c.over-maker.ensures ∙ c.over_owned.ensures) c.in_ok-require_allowed.ensures.says c.in_ok-count.ensures.adds
    c.in_ok-goals.ensures c.in_ok-new.ensures
