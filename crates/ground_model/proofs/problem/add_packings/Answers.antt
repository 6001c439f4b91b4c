use Rattle.std.proofs.Common.{[]}
use Rattle.form_build.proofs.Growth.{adds_nothing, defines_more}
use Rattle.ground_model.proofs.problem.add_packings.Goals as goal

pub returns-in_ok-join_stated : goal.returns-in_ok-join_stated
returns-in_ok-join_stated c =
    defines_more c.args.maker.now c.add_totals.new.maker c.join_stated.new.maker
    (defines_more c.args.maker.now c.differ_stated.new.maker c.add_totals.new.maker
    (defines_more c.args.maker.now c.tabulate_stated.new.maker c.differ_stated.new.maker
    (defines_more c.args.maker.now c.pack_stated.new.maker c.tabulate_stated.new.maker c.in_ok-pack_stated.ensures c.in_ok-tabulate_stated.ensures)
    c.in_ok-differ_stated.ensures)
    c.in_ok-add_totals.ensures)
    c.in_ok-join_stated.ensures

pub returns-else-wanted : goal.returns-else-wanted
returns-else-wanted c = adds_nothing [] c.args.maker.now
