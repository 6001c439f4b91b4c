use Rattle.std.proofs.Common.{◌++◌, map, sym, ap, ◌∙◌}
use Rattle.std.specs.Vec.Iter.{into_iter_items}
use Rattle.view_plan.specs.Views.{line_seen, lines_seen}
use Rattle.view_tables.specs.Chosen.{chosen}
use Rattle.view_tables.proofs.LineLaws.{next_line}
use Rattle.view_tables.proofs.choice.chosen.Goals as goal

pub loop-line-preserved : goal.loop-line-preserved
loop-line-preserved c =
    let names = map (λ w. w.now) c.args.names.now in
    let was = lines_seen c.loop-line.list.items in
    next_line names (line_seen c.in-Some.line) (lines_seen (into_iter_items c.next.new.self)) was _ _
    c.in_ok-keep.ensures
    (sym (ap (λ ls. was ++ chosen names (lines_seen ls)) c.in-Some.ensures.steps.0) ∙ c.loop-line.invariant)
