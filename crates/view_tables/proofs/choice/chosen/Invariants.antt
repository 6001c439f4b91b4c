use Rattle.std.proofs.Common.{◌≡◌, ◌++◌, map}
use Rattle.std.specs.Vec.Iter.{into_iter_items}
use Rattle.view_plan.specs.Views.{lines_seen}
use Rattle.view_tables.specs.Chosen.{chosen}
use Rattle.view_tables.proofs.choice.chosen.Given as goal

-- the lines so far and those of what is left are all
abbrev pub invariant-loop-line : goal.invariant-loop-line
invariant-loop-line l =
    lines_seen l.list.items ++ chosen (map (λ w. w.now) l.names) (lines_seen (into_iter_items l.line-iterator))
    ≡ chosen (map (λ w. w.now) l.names) (lines_seen l.fn.lines.items)
