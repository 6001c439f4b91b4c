use Rattle.std.proofs.Common.{◌≡◌, ◌++◌, drop, false}
use Rattle.std.specs.List.{flat_map, list_any}
use Rattle.view_plan.specs.Text.{line_text, shows_fraction}
use Rattle.view_plan.specs.Views.{lines_seen}
use Rattle.view_steps.proofs.text.push_lines.Given as goal

-- where none shows a fraction, none that is left does, and what is written and what is left to
-- write are all
abbrev pub invariant-loop-line : goal.invariant-loop-line
invariant-loop-line l =
    list_any shows_fraction (lines_seen l.lines) ≡ false
    → (list_any shows_fraction (lines_seen (drop l.line-index l.lines)) ≡ false)
    × (l.text.items ++ flat_map line_text (lines_seen (drop l.line-index l.lines))
    ≡ l.initial.text.items ++ flat_map line_text (lines_seen l.lines))
