use Rattle.std.proofs.Common.{◌≡◌, ◌++◌, drop}
use Rattle.std.specs.List.{flat_map}
use Rattle.view_breaks.specs.Lines.{line_number}
use Rattle.view_breaks.specs.Text.{break_line}
use Rattle.view_breaks.proofs.text.breaks_text.Given as goal

-- what is written and what is left to write are all
abbrev pub invariant-loop-broken : goal.invariant-loop-broken
invariant-loop-broken l = record {
  line : l.spot.line ≡ line_number l.text l.spot.at;
  written : l.out.items ++ flat_map (break_line l.text l.objects) (drop l.broken-index l.found) ≡ flat_map (break_line l.text l.objects) l.found;
}
