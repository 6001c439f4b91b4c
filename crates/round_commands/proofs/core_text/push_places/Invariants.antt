use Rattle.std.proofs.Common.{◌≡◌, ◌++◌, drop}
use Rattle.std.specs.List.{flat_map}
use Rattle.run_promise.specs.CoreTexts.{blamed_line}
use Rattle.round_commands.proofs.core_text.push_places.Given as goal

abbrev pub invariant-loop-index : goal.invariant-loop-index
invariant-loop-index l =
    l.text.items ++ flat_map (blamed_line l.constraints l.unsure) (drop l.index-index l.keep)
    ≡ l.fn.text.items ++ flat_map (blamed_line l.constraints l.unsure) l.keep
