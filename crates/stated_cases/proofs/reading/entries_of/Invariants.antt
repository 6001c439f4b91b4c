use Rattle.std.proofs.Common.{All}
use Rattle.stated_cases.specs.Tables.{IsEntry}
use Rattle.stated_cases.proofs.reading.entries_of.Given as goal

abbrev pub invariant-loop-place : goal.invariant-loop-place
invariant-loop-place l = All (IsEntry l.maker) l.out.items
