use Rattle.std.proofs.Common.{◌≡◌, true, take}
use Rattle.std.specs.List.{list_all}
use Rattle.conf_parse.specs.Runs.{goes_in}
use Rattle.conf_parse.proofs.run.run_length.Given as goal

abbrev pub invariant-loop-length : goal.invariant-loop-length
invariant-loop-length l = list_all (goes_in l.run) (take l.length l.text) ≡ true
