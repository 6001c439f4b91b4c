use Rattle.std.proofs.Common.{◌≡◌, take, true}
use Rattle.log_form.specs.Acceptance.{accepted, start, made_from}
use Rattle.log_check.specs.Progress.{made_of, IsRight}
use Rattle.log_check.proofs.lines.check.Given as goal

abbrev pub invariant-loop-k : goal.invariant-loop-k
invariant-loop-k l = record {
  front : accepted l.g (take l.k l.lines) ≡ true;
  made_is : made_from l.g start (take l.k l.lines) ≡ made_of l.progress;
  right : IsRight l.g l.progress;
}
