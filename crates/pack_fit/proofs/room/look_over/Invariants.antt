use Rattle.std.proofs.Common.{◌≡◌, ◌≤◌, ◌<ℤ◌, ◌≤ℤ◌, ◌+ℤ◌, ◌-◌, ◌*◌, ℤ, true, pos, length}
use Rattle.pack_fit.specs.Packing.{all_fit, seconds_from}
use Rattle.pack_fit.specs.Survey.{all_gone_on}
use Rattle.pack_fit.proofs.room.look_over.Given as goal

abbrev pub invariant-loop-d : goal.invariant-loop-d
invariant-loop-d l = record {
  fit : (v : ℤ) → l.first.value ≤ℤ v → v <ℤ (l.first.value +ℤ pos l.d) → all_fit v l.items l.items l.boxes ≡ true;
  room : l.sum.value ≤ℤ seconds_from l.d l.first.value l.items l.boxes;
  low : pos 0 ≤ℤ l.sum.value;
  high : l.sum.value ≤ℤ pos (l.d * 9223372036854775807);
  carried : l.carried ≡ all_gone_on (l.first.value +ℤ pos l.d) l.items l.boxes;
  upto : l.d ≤ length l.survey.bins.items;
}

abbrev pub decreases-loop-d : goal.decreases-loop-d
decreases-loop-d l = length l.survey.bins.items - l.d
