use Rattle.std.proofs.Common.{◌≡◌, ◌≤◌, ◌+◌, drop, length}
use Rattle.conf_eval.specs.Listing.{slots, held, members}
use Rattle.conf_eval.proofs.broken.member_count.Given as goal

-- with those that are left it is all of them
abbrev pub invariant-loop-i : goal.invariant-loop-i
invariant-loop-i l =
    let o = l.scene.objects.now in
    record {
      few : l.count ≤ l.i;
      count : l.count + length (held (drop l.i (slots o l.scene.values.now l.list))) ≡ length (members o l.scene.values.now l.list);
    }
