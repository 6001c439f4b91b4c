use Rattle.std.proofs.Common.{◌≡◌, drop, nat_eq}
use Rattle.std.specs.List.{list_any}
use Rattle.conf_eval.specs.Listing.{slots, held, members}
use Rattle.conf_eval.proofs.members.has_member.Given as goal

-- none of those before is it
abbrev pub invariant-loop-i : goal.invariant-loop-i
invariant-loop-i l =
    let o = l.scene.objects.now in
    list_any (nat_eq l.object) (held (drop l.i (slots o l.scene.values.now l.list))) ≡ list_any (nat_eq l.object) (members o l.scene.values.now l.list)
