use Rattle.std.proofs.Common.{◌≡◌, ◌++◌, drop}
use Rattle.conf_eval.specs.Listing.{slots, held, members}
use Rattle.conf_eval.proofs.attributes.collect.Given as goal

-- with what is left it is the whole list
abbrev pub invariant-loop-i : goal.invariant-loop-i
invariant-loop-i l =
    let o = l.scene.objects.now in
    l.numbers.items ++ held (drop l.i (slots o l.scene.values.now l.list)) ≡ members o l.scene.values.now l.list
