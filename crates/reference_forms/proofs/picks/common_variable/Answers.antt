use Rattle.std.proofs.Common.{◌<◌, ℕ, ℤ, length}
use Rattle.reference_forms.proofs.MapLaws.{first_there}
use Rattle.reference_forms.proofs.PickLaws.{same_common, alike_common}
use Rattle.reference_forms.proofs.picks.common_variable.Goals as goal

pub returns-in-Some : goal.returns-in-Some
returns-in-Some c = same_common c.args.boxes.now c.args.items.now c.in-Some.y c.in-Some.ensures.first c.in-Some.ensures.all c.requires.exist

pub ends_at-ends-requires : goal.ends_at-ends-requires
ends_at-ends-requires c = (first_there (λ (t : ℤ × ℕ). t.1 < length c.args.boxes.now) c.in_ok-y.y c.args.items.now c.in_ok-y.ensures c.requires.exist).1

pub returns-then-are_alike : goal.returns-then-are_alike
returns-then-are_alike c =
    alike_common c.args.boxes.now c.args.items.now c.in_ok-y.y c.ends_at-ends.result c.in_ok-y.ensures (c.are_alike.ensures c.if-are_alike.true) (c.are_same.ensures c.if-are_same.true) c.requires.valid c.requires.exist
