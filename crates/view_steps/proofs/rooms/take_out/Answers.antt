use Rattle.std.proofs.Common.{◌≡◌, true, subst}
use Rattle.std.specs.Prelude.{IfSome}
use Rattle.view_steps.specs.Rooms.{is_one}
use Rattle.view_steps.proofs.ListLaws.{found_passes}
use Rattle.view_steps.proofs.rooms.take_out.Goals as goal

pub returns-clause-same : goal.returns-clause-same
returns-clause-same c =
    subst (λ x. IfSome c.swap_remove_entry.result (λ p. is_one x p.0.now ≡ true))
    c.as_bytes.ensures.value
    (found_passes (λ k. is_one c.as_bytes.result.now k.now) c.args.rooms.now.entries
    c.swap_remove_entry.result c.swap_remove_entry.ensures.key)
