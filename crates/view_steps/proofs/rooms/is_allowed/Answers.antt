use Rattle.std.proofs.Common.{ap, ◌∙◌}
use Rattle.view_steps.specs.Rooms.{all_allowed}
use Rattle.view_steps.proofs.ListLaws.{allowed_found}
use Rattle.view_steps.proofs.rooms.is_allowed.Goals as goal

pub returns-in-Some-get : goal.returns-in-Some-get
returns-in-Some-get c =
    c.all_allowed.ensures
    ∙ ap (λ rs. all_allowed rs c.args.amounts.now) c.deref.ensures.value
    ∙ allowed_found c.args.rooms.now.entries c.args.word c.in-Some.word c.in-Some-get.list.now
    c.as_bytes.result.now c.args.amounts.now c.in-Some.is c.as_bytes.ensures.value
    c.in-Some-get.ensures.value
