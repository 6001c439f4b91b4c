use Rattle.std.proofs.Common.{ap, ◌∙◌}
use Rattle.view_steps.specs.Rooms.{found}
use Rattle.view_steps.specs.Runs.{all_back}
use Rattle.view_steps.proofs.steps.begun.Goals as goal

pub returns-clause-rooms : goal.returns-clause-rooms
returns-clause-rooms c = λ w.
    c.in_ok-put_all_back.ensures w
    ∙ ap (λ ms. all_back ms w.now (found c.in_ok-rooms.rooms.entries w.now)) c.deref.ensures.value
    ∙ ap (all_back c.args.moves.items w.now) (c.in_ok-rooms.ensures w)
