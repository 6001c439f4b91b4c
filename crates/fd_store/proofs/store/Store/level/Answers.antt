use Rattle.std.proofs.Common.{List, ap, reverse, ◌∙◌}
use Rattle.fd_store.specs.declared.trail.Moved.{Moved}
use Rattle.fd_store.specs.Trails.{level_of}
use Rattle.fd_store.proofs.StackLaws.{level_is}
use Rattle.fd_store.proofs.store.Store.level.Goals as goal

pub returns : goal.returns
returns c =
    c.last_level.ensures
    ∙ ap (λ (ms : List Moved). level_of (reverse ms)) c.as_slice.ensures.value
    ∙ level_is (reverse c.self.inside.trail.items) c.self.inside.boxes.items _ c.self.invariant
    c.self.view_is
