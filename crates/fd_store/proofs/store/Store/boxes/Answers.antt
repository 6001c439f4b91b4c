use Rattle.std.proofs.Common.{◌∙◌, reverse}
use Rattle.fd_store.proofs.StackLaws.{boxes_of}
use Rattle.fd_store.proofs.store.Store.boxes.Goals as goal

pub returns-clause-boxes : goal.returns-clause-boxes
returns-clause-boxes c =
    c.as_slice.ensures.value
    ∙ boxes_of (reverse c.self.inside.trail.items) c.self.inside.boxes.items _ c.self.view_is
