use Rattle.std.proofs.Common.{reverse}
use Rattle.fd_store.proofs.StackLaws.{stack_is, store_is}
use Rattle.fd_store.proofs.store.Store.trail.Goals as goal

pub returns-clause-stack : goal.returns-clause-stack
returns-clause-stack c =
    rw c.as_slice.ensures.value
    (stack_is (reverse c.self.inside.trail.items) c.self.inside.boxes.items _ c.self.view_is)

pub returns-clause-kept : goal.returns-clause-kept
returns-clause-kept c =
    rw c.as_slice.ensures.value
    (store_is (reverse c.self.inside.trail.items) c.self.inside.boxes.items _ c.self.invariant
    c.self.view_is)
