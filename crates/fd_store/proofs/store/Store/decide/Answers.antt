use Rattle.std.proofs.Common.{reverse, arith}
use Rattle.fd_store.proofs.StackLaws.{boxes_of, level_is}
use Rattle.fd_store.proofs.store.Store.decide.Goals as goal

pub narrow-requires-clause-var : goal.narrow-requires-clause-var
narrow-requires-clause-var c =
    rw (boxes_of (reverse c.self.inside.trail.items) c.self.inside.boxes.items _ c.self.view_is)
    c.requires.var

pub narrow-requires-clause-within : goal.narrow-requires-clause-within
narrow-requires-clause-within c =
    rw (
      boxes_of (reverse c.self.inside.trail.items) c.self.inside.boxes.items _ c.self.view_is,
      c.in_ok-set.ensures.list,
    ) c.requires.within

pub narrow-requires-clause-level : goal.narrow-requires-clause-level
narrow-requires-clause-level c =
    let level = level_is (reverse c.self.inside.trail.items) c.self.inside.boxes.items _
    c.self.invariant c.self.view_is in
    omega (arith, level, c.level-level.ensures)
