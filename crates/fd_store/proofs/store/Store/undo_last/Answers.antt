use Rattle.std.proofs.Common.{◌<◌, ap, arith, reverse}
use Rattle.fd_store.specs.Levels.{Stack}
use Rattle.fd_store.specs.Undo.{dropped}
use Rattle.fd_store.specs.Trails.{level_of}
use Rattle.fd_store.proofs.StackLaws.{level_is, undone_levels}
use Rattle.fd_store.proofs.store.Store.undo_last.Goals as goal

pub returns-clause-dropped : goal.returns-clause-dropped
returns-clause-dropped c = λ k lt.
    let ms = reverse c.self.inside.trail.items in
    let boxes = c.self.inside.boxes.items in
    let level = level_is ms boxes _ c.self.invariant c.self.view_is in
    let above : k < level_of ms = omega (arith, level, lt) in
    undone_levels ms _ k boxes _ _ c.self.invariant above c.undo_last.ensures.boxes
    c.undo_last.ensures.older (ap (λ (s : Stack). dropped k s) c.self.view_is)
