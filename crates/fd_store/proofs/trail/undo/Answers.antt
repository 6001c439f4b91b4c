use Rattle.std.proofs.Common.{◌≡◌, ◌<◌, ◌≤◌, reverse, sym, ap, ◌∙◌, arith, List}
use Rattle.fd_store.specs.declared.trail.Moved.{Moved}
use Rattle.fd_store.specs.Trails.{level_of}
use Rattle.fd_store.proofs.StackLaws.{undone_levels, undone_store, dropped-none}
use Rattle.fd_store.proofs.trail.undo.Goals as goal

pub loop-boxes-preserved : goal.loop-boxes-preserved
loop-boxes-preserved c =
    let ms = reverse c.loop-boxes.trail.items in
    let level : c.last_level.result ≡ level_of ms =
    c.last_level.ensures ∙ ap (λ (ms : List Moved). level_of (reverse ms)) c.deref.ensures.value
    in
    let above : c.args.level < level_of ms = omega (arith, level, c.loop-boxes-test.true) in
    record {
      kept = undone_store ms _ c.loop-boxes.boxes.items _ c.loop-boxes.invariant.kept
          c.undo_last.ensures.boxes c.undo_last.ensures.older;
      levels = undone_levels ms _ c.args.level c.loop-boxes.boxes.items _ _
          c.loop-boxes.invariant.kept above c.undo_last.ensures.boxes c.undo_last.ensures.older
          c.loop-boxes.invariant.levels;
    }

pub returns-clause-stack : goal.returns-clause-stack
returns-clause-stack c =
    let ms = reverse c.loop-boxes.trail.items in
    let level : c.last_level.result ≡ level_of ms =
    c.last_level.ensures ∙ ap (λ (ms : List Moved). level_of (reverse ms)) c.deref.ensures.value
    in
    let above : level_of ms ≤ c.args.level = omega (arith, level, c.loop-boxes-test.false) in
    sym (dropped-none ms c.args.level c.loop-boxes.boxes.items c.loop-boxes.invariant.kept.trail
    above) ∙ c.loop-boxes.invariant.levels
