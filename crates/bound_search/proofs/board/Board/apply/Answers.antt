use Rattle.std.proofs.Common.{◌∙◌, Some, sym, arith}
use Rattle.clause_watches.specs.Watching.{touched}
use Rattle.bound_search.proofs.BoardLaws.{still_paired, move_changes, pruned_so}
use Rattle.bound_search.proofs.board.Board.apply.Goals as goal

pub note_narrower-requires : goal.note_narrower-requires
note_narrower-requires c =
    let h = pruned_so c.args.number c.args.c.now c.in-Pruned.x c.args.self.now.store c.apply.new.self
    c.in_ok-apply.field-0 c.requires.board.valid c.literals.ensures.form c.in_ok-apply.ensures.does c.in-Pruned.is c.in_ok-apply.ensures.ok in
    let there = h.there in
    let size = c.requires.board.size in
    let rows = c.requires.board.over.rows in
    omega (arith, there, size, rows)

pub note_narrower-requires-in-Pruned : goal.note_narrower-requires-in-Pruned
note_narrower-requires-in-Pruned c =
    let h = pruned_so c.args.number c.args.c.now c.in-Pruned.x c.args.self.now.store c.apply.new.self
    c.in_ok-apply.field-0 c.requires.board.valid c.literals.ensures.form c.in_ok-apply.ensures.does c.in-Pruned.is c.in_ok-apply.ensures.ok in
    let there = h.there in
    let size = c.requires.board.size in
    let all = c.requires.board.variables in
    omega (arith, there, size, all)

pub returns-in-Pruned-clause-board : goal.returns-in-Pruned-clause-board
returns-in-Pruned-clause-board c =
    let g = c.args.g.now in
    let old = c.args.self.now.store in
    let new = c.apply.new.self in
    let board = c.requires.board in
    let x = c.in-Pruned.x in
    let h = pruned_so c.args.number c.args.c.now x old new c.in_ok-apply.field-0 board.valid c.literals.ensures.form
    c.in_ok-apply.ensures.does c.in-Pruned.is c.in_ok-apply.ensures.ok in
    let change = move_changes (Some c.args.number) x h.set old new h.moves h.there board.valid h.part in
    record {
      size = change.size ∙ board.size;
      valid = change.valid;
      over = c.note_narrower.ensures.over g board.over;
      listed = c.note_narrower.ensures.fits g old.top.now new.top.now c.requires.well_made board.over
          board.size (sym change.size) board.listed change.narrows;
      variables = c.note_narrower-in-Pruned.ensures.variables ∙ board.variables;
      paired = still_paired c.args.self.now.watches c.note_narrower-in-Pruned.new.self (touched x)
          c.note_narrower-in-Pruned.ensures.rests c.note_narrower-in-Pruned.ensures.added board.paired;
      watched = c.note_narrower-in-Pruned.ensures.fits old.top.now new.top.now board.watched
          change.narrows;
    }
