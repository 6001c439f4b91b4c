use Rattle.std.proofs.Common.{rules, ◌<◌, ◌∙◌, None, length, sym}
use Rattle.signed_clause.specs.Clauses.{box_of}
use Rattle.clause_watches.specs.Watching.{touched}
use Rattle.bound_search.proofs.BoardLaws.{still_paired, move_changes, half_part}
use Rattle.bound_search.proofs.board.Board.decide.Goals as goal

pub returns-clause-board : goal.returns-clause-board
returns-clause-board c =
    let g = c.args.g.now in
    let old = c.args.self.now.store in
    let new = c.decide.new.self in
    let board = c.requires.board in
    let there : c.args.x < length old.top.now = search rules in
    let part = half_part (box_of old.top.now c.args.x) c.args.half.now (board.valid c.args.x)
    (search rules) c.requires.some c.requires.within in
    let change = move_changes None c.args.x c.args.half.now old new c.in_ok-decide.ensures.ok there
    board.valid part in
    record {
      size = change.size ∙ board.size;
      valid = change.valid;
      over = c.note_narrower.ensures.over g board.over;
      listed = c.note_narrower.ensures.fits g old.top.now new.top.now c.requires.well_made board.over
          board.size (sym change.size) board.listed change.narrows;
      variables = c.note_narrower-2.ensures.variables ∙ board.variables;
      paired = still_paired c.args.self.now.watches c.note_narrower-2.new.self (touched c.args.x)
          c.note_narrower-2.ensures.rests c.note_narrower-2.ensures.added board.paired;
      watched = c.note_narrower-2.ensures.fits old.top.now new.top.now board.watched change.narrows;
    }
