use Rattle.std.proofs.Common.{length, ap, ◌∙◌}
use Rattle.signed_clause.specs.Clauses.{Boxes}
use Rattle.bound_search.proofs.BoardLaws.{new_board}
use Rattle.bound_search.proofs.board.Board.new.Goals as goal

pub returns-clause-board : goal.returns-clause-board
returns-clause-board c =
    new_board c.args.g.now c.in_ok-store.store c.in_ok-queue.queue c.in_ok-watches.watches
    c.in_ok-store.ensures c.in_ok-queue.ensures.over c.in_ok-queue.ensures.fits
    (c.in_ok-watches.ensures.variables ∙ ap (λ (ds : Boxes). length ds) c.items.ensures)
    c.in_ok-watches.ensures.added c.in_ok-watches.ensures.rests c.requires.domains
