use Rattle.std.proofs.Common.{◌+◌, false, get_or, drop, inr, sym}
use Rattle.bool_prop.proofs.ConjunctionQuiet.{rest_at, one_open_is, next_quiet, two_quiet}
use Rattle.bool_prop.proofs.conjunction.find_next.Goals as goal

pub returns-in-None : goal.returns-in-None
returns-in-None c =
    let parts = c.args.parts.now in let boxes = c.args.boxes.now in let i = c.args.i in
    inr (
      c.requires.denied,
      one_open_is parts boxes (get_or parts i (0, false)) (drop (i + 1) parts) (rest_at parts parts boxes i (0, false) c.requires.within c.requires.first)
          (c.requires.can (0, false)) c.in-None.ensures.none,
    )

pub returns-then-is_barred : goal.returns-then-is_barred
returns-then-is_barred c =
    let parts = c.args.parts.now in let boxes = c.args.boxes.now in let i = c.args.i in let j = c.in-Some.j in
    next_quiet c.args.flag parts boxes (get_or parts i (0, false)) (get_or parts j (0, false)) (drop (i + 1) parts) (drop (j + 1) parts) c.requires.scene c.requires.denied
    (rest_at parts parts boxes i (0, false) c.requires.within c.requires.first) (rest_at (drop (i + 1) parts) parts boxes j (0, false) c.in-Some.ensures.within c.in-Some.ensures.rest) (sym c.if-is_barred.ensures)

pub returns-else-parts-i : goal.returns-else-parts-i
returns-else-parts-i c =
    let parts = c.args.parts.now in let boxes = c.args.boxes.now in let i = c.args.i in let j = c.in-Some.j in
    two_quiet c.args.flag parts boxes (get_or parts i (0, false)) (get_or parts j (0, false)) (drop (i + 1) parts) (drop (j + 1) parts) c.requires.scene c.requires.denied
    (rest_at parts parts boxes i (0, false) c.requires.within c.requires.first) (rest_at (drop (i + 1) parts) parts boxes j (0, false) c.in-Some.ensures.within c.in-Some.ensures.rest) c.if-parts-i.false
