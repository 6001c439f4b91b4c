use Rattle.std.proofs.Common.{◌+◌, false, get_or, drop, inl, refl, sym}
use Rattle.bool_prop.proofs.ConjunctionQuiet.{rest_at, rest_none, denied_can_fail, first_quiet}
use Rattle.bool_prop.proofs.conjunction.find_denied.Goals as goal

pub returns-in-None : goal.returns-in-None
returns-in-None c =
    inl (denied_can_fail c.args.flag c.args.boxes.now c.requires.scene.bits c.requires.denied, rest_none c.args.parts.now c.args.boxes.now c.in-None.ensures.none)

pub returns-then-is_barred : goal.returns-then-is_barred
returns-then-is_barred c =
    let parts = c.args.parts.now in let boxes = c.args.boxes.now in let i = c.in-Some.i in
    let barred = c.if-is_barred.ensures in
    first_quiet c.args.flag parts boxes (get_or parts i (0, false)) (drop (i + 1) parts) c.requires.scene c.requires.denied
    (rest_at parts parts boxes i (0, false) c.in-Some.ensures.within c.in-Some.ensures.rest) (rw (sym barred) refl)
