use Rattle.std.proofs.Common.{Bool, refl, ap, ◌∙◌}
use Rattle.form_build.specs.declared.form.Truth.TheVariants as truth
use Rattle.ground_model.proofs.RowLaws.{load_added, room_taken}
use Rattle.ground_model.proofs.loads.added.Goals as goal

pub returns-in-Some : goal.returns-in-Some
returns-in-Some c room sum a =
    room_taken c.args.row c.with_room.result c.args.t.now c.args.size.value room sum a (c.in-Fixed.is ∙ ap (λ (b : Bool). truth.Fixed b) c.if-not-holds.false) c.with_room.ensures.bin c.with_room.ensures.loads (c.with_room.ensures.room ∙ c.in-Some.ensures)

pub returns-in_ok-row-in-In : goal.returns-in_ok-row-in-In
returns-in_ok-row-in-In c room sum a =
    load_added c.args.row c.in_ok-row-in-In.row c.args.t.now c.in-In.x c.in-In.set c.args.size.value room sum a c.in-In.is (c.if-not-is_bin.ensures refl) c.in_ok-row-in-In.ensures.bin c.in_ok-row-in-In.ensures.loads c.in_ok-row-in-In.ensures.room
