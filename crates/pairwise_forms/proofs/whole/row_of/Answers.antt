use Rattle.std.proofs.Common.{◌^◌, arith}
use Rattle.form_build.proofs.Growth.{defines_more}
use Rattle.form_build.proofs.Linears.{linear_more}
use Rattle.pairwise_forms.proofs.LoadSteps.{item_kept}
use Rattle.pairwise_forms.proofs.WholeLaws.{row_is}
use Rattle.pairwise_forms.proofs.whole.row_of.Goals as goal

pub settled-requires-2-clause-linear : goal.settled-requires-2-clause-linear
settled-requires-2-clause-linear c =
    linear_more (2 ^ 58) (2 ^ 60) c.settled.new.b.domains c.args.e.now.room (omega arith) (item_kept c.args.maker.now c.settled.new.b c.args.e.now c.in_ok-size.ensures.adds.grows c.requires.item).room

pub returns-clause-row : goal.returns-clause-row
returns-clause-row c =
    row_is c.settled.new.b c.settled-2.new.b c.args.e.now c.in_ok-size.size c.in_ok-room.room c.in_ok-room.ensures.adds.grows
    (item_kept c.args.maker.now c.settled.new.b c.args.e.now c.in_ok-size.ensures.adds.grows c.requires.item).exists c.in_ok-size.ensures.exists c.in_ok-room.ensures.exists c.in_ok-size.ensures.value c.in_ok-room.ensures.value

pub returns-clause-adds : goal.returns-clause-adds
returns-clause-adds c = defines_more c.args.maker.now c.settled.new.b c.settled-2.new.b c.in_ok-size.ensures.adds c.in_ok-room.ensures.adds
