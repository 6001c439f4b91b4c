use Rattle.std.proofs.Common.{[]}
use Rattle.form_build.proofs.Growth.{adds_nothing, defines_more}
use Rattle.stated_rows.proofs.RowLaws.{follow_still}
use Rattle.stated_rows.proofs.packings.pack_groups.Goals as goal

pub loop-group-init : goal.loop-group-init
loop-group-init c = adds_nothing [] c.args.maker.now

pub pack_group-requires : goal.pack_group-requires
pack_group-requires c = follow_still c.args.maker.now c.loop-group.maker c.args.rows.now c.loop-group.invariant.grows c.requires

pub loop-group-preserved : goal.loop-group-preserved
loop-group-preserved c = defines_more c.args.maker.now c.loop-group.maker c.pack_group.new.maker c.loop-group.invariant c.in_ok-pack_group.ensures
