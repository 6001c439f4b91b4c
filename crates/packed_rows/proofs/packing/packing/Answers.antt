use Rattle.std.proofs.Common.{ℕ, List, [], ℤ, subst}
use Rattle.form_build.proofs.Growth.{defines_more}
use Rattle.packed_rows.specs.Plans.{ArePacked}
use Rattle.packed_rows.proofs.PackedLaws.{constant_kept}
use Rattle.packed_rows.proofs.packing.packing.Goals as goal

pub fill_all-requires-clause-room : goal.fill_all-requires-clause-room
fill_all-requires-clause-room c =
    constant_kept c.constant.new.maker c.packed_items.new.maker c.in_ok-room.room c.args.plan.now.most.value c.in_ok-packed.ensures.adds.grows c.in_ok-room.ensures.constant

pub returns-clause-packed : goal.returns-clause-packed
returns-clause-packed c =
    c.in_ok-fill_all.ensures.packed c.args.plan.now.items.items
    (subst (λ (z : List (ℕ × ℤ)). ArePacked c.packed_items.new.maker z [] c.args.plan.now.most.value c.in_ok-packed.packed.items) c.as_slice.ensures.value
    (c.in_ok-packed.ensures.packed c.args.plan.now.most.value c.in_ok-room.ensures.constant))

pub returns-clause-adds : goal.returns-clause-adds
returns-clause-adds c =
    defines_more c.args.maker.now c.constant.new.maker c.fill_all.new.maker c.in_ok-room.ensures.adds
    (defines_more c.constant.new.maker c.packed_items.new.maker c.fill_all.new.maker c.in_ok-packed.ensures.adds c.in_ok-fill_all.ensures.adds)
