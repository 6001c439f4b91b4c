use Rattle.std.proofs.Common.{[], All, sym, subst}
use Rattle.form_build.proofs.Growth.{adds_nothing}
use Rattle.stated_rows.specs.Following.{FollowsIn}
use Rattle.stated_rows.proofs.RowLaws.{defines_rows, of_some}
use Rattle.stated_rows.proofs.packings.pack_group.Goals as goal

pub returns-then-stands : goal.returns-then-stands
returns-then-stands c = adds_nothing [] c.args.maker.now

pub returns-in_default : goal.returns-in_default
returns-in_default c = adds_nothing [] c.args.maker.now

pub returns-in_default-2 : goal.returns-in_default-2
returns-in_default-2 c = adds_nothing [] c.args.maker.now

pub returns : goal.returns
returns c =
    let g = c.args.maker.now in
    let found = of_some c.in_ok-found.field-0 c.in-Some-2.found (λ out. All (FollowsIn g) out.items) c.in-Some-2.is c.in_ok-found.ensures in
    defines_rows g c.pack_rows.new.maker c.as_slice-2.result.now c.in_ok-pack_rows.field-0 (subst (All (FollowsIn g)) (sym c.as_slice-2.ensures.value) found) c.in_ok-pack_rows.ensures.says
