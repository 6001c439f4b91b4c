use Rattle.std.proofs.Common.{ℕ, ◌++◌, ◌∷◌, [], List, sym, subst, arith}
use Rattle.form_build.proofs.Growth.{no_less}
use Rattle.packed_rows.specs.Plans.{ArePacked, IsConstant}
use Rattle.packed_rows.proofs.PackedLaws.{packed_kept, constant_kept, item_more}
use Rattle.packed_rows.proofs.packing.push_item.Goals as goal

pub returns-clause-packed : goal.returns-clause-packed
returns-clause-packed c items most room h =
    let grows = c.in_ok-size.ensures.adds.grows in
    let less = no_less c.args.maker.now c.constant.new.maker grows in
    subst (λ (z : List (ℕ × ℕ × ℕ)). ArePacked c.constant.new.maker (items ++ c.args.item ∷ []) [] most z) (sym c.in_ok-push.ensures.items)
    (item_more c.constant.new.maker items c.args.item most c.args.packed.now.items c.in_ok-size.size c.args.room
    (omega (arith, less, c.requires.exists)) (subst (λ v. IsConstant c.constant.new.maker c.in_ok-size.size v) c.size_of.ensures c.in_ok-size.ensures.constant)
    (constant_kept c.args.maker.now c.constant.new.maker c.args.room most grows room)
    (packed_kept c.args.maker.now c.constant.new.maker items [] most c.args.packed.now.items grows h))
