use Rattle.std.proofs.Common.{ℕ, ◌++◌, ◌∷◌, [], List, ◌∙◌, sym, refl, subst}
use Rattle.form_build.proofs.Growth.{adds_nothing, defines_more, grows_more}
use Rattle.packed_rows.specs.Plans.{ArePacked, IsConstant}
use Rattle.packed_rows.proofs.PackedLaws.{packed_kept, constant_kept, filler_more, filler_none}
use Rattle.packed_rows.proofs.packing.fill.Goals as goal

pub returns-then-is_nought-clause-packed : goal.returns-then-is_nought-clause-packed
returns-then-is_nought-clause-packed c items rows room h =
    filler_none c.args.maker.now items rows c.args.row.now c.args.most.value c.args.packed.now.items (sym c.lack_of-lack.ensures ∙ c.if-is_nought.ensures refl) h

pub returns-then-is_nought-clause-adds : goal.returns-then-is_nought-clause-adds
returns-then-is_nought-clause-adds c = adds_nothing [] c.args.maker.now

pub returns-clause-packed : goal.returns-clause-packed
returns-clause-packed c items rows room h =
    let one = c.in_ok-bin.ensures.adds.grows in
    let two = c.in_ok-size.ensures.adds.grows in
    let both = grows_more c.args.maker.now c.constant.new.maker c.constant-2.new.maker one two in
    subst (λ (z : List (ℕ × ℕ × ℕ)). ArePacked c.constant-2.new.maker items (rows ++ c.args.row.now ∷ []) c.args.most.value z) (sym c.in_ok-push.ensures.items)
    (filler_more c.constant-2.new.maker items rows c.args.row.now c.args.most.value c.args.packed.now.items c.in_ok-bin.bin c.in_ok-size.size c.args.room
    (constant_kept c.constant.new.maker c.constant-2.new.maker c.in_ok-bin.bin c.args.row.now.bin two (subst (λ v. IsConstant c.constant.new.maker c.in_ok-bin.bin v) c.bin_of.ensures c.in_ok-bin.ensures.constant))
    (subst (λ v. IsConstant c.constant-2.new.maker c.in_ok-size.size v) c.lack_of-lack.ensures c.in_ok-size.ensures.constant)
    (constant_kept c.args.maker.now c.constant-2.new.maker c.args.room c.args.most.value both room)
    (packed_kept c.args.maker.now c.constant-2.new.maker items rows c.args.most.value c.args.packed.now.items both h))

pub returns-clause-adds : goal.returns-clause-adds
returns-clause-adds c = defines_more c.args.maker.now c.constant.new.maker c.constant-2.new.maker c.in_ok-bin.ensures.adds c.in_ok-size.ensures.adds
