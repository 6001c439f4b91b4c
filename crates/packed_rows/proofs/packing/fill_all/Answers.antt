use Rattle.std.proofs.Common.{◌++◌, ◌∷◌, [], List, take, sym, ◌∙◌, ap, subst}
use Rattle.std.proofs.lemmas.List.{take_more, take_all}
use Rattle.form_build.proofs.Growth.{adds_nothing, defines_more}
use Rattle.packed_rows.specs.declared.row.Row.{Row}
use Rattle.packed_rows.specs.Plans.{ArePacked}
use Rattle.packed_rows.proofs.PackedLaws.{constant_kept}
use Rattle.packed_rows.proofs.packing.fill_all.Goals as goal

pub loop-row-init : goal.loop-row-init
loop-row-init c = record { packed = λ items h. h; adds = adds_nothing [] c.args.maker.now }

pub loop-row-preserved : goal.loop-row-preserved
loop-row-preserved c =
    let there = c.loop-row.invariant in
    let more = c.in_ok-fill.ensures in
    record {
      packed = λ items h.
          subst (λ (z : List Row). ArePacked c.fill.new.maker items z c.args.most.value c.fill.new.packed.items)
          (ap (λ (r : Row). take c.loop-row.row-index c.args.rows.now ++ r ∷ []) c.row-item.is ∙ sym (take_more c.args.rows.now c.loop-row.row-index c.row-item.result c.loop-row-test.true))
          (more.packed items (take c.loop-row.row-index c.args.rows.now) (constant_kept c.args.maker.now c.loop-row.maker c.args.room c.args.most.value there.adds.grows c.requires.room) (there.packed items h));
      adds = defines_more c.args.maker.now c.loop-row.maker c.fill.new.maker there.adds more.adds;
    }

pub returns-clause-packed : goal.returns-clause-packed
returns-clause-packed c items h =
    subst (λ (z : List Row). ArePacked c.loop-row.maker items z c.args.most.value c.loop-row.packed.items) (take_all c.loop-row.row-index c.args.rows.now c.loop-row-test.false)
    (c.loop-row.invariant.packed items h)
