use Rattle.std.proofs.Common.{[], List, ℕ, sym, subst}
use Rattle.form_build.proofs.Growth.{adds_nothing, defines_more}
use Rattle.pairwise_forms.specs.Rows.{AreRows}
use Rattle.pairwise_forms.proofs.LoadSteps.{items_kept}
use Rattle.pairwise_forms.proofs.WholeLaws.{no_rows, rows_more}
use Rattle.pairwise_forms.proofs.whole.rows_of.Goals as goal

pub loop-e-init : goal.loop-e-init
loop-e-init c = record {
  rows = subst (λ (z : List (ℕ × ℕ × ℕ)). AreRows c.args.maker.now [] z) (sym c.new-rows.ensures.items) (no_rows c.args.maker.now);
  items = c.requires.items;
  adds = adds_nothing [] c.args.maker.now;
}

pub loop-e-preserved : goal.loop-e-preserved
loop-e-preserved c =
    let there = c.loop-e.invariant in
    let more = c.in_ok-row.ensures in
    record {
      rows =
          rows_more c.loop-e.maker c.row_of.new.maker c.args.items.now c.loop-e.e-index c.e-item.result c.loop-e.rows.items c.push.new.self.items _
          more.adds.grows c.loop-e-test.true c.e-item.is c.in_ok-push.ensures.items more.row there.rows;
      items = items_kept c.loop-e.maker c.row_of.new.maker c.args.items.now more.adds.grows there.items;
      adds = defines_more c.args.maker.now c.loop-e.maker c.row_of.new.maker there.adds more.adds;
    }
