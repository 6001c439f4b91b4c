use Rattle.std.proofs.Common.{◌≡◌, ◌<◌, ◌≤◌, ℕ, get_or, length, List, ap, sym, subst, arith}
use Rattle.std.proofs.lemmas.List.Elements.{All-nil}
use Rattle.object_alloc.specs.declared.object.Cell.{Cell}
use Rattle.object_alloc.specs.Cells.{cells}
use Rattle.form_build.specs.Worlds.{IsFew}
use Rattle.form_build.proofs.Growth.{few_none, few_more}
use Rattle.reconfigure.specs.declared.allowed.ExtentRest.{ExtentRest}
use Rattle.reconfigure.specs.Rests.{AreRests}
use Rattle.reconfigure.proofs.NamedLaws.{cells_still, allows_none, allows_more, allows_all}
use Rattle.reconfigure.proofs.allowed.require_allowed.Goals as goal

pub loop-i-init : goal.loop-i-init
loop-i-init c = record {
  says = allows_none c.args.objects.now c.args.failed.now.numbers.items c.args.maker.now;
  few = few_none 0 c.args.maker.now;
  kept = subst (λ (z : List ExtentRest). AreRests c.args.failed.now.inside z) (sym c.new-kept.ensures.items) (All-nil _);
}

pub allow_cell-requires-clause-cells : goal.allow_cell-requires-clause-cells
allow_cell-requires-clause-cells c = cells_still c.args.objects.now c.args.maker.now c.loop-i.maker c.loop-i.invariant.says.grows c.requires.cells

pub loop-i-preserved : goal.loop-i-preserved
loop-i-preserved c =
    let o = c.args.objects.now in
    let e = c.cells-cells.ensures.cells in
    let i = c.loop-i.i in
    let x = c.cell_at.result in
    let there = c.loop-i.invariant in
    let more = c.in_ok-allow_cell.ensures in
    record {
      says = allows_more o c.args.failed.now.numbers.items c.args.maker.now c.loop-i.maker c.allow_cell.new.maker i x c.requires.cells
          (subst (λ (ys : List Cell). i < length ys) e c.loop-i-test.true) (subst (λ (ys : List Cell). x ≡ get_or ys i x) e (c.cell_at.ensures x)) there.says more.says;
      few = few_more i 1 c.args.maker.now c.loop-i.maker c.allow_cell.new.maker there.few more.few;
      kept = more.kept;
    }

pub returns : goal.returns
returns c =
    let o = c.args.objects.now in
    let e = c.cells-cells.ensures.cells in
    let i = c.loop-i.i in
    let count : i ≡ length (cells o) = omega (arith, c.loop-i-test.false, c.loop-i.auto.i-end, ap (λ (ys : List Cell). length ys) e) in
    record {
      says = allows_all o c.args.failed.now.numbers.items c.args.maker.now c.loop-i.maker i (subst (λ (ys : List Cell). length ys ≤ i) e c.loop-i-test.false) c.loop-i.invariant.says;
      few = subst (λ (n : ℕ). IsFew n c.args.maker.now c.loop-i.maker) count c.loop-i.invariant.few;
    }
