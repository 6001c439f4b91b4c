use Rattle.std.proofs.Common.{◌≡◌, ◌+◌, ◌||◌, ◌<◌, ℤ, length, length-take, drop, take, sym, ap, ◌∙◌, arith}
use Rattle.object_alloc.specs.Changes.{differs, is_changed}
use Rattle.form_truths.specs.Disjunctions.{disjunction_at}
use Rattle.reconfigure.proofs.LeafLaws.{changed_next}
use Rattle.reconfigure.proofs.NamedLaws.{front_value}
use Rattle.reconfigure.proofs.changed.changed_cells.Goals as goal

pub loop-i-preserved : goal.loop-i-preserved
loop-i-preserved c =
    let there = c.loop-i.invariant in
    let more = c.in_ok-push_cell.ensures in
    let i = c.loop-i.i in
    let h = c.hint_at.result in
    let s = c.args.maker.now.search in
    record {
      value = λ a w.
          let size : length (take s a) ≡ s = omega (arith, length-take s a, w.long) in
          let low : c.args.first + i < s = omega (arith, c.requires.searched, c.loop-i-test.true) in
          changed_next c.args.hints.now (take s a) i c.args.first h (disjunction_at c.loop-i.d a) (disjunction_at c.push_cell.new.d a) (is_changed c.args.hints.now (drop c.args.first (take s a)))
          c.loop-i-test.true (c.hint_at.ensures h) (omega (arith, size, low))
          (more.value a w ∙ ap (λ (v : ℤ). differs h v || disjunction_at c.loop-i.d a) (sym (front_value s (c.args.first + i) a low)))
          (there.value a w);
      exist = more.exist there.exist;
      few = omega (arith, more.few, there.few);
    }
