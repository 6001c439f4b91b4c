use Rattle.std.proofs.Common.{List, ℕ, Bool, length, ap, ◌∙◌, subst, arith}
use Rattle.reconfigure.specs.Marking.{is_marked, AreMarks}
use Rattle.reconfigure.proofs.MarkLaws.{failed_inside}
use Rattle.reconfigure.proofs.failed.failed_objects.Goals as goal

pub marked_set-requires : goal.marked_set-requires
marked_set-requires c = record {
  few = omega (arith, ap (λ (xs : List Bool). length xs) c.deref-2.ensures.value, c.in_ok-marks.ensures.count, c.count-count.ensures.limits.objects);
}

pub returns-clause-failed : goal.returns-clause-failed
returns-clause-failed c =
    let o = c.args.objects.now in
    let ws = c.in_ok-numbers.numbers.items in
    let marks = c.in_ok-marks.marks.items in
    record {
      there = c.in_ok-numbers.ensures.there;
      inside = failed_inside o ws marks c.in_ok-inside.inside c.in_ok-numbers.ensures.there c.in_ok-marks.ensures.count
          (subst (λ (xs : List ℕ). AreMarks o xs marks) c.deref.ensures.value c.in_ok-marks.ensures.marks)
          (λ v. c.in_ok-inside.ensures v ∙ ap (λ (ms : List Bool). is_marked 0 ms v) c.deref-2.ensures.value);
    }
