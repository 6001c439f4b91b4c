use Rattle.std.proofs.Common.{◌≡◌, length}
use Rattle.reconfigure.specs.Marking.{AreMarks}
use Rattle.reconfigure.proofs.marks.marks_of.Given as goal

-- the marks of the objects so far
abbrev pub invariant-loop-n : goal.invariant-loop-n
invariant-loop-n l =
    record {
      count : length l.marks.items ≡ l.n;
      marks : AreMarks l.objects l.numbers l.marks.items;
    }
