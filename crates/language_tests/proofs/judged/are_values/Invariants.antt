use Rattle.std.proofs.Common.{drop}
use Rattle.object_alloc.specs.Configurations.{AreValues}
use Rattle.language_tests.proofs.judged.are_values.Given as goal

-- where what is left fits, all does
abbrev pub invariant-loop-i : goal.invariant-loop-i
invariant-loop-i l = AreValues l.objects (drop l.i l.cells) (drop l.i l.values) → AreValues l.objects l.cells l.values
