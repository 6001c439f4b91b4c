use Rattle.std.proofs.Common.{[], List, ℤ, take}
use Rattle.form_build.specs.Worlds.{Adds, IsFew}
use Rattle.reconfigure.specs.Rests.{AreRests}
use Rattle.reconfigure.proofs.NamedLaws.{allows}
use Rattle.reconfigure.proofs.allowed.require_allowed.Given as goal

-- the cells so far name no failed object
abbrev pub invariant-loop-i : goal.invariant-loop-i
invariant-loop-i l =
    record {
      says : Adds [] l.fn.maker l.maker (λ (a : List ℤ). allows l.objects l.failed.numbers.items l.i (take l.fn.maker.search a));
      few : IsFew l.i l.fn.maker l.maker;
      kept : AreRests l.failed.inside l.kept.items;
    }
