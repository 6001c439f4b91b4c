use Rattle.std.proofs.Common.{◌∙◌}
use Rattle.conf_core.proofs.Rounds.{grown_more}
use Rattle.conf_core.proofs.SuspectLaws.{tried_more}
use Rattle.conf_core.proofs.narrowing.narrowed.Goals as goal

pub returns-in_err-n-clause-grown : goal.returns-in_err-n-clause-grown
returns-in_err-n-clause-grown g c =
    grown_more c.args.with.objects.now c.args.with.model.now.constraints c.args.with.budget
    c.args.journal.now.rounds c.loop-with.journal.rounds c.step.new.journal.rounds
    c.loop-with.invariant.grown c.step.ensures.grown

pub loop-with-preserved : goal.loop-with-preserved
loop-with-preserved g c =
    record {
      narrowed = c.in_ok-n.ensures.narrowed;
      tried = tried_more c.args.first.suspects.items c.args.first.rest.items
          c.loop-with.n.suspects.items c.loop-with.n.rest.items c.in_ok-n.n.suspects.items
          c.in_ok-n.n.rest.items c.loop-with.invariant.tried c.in_ok-n.ensures.tried;
      grown = grown_more c.args.with.objects.now c.args.with.model.now.constraints
          c.args.with.budget c.args.journal.now.rounds c.loop-with.journal.rounds
          c.step.new.journal.rounds c.loop-with.invariant.grown c.step.ensures.grown;
      some = c.in_ok-n.ensures.some;
      ground = c.in_ok-n.ensures.ground;
      lines = c.in_ok-n.ensures.lines;
      budget_is = c.step.ensures.budget ∙ c.loop-with.invariant.budget_is;
    }
