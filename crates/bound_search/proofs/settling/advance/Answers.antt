use Rattle.bound_search.proofs.UseAxiom.{kept_both}
use Rattle.bound_search.proofs.settling.advance.Goals as goal

pub returns-in_err-step-in-Going-clause-kept : goal.returns-in_err-step-in-Going-clause-kept
returns-in_err-step-in-Going-clause-kept g c =
    kept_both c.args.g.now c.args.journal.now c.propagate.new.journal c.branch-g.new.journal
    c.propagate.ensures.kept c.branch-g.ensures.kept

pub returns-in_ok-step-in-Going-clause-kept : goal.returns-in_ok-step-in-Going-clause-kept
returns-in_ok-step-in-Going-clause-kept g c =
    kept_both c.args.g.now c.args.journal.now c.propagate.new.journal c.branch-g.new.journal
    c.propagate.ensures.kept c.branch-g.ensures.kept
