use Rattle.std.proofs.Common.{[], ◌+◌, length, subst}
use Rattle.signed_clause.specs.Clauses.{Literals}
use Rattle.form_build.specs.Worlds.{IsFew}
use Rattle.form_build.proofs.Growth.{adds_nothing}
use Rattle.form_truths.proofs.flags.truth_of.Goals as goal

pub returns-then-holds-clause-adds : goal.returns-then-holds-clause-adds
returns-then-holds-clause-adds c = adds_nothing [] c.args.m.now

pub returns-in-empty-clause-adds : goal.returns-in-empty-clause-adds
returns-in-empty-clause-adds c = adds_nothing [] c.args.m.now

pub returns-in_ok-set-in-len1-clause-adds : goal.returns-in_ok-set-in-len1-clause-adds
returns-in_ok-set-in-len1-clause-adds c = adds_nothing [] c.args.m.now

pub returns-in_ok-t-in_default-clause-few : goal.returns-in_ok-t-in_default-clause-few
returns-in_ok-t-in_default-clause-few c =
    subst (λ (z : Literals). IsFew (length z + 1) c.args.m.now c.some_literal.new.m) c.literals.ensures.items c.in_ok-t-in_default.ensures.few
