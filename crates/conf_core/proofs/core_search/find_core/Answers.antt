use Rattle.std.proofs.Common.{subst}
use Rattle.conf_core.proofs.Rounds.{grown_parts}
use Rattle.conf_core.specs.Parts.{ArePartRounds}
use Rattle.conf_core.proofs.core_search.find_core.Goals as goal

pub returns-in_err-answer-in-NoSolution-clause-rounds :
    goal.returns-in_err-answer-in-NoSolution-clause-rounds
returns-in_err-answer-in-NoSolution-clause-rounds g c =
    let o = c.args.objects.now in
    let ks = c.args.model.now.constraints in
    let now = c.blame.new.journal.rounds in
    subst (λ b. ArePartRounds o ks b now) c.budget.ensures
    (grown_parts o ks c.budget.result c.first_search.new.journal.rounds now c.blame.ensures.grown
    c.in_ok-tried.ensures.parts)

pub returns-clause-rounds : goal.returns-clause-rounds
returns-clause-rounds g c =
    let o = c.args.objects.now in
    let ks = c.args.model.now.constraints in
    let now = c.blame.new.journal.rounds in
    subst (λ b. ArePartRounds o ks b now) c.budget.ensures
    (grown_parts o ks c.budget.result c.first_search.new.journal.rounds now c.blame.ensures.grown
    c.in_ok-tried.ensures.parts)
