use Rattle.std.proofs.Common.{◌∙◌, [], ap, subst}
use Rattle.conf_core.proofs.Narrowings.{none_open}
use Rattle.conf_core.proofs.Rounds.{grown_more}
use Rattle.conf_core.specs.Suspects.{AreTried, is_open, marked}
use Rattle.conf_core.proofs.core_search.all_settled.Goals as goal

pub returns-in_err-rest-clause-grown : goal.returns-in_err-rest-clause-grown
returns-in_err-rest-clause-grown g c = c.narrowed.ensures.grown

pub returns-in_err-settled-clause-grown : goal.returns-in_err-settled-clause-grown
returns-in_err-settled-clause-grown g c =
    grown_more c.args.with.objects.now c.args.with.model.now.constraints c.args.with.budget
    c.args.journal.now.rounds c.narrowed.new.journal.rounds c.narrowed-2.new.journal.rounds
    c.narrowed.ensures.grown c.narrowed-2.ensures.grown

pub returns-clause-grown : goal.returns-clause-grown
returns-clause-grown g c =
    grown_more c.args.with.objects.now c.args.with.model.now.constraints c.args.with.budget
    c.args.journal.now.rounds c.narrowed.new.journal.rounds c.narrowed-2.new.journal.rounds
    c.narrowed.ensures.grown c.narrowed-2.ensures.grown

pub returns-clause-none_open : goal.returns-clause-none_open
returns-clause-none_open g c =
    let mid = c.in_ok-suspects.suspects.items in
    let now = c.in_ok-settled.settled.items in
    none_open mid now
    (subst (λ r. AreTried mid r now [])
    (c.in_ok-rest.ensures ∙ ap (λ xs. marked is_open 0 xs) c.deref.ensures.value)
    c.in_ok-settled.ensures.tried)
