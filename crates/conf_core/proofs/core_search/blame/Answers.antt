use Rattle.std.proofs.Common.{◌∙◌, ap}
use Rattle.conf_core.proofs.CoreLaws.{core_answer}
use Rattle.conf_core.proofs.Rounds.{grown_more, grown_parts}
use Rattle.conf_core.specs.Suspects.{is_kept, is_unsure, marked}
use Rattle.conf_core.specs.declared.answer.CoreAnswer.TheVariants as answers
use Rattle.conf_core.proofs.core_search.blame.Goals as goal

pub returns-in_err-suspects-clause-grown : goal.returns-in_err-suspects-clause-grown
returns-in_err-suspects-clause-grown g c =
    grown_more c.args.with.objects.now c.args.with.model.now.constraints c.args.with.budget
    c.args.journal.now.rounds c.suspected.new.journal.rounds c.all_settled.new.journal.rounds
    c.suspected.ensures.grown c.all_settled.ensures.grown

pub returns-in_err-answer-clause-grown : goal.returns-in_err-answer-clause-grown
returns-in_err-answer-clause-grown g c =
    grown_more c.args.with.objects.now c.args.with.model.now.constraints c.args.with.budget
    c.args.journal.now.rounds c.suspected.new.journal.rounds c.all_settled.new.journal.rounds
    c.suspected.ensures.grown c.all_settled.ensures.grown

pub returns-clause-grown : goal.returns-clause-grown
returns-clause-grown g c =
    grown_more c.args.with.objects.now c.args.with.model.now.constraints c.args.with.budget
    c.args.journal.now.rounds c.suspected.new.journal.rounds c.all_settled.new.journal.rounds
    c.suspected.ensures.grown c.all_settled.ensures.grown

pub returns-clause-core : goal.returns-clause-core
returns-clause-core g c =
    let o = c.args.with.objects.now in
    let ks = c.args.with.model.now.constraints in
    let b = c.args.with.budget in
    let now = c.all_settled.new.journal.rounds in
    let mid = c.suspected.new.journal.rounds in
    let old = c.args.journal.now.rounds in
    core_answer o ks b now
    (grown_parts o ks b mid now c.all_settled.ensures.grown
    (grown_parts o ks b old mid c.suspected.ensures.grown c.requires.rounds))
    c.in_ok-suspects.suspects.items c.in_ok-answer.answer
    (c.in_ok-answer.ensures
    ∙ ap (λ ss. answers.Core (marked is_kept 0 ss) (marked is_unsure 0 ss))
    c.deref.ensures.value)
    c.in_ok-suspects.ensures.narrowed c.in_ok-suspects.ensures.none_open
