use Rattle.std.proofs.Common.{◌∙◌, ◌++◌, ◌∷◌, [], Some, ap, sym}
use Rattle.std.specs.Prelude.{option_copied}
use Rattle.round_commands.proofs.Stepping.{has_round, same_run, told_same, tried, on_err}
use Rattle.model_search.specs.Rounds.{journal_of, told_by}
use Rattle.round_commands.specs.Events.{situation_of}
use Rattle.run_promise.specs.Sessions.{subject}
use Rattle.round_commands.proofs.event.answered.Goals as goal

pub returns-in_err-answer-clause-cut : goal.returns-in_err-answer-clause-cut
returns-in_err-answer-clause-cut g c =
    let with = c.args.with in
    let o = with.built.objects.now in
    let s = subject o with.built.model.now.constraints with.built.model.now.goals with.budget in
    let p = situation_of c.args.session.now.state in
    let e = c.args.event.now in
    let repair = c.in_ok-step.step.repair in
    let rounds = c.args.journal.now.rounds in
    let now = c.stepped.new.journal.rounds in
    let step = c.in_ok-step.ensures.step in
    let round = c.last_round-round.result.now in
    let same = c.last_round-round.ensures rounds step.round step.more in
    let more = step.more ∙ ap (λ r. rounds ++ r ∷ []) (sym same) in
    let q = c.question_of-question.result in
    let is = c.question_of-question.ensures in
    let run = same_run o q.objects.now with.built.model.now.constraints q.model.now.constraints
    with.built.model.now.goals q.model.now.goals (Some repair) (option_copied q.repair) with.budget
    (journal_of round) (told_by round) (ap (λ x. x.now) is.objects)
    (ap (λ x. x.now.constraints) is.model) (ap (λ x. x.now.goals) is.model)
    (ap (λ x. option_copied x) is.repair) c.round_is_run.ensures.run in
    on_err c.from_residual-in_err-answer.result _
    (tried s p e repair rounds now round step.former step.failed more run)

pub returns-clause-round : goal.returns-clause-round
returns-clause-round g c =
    let with = c.args.with in
    let o = with.built.objects.now in
    let s = subject o with.built.model.now.constraints with.built.model.now.goals with.budget in
    let p = situation_of c.args.session.now.state in
    let e = c.args.event.now in
    let repair = c.in_ok-step.step.repair in
    let rounds = c.args.journal.now.rounds in
    let now = c.stepped.new.journal.rounds in
    let step = c.in_ok-step.ensures.step in
    let round = c.last_round-round.result.now in
    let same = c.last_round-round.ensures rounds step.round step.more in
    let more = step.more ∙ ap (λ r. rounds ++ r ∷ []) (sym same) in
    let q = c.question_of-question.result in
    let is = c.question_of-question.ensures in
    let run = same_run o q.objects.now with.built.model.now.constraints q.model.now.constraints
    with.built.model.now.goals q.model.now.goals (Some repair) (option_copied q.repair) with.budget
    (journal_of round) (told_by round) (ap (λ x. x.now) is.objects)
    (ap (λ x. x.now.constraints) is.model) (ap (λ x. x.now.goals) is.model)
    (ap (λ x. option_copied x) is.repair) c.round_is_run.ensures.run in
    let answer = c.in_ok-answer.answer in
    has_round s p e repair rounds now round answer.told answer.text.items step.former step.failed
    more run
    (c.in_ok-answer.ensures.told
    ∙ told_same step.round round c.in_ok-step.step.verdict step.searched.verdict_is same)
    c.in_ok-answer.ensures.text
