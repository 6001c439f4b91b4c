use Rattle.std.proofs.Common.{map, sym, subst}
use Rattle.csv.specs.Records.{fields_of}
use Rattle.site_tables.specs.Grid.{grid}
use Rattle.site_drafts.proofs.AnswerLaws.{is_answer, unmade_unanswered}
use Rattle.site_drafts.specs.Answers.{given}
use Rattle.site_drafts.specs.Tables.{HasRows}
use Rattle.site_words.specs.Words.{job_of}
use Rattle.site_drafts.proofs.making.made_of_texts.Goals as goal

pub returns-in-Ok-made_of_records-clause-answer : goal.returns-in-Ok-made_of_records-clause-answer
returns-in-Ok-made_of_records-clause-answer c =
    is_answer (job_of c.args.task)
    (given c.args.hosts.now c.args.services.now c.args.state.now c.args.beside.now)
    (grid 0 (map fields_of c.deref.result.now)) (grid 0 (map fields_of c.deref-2.result.now))
    c.in-Ok-made_of_records.text.items
    (subst (λ v. HasRows c.args.hosts.now (grid 0 (map fields_of v))) (sym c.deref.ensures.value)
    c.in-Ok.ensures.rows)
    (subst (λ v. HasRows c.args.services.now (grid 0 (map fields_of v))) (sym c.deref-2.ensures.value)
    c.in-Ok-records.ensures.rows)
    c.in-Ok-made_of_records.ensures.made

pub returns-clause-refused : goal.returns-clause-refused
returns-clause-refused c =
    unmade_unanswered (job_of c.args.task)
    (given c.args.hosts.now c.args.services.now c.args.state.now c.args.beside.now)
    c.in-Err-made_of_records.refusal
    (grid 0 (map fields_of c.deref.result.now)) (grid 0 (map fields_of c.deref-2.result.now))
    (subst (λ v. HasRows c.args.hosts.now (grid 0 (map fields_of v))) (sym c.deref.ensures.value)
    c.in-Ok.ensures.rows)
    (subst (λ v. HasRows c.args.services.now (grid 0 (map fields_of v))) (sym c.deref-2.ensures.value)
    c.in-Ok-records.ensures.rows)
    c.in-Err-made_of_records.ensures.refused
