use Rattle.serde_json.specs.View.{view}
use Rattle.view_run.specs.Words.{steps_seen}
use Rattle.view_run.proofs.Endings.{steps_or_not, steps_or_none}
use Rattle.view_run.proofs.command.steps_asked.Goals as goal

pub returns-clause-steps : goal.returns-clause-steps
returns-clause-steps g c =
    steps_or_none (g.D.Desk.files c.args.desk.now) (g.D.Desk.files c.source_json.new.desk)
    (steps_seen c.args.request) (view c.in_ok-former.former) (view c.in_ok-new.new)
    c.steps_between.result c.in_ok-former.ensures.files c.in_ok-former.ensures.value
    c.in_ok-new.ensures.value c.steps_between.ensures.steps

pub returns-clause-refused : goal.returns-clause-refused
returns-clause-refused g c =
    steps_or_not (g.D.Desk.files c.args.desk.now) (g.D.Desk.files c.source_json.new.desk)
    (steps_seen c.args.request) (view c.in_ok-former.former) (view c.in_ok-new.new) _ _
    c.steps_between.result c.in_ok-former.ensures.files c.in_ok-former.ensures.value
    c.in_ok-new.ensures.value c.steps_between.ensures.refused
