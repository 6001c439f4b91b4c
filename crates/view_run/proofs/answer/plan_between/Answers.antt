use Rattle.std.proofs.Common.{rules, map, string_bytes}
use Rattle.serde_json.specs.View.{view}
use Rattle.view_plan.specs.Views.{lines_seen}
use Rattle.view_run.proofs.Plans.{is_plan_text}
use Rattle.view_run.proofs.answer.plan_between.Goals as goal

pub returns : goal.returns
returns c =
    is_plan_text (view c.args.old.now) (view c.args.new.now) (map string_bytes c.args.options.now)
    (map (λ w. w.now) c.in_ok-names.names.items) (lines_seen c.in_ok-all.all.items)
    (lines_seen c.in_ok-lines.lines.items) _ _
    (search rules) c.in_ok-names.ensures (search rules) (search rules) (search rules)
