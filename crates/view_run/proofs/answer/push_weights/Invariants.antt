use Rattle.std.proofs.Common.{◌≡◌, ◌++◌, drop, map}
use Rattle.serde_json.specs.View.{view}
use Rattle.view_plan.specs.Views.{lines_seen}
use Rattle.view_run.specs.Answers.{weights_text}
use Rattle.view_run.proofs.answer.push_weights.Given as goal

-- what is written and what is left to write are all
abbrev pub invariant-loop-name : goal.invariant-loop-name
invariant-loop-name l =
    l.text.items ++ weights_text (view l.new) (lines_seen l.lines) (map (λ w. w.now) (drop l.name-index l.names))
    ≡ l.initial.text.items ++ weights_text (view l.new) (lines_seen l.lines) (map (λ w. w.now) l.names)
