use Rattle.std.proofs.Common.{[], ◌∷◌, ◌++◌, option_map, sym, ap, ◌∙◌}
use mathlib.Core.List.{map-append}
use Rattle.serde_json.specs.View.{view}
use Rattle.view_plan.specs.Views.{change_seen, line_seen, lines_seen}
use Rattle.view_steps.proofs.HaltLaws.{one_halted, fewer_halted}
use Rattle.view_steps.proofs.run.halt.Goals as goal

pub returns-in_ok-push-2-clause-kept : goal.returns-in_ok-push-2-clause-kept
returns-in_ok-push-2-clause-kept c = λ site is.
    one_halted site (option_map (λ v. view v.now) c.args.stop) c.args.run.now
    (record { rooms = c.put_change.new.rooms; made = c.push.new.self; left = c.push-in-Some.new.self })
    c.args.number c.swap_remove-step.result c.second_half.result (change_seen c.in-Some.change)
    is c.requires.there c.swap_remove-step.ensures.value
    (c.in_ok-push-2.ensures.items ∙ ap (λ ms. ms ++ c.second_half.result ∷ []) c.swap_remove-step.ensures.items)
    (ap lines_seen c.in_ok-push.ensures.items ∙ map-append line_seen c.args.run.now.made.items _)
    (sym c.to_stop.ensures ∙ ap (option_map change_seen) c.in-Some.is)
    c.second_half.ensures.line c.second_half.ensures.more c.second_half.ensures.less
    c.in_ok-put_change.ensures

pub returns-in_ok-push-2-clause-fewer : goal.returns-in_ok-push-2-clause-fewer
returns-in_ok-push-2-clause-fewer c =
    fewer_halted (option_map (λ v. view v.now) c.args.stop) c.args.run.now.left.items
    c.push-in-Some.new.self.items c.args.number c.swap_remove-step.result c.second_half.result
    (change_seen c.in-Some.change) c.requires.there.there c.swap_remove-step.ensures.value
    (c.in_ok-push-2.ensures.items ∙ ap (λ ms. ms ++ c.second_half.result ∷ []) c.swap_remove-step.ensures.items)
    (sym c.to_stop.ensures ∙ ap (option_map change_seen) c.in-Some.is)
    c.second_half.ensures.line
