use Rattle.view_steps.proofs.OrderLaws.{made_one, fewer_made}
use Rattle.view_steps.proofs.run.make.Goals as goal

pub returns-clause-kept : goal.returns-clause-kept
returns-clause-kept c = λ site stop is.
    made_one site stop c.args.run.now
    (record { rooms = c.put_change.new.rooms; made = c.push.new.self; left = c.swap_remove-step.new.self })
    c.args.number c.swap_remove-step.result is c.requires.there c.swap_remove-step.ensures.value
    c.swap_remove-step.ensures.items c.in_ok-push.ensures.items c.in_ok-put_change.ensures

pub returns-clause-fewer : goal.returns-clause-fewer
returns-clause-fewer c = λ stop.
    fewer_made stop c.args.run.now.left.items c.swap_remove-step.new.self.items c.args.number
    c.swap_remove-step.result c.requires.there.there c.swap_remove-step.ensures.value
    c.swap_remove-step.ensures.items
