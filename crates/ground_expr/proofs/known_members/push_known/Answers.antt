use Rattle.ground_expr.proofs.MemberLaws.{kept_pushed, member_pushed}
use Rattle.ground_expr.proofs.known_members.push_known.Goals as goal

pub returns-clause-value : goal.returns-clause-value
returns-clause-value c a kn =
    kept_pushed c.args.m.now c.in_ok-is.is' c.args.kept.now.items c.push.new.self.items a c.in_ok-push.ensures.items (c.in_ok-is.ensures.value a kn)

pub returns-clause-each : goal.returns-clause-each
returns-clause-each c o boxes d here all =
    member_pushed o boxes d c.args.m.now c.in_ok-is.is' c.args.kept.now.items c.push.new.self.items c.in_ok-push.ensures.items (λ h. c.in_ok-is.ensures.variable _ h) here all
