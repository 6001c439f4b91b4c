use Rattle.std.proofs.Common.{rules, ◌≡◌, ◌∙◌, true, false, sym}
use Rattle.object_alloc.specs.declared.object.Object.{Object}
use Rattle.view_breaks.proofs.BreakLaws.{member_evaluable, member_step, other_step}
use Rattle.view_breaks.proofs.breaks.push_member.Goals as goal

pub push_broken-requires-clause-expr : goal.push_broken-requires-clause-expr
push_broken-requires-clause-expr c =
    let member : c.is_of-member.result ≡ true = search rules in
    member_evaluable c.args.case.now.objects.now c.args.case.now.config.now c.args.stated.now.constraint.now.tree c.args.class c.args.object c.requires.object
    (λ (d : Object). sym member ∙ c.is_of-member.ensures.is d) c.requires.stated

pub returns-then-not-member : goal.returns-then-not-member
returns-then-not-member c =
    let none : c.is_of-member.result ≡ false = search rules in
    record {
      found = other_step c.args.case.now.objects.now c.args.case.now.config.now c.args.stated.now.number c.args.stated.now.constraint.now c.args.class c.args.object c.args.found.now.items c.requires.object
          (λ (d : Object). sym none ∙ c.is_of-member.ensures.is d);
    }

pub returns : goal.returns
returns c =
    let member : c.is_of-member.result ≡ true = search rules in
    record {
      found = member_step c.args.case.now.objects.now c.args.case.now.config.now c.args.stated.now.number c.args.stated.now.constraint.now c.args.class c.args.object c.args.found.now.items c.push_broken.new.found.items c.requires.object
          (λ (d : Object). sym member ∙ c.is_of-member.ensures.is d) c.in_ok-push_broken.ensures.found;
    }
