use Rattle.std.proofs.Common.{rules, ◌≡◌, arith, false, true, ap, ◌∙◌}
use Rattle.view_leaves.specs.Views.{step_seen}
use Rattle.view_picture.proofs.MentionLaws.{is_key, no_guest, top_guest, deeper_guest}
use Rattle.view_picture.proofs.mentions.guest_by.Goals as goal

pub returns-then-ne : goal.returns-then-ne
returns-then-ne c =
    let arm = c.in-Some-Key-default in
    let a = c.args.attribute.now in
    let other : is_key a (step_seen arm.field-0-0.now) ≡ false = ap (λ s. is_key a (step_seen s)) arm.field-0-0-is ∙ search rules in
    no_guest c.args.path.now arm.owner.now arm.field-0-0.now a arm.ensures.cases.0 other

pub returns-else-is_empty : goal.returns-else-is_empty
returns-else-is_empty c =
    let arm = c.in-Some-Key-default in
    let a = c.args.attribute.now in
    let same : is_key a (step_seen arm.field-0-0.now) ≡ true = ap (λ s. is_key a (step_seen s)) arm.field-0-0-is ∙ search rules in
    deeper_guest c.args.path.now arm.owner.now arm.field-0-0.now a arm.ensures.cases.0 same
    (search rules)

pub returns-then-is_empty : goal.returns-then-is_empty
returns-then-is_empty c =
    let arm = c.in-Some-Key-default in
    let a = c.args.attribute.now in
    let same : is_key a (step_seen arm.field-0-0.now) ≡ true = ap (λ s. is_key a (step_seen s)) arm.field-0-0-is ∙ search rules in
    top_guest c.args.path.now arm.owner.now arm.field-0-0.now a arm.ensures.cases.0 same
    (search rules)

pub returns-in-Some-Index-default : goal.returns-in-Some-Index-default
returns-in-Some-Index-default c =
    let arm = c.in-Some-Index-default in
    let a = c.args.attribute.now in
    no_guest c.args.path.now arm.field-0-1.now arm.field-0-0.now a arm.ensures.cases.0
    (ap (λ s. is_key a (step_seen s)) arm.field-0-0-is)
