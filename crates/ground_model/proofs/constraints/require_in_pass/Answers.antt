use Rattle.std.proofs.Common.{true≢false, ap, sym, ◌∙◌}
use Rattle.conf_types.specs.Resolved.{ResolvedConstraint}
use Rattle.form_truths.specs.Tests.{wanted}
use Rattle.ground_expr.specs.Asked.{holds_of}
use Rattle.ground_model.specs.Fixing.{fixes, holds_in}
use Rattle.ground_model.proofs.Steps.{requires_nothing, requires_same, passed_over, of_pass}
use Rattle.ground_model.proofs.constraints.require_in_pass.Goals as goal

pub returns-then-not-is_of_pass : goal.returns-then-not-is_of_pass
returns-then-not-is_of_pass c =
    let e = c.is_of_pass.ensures ∙ ap (λ (k : ResolvedConstraint). wanted c.args.fixing (fixes k.tree)) c.constraint.view_is in
    record {
      says = requires_nothing c.args.known.now c.args.maker.now (λ values. holds_in c.args.fixing c.args.objects.now values c.args.constraint.now)
          (λ values. passed_over c.args.objects.now values c.args.constraint.now c.args.fixing c.is_of_pass.result e c.if-not-is_of_pass.true);
      whole = λ w. absurd (true≢false (sym w ∙ sym e ∙ c.if-not-is_of_pass.true));
    }

pub returns : goal.returns
returns c =
    let e = c.is_of_pass.ensures ∙ ap (λ (k : ResolvedConstraint). wanted c.args.fixing (fixes k.tree)) c.constraint.view_is in
    record {
      says = requires_same c.args.known.now c.args.maker.now c.require_constraint.new.maker (λ values. holds_of c.args.objects.now values c.args.constraint.now) (λ values. holds_in c.args.fixing c.args.objects.now values c.args.constraint.now)
          (λ values. of_pass c.args.objects.now values c.args.constraint.now c.args.fixing c.is_of_pass.result e c.if-not-is_of_pass.false) c.in_ok-require_constraint.ensures.says;
      whole = λ w. c.in_ok-require_constraint.ensures.whole;
    }
