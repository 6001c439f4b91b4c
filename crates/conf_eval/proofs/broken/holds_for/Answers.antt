use Rattle.std.proofs.Common.{sym, ap, subst}
use Rattle.conf_types.specs.Resolved.{ResolvedConstraint}
use Rattle.conf_types.specs.Trees.{Tree}
use Rattle.conf_eval.specs.Fitting.{IsEvaluable}
use Rattle.conf_eval.specs.Satisfying.{setting}
use Rattle.conf_eval.proofs.broken.holds_for.Goals as goal

pub value_at-requires-clause-expr : goal.value_at-requires-clause-expr
value_at-requires-clause-expr c =
    let o = c.args.scene.now.objects.now in
    let vs = c.args.scene.now.values.now in
    subst (λ (t : Tree). IsEvaluable o vs t (setting o vs c.args.this)) (sym (ap (λ (k : ResolvedConstraint). k.tree) c.constraint.view_is)) c.requires.expr
