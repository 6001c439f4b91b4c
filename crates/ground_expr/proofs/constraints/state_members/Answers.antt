use Rattle.std.proofs.Common.{[], length, OnOk, subst, sym}
use Rattle.std.proofs.lemmas.Result.{on_ok_weaker}
use Rattle.conf_eval.specs.Meaning.{truth_of}
use Rattle.conf_syntax.specs.declared.tree.QuantKind.{QuantKind}
use Rattle.form_build.specs.Worlds.{Adds}
use Rattle.quantifier_forms.specs.PartValues.{kept_values, over_values}
use Rattle.pairwise_forms.specs.Wholes.{AreKept}
use Rattle.ground_expr.specs.StandsWhole.{HasWhole}
use Rattle.ground_expr.proofs.constraints.state_members.Goals as goal

-- a packing states what its kind says
pub returns-else-parts-gt-MOST_PACKED-clause-says : goal.returns-else-parts-gt-MOST_PACKED-clause-says
returns-else-parts-gt-MOST_PACKED-clause-says c =
    subst (λ (k : QuantKind). OnOk c.state_pack.result (Adds [] c.args.maker.now c.state_pack.new.maker (λ a. truth_of (over_values k (kept_values c.args.parts.now a)))))
    (sym c.in-Pack.is) c.state_pack.ensures.says

pub returns-else-parts-gt-MOST_PACKED-clause-whole : goal.returns-else-parts-gt-MOST_PACKED-clause-whole
returns-else-parts-gt-MOST_PACKED-clause-whole c =
    let ps = c.args.parts.now in
    let new = c.state_pack.new.maker in
    on_ok_weaker c.state_pack.result (λ h. subst (λ (k : QuantKind). AreKept ps → HasWhole k new (length ps) (λ a. Unit {0}) (λ a. kept_values ps a)) (sym c.in-Pack.is) (λ kept two few. h kept)) c.state_pack.ensures.whole
