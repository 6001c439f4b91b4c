use Rattle.std.proofs.Common.{List, [], true, length, sym, subst}
use Rattle.conf_types.specs.declared.tree.RQuant as quant
use Rattle.conf_types.specs.Trees.{Tree}
use Rattle.conf_types.specs.TreeOf.{tree_of, optional_tree, trees_of}
use Rattle.conf_eval.specs.Meaning.{truth_of}
use Rattle.conf_eval.proofs.EvalLaws.{quant_is}
use Rattle.form_build.specs.Worlds.{AreKnown, Adds}
use Rattle.expr_forms.specs.Standing.{IsStanding}
use Rattle.quantifier_forms.specs.declared.part.Part.{Part}
use Rattle.quantifier_forms.specs.PartValues.{kept_values, over_values}
use Rattle.quantifier_forms.specs.Quantified.{AreParts}
use Rattle.pairwise_forms.specs.AlikeParts.{AreAlike, AreSizes}
use Rattle.pairwise_forms.specs.Wholes.{AreKept}
use Rattle.ground_expr.specs.Stated.{Says}
use Rattle.ground_expr.specs.StandsWhole.{HasWhole, StandsWhole}
use Rattle.ground_expr.proofs.Steps.{quant_parts, quant_alike, quant_sized}
use Rattle.ground_expr.proofs.Wholes.{says_parts}
use Rattle.ground_expr.proofs.StandingWhole.{stands_parts}
use Rattle.ground_expr.proofs.constraints.require_whole.Goals as goal

pub state_members-requires-clause-parts : goal.state_members-requires-clause-parts
state_members-requires-clause-parts c =
    let scene = c.args.scene.now in
    let q = quant.out-RQuant c.args.quant.now in
    let g = c.own_parts_at.new.maker in
    let st = subst (λ (z : Tree). IsStanding scene.objects.now z scene.this scene.vars.now) (quant_is c.args.quant.now 0) c.requires.standing in
    subst (AreParts g.domains q.kind) (sym c.as_slice.ensures.value) (quant_parts scene.objects.now scene.known.now scene.this scene.vars.now g 0 q.kind (tree_of q.over) (optional_tree q.filter) (trees_of q.body.items) c.in_ok-parts.parts.items st c.in_ok-parts.ensures.parts)

pub state_members-requires-clause-alike : goal.state_members-requires-clause-alike
state_members-requires-clause-alike c k =
    let scene = c.args.scene.now in
    let q = quant.out-RQuant c.args.quant.now in
    let g = c.own_parts_at.new.maker in
    let st = subst (λ (z : Tree). IsStanding scene.objects.now z scene.this scene.vars.now) (quant_is c.args.quant.now 0) c.requires.standing in
    subst (AreAlike g.domains) (sym c.as_slice.ensures.value) (quant_alike scene.objects.now scene.known.now scene.this scene.vars.now g 0 q.kind (tree_of q.over) (optional_tree q.filter) (trees_of q.body.items) c.in_ok-parts.parts.items st c.in_ok-parts.ensures.parts k)

pub state_members-requires-clause-sizes : goal.state_members-requires-clause-sizes
state_members-requires-clause-sizes c e =
    let scene = c.args.scene.now in
    let q = quant.out-RQuant c.args.quant.now in
    let g = c.own_parts_at.new.maker in
    let st = subst (λ (z : Tree). IsStanding scene.objects.now z scene.this scene.vars.now) (quant_is c.args.quant.now 0) c.requires.standing in
    subst (AreSizes g.domains) (sym c.as_slice.ensures.value) (quant_sized scene.objects.now scene.known.now scene.this scene.vars.now g 0 q.kind (tree_of q.over) (optional_tree q.filter) (trees_of q.body.items) c.in_ok-parts.parts.items st c.in_ok-parts.ensures.parts e)

pub returns : goal.returns
returns c =
    let scene = c.args.scene.now in
    let q = quant.out-RQuant c.args.quant.now in
    let mid = c.own_parts_at.new.maker in
    let new = c.state_members.new.maker in
    let says = subst (λ (ps : List Part). Adds [] mid new (λ a. truth_of (over_values q.kind (kept_values ps a)))) c.as_slice.ensures.value c.in_ok-state_members.ensures.says in
    record {
      says = subst (λ (z : Tree). Says scene.objects.now scene.known.now c.args.maker.now new z scene.this scene.vars.now true) (sym (quant_is c.args.quant.now 0))
          (says_parts scene.objects.now scene.known.now scene.this scene.vars.now c.args.maker.now mid new 0 q.kind (tree_of q.over) (optional_tree q.filter) (trees_of q.body.items) c.in_ok-parts.parts.items c.in_ok-parts.ensures.parts c.in_ok-parts.ensures.adds says);
      whole = subst (λ (z : Tree). StandsWhole scene.objects.now new (AreKnown scene.known.now) z scene.this scene.vars.now) (sym (quant_is c.args.quant.now 0))
          (stands_parts scene.objects.now scene.known.now scene.this scene.vars.now mid new 0 q.kind (tree_of q.over) (optional_tree q.filter) (trees_of q.body.items) c.in_ok-parts.parts.items c.in_ok-parts.ensures.parts says.grows
          (subst (λ (ps : List Part). AreKept ps → HasWhole q.kind new (length ps) (λ a. Unit {0}) (λ a. kept_values ps a)) c.as_slice.ensures.value c.in_ok-state_members.ensures.whole));
    }
