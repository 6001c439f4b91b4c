use Rattle.std.proofs.Common.{[], ap, sym, ◌∙◌}
use Rattle.conf_types.specs.TreeOf.{tree_of, node_tree, quant_tree}
use Rattle.conf_eval.proofs.EvalLaws.{quant_moved}
use Rattle.expr_forms.specs.Standing.{bare_setting}
use Rattle.form_build.proofs.Growth.{adds_nothing}
use Rattle.ground_expr.proofs.Steps.{stand_at}
use Rattle.ground_model.specs.declared.row_form.Summands.{Summands}
use Rattle.ground_model.specs.Adding.{AddsUp}
use Rattle.ground_model.proofs.SumRows.{some_weaker, adds_up_moved}
use Rattle.ground_model.proofs.row_form.+parts_of_sum.Goals as goal

pub summands_of-requires-clause-standing : goal.summands_of-requires-clause-standing
summands_of-requires-clause-standing t c =
    let scene = c.args.scene.now in
    let o = scene.objects.now in
    let at = c.args.e.now.at in
    let q = c.deref-in-Quant.result.now in
    let is = ap (λ n. node_tree n at) c.in-Quant.is ∙ ap (λ q. quant_tree q at) (sym c.deref-in-Quant.ensures) in
    quant_moved o [] (bare_setting o scene.this scene.vars.now) q at 0 (stand_at o scene.known.now scene.this scene.vars.now (tree_of c.args.e.now) (quant_tree q at) is c.requires.standing)

pub returns-in_ok-found-in-Quant : goal.returns-in_ok-found-in-Quant
returns-in_ok-found-in-Quant t c =
    let scene = c.args.scene.now in
    let o = scene.objects.now in
    let at = c.args.e.now.at in
    let q = c.deref-in-Quant.result.now in
    let g = c.summands_of.new.maker in
    let is = ap (λ n. node_tree n at) c.in-Quant.is ∙ ap (λ q. quant_tree q at) (sym c.deref-in-Quant.ensures) in
    record {
      sum =
          some_weaker (λ (x : Summands). AddsUp o g scene.known.now (quant_tree q 0) scene.this scene.vars.now x.kind x.parts.items) (λ (x : Summands). AddsUp o g scene.known.now (tree_of c.args.e.now) scene.this scene.vars.now x.kind x.parts.items) c.in_ok-found-in-Quant.found
          (λ x h. adds_up_moved o scene.known.now scene.this scene.vars.now g (tree_of c.args.e.now) q at 0 x.kind x.parts.items is h) c.in_ok-found-in-Quant.ensures.sum;
      adds = c.in_ok-found-in-Quant.ensures.adds;
    }

pub returns-in_default : goal.returns-in_default
returns-in_default t c = record { sum = tt; adds = adds_nothing [] c.args.maker.now }
