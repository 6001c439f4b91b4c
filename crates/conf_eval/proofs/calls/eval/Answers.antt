use Rattle.std.proofs.Common.{◌≡◌, sym, ◌∙◌, subst}
use Rattle.std.proofs.lemmas.Result.{IfOk-weaker}
use Rattle.conf_types.specs.TreeOf.{tree_of}
use Rattle.object_alloc.specs.Configurations.{IsConfiguration}
use Rattle.conf_eval.proofs.CallLaws.{evaluable_there, value_there}
use Rattle.conf_eval.proofs.calls.eval.Goals as goal

pub value_at-requires : goal.value_at-requires
value_at-requires c =
    let o = c.args.objects.now in
    let k = c.count-count.ensures in
    record {
      given = record { sound = k.sound; few_values = k.values; limits = k.limits; config = subst (IsConfiguration o) (sym c.items.ensures.values) c.requires.config };
      expr = evaluable_there o c.args.env.now.this_object (tree_of c.args.e.now) c.args.config.now c.items.result.now c.args.env.now.vars c.items-2.result.now c.items.ensures.values c.items-2.ensures.items c.requires.expr;
    }

pub returns : goal.returns
returns c =
    let o = c.args.objects.now in
    let there = value_there o c.args.env.now.this_object (tree_of c.args.e.now) c.args.config.now c.items.result.now c.args.env.now.vars c.items-2.result.now c.items.ensures.values c.items-2.ensures.items in
    record { value = IfOk-weaker c.value_at.result _ _ (λ v h. h ∙ there) c.value_at.ensures.value; memory = c.value_at.ensures.memory }
