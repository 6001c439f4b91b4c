use Rattle.std.proofs.Common.{length, map, ap, arith, ◌∙◌}
use Rattle.model_limits.specs.Limits.{model_bytes}
use Rattle.class_table.proofs.Sizes.{small}
use Rattle.conf_types.specs.Programs.{constraints, resolved_constraint}
use Rattle.conf_types.proofs.FewConstraints.{few_resolved}
use Rattle.conf_types.proofs.checker.check.Goals as goal

pub check_items-requires-clause-few : goal.check_items-requires-clause-few
check_items-requires-clause-few c =
    let few = (small c.args.program.now.items c.requires.tokens).items_few in
    let same = ap length c.items.ensures.items in
    omega (arith, few, same)

pub returns-in-Ok-clause-few : goal.returns-in-Ok-clause-few
returns-in-Ok-clause-few c =
    let o = c.args.table.now in
    let is = c.of.ensures.items ∙ c.in-Ok.ensures.constraints ∙ ap (λ xs. map (resolved_constraint o) (constraints xs)) c.items.ensures.items in
    few_resolved o c.args.program.now model_bytes c.of.result c.requires.tokens is
