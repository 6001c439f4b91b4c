use Rattle.std.proofs.Common.{map, ap, ◌∙◌}
use Rattle.conf_types.specs.Programs.{constraint_at}
use Rattle.conf_types.proofs.CopyLaws.{only_typed}
use Rattle.conf_types.proofs.checker.TypedModel.only.Goals as goal

pub returns-clause-typed : goal.returns-clause-typed
returns-clause-typed c = λ o t.
    let keep = c.args.keep.now in
    let self = c.args.self.now in
    let is = c.of.ensures.items ∙ c.in_ok-constraints.ensures.constraints ∙ ap (λ xs. map (constraint_at xs) keep) c.items.ensures.items in
    only_typed o self.constraints c.of.result self.goals c.of-2.result keep c.requires.exist is (c.of-2.ensures.items ∙ c.new.ensures.items) t
