use Rattle.std.proofs.Common.{◌++◌, ◌∷◌, [], ap, ◌∙◌}
use Rattle.object_alloc.proofs.GroupLaws.{group_added}
use Rattle.object_alloc.proofs.groups.add.Goals as goal

pub returns : goal.returns
returns c =
    record {
      group = group_added c.args.place c.args.n c.args.groups.now.entries c.take_out-numbers.new.groups.entries c.insert.new.self.entries c.push.new.self c.in_ok-insert.ensures.updates.0 (c.in_ok-push.ensures.items ∙ ap (λ xs. xs ++ c.args.n ∷ []) c.take_out-numbers.ensures.taken) c.take_out-numbers.ensures.left;
    }
