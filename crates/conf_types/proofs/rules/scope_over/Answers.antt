use Rattle.std.proofs.Common.{◌<◌, length, sym, subst}
use Rattle.std.specs.Prelude.{IfSome}
use Rattle.conf_types.proofs.rules.scope_over.Goals as goal

pub returns-in-Ok-clause-exists : goal.returns-in-Ok-clause-exists
returns-in-Ok-clause-exists c =
    record {
      class = subst (λ x. IfSome x (λ k. k < length c.args.table.now.classes)) (sym c.in-Ok.ensures.class) c.requires.scope.class;
      locals = c.in-Ok.ensures.locals (length c.args.table.now.classes) c.requires.scope.locals (c.in-Some.ensures.exists c.args.table.now c.requires.exists);
    }
