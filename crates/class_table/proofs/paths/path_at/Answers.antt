use Rattle.std.proofs.Common.{◌≡◌, Some, sym, ◌∙◌, subst}
use Rattle.class_table.specs.Paths.{IsOn, path_of}
use Rattle.class_table.proofs.paths.path_at.Goals as goal

pub returns : goal.returns
returns c =
    let found : path_of c.args.paths.now.on.items c.args.c ≡ Some c.in-Some.number = sym c.number_at.ensures.number ∙ c.in-Some.is in
    let on = c.requires.paths.each c.args.c c.in-Some.number c.requires.class found in
    record { on = subst (λ x. IsOn c.args.classes.now c.args.order.now x c.args.c) (sym c.index-path.ensures) (on.1 c.index-path.result.now) }
