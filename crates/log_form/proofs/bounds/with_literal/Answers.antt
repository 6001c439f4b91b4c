use Rattle.std.proofs.Common.{◌≡◌, true, false}
use Rattle.log_form.proofs.BoundSteps.{with_is_clause}
use Rattle.log_form.proofs.bounds.with_literal.Goals as goal

pub unreachable-requires : goal.unreachable-requires
unreachable-requires c =
    let form = with_is_clause c.args.x c.args.set c.args.c.now c.literals.result.now c.in_ok-literals.literals.items c.has_no_value.ensures.valid c.literals.ensures.form c.literals.ensures.items c.in_ok-literals.ensures in
    let wrong : false ≡ true = c.in-Err.ensures.variant.1 form in
    absurd cc
