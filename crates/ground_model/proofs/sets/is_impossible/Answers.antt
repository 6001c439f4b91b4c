use Rattle.ground_model.proofs.SetSums.{never_full}
use Rattle.ground_model.proofs.sets.is_impossible.Goals as goal

pub returns-then-size-gt0 : goal.returns-then-size-gt0
returns-then-size-gt0 c e values =
    let some = c.in-Some.ensures.some in
    never_full c.args.objects.now values c.args.leaf some.0 c.in-Some.size some.1 (c.has_no_cells.ensures e) c.if-size-gt0.true
