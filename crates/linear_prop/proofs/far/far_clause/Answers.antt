use Rattle.std.proofs.Common.{◌≤ℤ◌, ◌^◌, pos, arith}
use Rattle.std.proofs.lemmas.Int.{ints}
use Rattle.signed_clause.specs.Clauses.{box_of}
use Rattle.box_view.proofs.EndLaws.{are_sets, ends_in_order}
use Rattle.linear_prop.proofs.FarValues.{low_far}
use Rattle.linear_prop.proofs.far.far_clause.Goals as goal

pub below_clause-requires-clause-far : goal.below_clause-requires-clause-far
below_clause-requires-clause-far c =
    let near : c.high_end.result.value ≤ℤ pos (2 ^ 60) = grind (arith, ints) in
    low_far c.high_end.result.value c.set_at.result.now (box_of c.args.subject.boxes.now c.args.out) c.requires.far c.high_end.ensures.value c.set_at.ensures
    (ends_in_order (box_of c.args.subject.boxes.now c.args.out) (are_sets c.args.subject.boxes.now c.requires.boxes.sets c.args.out)) near
