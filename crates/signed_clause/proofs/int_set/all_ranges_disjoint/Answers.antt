use Rattle.std.proofs.Common.{◌≡◌, [], sym, ap, inr}
use Rattle.signed_clause.specs.Ranges.{is_nil}
use Rattle.signed_clause.specs.SetAlgebra.{meet}
use Rattle.signed_clause.proofs.RangeSteps.{meet-done}
use Rattle.signed_clause.proofs.int_set.all_ranges_disjoint.Goals as goal

pub returns-else-j-b : goal.returns-else-j-b
returns-else-j-b c =
    let done = meet-done c.args.a.now c.args.b.now c.loop-i.i c.loop-i.j (inr c.if-j-b.false) in
    let none : meet c.args.a.now c.args.b.now ≡ [] = cc in
    sym (ap is_nil none)
