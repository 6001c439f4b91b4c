use Rattle.std.proofs.Common.{◌≤◌, ◌⊎◌, inl, inr, length}
use Rattle.std.proofs.lemmas.List.{append-nil}
use Rattle.signed_clause.proofs.RangeSteps.{meet-done}
use Rattle.signed_clause.proofs.int_set.common_ranges.Goals as goal
use Rattle.signed_clause.proofs.int_set.common_ranges.Goals.{then-loop-i-test+else-j-b, else-loop-i-test}

-- at the loop's end all common values are out
pub returns : goal.returns
returns c =
    let over : (length c.args.a.now ≤ c.loop-i.i) ⊎ (length c.args.b.now ≤ c.loop-i.j) =
    elim c.loop-i-test.branch [ then-loop-i-test+else-j-b w ↦ inr w.if-j-b.false | else-loop-i-test w ↦ inl w.loop-i-test.false ] in
    let none = meet-done c.args.a.now c.args.b.now c.loop-i.i c.loop-i.j over in
    cc (append-nil c.loop-i.out.items)
