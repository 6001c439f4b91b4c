use Rattle.std.proofs.Common.{refl}
use Rattle.signed_clause.proofs.UnionLaws.{join_done}
use Rattle.signed_clause.proofs.int_set.joined_ranges.Goals as goal

-- behind the loop and the pending range all values are out
pub returns : goal.returns
returns c =
    join_done c.args.a.now c.args.b.now c.args.a.now c.args.b.now c.loop-i.out.items c.push_pending.new.out.items c.loop-i.pending c.loop-i.i c.loop-i.j
    c.requires.valid c.requires.other refl refl c.if-i-a.false c.if-j-b.false c.loop-i.invariant.joined c.in_ok-push_pending.ensures
