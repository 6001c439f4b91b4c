use Rattle.std.proofs.Common.{arith}
use Rattle.conf_session.proofs.KeptLaws.{none_behind}
use Rattle.conf_session.proofs.keeping.add_flagged.Goals as goal

pub returns : goal.returns
returns c =
    none_behind c.loop-k.left c.loop-k.cons.items c.args.flags.now c.args.lines.now c.loop-k.k _ (let no = c.loop-k-test.false in omega (arith, no)) c.loop-k.invariant.cons
