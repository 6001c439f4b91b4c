use Rattle.std.proofs.Common.{take}
use Rattle.conf_session.specs.Keys.{AreKeysOf}
use Rattle.conf_session.proofs.stated.stated_clauses.Given as goal

abbrev pub invariant-loop-con : goal.invariant-loop-con
invariant-loop-con l = AreKeysOf (take l.con-index l.cons) l.stated.keys
