use Rattle.std.proofs.Common.{◌≡◌, drop}
use Rattle.kept_clauses.specs.Kept.{flagged}
use Rattle.conf_session.specs.Keeping.{with_kept}
use Rattle.conf_session.specs.Keys.{AreKeysOf}
use Rattle.conf_session.proofs.keeping.add_flagged.Given as goal

-- with the clauses that are left the constraints become what they are to be
abbrev pub invariant-loop-k : goal.invariant-loop-k
invariant-loop-k l = record {
  keys : AreKeysOf l.cons.items l.stated.keys;
  cons : with_kept l.left l.cons.items (flagged (drop l.k l.flags) (drop l.k l.lines)) ≡ with_kept l.fn.room l.fn.cons.items (flagged l.flags l.lines);
}
