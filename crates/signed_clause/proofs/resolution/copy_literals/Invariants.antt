use Rattle.std.proofs.Common.{◌≡◌, take, length}
use Rattle.std.specs.Vec.{vec_capacity, vec_len}
use Rattle.signed_clause.proofs.resolution.copy_literals.Given as goal

abbrev pub invariant-loop-l : goal.invariant-loop-l
invariant-loop-l l = record {
  list : l.out.items ≡ take l.l-index l.lits;
  len : vec_len l.out ≡ l.l-index;
  room : vec_capacity l.out ≡ length l.lits;
}
