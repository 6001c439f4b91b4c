use Rattle.std.proofs.Common.{◌≡◌, ◌<◌, true, length, map}
use Rattle.std.specs.Prelude.{slice_index_or}
use Rattle.ground_form.specs.declared.kind.Kind.{Kind}
use Rattle.rule_law.specs.Cover.{covers, rank}
use Rattle.rule_law.proofs.kit.first_members.Given as goal

abbrev pub invariant-loop-n : goal.invariant-loop-n
invariant-loop-n g l = record {
  size : length l.members ≡ 11;
  right : (k : Kind) → rank k < l.n
      → covers (map (λ p. (goal.Propagator-dyn g (p.vtable, p.value)).handled p.value) l.list) k ≡ true
      → (d : _) → let p = slice_index_or l.list (slice_index_or l.members (rank k) 0) d in
      (goal.Propagator-dyn g (p.vtable, p.value)).handled p.value k ≡ true;
}
