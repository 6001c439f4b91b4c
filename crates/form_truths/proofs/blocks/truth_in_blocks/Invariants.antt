use Rattle.std.proofs.Common.{◌≡◌, List, ℤ, length}
use Rattle.form_build.specs.Worlds.{IsWorld, Defines}
use Rattle.form_truths.specs.Disjunctions.{disjunction_at, IsWithin}
use Rattle.form_truths.proofs.blocks.truth_in_blocks.Given as goal

-- the blocks stand for the disjunction
abbrev pub invariant-loop-m : goal.invariant-loop-m
invariant-loop-m l = record {
  value : (a : List ℤ) → IsWorld l.m a → disjunction_at l.blocks a ≡ disjunction_at l.d a;
  exist : IsWithin (length l.m.domains) l.blocks.1;
  adds : Defines l.fn.m l.m;
}

abbrev pub decreases-loop-m : goal.decreases-loop-m
decreases-loop-m l = length l.blocks.1
