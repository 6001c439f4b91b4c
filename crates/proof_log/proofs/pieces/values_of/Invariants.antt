use Rattle.std.proofs.Common.{◌≡◌, ◌++◌, length, map, true}
use Rattle.std.specs.List.{AllByRecursion}
use Rattle.std.specs.Fmt.{signed_decimal}
use Rattle.proof_log.specs.Spelling.{behind, IsSigned}
use Rattle.proof_log.specs.Parts.{heads}
use Rattle.proof_log.proofs.pieces.values_of.Given as goal

abbrev pub invariant-loop-text : goal.invariant-loop-text
invariant-loop-text l = record {
  heads : heads 32 l.left ≡ true;
  right : AllByRecursion IsSigned l.out.items;
  text : behind 32 (map signed_decimal l.out.items) ++ l.left ≡ l.texts;
}

abbrev pub decreases-loop-text : goal.decreases-loop-text
decreases-loop-text l = length l.left
