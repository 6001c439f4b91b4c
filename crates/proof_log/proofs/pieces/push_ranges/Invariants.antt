use Rattle.std.proofs.Common.{◌≡◌, ◌++◌, length, map, true}
use Rattle.proof_log.specs.Parts.{heads}
use Rattle.std.specs.List.{AllByRecursion}
use Rattle.proof_log.specs.Spelling.{behind, range_text, IsRange}
use Rattle.proof_log.proofs.pieces.push_ranges.Given as goal

abbrev pub invariant-loop-text : goal.invariant-loop-text
invariant-loop-text l = record {
  heads : heads 44 l.left ≡ true;
  right : AllByRecursion IsRange l.out.items;
  text : behind 44 (map range_text l.out.items) ++ l.left ≡ behind 44 (map range_text l.initial.out.items) ++ l.texts;
}

abbrev pub decreases-loop-text : goal.decreases-loop-text
decreases-loop-text l = length l.left
