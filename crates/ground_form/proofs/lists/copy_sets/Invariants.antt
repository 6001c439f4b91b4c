use Rattle.std.proofs.Common.{◌≡◌, All, take}
use Rattle.signed_clause.specs.Ranges.{IsValid}
use Rattle.ground_form.proofs.lists.copy_sets.Given as goal

abbrev pub invariant-loop-set : goal.invariant-loop-set
invariant-loop-set l = record {
  list : l.out.items ≡ take l.set-index l.sets;
  valid : All (λ d. IsValid d) l.out.items;
}
