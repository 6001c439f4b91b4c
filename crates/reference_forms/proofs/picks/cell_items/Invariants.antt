use Rattle.std.proofs.Common.{◌≡◌, ◌++◌, drop}
use Rattle.reference_forms.specs.Picks.{cell_items}
use Rattle.reference_forms.proofs.picks.cell_items.Given as goal

-- with those of what is left they are all
abbrev pub invariant-loop-p : goal.invariant-loop-p
invariant-loop-p l = l.items.items ++ cell_items l.objects l.k (drop l.p-index l.pairs) ≡ cell_items l.objects l.k l.pairs
