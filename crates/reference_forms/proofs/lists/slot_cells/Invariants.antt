use Rattle.std.proofs.Common.{◌≡◌, ◌++◌, drop}
use Rattle.reference_forms.specs.Lists.{slot_cells}
use Rattle.reference_forms.proofs.lists.slot_cells.Given as goal

-- with those of what is left they are all
abbrev pub invariant-loop-p : goal.invariant-loop-p
invariant-loop-p l = l.cells.items ++ slot_cells l.objects l.k l.i (drop l.p-index l.pairs) ≡ slot_cells l.objects l.k l.i l.pairs
