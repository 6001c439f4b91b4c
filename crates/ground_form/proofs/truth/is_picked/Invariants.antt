use Rattle.std.proofs.Common.{◌≡◌, drop}
use Rattle.ground_form.specs.Meaning.{value_of, picks}
use Rattle.ground_form.proofs.truth.is_picked.Given as goal

abbrev pub invariant-loop-t : goal.invariant-loop-t
invariant-loop-t l = picks (value_of l.values l.out) (value_of l.values l.index) (drop l.t-index l.items) l.values ≡ picks (value_of l.values l.out) (value_of l.values l.index) l.items l.values
