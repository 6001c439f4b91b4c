use Rattle.std.proofs.Common.{[], List, ℤ, not, length}
use Rattle.std.specs.List.{All}
use Rattle.form_build.specs.Worlds.{Adds}
use Rattle.pairwise_forms.specs.Clashing.{IsKeyed}
use Rattle.pairwise_forms.proofs.ApartLaws.{clash_upto}
use Rattle.pairwise_forms.proofs.apart.state_no_clash.Given as goal

-- none of the members so far clashes with one behind it
abbrev pub invariant-loop-i : goal.invariant-loop-i
invariant-loop-i l = record {
  says : Adds [] l.fn.maker l.maker (λ (a : List ℤ). not (clash_upto l.i l.members a));
  members : All (IsKeyed (length l.maker.domains)) l.members;
}
