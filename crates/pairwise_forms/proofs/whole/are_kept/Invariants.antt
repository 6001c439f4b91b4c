use Rattle.std.proofs.Common.{◌≡◌, true, take}
use Rattle.std.specs.List.{All}
use Rattle.form_build.specs.declared.form.Truth.TheVariants as truth
use Rattle.pairwise_forms.proofs.whole.are_kept.Given as goal

abbrev pub invariant-loop-e : goal.invariant-loop-e
invariant-loop-e l = All (λ e. e.kept ≡ truth.Fixed true) (take l.e-index l.members)
