use Rattle.std.proofs.Common.{◌≡◌, drop, Some, ℕ, Bool}
use Rattle.object_alloc.specs.Cells.{extent}
use Rattle.conf_eval.specs.Finding.{first_failing, holds_for}
use Rattle.conf_eval.specs.Listing.{slots, held}
use Rattle.conf_eval.proofs.broken.wrong_member.Given as goal

-- it holds for those before
abbrev pub invariant-loop-i : goal.invariant-loop-i
invariant-loop-i l =
    let o = l.scene.objects.now in
    let holds : ℕ → Bool = λ n. holds_for o l.scene.values.now l.constraint (Some n) in
    first_failing holds (held (drop l.i (slots o l.scene.values.now l.list))) ≡ first_failing holds (extent o l.class)
