use Rattle.std.proofs.Common.{◌≡◌, ◌++◌, length}
use Rattle.conf_request.specs.Views.{plain}
use Rattle.conf_request.proofs.draft.paths.Given as goal

-- the paths so far, and then the words that are left
abbrev pub invariant-loop-word : goal.invariant-loop-word
invariant-loop-word l = l.items.items ++ plain l.left ≡ plain l.fn.words

abbrev pub decreases-loop-word : goal.decreases-loop-word
decreases-loop-word l = length (plain l.left)
