use Rattle.std.proofs.Common.{◌≡◌, ◌<◌, ◌++◌, ℕ, List, Bor, drop}
use Rattle.std.specs.List.{AllByRecursion}
use Rattle.view_leaves.specs.Paths.{Path}
use Rattle.view_leaves.specs.Views.{leaves_seen}
use Rattle.view_picture.specs.Mentioned.{mentioned}
use Rattle.view_picture.specs.Mentions.{numbered}
use Rattle.view_picture.proofs.MentionLaws.{AreBelow}
use Rattle.view_picture.proofs.mentions.mentions_of.Given as goal

-- what is noted, which is of leaves before this one, and what is left to note are all
abbrev pub invariant-loop-number : goal.invariant-loop-number
invariant-loop-number l =
    (w : Bor (List ℕ))
    → (mentioned l.mentions.entries w
    ++ numbered l.attribute w.now l.number (leaves_seen (drop l.number l.leaves))
    ≡ numbered l.attribute w.now 0 (leaves_seen l.leaves))
    × AreBelow l.number (mentioned l.mentions.entries w)
