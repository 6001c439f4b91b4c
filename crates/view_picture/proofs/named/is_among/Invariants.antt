use Rattle.std.proofs.Common.{◌≡◌, drop, map}
use Rattle.view_picture.specs.Named.{is_among}
use Rattle.view_picture.specs.Views.{paths_seen}
use Rattle.view_picture.proofs.named.is_among.Given as goal

-- what is left decides
abbrev pub invariant-loop-part : goal.invariant-loop-part
invariant-loop-part l =
    is_among (paths_seen (drop l.part-index l.parts)) l.word ≡ is_among (paths_seen l.parts) l.word
