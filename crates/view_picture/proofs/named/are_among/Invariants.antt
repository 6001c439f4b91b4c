use Rattle.std.proofs.Common.{◌≡◌, drop, map}
use Rattle.std.specs.List.{list_all}
use Rattle.view_picture.specs.Named.{is_among}
use Rattle.view_picture.specs.Views.{paths_seen}
use Rattle.view_picture.proofs.named.are_among.Given as goal

-- what is left decides
abbrev pub invariant-loop-word : goal.invariant-loop-word
invariant-loop-word l =
    let known = is_among (paths_seen l.parts) in
    list_all known (map (λ w. w.now) (drop l.word-index l.words))
    ≡ list_all known (map (λ w. w.now) l.words)
