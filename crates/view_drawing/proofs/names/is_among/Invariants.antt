use Rattle.std.proofs.Common.{◌≡◌, drop, map}
use Rattle.view_drawing.specs.Names.{is_among}
use Rattle.view_drawing.proofs.names.is_among.Given as goal

-- whether one of those that are left is the name decides
abbrev pub invariant-loop-word : goal.invariant-loop-word
invariant-loop-word l =
    is_among (map (λ w. w.now) (drop l.word-index l.failed)) l.name
    ≡ is_among (map (λ w. w.now) l.failed) l.name
