use Rattle.std.proofs.Common.{◌≡◌, drop, map}
use Rattle.view_tables.specs.Cells.{is_among}
use Rattle.view_tables.proofs.pictures.is_among.Given as goal

-- what is left decides
abbrev pub invariant-loop-word : goal.invariant-loop-word
invariant-loop-word l =
    is_among (map (λ w. w.now) (drop l.word-index l.failed)) l.name
    ≡ is_among (map (λ w. w.now) l.failed) l.name
