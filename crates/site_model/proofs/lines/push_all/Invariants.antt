use Rattle.std.proofs.Common.{◌≡◌, ◌++◌, drop, map}
use Rattle.site_model.specs.Lines.{joined}
use Rattle.site_model.proofs.lines.push_all.Given as goal

-- what is written and what is left to write are all
abbrev pub invariant-loop-piece : goal.invariant-loop-piece
invariant-loop-piece l =
    l.text.items ++ joined (map (λ p. p.now) (drop l.piece-index l.pieces))
    ≡ l.initial.text.items ++ joined (map (λ p. p.now) l.pieces)
