use Rattle.std.proofs.Common.{◌≡◌, ◌++◌, false, drop, map}
use Rattle.view_tables.specs.Cells.{words_cell}
use Rattle.view_tables.proofs.cells.words_cell.Given as goal

-- the words so far and those that are left are all
abbrev pub invariant-loop-word : goal.invariant-loop-word
invariant-loop-word l =
    l.cell.items ++ words_cell l.later (map (λ w. w.now) (drop l.word-index l.words))
    ≡ words_cell false (map (λ w. w.now) l.words)
