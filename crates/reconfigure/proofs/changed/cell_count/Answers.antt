use Rattle.std.proofs.Common.{ℕ, List, length, ap, ◌∙◌}
use Rattle.reconfigure.proofs.LeafLaws.{own_count}
use Rattle.reconfigure.proofs.changed.cell_count.Goals as goal

pub returns : goal.returns
returns c =
    ap (λ (xs : List ℕ). length xs) c.own_cells.ensures.cells
    ∙ own_count c.args.objects.now c.count-count.ensures.sound c.args.leaf c.requires.leaf
