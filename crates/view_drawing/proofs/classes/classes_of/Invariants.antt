use Rattle.std.proofs.Common.{◌≡◌, [], drop, map}
use Rattle.view_drawing.specs.Classes.{with_holdings}
use Rattle.view_picture.specs.PictureViews.{holdings_seen}
use Rattle.view_drawing.proofs.classes.classes_of.Given as goal

-- the classes so far with those of what is left are all
abbrev pub invariant-loop-holding : goal.invariant-loop-holding
invariant-loop-holding l =
    with_holdings (map (λ w. w.now) l.classes.items) (holdings_seen (drop l.holding-index l.holdings))
    ≡ with_holdings [] (holdings_seen l.holdings)
