use Rattle.std.proofs.Common.{◌≡◌, ◌++◌, drop, map}
use Rattle.std.specs.List.{flat_map}
use Rattle.view_drawing.specs.Sheet.{holding_text}
use Rattle.view_picture.specs.PictureViews.{holdings_seen}
use Rattle.view_drawing.proofs.sheet.push_holdings.Given as goal

-- what is written and what is left to write are all
abbrev pub invariant-loop-holding : goal.invariant-loop-holding
invariant-loop-holding l =
    let shown = holding_text (map (λ w. w.now) l.failed) in
    l.text.items ++ flat_map shown (holdings_seen (drop l.holding-index l.holdings))
    ≡ l.initial.text.items ++ flat_map shown (holdings_seen l.holdings)
