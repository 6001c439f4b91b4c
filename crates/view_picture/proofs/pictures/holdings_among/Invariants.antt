use Rattle.std.proofs.Common.{◌≡◌, ◌++◌, drop, map}
use Rattle.std.specs.List.{flat_map}
use Rattle.serde_json.specs.View.{view}
use Rattle.view_picture.specs.Held.{held_at}
use Rattle.view_picture.specs.PictureViews.{size_seen, holdings_seen}
use Rattle.view_picture.specs.Views.{paths_seen}
use Rattle.view_picture.proofs.pictures.holdings_among.Given as goal

-- the holders so far and those among the parts that are left are all
abbrev pub invariant-loop-part : goal.invariant-loop-part
invariant-loop-part l =
    let held = held_at (view l.scene.whole.now) (map size_seen l.scene.sizes.now) l.scene.mentions.entries in
    holdings_seen l.list.items ++ flat_map held (paths_seen (drop l.part-index l.parts))
    ≡ flat_map held (paths_seen l.parts)
