use Rattle.std.proofs.Common.{◌≡◌, ◌++◌, drop, map}
use Rattle.serde_json.specs.View.{view}
use Rattle.view_picture.specs.Held.{carried_at}
use Rattle.view_picture.specs.PictureViews.{size_seen, scale_seen}
use Rattle.view_picture.specs.Views.{paths_seen}
use Rattle.view_picture.proofs.scales.scales_among.Given as goal

-- what is listed and what the parts that are left carry are all
abbrev pub invariant-loop-part : goal.invariant-loop-part
invariant-loop-part l =
    let carried = carried_at (view l.scene.whole.now) (map size_seen l.scene.sizes.now) l.scene.mentions.entries in
    map scale_seen l.list.items ++ map carried (paths_seen (drop l.part-index l.parts))
    ≡ map carried (paths_seen l.parts)
