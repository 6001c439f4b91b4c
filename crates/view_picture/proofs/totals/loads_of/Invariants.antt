use Rattle.std.proofs.Common.{◌≡◌, ◌++◌, drop, map}
use Rattle.serde_json.specs.View.{view}
use Rattle.view_leaves.specs.Views.{step_seen}
use Rattle.view_picture.specs.Picture.{load_of}
use Rattle.view_picture.specs.PictureViews.{guest_path, load_seen, size_seen}
use Rattle.view_picture.proofs.totals.loads_of.Given as goal

-- the loads so far and those of what is left are all
abbrev pub invariant-loop-size : goal.invariant-loop-size
invariant-loop-size l =
    let load = load_of (view l.whole) (map step_seen l.holder) (map guest_path l.guests) in
    map load_seen l.loads.items ++ map load (map size_seen (drop l.size-index l.sizes))
    ≡ map load (map size_seen l.sizes)
