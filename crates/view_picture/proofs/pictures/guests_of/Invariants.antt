use Rattle.std.proofs.Common.{◌≡◌, ◌++◌, drop, map}
use Rattle.serde_json.specs.View.{view}
use Rattle.view_picture.specs.Mentioned.{mention_seen, mention_paths}
use Rattle.view_picture.specs.Picture.{guest_of}
use Rattle.view_picture.specs.PictureViews.{guest_seen, guest_path}
use Rattle.view_picture.proofs.pictures.guests_of.Given as goal

-- the guests so far and those of what is left are all
abbrev pub invariant-loop-mention : goal.invariant-loop-mention
invariant-loop-mention l =
    let left = mention_paths (map mention_seen (drop l.mention-index l.mentions)) in
    let all = mention_paths (map mention_seen l.mentions) in
    (map guest_seen l.guests.items ++ map (guest_of (view l.whole)) left
    ≡ map (guest_of (view l.whole)) all)
    × (map guest_path l.guests.items ++ left ≡ all)
