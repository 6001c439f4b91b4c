use Rattle.std.proofs.Common.{◌≡◌, map, ap, ◌∙◌}
use Rattle.serde_json.specs.View.{view}
use Rattle.view_leaves.specs.Views.{leaves_seen}
use Rattle.view_picture.specs.Held.{carried_at}
use Rattle.view_picture.specs.Picture.{carried}
use Rattle.view_picture.specs.PictureViews.{size_seen}
use Rattle.view_picture.specs.Views.{paths_seen}
use Rattle.view_picture.proofs.HeldLaws.{all_carried}
use Rattle.view_picture.proofs.scales.scales_of.Goals as goal

pub returns : goal.returns
returns c =
    let d = view c.args.whole.now in
    let sizes = map size_seen c.args.sizes.now in
    let ls = leaves_seen c.args.leaves.now in
    let es = c.in_ok-mentions.mentions.entries in
    let word = c.args.attribute in
    c.in_ok-made.ensures
    ∙ ap (λ ps. map (carried_at d sizes es) (paths_seen ps)) c.deref.ensures.value
    ∙ all_carried d word.now sizes ls es (λ w. c.in_ok-mentions.ensures (record word { now = w }))
    (paths_seen c.in_ok-parts.field-0.items)
    ∙ ap (map (carried d word.now sizes ls)) c.in_ok-parts.ensures.parts
