use Rattle.std.proofs.Common.{rules, arith, map, ap, ◌∙◌}
use Rattle.serde_json.specs.View.{view}
use Rattle.view_leaves.specs.Views.{step_seen}
use Rattle.view_picture.specs.Mentioned.{mention_seen, mention_paths}
use Rattle.view_picture.specs.Picture.{holding_of}
use Rattle.view_picture.specs.PictureViews.{size_seen, holding_seen}
use Rattle.view_picture.proofs.HeldLaws.{held_here}
use Rattle.view_picture.proofs.pictures.holding_at.Goals as goal

pub returns-in_ok-made-in-Some : goal.returns-in_ok-made-in-Some
returns-in_ok-made-in-Some c =
    let d = view c.args.scene.now.whole.now in
    let sizes = map size_seen c.args.scene.now.sizes.now in
    let p = map step_seen c.args.part.now in
    held_here d sizes p c.args.scene.now.mentions.entries c.as_slice.result.now c.in-Some.list.now
    (holding_seen c.in_ok-made-in-Some.made) c.in-Some.ensures.value (search rules) (search rules)
    (c.in_ok-made-in-Some.ensures
    ∙ ap (λ ms. holding_of d sizes p (mention_paths (map mention_seen ms))) c.deref.ensures.value)
