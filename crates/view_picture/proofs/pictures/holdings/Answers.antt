use Rattle.std.proofs.Common.{◌≡◌, map, ap, sym, subst, ◌∙◌}
use Rattle.std.specs.List.{flat_map}
use Rattle.serde_json.specs.View.{view}
use Rattle.view_leaves.specs.Views.{leaves_seen}
use Rattle.view_picture.specs.Held.{held_at}
use Rattle.view_picture.specs.Picture.{holders, holdings, holdings_among}
use Rattle.view_picture.specs.PictureViews.{size_seen, holdings_seen}
use Rattle.view_picture.specs.Views.{paths_seen}
use Rattle.view_picture.specs.Parts.{parts}
use Rattle.view_leaves.specs.Ascending.{IsAscending}
use Rattle.view_picture.proofs.PartOrder.{parts_ascend, holders_ascend}
use Rattle.view_picture.proofs.HeldLaws.{all_held}
use Rattle.view_picture.proofs.pictures.holdings.Goals as goal

pub returns : goal.returns
returns c =
    let d = view c.args.whole.now in
    let sizes = map size_seen c.args.sizes.now in
    let ls = leaves_seen c.args.leaves.now in
    let es = c.in_ok-mentions.mentions.entries in
    let word = c.args.attribute in
    let made : holdings_seen c.in_ok-made.made.items ≡ holdings d word.now sizes ls = c.in_ok-made.ensures
    ∙ ap (λ ps. flat_map (held_at d sizes es) (paths_seen ps)) c.deref.ensures.value
    ∙ all_held d word.now sizes ls es (λ w. c.in_ok-mentions.ensures (record word { now = w }))
    (paths_seen c.in_ok-parts.field-0.items)
    ∙ ap (λ ps. holdings_among d word.now sizes ls ps) c.in_ok-parts.ensures.parts in
    record {
      holdings = made;
      ascending = λ h.
          subst (λ hs. IsAscending (holders hs)) (sym made)
          (holders_ascend d word.now sizes ls (parts ls) (parts_ascend ls h));
    }
