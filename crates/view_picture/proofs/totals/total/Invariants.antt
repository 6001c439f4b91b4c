use Rattle.std.proofs.Common.{◌≡◌, ◌≤◌, ◌*◌, ◌^◌, ◌+ℤ◌, pos, drop, map, unsigned_abs}
use Rattle.serde_json.specs.View.{view}
use Rattle.view_picture.specs.Picture.{total}
use Rattle.view_picture.specs.PictureViews.{guest_path}
use Rattle.view_picture.proofs.totals.total.Given as goal

-- the sum so far and that of what is left are that of all, and it is small
abbrev pub invariant-loop-guest : goal.invariant-loop-guest
invariant-loop-guest l =
    (l.sum +ℤ total (view l.whole) l.name (map guest_path (drop l.guest-index l.guests))
    ≡ total (view l.whole) l.name (map guest_path l.guests))
    × (unsigned_abs l.sum ≤ 2 ^ 63 * l.guest-index)
