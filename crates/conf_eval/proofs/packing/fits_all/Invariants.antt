use Rattle.std.proofs.Common.{◌≡◌, drop, map}
use Rattle.conf_eval.specs.Meaning.{fits_all}
use Rattle.conf_eval.specs.Packing.{item_view}
use Rattle.conf_eval.proofs.packing.fits_all.Given as goal

abbrev pub invariant-loop-item : goal.invariant-loop-item
invariant-loop-item l = fits_all (map item_view l.items) (map item_view (drop l.item-index l.items)) ≡ fits_all (map item_view l.items) (map item_view l.items)
