-- Holdings of the program, as what they stand for.
use Rattle.std.specs.Prelude.{ℕ, List, map, option_map}
use Rattle.view_leaves.specs.Paths.{Path}
use Rattle.view_picture.specs.declared.holding.Guest.{Guest}
use Rattle.view_picture.specs.declared.holding.Holding.{Holding}
use Rattle.view_picture.specs.declared.holding.Load.{Load}
use Rattle.view_picture.specs.declared.holding.Scale.{Scale}
use Rattle.view_picture.specs.declared.holding.Size.{Size}
use Rattle.view_picture.specs.Picture.{PictureGuest, PictureLoad, PictureHolding, PictureSize}
use Rattle.view_picture.specs.Views.{path_seen}

abbrev pub guest_seen : Guest → PictureGuest
guest_seen g = record { path = path_seen g.path; class = option_map (λ w. w.now) g.class }

abbrev pub guest_path : Guest → Path
guest_path g = path_seen g.path

abbrev pub load_seen : Load → PictureLoad
load_seen l = record { name = l.name.now; sum = l.sum; capacity = l.capacity }

abbrev pub size_seen : Size → PictureSize
size_seen s = record { name = s.name.now; capacity = s.capacity.now }

abbrev pub holding_seen : Holding → PictureHolding
holding_seen h = record {
  holder = path_seen h.holder;
  loads = map load_seen h.loads.items;
  guests = map guest_seen h.guests.items;
}

abbrev pub holdings_seen : List Holding → List PictureHolding
holdings_seen hs = map holding_seen hs

abbrev pub scale_seen : Scale → List ℕ × List PictureLoad
scale_seen s = (s.text.items, map load_seen s.loads.items)
