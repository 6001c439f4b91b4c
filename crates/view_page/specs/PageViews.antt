-- What is asked of a page, as what it stands for.
use Rattle.std.specs.Prelude.{map}
use Rattle.view_page.specs.Page.{PageWish}
use Rattle.view_page.specs.declared.sections.Wish.{Wish}
use Rattle.view_picture.specs.PictureViews.{size_seen}

abbrev pub wish_seen : Wish → PageWish
wish_seen w = record { attribute = w.attribute.now; sizes = map size_seen w.sizes.now }
