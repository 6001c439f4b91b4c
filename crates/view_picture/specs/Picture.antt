-- The picture of a placement: the holders, which are the parts that are referred to, and under each
-- its guests.
use Rattle.std.specs.Prelude.{ℕ, ℤ, pos, ◌+ℤ◌, List, [], ◌∷◌, Option, map, option_and_then, unwrap_or}
use Rattle.std.specs.List.{flat_map}
use Rattle.serde_json.specs.Data.{Data}
use Rattle.view_leaves.specs.Leaves.{PathLeaf}
use Rattle.view_leaves.specs.Paths.{Path}
use Rattle.view_leaves.specs.Spelling.{path_text}
use Rattle.view_picture.specs.Lookup.{value_at, number_of, class_of}
use Rattle.view_picture.specs.Mentions.{guests}
use Rattle.view_picture.specs.Parts.{parts}

-- a guest, and its class where it has one
pub record PictureGuest : Type 0 where
  pub path : Path
  pub class : Option (List ℕ)

-- what the guests of a holder come to, and what it can take where it says so
pub record PictureLoad : Type 0 where
  pub name : List ℕ
  pub sum : ℤ
  pub capacity : Option ℤ

pub record PictureHolding : Type 0 where
  pub holder : Path
  pub loads : List PictureLoad
  pub guests : List PictureGuest

-- the names under which guests have a size, and a holder its capacity
pub record PictureSize : Type 0 where
  pub name : List ℕ
  pub capacity : List ℕ

-- what an object has under a name
abbrev pub number_at : Data → List ℕ → Path → Option ℤ
number_at d name p = option_and_then (number_of name) (value_at p d)

-- a size that isn't there counts as 0
abbrev pub amount : Data → List ℕ → Path → ℤ
amount d name p = unwrap_or (number_at d name p) (pos 0)

abbrev pub total : Data → List ℕ → List Path → ℤ
total d name [] = pos 0
total d name (p ∷ ps) = amount d name p +ℤ total d name ps

abbrev pub load_of : Data → Path → List Path → PictureSize → PictureLoad
load_of d p gs size = record { name = size.name; sum = total d size.name gs; capacity = number_at d size.capacity p }

abbrev pub guest_of : Data → Path → PictureGuest
guest_of d p = record { path = p; class = option_and_then class_of (value_at p d) }

abbrev pub holding_of : Data → List PictureSize → Path → List Path → PictureHolding
holding_of d sizes p gs = record {
  holder = p;
  loads = map (load_of d p gs) sizes;
  guests = map (guest_of d) gs;
}

-- a part without guests is no holder
abbrev pub if_held : Data → List PictureSize → Path → List Path → List PictureHolding
if_held d sizes p [] = []
if_held d sizes p (g ∷ gs) = holding_of d sizes p (g ∷ gs) ∷ []

-- the guests of a part: one for each leaf of this attribute that refers to the part
abbrev pub guests_at : List ℕ → List PathLeaf → Path → List Path
guests_at a ls p = guests a (path_text p) ls

-- what a part carries: how it is spelled, and a load for each size
abbrev pub carried : Data → List ℕ → List PictureSize → List PathLeaf → Path → List ℕ × List PictureLoad
carried d a sizes ls p = (path_text p, map (load_of d p (guests_at a ls p)) sizes)

-- the picture, of these parts
abbrev pub holdings_among : Data → List ℕ → List PictureSize → List PathLeaf → List Path → List PictureHolding
holdings_among d a sizes ls ps = flat_map (λ p. if_held d sizes p (guests_at a ls p)) ps

abbrev pub holdings : Data → List ℕ → List PictureSize → List PathLeaf → List PictureHolding
holdings d a sizes ls = holdings_among d a sizes ls (parts ls)

abbrev pub holders : List PictureHolding → List Path
holders hs = map (λ (h : PictureHolding). h.holder) hs
