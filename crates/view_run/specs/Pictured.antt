-- What is printed as the picture of a configuration, and why there is none.
use Rattle.std.specs.Prelude.{ℕ, ◌≡◌, Bool, true, false, if◌then◌else◌, List, Option, Some, ⊤}
use Rattle.std.specs.List.{flat_map}
use Rattle.csv.specs.Writing.{default_writer, row_text}
use Rattle.desk_io.specs.Desk.{Files, OfFile}
use Rattle.serde_json.specs.Data.{Data}
use Rattle.view_drawing.specs.Sheet.{sheet_text}
use Rattle.view_drawing.specs.Svg.{svg_text}
use Rattle.view_leaves.specs.Leaves.{leaves}
use Rattle.view_leaves.specs.Reading.{text_json}
use Rattle.view_picture.specs.Named.{has_attribute, are_parts}
use Rattle.view_picture.specs.Picture.{PictureHolding, holdings}
use Rattle.view_run.specs.Options.{sizes_of, failed_of, wants_svg, wants_table}
use Rattle.view_run.specs.Words.{PictureAsked}
use Rattle.view_tables.specs.Cells.{picture_rows}
use Rattle.view_run.specs.declared.status.Status.{Status as Ended}
use Rattle.view_run.specs.declared.status.Status.TheVariants.{Same, Differs, Shown, Stuck, Usage, Unreadable, TooLong, NotJson, NotObject, NoAttribute, NoPart, NoStop, MovesSets, WriteFault, Memory}

-- the picture that is asked for
abbrev pub pictured : Data → PictureAsked → List PictureHolding
pictured d a = holdings d a.attribute (sizes_of false a.options) (leaves d)

abbrev pub picture_text : Data → PictureAsked → List ℕ
picture_text d a =
    if wants_svg false a.options
    then svg_text (failed_of a.options) (pictured d a)
    else if wants_table false a.options
    then flat_map (row_text default_writer) (picture_rows (failed_of a.options) (sizes_of false a.options) (pictured d a))
    else sheet_text (failed_of a.options) (pictured d a)

-- whether some leaf is such an attribute, and what is said to have failed is there
abbrev pub is_known : Data → PictureAsked → Bool
is_known d a = has_attribute a.attribute (leaves d)

abbrev pub is_there : Data → PictureAsked → Bool
is_there d a = are_parts (leaves d) (failed_of a.options)

-- a text of the picture of a configuration
pub record IsPicture (d : Data) (a : PictureAsked) (text : List ℕ) : Type 0 where
  pub known : is_known d a ≡ true
  pub there : is_there d a ≡ true
  pub same : text ≡ picture_text d a

-- why a configuration has no such picture
abbrev pub IsBlank : Data → PictureAsked → Ended → Type 0
IsBlank d a Same = ⊥
IsBlank d a Differs = ⊥
IsBlank d a Shown = ⊥
IsBlank d a Stuck = ⊥
IsBlank d a Usage = ⊥
IsBlank d a (Unreadable s) = ⊥
IsBlank d a (TooLong s) = ⊥
IsBlank d a (NotJson s) = ⊥
IsBlank d a (NotObject s) = ⊥
IsBlank d a NoAttribute = is_known d a ≡ false
IsBlank d a NoPart = is_there d a ≡ false
IsBlank d a NoStop = ⊥
IsBlank d a MovesSets = ⊥
IsBlank d a WriteFault = ⊥
IsBlank d a Memory = ⊤

-- the picture of what the file holds
pub record IsDrawn (files : Option Files) (a : PictureAsked) (text : List ℕ) : Type 0 where
  pub whole : Data
  pub config : OfFile files a.config (λ bytes. text_json bytes ≡ Some whole)
  pub picture : IsPicture whole a text

-- the file holds a configuration without such an attribute, or without what is said to have failed
pub record LacksAttribute (files : Option Files) (a : PictureAsked) : Type 0 where
  pub whole : Data
  pub config : OfFile files a.config (λ bytes. text_json bytes ≡ Some whole)
  pub lacks : is_known whole a ≡ false

pub record LacksPart (files : Option Files) (a : PictureAsked) : Type 0 where
  pub whole : Data
  pub config : OfFile files a.config (λ bytes. text_json bytes ≡ Some whole)
  pub lacks : is_there whole a ≡ false
