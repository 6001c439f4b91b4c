-- What stands at a part, by the mentions that the program keeps.
use Rattle.std.specs.Prelude.{ℕ, Vec, List, map}
use Rattle.std.specs.Borrow.{Bor}
use Rattle.serde_json.specs.Data.{Data}
use Rattle.view_leaves.specs.Paths.{Path}
use Rattle.view_leaves.specs.Spelling.{path_text}
use Rattle.view_picture.specs.declared.mentions.Mention.{Mention}
use Rattle.view_picture.specs.Mentioned.{found, mention_paths}
use Rattle.view_picture.specs.Picture.{PictureHolding, PictureLoad, PictureSize, load_of, if_held}

abbrev pub held_at : {A : Type 0} → Data → List PictureSize → List (Bor (List ℕ) × Vec Mention A) → Path → List PictureHolding
held_at d sizes es p = if_held d sizes p (mention_paths (found es (path_text p)))

-- what a part carries, by the mentions of how it is spelled
abbrev pub carried_by : {A : Type 0} → Data → List PictureSize → List (Bor (List ℕ) × Vec Mention A) → Path → List ℕ → List PictureLoad
carried_by d sizes es p w = map (load_of d p (mention_paths (found es w))) sizes

abbrev pub carried_at : {A : Type 0} → Data → List PictureSize → List (Bor (List ℕ) × Vec Mention A) → Path → List ℕ × List PictureLoad
carried_at d sizes es p = (path_text p, carried_by d sizes es p (path_text p))
