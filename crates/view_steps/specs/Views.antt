-- Moves of the program, as what they stand for.
use Rattle.std.specs.Prelude.{◌≡◌, ℕ, Bool, true, false, List}
use Rattle.serde_json.specs.Data.{Data}
use Rattle.view_leaves.specs.Paths.{Path}
use Rattle.view_picture.specs.Mentions.{is_named, owner}
use Rattle.view_picture.specs.Picture.{PictureSize}
use Rattle.view_plan.specs.Plan.{PlanLine, found_at}
use Rattle.view_plan.specs.Views.{line_seen}
use Rattle.view_steps.specs.Moves.{from_word, to_word, is_word, refers_to, amounts, turned}
use Rattle.view_steps.specs.Steps.{Site}
use Rattle.view_steps.specs.declared.moves.Move.{Move}

abbrev pub move_line : Move → PlanLine
move_line m = line_seen m.line

abbrev pub move_path : Move → Path
move_path m = (line_seen m.line).0

-- the sizes of a move are those of its guest
pub record IsSized (d : Data) (a : List ℕ) (sizes : List PictureSize) (m : Move) : Type 0 where
  pub named : is_named a (move_path m) ≡ true
  pub more : m.more.items ≡ amounts d sizes (owner (move_path m))
  pub less : m.less.items ≡ turned (amounts d sizes (owner (move_path m)))

-- the holders of a move, by their spelling
abbrev pub goes_from : Move → List ℕ → Bool
goes_from m w = is_word (from_word (move_line m).1) w

abbrev pub goes_to : Move → List ℕ → Bool
goes_to m w = is_word (to_word (move_line m).1) w

-- what is known of a move: its leaf refers to where it goes from in the former configuration, and
-- to where it goes in the new one
pub record IsMove (site : Site) (m : Move) : Type 0 where
  pub sized : IsSized site.whole site.attribute site.sizes m
  pub former : (w : List ℕ) → refers_to w (found_at (move_path m) site.old) ≡ goes_from m w
  pub new : (w : List ℕ) → refers_to w (found_at (move_path m) site.new) ≡ goes_to m w
  pub apart : (w : List ℕ) → goes_to m w ≡ true → goes_from m w ≡ false
