-- An order of moves, some of them by way of a stop: each holder's load, by the picture, keeps its
-- capacity behind each step.
use Rattle.std.specs.Prelude.{◌≡◌, ℕ, ℤ, Bool, true, false, not, ◌&&◌, ◌||◌, if◌then◌else◌, int_le, List, [], ◌∷◌, ◌++◌, Option, None, Some, All, IsPermutation, bytes_eq, filter, map, option_and_then, reverse, ⊤}
use Rattle.std.specs.List.{list_all, list_any}
use Rattle.std.specs.Ordering.{is_eq}
use Rattle.serde_json.specs.Data.{Data}
use Rattle.view_leaves.specs.Leaves.{PathLeaf}
use Rattle.view_leaves.specs.Paths.{Path, path_cmp}
use Rattle.view_leaves.specs.Spelling.{path_text}
use Rattle.view_picture.specs.Mentions.{is_named, guests}
use Rattle.view_picture.specs.Parts.{parts}
use Rattle.view_picture.specs.Picture.{PictureSize, number_at, total}
use Rattle.view_plan.specs.Changes.{PlanChange}
use Rattle.view_plan.specs.Plan.{PlanLine, found_at, line_path, IsPlan}
use Rattle.view_steps.specs.Moves.{to_stop, from_stop, on_stop}

-- what moves: the leaves of the former and of the new configuration, the lines of the plan between
-- them that are of the attribute, and the sizes, which the new configuration tells
pub record Site : Type 0 where
  pub whole : Data
  pub attribute : List ℕ
  pub sizes : List PictureSize
  pub old : List PathLeaf
  pub new : List PathLeaf
  pub moves : List PlanLine

abbrev pub is_among : List Path → Path → Bool
is_among ps p = list_any (λ q. is_eq (path_cmp q p)) ps

-- whether a leaf is still to be moved behind these moves
abbrev pub waits : Site → List Path → Path → Bool
waits site made p = is_among (map line_path site.moves) p && not (is_among made p)

-- where all stands behind these moves: what waits as in the former configuration, all else as in
-- the new one
abbrev pub standing : Site → List Path → List PathLeaf
standing site made =
    filter (λ (l : PathLeaf). waits site made l.0) site.old
    ++ filter (λ (l : PathLeaf). not (waits site made l.0)) site.new

-- what the guests of a holder come to there, as in a picture
abbrev pub load : Site → List Path → List ℕ → PictureSize → ℤ
load site made w size = total site.whole size.name (guests site.attribute w (standing site made))

-- the part that is spelled so, and what it can take
abbrev pub spelled : List Path → List ℕ → Option Path
spelled [] w = None
spelled (p ∷ ps) w = if bytes_eq (path_text p) w then Some p else spelled ps w

abbrev pub capacity : Site → List ℕ → PictureSize → Option ℤ
capacity site w size =
    option_and_then (number_at site.whole size.capacity) (spelled (parts site.new) w)

-- ---- steps

-- a step: a line by which a move comes to its end, or the first half of one by way of the stop
pub data Leg : Type 0 where
  ends : PlanLine → Leg
  halts : PlanLine → Leg

abbrev pub leg_line : Leg → PlanLine
leg_line (ends l) = l
leg_line (halts l) = l

-- of steps, the last one first: the lines by which moves came to their end, and their paths
abbrev pub reached : List Leg → List PlanLine
reached [] = []
reached (ends l ∷ gs) = l ∷ reached gs
reached (halts l ∷ gs) = reached gs

abbrev pub ended : List Leg → List Path
ended gs = map line_path (reached gs)

-- the paths of what went to the stop
abbrev pub halted : List Leg → List Path
halted [] = []
halted (ends l ∷ gs) = halted gs
halted (halts l ∷ gs) = l.0 ∷ halted gs

-- what stands at these paths replaced
module _ {X : Type 0} where
  abbrev pub changed_at : (X → X) → List Path → List (Path × X) → List (Path × X)
  changed_at f ps xs = map (λ (x : Path × X). (x.0, if is_among ps x.0 then f x.1 else x.1)) xs

-- the site behind these steps: what went to the stop stood there in the former configuration, and
-- its move is the second half
abbrev pub behind : Site → Option Data → List Leg → Site
behind site stop gs = record {
  whole = site.whole;
  attribute = site.attribute;
  sizes = site.sizes;
  old = changed_at (on_stop stop) (halted gs) site.old;
  new = site.new;
  moves = changed_at (from_stop stop) (halted gs) site.moves;
}

-- the load of a holder behind these steps
abbrev pub load_behind : Site → Option Data → List Leg → List ℕ → PictureSize → ℤ
load_behind site stop gs w size = load (behind site stop gs) (ended gs) w size

-- a load may be as great as the capacity, and where it was greater, no greater than before
abbrev pub bears : Option ℤ → ℤ → ℤ → Bool
bears None before now = true
bears (Some c) before now = int_le now c || int_le now before

abbrev pub bears_at : Site → Option Data → List Leg → Leg → List ℕ → PictureSize → Bool
bears_at site stop gs g w size =
    bears (capacity site w size) (load_behind site stop gs w size)
    (load_behind site stop (g ∷ gs) w size)

-- whether every holder bears this step behind these
abbrev pub Fits : Site → Option Data → List Leg → Leg → Type 0
Fits site stop gs g = (w : List ℕ) → list_all (bears_at site stop gs g w) site.sizes ≡ true

-- a holder that doesn't
pub record Lacks (site : Site) (stop : Option Data) (gs : List Leg) (g : Leg) : Type 0 where
  pub holder : List ℕ
  pub lacks : list_all (bears_at site stop gs g holder) site.sizes ≡ false

-- a line to the stop is the first half of a move of the plan, which hasn't come to its end, nor to
-- the stop before
pub record IsHalf (site : Site) (stop : Option Data) (gs : List Leg) (l : PlanLine) : Type 0 where
  pub half : option_and_then (to_stop stop) (found_at l.0 site.moves) ≡ Some l.1
  pub waiting : waits site (ended gs) l.0 ≡ true
  pub once : is_among (halted gs) l.0 ≡ false

abbrev pub MayGo : Site → Option Data → List Leg → Leg → Type 0
MayGo site stop gs (ends l) = ⊤
MayGo site stop gs (halts l) = IsHalf site stop gs l

-- of steps, the last one first, each may be made and fits behind those before it
abbrev pub AllFit : Site → Option Data → List Leg → Type 0
AllFit site stop [] = ⊤
AllFit site stop (g ∷ gs) = (Fits site stop gs g × MayGo site stop gs g) × AllFit site stop gs

-- a move that is left doesn't fit, nor does its first half, where it may go to the stop
pub record IsStuck (site : Site) (stop : Option Data) (gs : List Leg) (l : PlanLine) : Type 0 where
  pub whole : Lacks site stop gs (ends l)
  pub half : (c : PlanChange) → to_stop stop l.1 ≡ Some c → Lacks site stop gs (halts (l.0, c))

-- by these steps, each of which fits behind those before it, all the moves have come to their end
-- or are left, each once; what went to the stop, at most once each, comes from there. None of those
-- that are left fits behind all of the steps, nor may one go to the stop; and where none is left,
-- all stands as in the new configuration
pub record IsOrder (site : Site) (stop : Option Data) (order left : List PlanLine) : Type 0 where
  pub legs : List Leg
  pub lines : order ≡ map leg_line (reverse legs)
  pub same : IsPermutation (behind site stop legs).moves (reached legs ++ left)
  pub fit : AllFit site stop legs
  pub stuck : All (IsStuck site stop legs) left
  pub last : left ≡ [] → standing (behind site stop legs) (ended legs) ≡ site.new

-- the site of a plan
abbrev pub site_of : Data → List ℕ → List PictureSize → List PathLeaf → List PathLeaf → List PlanLine → Site
site_of d a sizes old new lines = record {
  whole = d;
  attribute = a;
  sizes = sizes;
  old = old;
  new = new;
  moves = filter (λ (l : PlanLine). is_named a l.0) lines;
}

-- the plan between the leaves, and an order of its moves
pub record IsOrdered (d : Data) (a : List ℕ) (sizes : List PictureSize) (stop : Option Data) (old new : List PathLeaf) (order left : List PlanLine) : Type 0 where
  pub lines : List PlanLine
  pub plan : IsPlan old new lines
  pub ordered : IsOrder (site_of d a sizes old new lines) stop order left
