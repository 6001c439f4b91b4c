-- How far a run of moves has come.
use Rattle.std.specs.Prelude.{◌≡◌, ◌<◌, ◌+◌, ℕ, Bool, true, false, ◌&&◌, cond, if◌then◌else◌, List, [], ◌∷◌, ◌++◌, Option, None, Some, All, IsPermutation, is_some, length, map, reverse, slice_index_or, sum_by, ℤ}
use Rattle.serde_json.specs.Data.{Data}
use Rattle.view_leaves.specs.Ascending.{IsAscending, paths}
use Rattle.view_plan.specs.Changes.{PlanChange}
use Rattle.view_plan.specs.Plan.{line_path}
use Rattle.view_plan.specs.Views.{lines_seen}
use Rattle.view_steps.specs.Moves.{from_word, to_word, to_stop}
use Rattle.view_steps.specs.Rooms.{Room, Entries, rooms, found, word_allowed, some_taken}
use Rattle.view_steps.specs.Steps.{Site, Leg, leg_line, reached, ended, behind, AllFit}
use Rattle.view_steps.specs.Views.{move_line, goes_from, goes_to, IsMove}
use Rattle.view_steps.specs.declared.moves.Move.{Move}
use Rattle.view_steps.specs.declared.run.Run.{Run}

-- whether what moves so much fits, by the rooms that are kept
abbrev pub change_fits : {A : Type 0} → Entries A → PlanChange → List ℤ → List ℤ → Bool
change_fits es c more less =
    word_allowed es (to_word c) more && word_allowed es (from_word c) less

abbrev pub is_fit : {A : Type 0} → Entries A → Move → Bool
is_fit es m = change_fits es (move_line m).1 m.more.items m.less.items

-- whether a move may go to the stop, and fits there
abbrev pub half_fits : {A : Type 0} → Entries A → Option PlanChange → List ℤ → List ℤ → Bool
half_fits es None more less = false
half_fits es (Some c) more less = change_fits es c more less

abbrev pub may_halt : {A : Type 0} → Entries A → Option Data → Move → Bool
may_halt es stop m = half_fits es (to_stop stop (move_line m).1) m.more.items m.less.items

-- the rooms of a holder behind a move that comes to it, or goes from it
abbrev pub put_by : Bool → Bool → List ℤ → List ℤ → Option (List Room) → Option (List Room)
put_by comes goes more less rs =
    let there = if comes then some_taken rs more else rs in
    if goes then some_taken there less else there

-- the move of a number, of those that are left, fits
pub record IsFitAt (run : Run) (n : ℕ) : Type 0 where
  pub there : n < length run.left.items
  pub fit : (d : Move) → is_fit run.rooms.entries (slice_index_or run.left.items n d) ≡ true

-- or may go to the stop
pub record IsHaltAt (stop : Option Data) (run : Run) (n : ℕ) : Type 0 where
  pub there : n < length run.left.items
  pub fit : (d : Move) → may_halt run.rooms.entries stop (slice_index_or run.left.items n d) ≡ true

-- no move that is left fits, and none may go to the stop
pub record IsAtEnd (stop : Option Data) (run : Run) : Type 0 where
  pub whole : All (λ m. is_fit run.rooms.entries m ≡ false) run.left.items
  pub half : All (λ m. may_halt run.rooms.entries stop m ≡ false) run.left.items

-- how many steps these moves can take
abbrev pub steps_of : Option Data → List Move → ℕ
steps_of stop ms = sum_by (λ m. 1 + cond (is_some (to_stop stop (move_line m).1)) 1 0) ms

-- the facts of a site: the paths of its leaves and of its moves ascend
pub record IsSite (site : Site) : Type 0 where
  pub old : IsAscending (paths site.old)
  pub new : IsAscending (paths site.new)
  pub moves : IsAscending (map line_path site.moves)

-- the moves that came to their end and those that are left are all, each step fits behind those
-- before it, and the rooms are those behind them
pub record IsRun (site : Site) (stop : Option Data) (run : Run) : Type 0 where
  pub legs : List Leg
  pub lines : lines_seen run.made.items ≡ map leg_line (reverse legs)
  pub site_is : IsSite site
  pub each : All (IsMove (behind site stop legs)) run.left.items
  pub same : IsPermutation (behind site stop legs).moves (reached legs ++ map move_line run.left.items)
  pub fit : AllFit site stop legs
  pub rooms_are : (w : List ℕ) → found run.rooms.entries w ≡ rooms (behind site stop legs) (ended legs) w

-- the rooms of a word before these moves, by those behind all of them
abbrev pub all_back : List Move → List ℕ → Option (List Room) → Option (List Room)
all_back [] w rs = rs
all_back (m ∷ ms) w rs =
    all_back ms w (put_by (goes_from m w) (goes_to m w) m.more.items m.less.items rs)
