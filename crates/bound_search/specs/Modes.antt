-- What a search has come to behind a line. What a reader believes after this file: which mode of a
-- run each answer of the engine's steps stands for.
use Rattle.std.specs.Prelude.{ℕ}
use Rattle.run_law.specs.Replay.{Mode, Going, Conflict, Closed}
use Rattle.bound_search.specs.declared.after.After.{After}
use Rattle.bound_search.specs.declared.after.After.TheVariants as after

abbrev pub mode_of : After → Mode
mode_of after.Going = Going
mode_of (after.Conflict n) = Conflict n
mode_of after.Closed = Closed

-- how much is left to do at a level: a conflict is nearer to its end than what goes on
abbrev pub rank : After → ℕ
rank after.Going = 2
rank (after.Conflict n) = 1
rank after.Closed = 0
