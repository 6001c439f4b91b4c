-- Searches that broke off. What a reader believes after this file: that their lines are a run.
use Rattle.std.specs.Prelude.{◌≡◌, ◌⊎◌, true, List, []}
use Rattle.ground_form.specs.WellMade.{IsWellMade}
use Rattle.ground_form.specs.declared.ground.Ground.{Ground}
use Rattle.log_form.specs.declared.line.Line.{Line}
use Rattle.run_law.specs.Replay.{is_run}

-- the lines of a search as far as it came: there are none, or they are a run over some problem
abbrev pub AreSoFar : List Line → Type 0
AreSoFar ls = (ls ≡ []) ⊎ ((g : Ground) × IsWellMade g × (is_run g ls ≡ true))
