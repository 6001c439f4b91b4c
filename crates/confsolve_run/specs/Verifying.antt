-- What the steps of `verify` hand on. What a reader believes after this file: nothing that `run`
-- says.
use Rattle.std.specs.Prelude.{List, All, ℤ}
use Rattle.class_table.specs.Outline.{Outline}
use Rattle.conf_eval.specs.Satisfying.{IsFull}
use Rattle.object_alloc.specs.Walk.{walk, leaves_in}

-- each reference set has as many members as its shape says
abbrev pub HasFullSets : Outline → List ℤ → Type 0
HasFullSets o t = All (IsFull o t) (leaves_in (walk o))
