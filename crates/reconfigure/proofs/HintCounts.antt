-- Hints of a model are as many as its cells: what `with_changes` asks of them.
use Rattle.std.proofs.Common.{◌≤◌, List, [], ◌∷◌, Option, length, arith}
use Rattle.std.specs.Prelude.{ℤ}
use Rattle.class_table.specs.Outline.{Outline}
use Rattle.object_alloc.specs.declared.object.Cell.{Cell}
use Rattle.object_alloc.specs.Cells.{cells}
use Rattle.object_alloc.specs.Hints.{AreCellHints, AreHints}
use Rattle.object_alloc.proofs.HintLaws.{hints_lie}

one_each : (o : Outline) (cs : List Cell) (hs : List (Option ℤ)) → AreCellHints o cs hs → length cs ≤ length hs
one_each o [] hs h = omega arith
one_each o (c ∷ cs) [] h = absurd h
one_each o (c ∷ cs) (k ∷ hs) h = let rest = one_each o cs hs h.1 in omega (arith, rest)

pub enough_hints : (o : Outline) (hs : List (Option ℤ)) → AreHints o hs → length (cells o) ≤ length hs
enough_hints o hs h = one_each o (cells o) hs (hints_lie o hs h)
