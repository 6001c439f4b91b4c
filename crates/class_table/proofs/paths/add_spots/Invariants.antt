use Rattle.std.proofs.Common.{◌≡◌, ◌++◌, map, drop, Some}
use Rattle.class_table.specs.Outline.{own_in}
use Rattle.class_table.specs.Paths.{variable_at}
use Rattle.class_table.proofs.paths.add_spots.Given as goal

-- with what is left the spots are those of all the class's attributes
abbrev pub invariant-loop-own : goal.invariant-loop-own
invariant-loop-own l =
    map (variable_at l.classes) l.spots.items ++ map Some (drop l.own (own_in l.classes l.class))
    ≡ map (variable_at l.classes) l.fn.spots.items ++ map Some (own_in l.classes l.class)
