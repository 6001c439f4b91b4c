-- Values that are given whole: those of a configuration, in which each reference set has its size.
use Rattle.std.specs.Prelude.{◌≡◌, List, Option, Some, ℤ, All, map}
use Rattle.class_table.specs.Outline.{Outline}
use Rattle.object_alloc.specs.Configurations.{IsConfiguration}
use Rattle.object_alloc.specs.Members.{HasItsSize}
use Rattle.object_alloc.specs.Walk.{walk, leaves_in}

-- every leaf has a value: these are the values of the cells, each in its domain, and each reference
-- set has as many members as its shape says
pub record IsWhole (o : Outline) (hs : List (Option ℤ)) : Type 0 where
  pub values : List ℤ
  pub all : hs ≡ map Some values
  pub configuration : IsConfiguration o values
  pub sets : All (HasItsSize o values) (leaves_in (walk o))
