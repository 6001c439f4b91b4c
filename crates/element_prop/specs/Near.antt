-- Which items an index may pick. What a reader believes after this file: of the items outside those
-- places the index has no value.
use Rattle.std.specs.Prelude.{◌≡◌, ℕ, ◌≤◌, true, List, ℤ, drop, length}
use Rattle.signed_clause.specs.Ranges.{Ranges, count_of}
use Rattle.element_prop.specs.declared.near.Near.{Near}
use Rattle.element_prop.specs.Elements.{count_possible}

-- of the items before and behind the places the index has no value; where it is said to be full,
-- as many items as the index has values are among them
pub record IsNear (items : List (ℤ × ℕ)) (index : Ranges) (near : Near) : Type 0 where
  pub order : near.from ≤ near.to
  pub within : near.to ≤ length items
  pub before : count_possible (drop near.from items) index ≡ count_possible items index
  pub behind : count_possible (drop near.to items) index ≡ 0
  pub full : near.full ≡ true → count_of index ≤ count_possible items index
