-- What a reader believes after this file: when two trees are one model. They differ in nothing but
-- pointers: where the boxes and the lists of their expressions lie.
use Rattle.std.specs.Prelude.{◌≡◌, true}
use Rattle.conf_syntax.specs.declared.tree.Program.{Program}
use Rattle.conf_syntax.specs.AllPlaces.{program_places}
use Rattle.conf_syntax.specs.Trees.{program_fits}
use Rattle.conf_syntax.specs.Views.{program_of}

-- the grammar has them, and they have one plain tree and the same places
pub record AreOneModel (p q : Program) : Type 0 where
  pub fits : program_fits p ≡ true
  pub plain : program_of p.items ≡ program_of q.items
  pub places : program_places p ≡ program_places q
