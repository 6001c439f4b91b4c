use Rattle.std.proofs.Common.{◌≡◌, length, sym, ap, ◌∙◌, subst}
use Rattle.std.specs.Prelude.{All}
use Rattle.class_table.specs.Outline.{Outline}
use Rattle.class_table.specs.Sound.{IsSound}
use Rattle.object_alloc.specs.declared.object.Cell.{Cell}
use Rattle.object_alloc.specs.Cells.{cells, IsDomainOf}
use Rattle.object_alloc.proofs.DomainLaws.{domains_there}
use Rattle.object_alloc.proofs.objects.Objects.cells.Goals as goal

pub returns : goal.returns
returns c =
    let o = c.args.self.now in
    let same = c.deref.ensures.value ∙ c.self.invariant.cells_are ∙ ap cells c.self.view_is in
    record {
      cells = same;
      domains = subst (All (λ (x : Cell). IsDomainOf (length o.classes) x.domain)) (sym same) (domains_there o (subst IsSound c.self.view_is c.self.invariant.sound));
    }
