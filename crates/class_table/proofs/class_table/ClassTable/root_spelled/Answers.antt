use Rattle.std.proofs.Common.{◌≡◌, ◌<◌, Some, length, sym, ap, ◌∙◌, subst}
use Rattle.class_table.specs.declared.names.NameMeaning.TheVariants as meaning
use Rattle.class_table.specs.Names.{means}
use Rattle.class_table.specs.Tables.{IsMeant}
use Rattle.class_table.proofs.class_table.ClassTable.root_spelled.Goals as goal

pub returns-in-Some-Variable-clause-exists : goal.returns-in-Some-Variable-clause-exists
returns-in-Some-Variable-clause-exists c =
    let t = c.self.inside in
    let e : means t.names.entries c.args.name.now ≡ Some (meaning.Variable c.in-Some-Variable.root) = sym c.get.ensures.value ∙ sym c.copied.ensures ∙ c.in-Some-Variable.is ∙ ap Some c.in-Some-Variable.field-0-is in
    let low : c.in-Some-Variable.root < length t.roots.items = subst (IsMeant (length t.classes.items) (length t.enumerations.items) (length t.roots.items)) e (c.self.invariant.closed.meant c.args.name.now) in
    subst (λ o. c.in-Some-Variable.root < length o.roots) c.self.view_is low
