use Rattle.std.proofs.Common.{sym, subst, ◌∙◌, IfOk}
use Rattle.conf_types.specs.Checked.{IsRead}
use Rattle.conf_types.proofs.ReadingLaws.{attribute_is}
use Rattle.conf_types.proofs.rules.attribute.Goals as goal

pub returns-in-Some-clause-read : goal.returns-in-Some-clause-read
returns-in-Some-clause-read c = λ r h.
    subst (λ z. IfOk c.dotted.result (λ y. IsRead y z)) (sym (attribute_is c.args.table.now c.args.at r c.args.name.now c.args.x.kind c.in-Object.class c.in-Some.found h.typed c.in-Object.is (sym c.attribute_of.ensures.found ∙ c.in-Some.is)))
    (c.dotted.ensures.read r c.args.name.now h)
