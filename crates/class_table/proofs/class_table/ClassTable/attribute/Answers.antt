use Rattle.class_table.proofs.ClosedLaws.{shape_exists}
use Rattle.class_table.proofs.class_table.ClassTable.attribute.Goals as goal

pub returns-clause-exists : goal.returns-clause-exists
returns-clause-exists c = shape_exists _ c.args.self.now c.deref.result.now c.args.c c.args.k c.attribute_at-attribute.result.now c.self.view_is c.self.invariant.closed c.deref.ensures.value c.requires.attribute (c.attribute_at-attribute.ensures.attribute c.attribute_at-attribute.result.now)
