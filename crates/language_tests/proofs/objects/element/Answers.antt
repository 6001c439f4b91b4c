use Rattle.object_alloc.proofs.PartFound.{of_array}
use Rattle.language_tests.proofs.objects.element.Goals as goal

pub part-requires-clause-element : goal.part-requires-clause-element
part-requires-clause-element c = λ d. of_array c.shape.result _ c.in-Many.field-0 c.in-Many.count c.args.number c.in-Many.is (c.shape.ensures.shape d) c.if-number-count.false
