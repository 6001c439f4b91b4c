use Rattle.std.proofs.Common.{ap, ◌∙◌}
use Rattle.class_table.specs.Outline.{Outline, is_a}
use Rattle.object_alloc.proofs.objects.Objects.is_of.Goals as goal

pub returns : goal.returns
returns c = record { is = λ d. c.is_a.ensures.is_a ∙ ap (λ (o : Outline). is_a o.classes c.class.result c.args.class) c.self.view_is ∙ ap (λ k. is_a c.args.self.now.classes k c.args.class) (c.class.ensures.class d) }
