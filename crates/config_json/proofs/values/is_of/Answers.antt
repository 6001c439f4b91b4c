use Rattle.std.proofs.Common.{◌∙◌, ap, sym}
use Rattle.class_table.specs.Outline.{is_a}
use Rattle.object_alloc.specs.declared.object.Object.{Object}
use Rattle.object_alloc.specs.Walk.{objects}
use Rattle.config_json.proofs.Known.{item_at, in_extent}
use Rattle.config_json.proofs.values.is_of.Goals as goal

pub returns : goal.returns
returns c =
    let o = c.args.objects.now in
    let x = item_at (objects o) c.args.object c.requires.object in
    record {
      extent = c.is_of.ensures.is x.item
          ∙ ap (λ (y : Object). is_a o.classes y.class c.args.class) (x.is x.item)
          ∙ sym (in_extent o c.args.class c.args.object x.item x.has);
    }
