use Rattle.std.proofs.Common.{◌<◌, ◌^◌, sym, subst}
use Rattle.std.specs.Prelude.{nat_abs}
use Rattle.conf_eval.proofs.NumberLaws.{choice_small, ref_small}
use Rattle.conf_eval.proofs.attributes.attribute_value.Goals as goal
use Rattle.object_alloc.specs.Members.{first_value}

pub first_number-number-requires : goal.first_number-number-requires
first_number-number-requires c =
    let vs = c.args.scene.now.values.now in
    record { small = subst (λ is. nat_abs (first_value vs is) < 2 ^ 32) (sym c.own_cells-cells.ensures.cells) (choice_small c.args.scene.now.objects.now vs c.requires.given c.args.owner c.args.k c.args.shape c.in-Choice.enumeration c.in-Choice.is c.requires.shape) }

pub first_number-requires : goal.first_number-requires
first_number-requires c =
    let vs = c.args.scene.now.values.now in
    record { small = subst (λ is. nat_abs (first_value vs is) < 2 ^ 32) (sym c.own_cells-cells.ensures.cells) (ref_small c.args.scene.now.objects.now vs c.requires.given c.args.owner c.args.k c.args.shape c.in-Ref.field-0 c.in-Ref.is c.requires.shape) }
