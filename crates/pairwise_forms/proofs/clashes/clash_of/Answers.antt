use Rattle.std.proofs.Common.{◌&&◌, Bool, [], ap, ◌∙◌}
use Rattle.form_build.specs.Forms.{truth_at}
use Rattle.form_build.proofs.Growth.{world_before, adds_nothing, defines_more}
use Rattle.pairwise_forms.proofs.clashes.clash_of.Goals as goal

pub returns-then-is_one_out-clause-adds : goal.returns-then-is_one_out-clause-adds
returns-then-is_one_out-clause-adds c = adds_nothing [] c.args.maker.now

pub returns-clause-value : goal.returns-clause-value
returns-clause-value c a w =
    let before = world_before c.same_keys.new.maker c.all_three.new.maker a c.in_ok-t.ensures.adds.grows w in
    c.in_ok-t.ensures.value a w
    ∙ ap (λ (b : Bool). (truth_at c.args.e.now.kept a && truth_at c.args.f.now.kept a) && b) (c.in_ok-alike.ensures.value a before)

pub returns-clause-adds : goal.returns-clause-adds
returns-clause-adds c = defines_more c.args.maker.now c.same_keys.new.maker c.all_three.new.maker c.in_ok-alike.ensures.adds c.in_ok-t.ensures.adds
