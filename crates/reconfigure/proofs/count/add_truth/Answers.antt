use Rattle.std.proofs.Common.{[], Bool, ◌+ℤ◌, sym, ap, ◌∙◌}
use Rattle.ground_form.specs.Meaning.{bit}
use Rattle.form_build.specs.declared.form.Truth.{Truth}
use Rattle.form_build.specs.Forms.{truth_at}
use Rattle.form_build.proofs.Growth.{adds_nothing}
use Rattle.reconfigure.specs.Counting.{count_at}
use Rattle.reconfigure.proofs.SumLaws.{part_value, count_kept}
use Rattle.reconfigure.proofs.count.add_truth.Goals as goal

pub returns-in-Fixed-clause-adds : goal.returns-in-Fixed-clause-adds
returns-in-Fixed-clause-adds c = adds_nothing [] c.args.maker.now

pub returns-in_ok-push_flag-in-In-clause-value : goal.returns-in_ok-push_flag-in-In-clause-value
returns-in_ok-push_flag-in-In-clause-value c a w =
    let part = c.in_ok-flag-in-In.ensures.part in
    let two = part_value c.part_of.new.maker (c.in_ok-flag-in-In.flag, c.in_ok-flag-in-In.want) _ a c.domains-domains.ensures.well_made.domains part w in
    c.in_ok-push_flag-in-In.ensures.value a two.0 two.1
    ∙ ap (λ (b : Bool). count_at c.args.count.now a +ℤ bit b) (part.value a w ∙ ap (λ (t : Truth). truth_at t a) (sym c.in-In.is))

pub returns-in_ok-push_flag-in-In-clause-numbers : goal.returns-in_ok-push_flag-in-In-clause-numbers
returns-in_ok-push_flag-in-In-clause-numbers c n h =
    let part = c.in_ok-flag-in-In.ensures.part in
    let valid = c.domains-domains.ensures.well_made.domains in
    c.in_ok-push_flag-in-In.ensures.few c.part_of.new.maker.domains n part.exists (valid c.in_ok-flag-in-In.flag [] part.exists) part.flag
    (count_kept c.args.maker.now c.part_of.new.maker n c.args.count.now c.in_ok-flag-in-In.ensures.adds.grows h)
