use Rattle.std.proofs.Common.{rules, ◌≡◌, ◌∙◌, ap, sym, w64, to_z, of_z}
use Rattle.std.specs.Prelude.{option_map}
use Rattle.serde_json.specs.View.{view}
use Rattle.config_json.specs.Former.{one, whole_in, value_in}
use Rattle.config_json.specs.Marked.{member_extent}
use Rattle.config_json.proofs.values.value_in.Goals as goal

pub returns-in-Span : goal.returns-in-Span
returns-in-Span c =
    let o = c.args.objects.now in
    let low : to_z w64 (of_z w64 c.in-Span.low) ≡ c.in-Span.low = search rules in
    let high : to_z w64 (of_z w64 c.in-Span.high) ≡ c.in-Span.high = search rules in
    let range = ap (λ l. option_map one (whole_in l (to_z w64 (of_z w64 c.in-Span.high)) (view c.args.value.now))) low ∙ ap (λ h. option_map one (whole_in c.in-Span.low h (view c.args.value.now))) high in
    record { value = c.one.ensures.one (member_extent o c.args.shape) ∙ ap (option_map one) c.whole_in.ensures.number ∙ range ∙ ap (λ s. value_in o s (view c.args.value.now)) (sym c.in-Span.is) }

pub returns-in-Truth : goal.returns-in-Truth
returns-in-Truth c =
    let o = c.args.objects.now in
    record { value = c.one-in-Truth.ensures.one (member_extent o c.args.shape) ∙ ap (option_map one) c.truth_in.ensures.number ∙ ap (λ s. value_in o s (view c.args.value.now)) (sym c.in-Truth.is) }

pub returns-in_ok-value_number-in-Choice : goal.returns-in_ok-value_number-in-Choice
returns-in_ok-value_number-in-Choice c =
    let o = c.args.objects.now in
    record { value = c.one-in-Choice.ensures.one (member_extent o c.args.shape) ∙ ap (option_map one) c.in_ok-value_number-in-Choice.ensures.number ∙ ap (λ s. value_in o s (view c.args.value.now)) (sym c.in-Choice.is) }

pub returns-in-Ref : goal.returns-in-Ref
returns-in-Ref c =
    let o = c.args.objects.now in
    record { value = c.one-in-Ref.ensures.one (member_extent o c.args.shape) ∙ ap (option_map one) c.object_number.ensures.number ∙ ap (λ s. value_in o s (view c.args.value.now)) (sym c.in-Ref.is) }
