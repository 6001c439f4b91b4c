use Rattle.std.proofs.Common.{rules, ◌≡◌, ◌∙◌, [], Some, length, ap, sym}
use Rattle.std.specs.Prelude.{option_map}
use Rattle.object_alloc.specs.Cells.{extent}
use Rattle.serde_json.specs.Find.{as_array}
use Rattle.serde_json.specs.View.{view, items_view}
use Rattle.config_json.specs.Former.{members_in, marks}
use Rattle.config_json.specs.Marked.{marked}
use Rattle.config_json.proofs.MarkLaws.{set_other, set_read}
use Rattle.config_json.proofs.values.set_in.Goals as goal

pub returns-then-len-count : goal.returns-then-len-count
returns-then-len-count c =
    let array : as_array (view c.args.value.now) ≡ Some (items_view c.in-Some.items.now.items) = search rules in
    record {
      set = sym (set_other c.args.objects.now c.args.class c.args.count
          (as_array (view c.args.value.now)) c.in-Some.items.now.items array (search rules));
    }

pub returns-in-Some-2 : goal.returns-in-Some-2
returns-in-Some-2 c =
    let o = c.args.objects.now in
    let items = c.in-Some.items.now.items in
    let array : as_array (view c.args.value.now) ≡ Some (items_view items) = search rules in
    let same : length items ≡ c.args.count = search rules in
    let given : c.deref.result.now ≡ items = search rules in
    let read : Some (marked (extent o c.args.class) c.in-Some-2.marks.items) ≡ option_map (marks (extent o c.args.class)) (members_in o c.args.class [] (items_view items)) = ap (option_map (λ flags. marked (extent o c.args.class) flags.items)) (sym c.in-Some-2.is) ∙ c.in_ok-marks.ensures.members ∙ ap (λ vs. option_map (marks (extent o c.args.class)) (members_in o c.args.class [] (items_view vs))) given in
    record { set = read ∙ sym (set_read o c.args.class c.args.count (as_array (view c.args.value.now)) items array same) }
