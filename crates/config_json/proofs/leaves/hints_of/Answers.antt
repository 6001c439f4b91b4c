use Rattle.std.proofs.Common.{◌≡◌, ◌∙◌, ap, arith, subst}
use Rattle.std.specs.Prelude.{slice_index_or}
use Rattle.std.specs.List.{flat_map}
use Rattle.class_table.specs.Sound.{IsSound}
use Rattle.serde_json.specs.View.{view}
use Rattle.config_json.specs.Former.{leaf_hints, hints}
use Rattle.config_json.proofs.HintLaws.{some_leaf, all_next, all_done, leaf_at, hints_made}
use Rattle.config_json.proofs.WholeLaws.{hints_form, whole_found}
use Rattle.config_json.proofs.leaves.hints_of.Goals as goal

pub former_of-requires-clause-leaf : goal.former_of-requires-clause-leaf
former_of-requires-clause-leaf c =
    leaf_at c.args.objects.now c.leaves-leaf-items.result.now c.loop-leaf.leaf-index _
    c.leaves-leaf-items.ensures.leaves c.loop-leaf-test.true

pub push_hints-requires-clause-leaf : goal.push_hints-requires-clause-leaf
push_hints-requires-clause-leaf c = leaf_at c.args.objects.now c.leaves-leaf-items.result.now c.loop-leaf.leaf-index _ c.leaves-leaf-items.ensures.leaves c.loop-leaf-test.true

pub loop-leaf-preserved : goal.loop-leaf-preserved
loop-leaf-preserved c =
    let o = c.args.objects.now in
    let d = view c.args.former.now.value in
    let ls = c.leaves-leaf-items.result.now in
    let made =
    hints_made o d (slice_index_or ls c.loop-leaf.leaf-index some_leaf) c.in_ok-found.found
    c.loop-leaf.hints.items c.push_hints.new.hints.items c.in_ok-found.ensures.value
    c.in_ok-push_hints.ensures.hints in
    all_next (leaf_hints o d) ls c.loop-leaf.leaf-index some_leaf c.loop-leaf.hints.items c.push_hints.new.hints.items (flat_map (leaf_hints o d) ls) c.loop-leaf-test.true made c.loop-leaf.invariant

pub returns : goal.returns
returns c =
    let o = c.args.table.now in
    let d = view c.args.former.now.value in
    let f = leaf_hints c.args.objects.now d in
    let found : c.of.result ≡ hints o d =
    c.of.ensures.values
    ∙ all_done f c.leaves-leaf-items.result.now c.loop-leaf.leaf-index c.loop-leaf.hints.items (flat_map f c.leaves-leaf-items.result.now) (omega (arith, c.loop-leaf-test.false, c.loop-leaf.auto)) c.loop-leaf.invariant
    ∙ ap (flat_map f) c.leaves-leaf-items.ensures.leaves ∙ ap (λ z. hints z d) c.requires.same in
    let sound = subst IsSound c.requires.same c.count-count.ensures.sound in
    record {
      hints = found;
      form = hints_form o d c.of.result found;
      whole = λ none. whole_found o d c.of.result sound found none;
    }
