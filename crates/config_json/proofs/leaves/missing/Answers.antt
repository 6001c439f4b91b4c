use Rattle.std.proofs.Common.{rules, ◌≡◌, ◌∙◌, None, ap, arith}
use Rattle.serde_json.specs.View.{view}
use Rattle.config_json.specs.Former.{first_missing, missing}
use Rattle.config_json.proofs.HintLaws.{some_leaf, leaf_at, missing_here, missing_none}
use Rattle.config_json.proofs.leaves.missing.Goals as goal

pub former_of-requires-clause-leaf : goal.former_of-requires-clause-leaf
former_of-requires-clause-leaf c =
    leaf_at c.args.objects.now c.leaves-leaf-items.result.now c.loop-leaf.leaf-index some_leaf
    c.leaves-leaf-items.ensures.leaves c.loop-leaf-test.true

pub leaf_text-requires : goal.leaf_text-requires
leaf_text-requires c =
    record {
      leaf = leaf_at c.args.objects.now c.leaves-leaf-items.result.now c.loop-leaf.leaf-index
          some_leaf c.leaves-leaf-items.ensures.leaves c.loop-leaf-test.true;
    }

pub returns-then-is_none : goal.returns-then-is_none
returns-then-is_none c =
    let o = c.args.objects.now in
    let d = view c.args.former.now.value in
    let ls = c.leaves-leaf-items.result.now in
    let none : c.in_ok-found.found ≡ None = search rules in
    record {
      path = missing_here o d ls c.loop-leaf.leaf-index some_leaf c.in_ok-found.found c.in_ok-path.path c.loop-leaf-test.true none c.in_ok-found.ensures.value c.in_ok-path.ensures.path
          ∙ c.loop-leaf.invariant ∙ ap (first_missing o d) c.leaves-leaf-items.ensures.leaves
          ∙ ap (λ z. missing z d) c.requires.same;
    }

pub returns : goal.returns
returns c =
    let o = c.args.objects.now in
    let d = view c.args.former.now.value in
    let ls = c.leaves-leaf-items.result.now in
    record {
      path = missing_none o d ls c.loop-leaf.leaf-index (omega (arith, c.loop-leaf-test.false, c.loop-leaf.auto))
          ∙ c.loop-leaf.invariant ∙ ap (first_missing o d) c.leaves-leaf-items.ensures.leaves
          ∙ ap (λ z. missing z d) c.requires.same;
    }
