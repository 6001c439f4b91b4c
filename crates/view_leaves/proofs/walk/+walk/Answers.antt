use Rattle.std.proofs.Common.{rules, ◌≡◌, ◌++◌, ◌∷◌, [], map, true≢false, string_bytes, sym, ◌∙◌, arith}
use Rattle.std.proofs.lemmas.Grind.{common_steps}
use mathlib.Core.List.{map-append}
use Rattle.serde_json.specs.View.{view, members_view}
use Rattle.view_leaves.specs.Leaves.{leaves_from, IsInOrder}
use Rattle.view_leaves.specs.Paths.{key}
use Rattle.view_leaves.specs.Views.{step_seen, leaves_seen}
use Rattle.view_leaves.proofs.Listing.{Entry, order_left, part_listed, class_passed, sorted_left}
use Rattle.view_leaves.proofs.walk.+walk.Goals as goal

pub push_members-loop-key-preserved-then-not-is_class : goal.push_members-loop-key-preserved-then-not-is_class
push_members-loop-key-preserved-then-not-is_class t c =
    let e : Entry = (c.in-Some.key.now, c.in-Some.member.now) in
    let left = c.next.new.self in
    let steps = c.in-Some.ensures.steps in
    let l = c.loop-key in
    let p = map step_seen c.args.path.now.items in
    let other = c.is_class.ensures in
    let listed : leaves_seen c.push_value.new.leaves.items ≡ leaves_seen l.leaves.items ++ leaves_from (p ++ key (string_bytes e.0) ∷ []) (view e.1) = search (rules, map-append) in (
      part_listed _ _ _ p _ left e steps (search rules) listed l.invariant.0,
      grind (arith, common_steps),
      order_left _ _ left e steps l.invariant.3 (λ _. c.in_ok-push_value.ensures.order) l.invariant.2,
      sorted_left _ left e steps l.invariant.3,
    )

pub push_members-loop-key-preserved : goal.push_members-loop-key-preserved
push_members-loop-key-preserved t c =
    let e : Entry = (c.in-Some.key.now, c.in-Some.member.now) in
    let left = c.next.new.self in
    let steps = c.in-Some.ensures.steps in
    let l = c.loop-key in
    let same = sym c.is_class.ensures ∙ c.if-not-is_class.false in (
      class_passed _ _ _ _ left e steps same l.invariant.0,
      l.invariant.1,
      order_left _ _ left e steps l.invariant.3 (λ other. absurd (true≢false (sym same ∙ other))) l.invariant.2,
      sorted_left _ left e steps l.invariant.3,
    )
