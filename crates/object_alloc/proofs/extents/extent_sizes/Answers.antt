use Rattle.std.proofs.Common.{rules, ◌≡◌, ◌+◌, ◌<◌, ◌++◌, ℕ, length, take, drop, ap, ◌∙◌, arith}
use Rattle.std.specs.Prelude.{slice_index}
use Rattle.std.specs.List.{sum_by}
use Rattle.model_limits.specs.Limits.{most_objects}
use Rattle.object_alloc.specs.declared.queue.Kind.{Kind}
use Rattle.object_alloc.specs.Sums.{of_kind, kin}
use Rattle.object_alloc.proofs.ExtentLaws.{queue_next, lawful_drop, written, kin_most, most_all}
use Rattle.object_alloc.proofs.extents.extent_sizes.Goals as goal

pub loop-kind-preserved : goal.loop-kind-preserved
loop-kind-preserved c =
    let o = c.args.table.now in
    let old = c.loop-kind.sizes.items in
    let new = c.count_kin.new.sizes in
    let i = c.loop-kind.kind-index in
    let zero_kind : Kind = record { class = 0; depth = 0 } in
    let size : length new ≡ length old = search rules in
    let same : take c.loop-kind.sizes.len (new ++ drop (length new) old) ≡ new = written c.loop-kind.sizes.len new old (search rules) size in
    let each : (x : ℕ) → x < length o.classes → slice_index new x + sum_by (of_kind (kin o x)) (drop (i + 1) c.args.queue.now) ≡ sum_by (of_kind (kin o x)) c.args.queue.now =
    λ x on.
    let next = queue_next (kin o x) c.args.queue.now i zero_kind c.loop-kind-test.true in
    let was = c.loop-kind.invariant.each x on in
    let now = c.count_kin.ensures.each x on in
    let from = ap (λ xs. slice_index xs x) c.deref_mut.ensures.value in
    omega (arith, next, was, now, from) in
    record {
      count = ap length same ∙ size ∙ c.loop-kind.invariant.count;
      most = most_all most_objects (take c.loop-kind.sizes.len (new ++ drop (length new) old)) (λ x lt.
          let on : x < length o.classes = omega (arith, lt, ap length same, size, c.loop-kind.invariant.count) in
          let e = each x on in
          let few = kin_most o x c.args.queue.now in
          let at = ap (λ xs. slice_index xs x) same in
          omega (arith, e, few, at, c.requires.few));
      each = λ x on. ap (λ xs. slice_index xs x + sum_by (of_kind (kin o x)) (drop (i + 1) c.args.queue.now)) same ∙ each x on;
      lawful = lawful_drop (length o.classes) 1 (i + 1) c.args.queue.now c.requires.lawful;
    }
