use Rattle.std.proofs.Common.{[], ◌≡◌, ◌<◌, ◌+◌, ◌*◌, ℕ, List, ℤ, pos, ◌+ℤ◌, drop, get_or, length, take, refl, sym, subst, arith}
use Rattle.std.specs.List.{flat_map}
use Rattle.object_alloc.specs.declared.object.Leaf.{Leaf}
use Rattle.object_alloc.specs.Cells.{cells, leaf_cells}
use Rattle.object_alloc.specs.Changes.{changes, changes_of}
use Rattle.object_alloc.specs.Walk.{leaves_in, walk}
use Rattle.form_build.specs.Worlds.{IsFew}
use Rattle.form_build.proofs.Growth.{adds_nothing, defines_more, few_none, few_more, world_before}
use Rattle.reconfigure.specs.Counting.{count_at, IsCount}
use Rattle.reconfigure.proofs.LeafLaws.{counted_first, leaf_counted, left_first, left_next, within_cells}
use Rattle.reconfigure.proofs.NamedLaws.{cells_searched}
use Rattle.reconfigure.proofs.changed.count_changes.Goals as goal

pub loop-i-init : goal.loop-i-init
loop-i-init c =
    let o = c.args.objects.now in
    record {
      left = left_first o;
      value = λ a w. counted_first (count_at c.new-count.result a) (changes o c.args.former.now (take c.args.maker.now.search a)) (c.new-count.ensures.value a);
      numbers = c.new-count.ensures.numbers c.args.maker.now.domains;
      adds = adds_nothing [] c.args.maker.now;
      few = few_none 0 c.args.maker.now;
    }

pub count_next-requires-clause-searched : goal.count_next-requires-clause-searched
count_next-requires-clause-searched c =
    let o = c.args.objects.now in
    let e = c.leaves-leaves.ensures.leaves in
    let i = c.loop-i.i in
    let x = c.leaf_at-leaf.result in
    let within = within_cells o (leaves_in (walk o)) i c.loop-i.first (length (leaf_cells o x)) x
    (subst (λ (ys : List Leaf). i < length ys) e c.loop-i-test.true) (subst (λ (ys : List Leaf). x ≡ get_or ys i x) e (c.leaf_at-leaf.ensures x)) refl c.loop-i.invariant.left in
    let searched = cells_searched o c.args.maker.now c.requires.cells in
    let still = c.loop-i.invariant.adds.grows.search in
    omega (arith, within, searched, still)

pub loop-i-preserved : goal.loop-i-preserved
loop-i-preserved c =
    let o = c.args.objects.now in
    let ls = leaves_in (walk o) in
    let hs = c.args.former.now in
    let e = c.leaves-leaves.ensures.leaves in
    let i = c.loop-i.i in
    let first = c.loop-i.first in
    let x = c.leaf_at-leaf.result in
    let n = length (leaf_cells o x) in
    let old = c.loop-i.maker in
    let new = c.count_next.new.maker in
    let count = c.count_next.new.count in
    let lt : i < length ls = subst (λ (ys : List Leaf). i < length ys) e c.loop-i-test.true in
    let is : x ≡ get_or ls i x = subst (λ (ys : List Leaf). x ≡ get_or ys i x) e (c.leaf_at-leaf.ensures x) in
    let there = c.loop-i.invariant in
    let more = c.in_ok-first.ensures in
    let next : first + n ≡ c.in_ok-first.first = sym more.next in
    let twice : 2 * first + 2 * n ≡ 2 * c.in_ok-first.first = omega (arith, next) in
    let thrice : 3 * first + 3 * n ≡ 3 * c.in_ok-first.first = omega (arith, next) in
    let grows = more.adds.grows in
    record {
      left = subst (λ (k : ℕ). k + length (flat_map (leaf_cells o) (drop (i + 1) ls)) ≡ length (cells o)) next (left_next o ls i first n x lt is refl there.left);
      value = λ a w.
          let all : ℕ → ℤ = λ s. pos (changes o hs (take s a)) in
          let before = there.value a (world_before old new a grows w) in
          let base = subst (λ (s : ℕ). (count_at c.loop-i.count a +ℤ pos (changes_of o (drop i ls) (drop first hs) (drop first (take s a)))) ≡ all s) (sym grows.search) before in
          subst (λ (k : ℕ). (count_at count a +ℤ pos (changes_of o (drop (i + 1) ls) (drop k hs) (drop k (take new.search a)))) ≡ all new.search) next
          (leaf_counted o ls i first n x hs (take new.search a) (count_at c.loop-i.count a) (count_at count a) (all new.search) lt is refl (more.value a w) base);
      numbers = subst (λ (k : ℕ). IsCount new.domains k count) twice (more.numbers (2 * first) there.numbers);
      adds = defines_more c.args.maker.now old new there.adds more.adds;
      few = subst (λ (k : ℕ). IsFew k c.args.maker.now new) thrice (few_more (3 * first) (3 * n) c.args.maker.now old new there.few more.few);
    }
