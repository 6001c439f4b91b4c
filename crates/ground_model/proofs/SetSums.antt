-- The sum over the cells of a reference set is the number of its members.
use Rattle.std.proofs.Common.{◌≡◌, ◌≢◌, ℕ, suc, ◌*◌, ◌^◌, ◌<◌, ◌≤◌, Bool, true, false, cond, List, [], ◌∷◌, ℤ, pos, neg_ℤ, ◌+ℤ◌, ◌*ℤ◌, ◌≤ℤ◌, Option, None, Some, All, nat_eq, length, map, take, refl, sym, ap, ◌∙◌, subst, arith}
use Rattle.std.specs.Prelude.{slice_get, slice_index_or, filter_map, option_and_then, unsigned_abs}
use Rattle.std.specs.List.{cons_option}
use Rattle.std.specs.Ordering.{int_eq}
use Rattle.std.proofs.lemmas.Int.{ints}
use Rattle.std.proofs.lemmas.Bool.Decides.{nat_tests}
use Rattle.std.proofs.lemmas.List.Elements.{All-head, All-tail}
use Rattle.class_table.specs.declared.table.Resolved.TheVariants.{RefSet}
use Rattle.class_table.specs.declared.table.Resolved.{Resolved}
use Rattle.class_table.specs.Outline.{Outline}
use Rattle.class_table.specs.Sound.{IsSound}
use Rattle.model_limits.specs.Limits.{most_cells}
use Rattle.object_alloc.specs.declared.object.Cell.{Cell}
use Rattle.object_alloc.specs.declared.object.Leaf.{Leaf}
use Rattle.object_alloc.specs.Cells.{cells, extent}
use Rattle.object_alloc.specs.Groups.{own_cells}
use Rattle.object_alloc.specs.Own.{member_cell}
use Rattle.object_alloc.specs.Walk.{walk, leaves_in}
use Rattle.object_alloc.specs.Members.{member_at}
use Rattle.std.specs.Prelude.{Contains}
use Rattle.conf_eval.specs.Meaning.{int_same, objects_of, attribute_value}
use Rattle.signed_clause.specs.Ranges.{Ranges, has}
use Rattle.signed_clause.specs.Clauses.{Boxes, box_of}
use Rattle.ground_form.specs.declared.ground.Ground.{Ground}
use Rattle.ground_form.specs.Meaning.{value_of, sum_at}
use Rattle.ground_form.specs.Bounds.{reach_of, term_weight, weight_of}
use Rattle.form_build.specs.declared.form.Linear.{Linear}
use Rattle.form_build.specs.Forms.{linear_at}
use Rattle.form_build.specs.Sums.{IsOpen, AreTerms, IsLinear}
use Rattle.form_build.specs.Worlds.{IsWorld}
use Rattle.ground_cells.specs.CellBoxes.{AscendFrom}
use Rattle.expr_forms.specs.Standing.{HasCells}
use Rattle.expr_forms.proofs.Configured.{front_value}
use Rattle.ground_expr.specs.Asked.{has_count, is_full}
use Rattle.ground_model.specs.Sizes.{once, each_once, IsMemberCell}
use Rattle.ground_model.proofs.SetCells.{own_ascend, own_few, members_are, leaf_cells_are}

-- ---- the sum is in good order

open_box : (box : Ranges) → box ≡ (pos 0, pos 1) ∷ [] → IsOpen box
open_box box e = subst IsOpen (sym e) (omega (arith, ints))

one_is : pos 1 ≢ pos 0
one_is e = absurd (omega (arith, ints, e))

terms_are : (g : Ground) (n : ℕ) (xs : List ℕ) → AscendFrom n xs → All (IsMemberCell g) xs → AreTerms g.domains n (each_once xs)
terms_are g n [] s all = tt
terms_are g n (x ∷ xs) s all =
    let m = All-head (IsMemberCell g) x xs all in
    (s.0, m.exists, one_is, open_box (box_of g.domains x) m.box, terms_are g (suc x) xs s.1 (All-tail (IsMemberCell g) x xs all))

once_weight : (boxes : Boxes) (x : ℕ) → box_of boxes x ≡ (pos 0, pos 1) ∷ [] → term_weight (once x) boxes ≡ 1
unfolding term_weight
once_weight boxes x e = ap (λ (z : Ranges). 1 * reach_of z) e

weight_is : (g : Ground) (xs : List ℕ) → All (IsMemberCell g) xs → weight_of (each_once xs) g.domains ≡ length xs
weight_is g [] all = refl
weight_is g (x ∷ xs) all =
    let here = once_weight g.domains x (All-head (IsMemberCell g) x xs all).box in
    let rest = weight_is g xs (All-tail (IsMemberCell g) x xs all) in
    omega (arith, here, rest)

pub linear_is : (g : Ground) (xs : List ℕ) (size : ℕ) (f : Linear) → AscendFrom 0 xs → All (IsMemberCell g) xs → length xs ≤ 2 ^ 32 → size < 2 ^ 32 → f.terms ≡ each_once xs → f.offset ≡ neg_ℤ (pos size) → IsLinear (2 ^ 60) g.domains f
linear_is g xs size f s all few small e h =
    let weight = weight_is g xs all in
    let same = ap (λ (ts : List (ℤ × ℕ)). weight_of ts g.domains) e in
    let offset : unsigned_abs f.offset ≡ size = ap unsigned_abs h ∙ size_is size in
    record {
      terms = subst (λ (ts : List (ℤ × ℕ)). AreTerms g.domains 0 ts) (sym e) (terms_are g 0 xs s all);
      bounded = omega (arith, weight, same, offset, few, small);
    }
  where
    size_is : (n : ℕ) → unsigned_abs (neg_ℤ (pos n)) ≡ n
    size_is n = omega (arith, ints)

-- ---- its value

-- the value of a cell, read in the configuration and in the world
pub record IsBitAt (values a : List ℤ) (x : ℕ) : Type 0 where
  pub same : slice_index_or values x (pos 0) ≡ value_of a x
  pub low : pos 0 ≤ℤ value_of a x
  pub high : value_of a x ≤ℤ pos 1

counted : (v s : ℤ) (n : ℕ) (b : Bool) (rest : List ℕ) → int_same v (pos 1) ≡ b → pos 0 ≤ℤ v → v ≤ℤ pos 1 → s ≡ pos (length rest) → ((pos 1 *ℤ v) +ℤ s) ≡ pos (length (cons_option (cond b (Some n) None) rest))
counted v s n true rest e low high h =
    let one : v ≡ pos 1 = grind (arith, ints) in
    ap (λ (z : ℤ). (pos 1 *ℤ z) +ℤ s) one ∙ omega (arith, ints, h)
counted v s n false rest e low high h =
    let nought : v ≡ pos 0 = grind (arith, ints) in
    ap (λ (z : ℤ). (pos 1 *ℤ z) +ℤ s) nought ∙ omega (arith, ints, h)

first_same : {X : Type 0} {a b : X} {rest more : List X} → a ∷ rest ≡ b ∷ more → a ≡ b
first_same g = cc

rest_same : {X : Type 0} {a b : X} {rest more : List X} → a ∷ rest ≡ b ∷ more → rest ≡ more
rest_same g = cc

module _ (cs : List Cell) (values a : List ℤ) (owner : Option ℕ) (k : ℕ) where
  chosen_is : (x n : ℕ) → slice_index_or values x (pos 0) ≡ value_of a x → slice_get cs x ≡ Some (member_cell owner k n) → member_at cs values x ≡ cond (int_same (value_of a x) (pos 1)) (Some n) None
  chosen_is x n same e =
      ap (λ (r : Option Cell). cond (int_same (slice_index_or values x (pos 0)) (pos 1)) (option_and_then (λ (c : Cell). c.element) r) None) e
      ∙ ap (λ (v : ℤ). cond (int_same v (pos 1)) (Some n) None) same

  pub sum_is : (xs ns : List ℕ) → map (λ i. slice_get cs i) xs ≡ map Some (map (member_cell owner k) ns) → All (IsBitAt values a) xs → sum_at (each_once xs) a ≡ pos (length (filter_map (member_at cs values) xs))
  sum_is [] ns e all = refl
  sum_is (x ∷ xs) [] e all = cc
  sum_is (x ∷ xs) (n ∷ ns) e all =
      let m = All-head (IsBitAt values a) x xs all in
      let rest = sum_is xs ns (rest_same e) (All-tail (IsBitAt values a) x xs all) in
      counted (value_of a x) (sum_at (each_once xs) a) n (int_same (value_of a x) (pos 1)) (filter_map (member_at cs values) xs) refl m.low m.high rest
      ∙ ap (λ (r : Option ℕ). pos (length (cons_option r (filter_map (member_at cs values) xs)))) (sym (chosen_is x n m.same (first_same e)))

bit_low : (box : Ranges) (v : ℤ) → box ≡ (pos 0, pos 1) ∷ [] → has box v ≡ true → pos 0 ≤ℤ v
bit_low box v e h = let g = subst (λ (z : Ranges). has z v ≡ true) e h in grind (arith, ints)

bit_high : (box : Ranges) (v : ℤ) → box ≡ (pos 0, pos 1) ∷ [] → has box v ≡ true → v ≤ℤ pos 1
bit_high box v e h = let g = subst (λ (z : Ranges). has z v ≡ true) e h in grind (arith, ints)

bit_at : (g : Ground) (a : List ℤ) (x : ℕ) → IsWorld g a → IsMemberCell g x → IsBitAt (take g.search a) a x
bit_at g a x w m = record {
  same = front_value g.search x a m.searched;
  low = bit_low (box_of g.domains x) (value_of a x) m.box (w.within x m.exists);
  high = bit_high (box_of g.domains x) (value_of a x) m.box (w.within x m.exists);
}

bits_at : (g : Ground) (a : List ℤ) (xs : List ℕ) → IsWorld g a → All (IsMemberCell g) xs → All (IsBitAt (take g.search a) a) xs
bits_at g a xs w all k d lt = bit_at g a (slice_index_or xs k d) w (all k d lt)

-- ---- a set is full where the surplus is 0

compared : (m n : ℕ) (s d : ℤ) → s ≡ pos m → d ≡ neg_ℤ (pos n) → int_eq (s +ℤ d) (pos 0) ≡ nat_eq m n
compared m n s d e h = grind (arith, ints, nat_tests)

module _ (o : Outline) (sound : IsSound o) (l : Leaf) (c n : ℕ) (has_leaf : Contains (leaves_in (walk o)) l) (is : l.shape ≡ RefSet c n) where
  pub own_members : (g : Ground) → HasCells o g → All (IsMemberCell g) (own_cells o l.owner l.attribute)
  own_members g there = members_are o g there l.owner l.attribute (own_cells o l.owner l.attribute) (extent o c) (leaf_cells_are o sound l c n has_leaf is)

  pub surplus_linear : (g : Ground) (f : Linear) → HasCells o g → length (cells o) ≤ most_cells → n < 2 ^ 32 → f.terms ≡ each_once (own_cells o l.owner l.attribute) → f.offset ≡ neg_ℤ (pos n) → IsLinear (2 ^ 60) g.domains f
  surplus_linear g f there few small e h =
      let less = own_few o l.owner l.attribute in
      linear_is g (own_cells o l.owner l.attribute) n f (own_ascend o l.owner l.attribute) (own_members g there) (omega (arith, less, few)) small e h

  pub full_is : (g : Ground) (f : Linear) (a : List ℤ) → HasCells o g → IsWorld g a → f.terms ≡ each_once (own_cells o l.owner l.attribute) → f.offset ≡ neg_ℤ (pos n) → int_eq (linear_at f a) (pos 0) ≡ is_full o (take g.search a) l
  full_is g f a there w e h =
      let values = take g.search a in
      let xs = own_cells o l.owner l.attribute in
      let sum = ap (λ (ts : List (ℤ × ℕ)). sum_at ts a) e ∙ sum_is (cells o) values a l.owner l.attribute xs (extent o c) (leaf_cells_are o sound l c n has_leaf is) (bits_at g a xs w (own_members g there)) in
      compared (length (filter_map (member_at (cells o) values) xs)) n (sum_at f.terms a) f.offset sum h
      ∙ ap (λ (s : Resolved). has_count s (length (objects_of (attribute_value o values l.owner l.attribute s)))) (sym is)

-- ---- a set that is to have members has cells

pub never_full : (o : Outline) (values : List ℤ) (l : Leaf) (c n : ℕ) → l.shape ≡ RefSet c n → own_cells o l.owner l.attribute ≡ [] → 0 < n → is_full o values l ≡ false
never_full o values l c n is none some =
    ap (λ (s : Resolved). has_count s (length (objects_of (attribute_value o values l.owner l.attribute s)))) is
    ∙ ap (λ (xs : List ℕ). nat_eq (length (filter_map (member_at (cells o) values) xs)) n) none
    ∙ other n some
  where
    other : (n : ℕ) → 0 < n → nat_eq 0 n ≡ false
    other n h = grind (arith, nat_tests)
