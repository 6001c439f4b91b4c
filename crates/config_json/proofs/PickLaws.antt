-- As many members are picked for a reference set that was read as its shape says.
use Rattle.std.proofs.Common.{◌≡◌, ℕ, suc, ◌+◌, List, [], ◌∷◌, Option, None, Some, Bool, true, false, cond, length, nat_eq, refl, sym, ap, ◌∙◌, arith}
use Rattle.std.specs.Prelude.{ℤ, pos, option_and_then}
use Rattle.std.specs.List.{list_any, cons_option}
use Rattle.class_table.specs.declared.table.Resolved.{Resolved}
use Rattle.class_table.specs.declared.table.Resolved.TheVariants.{Span, Truth, Choice, One, Many, Ref, RefSet}
use Rattle.class_table.specs.Outline.{Outline}
use Rattle.object_alloc.specs.declared.object.Domain.TheVariants as domain
use Rattle.object_alloc.specs.declared.object.Leaf.{Leaf}
use Rattle.object_alloc.specs.Cells.{cell, extent, member_cells, shape_cells}
use Rattle.object_alloc.proofs.PickedMembers.{any_cell, picked, picks}
use Rattle.serde_json.specs.Data.{Data, Items}
use Rattle.serde_json.specs.Events.{items_len}
use Rattle.serde_json.specs.Find.{as_array}
use Rattle.config_json.specs.Former.{truth_number, marks, set_in, value_in}
use Rattle.config_json.proofs.CountLaws.{count, members_count}
use Rattle.config_json.proofs.DomainLaws.{set_read}

marks_picked : (l : Leaf) (members ns : List ℕ) → length (picks any_cell (member_cells l ns) (marks ns members)) ≡ count members ns
marks_picked l members [] = refl
marks_picked l members (n ∷ ns) = by (list_any (nat_eq n) members) (marks_picked l members ns)
  where
    by : (b : Bool) → length (picks any_cell (member_cells l ns) (marks ns members)) ≡ count members ns → length (cons_option (picked (cell l (Some n) (domain.Span (pos 0) (pos 1))) (truth_number b)) (picks any_cell (member_cells l ns) (marks ns members))) ≡ cond b (suc (count members ns)) (count members ns)
    by true e = ap suc e
    by false e = e

module _ (o : Outline) (l : Leaf) where
  array_size : (c n : ℕ) (r : Option Items) (vs : List ℤ) → option_and_then (set_in o c n) r ≡ Some vs → length (picks any_cell (member_cells l (extent o c)) vs) ≡ n
  array_size c n None vs e = cc
  array_size c n (Some ds) vs e =
      let r = set_read o c n ds vs e in
      let counted = members_count o c [] ds r.members r.are (none (extent o c)) in
      ap (λ ws. length (picks any_cell (member_cells l (extent o c)) ws)) (sym r.marks_are) ∙ marks_picked l r.members (extent o c) ∙ counted.all ∙ counted.size ∙ start (items_len ds) n r.size
    where
      none : (ns : List ℕ) → count [] ns ≡ 0
      none [] = refl
      none (n ∷ ns) = none ns

      start : (a b : ℕ) → a ≡ b → 0 + a ≡ b
      start a b e = omega (arith, e)

  pub set_size : (s : Resolved) (c n : ℕ) (d : Data) (vs : List ℤ) → s ≡ RefSet c n → value_in o s d ≡ Some vs → length (picks any_cell (shape_cells o l s) vs) ≡ n
  set_size (RefSet a m) c n d vs is e = let same : m ≡ n = cc in array_size a m (as_array d) vs e ∙ same
  set_size (Span low high) c n d vs is e = cc
  set_size Truth c n d vs is e = cc
  set_size (Choice x) c n d vs is e = cc
  set_size (Ref a) c n d vs is e = cc
  set_size (One a) c n d vs is e = cc
  set_size (Many a m) c n d vs is e = cc
