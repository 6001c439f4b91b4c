-- The form of an attribute, shape by shape.
use Rattle.std.proofs.Common.{◌≡◌, ℕ, zero, suc, ◌*◌, ◌<◌, ◌≤◌, ◌^◌, Bool, true, false, List, [], ◌∷◌, ℤ, pos, negsuc, ◌-ℤ◌, ◌≤ℤ◌, Option, Some, length, map, take, Global, refl, sym, ap, ◌∙◌, subst, arith}
use Rattle.std.specs.Prelude.{Contains, nat_abs, slice_get, slice_index_or, filter_map}
use Rattle.std.specs.declared.vec.Vec.{Vec}
use Rattle.std.specs.List.{All}
use Rattle.std.proofs.lemmas.Int.{ints}
use Rattle.class_table.specs.declared.table.Resolved.{Resolved}
use Rattle.class_table.specs.declared.table.Resolved.TheVariants as shape
use Rattle.class_table.specs.Outline.{Outline}
use Rattle.class_table.specs.Sound.{IsSound, held_class}
use Rattle.object_alloc.specs.declared.object.Domain.TheVariants as domain
use Rattle.object_alloc.specs.Cells.{cells, extent, value_count}
use Rattle.object_alloc.specs.Groups.{parts_of, own_cells}
use Rattle.object_alloc.specs.Own.{held_count}
use Rattle.object_alloc.proofs.OwnParts.{parts_count, part_is, members_are}
use Rattle.object_alloc.specs.Members.{member_at}
use Rattle.conf_eval.specs.declared.value.Value.TheVariants.{Int, Truth, Choice, Object, Objects}
use Rattle.conf_eval.specs.Fitting.{HasShape}
use Rattle.conf_eval.specs.Meaning.{first_object, int_same}
use Rattle.conf_limits.specs.Measures.{is_narrow, between}
use Rattle.conf_eval.proofs.LawsClasses.{in_own_extent}
use Rattle.signed_clause.specs.Ranges.{Ranges, has, is_nil, IsValid}
use Rattle.signed_clause.specs.Clauses.{box_of}
use Rattle.ground_form.specs.declared.ground.Ground.{Ground}
use Rattle.ground_form.specs.Meaning.{value_of}
use Rattle.ground_form.specs.Bounds.{low_of, high_of, reach_of}
use Rattle.ground_form.specs.WellMade.{IsWellMade}
use Rattle.form_build.specs.declared.form.Linear.{Linear}
use Rattle.form_build.specs.declared.form.Truth.{Truth as ATruth}
use Rattle.form_build.specs.Forms.{linear_at, truth_at, HasVariable}
use Rattle.form_build.specs.Sums.{IsLinear, LiesFrom}
use Rattle.form_build.specs.Worlds.{IsInBoxes, IsWorld, AreSome}
use Rattle.form_build.proofs.Linears.{linear_more}
use Rattle.ground_cells.proofs.Points.{domain_of}
use Rattle.expr_forms.specs.declared.form.Choice.{Choice as AChoice}
use Rattle.expr_forms.specs.declared.form.Choice.TheVariants as choice
use Rattle.expr_forms.specs.declared.form.Listing.TheVariants as listing
use Rattle.expr_forms.specs.declared.form.Member.{Member}
use Rattle.expr_forms.specs.declared.form.Form.{Form}
use Rattle.expr_forms.specs.declared.form.Form.TheVariants as form
use Rattle.expr_forms.specs.FormBounds.{IsCandidate, MayBe, IsChoiceOf, IsFrom, candidate_count}
use Rattle.expr_forms.specs.FormValues.{choice_at, members_at}
use Rattle.expr_forms.proofs.Trees.{no_number}
use Rattle.reference_forms.specs.Attributes.{IsCellOf, IsCellChoice, IsAttributeForm, element_at}
use Rattle.reference_forms.proofs.BoxFacts.{span_ends, narrow_reach, low_there}
use Rattle.reference_forms.proofs.CellLaws.{cell_value}
use Rattle.reference_forms.proofs.MemberLists.{filter_all, set_is}

module _ (o : Outline) (g : Ground) (owner : Option ℕ) (k : ℕ) where
  pub span_form : (low high : ℤ) (x : ℕ) (f : Linear) → is_narrow (between low high) ≡ true → AreSome g.domains → IsCellOf o g owner k (domain.Span low high) x →
      ((a : List ℤ) → IsInBoxes g.domains a → linear_at f a ≡ value_of a x) → IsLinear (reach_of (box_of g.domains x)) g.domains f → LiesFrom (low_of (box_of g.domains x)) (high_of (box_of g.domains x)) g.domains f →
      IsAttributeForm o g owner k (shape.Span low high) (form.Number f)
  span_form low high x f narrow some c value linear lies =
      let ends = span_ends low high (box_of g.domains x) c.box (some x [] c.exists) in
      record {
        stands = λ a w. ap (λ (v : ℤ). Int v) (cell_value o g owner k (domain.Span low high) x a c ∙ sym (value a w.within));
        number = record {
          linear = linear_more (reach_of (box_of g.domains x)) (2 ^ 58) g.domains f (narrow_reach low high (box_of g.domains x) narrow ends) linear;
          lies = record { low_is = omega (arith, ints, lies.low_is, ends.low_is); high_is = omega (arith, ints, lies.high_is, ends.high_is) };
        };
        truth = tt;
        typed = tt;
        reached = λ r h. omega arith;
      }

  pub truth_form : (x : ℕ) (t : ATruth) → IsCellOf o g owner k (domain.Span (pos 0) (pos 1)) x → HasVariable (length g.domains) t →
      ((a : List ℤ) → IsInBoxes g.domains a → truth_at t a ≡ int_same (value_of a x) (pos 1)) →
      IsAttributeForm o g owner k shape.Truth (form.Truth t)
  truth_form x t c variable value = record {
    stands = λ a w. ap (λ (v : ℤ). Truth (int_same v (pos 1))) (cell_value o g owner k (domain.Span (pos 0) (pos 1)) x a c) ∙ ap (λ (b : Bool). Truth b) (sym (value a w.within));
    number = no_number g.domains _ _ refl refl;
    truth = variable;
    typed = tt;
    reached = λ r h. omega arith;
  }

  -- what a cell's variable may be
  chosen_of : (P : ℕ → Type 0) (x : ℕ) (c : AChoice) → x < length g.domains → IsCellChoice g.domains x c → MayBe g.domains P x → IsChoiceOf g.domains P c
  chosen_of P x (choice.Fixed n) lt is may = by (may (pos n) is)
    where
      same : {a b : ℕ} → pos a ≡ pos b → a ≡ b
      same e = cc

      by : IsCandidate P (pos n) → P n
      by h = subst P (sym (same h.is)) h.may
  chosen_of P x (choice.Cell y) lt is may = subst (λ (z : ℕ). (z < length g.domains) × MayBe g.domains P z) (sym is) (lt, may)
  chosen_of P x (choice.Mapped y m) lt is may = absurd is

  from_of : (d x : ℕ) (c : AChoice) → d < length o.classes → IsCellChoice g.domains x c → MayBe g.domains (Contains (extent o d)) x → IsFrom o g.domains d c
  from_of d x (choice.Fixed n) low is may = tt
  from_of d x (choice.Cell y) low is may = subst (λ (z : ℕ). (d < length o.classes) × MayBe g.domains (Contains (extent o d)) z) (sym is) (low, may)
  from_of d x (choice.Mapped y m) low is may = absurd is

  small : (n : ℕ) (v : ℤ) → pos 0 ≤ℤ v → v ≤ℤ (pos n -ℤ pos 1) → IsCandidate (λ m. m < n) v
  small n (pos m) l h = record { number = m; is = refl; may = omega (arith, ints, l, h) }
  small n (negsuc m) l h = absurd (omega (arith, ints, l, h))

  value_may : (e x : ℕ) → IsCellOf o g owner k (domain.Span (pos 0) (pos (value_count o e) -ℤ pos 1)) x → MayBe g.domains (λ n. n < value_count o e) x
  value_may e x c v h =
      let d = domain_of o (domain.Span (pos 0) (pos (value_count o e) -ℤ pos 1)) v (subst (λ (z : Ranges). has z v ≡ true) c.box h) in
      small (value_count o e) v d.0 d.1

  some_there : (xs : List ℕ) (n : ℕ) → Contains xs n → 1 ≤ length xs
  some_there xs n h = omega (arith, h.1)

  -- the extent of a cell's class isn't empty, as its box isn't
  extent_some : (d x : ℕ) → IsValid (box_of g.domains x) → is_nil (box_of g.domains x) ≡ false → MayBe g.domains (Contains (extent o d)) x → 1 ≤ length (extent o d)
  extent_some d x valid some may =
      let i = may (low_of (box_of g.domains x)) (low_there (box_of g.domains x) valid some) in
      some_there (extent o d) i.number i.may

  few_candidates : (d x : ℕ) (c : AChoice) → IsCellChoice g.domains x c → 1 ≤ length (extent o d) → candidate_count o d c ≤ length (extent o d)
  few_candidates d x (choice.Fixed n) is some = some
  few_candidates d x (choice.Cell y) is some = omega arith
  few_candidates d x (choice.Mapped y m) is some = absurd is

  object_may : (d x : ℕ) → IsCellOf o g owner k (domain.Extent d) x → MayBe g.domains (Contains (extent o d)) x
  object_may d x c v h =
      let i = domain_of o (domain.Extent d) v (subst (λ (z : Ranges). has z v ≡ true) c.box h) in
      record { number = i.object; is = i.is; may = i.has }

  pub choice_form : (e x : ℕ) (c : AChoice) → IsCellOf o g owner k (domain.Span (pos 0) (pos (value_count o e) -ℤ pos 1)) x → IsCellChoice g.domains x c →
      ((a : List ℤ) → IsInBoxes g.domains a → choice_at c a ≡ nat_abs (value_of a x)) →
      IsAttributeForm o g owner k (shape.Choice e) (form.Choice e c)
  choice_form e x c cell is value = record {
    stands = λ a w. ap (λ (n : ℕ). Choice e n) (ap nat_abs (cell_value o g owner k (domain.Span (pos 0) (pos (value_count o e) -ℤ pos 1)) x a cell) ∙ sym (value a w.within));
    number = no_number g.domains _ _ refl refl;
    truth = tt;
    typed = (refl, chosen_of (λ n. n < value_count o e) x c cell.exists is (value_may e x cell));
    reached = λ r h. omega arith;
  }

  pub ref_form : (d x : ℕ) (c : AChoice) → d < length o.classes → IsWellMade g → AreSome g.domains → IsCellOf o g owner k (domain.Extent d) x → IsCellChoice g.domains x c →
      ((a : List ℤ) → IsInBoxes g.domains a → choice_at c a ≡ nat_abs (value_of a x)) →
      IsAttributeForm o g owner k (shape.Ref d) (form.Object d c)
  ref_form d x c low made some cell is value = record {
    stands = λ a w. ap (λ (n : ℕ). Object n) (ap nat_abs (cell_value o g owner k (domain.Extent d) x a cell) ∙ sym (value a w.within));
    number = no_number g.domains _ _ refl refl;
    truth = tt;
    typed = (chosen_of (Contains (extent o d)) x c cell.exists is (object_may d x cell), from_of d x c low is (object_may d x cell));
    reached = λ r h.
        let there = extent_some d x (made.domains x [] cell.exists) (some x [] cell.exists) (object_may d x cell) in
        few_candidates d x c is there;
  }

  get_there : (xs : List ℕ) (i d : ℕ) → i < length xs → slice_get xs i ≡ Some (slice_index_or xs i d)
  get_there [] i d h = absurd (omega (arith, h))
  get_there (x ∷ xs) zero d h = refl
  get_there (x ∷ xs) (suc i) d h = get_there xs i d (omega (arith, h))

  module _ (sound : IsSound o) (s : Resolved) (h : HasShape o owner k s) where
    count : length (parts_of o owner k) ≡ held_count s
    count = parts_count o sound owner k h.variable h.there h.is ∙ ap held_count h.shape

    parts_in : (c : ℕ) → held_class s ≡ Some c → All (Contains (extent o c)) (parts_of o owner k)
    parts_in c e i d lt =
        let p = part_is o sound owner k h.variable h.there h.is c i (slice_index_or (parts_of o owner k) i d) (ap held_class h.shape ∙ e) (get_there (parts_of o owner k) i d lt) in
        in_own_extent o c (slice_index_or (parts_of o owner k) i d) p.object p.has p.class_is

  first_in : (P : ℕ → Type 0) (xs : List ℕ) → length xs ≡ 1 → All P xs → P (first_object xs)
  first_in P [] e all = absurd (omega (arith, e))
  first_in P (x ∷ xs) e all = all 0 x (omega arith)

  pub one_form : (c n : ℕ) → IsSound o → HasShape o owner k (shape.One c) → n ≡ first_object (parts_of o owner k) → IsAttributeForm o g owner k (shape.One c) (form.Object c (choice.Fixed n))
  one_form c n sound h e = record {
    stands = λ a w. ap (λ (m : ℕ). Object m) (sym e);
    number = no_number g.domains _ _ refl refl;
    truth = tt;
    typed = (subst (Contains (extent o c)) (sym e) (first_in (Contains (extent o c)) (parts_of o owner k) (count sound (shape.One c) h) (parts_in sound (shape.One c) h c refl)), tt);
    reached = λ r lt. omega arith;
  }

  many_reached : (r n m : ℕ) → 1 ≤ r → m ≡ n → m ≤ r * n
  many_reached zero n m h e = absurd (omega (arith, h))
  many_reached (suc r) n m h e = omega (arith, e)

  pub many_form : (c m : ℕ) (xs : Vec ℕ Global) → IsSound o → HasShape o owner k (shape.Many c m) → xs.items ≡ parts_of o owner k → IsAttributeForm o g owner k (shape.Many c m) (form.List (listing.All xs))
  many_form c m xs sound h e = record {
    stands = λ a w. ap (λ (ys : List ℕ). Objects ys) (sym e);
    number = no_number g.domains _ _ refl refl;
    truth = tt;
    typed = subst (All (Contains (extent o c))) (sym e) (parts_in sound (shape.Many c m) h c refl);
    reached = λ r lt. many_reached r m (length xs.items) lt (ap length e ∙ count sound (shape.Many c m) h);
  }

  pub set_form : (c m : ℕ) (ms : Vec Member Global) → IsSound o → HasShape o owner k (shape.RefSet c m) →
      ((a : List ℤ) → IsWorld g a → members_at ms.items a ≡ filter_map (member_at (cells o) (take g.search a)) (own_cells o owner k)) →
      map (λ (x : Member). x.object) ms.items ≡ filter_map (element_at (cells o)) (own_cells o owner k) →
      All (λ (x : Member). HasVariable (length g.domains) x.is) ms.items →
      IsAttributeForm o g owner k (shape.RefSet c m) (form.List (listing.Some ms))
  set_form c m ms sound h value objects variables =
      let all = filter_all (element_at (cells o)) (own_cells o owner k) (extent o c) (members_are o sound owner k h.variable h.there h.is c m h.shape) in
      let is = set_is o g.domains c ms.items (objects ∙ all) variables in
      record {
        stands = λ a w. ap (λ (ys : List ℕ). Objects ys) (sym (value a w));
        number = no_number g.domains _ _ refl refl;
        truth = tt;
        typed = is.0;
        reached = λ r lt. is.1;
      }

-- the form of a shape is that of an equal one
pub at_shape : (o : Outline) (g : Ground) (owner : Option ℕ) (k : ℕ) (s t : Resolved) (f : Form) → t ≡ s → IsAttributeForm o g owner k s f → IsAttributeForm o g owner k t f
at_shape o g owner k s t f e h = subst (λ (z : Resolved). IsAttributeForm o g owner k z f) (sym e) h
