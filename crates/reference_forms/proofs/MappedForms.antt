-- The form of an attribute of a chosen object, where the attribute has one cell.
use Rattle.std.proofs.Common.{◌≡◌, ℕ, ◌<◌, ◌≤◌, ◌^◌, Bool, true, List, [], ℤ, pos, negsuc, neg_ℤ, ◌-ℤ◌, ◌≤ℤ◌, int_le, length, refl, sym, ap, ◌∙◌, subst, arith}
use Rattle.std.specs.Prelude.{Contains, nat_abs, unsigned_abs}
use Rattle.std.proofs.lemmas.Bool.{and_parts}
use Rattle.std.proofs.lemmas.Int.{ints}
use Rattle.class_table.specs.declared.table.Resolved.TheVariants as shape
use Rattle.class_table.specs.Outline.{Outline}
use Rattle.object_alloc.specs.declared.object.Domain.TheVariants as domain
use Rattle.object_alloc.specs.Cells.{extent, value_count}
use Rattle.signed_clause.specs.Ranges.{Ranges}
use Rattle.signed_clause.specs.Clauses.{box_of}
use Rattle.ground_form.specs.declared.ground.Ground.{Ground}
use Rattle.ground_form.specs.Meaning.{value_of}
use Rattle.ground_form.specs.Bounds.{low_of, high_of, reach_of, LiesWithin}
use Rattle.ground_form.specs.WellMade.{IsWellMade}
use Rattle.form_build.specs.declared.form.Linear.{Linear}
use Rattle.form_build.specs.declared.form.Truth.{Truth as ATruth}
use Rattle.form_build.specs.Forms.{linear_at, truth_at, HasVariable}
use Rattle.form_build.specs.Sums.{IsLinear, LiesFrom}
use Rattle.form_build.specs.Worlds.{IsInBoxes, AreSome}
use Rattle.form_build.proofs.Linears.{linear_more}
use Rattle.form_build.proofs.Picked.{within_ends}
use Rattle.form_build.proofs.Singles.{ends_ordered}
use Rattle.conf_eval.specs.declared.value.Value.TheVariants.{Int, Truth, Choice, Object}
use Rattle.conf_eval.specs.Meaning.{int_same}
use Rattle.conf_limits.specs.Measures.{is_narrow, is_near, between}
use Rattle.model_limits.specs.Limits.{most_width}
use Rattle.ground_cells.proofs.Points.{domain_of}
use Rattle.expr_forms.specs.declared.form.Choice.{Choice as AChoice}
use Rattle.expr_forms.specs.declared.form.Choice.TheVariants as choice
use Rattle.expr_forms.specs.declared.form.Form.TheVariants as form
use Rattle.expr_forms.specs.FormBounds.{IsCandidate, MayBe, IsChoiceOf, IsFrom, candidate_count}
use Rattle.expr_forms.specs.FormValues.{choice_at}
use Rattle.expr_forms.proofs.Trees.{no_number}
use Rattle.reference_forms.specs.Attributes.{IsCellChoice}
use Rattle.reference_forms.proofs.BoxFacts.{low_there}
use Rattle.reference_forms.specs.Picks.{IsChosenCell}
use Rattle.reference_forms.specs.Dots.{IsMappedForm}

abs_within : (v : ℤ) (n : ℕ) → neg_ℤ (pos n) ≤ℤ v → v ≤ℤ pos n → unsigned_abs v ≤ n
abs_within (pos m) n l h = omega (arith, ints, h)
abs_within (negsuc m) n l h = omega (arith, ints, l)

at_most : (a b : ℤ) → int_le a b ≡ true → a ≤ℤ b
at_most a b h = grind (arith, ints)

-- the greatest absolute value of a box within a narrow span
narrow_reach : (low high : ℤ) (box : Ranges) → is_narrow (between low high) ≡ true → LiesWithin low high box → low_of box ≤ℤ high_of box → reach_of box ≤ 2 ^ 58
narrow_reach low high box n e o =
    let p = and_parts (is_near low) (is_near high) n in
    let l = at_most (neg_ℤ (pos most_width)) low (and_parts (int_le (neg_ℤ (pos most_width)) low) (int_le low (pos most_width)) p.0).0 in
    let g = at_most high (pos most_width) (and_parts (int_le (neg_ℤ (pos most_width)) high) (int_le high (pos most_width)) p.1).1 in
    let least = e.0 in
    let greatest = e.1 in
    let first = abs_within (low_of box) 1125899906842624 (omega (arith, ints, l, least)) (omega (arith, ints, o, greatest, g)) in
    let last = abs_within (high_of box) 1125899906842624 (omega (arith, ints, l, least, o)) (omega (arith, ints, greatest, g)) in
    omega (arith, first, last)

module _ (o : Outline) (g : Ground) (x : ℕ) (pairs : List (ℤ × ℕ)) (k : ℕ) where
  pub span_form : (low high : ℤ) (y : ℕ) (f : Linear) → is_narrow (between low high) ≡ true → IsWellMade g → AreSome g.domains → IsChosenCell o g x pairs k (domain.Span low high) y →
      ((a : List ℤ) → IsInBoxes g.domains a → linear_at f a ≡ value_of a y) → IsLinear (reach_of (box_of g.domains y)) g.domains f → LiesFrom (low_of (box_of g.domains y)) (high_of (box_of g.domains y)) g.domains f →
      IsMappedForm o g x pairs k (shape.Span low high) (form.Number f)
  span_form low high y f narrow made some c value linear lies =
      let valid = made.domains y [] c.exists in
      let ends = within_ends low high (box_of g.domains y) valid (some y [] c.exists) (λ v m. domain_of o (domain.Span low high) v (c.within v m)) in
      let least = ends.0 in
      let greatest = ends.1 in
      record {
        stands = λ a w. ap (λ (v : ℤ). Int v) (c.value a w ∙ sym (value a w.within));
        number = record {
          linear = linear_more (reach_of (box_of g.domains y)) (2 ^ 58) g.domains f (narrow_reach low high (box_of g.domains y) narrow ends (ends_ordered (box_of g.domains y) valid)) linear;
          lies = record { low_is = omega (arith, ints, lies.low_is, least); high_is = omega (arith, ints, lies.high_is, greatest) };
        };
        truth = tt;
        typed = tt;
        reached = λ r h. omega arith;
      }

  pub truth_form : (y : ℕ) (t : ATruth) → IsChosenCell o g x pairs k (domain.Span (pos 0) (pos 1)) y → HasVariable (length g.domains) t →
      ((a : List ℤ) → IsInBoxes g.domains a → truth_at t a ≡ int_same (value_of a y) (pos 1)) →
      IsMappedForm o g x pairs k shape.Truth (form.Truth t)
  truth_form y t c variable value = record {
    stands = λ a w. ap (λ (v : ℤ). Truth (int_same v (pos 1))) (c.value a w) ∙ ap (λ (b : Bool). Truth b) (sym (value a w.within));
    number = no_number g.domains _ _ refl refl;
    truth = variable;
    typed = tt;
    reached = λ r h. omega arith;
  }

  -- what a cell's variable may be
  chosen_of : (P : ℕ → Type 0) (y : ℕ) (c : AChoice) → y < length g.domains → IsCellChoice g.domains y c → MayBe g.domains P y → IsChoiceOf g.domains P c
  chosen_of P y (choice.Fixed n) lt is may = by (may (pos n) is)
    where
      same : {a b : ℕ} → pos a ≡ pos b → a ≡ b
      same e = cc

      by : IsCandidate P (pos n) → P n
      by h = subst P (sym (same h.is)) h.may
  chosen_of P y (choice.Cell z) lt is may = subst (λ (u : ℕ). (u < length g.domains) × MayBe g.domains P u) (sym is) (lt, may)
  chosen_of P y (choice.Mapped z m) lt is may = absurd is

  from_of : (d y : ℕ) (c : AChoice) → d < length o.classes → IsCellChoice g.domains y c → MayBe g.domains (Contains (extent o d)) y → IsFrom o g.domains d c
  from_of d y (choice.Fixed n) low is may = tt
  from_of d y (choice.Cell z) low is may = subst (λ (u : ℕ). (d < length o.classes) × MayBe g.domains (Contains (extent o d)) u) (sym is) (low, may)
  from_of d y (choice.Mapped z m) low is may = absurd is

  small : (n : ℕ) (v : ℤ) → pos 0 ≤ℤ v → v ≤ℤ (pos n -ℤ pos 1) → IsCandidate (λ m. m < n) v
  small n (pos m) l h = record { number = m; is = refl; may = omega (arith, ints, l, h) }
  small n (negsuc m) l h = absurd (omega (arith, ints, l, h))

  value_may : (e y : ℕ) → IsChosenCell o g x pairs k (domain.Span (pos 0) (pos (value_count o e) -ℤ pos 1)) y → MayBe g.domains (λ n. n < value_count o e) y
  value_may e y c v h =
      let d = domain_of o (domain.Span (pos 0) (pos (value_count o e) -ℤ pos 1)) v (c.within v h) in
      small (value_count o e) v d.0 d.1

  some_there : (xs : List ℕ) (n : ℕ) → Contains xs n → 1 ≤ length xs
  some_there xs n h = omega (arith, h.1)

  few_candidates : (d y : ℕ) (c : AChoice) → IsCellChoice g.domains y c → 1 ≤ length (extent o d) → candidate_count o d c ≤ length (extent o d)
  few_candidates d y (choice.Fixed n) is some = some
  few_candidates d y (choice.Cell z) is some = omega arith
  few_candidates d y (choice.Mapped z m) is some = absurd is

  object_may : (d y : ℕ) → IsChosenCell o g x pairs k (domain.Extent d) y → MayBe g.domains (Contains (extent o d)) y
  object_may d y c v h =
      let i = domain_of o (domain.Extent d) v (c.within v h) in
      record { number = i.object; is = i.is; may = i.has }

  pub choice_form : (e y : ℕ) (c : AChoice) → IsChosenCell o g x pairs k (domain.Span (pos 0) (pos (value_count o e) -ℤ pos 1)) y → IsCellChoice g.domains y c →
      ((a : List ℤ) → IsInBoxes g.domains a → choice_at c a ≡ nat_abs (value_of a y)) →
      IsMappedForm o g x pairs k (shape.Choice e) (form.Choice e c)
  choice_form e y c cell is value = record {
    stands = λ a w. ap (λ (n : ℕ). Choice e n) (ap nat_abs (cell.value a w) ∙ sym (value a w.within));
    number = no_number g.domains _ _ refl refl;
    truth = tt;
    typed = (refl, chosen_of (λ n. n < value_count o e) y c cell.exists is (value_may e y cell));
    reached = λ r h. omega arith;
  }

  pub ref_form : (d y : ℕ) (c : AChoice) → d < length o.classes → IsWellMade g → AreSome g.domains → IsChosenCell o g x pairs k (domain.Extent d) y → IsCellChoice g.domains y c →
      ((a : List ℤ) → IsInBoxes g.domains a → choice_at c a ≡ nat_abs (value_of a y)) →
      IsMappedForm o g x pairs k (shape.Ref d) (form.Object d c)
  ref_form d y c low made some cell is value = record {
    stands = λ a w. ap (λ (n : ℕ). Object n) (ap nat_abs (cell.value a w) ∙ sym (value a w.within));
    number = no_number g.domains _ _ refl refl;
    truth = tt;
    typed = (chosen_of (Contains (extent o d)) y c cell.exists is (object_may d y cell), from_of d y c low is (object_may d y cell));
    reached = λ r h.
        let least = object_may d y cell (low_of (box_of g.domains y)) (low_there (box_of g.domains y) (made.domains y [] cell.exists) (some y [] cell.exists)) in
        let there = some_there (extent o d) least.number least.may in
        few_candidates d y c is there;
  }
