-- The variable that is the cell of a chosen object.
use Rattle.std.proofs.Common.{◌≡◌, ℕ, ◌<◌, Bool, true, false, not, ◌&&◌, cond, List, [], ◌∷◌, ℤ, Some, length, take, refl, sym, ap, ◌∙◌, subst, arith}
use Rattle.std.specs.List.{All}
use Rattle.std.specs.Ordering.{int_eq}
use Rattle.std.proofs.lemmas.Int.{ints}
use Rattle.std.proofs.lemmas.List.Elements.{All-nil, All-cons, All-head, All-tail}
use Rattle.class_table.specs.declared.table.Resolved.{Resolved}
use Rattle.class_table.specs.Outline.{Outline}
use Rattle.class_table.specs.Sound.{IsSound}
use Rattle.object_alloc.specs.declared.object.Domain.{Domain}
use Rattle.object_alloc.specs.Cells.{domain_of}
use Rattle.object_alloc.specs.Groups.{own_cells}
use Rattle.object_alloc.specs.Members.{first_value}
use Rattle.signed_clause.specs.Ranges.{Ranges, has, IsValid}
use Rattle.signed_clause.specs.Clauses.{Boxes, box_of}
use Rattle.ground_form.specs.declared.ground.Ground.{Ground}
use Rattle.ground_form.specs.Bounds.{low_of, high_of}
use Rattle.ground_form.specs.Meaning.{value_of}
use Rattle.ground_form.specs.WellMade.{lacks_value, distinct_values}
use Rattle.ground_build.specs.Growing.{HoldsDomain}
use Rattle.ground_build.specs.NewDomains.{picked_domain}
use Rattle.form_build.specs.Worlds.{IsInBoxes, Grows, IsPickOf}
use Rattle.form_build.proofs.Growth.{world_before}
use Rattle.form_build.proofs.Picked.{picked_all}
use Rattle.form_build.proofs.Singles.{fixed_value}
use Rattle.conf_eval.specs.Fitting.{HasShape}
use Rattle.conf_eval.specs.Meaning.{first_object}
use Rattle.ground_cells.specs.CellBoxes.{domain_box}
use Rattle.expr_forms.specs.FormBounds.{IsMap}
use Rattle.expr_forms.specs.FormValues.{number_for}
use Rattle.expr_forms.specs.Standing.{HasCells}
use Rattle.expr_forms.proofs.Configured.{cells_still}
use Rattle.reference_forms.specs.Attributes.{IsCellOf}
use Rattle.reference_forms.proofs.CellLaws.{cell_is, cell_value}
use Rattle.reference_forms.specs.Candidates.{HaveShape}
use Rattle.reference_forms.proofs.MapLaws.{first_there}
use Rattle.reference_forms.specs.Picks.{cell_items, AreAlike, IsFirst, IsCommon, HasDomain, IsPicked, IsChosenCell}

-- ---- one variable for all items

pub same_ends : (p q : ℤ × ℤ) → not (int_eq p.0 q.0 && int_eq p.1 q.1) ≡ false → p ≡ q
same_ends p q e =
    let low : p.0 ≡ q.0 = grind (arith, ints) in
    let high : p.1 ≡ q.1 = grind (arith, ints) in
    λ i. (low i, high i)

pub same_common : (boxes : Boxes) (items : List (ℤ × ℕ)) (y : ℕ) → IsFirst y items → All (λ t. t.1 ≡ y) items → All (λ t. t.1 < length boxes) items → IsCommon boxes items y
same_common boxes items y f same h = record {
  exists = (first_there (λ (u : ℤ × ℕ). u.1 < length boxes) y items f h).1;
  value = λ a w k d lt. ap (value_of a) (sym (same k d lt));
  box = λ s e. (first_there (λ (u : ℤ × ℕ). box_of boxes u.1 ≡ s) y items f e).1;
}

pub alike_common : (boxes : Boxes) (items : List (ℤ × ℕ)) (y : ℕ) (ends : ℤ × ℤ) → IsFirst y items → AreAlike boxes ends items → ends.0 ≡ ends.1 → All (λ d. IsValid d) boxes → All (λ t. t.1 < length boxes) items → IsCommon boxes items y
alike_common boxes items y ends f alike same valid h =
    let there = (first_there (λ (u : ℤ × ℕ). u.1 < length boxes) y items f h).1 in
    let here = (first_there (λ (u : ℤ × ℕ). (low_of (box_of boxes u.1), high_of (box_of boxes u.1)) ≡ ends) y items f alike).1 in
    record {
      exists = there;
      value = λ a w k d lt.
          let low = h k d lt in
          sym (fixed a w y there here) ∙ fixed a w _ low (alike k d lt);
      box = λ s e. (first_there (λ (u : ℤ × ℕ). box_of boxes u.1 ≡ s) y items f e).1;
    }
  where
    fixed : (a : List ℤ) → IsInBoxes boxes a → (x : ℕ) → x < length boxes → (low_of (box_of boxes x), high_of (box_of boxes x)) ≡ ends → ends.0 ≡ value_of a x
    fixed a w x lt e =
        let low = ap (λ (p : ℤ × ℤ). p.0) e in
        let high = ap (λ (p : ℤ × ℤ). p.1) e in
        sym low ∙ fixed_value boxes x a valid lt (omega (arith, ints, low, high, same)) (w x lt)

pub common_picked : (g : Ground) (index : ℕ) (items : List (ℤ × ℕ)) (y : ℕ) → IsCommon g.domains items y → IsPicked g g index items y
common_picked g index items y c = record {
  exists = c.exists;
  value = λ a w k d lt e. c.value a w.within k d lt;
  within = λ s e v m. subst (λ (z : Ranges). has z v ≡ true) (c.box s e) m;
}

pub pick_picked : (old new : Ground) (index : ℕ) (items : List (ℤ × ℕ)) (y : ℕ) → All (λ d. IsValid d) old.domains → All (λ t. t.1 < length old.domains) items → IsPickOf new y (picked_domain [] items old.domains) index items → IsPicked old new index items y
pick_picked old new index items y valid there p = record {
  exists = p.exists;
  value = p.value;
  within = λ s e v m.
      picked_all (λ w. has s w ≡ true) [] items old.domains (omega (arith, ints)) valid there (λ w n. absurd cc)
      (λ k d lt w n. subst (λ (z : Ranges). has z w ≡ true) (e k d lt) n)
      v (subst (λ (z : Ranges). has z v ≡ true) p.box m);
}

-- ---- the cells of the candidates

-- what holds of each pair's cell holds of each item
items_all : (o : Outline) (k : ℕ) (P : ℤ × ℕ → Type 0) (pairs : List (ℤ × ℕ)) → All (λ p. P (p.0, first_object (own_cells o (Some p.1) k))) pairs → All P (cell_items o k pairs)
items_all o k P [] h = All-nil P
items_all o k P (p ∷ ps) h =
    All-cons P (p.0, first_object (own_cells o (Some p.1) k)) (cell_items o k ps) (All-head (λ q. P (q.0, first_object (own_cells o (Some q.1) k))) p ps h)
    (items_all o k P ps (All-tail (λ q. P (q.0, first_object (own_cells o (Some q.1) k))) p ps h))

module _ (o : Outline) (g : Ground) (sound : IsSound o) (cs : HasCells o g) (k : ℕ) (s : Resolved) (values : Domain) (e : domain_of o s ≡ Some values) where
  pub cell_there : (n : ℕ) → HasShape o (Some n) k s → IsCellOf o g (Some n) k values (first_object (own_cells o (Some n) k))
  cell_there n h = cell_is o g (Some n) k s _ values sound h cs refl e

  pub items_exist : (pairs : List (ℤ × ℕ)) → All (λ p. HaveShape o k s p.1) pairs → All (λ t. t.1 < length g.domains) (cell_items o k pairs)
  items_exist pairs h = items_all o k (λ t. t.1 < length g.domains) pairs (λ i d lt. (cell_there _ (h i d lt)).exists)

  pub items_boxes : (pairs : List (ℤ × ℕ)) → All (λ p. HaveShape o k s p.1) pairs → All (λ t. box_of g.domains t.1 ≡ domain_box o values) (cell_items o k pairs)
  items_boxes pairs h = items_all o k (λ t. box_of g.domains t.1 ≡ domain_box o values) pairs (λ i d lt. (cell_there _ (h i d lt)).box)

  pub picked_value : (a : List ℤ) (v : ℤ) (y : ℕ) (pairs : List (ℤ × ℕ)) → lacks_value v pairs ≡ false → All (λ p. HaveShape o k s p.1) pairs → All (λ t. v ≡ t.0 → value_of a y ≡ value_of a t.1) (cell_items o k pairs) → first_value (take g.search a) (own_cells o (Some (number_for v pairs)) k) ≡ value_of a y
  picked_value a v y [] lacks h is = cc
  picked_value a v y (p ∷ ps) lacks h is =
      by (int_eq p.0 v) refl lacks (λ l. picked_value a v y ps l (All-tail (λ q. HaveShape o k s q.1) p ps h) (All-tail (λ t. v ≡ t.0 → value_of a y ≡ value_of a t.1) (p.0, first_object (own_cells o (Some p.1) k)) (cell_items o k ps) is))
    where
      same : int_eq p.0 v ≡ true → v ≡ p.0
      same q = grind (arith, ints)

      by : (b : Bool) → int_eq p.0 v ≡ b → cond b false (lacks_value v ps) ≡ false → (lacks_value v ps ≡ false → first_value (take g.search a) (own_cells o (Some (number_for v ps)) k) ≡ value_of a y) →
          first_value (take g.search a) (own_cells o (Some (cond b p.1 (number_for v ps))) k) ≡ value_of a y
      by true q l more =
          cell_value o g (Some p.1) k values _ a (cell_there p.1 (All-head (λ r. HaveShape o k s r.1) p ps h))
          ∙ sym (All-head (λ t. v ≡ t.0 → value_of a y ≡ value_of a t.1) (p.0, first_object (own_cells o (Some p.1) k)) (cell_items o k ps) is (same q))
      by false q l more = more l

lacks_items : (o : Outline) (k : ℕ) (v : ℤ) (pairs : List (ℤ × ℕ)) → lacks_value v (cell_items o k pairs) ≡ lacks_value v pairs
lacks_items o k v [] = refl
lacks_items o k v (p ∷ ps) = ap (λ (b : Bool). cond (int_eq p.0 v) false b) (lacks_items o k v ps)

pub items_hold : (o : Outline) (k : ℕ) (v : ℤ) (pairs : List (ℤ × ℕ)) → lacks_value v pairs ≡ false → lacks_value v (cell_items o k pairs) ≡ false
items_hold o k v pairs h = lacks_items o k v pairs ∙ h

pub items_distinct : (o : Outline) (k : ℕ) (pairs : List (ℤ × ℕ)) → distinct_values (cell_items o k pairs) ≡ distinct_values pairs
items_distinct o k [] = refl
items_distinct o k (p ∷ ps) =
    let one = lacks_items o k p.0 ps in
    let rest = items_distinct o k ps in
    grind arith

-- the variable that was picked is the chosen object's cell
pub chosen_is : (o : Outline) (old new : Ground) (x k : ℕ) (s : Resolved) (values : Domain) (pairs : List (ℤ × ℕ)) (y : ℕ) → IsSound o → Grows old new → HasCells o old → x < length old.domains → IsMap old.domains (HaveShape o k s) x pairs → domain_of o s ≡ Some values → IsPicked old new x (cell_items o k pairs) y → IsChosenCell o new x pairs k values y
chosen_is o old new x k s values pairs y sound g cs lt m e p = record {
  exists = p.exists;
  value = λ a w.
      let before = world_before old new a g w in
      picked_value o new sound (cells_still o old new g cs) k s values e a (value_of a x) y pairs (m.held _ (before.within x lt)) m.may (p.value a w);
  within = p.within (domain_box o values) (items_boxes o old sound cs k s values e pairs m.may);
}

-- ---- the items of the candidates' cells

module _ (o : Outline) (old : Ground) (x k : ℕ) (s : Resolved) (pairs items : List (ℤ × ℕ)) (sound : IsSound o) (cs : HasCells o old) (there : x < length old.domains) (m : IsMap old.domains (HaveShape o k s) x pairs) (e : items ≡ cell_items o k pairs) where
  pub items_there : HasDomain o s → All (λ t. t.1 < length old.domains) items
  items_there d = subst (All (λ t. t.1 < length old.domains)) (sym e) (items_exist o old sound cs k s d.values d.is pairs m.may)

  pub items_apart : distinct_values items ≡ true
  items_apart = ap distinct_values e ∙ items_distinct o k pairs ∙ m.distinct

  pub items_held : HoldsDomain old x items
  items_held v h = ap (lacks_value v) e ∙ items_hold o k v pairs (m.held v h)

  pub cell_chosen : (new : Ground) (y : ℕ) → Grows old new → IsPicked old new x items y → (values : Domain) → domain_of o s ≡ Some values → IsChosenCell o new x pairs k values y
  cell_chosen new y g p values d = chosen_is o old new x k s values pairs y sound g cs there m d (subst (λ (z : List (ℤ × ℕ)). IsPicked old new x z y) e p)
