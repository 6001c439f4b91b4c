-- The variable of a choice that is made by a map.
use Rattle.std.proofs.Common.{◌≡◌, ℕ, ◌+◌, ◌<◌, ◌≤◌, Bool, true, false, ◌&&◌, cond, List, [], ◌∷◌, ◌++◌, take, get_or, map, ℤ, pos, length, refl, sym, ap, ◌∙◌, subst, arith}
use Rattle.std.specs.List.{All}
use Rattle.std.specs.Ordering.{int_eq}
use Rattle.std.proofs.lemmas.Int.{ints}
use Rattle.std.proofs.lemmas.List.{take_all, take_more, map-append}
use Rattle.std.proofs.lemmas.List.Elements.{All-push, All-weaker, All-head, All-tail}
use Rattle.signed_clause.specs.Ranges.{Ranges, has}
use Rattle.ground_form.specs.declared.ground.Ground.{Ground}
use Rattle.ground_form.specs.Meaning.{value_of}
use Rattle.ground_form.specs.WellMade.{lacks_value, distinct_values}
use Rattle.ground_build.specs.Growing.{HoldsDomain}
use Rattle.form_build.specs.Worlds.{IsWorld, Grows}
use Rattle.form_build.proofs.Growth.{world_before, no_less, box_kept}
use Rattle.expr_forms.specs.FormBounds.{IsMap}
use Rattle.expr_forms.specs.FormValues.{number_for}
use Rattle.pairwise_forms.specs.KeyValues.{AreConstants}

-- ---- the walk over the map

pub no_constants : (g : Ground) → AreConstants g [] []
no_constants g = record { exist = λ k d lt. absurd (omega (arith, lt)); values = refl; numbers = λ a w. refl }

pub constants_more : (old new : Ground) (pairs : List (ℤ × ℕ)) (k : ℕ) (p d : ℤ × ℕ) (items more : List (ℤ × ℕ)) (v : ℤ) (x : ℕ) → Grows old new → k < length pairs → p ≡ get_or pairs k d → v ≡ p.0 → more ≡ items ++ (v, x) ∷ [] → x < length new.domains → ((a : List ℤ) → IsWorld new a → value_of a x ≡ pos p.1) → AreConstants old (take k pairs) items → AreConstants new (take (k + 1) pairs) more
constants_more old new pairs k p d items more v x g lt e s made there value h =
    let next : take (k + 1) pairs ≡ take k pairs ++ p ∷ [] = take_more pairs k d lt ∙ ap (λ (q : ℤ × ℕ). take k pairs ++ q ∷ []) (sym e) in
    record {
      exist =
          let less = no_less old new g in
          subst (λ (ts : List (ℤ × ℕ)). All (λ t. t.1 < length new.domains) ts) (sym made)
          (All-push (λ t. t.1 < length new.domains) items (v, x) (All-weaker (λ t. t.1 < length old.domains) (λ t. t.1 < length new.domains) (λ t l. omega (arith, l, less)) items h.exist) there);
      values =
          ap (map (λ (t : ℤ × ℕ). t.0)) made
          ∙ map-append (λ (t : ℤ × ℕ). t.0) items ((v, x) ∷ [])
          ∙ ap (λ (vs : List ℤ). vs ++ v ∷ []) h.values
          ∙ ap (λ (w : ℤ). map (λ (q : ℤ × ℕ). q.0) (take k pairs) ++ w ∷ []) s
          ∙ sym (map-append (λ (q : ℤ × ℕ). q.0) (take k pairs) (p ∷ []))
          ∙ ap (map (λ (q : ℤ × ℕ). q.0)) (sym next);
      numbers = λ a w.
          ap (map (λ (t : ℤ × ℕ). value_of a t.1)) made
          ∙ map-append (λ (t : ℤ × ℕ). value_of a t.1) items ((v, x) ∷ [])
          ∙ ap (λ (vs : List ℤ). vs ++ value_of a x ∷ []) (h.numbers a (world_before old new a g w))
          ∙ ap (λ (n : ℤ). map (λ (q : ℤ × ℕ). pos q.1) (take k pairs) ++ n ∷ []) (value a w)
          ∙ sym (map-append (λ (q : ℤ × ℕ). pos q.1) (take k pairs) (p ∷ []))
          ∙ ap (map (λ (q : ℤ × ℕ). pos q.1)) (sym next);
    }

pub constants_all : (g : Ground) (pairs : List (ℤ × ℕ)) (k : ℕ) (items : List (ℤ × ℕ)) → length pairs ≤ k → AreConstants g (take k pairs) items → AreConstants g pairs items
constants_all g pairs k items le h = subst (λ (ps : List (ℤ × ℕ)). AreConstants g ps items) (take_all k pairs le) h

-- ---- items with the values of the map

heads : {X : Type 0} (x y : X) (xs ys : List X) → x ∷ xs ≡ y ∷ ys → x ≡ y
heads x y xs ys e = cc

tails : {X : Type 0} (x y : X) (xs ys : List X) → x ∷ xs ≡ y ∷ ys → xs ≡ ys
tails x y xs ys e = cc

lacks_same : (v : ℤ) (pairs items : List (ℤ × ℕ)) → map (λ (t : ℤ × ℕ). t.0) items ≡ map (λ (p : ℤ × ℕ). p.0) pairs → lacks_value v items ≡ lacks_value v pairs
lacks_same v [] [] e = refl
lacks_same v [] (t ∷ ts) e = absurd cc
lacks_same v (p ∷ ps) [] e = absurd cc
lacks_same v (p ∷ ps) (t ∷ ts) e =
    ap (λ (w : ℤ). cond (int_eq w v) false (lacks_value v ts)) (heads t.0 p.0 _ _ e)
    ∙ ap (λ (b : Bool). cond (int_eq p.0 v) false b) (lacks_same v ps ts (tails t.0 p.0 _ _ e))

pub distinct_same : (pairs items : List (ℤ × ℕ)) → map (λ (t : ℤ × ℕ). t.0) items ≡ map (λ (p : ℤ × ℕ). p.0) pairs → distinct_values items ≡ distinct_values pairs
distinct_same [] [] e = refl
distinct_same [] (t ∷ ts) e = absurd cc
distinct_same (p ∷ ps) [] e = absurd cc
distinct_same (p ∷ ps) (t ∷ ts) e =
    ap (λ (b : Bool). b && distinct_values ts) (lacks_same t.0 ps ts (tails t.0 p.0 _ _ e))
    ∙ ap (λ (w : ℤ). lacks_value w ps && distinct_values ts) (heads t.0 p.0 _ _ e)
    ∙ ap (λ (b : Bool). lacks_value p.0 ps && b) (distinct_same ps ts (tails t.0 p.0 _ _ e))

pub items_distinct : (boxes : _) (g : Ground) (P : ℕ → Type 0) (x : ℕ) (pairs items : List (ℤ × ℕ)) → IsMap boxes P x pairs → AreConstants g pairs items → distinct_values items ≡ true
items_distinct boxes g P x pairs items m h = distinct_same pairs items h.values ∙ m.distinct

pub items_held : (old new : Ground) (P : ℕ → Type 0) (x : ℕ) (pairs items : List (ℤ × ℕ)) → Grows old new → x < length old.domains → IsMap old.domains P x pairs → AreConstants new pairs items → HoldsDomain new x items
items_held old new P x pairs items g lt m h v e =
    lacks_same v pairs items h.values ∙ m.held v (subst (λ (z : Ranges). has z v ≡ true) (box_kept old new x g lt) e)

-- ---- what is picked

same_value : (v w : ℤ) → int_eq v w ≡ true → w ≡ v
same_value v w e = grind (arith, ints)

rest_lacks : (b r : Bool) → b ≡ false → cond b false r ≡ false → r ≡ false
rest_lacks b r e h = cc

found : (b : Bool) (v w n : ℤ) (k m : ℕ) → (b ≡ true → n ≡ pos k) → (b ≡ false → n ≡ pos m) → n ≡ pos (cond b k m)
found true v w n k m f h = f refl
found false v w n k m f h = h refl

pub picked_number : (v n : ℤ) (a : List ℤ) (pairs items : List (ℤ × ℕ)) → map (λ (t : ℤ × ℕ). t.0) items ≡ map (λ (p : ℤ × ℕ). p.0) pairs → map (λ (t : ℤ × ℕ). value_of a t.1) items ≡ map (λ (p : ℤ × ℕ). pos p.1) pairs → lacks_value v pairs ≡ false → All (λ t. v ≡ t.0 → n ≡ value_of a t.1) items → n ≡ pos (number_for v pairs)
picked_number v n a [] [] e f h all = absurd cc
picked_number v n a [] (t ∷ ts) e f h all = absurd cc
picked_number v n a (p ∷ ps) [] e f h all = absurd cc
picked_number v n a (p ∷ ps) (t ∷ ts) e f h all =
    let first = All-head (λ u. v ≡ u.0 → n ≡ value_of a u.1) t ts all in
    let rest = All-tail (λ u. v ≡ u.0 → n ≡ value_of a u.1) t ts all in
    found (int_eq p.0 v) p.0 v n p.1 (number_for v ps)
    (λ is. first (same_value p.0 v is ∙ sym (heads t.0 p.0 _ _ e)) ∙ heads (value_of a t.1) (pos p.1) _ _ f)
    (λ is. picked_number v n a ps ts (tails t.0 p.0 _ _ e) (tails (value_of a t.1) (pos p.1) _ _ f) (rest_lacks (int_eq p.0 v) (lacks_value v ps) is h) rest)

-- the picked variable is the number that the map gives
pub picked_is : (old mid new : Ground) (P : ℕ → Type 0) (x y : ℕ) (pairs items : List (ℤ × ℕ)) (a : List ℤ) → Grows old mid → Grows mid new → x < length old.domains → IsMap old.domains P x pairs → AreConstants mid pairs items → IsWorld new a → All (λ t. value_of a x ≡ t.0 → value_of a y ≡ value_of a t.1) items → value_of a y ≡ pos (number_for (value_of a x) pairs)
picked_is old mid new P x y pairs items a g k lt m h w all =
    let there = world_before mid new a k w in
    let before = world_before old mid a g there in
    picked_number (value_of a x) (value_of a y) a pairs items h.values (h.numbers a there) (m.held (value_of a x) (before.within x lt)) all
