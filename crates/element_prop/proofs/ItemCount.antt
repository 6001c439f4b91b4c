-- Each value of the index is an item's, where as many items' values as it has are its values; and
-- not else.
use Rattle.std.proofs.Common.{◌≡◌, ℕ, suc, ◌≤◌, Bool, true, false, not, ◌&&◌, cond, List, [], ◌∷◌, ℤ, refl, arith, subst, sym, ap, ◌∙◌}
use Rattle.std.specs.Ordering.{int_eq}
use Rattle.std.proofs.lemmas.Int.{ints}
use Rattle.std.proofs.lemmas.Bool.{and_parts, false_from_ne_true}
use Rattle.std.proofs.lemmas.Bool.Decides.{Decides-int_eq}
use Rattle.signed_clause.specs.Ranges.{Ranges, has, is_nil, count_of, IsValid}
use Rattle.signed_clause.specs.SetAlgebra.{is_within, less}
use Rattle.signed_clause.proofs.RangeSteps.{IsValid-less, has-less_valid}
use Rattle.signed_clause.proofs.CountLaws.{count-part, count-some}
use Rattle.signed_clause.proofs.SetFacts.{within_law}
use Rattle.ground_form.specs.WellMade.{lacks_value, distinct_values}
use Rattle.ground_form.specs.Bounds.{low_of}
use Rattle.box_view.proofs.EndLaws.{single_has, has_low}
use Rattle.box_view.proofs.Leaving.{value_valid, one_within}
use Rattle.element_prop.specs.Elements.{count_possible, without_one, without_items}

-- ---- as many

some_value : (s : Ranges) (v : ℤ) → has s v ≡ true → is_nil s ≡ false
some_value [] v h = absurd (grind arith)
some_value (r ∷ rs) v h = refl

pub one_count : (v : ℤ) → count_of ((v, v) ∷ []) ≡ 1
one_count v = omega (arith, ints)

turned : (a b : ℤ) → int_eq b a ≡ false → int_eq a b ≡ false
turned a b k = false_from_ne_true (int_eq a b) (λ q. let e = (Decides-int_eq a b).0 q in let y = (Decides-int_eq b a).1 (sym e) in grind arith)

lacks_more : (v : ℤ) (t : ℤ × ℕ) (ts : List (ℤ × ℕ)) → lacks_value v (t ∷ ts) ≡ true → lacks_value v ts ≡ true
lacks_more v t ts h =
    let P : Bool → Type 0 = λ b. cond b false (lacks_value v ts) ≡ true → lacks_value v ts ≡ true in
    (elim (int_eq t.0 v) as P [ true ↦ λ k. absurd (let f : false ≡ true = k in grind arith) | false ↦ λ k. k ]) h

lacks_head : (v : ℤ) (t : ℤ × ℕ) (ts : List (ℤ × ℕ)) → lacks_value v (t ∷ ts) ≡ true → int_eq t.0 v ≡ false
lacks_head v t ts h =
    let P : Bool → Type 0 = λ b. cond b false (lacks_value v ts) ≡ true → b ≡ false in
    (elim (int_eq t.0 v) as P [ true ↦ λ k. absurd (let f : false ≡ true = k in grind arith) | false ↦ λ k. refl ]) h

-- a value that no item has doesn't matter to the count
pub same_count : (w : ℤ) (items : List (ℤ × ℕ)) (s : Ranges) → IsValid s → IsValid ((w, w) ∷ []) → lacks_value w items ≡ true → count_possible items (less s ((w, w) ∷ [])) ≡ count_possible items s
same_count w [] s f g h = refl
same_count w (t ∷ ts) s f g h =
    let other : has ((w, w) ∷ []) t.0 ≡ false = single_has w t.0 ∙ turned w t.0 (lacks_head w t ts h) in
    let same : has (less s ((w, w) ∷ [])) t.0 ≡ has s t.0 = has-less_valid s ((w, w) ∷ []) f g t.0 ∙ kept_one (has s t.0) (has ((w, w) ∷ []) t.0) other in
    let more = same_count w ts s f g (lacks_more w t ts h) in
    rw (same, more) refl
  where
    kept_one : (a b : Bool) → b ≡ false → (a && not b) ≡ a
    kept_one a b k = grind arith

pub each_value : (items : List (ℤ × ℕ)) (s : Ranges) (v : ℤ) → IsValid s → distinct_values items ≡ true → count_of s ≤ count_possible items s → has s v ≡ true → lacks_value v items ≡ false
each_value [] s v f d c h = let n = count-some s (some_value s v h) in absurd (omega arith)
each_value (t ∷ ts) s v f d c h =
    let parts = and_parts (lacks_value t.0 ts) (distinct_values ts) d in
    let P : Bool → Type 0 = λ b. int_eq t.0 v ≡ b → cond b false (lacks_value v ts) ≡ false in
    (elim (int_eq t.0 v) as P [
      | true ↦ λ e. refl
      | false ↦ λ e.
          let Q : Bool → Type 0 = λ b. has s t.0 ≡ b → count_of s ≤ cond b (suc (count_possible ts s)) (count_possible ts s) → lacks_value v ts ≡ false in
          (elim (has s t.0) as Q [
            | true ↦ λ k m.
                let one = value_valid s t.0 f k in
                let rest = less s ((t.0, t.0) ∷ []) in
                let valid = IsValid-less s ((t.0, t.0) ∷ []) f one in
                let split = count-part ((t.0, t.0) ∷ []) s one f (one_within s t.0 f one k) in
                let single = one_count t.0 in
                let same = same_count t.0 ts s f one parts.0 in
                let other : has ((t.0, t.0) ∷ []) v ≡ false = single_has t.0 v ∙ e in
                let there : has rest v ≡ true = has-less_valid s ((t.0, t.0) ∷ []) f one v ∙ rw (h, other) refl in
                each_value ts rest v valid parts.1 (omega (arith, split, single, same, m)) there
            | false ↦ λ k m. each_value ts s v f parts.1 m h
          ]) refl c
    ]) refl

-- ---- fewer

no_value : (s : Ranges) → IsValid s → ((v : ℤ) → has s v ≡ true → ⊥) → count_of s ≡ 0
no_value [] f h = refl
no_value (r ∷ rs) f h = absurd (h (low_of (r ∷ rs)) (has_low (r ∷ rs) f refl))

lacks_skipped : (v : ℤ) (t : ℤ × ℕ) (ts : List (ℤ × ℕ)) → int_eq t.0 v ≡ false → lacks_value v (t ∷ ts) ≡ false → lacks_value v ts ≡ false
lacks_skipped v t ts e h = sym (ap (λ (b : Bool). cond b false (lacks_value v ts)) e) ∙ h

pub few_values : (items : List (ℤ × ℕ)) (s : Ranges) → IsValid s → distinct_values items ≡ true → ((v : ℤ) → has s v ≡ true → lacks_value v items ≡ false) → count_of s ≤ count_possible items s
few_values [] s f d h = let none = no_value s f (λ v k. let no = h v k in cc) in omega arith
few_values (t ∷ ts) s f d h =
    let parts = and_parts (lacks_value t.0 ts) (distinct_values ts) d in
    let Q : Bool → Type 0 = λ b. has s t.0 ≡ b → count_of s ≤ cond b (suc (count_possible ts s)) (count_possible ts s) in
    (elim (has s t.0) as Q [
      | true ↦ λ k.
          let one = value_valid s t.0 f k in
          let rest = less s ((t.0, t.0) ∷ []) in
          let valid = IsValid-less s ((t.0, t.0) ∷ []) f one in
          let split = count-part ((t.0, t.0) ∷ []) s one f (one_within s t.0 f one k) in
          let single = one_count t.0 in
          let same = same_count t.0 ts s f one parts.0 in
          let more = few_values ts rest valid parts.1 (λ v m.
          let both = and_parts (has s v) (not (has ((t.0, t.0) ∷ []) v)) (sym (has-less_valid s ((t.0, t.0) ∷ []) f one v) ∙ m) in
          let other : int_eq t.0 v ≡ false = not_true (int_eq t.0 v) (ap (λ (b : Bool). not b) (sym (single_has t.0 v)) ∙ both.1) in
          lacks_skipped v t ts other (h v both.0)) in
          omega (arith, split, single, same, more)
      | false ↦ λ k. few_values ts s f parts.1 (λ v m.
          let other : int_eq t.0 v ≡ false = false_from_ne_true (int_eq t.0 v) (λ q.
          let e = (Decides-int_eq t.0 v).0 q in let there : has s t.0 ≡ true = subst (λ (z : ℤ). has s z ≡ true) (sym e) m in cc) in
          lacks_skipped v t ts other (h v m))
    ]) refl
  where
    not_true : (b : Bool) → not b ≡ true → b ≡ false
    not_true b k = grind arith

-- a value that no item has stays
one_kept : (v w : ℤ) (s : Ranges) → IsValid s → int_eq v w ≡ false → has s w ≡ true → has (without_one v s) w ≡ true
one_kept v w s f e h =
    let P : Bool → Type 0 = λ b. has s v ≡ b → has (cond b (less s ((v, v) ∷ [])) s) w ≡ true in
    (elim (has s v) as P [
      | true ↦ λ k.
          let other : has ((v, v) ∷ []) w ≡ false = single_has v w ∙ e in
          has-less_valid s ((v, v) ∷ []) f (value_valid s v f k) w ∙ rw (h, other) refl
      | false ↦ λ k. h
    ]) refl

pub one_valid : (v : ℤ) (s : Ranges) → IsValid s → IsValid (without_one v s)
one_valid v s f =
    let P : Bool → Type 0 = λ b. has s v ≡ b → IsValid (cond b (less s ((v, v) ∷ [])) s) in
    (elim (has s v) as P [ true ↦ λ h. IsValid-less s ((v, v) ∷ []) f (value_valid s v f h) | false ↦ λ h. f ]) refl

items_kept : (items : List (ℤ × ℕ)) (s : Ranges) (w : ℤ) → IsValid s → lacks_value w items ≡ true → has s w ≡ true → has (without_items items s) w ≡ true
items_kept [] s w f l h = h
items_kept (t ∷ ts) s w f l h =
    items_kept ts (without_one t.0 s) w (one_valid t.0 s f) (lacks_more w t ts l) (one_kept t.0 w s f (lacks_head w t ts l) h)

-- an index that has more values than are items' has one that is none's
pub some_without : (items : List (ℤ × ℕ)) (box domain : Ranges) → IsValid box → IsValid domain → IsValid (without_items items domain) → is_within box domain ≡ true → distinct_values items ≡ true →
    (count_of box ≤ count_possible items box → ⊥) → is_within box (less domain (without_items items domain)) ≡ false
some_without items box domain f g w i d more =
    let rest = without_items items domain in
    false_from_ne_true (is_within box (less domain rest)) (λ q. more (few_values items box f d (λ v h. false_from_ne_true (lacks_value v items) (λ l.
    let there = (within_law box domain f g).0 i v h in
    let kept = items_kept items domain v g l there in
    let gone = (and_parts (has domain v) (not (has rest v)) (sym (has-less_valid domain rest g w v) ∙ (within_law box (less domain rest) f (IsValid-less domain rest g w)).0 q v h)).1 in
    let bad : not (has rest v) ≡ false = rw kept refl in cc))))
