-- What a walk over the items of an element has passed over.
use Rattle.std.proofs.Common.{◌≡◌, ℕ, zero, suc, ◌<◌, ◌≤◌, ◌+◌, Bool, true, false, not, ◌&&◌, ◌||◌, cond, List, [], ◌∷◌, ℤ, drop, length, ◌==◌, refl, arith, ap, sym, subst, ◌∙◌}
use Rattle.std.specs.Prelude.{slice_index_or}
use Rattle.signed_clause.specs.Ranges.{Ranges, has}
use Rattle.signed_clause.specs.SetAlgebra.{is_disjoint}
use Rattle.signed_clause.specs.Clauses.{Boxes, box_of}
use Rattle.element_prop.specs.declared.near.Near.{Near}
use Rattle.element_prop.specs.Elements.{all_meet, count_possible, lacks_var}
use Rattle.element_prop.specs.Near.{IsNear}
use Rattle.element_prop.specs.Walks.{IsPassed, IsOpen}
use Rattle.element_prop.proofs.NearLaws.{meet_from, meet_to, lacks_from, lacks_to}

-- ---- one item more

next_item : (items : List (ℤ × ℕ)) (k : ℕ) (t : ℤ × ℕ) → k < length items → ((d : ℤ × ℕ) → t ≡ slice_index_or items k d) → drop k items ≡ t ∷ drop (k + 1) items
next_item [] k t h e = absurd (omega (arith, h))
next_item (y ∷ ys) zero t h e = ap (λ z. z ∷ ys) (sym (e t))
next_item (y ∷ ys) (suc k) t h e =
    let same : suc (k + 1) ≡ suc k + 1 = omega arith in
    subst (λ n. drop k ys ≡ t ∷ drop n (y ∷ ys)) same (next_item ys k t (omega (arith, h)) e)

counted : (b : Bool) (n more : ℕ) → more ≡ cond b 1 0 → more + n ≡ cond b (suc n) n
counted true n more e = omega (arith, e)
counted false n more e = omega (arith, e)

grouped : (a b c : ℕ) → (a + b) + c ≡ a + (b + c)
grouped a b c = omega arith

lacks_one : (h d r : Bool) → d ≡ false → ((not h || not d) && r) ≡ r
lacks_one h d r e = grind arith

pub passed_none : (items : List (ℤ × ℕ)) (k o x : ℕ) (out index : Ranges) (boxes : Boxes) → IsPassed items k k o x out index boxes 0 true
passed_none items k o x out index boxes = record { meet = refl; possible = omega arith; lacks_out = λ yes. refl; lacks_index = λ yes. refl }

pub passed_next : (items : List (ℤ × ℕ)) (from k o x : ℕ) (out index : Ranges) (boxes : Boxes) (count more : ℕ) (apart next : Bool) (t : ℤ × ℕ) → k < length items → ((d : ℤ × ℕ) → t ≡ slice_index_or items k d) →
    (not (has index t.0) || not (is_disjoint (box_of boxes t.1) out)) ≡ true → more ≡ cond (has index t.0) 1 0 →
    (next ≡ true → apart ≡ true) → (next ≡ true → (t.1 == o) ≡ false) → (next ≡ true → (t.1 == x) ≡ false) →
    IsPassed items from k o x out index boxes count apart → IsPassed items from (k + 1) o x out index boxes (count + more) next
passed_next items from k o x out index boxes count more apart next t lt is meets one before no_out no_index p =
    let rest = drop (k + 1) items in
    let split : drop k items ≡ t ∷ rest = next_item items k t lt is in
    record {
      meet = p.meet ∙ ap (λ (ts : List (ℤ × ℕ)). all_meet ts out index boxes) split ∙ ap (λ (b : Bool). b && all_meet rest out index boxes) meets;
      possible =
          grouped count more (count_possible rest index)
          ∙ ap (λ (n : ℕ). count + n) (counted (has index t.0) (count_possible rest index) more one ∙ sym (ap (λ (ts : List (ℤ × ℕ)). count_possible ts index) split))
          ∙ p.possible;
      lacks_out = λ yes. p.lacks_out (before yes) ∙ ap (λ (ts : List (ℤ × ℕ)). lacks_var o ts index) split ∙ lacks_one (has index t.0) (t.1 == o) (lacks_var o rest index) (no_out yes);
      lacks_index = λ yes. p.lacks_index (before yes) ∙ ap (λ (ts : List (ℤ × ℕ)). lacks_var x ts index) split ∙ lacks_one (has index t.0) (t.1 == x) (lacks_var x rest index) (no_index yes);
    }

-- ---- all of them

pub open_from : (items : List (ℤ × ℕ)) (o x : ℕ) (out index : Ranges) (boxes : Boxes) (near : Near) (count : ℕ) (apart : Bool) → IsNear items index near → near.apart ≡ apart →
    IsPassed items near.from near.to o x out index boxes count apart → IsOpen items o x out index boxes near
open_from items o x out index boxes near count apart h e p = record {
  meet = sym (meet_from items index near out boxes h) ∙ p.meet ∙ meet_to items index near out boxes h;
  places = h;
  apart = record {
    lacks_out = λ yes. sym (lacks_from items index near o h) ∙ p.lacks_out (sym e ∙ yes) ∙ lacks_to items index near o h;
    lacks_index = λ yes. sym (lacks_from items index near x h) ∙ p.lacks_index (sym e ∙ yes) ∙ lacks_to items index near x h;
  };
}

-- the same places, of which less is said
pub near_same : (items : List (ℤ × ℕ)) (index : Ranges) (near other : Near) → IsNear items index near → other.from ≡ near.from → other.to ≡ near.to → other.full ≡ false → IsNear items index other
near_same items index near other h a b n = record {
  order = subst (λ (k : ℕ). k ≤ other.to) (sym a) (subst (λ (k : ℕ). near.from ≤ k) (sym b) h.order);
  within = subst (λ (k : ℕ). k ≤ length items) (sym b) h.within;
  before = rw a h.before;
  behind = rw b h.behind;
  full = λ yes. absurd (let bad : true ≡ false = sym yes ∙ n in cc);
}
