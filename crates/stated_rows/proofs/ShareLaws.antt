-- What a term of a sum is at least, by the definition of its variable.
use Rattle.std.proofs.Common.{◌≡◌, ℕ, Bool, true, false, ◌&&◌, ◌||◌, cond, List, [], ◌∷◌, ℤ, pos, negsuc, ◌*ℤ◌, ◌≤ℤ◌, Contains, sym, ap, ◌∙◌, subst, arith}
use Rattle.std.specs.Int.{int_min}
use Rattle.std.specs.Ordering.{int_eq}
use Rattle.std.proofs.lemmas.Int.{ints}
use Rattle.std.proofs.lemmas.Bool.Decides.{Decides-int_eq}
use Rattle.std.proofs.lemmas.List.Elements.{All-contains}
use Rattle.signed_clause.specs.Ranges.{has}
use Rattle.ground_form.specs.declared.con.Con.{Con}
use Rattle.ground_form.specs.declared.con.Con.TheVariants.{MemberDef, CondDef}
use Rattle.ground_form.specs.declared.ground.Ground.{Ground}
use Rattle.ground_form.specs.declared.sums.Number.{Number}
use Rattle.ground_form.specs.Meaning.{value_of, bit, con_true}
use Rattle.ground_form.proofs.Products.{mul_up, mul_least}
use Rattle.form_build.specs.Worlds.{IsWorld, AllHold}
use Rattle.stated_rows.specs.declared.shares.Share.TheVariants.{Load, Least}
use Rattle.stated_rows.specs.Following.{AreEnds, IsShareOf}

-- ---- in any case

pub least_share : (g : Ground) (bin : ℤ) (t : ℤ × ℕ) (low high : ℤ) (v : Number) → AreEnds g t.1 low high → v.value ≡ int_min (t.0 *ℤ low) (t.0 *ℤ high) → IsShareOf g bin t (Least v)
least_share g bin t low high v ends is a w all =
    let e = ends a w all in
    subst (λ (z : ℤ). z ≤ℤ (t.0 *ℤ value_of a t.1)) (sym is) (mul_least t.0 low high (value_of a t.1) e.0 e.1)

-- ---- by a flag

one_value : (b v : ℤ) → has ((b, b) ∷ []) v ≡ int_eq v b
one_value b v = grind (arith, ints)

-- the flag is 1 where the variable is the bin, and else 0
flag_value : (g : Ground) (x bin f : ℕ) (a : List ℤ) → Contains g.cons (MemberDef f x ((pos bin, pos bin) ∷ [])) → AllHold g a → value_of a f ≡ bit (int_eq (value_of a x) (pos bin))
flag_value g x bin f a has_it all =
    let e = All-contains (λ (c : Con). con_true c a ≡ true) g.cons (MemberDef f x ((pos bin, pos bin) ∷ [])) all has_it in
    (Decides-int_eq (value_of a f) (bit (has ((pos bin, pos bin) ∷ []) (value_of a x)))).0 e ∙ ap bit (one_value (pos bin) (value_of a x))

weighed : (b : Bool) (c : ℤ) → cond b c (pos 0) ≤ℤ (c *ℤ bit b)
weighed true c = omega (arith, ints)
weighed false c = omega (arith, ints)

pub flag_share : (g : Ground) (x bin : ℕ) (t : ℤ × ℕ) (size : Number) → Contains g.cons (MemberDef t.1 x ((pos bin, pos bin) ∷ [])) → size.value ≡ t.0 → IsShareOf g (pos bin) t (Load x size)
flag_share g x bin t size has_it is a w all =
    subst (λ (s : ℤ). cond (int_eq (value_of a x) (pos bin)) s (pos 0) ≤ℤ (t.0 *ℤ value_of a t.1)) (sym is)
    (subst (λ (z : ℤ). cond (int_eq (value_of a x) (pos bin)) t.0 (pos 0) ≤ℤ (t.0 *ℤ z)) (sym (flag_value g x bin t.1 a has_it all)) (weighed (int_eq (value_of a x) (pos bin)) t.0))

-- ---- by a flag and a size

mul_more : (c x y : ℤ) → pos 0 ≤ℤ c → x ≤ℤ y → (c *ℤ x) ≤ℤ (c *ℤ y)
mul_more (pos n) x y h le = mul_up n x y le
mul_more (negsuc n) x y h le = absurd (omega (arith, ints, h))

-- so much of an item's low end is at most so much of its value
pub least_product : (g : Ground) (t : ℤ × ℕ) (item : ℕ) (low high : ℤ) (p : Number) → AreEnds g item low high → pos 0 ≤ℤ t.0 → p.value ≡ (t.0 *ℤ low) → (a : List ℤ) → IsWorld g a → AllHold g a → p.value ≤ℤ (t.0 *ℤ value_of a item)
least_product g t item low high p ends some is a w all =
    let e = ends a w all in
    subst (λ (z : ℤ). z ≤ℤ (t.0 *ℤ value_of a item)) (sym is) (mul_more t.0 low (value_of a item) some e.0)

by_one : (f w item : ℤ) → f ≡ pos 1 → ((int_eq f (pos 1) && int_eq w item) || (int_eq f (pos 0) && int_eq w (pos 0))) ≡ true → w ≡ item
by_one f w item e h = grind (arith, ints)

by_nought : (f w item : ℤ) → f ≡ pos 0 → ((int_eq f (pos 1) && int_eq w item) || (int_eq f (pos 0) && int_eq w (pos 0))) ≡ true → w ≡ pos 0
by_nought f w item e h = grind (arith, ints)

chosen : (b : Bool) (f w item c v : ℤ) → f ≡ bit b → v ≤ℤ (c *ℤ item) → ((int_eq f (pos 1) && int_eq w item) || (int_eq f (pos 0) && int_eq w (pos 0))) ≡ true → cond b v (pos 0) ≤ℤ (c *ℤ w)
chosen true f w item c v e le h = subst (λ (z : ℤ). v ≤ℤ (c *ℤ z)) (sym (by_one f w item e h)) le
chosen false f w item c v e le h = subst (λ (z : ℤ). pos 0 ≤ℤ (c *ℤ z)) (sym (by_nought f w item e h)) (omega (arith, ints))

pub chosen_share : (g : Ground) (x bin f item : ℕ) (t : ℤ × ℕ) (p : Number) → Contains g.cons (CondDef t.1 f item) → Contains g.cons (MemberDef f x ((pos bin, pos bin) ∷ [])) →
    ((a : List ℤ) → IsWorld g a → AllHold g a → p.value ≤ℤ (t.0 *ℤ value_of a item)) → IsShareOf g (pos bin) t (Load x p)
chosen_share g x bin f item t p has_it asks le a w all =
    let e = All-contains (λ (c : Con). con_true c a ≡ true) g.cons (CondDef t.1 f item) all has_it in
    chosen (int_eq (value_of a x) (pos bin)) (value_of a f) (value_of a t.1) (value_of a item) t.0 p.value (flag_value g x bin f a asks all) (le a w all) e
