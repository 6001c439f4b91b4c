-- Rows over the flags that ask about the values of a variable, and rows that are rounded up.
use Rattle.std.proofs.Common.{◌≡◌, ℕ, ◌+◌, ◌<◌, ◌≤◌, Bool, true, false, not, ◌&&◌, List, [], ◌∷◌, ℤ, pos, ◌+ℤ◌, ◌-ℤ◌, ◌*ℤ◌, ◌<ℤ◌, ◌≤ℤ◌, int_le, Contains, All, length, refl, ap, ◌∙◌, arith}
use Rattle.std.specs.Ordering.{int_eq}
use Rattle.std.proofs.lemmas.Int.{ints}
use Rattle.std.proofs.lemmas.Bool.Decides.{Decides-int_eq}
use Rattle.std.proofs.lemmas.List.Elements.{All-contains}
use Rattle.signed_clause.specs.Ranges.{Ranges, has, in_range, is_nil}
use Rattle.signed_clause.specs.Clauses.{box_of}
use Rattle.ground_form.specs.declared.con.Con.{Con}
use Rattle.ground_form.specs.declared.con.Con.TheVariants.{MemberDef}
use Rattle.ground_form.specs.declared.ground.Ground.{Ground}
use Rattle.ground_form.specs.Meaning.{value_of, bit, con_true}
use Rattle.ground_form.proofs.Products.{mul_up}
use Rattle.form_build.specs.declared.form.Linear.{Linear}
use Rattle.form_build.specs.Forms.{linear_at}
use Rattle.form_build.specs.Worlds.{IsInBoxes, IsWorld, AllHold}
use Rattle.stated_facts.specs.Rows.{Follows}
use Rattle.goal_rows.specs.declared.covers.Cover.{Cover}
use Rattle.goal_rows.specs.Covers.{IsCover}

-- ---- flags that ask about a variable

pub none_asked_bound : (g : Ground) (x : ℕ) (sum : Linear) (rest : Ranges) → x < length g.domains → ((a : List ℤ) → linear_at sum a ≡ pos 1) → rest ≡ box_of g.domains x → (a : List ℤ) → IsWorld g a → AllHold g a → linear_at sum a ≤ℤ bit (has rest (value_of a x))
none_asked_bound g x sum rest lt one same a w all =
    let there : has rest (value_of a x) ≡ true = ap (λ (s : Ranges). has s (value_of a x)) same ∙ w.within x lt in
    let full : bit (has rest (value_of a x)) ≡ pos 1 = ap bit there in
    let is = one a in
    omega (arith, ints, full, is)

one_value : (b v : ℤ) → has ((b, b) ∷ []) v ≡ int_eq v b
one_value b v = grind (arith, ints)

same_value : (b v : ℤ) → in_range (b, b) v ≡ int_eq v b
same_value b v = grind (arith, ints)

-- the flag is 1 where the variable has the value, and else 0
flag_value : (g : Ground) (x n f : ℕ) (a : List ℤ) → Contains g.cons (MemberDef f x ((pos n, pos n) ∷ [])) → AllHold g a → value_of a f ≡ bit (int_eq (value_of a x) (pos n))
flag_value g x n f a has_it all =
    let e = All-contains (λ (c : Con). con_true c a ≡ true) g.cons (MemberDef f x ((pos n, pos n) ∷ [])) all has_it in
    (Decides-int_eq (value_of a f) (bit (has ((pos n, pos n) ∷ []) (value_of a x)))).0 e ∙ ap bit (one_value (pos n) (value_of a x))

cover_cases : (rest here left : Bool) (s f r : ℤ) → f ≡ bit here → s ≤ℤ bit rest → r ≡ (s -ℤ f) → left ≡ (rest && not here) → r ≤ℤ bit left
cover_cases true true true s f r is le less e = omega (arith, ints, is, le, less)
cover_cases true true false s f r is le less e = omega (arith, ints, is, le, less)
cover_cases true false true s f r is le less e = omega (arith, ints, is, le, less)
cover_cases true false false s f r is le less e = absurd (grind (arith, e))
cover_cases false true true s f r is le less e = omega (arith, ints, is, le, less)
cover_cases false true false s f r is le less e = omega (arith, ints, is, le, less)
cover_cases false false true s f r is le less e = omega (arith, ints, is, le, less)
cover_cases false false false s f r is le less e = omega (arith, ints, is, le, less)

pub cover_more : (g : Ground) (x n f : ℕ) (cover : Cover) (own sum : Linear) (left : Ranges) → f < length g.domains → Contains g.cons (MemberDef f x ((pos n, pos n) ∷ [])) → IsCover g x cover → ((a : List ℤ) → IsInBoxes g.domains a → linear_at own a ≡ value_of a f) → ((a : List ℤ) → linear_at sum a ≡ (linear_at cover.sum a -ℤ linear_at own a)) → ((v : ℤ) → has left v ≡ (has cover.rest v && not (in_range (pos n, pos n) v))) →
    (a : List ℤ) → IsWorld g a → AllHold g a → linear_at sum a ≤ℤ bit (has left (value_of a x))
cover_more g x n f cover own sum left lt has_it h is less rest a w all =
    let v = value_of a x in
    let flag : linear_at own a ≡ bit (int_eq v (pos n)) = is a w.within ∙ flag_value g x n f a has_it all in
    let gone : has left v ≡ (has cover.rest v && not (int_eq v (pos n))) = rest v ∙ ap (λ (b : Bool). has cover.rest v && not b) (same_value (pos n) v) in
    cover_cases (has cover.rest v) (int_eq v (pos n)) (has left v) (linear_at cover.sum a) (linear_at own a) (linear_at sum a) flag (h.bound a w all) (less a) gone

none_left : (rest : Ranges) (v : ℤ) → is_nil rest ≡ true → bit (has rest v) ≡ pos 0
none_left [] v e = refl
none_left (r ∷ rs) v e = absurd (grind (arith, e))

-- where no value is left the row follows
pub cover_follows : (g : Ground) (x : ℕ) (cover : Cover) → IsCover g x cover → is_nil cover.rest ≡ true → Follows g cover.sum
cover_follows g x cover h e a w all =
    let below = h.bound a w all in
    let nil = none_left cover.rest (value_of a x) e in
    omega (arith, ints, below, nil)

-- ---- rows that are rounded up

below_or_above : (b : Bool) (P : Type 0) → (b ≡ true → P) → (b ≡ false → P) → P
below_or_above true P yes_it no_it = yes_it refl
below_or_above false P yes_it no_it = no_it refl

is_below : (v : ℤ) → int_le v (pos 0) ≡ true → v ≤ℤ pos 0
is_below v h = grind (arith, ints)

is_above : (v : ℤ) → int_le v (pos 0) ≡ false → pos 1 ≤ℤ v
is_above v h = grind (arith, ints)

pub rounded_below : (n : ℕ) (f s rest up : ℤ) → f ≡ ((pos n *ℤ s) +ℤ rest) → f ≤ℤ pos 0 → pos 0 <ℤ ((pos n *ℤ (pos 1 -ℤ up)) +ℤ rest) → (s +ℤ up) ≤ℤ pos 0
rounded_below n f s rest up is below above =
    below_or_above (int_le (s +ℤ up) (pos 0)) ((s +ℤ up) ≤ℤ pos 0)
    (λ e. is_below (s +ℤ up) e)
    (λ e.
    let more = is_above (s +ℤ up) e in
    let product = mul_up n (pos 1 -ℤ up) s (omega (arith, ints, more)) in
    absurd (omega (arith, ints, is, below, above, product)))
