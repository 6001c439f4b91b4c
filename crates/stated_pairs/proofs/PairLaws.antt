-- Which variables differ, and that stating what follows says nothing new.
use Rattle.std.proofs.Common.{◌≡◌, ℕ, ◌+◌, ◌-◌, ◌<◌, ◌≤◌, Bool, true, false, not, ◌&&◌, ◌||◌, List, [], ◌∷◌, ℤ, pos, ◌+ℤ◌, ◌*ℤ◌, All, Contains, length, take, drop, get_or, refl, sym, ap, ◌∙◌, subst, arith}
use Rattle.std.specs.Ordering.{int_eq}
use Rattle.std.proofs.lemmas.Int.{ints}
use Rattle.std.proofs.lemmas.Bool.Decides.{Decides-int_eq}
use Rattle.std.proofs.Math.IntN.{zero-*ℤ}
use Rattle.std.proofs.Math.ListN.{drop_of_length-le}
use Rattle.std.proofs.lemmas.List.{drop_more, length-drop, take_all}
use Rattle.std.proofs.lemmas.List.Elements.{All-contains, All-weaker, All-head, All-tail}
use Rattle.signed_clause.specs.Ranges.{Ranges, has}
use Rattle.ground_form.specs.declared.con.Con.{Con}
use Rattle.ground_form.specs.declared.con.Con.TheVariants.{EqDef, LinDef, ClauseCon}
use Rattle.ground_form.specs.declared.ground.Ground.{Ground}
use Rattle.ground_form.specs.Meaning.{value_of, bit, con_true, lacks, all_differ}
use Rattle.form_build.specs.Worlds.{IsWorld, AllHold, Grows, Adds, Defines}
use Rattle.form_build.proofs.Distributing.{distribute}
use Rattle.form_build.proofs.Growth.{world_before, all_before}
use Rattle.stated_pairs.specs.Apart.{IsApart}

-- ---- what follows

-- what follows is stated, and nothing new is said
pub defines_following : (old new : Ground) (says : List ℤ → Bool) → ((a : List ℤ) → IsWorld old a → AllHold old a → says a ≡ true) → Adds [] old new says → Defines old new
defines_following old new says f added = record {
  grows = added.grows;
  holds = λ a w k. ((λ all. (((added.holds a w k).0 all).0, refl)), (λ both. (added.holds a w k).1 (both.0, f a (world_before old new a added.grows w) both.0)));
}

-- pairs are such in a problem that has grown
pub pairs_still : (old new : Ground) (pairs : List (ℕ × ℕ)) → Grows old new → All (IsApart old) pairs → All (IsApart new) pairs
pairs_still old new pairs g f = All-weaker (IsApart old) (IsApart new) (λ p h a w all. h a (world_before old new a g w) (all_before old new a g all)) pairs f

-- ---- what constraints tell

-- the flag of an equality is 1 where it is so
pub equality_is : (flag l r : ℕ) (a : List ℤ) → con_true (EqDef flag l r) a ≡ true → value_of a l ≡ value_of a r → value_of a flag ≡ pos 1
equality_is flag l r a e same =
    let one = (Decides-int_eq (value_of a flag) (bit (int_eq (value_of a l) (value_of a r)))).0 e in
    one ∙ ap bit ((Decides-int_eq (value_of a l) (value_of a r)).1 same)

opposite : (c d v : ℤ) → (c +ℤ d) ≡ pos 0 → ((c *ℤ v) +ℤ ((d *ℤ v) +ℤ pos 0)) ≡ pos 0
opposite c d v h =
    let sum = distribute c d v in
    let none = ap (λ (z : ℤ). z *ℤ v) h ∙ zero-*ℤ v in
    omega (arith, ints, sum, none)

-- a difference of two variables is 0 where these are the same
pub difference_is : (out : ℕ) (s t : ℤ × ℕ) (terms : List (ℤ × ℕ)) (offset : ℤ) (a : List ℤ) → terms ≡ s ∷ t ∷ [] → offset ≡ pos 0 → (s.0 +ℤ t.0) ≡ pos 0 → con_true (LinDef out terms offset) a ≡ true → value_of a s.1 ≡ value_of a t.1 → value_of a out ≡ pos 0
difference_is out s t terms offset a are none opp e same =
    let at = subst (λ (z : ℤ). con_true (LinDef out (s ∷ t ∷ []) z) a ≡ true) none (subst (λ (ts : List (ℤ × ℕ)). con_true (LinDef out ts offset) a ≡ true) are e) in
    let sum = (Decides-int_eq (value_of a out) (((s.0 *ℤ value_of a s.1) +ℤ ((t.0 *ℤ value_of a t.1) +ℤ pos 0)) +ℤ pos 0)).0 at in
    let other = subst (λ (z : ℤ). value_of a out ≡ (((s.0 *ℤ z) +ℤ ((t.0 *ℤ value_of a t.1) +ℤ pos 0)) +ℤ pos 0)) same sum in
    let zero = opposite s.0 t.0 (value_of a t.1) opp in
    omega (arith, ints, other, zero)

apart : true ≡ false → ⊥
apart e = grind arith

only : (b : Bool) → (b || false) ≡ true → b ≡ true
only true h = refl
only false h = h

-- two variables differ where a third hasn't the value that it would have
pub told_apart : (g : Ground) (c : Con) (by l r : ℕ) (v : ℤ) (set : Ranges) → ((a : List ℤ) → con_true c a ≡ true → value_of a l ≡ value_of a r → value_of a by ≡ v) → Contains g.cons (ClauseCon ((by, set) ∷ [])) → has set v ≡ false → Contains g.cons c → IsApart g (l, r)
told_apart g c by l r v set tells asked lacks has_it a w all same =
    let e = All-contains (λ (d : Con). con_true d a ≡ true) g.cons c all has_it in
    let there = All-contains (λ (d : Con). con_true d a ≡ true) g.cons (ClauseCon ((by, set) ∷ [])) all asked in
    let in_set = only (has set (value_of a by)) there in
    apart (sym in_set ∙ ap (has set) (tells a e same) ∙ lacks)

-- ---- all differ

not_equal : (x y : ℤ) → (x ≡ y → ⊥) → int_eq y x ≡ false
not_equal x y f = cases (int_eq y x) refl
  where
    cases : (b : Bool) → int_eq y x ≡ b → b ≡ false
    cases false e = refl
    cases true e = absurd (f (sym ((Decides-int_eq y x).0 e)))

others_lack : (g : Ground) (pairs : List (ℕ × ℕ)) (x : ℕ) (rest : List ℕ) (a : List ℤ) → All (IsApart g) pairs → IsWorld g a → AllHold g a → All (λ (v : ℕ). Contains pairs (x, v)) rest → lacks (value_of a x) rest a ≡ true
others_lack g pairs x [] a ps w all h = refl
others_lack g pairs x (y ∷ ys) a ps w all h =
    let P = λ (v : ℕ). Contains pairs (x, v) in
    let differ = All-contains (IsApart g) pairs (x, y) ps (All-head P y ys h) a w all in
    let more = others_lack g pairs x ys a ps w all (All-tail P y ys h) in
    ap (λ (b : Bool). not b && lacks (value_of a x) ys a) (not_equal (value_of a x) (value_of a y) differ) ∙ more

-- where those from i on differ, all do
abbrev pub AllDifferFrom : List (ℕ × ℕ) → List ℕ → ℕ → Type 0
AllDifferFrom pairs vars i =
    (g : Ground) (a : List ℤ) → All (IsApart g) pairs → IsWorld g a → AllHold g a → all_differ (drop i vars) a ≡ true → all_differ vars a ≡ true

pub from_start : (pairs : List (ℕ × ℕ)) (vars : List ℕ) → AllDifferFrom pairs vars 0
from_start pairs vars g a ps w all h = h

pub from_next : (pairs : List (ℕ × ℕ)) (vars : List ℕ) (i : ℕ) → i < length vars → All (λ (v : ℕ). Contains pairs (get_or vars i 0, v)) (take (length vars - (i + 1)) (drop (i + 1) vars)) → AllDifferFrom pairs vars i → AllDifferFrom pairs vars (i + 1)
from_next pairs vars i lt h before g a ps w all differ =
    let x = get_or vars i 0 in
    let rest = drop (i + 1) vars in
    let whole = take_all (length vars - (i + 1)) rest (omega (arith, length-drop (i + 1) vars)) in
    let there = subst (λ (zs : List ℕ). All (λ (v : ℕ). Contains pairs (x, v)) zs) whole h in
    let lack = others_lack g pairs x rest a ps w all there in
    let both = ap (λ (b : Bool). b && all_differ rest a) lack ∙ differ in
    before g a ps w all (subst (λ (zs : List ℕ). all_differ zs a ≡ true) (sym (drop_more vars i 0 lt)) both)

pub from_end : (pairs : List (ℕ × ℕ)) (vars : List ℕ) (i : ℕ) → length vars ≤ i → AllDifferFrom pairs vars i → (g : Ground) (a : List ℤ) → All (IsApart g) pairs → IsWorld g a → AllHold g a → all_differ vars a ≡ true
from_end pairs vars i past before g a ps w all =
    before g a ps w all (subst (λ (zs : List ℕ). all_differ zs a ≡ true) (sym (drop_of_length-le vars past)) refl)
