-- Values of variables by what is stated of them.
use Rattle.std.proofs.Common.{◌≡◌, ℕ, Bool, true, false, not, ◌&&◌, ◌||◌, List, [], ◌∷◌, ℤ, All, refl, sym, ap, ◌∙◌, subst, arith, true≢false}
use Rattle.std.specs.Prelude.{Contains}
use Rattle.std.specs.Ordering.{int_eq}
use Rattle.std.proofs.lemmas.Int.{ints}
use Rattle.std.proofs.lemmas.List.Elements.{All-contains}
use Rattle.signed_clause.specs.Ranges.{Ranges, has}
use Rattle.ground_form.specs.declared.con.Con.{Con}
use Rattle.ground_form.specs.declared.con.Con.TheVariants.{ClauseCon, ElementDef, MemberDef}
use Rattle.ground_form.specs.declared.ground.Ground.{Ground}
use Rattle.ground_form.specs.Meaning.{value_of, bit, picks, con_true}
use Rattle.form_build.specs.Worlds.{IsWorld, AllHold}

pub both_true : (p q : Bool) → p ≡ true → q ≡ true → (p && q) ≡ true
both_true p q e f = grind arith

-- a constraint of the problem holds
pub stands : (g : Ground) (c : Con) (a : List ℤ) → Contains g.cons c → AllHold g a → con_true c a ≡ true
stands g c a there all = All-contains (λ (d : Con). con_true d a ≡ true) g.cons c all there

-- ---- clauses

alone : (p : Bool) → (p || false) ≡ true → p ≡ true
alone true h = refl
alone false h = h

other_one : (p q : Bool) → (p || (q || false)) ≡ true → p ≡ false → q ≡ true
other_one true q h e = absurd (true≢false e)
other_one false q h e = alone q h

first_one : (p q : Bool) → (p || (q || false)) ≡ true → q ≡ false → p ≡ true
first_one true q h e = refl
first_one false true h e = absurd (true≢false e)
first_one false false h e = h

-- what a clause of one literal leaves
pub one_left : (c : Con) (l : ℕ × Ranges) (values left : Ranges) (y : ℕ) (a : List ℤ) → c ≡ ClauseCon (l ∷ []) → l.0 ≡ y → ((v : ℤ) → has left v ≡ (has values v && has l.1 v)) → con_true c a ≡ true → has values (value_of a y) ≡ true → has left (value_of a y) ≡ true
one_left c l values left y a is e meets h k =
    let holds = alone (has l.1 (value_of a l.0)) (subst (λ (z : Con). con_true z a ≡ true) is h) in
    let there = subst (λ (z : ℕ). has l.1 (value_of a z) ≡ true) e holds in
    meets (value_of a y) ∙ both_true (has values (value_of a y)) (has l.1 (value_of a y)) k there

-- what a clause of two leaves where its first literal doesn't hold
pub second_left : (c : Con) (l m : ℕ × Ranges) (values left : Ranges) (y : ℕ) (a : List ℤ) → c ≡ ClauseCon (l ∷ m ∷ []) → m.0 ≡ y → ((v : ℤ) → has left v ≡ (has values v && has m.1 v)) → has l.1 (value_of a l.0) ≡ false → con_true c a ≡ true → has values (value_of a y) ≡ true → has left (value_of a y) ≡ true
second_left c l m values left y a is e meets off h k =
    let holds = other_one (has l.1 (value_of a l.0)) (has m.1 (value_of a m.0)) (subst (λ (z : Con). con_true z a ≡ true) is h) off in
    let there = subst (λ (z : ℕ). has m.1 (value_of a z) ≡ true) e holds in
    meets (value_of a y) ∙ both_true (has values (value_of a y)) (has m.1 (value_of a y)) k there

-- or its second
pub first_left : (c : Con) (l m : ℕ × Ranges) (values left : Ranges) (y : ℕ) (a : List ℤ) → c ≡ ClauseCon (l ∷ m ∷ []) → l.0 ≡ y → ((v : ℤ) → has left v ≡ (has values v && has l.1 v)) → has m.1 (value_of a m.0) ≡ false → con_true c a ≡ true → has values (value_of a y) ≡ true → has left (value_of a y) ≡ true
first_left c l m values left y a is e meets off h k =
    let holds = first_one (has l.1 (value_of a l.0)) (has m.1 (value_of a m.0)) (subst (λ (z : Con). con_true z a ≡ true) is h) off in
    let there = subst (λ (z : ℕ). has l.1 (value_of a z) ≡ true) e holds in
    meets (value_of a y) ∙ both_true (has values (value_of a y)) (has l.1 (value_of a y)) k there

-- ---- elements and flags

eq_of : (x y : ℤ) → int_eq x y ≡ true → x ≡ y
eq_of x y h = grind (arith, ints)

or_right : (m s : Bool) → s ≡ true → (m || s) ≡ true
or_right true s h = refl
or_right false s h = h

pick_case : (p q r s m inside : Bool) → (p ≡ true → m ≡ true) → (inside ≡ false → q ≡ false) → (inside ≡ true → r ≡ true → m ≡ true) → (p || ((q && r) || s)) ≡ true → (m || s) ≡ true
pick_case true q r s m i f g k h = ap (λ (b : Bool). b || s) (f refl)
pick_case false true true s m true f g k h = ap (λ (b : Bool). b || s) (k refl refl)
pick_case false true true s m false f g k h = absurd (true≢false (g refl))
pick_case false true false s m i f g k h = or_right m s h
pick_case false false r s m i f g k h = or_right m s h

-- what the index picks is among the values so far, or picked from the items that are left
abbrev pub ArePicked : Ground → Ranges → List (ℤ × ℕ) → List (ℤ × ℕ) → Ranges → Type 0
ArePicked g at items left values =
    (a : List ℤ) → IsWorld g a → AllHold g a → (out index : ℤ) → has at index ≡ true → picks out index items a ≡ true
    → (has values out || picks out index left a) ≡ true

-- one item further
pub pick_next : (g : Ground) (at : Ranges) (items : List (ℤ × ℕ)) (t : ℤ × ℕ) (rest : List (ℤ × ℕ)) (values more : Ranges) → ArePicked g at items (t ∷ rest) values → ((v : ℤ) → has values v ≡ true → has more v ≡ true) →
    ((a : List ℤ) → IsWorld g a → AllHold g a → has at t.0 ≡ true → has more (value_of a t.1) ≡ true) → ArePicked g at items rest more
pick_next g at items t rest values more inv before item a w all out index h p =
    pick_case (has values out) (int_eq t.0 index) (int_eq (value_of a t.1) out) (picks out index rest a) (has more out) (int_eq t.0 index) (before out) (λ e. e)
    (λ e f. subst (λ (v : ℤ). has more v ≡ true) (eq_of (value_of a t.1) out f) (item a w all (subst (λ (v : ℤ). has at v ≡ true) (sym (eq_of t.0 index e)) h)))
    (inv a w all out index h p)

-- a flag is the truth that its definition says
pub flag_is : (g : Ground) (flag var : ℕ) (set : Ranges) (a : List ℤ) → Contains g.cons (MemberDef flag var set) → AllHold g a → value_of a flag ≡ bit (has set (value_of a var))
flag_is g flag var set a there all = eq_of (value_of a flag) (bit (has set (value_of a var))) (stands g (MemberDef flag var set) a there all)
