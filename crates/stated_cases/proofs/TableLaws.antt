-- What entries say together, and that stating what follows says nothing new.
use Rattle.std.proofs.Common.{◌≡◌, ℕ, Bool, true, false, ◌&&◌, ◌||◌, List, [], ◌∷◌, ℤ, All, Contains, refl, sym, ap, ◌∙◌, subst}
use Rattle.std.proofs.lemmas.List.Elements.{All-contains, All-weaker}
use Rattle.signed_clause.specs.Ranges.{Ranges, has}
use Rattle.ground_form.specs.declared.con.Con.{Con}
use Rattle.ground_form.specs.declared.con.Con.TheVariants.{ClauseCon}
use Rattle.ground_form.specs.declared.ground.Ground.{Ground}
use Rattle.ground_form.specs.Meaning.{value_of, con_true}
use Rattle.form_build.specs.Worlds.{IsWorld, AllHold, Grows, Adds, Defines}
use Rattle.form_build.proofs.Growth.{world_before, all_before}
use Rattle.stated_cases.specs.declared.entries.Entry.{Entry}
use Rattle.stated_cases.specs.Tables.{IsEntry}

-- ---- what follows

-- what follows is stated, and nothing new is said
pub defines_following : (old new : Ground) (says : List ℤ → Bool) → ((a : List ℤ) → IsWorld old a → AllHold old a → says a ≡ true) → Adds [] old new says → Defines old new
defines_following old new says f added = record {
  grows = added.grows;
  holds = λ a w k. ((λ all. (((added.holds a w k).0 all).0, refl)), (λ both. (added.holds a w k).1 (both.0, f a (world_before old new a added.grows w) both.0)));
}

-- an entry is one in a problem that has grown
pub entry_still : (old new : Ground) (e : Entry) → Grows old new → IsEntry old e → IsEntry new e
entry_still old new e g h a w all = h a (world_before old new a g w) (all_before old new a g all)

pub entries_still : (old new : Ground) (es : List Entry) → Grows old new → All (IsEntry old) es → All (IsEntry new) es
entries_still old new es g f = All-weaker (IsEntry old) (IsEntry new) (λ e h. entry_still old new e g h) es f

-- ---- two entries

either_true : (b : Bool) → (b || true) ≡ true
either_true true = refl
either_true false = refl

resolve : (p q r s : Bool) → (p || r) ≡ true → (q || s) ≡ true → ((p && q) || (r || s)) ≡ true
resolve true true r s h k = refl
resolve true false r s h k = ap (λ (b : Bool). r || b) k ∙ either_true r
resolve false q r s h k = ap (λ (b : Bool). b || s) h

-- what two entries of one table say together
pub resolved : (g : Ground) (d e f : Entry) → d.index ≡ e.index → d.number ≡ e.number → f.index ≡ e.index → f.number ≡ e.number → ((v : ℤ) → has f.others v ≡ (has d.others v && has e.others v)) → ((v : ℤ) → has f.values v ≡ (has d.values v || has e.values v)) → IsEntry g d → IsEntry g e → IsEntry g f
resolved g d e f di dn fi fn others values one two a w all =
    let x = value_of a e.index in
    let y = value_of a e.number in
    let p = subst (λ (z : ℕ). (has d.others (value_of a z) || has d.values (value_of a d.number)) ≡ true) di (one a w all) in
    let q = subst (λ (z : ℕ). (has d.others x || has d.values (value_of a z)) ≡ true) dn p in
    let both = resolve (has d.others x) (has e.others x) (has d.values y) (has e.values y) q (two a w all) in
    let joined = ap (λ (b : Bool). b || has f.values y) (others x) ∙ ap (λ (b : Bool). (has d.others x && has e.others x) || b) (values y) ∙ both in
    let at = subst (λ (z : ℕ). (has f.others (value_of a z) || has f.values y) ≡ true) (sym fi) joined in
    subst (λ (z : ℕ). (has f.others (value_of a f.index) || has f.values (value_of a z)) ≡ true) (sym fn) at

-- ---- an entry of a clause

pub clause_entry : (b c : Bool) → (b || (c || false)) ≡ true → (b || c) ≡ true
clause_entry true c h = refl
clause_entry false true h = refl
clause_entry false false h = h

pub clause_turned : (b c : Bool) → (b || (c || false)) ≡ true → (c || b) ≡ true
clause_turned b true h = refl
clause_turned true false h = refl
clause_turned false false h = h

clause_holds : (g : Ground) (c : Con) (l m : ℕ × Ranges) (a : List ℤ) → Contains g.cons c → c ≡ ClauseCon (l ∷ m ∷ []) → AllHold g a → (has l.1 (value_of a l.0) || (has m.1 (value_of a m.0) || false)) ≡ true
clause_holds g c l m a there is all =
    subst (λ (z : Con). con_true z a ≡ true) is (All-contains (λ (d : Con). con_true d a ≡ true) g.cons c all there)

module _ (g : Ground) (e : Entry) (i n : ℕ × Ranges) (index : e.index ≡ i.0) (others : e.others ≡ i.1) (number : e.number ≡ n.0) (values : e.values ≡ n.1) where
  stands_as : ((a : List ℤ) → AllHold g a → (has i.1 (value_of a i.0) || has n.1 (value_of a n.0)) ≡ true) → IsEntry g e
  stands_as says a w all =
      ap (λ (z : ℕ). has e.others (value_of a z) || has e.values (value_of a e.number)) index
      ∙ ap (λ (z : Ranges). has z (value_of a i.0) || has e.values (value_of a e.number)) others
      ∙ ap (λ (z : ℕ). has i.1 (value_of a i.0) || has e.values (value_of a z)) number
      ∙ ap (λ (z : Ranges). has i.1 (value_of a i.0) || has z (value_of a n.0)) values
      ∙ says a all

  -- the index is that of the first literal
  pub is_entry : (c : Con) → Contains g.cons c → c ≡ ClauseCon (i ∷ n ∷ []) → IsEntry g e
  is_entry c there is =
      stands_as (λ a all. clause_entry (has i.1 (value_of a i.0)) (has n.1 (value_of a n.0)) (clause_holds g c i n a there is all))

  -- the index is that of the second literal
  pub is_turned : (c : Con) → Contains g.cons c → c ≡ ClauseCon (n ∷ i ∷ []) → IsEntry g e
  is_turned c there is =
      stands_as (λ a all. clause_turned (has n.1 (value_of a n.0)) (has i.1 (value_of a i.0)) (clause_holds g c n i a there is all))

-- ---- an entry as a disjunction

swapped : (p q : Bool) → (p || q) ≡ true → (q || (p || false)) ≡ true
swapped true true h = refl
swapped true false h = refl
swapped false true h = refl
swapped false false h = h

-- both truths are pushed, one after the other, into the disjunction of nothing
pub pushed : (d0 d1 d2 to tv ho hv : Bool) → d0 ≡ false → d1 ≡ (to || d0) → d2 ≡ (tv || d1) → to ≡ ho → tv ≡ hv → (ho || hv) ≡ true → d2 ≡ true
pushed d0 d1 d2 to tv ho hv e0 e1 e2 et ev h =
    e2 ∙ ap (λ (b : Bool). b || d1) ev ∙ ap (λ (b : Bool). hv || b) (e1 ∙ ap (λ (b : Bool). b || d0) et ∙ ap (λ (b : Bool). ho || b) e0) ∙ swapped ho hv h
