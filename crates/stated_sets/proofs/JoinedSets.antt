-- Sets that are stated of variables, and that stating what they have in common says nothing new.
use Rattle.std.proofs.Common.{◌≡◌, ℕ, ◌<◌, Bool, true, ◌&&◌, ◌||◌, false, List, [], ◌∷◌, ℤ, All, Contains, length, slice_set, refl, sym, ap, ◌∙◌, subst, inl, inr}
use Rattle.std.proofs.lemmas.Bool.{cases_eq}
use Rattle.std.proofs.lemmas.List.{get_or-set_same, get_or-set_other, length-set}
use Rattle.std.proofs.lemmas.List.Elements.{All-contains, All-weaker}
use Rattle.signed_clause.specs.Ranges.{Ranges, has}
use Rattle.signed_clause.specs.Clauses.{Boxes, box_of}
use Rattle.ground_form.specs.declared.con.Con.{Con}
use Rattle.ground_form.specs.declared.con.Con.TheVariants.{ClauseCon}
use Rattle.ground_form.specs.declared.ground.Ground.{Ground}
use Rattle.ground_form.specs.Meaning.{value_of, con_true}
use Rattle.form_build.specs.declared.form.Truth.{Truth}
use Rattle.form_build.specs.Forms.{truth_at}
use Rattle.form_build.specs.Worlds.{IsWorld, IsInBoxes, AllHold, Grows, Adds, Defines}
use Rattle.form_build.proofs.Growth.{world_before, all_before}
use Rattle.stated_sets.specs.Joined.{IsStated, AreStated}

only : (b : Bool) → (b || false) ≡ true → b ≡ true
only true h = refl
only false h = h

-- a clause of one literal states its set
pub stated_by : (g : Ground) (c : Con) (l : ℕ × Ranges) → Contains g.cons c → c ≡ ClauseCon (l ∷ []) → IsStated g l
stated_by g c l has_it is a w all =
    let there = All-contains (λ (d : Con). con_true d a ≡ true) g.cons c all has_it in
    only (has l.1 (value_of a l.0)) (subst (λ (d : Con). con_true d a ≡ true) is there)

-- so is what two sets have in common
pub stated_both : (g : Ground) (sets : Boxes) (l : ℕ × Ranges) (s : Ranges) → AreStated g sets → l.0 < length sets → IsStated g l → ((v : ℤ) → has s v ≡ (has (box_of sets l.0) v && has l.1 v)) → IsStated g (l.0, s)
stated_both g sets l s before lt stated both a w all =
    let v = value_of a l.0 in
    both v ∙ ap (λ (b : Bool). b && has l.1 v) (before l.0 lt a w all) ∙ stated a w all

-- and the domain
pub stated_domain : (g : Ground) (x : ℕ) (s : Ranges) → x < length g.domains → s ≡ box_of g.domains x → IsStated g (x, s)
stated_domain g x s lt is a w all =
    ap (λ (z : Ranges). has z (value_of a x)) is ∙ w.within x lt

pub stated_domains : (g : Ground) (sets : Boxes) → sets ≡ g.domains → AreStated g sets
stated_domains g sets are x lt =
    stated_domain g x (box_of sets x) (subst (λ (z : Boxes). x < length z) are lt) (ap (λ (z : Boxes). box_of z x) are)

-- one more set
pub stated_put : (g : Ground) (sets : Boxes) (x : ℕ) (s : Ranges) → AreStated g sets → x < length sets → IsStated g (x, s) → AreStated g (slice_set sets x s)
stated_put g sets x s before lt stated y lty a w all =
    elim (cases_eq y x) [
      | inl e ↦
          let at : box_of (slice_set sets x s) y ≡ s =
          ap (λ (z : ℕ). box_of (slice_set sets x s) z) e ∙ get_or-set_same sets x s [] lt in
          ap (λ (z : Ranges). has z (value_of a y)) at ∙ ap (λ (z : ℕ). has s (value_of a z)) e ∙ stated a w all
      | inr e ↦
          let old = subst (λ (n : ℕ). y < n) (length-set sets x s) lty in
          ap (λ (z : Ranges). has z (value_of a y)) (get_or-set_other sets x y s [] e) ∙ before y old a w all
    ]

-- what is stated stays so
pub stated_still : (old new : Ground) (ls : List (ℕ × Ranges)) → Grows old new → All (IsStated old) ls → All (IsStated new) ls
stated_still old new ls g f = All-weaker (IsStated old) (IsStated new) (λ l h a w all. h a (world_before old new a g w) (all_before old new a g all)) ls f

-- stating it once more says nothing new
pub defines_stated : (old new : Ground) (boxes : Boxes) (l : ℕ × Ranges) (s : Ranges) (t : Truth) → IsStated old l → s ≡ l.1 → boxes ≡ old.domains →
    ((a : List ℤ) → IsInBoxes boxes a → truth_at t a ≡ has s (value_of a l.0)) → Adds [] old new (λ a. truth_at t a) → Defines old new
defines_stated old new boxes l s t stated is same says added = record {
  grows = added.grows;
  holds = λ a w k.
      let before = world_before old new a added.grows w in
      let there : IsInBoxes boxes a = subst (λ (b : Boxes). IsInBoxes b a) (sym same) before.within in
      let truth : AllHold old a → truth_at t a ≡ true =
      (λ all. says a there ∙ ap (λ (z : Ranges). has z (value_of a l.0)) is ∙ stated a before all) in
      ((λ all. (((added.holds a w k).0 all).0, refl)), (λ both. (added.holds a w k).1 (both.0, truth both.0)));
}
