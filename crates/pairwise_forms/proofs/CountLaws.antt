-- Variables that differ, as items of a packing.
use Rattle.std.proofs.Common.{◌≡◌, ℕ, ◌<◌, Bool, true, false, not, ◌&&◌, cond, List, [], ◌∷◌, ℤ, pos, ◌+ℤ◌, int_le, length, map, All, refl, sym, ap, ◌∙◌, subst, arith}
use Rattle.std.specs.Ordering.{int_eq}
use Rattle.std.proofs.lemmas.Bool.{and_parts, and_from}
use Rattle.std.proofs.lemmas.Bool.Decides.{Decides-int_eq}
use Rattle.std.proofs.lemmas.List.Elements.{All-weaker, All-map}
use Rattle.ground_form.specs.declared.ground.Ground.{Ground}
use Rattle.ground_form.specs.Meaning.{value_of, lacks, all_differ, load_at, rooms_hold}
use Rattle.ground_build.specs.Growing.{AreItemVariables}
use Rattle.form_build.specs.Worlds.{IsWorld, Adds, Defines, Grows}
use Rattle.form_build.proofs.Growth.{adds_more, adds_same, world_before, no_less}
use Rattle.pairwise_forms.specs.Blocks.{Follows}

-- the items that variables are
abbrev item : ℕ → ℕ → ℕ × ℕ × ℕ
item one x = (x, one, one)

turned : (p : Bool) → not p ≡ true → p ≡ false
turned true h = absurd cc
turned false h = refl

load_none : (v : ℤ) (one : ℕ) (xs : List ℕ) (a : List ℤ) → lacks v xs a ≡ true → load_at v (map (item one) xs) a ≡ pos 0
load_none v one [] a h = refl
load_none v one (x ∷ xs) a h =
    let parts = and_parts (not (int_eq (value_of a x) v)) (lacks v xs a) h in
    let other = turned (int_eq (value_of a x) v) parts.0 in
    ap (λ (b : Bool). cond b (value_of a one +ℤ load_at v (map (item one) xs) a) (load_at v (map (item one) xs) a)) other
    ∙ load_none v one xs a parts.1

-- at each place there is one at most
load_few : (v : ℤ) (one : ℕ) (xs : List ℕ) (a : List ℤ) → value_of a one ≡ pos 1 → all_differ xs a ≡ true → int_le (load_at v (map (item one) xs) a) (pos 1) ≡ true
load_few v one [] a is h = refl
load_few v one (x ∷ xs) a is h =
    let parts = and_parts (lacks (value_of a x) xs a) (all_differ xs a) h in
    let rest = load_at v (map (item one) xs) a in
    let P : Bool → Type 0 = λ b. int_eq (value_of a x) v ≡ b → int_le (cond b (value_of a one +ℤ rest) rest) (pos 1) ≡ true in
    (elim (int_eq (value_of a x) v) as P [
      | true ↦ λ e.
          let same = (Decides-int_eq (value_of a x) v).0 e in
          let none = load_none v one xs a (ap (λ (w : ℤ). lacks w xs a) (sym same) ∙ parts.0) in
          ap (λ (w : ℤ). int_le (w +ℤ rest) (pos 1)) is ∙ ap (λ (w : ℤ). int_le (pos 1 +ℤ w) (pos 1)) none
      | false ↦ λ e. load_few v one xs a is parts.1
    ]) refl

rooms_from : (one : ℕ) (all xs : List ℕ) (a : List ℤ) → value_of a one ≡ pos 1 → all_differ all a ≡ true → rooms_hold (map (item one) all) (map (item one) xs) a ≡ true
rooms_from one all [] a is h = refl
rooms_from one all (x ∷ xs) a is h =
    and_from (int_le (load_at (value_of a x) (map (item one) all) a) (value_of a one)) (rooms_hold (map (item one) all) (map (item one) xs) a)
    (ap (λ (w : ℤ). int_le (load_at (value_of a x) (map (item one) all) a) w) is ∙ load_few (value_of a x) one all a is h)
    (rooms_from one all xs a is h)

pub rooms_differ : (one : ℕ) (vars : List ℕ) (items : List (ℕ × ℕ × ℕ)) (a : List ℤ) → items ≡ map (λ x. (x, one, one)) vars → value_of a one ≡ pos 1 → all_differ vars a ≡ true → rooms_hold items items a ≡ true
rooms_differ one vars items a e is h =
    ap (λ (l : List (ℕ × ℕ × ℕ)). rooms_hold l l a) e ∙ rooms_from one vars vars a is h

-- ---- variables

pub items_exist : (old new : Ground) (one : ℕ) (vars : List ℕ) (items : List (ℕ × ℕ × ℕ)) → items ≡ map (λ x. (x, one, one)) vars → Grows old new → one < length new.domains → All (λ x. x < length old.domains) vars → All (AreItemVariables new) items
items_exist old new one vars items e g lt h =
    subst (All (AreItemVariables new)) (sym e)
    (All-map (AreItemVariables new) (item one) vars
    (All-weaker (λ x. x < length old.domains) (λ x. AreItemVariables new (item one x)) (λ x there. let less = no_less old new g in (omega (arith, there, less), lt, lt)) vars h))

-- ---- what follows

pub nothing_follows : (old new : Ground) (from : List ℤ → Bool) → Defines old new → Follows old new from
nothing_follows old new from d = record { says = λ a. true; adds = d; most = λ a w h. refl }

pub packing_follows : (old mid new : Ground) (one : ℕ) (vars : List ℕ) (items : List (ℕ × ℕ × ℕ)) → items ≡ map (λ x. (x, one, one)) vars → Defines old mid → ((a : List ℤ) → IsWorld mid a → value_of a one ≡ pos 1) → Adds [] mid new (λ a. rooms_hold items items a) → Follows old new (λ a. all_differ vars a)
packing_follows old mid new one vars items e d is added = record {
  says = λ a. true && rooms_hold items items a;
  adds = adds_more [] old mid new (λ a. true) (λ a. rooms_hold items items a) d added;
  most = λ a w h. rooms_differ one vars items a e (is a (world_before mid new a added.grows w)) h;
}

-- what follows from what was said says no more
pub said_already : (old mid new : Ground) (said : List ℤ → Bool) → Adds [] old mid said → Follows mid new said → Adds [] old new said
said_already old mid new said one two =
    adds_same [] old new (λ a. said a && two.says a) said
    (λ a w kn. no_more (said a) (two.says a) (two.most a w))
    (adds_more [] old mid new said two.says one two.adds)
  where
    no_more : (p q : Bool) → (p ≡ true → q ≡ true) → (p && q) ≡ p
    no_more true q h = h refl
    no_more false q h = refl
