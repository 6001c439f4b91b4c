-- Items that fit, and for which there is room, are quiet.
use Rattle.std.proofs.Common.{◌≡◌, ℕ, ◌<◌, Bool, true, false, List, [], ◌∷◌, ◌++◌, ℤ, All, length, refl, arith, inl, inr, subst, sym, ◌∙◌}
use Rattle.std.specs.Prelude.{int_lt}
use Rattle.std.proofs.lemmas.Int.{ints}
use Rattle.std.proofs.lemmas.Bool.{cases_eq, false_from_ne_true}
use Rattle.std.proofs.lemmas.Bool.Decides.{Decides-int_eq}
use Rattle.signed_clause.specs.Ranges.{Ranges, has, IsValid}
use Rattle.signed_clause.specs.Clauses.{Boxes, box_of}
use Rattle.signed_clause.proofs.SetFacts.{same_law}
use Rattle.ground_form.specs.declared.con.Con.TheVariants.{Pack}
use Rattle.ground_form.specs.Meaning.{item_vars}
use Rattle.ground_form.specs.Bounds.{low_of}
use Rattle.rule_law.specs.Answers.{AreBoxesWithin}
use Rattle.box_view.specs.Views.{fixing}
use Rattle.box_rules.specs.Quiet.{quiet}
use Rattle.box_rules.specs.Refuted.{some_overfull, least_sizes, all_room, some_empty, refuted}
use Rattle.box_rules.specs.Named.{Agree}
use Rattle.rule_law.specs.Reasons.{has_number}
use Rattle.box_rules.proofs.FixedLaws.{fixed_value}
use Rattle.box_view.proofs.EndLaws.{AreSets, are_sets, single_has}
use Rattle.box_view.proofs.SetLaws.{fixing_same, fixing_other}
use Rattle.box_view.proofs.CutLaws.{low_within, top_within}
use Rattle.box_rules.proofs.Agreeing.{agree_refuted}
use Rattle.rule_law.specs.Repeats.{is_one}
use Rattle.pack_fit.specs.Packing.{fits, all_fit}
use Rattle.all_different_pruner.proofs.Fixpoint.{all_at}
use Rattle.all_different_pruner.proofs.FixpointQuiet.{none_empty, fixed_not_empty}
use Rattle.all_different_pruner.proofs.QuietFrom.{quiet_from}
use Rattle.pack_fit.proofs.Spots.{spot}
use Rattle.pack_fit.proofs.OneBox.{tight_at_most}
use Rattle.pack_fit.specs.Packing.{AllFit, opens}
use Rattle.rule_law.specs.Reasons.{no_repeat}
use Rattle.pack_fit.proofs.PackLoads.{HasSlack, now_fine, loads_fine}
use Rattle.pack_fit.proofs.PackTotal.{HasRoom}

-- ---- a box that is one value

same_value : (s : Ranges) (v w : ℤ) → IsValid s → is_one s ≡ true → has s v ≡ true → v ≡ low_of s → has s w ≡ has ((v, v) ∷ []) w
same_value s v w f o h e =
    let d = Decides-int_eq v w in
    (elim (has s w) as (λ t. has s w ≡ t → t ≡ has ((v, v) ∷ []) w) [
      | true ↦ λ k. let is = fixed_value s (low_of s) w f o k in let same : v ≡ w = omega (arith, ints) in sym (single_has v w ∙ d.1 same)
      | false ↦ λ k. sym (false_from_ne_true (has ((v, v) ∷ []) w) (λ q. let same : v ≡ w = d.0 (sym (single_has v w) ∙ q) in
          let there : has s w ≡ true = subst (λ (z : ℤ). has s z ≡ true) same h in absurd cc))
    ]) refl

one_is : (s : Ranges) (v : ℤ) → IsValid s → is_one s ≡ true → has s v ≡ true → s ≡ (v, v) ∷ []
one_is s v f o h =
    let is_low = fixed_value s (low_of s) v f o h in
    let low = low_within _ _ s v f h in let top = top_within _ _ s v f h in
    let valid : IsValid ((v, v) ∷ []) = (low, omega (arith, ints), omega (arith, ints)) in
    (same_law s ((v, v) ∷ []) f valid).1 (λ w. same_value s v w f o h is_low)

same_box : (boxes : Boxes) (x : ℕ) (v : ℤ) → x < length boxes → box_of boxes x ≡ (v, v) ∷ [] → (y : ℕ) → box_of (fixing boxes x v) y ≡ box_of boxes y
same_box boxes x v n e y =
    elim (cases_eq y x) [
      | inl q ↦ subst (λ (z : ℕ). box_of (fixing boxes x v) z ≡ box_of boxes z) (sym q) (fixing_same boxes x v n ∙ sym e)
      | inr q ↦ fixing_other boxes x y v q
    ]

same_agree : (a b : Boxes) (xs : List ℕ) → ((y : ℕ) → box_of a y ≡ box_of b y) → Agree a b xs
same_agree a b [] h = tt
same_agree a b (x ∷ xs) h = (h x, same_agree a b xs h)

-- ---- the rule

pub record IsFine (items : List (ℕ × ℕ × ℕ)) (later : Boxes) : Type 0 where
  pub loads : some_overfull items items later ≡ false
  pub total : int_lt (all_room items later) (least_sizes items later) ≡ false

open_fine : (items : List (ℕ × ℕ × ℕ)) (boxes : Boxes) (x : ℕ) (v : ℤ) → AreSets boxes → no_repeat (opens items boxes) ≡ true → AllFit items boxes → HasRoom items boxes →
    x < length boxes → is_one (box_of boxes x) ≡ false → has (box_of boxes x) v ≡ true → has_number x (item_vars items) ≡ true → IsFine items (fixing boxes x v)
open_fine items boxes x v s once fits room n o m h =
    let at = spot x items boxes o once h in
    let fit : (p : ℤ) → all_fit p (at.front ++ at.item ∷ at.back) (at.front ++ at.item ∷ at.back) boxes ≡ true = subst (λ (z : List (ℕ × ℕ × ℕ)). (p : ℤ) → all_fit p z z boxes ≡ true) at.is fits in
    let r : HasSlack at.front at.item at.back boxes x v = record { sets = s; named = n; is_open = o; member = m; not_front = at.not_front; not_back = at.not_back; fit = fit } in
    record {
      loads = subst (λ (z : List (ℕ × ℕ × ℕ)). some_overfull z z (fixing boxes x v) ≡ false) (sym at.is) (loads_fine at.front at.item at.back boxes x v r at.role);
      total = room.narrowed at.front at.item at.back x v at.is r at.role;
    }

pack_not_refuted : (items : List (ℕ × ℕ × ℕ)) (boxes : Boxes) → some_empty (item_vars items) boxes ≡ false → IsFine items boxes → refuted (Pack items) boxes ≡ false
pack_not_refuted items boxes e f = let a = f.loads in let b = f.total in rw (e, a, b) refl

pub room_quiet : (domains boxes : Boxes) (items : List (ℕ × ℕ × ℕ)) → AreBoxesWithin domains boxes → All (λ y. y < length boxes) (item_vars items) →
    no_repeat (opens items boxes) ≡ true → AllFit items boxes → HasRoom items boxes → quiet (Pack items) boxes ≡ true
room_quiet domains boxes items w n once fits room =
    let s = are_sets boxes w.sets in
    let fine : IsFine items boxes = record { loads = now_fine items items boxes s fits (λ p. tight_at_most p items boxes); total = room.at_once } in
    let now = pack_not_refuted items boxes (none_empty (item_vars items) boxes w.some n) fine in
    quiet_from (Pack items) boxes s now (λ x there.
    let named = all_at (λ y. y < length boxes) x (item_vars items) n there in
    record {
      some = w.some x named;
      values = λ v member.
          let P : Bool → Type 0 = λ t. is_one (box_of boxes x) ≡ t → refuted (Pack items) (fixing boxes x v) ≡ false in
          (elim (is_one (box_of boxes x)) as P [
            | true ↦ λ o. agree_refuted (Pack items) (fixing boxes x v) boxes (same_agree (fixing boxes x v) boxes (item_vars items) (same_box boxes x v named (one_is (box_of boxes x) v (s x) o member))) ∙ now
            | false ↦ λ o. pack_not_refuted items (fixing boxes x v) (fixed_not_empty (item_vars items) boxes x v named w.some n) (open_fine items boxes x v s once fits room named o member there)
          ]) refl;
    })
