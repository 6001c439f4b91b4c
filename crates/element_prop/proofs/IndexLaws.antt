-- The index of an element is the value of an item.
use Rattle.std.proofs.Common.{◌≡◌, ℕ, zero, suc, ◌<◌, Bool, true, false, not, ◌&&◌, cond, List, [], ◌∷◌, ℤ, length, All, refl, arith, subst, sym, ap, ◌∙◌}
use Rattle.std.proofs.lemmas.Bool.{false_from_ne_true}
use Rattle.signed_clause.specs.Ranges.{Ranges, has, count_of, IsValid}
use Rattle.signed_clause.specs.SetAlgebra.{is_within, less}
use Rattle.signed_clause.specs.Clauses.{Boxes, box_of}
use Rattle.signed_clause.proofs.RangeSteps.{has-less_valid}
use Rattle.signed_clause.proofs.SetFacts.{within_law}
use Rattle.ground_form.specs.declared.con.Con.{Con}
use Rattle.ground_form.specs.declared.con.Con.TheVariants.{ElementDef}
use Rattle.box_rules.specs.Refuted.{none_picked}
use Rattle.rule_law.specs.Reasons.{IsReason}
use Rattle.rule_law.specs.Plans.{literals_of}
use Rattle.box_view.proofs.Leaving.{value_valid, has_one}
use Rattle.rule_law.proofs.PlanLaws.{ArePlanned, plan_reason, plan_acts_over}
use Rattle.element_prop.specs.Elements.{without_one, without_items, count_possible, index_plan}
use Rattle.element_prop.proofs.ItemCount.{one_valid, some_without}
use Rattle.element_prop.proofs.ElementLaws.{IsElement}

one_gone : (v : ℤ) (s : Ranges) → IsValid s → has (without_one v s) v ≡ false
one_gone v s f =
    let P : Bool → Type 0 = λ b. has s v ≡ b → has (cond b (less s ((v, v) ∷ [])) s) v ≡ false in
    (elim (has s v) as P [
      | true ↦ λ h. let here = has_one v in has-less_valid s ((v, v) ∷ []) f (value_valid s v f h) v ∙ rw (h, here) refl
      | false ↦ λ h. h
    ]) refl

one_less : (v w : ℤ) (s : Ranges) → IsValid s → has (without_one v s) w ≡ true → has s w ≡ true
one_less v w s f =
    let P : Bool → Type 0 = λ b. has s v ≡ b → has (cond b (less s ((v, v) ∷ [])) s) w ≡ true → has s w ≡ true in
    (elim (has s v) as P [
      | true ↦ λ h k. let is = has-less_valid s ((v, v) ∷ []) f (value_valid s v f h) w in first_of_both (has s w) (not (has ((v, v) ∷ []) w)) (sym is ∙ k)
      | false ↦ λ h k. k
    ]) refl
  where
    first_of_both : (a b : Bool) → (a && b) ≡ true → a ≡ true
    first_of_both a b k = grind arith

pub items_valid : (items : List (ℤ × ℕ)) (s : Ranges) → IsValid s → IsValid (without_items items s)
items_valid [] s f = f
items_valid (t ∷ ts) s f = items_valid ts (without_one t.0 s) (one_valid t.0 s f)

items_less : (items : List (ℤ × ℕ)) (s : Ranges) (w : ℤ) → IsValid s → has (without_items items s) w ≡ true → has s w ≡ true
items_less [] s w f h = h
items_less (t ∷ ts) s w f h = one_less t.0 w s f (items_less ts (without_one t.0 s) w (one_valid t.0 s f) h)

items_gone : (items : List (ℤ × ℕ)) (s : Ranges) → IsValid s → All (λ t. has (without_items items s) t.0 ≡ false) items
items_gone [] s f k d lt = absurd (omega arith)
items_gone (t ∷ ts) s f zero d lt =
    false_from_ne_true (has (without_items ts (without_one t.0 s)) t.0)
    (λ q. let there = items_less ts (without_one t.0 s) t.0 (one_valid t.0 s f) q in let gone = one_gone t.0 s f in absurd cc)
items_gone (t ∷ ts) s f (suc k) d lt = items_gone ts (without_one t.0 s) (one_valid t.0 s f) k d (omega arith)

-- where the index has the value of no item, none is picked
pub none_there : (out index : Ranges) (items : List (ℤ × ℕ)) (boxes : Boxes) → All (λ t. has index t.0 ≡ false) items → none_picked out index items boxes ≡ true
none_there out index [] boxes h = refl
none_there out index (t ∷ ts) boxes h =
    let here = h 0 t (omega arith) in
    let more = none_there out index ts boxes (λ k d lt. h (suc k) d (omega arith)) in rw (here, more) refl

pub index_reason : (con : Con) (domains boxes : Boxes) (o x : ℕ) (items : List (ℤ × ℕ)) → IsElement con domains boxes o x items →
    is_within (box_of boxes x) (less (box_of domains x) (without_items items (box_of domains x))) ≡ false → IsReason con domains boxes (literals_of domains (index_plan domains x items))
index_reason con domains boxes o x items t open_left =
    let g = t.good in
    let d = box_of domains x in
    let rest = without_items items d in
    let valid = items_valid items d (g.wide x) in
    let planned : ArePlanned domains (length boxes) (index_plan domains x items) = (
      t.index,
      valid,
      (within_law rest d valid (g.wide x)).1 (λ v h. items_less items d v (g.wide x) h),
      tt,
    ) in
    subst (λ (k : Con). IsReason k domains boxes (literals_of domains (index_plan domains x items))) (sym t.is)
    (plan_reason (ElementDef o x items) domains boxes (index_plan domains x items) g.wide planned refl
    (λ left l. none_there (box_of left o) (box_of left x) items left (subst (λ (s : Ranges). All (λ u. has s u.0 ≡ false) items) (sym l.0) (items_gone items d (g.wide x))))
    (plan_acts_over domains boxes (length boxes) (x, rest) [] g.wide g.narrow planned open_left tt))

-- what the code computes
pub index_asked : (con : Con) (domains boxes : Boxes) (o x : ℕ) (items : List (ℤ × ℕ)) (d rest : Ranges) → IsElement con domains boxes o x items → d ≡ box_of domains x → rest ≡ without_items items d →
    count_possible items (box_of boxes x) < count_of (box_of boxes x) → IsReason con domains boxes (literals_of domains ((x, rest) ∷ []))
index_asked con domains boxes o x items d rest t ed er more =
    let g = t.good in let whole = box_of domains x in
    let is : rest ≡ without_items items whole = er ∙ ap (λ (z : Ranges). without_items items z) ed in
    subst (λ (z : Ranges). IsReason con domains boxes (literals_of domains ((x, z) ∷ []))) (sym is)
    (index_reason con domains boxes o x items t (some_without items (box_of boxes x) whole (g.narrow x) (g.wide x) (items_valid items whole (g.wide x)) (g.within x t.index) t.distinct (λ le. omega arith)))
