-- A value of a box, alone there, keeps the constraint bounded, and every variable has a box as
-- before.
use Rattle.std.proofs.Common.{◌≡◌, ℕ, zero, suc, ◌+◌, ◌<◌, ◌≤◌, max, Bool, true, false, not, ◌&&◌, inl, inr, List, [], ◌∷◌, ◌++◌, ℤ, pos, ◌+ℤ◌, ◌-ℤ◌, ◌≤ℤ◌, ◌<ℤ◌, unsigned_abs, length, get_or, drop, arith, refl, ap, sym, subst, ◌∙◌}
use Rattle.std.specs.Prelude.{int_lt, nat_le}
use Rattle.std.proofs.lemmas.Int.{ints}
use Rattle.std.proofs.lemmas.Bool.{cases_eq}
use Rattle.std.proofs.lemmas.Bool.Decides.{nat_tests}
use Rattle.signed_clause.specs.Ranges.{Ranges, has, in_range, is_nil, count_of, IsValid, Ascends}
use Rattle.signed_clause.proofs.RangeSteps.{left_at}
use Rattle.signed_clause.specs.Clauses.{Boxes, box_of}
use Rattle.ground_form.specs.declared.con.Con.{Con}
use Rattle.ground_form.specs.declared.con.Con.TheVariants.{LinLe, LinDef, ReifLe, AndDef, MemberDef, EqDef, ElementDef, CondDef, ClauseCon, AllDiff, Pack}
use Rattle.ground_form.specs.Bounds.{low_of, high_of, reach_of, weight_of, size_sum, IsBounded}
use Rattle.box_rules.specs.Named.{IsNamed}
use Rattle.box_rules.specs.Refuted.{width, refuted}
use Rattle.box_view.specs.Views.{fixing}
use Rattle.box_rules.specs.Quiet.{values_from, values_of, probed, none_refutes}
use Rattle.box_view.proofs.EndLaws.{above_low, below_high}
use Rattle.box_view.proofs.SetLaws.{fixing_same, fixing_other, fixing_length}
use Rattle.box_rules.proofs.NamedVars.{named_length}
use Rattle.box_rules.proofs.SumSteps.{weight_narrower}

-- ---- narrower boxes

-- what is said of the ends of boxes holds of narrower ones
pub record AreNarrower (inner outer : Boxes) : Type 0 where
  pub low : (x : ℕ) → low_of (box_of outer x) ≤ℤ low_of (box_of inner x)
  pub high : (x : ℕ) → high_of (box_of inner x) ≤ℤ high_of (box_of outer x)
  pub reach : (x : ℕ) → reach_of (box_of inner x) ≤ reach_of (box_of outer x)

weights_narrower : (ts : List (ℤ × ℕ)) (inner outer : Boxes) → AreNarrower inner outer → weight_of ts inner ≤ weight_of ts outer
weights_narrower [] inner outer n = omega arith
weights_narrower (t ∷ ts) inner outer n =
    let one = weight_narrower t inner outer (n.reach t.1) in let more = weights_narrower ts inner outer n in omega arith

sizes_narrower : (is : List (ℕ × ℕ × ℕ)) (inner outer : Boxes) → AreNarrower inner outer → size_sum is inner ≤ℤ size_sum is outer
sizes_narrower [] inner outer n = omega (arith, ints)
sizes_narrower (i ∷ is) inner outer n =
    let one = n.high i.1 in let more = sizes_narrower is inner outer n in omega (arith, ints)

pub bounded_narrower : (con : Con) (inner outer : Boxes) → AreNarrower inner outer → IsBounded con outer → IsBounded con inner
bounded_narrower (LinLe terms bound) inner outer n b = let w = weights_narrower terms inner outer n in omega arith
bounded_narrower (LinDef out terms offset) inner outer n b = let w = weights_narrower terms inner outer n in omega arith
bounded_narrower (ReifLe flag terms bound) inner outer n b = let w = weights_narrower terms inner outer n in omega arith
bounded_narrower (AndDef flag parts) inner outer n b = tt
bounded_narrower (MemberDef flag var set) inner outer n b = tt
bounded_narrower (EqDef flag left right) inner outer n b = tt
bounded_narrower (ElementDef out index items) inner outer n b = tt
bounded_narrower (CondDef out flag item) inner outer n b = tt
bounded_narrower (ClauseCon clause) inner outer n b = tt
bounded_narrower (AllDiff vars) inner outer n b = tt
bounded_narrower (Pack items) inner outer n b = record {
  places = λ k d lt. let h = b.places k d lt in let low = n.low (get_or items k d).0 in let high = n.high (get_or items k d).0 in (omega (arith, ints), omega (arith, ints));
  sizes = λ k d lt. let h = b.sizes k d lt in let low = n.low (get_or items k d).1 in omega (arith, ints);
  total = let s = sizes_narrower items inner outer n in let t = b.total in omega (arith, ints);
}

-- ---- one value in place of a box

reach_between : (low high v : ℤ) → low ≤ℤ v → v ≤ℤ high → max (unsigned_abs v) (unsigned_abs v) ≤ max (unsigned_abs low) (unsigned_abs high)
reach_between low high v h k = omega (arith, ints)

record IsNarrower (s d : Ranges) : Type 0 where
  low : low_of d ≤ℤ low_of s
  high : high_of s ≤ℤ high_of d
  reach : reach_of s ≤ reach_of d

same_narrower : (s : Ranges) → IsNarrower s s
same_narrower s = record { low = omega (arith, ints); high = omega (arith, ints); reach = omega arith }

value_narrower : (s : Ranges) (v : ℤ) → IsValid s → has s v ≡ true → IsNarrower ((v, v) ∷ []) s
value_narrower s v valid h =
    let low = above_low s v valid h in let high = below_high s v valid h in
    record { low = low; high = high; reach = reach_between (low_of s) (high_of s) v low high }

fixing_narrower_at : (boxes : Boxes) (x : ℕ) (v : ℤ) → x < length boxes → IsValid (box_of boxes x) → has (box_of boxes x) v ≡ true → (y : ℕ) → IsNarrower (box_of (fixing boxes x v) y) (box_of boxes y)
fixing_narrower_at boxes x v n s h y =
    elim (cases_eq y x) [
      | inl e ↦ subst (λ (z : ℕ). IsNarrower (box_of (fixing boxes x v) z) (box_of boxes z)) (sym e)
          (subst (λ (b : Ranges). IsNarrower b (box_of boxes x)) (sym (fixing_same boxes x v n)) (value_narrower (box_of boxes x) v s h))
      | inr e ↦ subst (λ (b : Ranges). IsNarrower b (box_of boxes y)) (sym (fixing_other boxes x y v e)) (same_narrower (box_of boxes y))
    ]

fixing_narrower : (boxes : Boxes) (x : ℕ) (v : ℤ) → x < length boxes → IsValid (box_of boxes x) → has (box_of boxes x) v ≡ true → AreNarrower (fixing boxes x v) boxes
fixing_narrower boxes x v n s h = record {
  low = λ y. (fixing_narrower_at boxes x v n s h y).low;
  high = λ y. (fixing_narrower_at boxes x v n s h y).high;
  reach = λ y. (fixing_narrower_at boxes x v n s h y).reach;
}

pub fixing_bounded : (con : Con) (boxes : Boxes) (x : ℕ) (v : ℤ) → x < length boxes → IsValid (box_of boxes x) → has (box_of boxes x) v ≡ true → IsBounded con boxes → IsBounded con (fixing boxes x v)
fixing_bounded con boxes x v n s h b = bounded_narrower con (fixing boxes x v) boxes (fixing_narrower boxes x v n s h) b

pub fixing_named : (con : Con) (boxes : Boxes) (x : ℕ) (v : ℤ) → IsNamed con boxes → IsNamed con (fixing boxes x v)
fixing_named con boxes x v h = named_length con boxes (fixing boxes x v) (sym (fixing_length boxes x v)) h

-- ---- values from one to another

next_values : (n d : ℕ) (at : ℤ) → d ≡ suc n → values_from d (at +ℤ pos 1) ≡ (at +ℤ pos 1) ∷ values_from n ((at +ℤ pos 1) +ℤ pos 1)
next_values n d at e = ap (λ (k : ℕ). values_from k (at +ℤ pos 1)) e

pub values_step : (last at next : ℤ) → next ≡ at +ℤ pos 1 → at <ℤ last →
    values_from (unsigned_abs (last -ℤ at)) (at +ℤ pos 1) ≡ next ∷ values_from (unsigned_abs (last -ℤ next)) (next +ℤ pos 1)
values_step last at next e h =
    let d : unsigned_abs (last -ℤ at) ≡ suc (unsigned_abs (last -ℤ next)) = omega (arith, ints) in
    next_values (unsigned_abs (last -ℤ next)) (unsigned_abs (last -ℤ at)) at d
    ∙ ap (λ (z : ℤ). z ∷ values_from (unsigned_abs (last -ℤ next)) (z +ℤ pos 1)) (sym e)

pub values_done : (last at : ℤ) → at ≤ℤ last → int_lt at last ≡ false → values_from (unsigned_abs (last -ℤ at)) (at +ℤ pos 1) ≡ []
values_done last at h k = let d : unsigned_abs (last -ℤ at) ≡ 0 = grind (arith, ints) in ap (λ (n : ℕ). values_from n (at +ℤ pos 1)) d

-- the answer of a walk of which one step is made
pub refutes_step : (con : Con) (boxes : Boxes) (x : ℕ) (last at next : ℤ) (test whole : Bool) → next ≡ at +ℤ pos 1 → at <ℤ last → test ≡ refuted con (fixing boxes x next) →
    none_refutes con boxes x (values_from (unsigned_abs (last -ℤ at)) (at +ℤ pos 1)) ≡ whole →
    whole ≡ (not test && none_refutes con boxes x (values_from (unsigned_abs (last -ℤ next)) (next +ℤ pos 1)))
refutes_step con boxes x last at next test whole e h t w =
    sym w ∙ ap (λ (vs : List ℤ). none_refutes con boxes x vs) (values_step last at next e h)
    ∙ ap (λ (b : Bool). not b && none_refutes con boxes x (values_from (unsigned_abs (last -ℤ next)) (next +ℤ pos 1))) (sym t)

pub stopped : (test rest whole : Bool) → whole ≡ (not test && rest) → test ≡ true → false ≡ whole
stopped test rest whole e h = grind arith

pub gone_on : (test rest whole : Bool) → whole ≡ (not test && rest) → test ≡ false → rest ≡ whole
gone_on test rest whole e h = grind arith

-- ---- the probed values

pub none_append : (con : Con) (boxes : Boxes) (x : ℕ) (vs ws : List ℤ) → none_refutes con boxes x (vs ++ ws) ≡ (none_refutes con boxes x vs && none_refutes con boxes x ws)
none_append con boxes x [] ws = refl
none_append con boxes x (v ∷ vs) ws = let more = none_append con boxes x vs ws in grind arith

-- one range more is looked at
pub range_step : (con : Con) (boxes : Boxes) (x : ℕ) (rs : Ranges) (i : ℕ) (r : ℤ × ℤ) → i < length rs → r ≡ get_or rs i (pos 0, pos 0) →
    none_refutes con boxes x (values_of (drop i rs)) ≡ (none_refutes con boxes x (values_from (width r.0 r.1) r.0) && none_refutes con boxes x (values_of (drop (i + 1) rs)))
range_step con boxes x rs i r h e =
    ap (λ (z : Ranges). none_refutes con boxes x (values_of z)) (left_at rs i r (pos 0, pos 0) h e)
    ∙ none_append con boxes x (values_from (width r.0 r.1) r.0) (values_of (drop (i + 1) rs))

range_in : (low top : ℤ) (rs : Ranges) (i : ℕ) → Ascends low top rs → i < length rs → (get_or rs i (pos 0, pos 0)).0 ≤ℤ (get_or rs i (pos 0, pos 0)).1
range_in low top [] i s h = absurd (omega arith)
range_in low top (r ∷ rs) zero s h = s.1
range_in low top (r ∷ rs) (suc i) s h = range_in (r.1 +ℤ pos 2) top rs i s.2 (omega arith)

pub range_order : (rs : Ranges) (i : ℕ) (r : ℤ × ℤ) → IsValid rs → i < length rs → r ≡ get_or rs i (pos 0, pos 0) → r.0 ≤ℤ r.1
range_order rs i r s h e = subst (λ (q : ℤ × ℤ). q.0 ≤ℤ q.1) (sym e) (range_in _ _ rs i s h)

value_in : (rs : Ranges) (i : ℕ) (v : ℤ) → i < length rs → in_range (get_or rs i (pos 0, pos 0)) v ≡ true → has rs v ≡ true
value_in [] i v h k = absurd (omega arith)
value_in (r ∷ rs) zero v h k = rw k refl
value_in (r ∷ rs) (suc i) v h k = let more = value_in rs i v (omega arith) k in grind arith

pub range_values : (rs : Ranges) (i : ℕ) (r : ℤ × ℤ) (v : ℤ) → i < length rs → r ≡ get_or rs i (pos 0, pos 0) → in_range r v ≡ true → has rs v ≡ true
range_values rs i r v h e k = value_in rs i v h (subst (λ (q : ℤ × ℤ). in_range q v ≡ true) e k)

pub many_some : (s : Ranges) → (count_of s ≤ 64 → ⊥) → is_nil s ≡ false
many_some [] h = absurd (h (omega arith))
many_some (r ∷ rs) h = refl

pub few_probed : (s : Ranges) → count_of s ≤ 64 → values_of s ≡ probed s
few_probed s h = let e : nat_le (count_of s) 64 ≡ true = grind (arith, nat_tests) in rw e refl

pub many_probed : (s : Ranges) → (count_of s ≤ 64 → ⊥) → (low_of s ∷ high_of s ∷ []) ≡ probed s
many_probed s h =
    let e : nat_le (count_of s) 64 ≡ false = grind (arith, nat_tests) in rw e refl

-- where what is looked for may be found in each step
pub found_stops : (found one rest left whole : Bool) → left ≡ (one && rest) → not found ≡ one → left ≡ whole → found ≡ true → not found ≡ whole
found_stops found one rest left whole e h k t = grind arith

pub found_goes_on : (found one rest left whole : Bool) → left ≡ (one && rest) → not found ≡ one → left ≡ whole → found ≡ false → rest ≡ whole
found_goes_on found one rest left whole e h k t = grind arith
