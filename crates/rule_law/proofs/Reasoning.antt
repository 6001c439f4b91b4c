-- Reasons and the clauses made of them: the order of literals of different variables matters to
-- nothing that is said of them.
use Rattle.std.proofs.Common.{◌≡◌, ℕ, suc, zero, ◌<◌, ◌≤◌, ◌+◌, ◌==◌, nat_lt, Bool, true, false, not, ◌&&◌, ◌||◌, cond, [], ◌∷◌, ℤ, All, length, get_or, is_some, Some, None, arith, refl, ap, sym, ◌∙◌}
use Rattle.std.specs.List.{sum_by}
use Rattle.std.specs.List.Sorted.{IsPermutation, IsNonDecreasingBy}
use Rattle.std.proofs.lemmas.Bool.{and_parts}
use Rattle.std.proofs.lemmas.List.Sorted.{sum_by-IsPermutation, All-permutation}
use Rattle.std.proofs.lemmas.List.Sums.{sum_by-cons}
use Rattle.std.proofs.lemmas.List.Elements.{All-cons}
use Rattle.std.proofs.lemmas.Int.{ints}
use Rattle.signed_clause.specs.Ranges.{Ranges, has, is_nil, IsValid}
use Rattle.signed_clause.specs.SetAlgebra.{is_disjoint, is_within, meet}
use Rattle.signed_clause.specs.Clauses.{Boxes, Literal, Literals, box_of, set_of, IsClause, IsClauseFrom, clause_from, false_in, unit_of, alone_of}
use Rattle.signed_clause.proofs.SetFacts.{same_law}
use Rattle.ground_form.specs.declared.con.Con.{Con}
use Rattle.ground_form.specs.Meaning.{clause_vars}
use Rattle.box_rules.specs.Refuted.{refuted}
use Rattle.box_view.specs.Views.{cut_from}
use Rattle.rule_law.specs.Answers.{IsPruning}
use Rattle.rule_law.specs.Reasons.{has_number, no_repeat, Acts, IsReason}

-- ---- how often a variable stands

abbrev is_var : ℕ → Literal → ℕ
is_var x l = cond (l.0 == x) 1 0

abbrev times : ℕ → Literals → ℕ
times x [] = 0
times x (l ∷ ls) = is_var x l + times x ls

times_sum : (x : ℕ) (ls : Literals) → times x ls ≡ sum_by (λ l. is_var x l) ls
times_sum x [] = refl
times_sum x (l ∷ ls) = ap (λ n. is_var x l + n) (times_sum x ls) ∙ sym (sum_by-cons (λ m. is_var x m) l ls)

times_same : (x : ℕ) (xs ys : Literals) → IsPermutation xs ys → times x ys ≡ times x xs
times_same x xs ys p = times_sum x ys ∙ sum_by-IsPermutation (λ l. is_var x l) xs ys p ∙ sym (times_sum x xs)

times_cons : (x : ℕ) (l : Literal) (ls : Literals) → times x (l ∷ ls) ≡ is_var x l + times x ls
times_cons x l ls = refl

times_none : (x : ℕ) (ls : Literals) → has_number x (clause_vars ls) ≡ false → times x ls ≡ 0
times_none x [] h = refl
times_none x (l ∷ ls) h = let here = times_cons x l ls in let more = times_none x ls in grind arith

times_once : (x : ℕ) (ls : Literals) → no_repeat (clause_vars ls) ≡ true → times x ls ≤ 1
times_once x [] h = omega arith
times_once x (l ∷ ls) h =
    let p = and_parts (not (has_number l.0 (clause_vars ls))) (no_repeat (clause_vars ls)) h in
    let here = times_cons x l ls in
    let more = times_once x ls p.1 in
    let none = times_none l.0 ls in grind arith

times_at : (x : ℕ) (ls : Literals) (k : ℕ) (d : Literal) → k < length ls → (get_or ls k d).0 ≡ x → 1 ≤ times x ls
times_at x [] k d h e = absurd (omega arith)
times_at x (l ∷ ls) zero d h e = let here = times_cons x l ls in grind arith
times_at x (l ∷ ls) (suc k) d h e = let here = times_cons x l ls in let more = times_at x ls k d (omega arith) e in omega arith

-- ---- the set of a variable

-- what the set of a variable holds, said by a sum, which no order changes
abbrev holds_one : ℕ → ℤ → Literal → ℕ
holds_one x v l = cond (l.0 == x) (cond (has l.1 v) 1 0) 0

abbrev holds : ℕ → ℤ → Literals → ℕ
holds x v [] = 0
holds x v (l ∷ ls) = holds_one x v l + holds x v ls

holds_sum : (x : ℕ) (v : ℤ) (ls : Literals) → holds x v ls ≡ sum_by (λ l. holds_one x v l) ls
holds_sum x v [] = refl
holds_sum x v (l ∷ ls) = ap (λ n. holds_one x v l + n) (holds_sum x v ls) ∙ sym (sum_by-cons (λ m. holds_one x v m) l ls)

holds_same : (x : ℕ) (v : ℤ) (xs ys : Literals) → IsPermutation xs ys → holds x v ys ≡ holds x v xs
holds_same x v xs ys p = holds_sum x v ys ∙ sum_by-IsPermutation (λ l. holds_one x v l) xs ys p ∙ sym (holds_sum x v xs)

holds_cons : (x : ℕ) (v : ℤ) (l : Literal) (ls : Literals) → holds x v (l ∷ ls) ≡ holds_one x v l + holds x v ls
holds_cons x v l ls = refl

holds_none : (x : ℕ) (v : ℤ) (ls : Literals) → times x ls ≡ 0 → holds x v ls ≡ 0
holds_none x v [] h = refl
holds_none x v (l ∷ ls) h =
    let here = times_cons x l ls in let there = holds_cons x v l ls in let more = holds_none x v ls in grind arith

has_set : (x : ℕ) (v : ℤ) (ls : Literals) → times x ls ≤ 1 → has (set_of ls x) v ≡ nat_lt 0 (holds x v ls)
has_set x v [] h = refl
has_set x v (l ∷ ls) h =
    let here = times_cons x l ls in
    let there = holds_cons x v l ls in
    let none = holds_none x v ls in
    let more = has_set x v ls in grind arith

cond_valid : (b : Bool) (s t : Ranges) → IsValid s → IsValid t → IsValid (cond b s t)
cond_valid true s t f g = f
cond_valid false s t f g = g

pub set_valid : (x : ℕ) (ls : Literals) → All (λ l. IsValid l.1) ls → IsValid (set_of ls x)
set_valid x [] h = omega (arith, ints)
set_valid x (l ∷ ls) h = cond_valid (l.0 == x) l.1 (set_of ls x) (h 0 l (omega arith)) (set_valid x ls (λ k d lt. h (suc k) d (omega arith)))

set_same : (xs ys : Literals) (x : ℕ) → IsPermutation xs ys → All (λ l. IsValid l.1) xs → no_repeat (clause_vars xs) ≡ true → set_of ys x ≡ set_of xs x
set_same xs ys x p s d =
    let once = times_once x xs d in
    let often = times_same x xs ys p in
    let sets = All-permutation (λ l. IsValid l.1) xs ys p s in
    (same_law (set_of ys x) (set_of xs x) (set_valid x ys sets) (set_valid x xs s)).1
    (λ v. has_set x v ys (omega (arith, often)) ∙ ap (λ n. nat_lt 0 n) (holds_same x v xs ys p) ∙ sym (has_set x v xs once))

cut_same : (n : ℕ) (ds : Boxes) (c d : Literals) → ((x : ℕ) → set_of c x ≡ set_of d x) → cut_from n ds c ≡ cut_from n ds d
cut_same n [] c d h = refl
cut_same n (b ∷ ds) c d h = let one = h n in let more = cut_same (suc n) ds c d h in rw (one, more) refl

-- ---- the form of a clause

ascending : (n : ℕ) (ls : Literals) → All (λ l. n ≤ l.0) ls → IsNonDecreasingBy (λ l. l.0) ls → ((x : ℕ) → times x ls ≤ 1) → All (λ l. is_nil l.1 ≡ false) ls → All (λ l. IsValid l.1) ls → IsClauseFrom n ls
ascending n [] from up once some sets = tt
ascending n (l ∷ ls) from up once some sets =
    let next : All (λ m. suc l.0 ≤ m.0) ls = λ k d lt.
    let order = up 0 (suc k) d (omega arith) (omega arith) in
    let often = once l.0 in
    let here = times_cons l.0 l ls in
    let there = times_at l.0 ls k d lt in grind arith in
    let fewer : (x : ℕ) → times x ls ≤ 1 = λ x. let often = once x in let here = times_cons x l ls in omega arith in (
      from 0 l (omega arith),
      some 0 l (omega arith),
      sets 0 l (omega arith),
      ascending (suc l.0) ls next (λ i j d le lt. up (suc i) (suc j) d (omega arith) (omega arith)) fewer
          (λ k d lt. some (suc k) d (omega arith)) (λ k d lt. sets (suc k) d (omega arith)),
    )

pub tested_form : (n : ℕ) (ls : Literals) → IsClauseFrom n ls → clause_from n ls ≡ true
tested_form n [] h = refl
tested_form n (l ∷ ls) h = let more = tested_form (suc l.0) ls h.3 in let from = h.0 in let some = h.1 in grind arith

-- ---- what acts

abbrev meets_one : Boxes → Literal → ℕ
meets_one boxes l = cond (is_disjoint l.1 (box_of boxes l.0)) 0 1

abbrev meeting : Boxes → Literals → ℕ
meeting boxes [] = 0
meeting boxes (l ∷ ls) = meets_one boxes l + meeting boxes ls

meeting_sum : (boxes : Boxes) (ls : Literals) → meeting boxes ls ≡ sum_by (λ l. meets_one boxes l) ls
meeting_sum boxes [] = refl
meeting_sum boxes (l ∷ ls) = ap (λ n. meets_one boxes l + n) (meeting_sum boxes ls) ∙ sym (sum_by-cons (λ m. meets_one boxes m) l ls)

meeting_same : (boxes : Boxes) (xs ys : Literals) → IsPermutation xs ys → meeting boxes ys ≡ meeting boxes xs
meeting_same boxes xs ys p = meeting_sum boxes ys ∙ sum_by-IsPermutation (λ l. meets_one boxes l) xs ys p ∙ sym (meeting_sum boxes xs)

meeting_cons : (boxes : Boxes) (l : Literal) (ls : Literals) → meeting boxes (l ∷ ls) ≡ meets_one boxes l + meeting boxes ls
meeting_cons boxes l ls = refl

-- it misses its box or takes something away
abbrev takes : Boxes → Literal → Bool
takes boxes l = is_disjoint l.1 (box_of boxes l.0) || not (is_within (box_of boxes l.0) l.1)

false_none : (boxes : Boxes) (ls : Literals) → false_in boxes ls ≡ true → meeting boxes ls ≡ 0
false_none boxes [] h = refl
false_none boxes (l ∷ ls) h = let here = meeting_cons boxes l ls in let more = false_none boxes ls in grind arith

none_false : (boxes : Boxes) (ls : Literals) → meeting boxes ls ≡ 0 → false_in boxes ls ≡ true
none_false boxes [] h = refl
none_false boxes (l ∷ ls) h = let here = meeting_cons boxes l ls in let more = none_false boxes ls in grind arith

takes_false : (boxes : Boxes) (ls : Literals) → false_in boxes ls ≡ true → All (λ l. takes boxes l ≡ true) ls
takes_false boxes [] h k d lt = absurd (omega arith)
takes_false boxes (l ∷ ls) h zero d lt = let p = and_parts (is_disjoint l.1 (box_of boxes l.0)) (false_in boxes ls) h in grind arith
takes_false boxes (l ∷ ls) h (suc k) d lt =
    let p = and_parts (is_disjoint l.1 (box_of boxes l.0)) (false_in boxes ls) h in takes_false boxes ls p.1 k d (omega arith)

record Acting (boxes : Boxes) (ls : Literals) : Type 0 where
  few : meeting boxes ls ≤ 1
  each : All (λ l. takes boxes l ≡ true) ls

-- the tests of a list's acting, by what the first literal's test is
abbrev act_test : Boxes → Literal → Literals → Bool → Bool
act_test boxes l ls m = (m && false_in boxes ls) || is_some (cond m (unit_of boxes ls) (alone_of boxes l ls))

some_cond : (b : Bool) (u : Literal) → is_some (cond b (Some u) None) ≡ b
some_cond true u = refl
some_cond false u = refl

acting_at : (boxes : Boxes) (l : Literal) (ls : Literals) (m : Bool) → is_disjoint l.1 (box_of boxes l.0) ≡ m → act_test boxes l ls m ≡ true → (Acts boxes ls → Acting boxes ls) → Acting boxes (l ∷ ls)
acting_at boxes l ls true e h more =
    let r = more h in
    let few = r.few in
    let here = meeting_cons boxes l ls in
    record { few = grind arith; each = All-cons (λ m. takes boxes m ≡ true) l ls (ap (λ (b : Bool). b || not (is_within (box_of boxes l.0) l.1)) e) r.each }
acting_at boxes l ls false e h more =
    let both : (false_in boxes ls && not (is_within (box_of boxes l.0) l.1)) ≡ true = sym (some_cond (false_in boxes ls && not (is_within (box_of boxes l.0) l.1)) (l.0, meet l.1 (box_of boxes l.0))) ∙ h in
    let p = and_parts (false_in boxes ls) (not (is_within (box_of boxes l.0) l.1)) both in
    let here = meeting_cons boxes l ls in
    let none = false_none boxes ls p.0 in
    record { few = grind arith; each = All-cons (λ m. takes boxes m ≡ true) l ls (ap (λ (b : Bool). b || not (is_within (box_of boxes l.0) l.1)) e ∙ p.1) (takes_false boxes ls p.0) }

acting_from : (boxes : Boxes) (ls : Literals) → Acts boxes ls → Acting boxes ls
acting_from boxes [] h = record { few = omega arith; each = λ k d lt. absurd (omega arith) }
acting_from boxes (l ∷ ls) h = acting_at boxes l ls (is_disjoint l.1 (box_of boxes l.0)) refl h (acting_from boxes ls)

acts_at : (boxes : Boxes) (l : Literal) (ls : Literals) (m : Bool) → is_disjoint l.1 (box_of boxes l.0) ≡ m → Acting boxes (l ∷ ls) → (Acting boxes ls → Acts boxes ls) → act_test boxes l ls m ≡ true
acts_at boxes l ls true e r more =
    let few = r.few in
    let here = meeting_cons boxes l ls in
    more (record { few = grind arith; each = λ k d lt. r.each (suc k) d (omega arith) })
acts_at boxes l ls false e r more =
    let few = r.few in
    let here = meeting_cons boxes l ls in
    let zero_left : meeting boxes ls ≡ 0 = grind arith in
    let rest = none_false boxes ls zero_left in
    let one = r.each 0 l (omega arith) in
    let out : not (is_within (box_of boxes l.0) l.1) ≡ true = sym (ap (λ (b : Bool). b || not (is_within (box_of boxes l.0) l.1)) e) ∙ one in
    some_cond (false_in boxes ls && not (is_within (box_of boxes l.0) l.1)) (l.0, meet l.1 (box_of boxes l.0)) ∙ rw (rest, out) refl

acts_from : (boxes : Boxes) (ls : Literals) → Acting boxes ls → Acts boxes ls
acts_from boxes [] r = refl
acts_from boxes (l ∷ ls) r = acts_at boxes l ls (is_disjoint l.1 (box_of boxes l.0)) refl r (acts_from boxes ls)

acts_same : (boxes : Boxes) (xs ys : Literals) → IsPermutation xs ys → Acts boxes xs → Acts boxes ys
acts_same boxes xs ys p h =
    let r = acting_from boxes xs h in
    let few = r.few in
    let sum = meeting_same boxes xs ys p in
    acts_from boxes ys (record { few = omega (arith, sum); each = All-permutation (λ l. takes boxes l ≡ true) xs ys p r.each })

-- ---- a reason in order is a pruning

pub reason_form : (con : Con) (domains boxes : Boxes) (xs ys : Literals) → IsReason con domains boxes xs → IsPermutation xs ys → IsNonDecreasingBy (λ l. l.0) ys → IsClause ys
reason_form con domains boxes xs ys r p up =
    ascending 0 ys (λ k d lt. omega arith) up (λ x. let often = times_same x xs ys p in let once = times_once x xs r.differ in omega arith)
    (All-permutation (λ l. is_nil l.1 ≡ false) xs ys p r.some) (All-permutation (λ l. IsValid l.1) xs ys p r.sets)

pub reason_pruning : (con : Con) (domains boxes : Boxes) (xs ys : Literals) → IsReason con domains boxes xs → IsPermutation xs ys → IsClause ys → IsPruning con domains boxes ys
reason_pruning con domains boxes xs ys r p form = record {
  named = All-permutation (λ l. l.0 < length boxes) xs ys p r.named;
  form = form;
  follows = ap (λ (bs : Boxes). refuted con bs) (cut_same 0 domains ys xs (λ x. set_same xs ys x p r.sets r.differ)) ∙ r.follows;
  acts = acts_same boxes xs ys p r.acts;
}

pub reason_as_is : (con : Con) (domains boxes : Boxes) (xs : Literals) → IsReason con domains boxes xs → IsClause xs → IsPruning con domains boxes xs
reason_as_is con domains boxes xs r form = record { named = r.named; form = form; follows = r.follows; acts = r.acts }
