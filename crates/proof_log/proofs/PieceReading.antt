-- What the pieces of a line are read as.
use Rattle.std.proofs.Common.{◌≡◌, ℕ, ◌<◌, ◌^◌, true, false, cond, List, [], ◌∷◌, ◌++◌, length, refl, sym, ap, ◌∙◌, arith, append_assoc, append-nil, subst, map, ℤ, ◌≤ℤ◌, ◌<ℤ◌, decimal, Option, Some, None, IfNone, Err, IsErrOf}
use Rattle.std.specs.List.{AllByRecursion}
use Rattle.std.specs.Ordering.{int_eq}
use Rattle.std.specs.Fmt.{signed_decimal}
use Rattle.std.proofs.lemmas.Int.{ints}
use Rattle.std.proofs.lemmas.List.{nil_from_length}
use Rattle.std.proofs.lemmas.Bool.Decides.{Decides-int_eq}
use Rattle.proof_log.specs.Spelling.{behind, range_text, set_text, literal_text, step_text, IsSigned, IsRange, IsStep, IsLiteral, IsTextOf, IsTextOfNone}
use Rattle.signed_clause.specs.Ranges.{IsValid, is_nil}
use Rattle.proof_log.specs.Parts.{IsCut}
use Rattle.proof_log.proofs.Separated.{same_cut, heads-behind}
use Rattle.proof_log.proofs.Digits.{lacks-decimal, lacks-signed, signed_apart}
use Rattle.proof_log.proofs.Spellings.{range_tail, range_cut, tail_heads, commas, ranges_same, set_right, set_spelling}

-- ---- ranges

-- a range's text cut at its first point
range_parts : (text first rest : List ℕ) (r : ℤ × ℤ) → IsCut 46 text first rest → IsRange r → text ≡ range_text r → (first ≡ signed_decimal r.0) × (rest ≡ range_tail r)
range_parts text first rest r cut h e =
    same_cut 46 first rest (signed_decimal r.0) (range_tail r) cut.lacks (lacks-signed 46 r.0 h.0 refl (λ z. absurd (omega arith))) cut.heads (tail_heads r) (sym cut.whole ∙ e ∙ range_cut r)

pub range_first_none : (text first rest : List ℕ) → IsCut 46 text first rest → IsTextOfNone signed_decimal IsSigned first → IsTextOfNone range_text IsRange text
range_first_none text first rest cut none r h e = none r.0 h.0 (range_parts text first rest r cut h e).0

tail_some : (r : ℤ × ℤ) (rest : List ℕ) → 0 < length rest → rest ≡ range_tail r → r.0 ≤ℤ r.1 → (rest ≡ 46 ∷ 46 ∷ signed_decimal r.1) × (r.0 <ℤ r.1)
tail_some r rest h e le =
    elim (int_eq r.0 r.1) as (λ b. int_eq r.0 r.1 ≡ b → rest ≡ cond b [] (46 ∷ 46 ∷ signed_decimal r.1) → (rest ≡ 46 ∷ 46 ∷ signed_decimal r.1) × (r.0 <ℤ r.1)) [
      | true ↦ λ p f. let z = ap length f in absurd (omega arith)
      | false ↦ λ p f. (f, (let apart : r.0 ≡ r.1 → ⊥ = λ k. let t = (Decides-int_eq r.0 r.1).1 k in absurd cc in grind (arith, ints)))
    ] refl e

pub range_last_none : (text first rest : List ℕ) (low : ℤ) → IsCut 46 text first rest → IsTextOf signed_decimal IsSigned first low → 0 < length rest →
    ((v : ℤ) → low <ℤ v → IsSigned v → rest ≡ 46 ∷ 46 ∷ signed_decimal v → ⊥) → IsTextOfNone range_text IsRange text
range_last_none text first rest low cut f some none r h e =
    let parts = range_parts text first rest r cut h e in
    let same = signed_apart low r.0 f.0 h.0 (sym f.1 ∙ parts.0) in
    let tail = tail_some r rest some parts.1 h.2 in
    none r.1 (subst (λ (z : ℤ). z <ℤ r.1) (sym same) tail.1) h.1 tail.0

pub range_alone : (text first rest : List ℕ) (low : ℤ) → IsCut 46 text first rest → IsTextOf signed_decimal IsSigned first low → length rest ≡ 0 → IsTextOf range_text IsRange text (low, low)
range_alone text first rest low cut f none =
    let same : int_eq low low ≡ true = (Decides-int_eq low low).1 refl in
    let nil : rest ≡ [] = nil_from_length rest none in
    let whole : text ≡ signed_decimal low = cut.whole ∙ ap (λ z. first ++ z) nil ∙ append-nil first ∙ f.1 in
    ((f.0, f.0, omega (arith, ints)), whole ∙ sym (rw same refl))

pub range_ends : (text first rest : List ℕ) (low : ℤ) (r : ℤ × ℤ) → IsCut 46 text first rest → IsTextOf signed_decimal IsSigned first low → r.0 ≡ low → low <ℤ r.1 →
    IsTextOf (λ v. 46 ∷ 46 ∷ signed_decimal v) IsSigned rest r.1 → IsTextOf range_text IsRange text r
range_ends text first rest low (a, b) cut f e lt k =
    let apart : int_eq a b ≡ false = grind (arith, ints) in
    let whole : text ≡ signed_decimal low ++ (46 ∷ 46 ∷ signed_decimal b) = cut.whole ∙ ap (λ z. z ++ rest) f.1 ∙ ap (λ z. signed_decimal low ++ z) k.1 in
    ((subst IsSigned (sym e) f.0, k.0, omega (arith, ints)), whole ∙ ap (λ z. signed_decimal z ++ (46 ∷ 46 ∷ signed_decimal b)) (sym e) ∙ sym (rw apart (append_assoc (signed_decimal a) (46 ∷ 46 ∷ []) (signed_decimal b))))

-- the same where the rest was looked at
pub range_last : (text first rest : List ℕ) (low : ℤ) (r : Option (ℤ × ℤ)) → IsCut 46 text first rest → IsTextOf signed_decimal IsSigned first low → 0 < length rest →
    IfNone r ((v : ℤ) → low <ℤ v → IsSigned v → rest ≡ 46 ∷ 46 ∷ signed_decimal v → ⊥) → IfNone r (IsTextOfNone range_text IsRange text)
range_last text first rest low (Some x) cut f some none = tt
range_last text first rest low None cut f some none = range_last_none text first rest low cut f some none

pub none_of : {X : Type 0} (r : Option X) (P : Type 0) → r ≡ None → P → IfNone r P
none_of (Some x) P e h = absurd cc
none_of None P e h = h

-- ---- sets

pub set_whole : (text first rest : List ℕ) (r : ℤ × ℤ) (rs : List (ℤ × ℤ)) → IsCut 44 text first rest → first ≡ range_text r →
    behind 44 (map range_text (r ∷ [])) ++ rest ≡ behind 44 (map range_text rs) → text ≡ set_text rs
set_whole text first rest r [] cut f e = absurd cc
set_whole text first rest r (q ∷ rs) cut f e =
    let regroup : (44 ∷ range_text r ++ []) ++ rest ≡ 44 ∷ range_text r ++ rest = ap (λ z. (44 ∷ z) ++ rest) (append-nil (range_text r)) in
    let tails : 44 ∷ range_text r ++ rest ≡ 44 ∷ set_text (q ∷ rs) = sym regroup ∙ e in
    let same : range_text r ++ rest ≡ set_text (q ∷ rs) = cc in
    cut.whole ∙ ap (λ z. z ++ rest) f ∙ same

pub set_first_none : (text first rest : List ℕ) → 0 < length text → IsCut 44 text first rest → IsTextOfNone range_text IsRange first → IsTextOfNone set_text (λ rs. AllByRecursion IsRange rs) text
set_first_none text first rest some cut none [] a e = let z = ap length e in omega arith
set_first_none text first rest some cut none (q ∷ rs) a e =
    let same = same_cut 44 first rest (range_text q) (behind 44 (map range_text rs)) cut.lacks (commas.lacks q a.0) cut.heads (heads-behind 44 (map range_text rs)) (sym cut.whole ∙ e) in
    none q a.0 same.0

pub set_rest_none : (text first rest : List ℕ) (r : ℤ × ℤ) → 0 < length text → IsCut 44 text first rest → first ≡ range_text r →
    ((rs : List (ℤ × ℤ)) → AllByRecursion IsRange rs → behind 44 (map range_text (r ∷ [])) ++ rest ≡ behind 44 (map range_text rs) → ⊥) →
    IsTextOfNone set_text (λ rs. AllByRecursion IsRange rs) text
set_rest_none text first rest r some cut f none [] a e = let z = ap length e in omega arith
set_rest_none text first rest r some cut f none (q ∷ rs) a e =
    let regroup : (44 ∷ range_text r ++ []) ++ rest ≡ 44 ∷ range_text r ++ rest = ap (λ z. (44 ∷ z) ++ rest) (append-nil (range_text r)) in
    none (q ∷ rs) a (regroup ∙ ap (λ z. 44 ∷ z ++ rest) (sym f) ∙ ap (λ z. 44 ∷ z) (sym cut.whole ∙ e))

-- ranges that are no set
pub no_set : (text : List ℕ) (rs : List (ℤ × ℤ)) → AllByRecursion IsRange rs → text ≡ set_text rs → (IsValid rs → ⊥) → IsTextOfNone set_text IsValid text
no_set text rs a e none s h f = none (subst IsValid (sym (ranges_same rs s a (set_right s h) (sym e ∙ f))) h)

pub set_none : (text : List ℕ) → IsTextOfNone set_text (λ rs. AllByRecursion IsRange rs) text → IsTextOfNone set_text IsValid text
set_none text none s h e = none s (set_right s h) e

-- ---- a number, a colon, and more

number_parts : (text first rest a : List ℕ) (n : ℕ) → IsCut 58 text first rest → n < 2 ^ 64 → text ≡ decimal n ++ 58 ∷ a → (first ≡ decimal n) × (rest ≡ 58 ∷ a)
number_parts text first rest a n cut h e =
    same_cut 58 first rest (decimal n) (58 ∷ a) cut.lacks (lacks-decimal 58 n h refl) cut.heads refl (sym cut.whole ∙ e)

pub literal_first_none : (text first rest : List ℕ) → IsCut 58 text first rest → ((n : ℕ) → n < 2 ^ 32 → first ≡ decimal n → ⊥) → IsTextOfNone literal_text IsLiteral text
literal_first_none text first rest cut none l h e = none l.0 h.0 (number_parts text first rest (set_text l.1) l.0 cut (omega arith) e).0

pub literal_colon_none : (text first rest : List ℕ) → IsCut 58 text first rest → ((z : List ℕ) → rest ≡ 58 ∷ z → ⊥) → IsTextOfNone literal_text IsLiteral text
literal_colon_none text first rest cut none l h e = none (set_text l.1) (number_parts text first rest (set_text l.1) l.0 cut (omega arith) e).1

pub literal_set_none : (text first rest ranges : List ℕ) → IsCut 58 text first rest → rest ≡ 58 ∷ ranges → IsTextOfNone set_text IsValid ranges → IsTextOfNone literal_text IsLiteral text
literal_set_none text first rest ranges cut f none l h e =
    let parts = number_parts text first rest (set_text l.1) l.0 cut (omega arith) e in
    let same : ranges ≡ set_text l.1 = cc (parts.1, f) in
    none l.1 h.1 same

pub literal_empty_none : (text first rest ranges : List ℕ) (s : List (ℤ × ℤ)) → IsCut 58 text first rest → rest ≡ 58 ∷ ranges → IsTextOf set_text IsValid ranges s → is_nil s ≡ true → IsTextOfNone literal_text IsLiteral text
literal_empty_none text first rest ranges s cut f k nil l h e =
    let parts = number_parts text first rest (set_text l.1) l.0 cut (omega arith) e in
    let same : ranges ≡ set_text l.1 = cc (parts.1, f) in
    let sets = set_spelling.alone s l.1 k.0 h.1 (sym k.1 ∙ same) in
    let wrong : false ≡ true = sym h.2 ∙ ap is_nil (sym sets) ∙ nil in
    absurd cc

pub literal_is : (text first rest ranges : List ℕ) (x : ℕ) (s : List (ℤ × ℤ)) → IsCut 58 text first rest → x < 2 ^ 32 → first ≡ decimal x → rest ≡ 58 ∷ ranges → IsTextOf set_text IsValid ranges s → is_nil s ≡ false →
    IsTextOf literal_text IsLiteral text (x, s)
literal_is text first rest ranges x s cut h e f k nil =
    ((h, k.0, nil), cut.whole ∙ ap (λ z. z ++ rest) e ∙ ap (λ z. decimal x ++ z) f ∙ ap (λ z. decimal x ++ 58 ∷ z) k.1)

pub step_first_none : (text first rest : List ℕ) → IsCut 58 text first rest → ((n : ℕ) → n < 2 ^ 32 → first ≡ decimal n → ⊥) → IsTextOfNone step_text IsStep text
step_first_none text first rest cut none s h e = none s.0 h.0 (number_parts text first rest (decimal s.1) s.0 cut (omega arith) e).0

pub step_colon_none : (text first rest : List ℕ) → IsCut 58 text first rest → ((z : List ℕ) → rest ≡ 58 ∷ z → ⊥) → IsTextOfNone step_text IsStep text
step_colon_none text first rest cut none s h e = none (decimal s.1) (number_parts text first rest (decimal s.1) s.0 cut (omega arith) e).1

pub step_last_none : (text first rest number : List ℕ) → IsCut 58 text first rest → rest ≡ 58 ∷ number → ((n : ℕ) → n < 2 ^ 64 → number ≡ decimal n → ⊥) → IsTextOfNone step_text IsStep text
step_last_none text first rest number cut f none s h e =
    let parts = number_parts text first rest (decimal s.1) s.0 cut (omega arith) e in
    let same : number ≡ decimal s.1 = cc (parts.1, f) in
    none s.1 h.1 same

pub step_is : (text first rest number : List ℕ) (x n : ℕ) → IsCut 58 text first rest → x < 2 ^ 32 → n < 2 ^ 64 → first ≡ decimal x → rest ≡ 58 ∷ number → number ≡ decimal n → IsTextOf step_text IsStep text (x, n)
step_is text first rest number x n cut h k e f g =
    ((h, k), cut.whole ∙ ap (λ z. z ++ rest) e ∙ ap (λ z. decimal x ++ z) f ∙ ap (λ z. decimal x ++ 58 ∷ z) g)

-- an error is that error at every type of answer
pub same_error : {T U E : Type 0} (y e : E) → IsErrOf {T = T} {E = E} (Err y) e → IsErrOf {T = U} {E = E} (Err y) e
same_error y e h = let same : y ≡ e = cc in ap Err same
