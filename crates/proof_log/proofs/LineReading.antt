-- What lines are read as.
use Rattle.std.proofs.Common.{◌≡◌, ℕ, suc, ◌<◌, ◌^◌, true, false, not, ◌==◌, List, [], ◌∷◌, ◌++◌, length, get_or, refl, sym, ap, ◌∙◌, arith, append-nil, map, ℤ, decimal, IsTrue}
use Rattle.std.specs.List.{AllByRecursion}
use Rattle.std.specs.Fmt.{signed_decimal}
use Rattle.std.proofs.lemmas.Bool.{and_parts, and_from, le-leb}
use Rattle.std.proofs.lemmas.List.Folds.{list_all-append}
use Rattle.signed_clause.specs.Ranges.{IsValid}
use Rattle.signed_clause.specs.Clauses.{Literals, IsClauseFrom, is_clause, clause_from}
use Rattle.log_form.specs.declared.line.Line.{Line}
use Rattle.log_form.specs.declared.line.Line.TheVariants as lines
use Rattle.numbered_clauses.specs.declared.chain.Chain as chains
use Rattle.proof_log.specs.declared.words.Word.{Word}
use Rattle.proof_log.specs.declared.words.Word.TheVariants.{Axiom, Chain, Bound, Use, Found, Decide, Empty}
use Rattle.proof_log.specs.Spelling.{behind, set_text, literal_text, step_text, word_of, pieces_of, IsSigned, IsStep, IsLiteral, AreLiterals, IsLine, Spells, IsTextOfNone, lacks}
use Rattle.proof_log.specs.Words.{IsNumberFirst, word_text, word_at, IsBehind}
use Rattle.proof_log.specs.Parts.{heads, IsCut, IsNextPart}
use Rattle.proof_log.proofs.Separated.{same_cut, heads-behind, all_lack, values_same, pieces_front, pieces_same, behind-append}
use Rattle.decimal_text.proofs.Digits.{one_number}
use Rattle.proof_log.proofs.Digits.{lacks-decimal}
use Rattle.proof_log.proofs.Spellings.{literal_spelling, step_spelling, value_pieces, set_spelling}

-- ---- a number in front

pub first_none : (texts text rest : List ℕ) (n : ℕ) (ps : List (List ℕ)) → IsNextPart 32 texts text rest → n < 2 ^ 64 → (text ≡ decimal n → ⊥) → texts ≡ behind 32 (decimal n ∷ ps) → ⊥
first_none texts text rest n ps part h none e =
    let whole : 32 ∷ text ++ rest ≡ 32 ∷ decimal n ++ behind 32 ps = sym part.whole ∙ e in
    let tails : text ++ rest ≡ decimal n ++ behind 32 ps = cc in
    none (same_cut 32 text rest (decimal n) (behind 32 ps) part.lacks (lacks-decimal 32 n h refl) part.heads (heads-behind 32 ps) tails).0

pub first_number : (texts rest : List ℕ) (n m : ℕ) (ps : List (List ℕ)) → n < 2 ^ 64 → m < 2 ^ 64 → texts ≡ 32 ∷ decimal n ++ rest → heads 32 rest ≡ true → texts ≡ behind 32 (decimal m ∷ ps) → (n ≡ m) × (rest ≡ behind 32 ps)
first_number texts rest n m ps h k e heads f =
    let whole : 32 ∷ decimal n ++ rest ≡ 32 ∷ decimal m ++ behind 32 ps = sym e ∙ f in
    let tails : decimal n ++ rest ≡ decimal m ++ behind 32 ps = cc in
    let same = same_cut 32 (decimal n) rest (decimal m) (behind 32 ps) (lacks-decimal 32 n h refl) (lacks-decimal 32 m k refl) heads (heads-behind 32 ps) tails in
    (one_number (decimal n) n m h k refl same.0, same.1)

-- ---- clauses

form_from : (n : ℕ) (c : Literals) → IsClauseFrom n c → clause_from n c ≡ true
form_from n [] h = refl
form_from n (l ∷ c) h = and_from _ _ (le-leb n l.0 h.0) (and_from _ _ (ap not h.1) (form_from (suc l.0) c h.3))

pub no_clause : (texts : List ℕ) (ls : Literals) → AllByRecursion IsLiteral ls → texts ≡ behind 32 (map literal_text ls) → (IsTrue (is_clause ls) → ⊥) →
    (c : Literals) → AreLiterals c → texts ≡ behind 32 (map literal_text c) → ⊥
no_clause texts ls a e none c h f =
    let same = values_same 32 literal_text IsLiteral literal_spelling ls c a h.1 (sym e ∙ f) in
    none (ap is_clause same ∙ form_from 0 c h.0)

-- ---- steps up to an equals sign

-- no step is written as an equals sign
no_step : (s : ℕ × ℕ) → step_text s ≡ 61 ∷ [] → ⊥
no_step s e =
    let whole : lacks 58 (decimal s.0 ++ 58 ∷ decimal s.1) ≡ true = ap (lacks 58) e in
    let parts = and_parts (lacks 58 (decimal s.0)) false (sym (list_all-append (λ b. not (b == 58)) (decimal s.0) (58 ∷ decimal s.1)) ∙ whole) in
    absurd cc

step_found : (out ss : List (ℕ × ℕ)) (ps more : List (List ℕ)) (p : List ℕ) → AllByRecursion IsStep ss → map step_text ss ++ (61 ∷ []) ∷ ps ≡ map step_text out ++ p ∷ more →
    (p ≡ 61 ∷ [] → ⊥) → IsTextOfNone step_text IsStep p → ⊥
step_found [] [] ps more p a e f none = let same : p ≡ 61 ∷ [] = cc in f same
step_found [] (s ∷ ss) ps more p a e f none = none s a.0 cc
step_found (o ∷ out) [] ps more p a e f none = no_step o cc
step_found (o ∷ out) (s ∷ ss) ps more p a e f none = step_found out ss ps more p a.1 (cc) f none

all_lack_equals : (ss : List (ℕ × ℕ)) (ps : List (List ℕ)) → AllByRecursion IsStep ss → AllByRecursion (λ p. lacks 32 p ≡ true) ps → AllByRecursion (λ p. lacks 32 p ≡ true) (map step_text ss ++ (61 ∷ []) ∷ ps)
all_lack_equals [] ps a b = (refl, b)
all_lack_equals (s ∷ ss) ps a b = (step_spelling.lacks s a.0, all_lack_equals ss ps a.1 b)

pub bad_step : (out ss : List (ℕ × ℕ)) (ps : List (List ℕ)) (left texts text rest : List ℕ) → AllByRecursion IsStep out → AllByRecursion IsStep ss → AllByRecursion (λ p. lacks 32 p ≡ true) ps →
    behind 32 (map step_text out) ++ left ≡ texts → IsNextPart 32 left text rest → (text ≡ 61 ∷ [] → ⊥) → IsTextOfNone step_text IsStep text →
    texts ≡ behind 32 (map step_text ss ++ (61 ∷ []) ∷ ps) → ⊥
bad_step out ss ps left texts text rest a b c e part f none g =
    let front = pieces_front 32 (map step_text out) (map step_text ss ++ (61 ∷ []) ∷ ps) text rest (all_lack 32 step_text IsStep step_spelling out a) (all_lack_equals ss ps b c) part.lacks part.heads
    (ap (λ z. behind 32 (map step_text out) ++ z) (sym part.whole) ∙ e ∙ g) in
    step_found out ss ps front.0 text b front.1 f none

no_end : (out ss : List (ℕ × ℕ)) (ps : List (List ℕ)) → map step_text out ≡ map step_text ss ++ (61 ∷ []) ∷ ps → ⊥
no_end [] [] ps e = absurd cc
no_end [] (s ∷ ss) ps e = absurd cc
no_end (o ∷ out) [] ps e = no_step o cc
no_end (o ∷ out) (s ∷ ss) ps e = no_end out ss ps cc

pub no_equals : (out ss : List (ℕ × ℕ)) (ps : List (List ℕ)) (left texts : List ℕ) → AllByRecursion IsStep out → AllByRecursion IsStep ss → AllByRecursion (λ p. lacks 32 p ≡ true) ps →
    behind 32 (map step_text out) ++ left ≡ texts → left ≡ [] → texts ≡ behind 32 (map step_text ss ++ (61 ∷ []) ∷ ps) → ⊥
no_equals out ss ps left texts a b c e f g =
    no_end out ss ps (pieces_same 32 (map step_text out) (map step_text ss ++ (61 ∷ []) ∷ ps) (all_lack 32 step_text IsStep step_spelling out a) (all_lack_equals ss ps b c)
    (sym (append-nil _) ∙ ap (λ z. behind 32 (map step_text out) ++ z) (sym f) ∙ e ∙ g))

-- the steps of a text and what stands behind their equals sign
steps_end : (out ss : List (ℕ × ℕ)) (ps more : List (List ℕ)) → AllByRecursion IsStep out → AllByRecursion IsStep ss → map step_text ss ++ (61 ∷ []) ∷ ps ≡ map step_text out ++ (61 ∷ []) ∷ more → (out ≡ ss) × (more ≡ ps)
steps_end [] [] ps more a b e = (refl, cc)
steps_end [] (s ∷ ss) ps more a b e = absurd (no_step s cc)
steps_end (o ∷ out) [] ps more a b e = absurd (no_step o cc)
steps_end (o ∷ out) (s ∷ ss) ps more a b e =
    let first : o ≡ s = step_spelling.alone o s a.0 b.0 cc in
    let rest = steps_end out ss ps more a.1 b.1 cc in
    (cc (first, rest.0), rest.1)

pub steps_same : (out ss : List (ℕ × ℕ)) (ps : List (List ℕ)) (texts rest : List ℕ) → AllByRecursion IsStep out → AllByRecursion IsStep ss → AllByRecursion (λ p. lacks 32 p ≡ true) ps →
    texts ≡ behind 32 (map step_text out) ++ (32 ∷ 61 ∷ rest) → heads 32 rest ≡ true → texts ≡ behind 32 (map step_text ss ++ (61 ∷ []) ∷ ps) → (out ≡ ss) × (rest ≡ behind 32 ps)
steps_same out ss ps texts rest a b c e h f =
    let front = pieces_front 32 (map step_text out) (map step_text ss ++ (61 ∷ []) ∷ ps) (61 ∷ []) rest (all_lack 32 step_text IsStep step_spelling out a) (all_lack_equals ss ps b c) refl h (sym e ∙ f) in
    let same = steps_end out ss ps front.0 a b front.1 in
    (same.0, front.2 ∙ ap (behind 32) same.1)

-- ---- the parts of lines

axiom_parts : (texts : List ℕ) (l : Line) → IsBehind Axiom texts l → (k : ℕ) × (c : Literals) × (k < 2 ^ 32) × AreLiterals c × (texts ≡ behind 32 (decimal k ∷ map literal_text c))
axiom_parts texts (lines.Axiom k c) h = (k, c, h.line.0, h.line.1, h.pieces)
axiom_parts texts l h = let b = h.begins in absurd cc

chain_parts : (texts : List ℕ) (l : Line) → IsBehind Chain texts l → (n : ℕ) × (ss : List (ℕ × ℕ)) × (c : Literals) × (n < 2 ^ 64) × AllByRecursion IsStep ss × AreLiterals c
    × (texts ≡ behind 32 (decimal n ∷ (map step_text ss ++ (61 ∷ []) ∷ map literal_text c)))
chain_parts texts (lines.Chain chain c) h = (chain.first, chain.steps, c, h.line.0, h.line.1, h.line.2, h.pieces)
chain_parts texts l h = let b = h.begins in absurd cc

use_parts : (texts : List ℕ) (l : Line) → IsBehind Use texts l → (i : ℕ) × (i < 2 ^ 64) × (texts ≡ behind 32 (decimal i ∷ []))
use_parts texts (lines.Use i) h = (i, h.line, h.pieces)
use_parts texts l h = let b = h.begins in absurd cc

decide_parts : (texts : List ℕ) (l : Line) → IsBehind Decide texts l → (x : ℕ) × (s : List (ℤ × ℤ)) × (x < 2 ^ 32) × IsValid s × (texts ≡ behind 32 (decimal x ∷ set_text s ∷ []))
decide_parts texts (lines.Decide x s) h = (x, s, h.line.0, h.line.1, h.pieces)
decide_parts texts l h = let b = h.begins in absurd cc

empty_parts : (texts : List ℕ) (l : Line) → IsBehind Empty texts l → (x : ℕ) × (x < 2 ^ 32) × (texts ≡ behind 32 (decimal x ∷ []))
empty_parts texts (lines.Empty x) h = (x, h.line, h.pieces)
empty_parts texts l h = let b = h.begins in absurd cc

-- ---- texts that are no line of their word

-- no number stands in front
abbrev pub NoneInFront : ℕ → List ℕ → Type 0
NoneInFront limit texts = (n : ℕ) (ps : List (List ℕ)) → n < limit → texts ≡ behind 32 (decimal n ∷ ps) → ⊥

pub use_none : (texts : List ℕ) → NoneInFront (2 ^ 64) texts → (l : Line) → IsBehind Use texts l → ⊥
use_none texts none l h = let p = use_parts texts l h in none p.0 [] p.1 p.2

pub empty_none : (texts : List ℕ) → NoneInFront (2 ^ 32) texts → (l : Line) → IsBehind Empty texts l → ⊥
empty_none texts none l h = let p = empty_parts texts l h in none p.0 [] p.1 p.2

pub decide_none : (texts : List ℕ) → NoneInFront (2 ^ 32) texts → (l : Line) → IsBehind Decide texts l → ⊥
decide_none texts none l h = let p = decide_parts texts l h in none p.0 (set_text p.1 ∷ []) p.2 p.4

pub use_more : (texts rest : List ℕ) (n : ℕ) → IsNumberFirst (2 ^ 64) texts n rest → 0 < length rest → (l : Line) → IsBehind Use texts l → ⊥
use_more texts rest n f some l h =
    let p = use_parts texts l h in
    let same = first_number texts rest n p.0 [] f.fits p.1 f.whole f.heads p.2 in
    let z = ap length same.1 in omega arith

pub empty_more : (texts rest : List ℕ) (n : ℕ) → IsNumberFirst (2 ^ 32) texts n rest → 0 < length rest → (l : Line) → IsBehind Empty texts l → ⊥
empty_more texts rest n f some l h =
    let p = empty_parts texts l h in
    let same = first_number texts rest n p.0 [] (omega (arith, f.fits)) (omega arith) f.whole f.heads p.2 in
    let z = ap length same.1 in omega arith

-- the set's text of a Decide line
decide_rest : (texts rest : List ℕ) (n : ℕ) (l : Line) → IsNumberFirst (2 ^ 32) texts n rest → IsBehind Decide texts l → (s : List (ℤ × ℤ)) × IsValid s × (rest ≡ 32 ∷ set_text s ++ [])
decide_rest texts rest n l f h =
    let p = decide_parts texts l h in
    let same = first_number texts rest n p.0 (set_text p.1 ∷ []) (omega (arith, f.fits)) (omega arith) f.whole f.heads p.4 in
    (p.1, p.3, same.1)

pub decide_short : (texts rest : List ℕ) (n : ℕ) → IsNumberFirst (2 ^ 32) texts n rest → ((z : List ℕ) → rest ≡ 32 ∷ z → ⊥) → (l : Line) → IsBehind Decide texts l → ⊥
decide_short texts rest n f none l h = let p = decide_rest texts rest n l f h in none (set_text p.0 ++ []) p.2

decide_set : (texts rest text after : List ℕ) (n : ℕ) (l : Line) → IsNumberFirst (2 ^ 32) texts n rest → IsNextPart 32 rest text after → IsBehind Decide texts l →
    (s : List (ℤ × ℤ)) × IsValid s × (text ≡ set_text s) × (after ≡ [])
decide_set texts rest text after n l f part h =
    let p = decide_rest texts rest n l f h in
    let whole : 32 ∷ text ++ after ≡ 32 ∷ set_text p.0 ++ [] = sym part.whole ∙ p.2 in
    let tails : text ++ after ≡ set_text p.0 ++ [] = cc in
    let same = same_cut 32 text after (set_text p.0) [] part.lacks (set_spelling.lacks p.0 p.1) part.heads refl tails in
    (p.0, p.1, same.0, same.1)

pub decide_more : (texts rest text after : List ℕ) (n : ℕ) → IsNumberFirst (2 ^ 32) texts n rest → IsNextPart 32 rest text after → 0 < length after → (l : Line) → IsBehind Decide texts l → ⊥
decide_more texts rest text after n f part some l h =
    let p = decide_set texts rest text after n l f part h in
    let z = ap length p.3 in omega arith

pub decide_bad : (texts rest text after : List ℕ) (n : ℕ) → IsNumberFirst (2 ^ 32) texts n rest → IsNextPart 32 rest text after → IsTextOfNone set_text IsValid text → (l : Line) → IsBehind Decide texts l → ⊥
decide_bad texts rest text after n f part none l h =
    let p = decide_set texts rest text after n l f part h in none p.0 p.1 p.2

-- the literals of an Axiom line
pub axiom_bad : (texts rest : List ℕ) (n : ℕ) → IsNumberFirst (2 ^ 32) texts n rest →
    ((c : Literals) → AreLiterals c → rest ≡ behind 32 (map literal_text c) → ⊥) → (l : Line) → IsBehind Axiom texts l → ⊥
axiom_bad texts rest n f none l h =
    let p = axiom_parts texts l h in
    let same = first_number texts rest n p.0 (map literal_text p.1) (omega (arith, f.fits)) (omega arith) f.whole f.heads p.4 in
    none p.1 p.3 same.1

all_lack_literals : (c : Literals) → AreLiterals c → AllByRecursion (λ p. lacks 32 p ≡ true) (map literal_text c)
all_lack_literals c h = all_lack 32 literal_text IsLiteral literal_spelling c h.1

-- the steps of a Chain line, and its literals
pub chain_bad_steps : (texts rest : List ℕ) (n : ℕ) → IsNumberFirst (2 ^ 64) texts n rest →
    ((ss : List (ℕ × ℕ)) (ps : List (List ℕ)) → AllByRecursion IsStep ss → AllByRecursion (λ p. lacks 32 p ≡ true) ps → rest ≡ behind 32 (map step_text ss ++ (61 ∷ []) ∷ ps) → ⊥) →
    (l : Line) → IsBehind Chain texts l → ⊥
chain_bad_steps texts rest n f none l h =
    let p = chain_parts texts l h in
    let same = first_number texts rest n p.0 (map step_text p.1 ++ (61 ∷ []) ∷ map literal_text p.2) f.fits p.3 f.whole f.heads p.6 in
    none p.1 (map literal_text p.2) p.4 (all_lack_literals p.2 p.5) same.1

pub chain_bad_clause : (texts rest after : List ℕ) (n : ℕ) (out : List (ℕ × ℕ)) → IsNumberFirst (2 ^ 64) texts n rest →
    AllByRecursion IsStep out × (heads 32 after ≡ true) → rest ≡ behind 32 (map step_text out) ++ (32 ∷ 61 ∷ after) →
    ((c : Literals) → AreLiterals c → after ≡ behind 32 (map literal_text c) → ⊥) → (l : Line) → IsBehind Chain texts l → ⊥
chain_bad_clause texts rest after n out f a e none l h =
    let p = chain_parts texts l h in
    let same = first_number texts rest n p.0 (map step_text p.1 ++ (61 ∷ []) ∷ map literal_text p.2) f.fits p.3 f.whole f.heads p.6 in
    let steps = steps_same out p.1 (map literal_text p.2) rest after a.0 p.4 (all_lack_literals p.2 p.5) e a.1 same.1 in
    none p.2 p.5 steps.1

pub chain_is : (texts rest after : List ℕ) (n : ℕ) (out : List (ℕ × ℕ)) (c : Literals) → texts ≡ 32 ∷ decimal n ++ rest → rest ≡ behind 32 (map step_text out) ++ (32 ∷ 61 ∷ after) → after ≡ behind 32 (map literal_text c) →
    texts ≡ behind 32 (decimal n ∷ (map step_text out ++ (61 ∷ []) ∷ map literal_text c))
chain_is texts rest after n out c e f g =
    e ∙ ap (λ z. 32 ∷ decimal n ++ z) (f ∙ ap (λ z. behind 32 (map step_text out) ++ (32 ∷ 61 ∷ z)) g ∙ sym (behind-append 32 (map step_text out) ((61 ∷ []) ∷ map literal_text c)))

-- ---- the word

word_lacks : (l : Line) → lacks 32 (word_of l) ≡ true
word_lacks (lines.Axiom k c) = refl
word_lacks (lines.Chain chain c) = refl
word_lacks (lines.Bound v) = refl
word_lacks (lines.Use i) = refl
word_lacks (lines.Found v) = refl
word_lacks (lines.Decide x s) = refl
word_lacks (lines.Empty x) = refl

word_is : (l : Line) → word_of l ≡ word_text (word_at l)
word_is (lines.Axiom k c) = refl
word_is (lines.Chain chain c) = refl
word_is (lines.Bound v) = refl
word_is (lines.Use i) = refl
word_is (lines.Found v) = refl
word_is (lines.Decide x s) = refl
word_is (lines.Empty x) = refl

pub word_none : (bytes word texts : List ℕ) → IsCut 32 bytes word texts → ((w : Word) → word ≡ word_text w → ⊥) → (l : Line) → Spells bytes l → ⊥
word_none bytes word texts cut none l h =
    let same = same_cut 32 word texts (word_of l) (behind 32 (pieces_of l)) cut.lacks (word_lacks l) cut.heads (heads-behind 32 (pieces_of l)) (sym cut.whole ∙ h.text) in
    none (word_at l) (same.0 ∙ word_is l)

-- ---- no bytes spell two lines

literals_once : (a c : Literals) → AreLiterals a → AreLiterals c → behind 32 (map literal_text a) ≡ behind 32 (map literal_text c) → a ≡ c
literals_once a c h k e = values_same 32 literal_text IsLiteral literal_spelling a c h.1 k.1 e

values_once : (v w : List ℤ) → AllByRecursion IsSigned v → AllByRecursion IsSigned w → behind 32 (map signed_decimal v) ≡ behind 32 (map signed_decimal w) → v ≡ w
values_once v w h k e = values_same 32 signed_decimal IsSigned value_pieces v w h k e

-- the number in front, and the pieces behind it
front_once : (m n : ℕ) (ps qs : List (List ℕ)) → m < 2 ^ 64 → n < 2 ^ 64 → behind 32 (decimal m ∷ ps) ≡ behind 32 (decimal n ∷ qs) → (m ≡ n) × (behind 32 ps ≡ behind 32 qs)
front_once m n ps qs h k e = first_number (behind 32 (decimal m ∷ ps)) (behind 32 ps) m n qs h k refl (heads-behind 32 ps) e

chain_once : (n m : ℕ) (ss ts : List (ℕ × ℕ)) (a c : Literals) → n < 2 ^ 64 → m < 2 ^ 64 → AllByRecursion IsStep ss → AllByRecursion IsStep ts → AreLiterals a → AreLiterals c →
    behind 32 (decimal n ∷ (map step_text ss ++ (61 ∷ []) ∷ map literal_text a)) ≡ behind 32 (decimal m ∷ (map step_text ts ++ (61 ∷ []) ∷ map literal_text c)) → (n ≡ m) × (ss ≡ ts) × (a ≡ c)
chain_once n m ss ts a c h k f g p q e =
    let front = front_once n m (map step_text ss ++ (61 ∷ []) ∷ map literal_text a) (map step_text ts ++ (61 ∷ []) ∷ map literal_text c) h k e in
    let rest = steps_same ss ts (map literal_text c) (behind 32 (map step_text ss ++ (61 ∷ []) ∷ map literal_text a)) (behind 32 (map literal_text a)) f g (all_lack_literals c q)
    (behind-append 32 (map step_text ss) ((61 ∷ []) ∷ map literal_text a)) (heads-behind 32 (map literal_text a)) front.1 in
    (front.0, rest.0, literals_once a c p q rest.1)

chain_equal : (f g : chains.Chain) (c d : Literals) → f.first ≡ g.first → f.steps ≡ g.steps → c ≡ d → lines.Chain f c ≡ lines.Chain g d
chain_equal f g c d h k e =
    ap (λ (z : ℕ). lines.Chain (record { first = z; steps = f.steps }) c) h
    ∙ ap (λ (z : List (ℕ × ℕ)). lines.Chain (record { first = g.first; steps = z }) c) k
    ∙ ap (lines.Chain g) e

behind_once : (l m : Line) → word_at l ≡ word_at m → IsLine l → IsLine m → behind 32 (pieces_of l) ≡ behind 32 (pieces_of m) → l ≡ m
behind_once (lines.Axiom k c) (lines.Axiom j d) w h i e =
    let front = front_once k j (map literal_text c) (map literal_text d) (omega arith) (omega arith) e in
    let rest = literals_once c d h.1 i.1 front.1 in
    cc (front.0, rest)
behind_once (lines.Chain f c) (lines.Chain g d) w h i e =
    let parts = chain_once f.first g.first f.steps g.steps c d h.0 i.0 h.1 i.1 h.2 i.2 e in
    chain_equal f g c d parts.0 parts.1 parts.2
behind_once (lines.Bound v) (lines.Bound z) w h i e = ap lines.Bound (values_once v z h i e)
behind_once (lines.Use k) (lines.Use j) w h i e = ap lines.Use (front_once k j [] [] h i e).0
behind_once (lines.Found v) (lines.Found z) w h i e = ap lines.Found (values_once v z h i e)
behind_once (lines.Decide x s) (lines.Decide y t) w h i e =
    let front = front_once x y (set_text s ∷ []) (set_text t ∷ []) (omega arith) (omega arith) e in
    let tails : set_text s ++ [] ≡ set_text t ++ [] = cc (front.1) in
    let sets = set_spelling.alone s t h.1 i.1 (sym (append-nil _) ∙ tails ∙ append-nil _) in
    cc (front.0, sets)
behind_once (lines.Empty x) (lines.Empty y) w h i e = ap lines.Empty (front_once x y [] [] (omega arith) (omega arith) e).0
behind_once l m w h i e = absurd cc

words_once : (v w : Word) → word_text v ≡ word_text w → v ≡ w
words_once Axiom Axiom e = refl
words_once Chain Chain e = refl
words_once Bound Bound e = refl
words_once Use Use e = refl
words_once Found Found e = refl
words_once Decide Decide e = refl
words_once Empty Empty e = refl
words_once v w e = let k : get_or (word_text v) 0 0 ≡ get_or (word_text w) 0 0 = ap (λ t. get_or t 0 0) e in absurd (omega arith)

pub spelled_once : (bytes : List ℕ) (l m : Line) → Spells bytes l → Spells bytes m → l ≡ m
spelled_once bytes l m h k =
    let same = same_cut 32 (word_of l) (behind 32 (pieces_of l)) (word_of m) (behind 32 (pieces_of m)) (word_lacks l) (word_lacks m) (heads-behind 32 (pieces_of l)) (heads-behind 32 (pieces_of m)) (sym h.text ∙ k.text) in
    behind_once l m (words_once (word_at l) (word_at m) (sym (word_is l) ∙ same.0 ∙ word_is m)) h.line k.line same.1
