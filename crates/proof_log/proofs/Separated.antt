-- Texts behind one another, each with a separator before it, tell where they begin and end.
use Rattle.std.proofs.Common.{◌≡◌, ℕ, true, not, ◌==◌, List, [], ◌∷◌, ◌++◌, take, drop, refl, sym, ap, ◌∙◌, arith, append_assoc, append-nil, map, eq-eqb}
use Rattle.std.specs.List.{AllByRecursion}
use Rattle.std.proofs.lemmas.Bool.{and_parts, eqb-true}
use Rattle.std.proofs.lemmas.List.{take-append-drop}
use Rattle.proof_log.specs.Spelling.{behind, lacks}
use Rattle.proof_log.specs.Parts.{heads, IsCut, IsNextPart}

pub behind-append : (s : ℕ) (a b : List (List ℕ)) → behind s (a ++ b) ≡ behind s a ++ behind s b
behind-append s [] b = refl
behind-append s (t ∷ a) b =
    ap (λ z. s ∷ t ++ z) (behind-append s a b) ∙ sym (append_assoc (s ∷ t) (behind s a) (behind s b))

-- ---- cuts

pub cut_at : (s : ℕ) (text a b : List ℕ) (n : ℕ) → a ≡ take n text → b ≡ drop n text → lacks s (take n text) ≡ true → heads s (drop n text) ≡ true → IsCut s text a b
cut_at s text a b n e f h k = record {
  whole = let whole = take-append-drop n text in cc;
  lacks = ap (lacks s) e ∙ h;
  heads = ap (heads s) f ∙ k;
}

-- ---- what stands between separators

-- two cuts of one text are the same
pub same_cut : (s : ℕ) (p x q y : List ℕ) → lacks s p ≡ true → lacks s q ≡ true → heads s x ≡ true → heads s y ≡ true → p ++ x ≡ q ++ y → (p ≡ q) × (x ≡ y)
same_cut s [] x [] y h k i j e = (refl, e)
same_cut s [] x (b ∷ q) y h k i j e =
    let parts = and_parts (not (b == s)) (lacks s q) k in
    let begins : heads s (b ∷ (q ++ y)) ≡ true = ap (heads s) (sym e) ∙ i in
    absurd (grind arith)
same_cut s (a ∷ p) x [] y h k i j e =
    let parts = and_parts (not (a == s)) (lacks s p) h in
    let begins : heads s (a ∷ (p ++ x)) ≡ true = ap (heads s) e ∙ j in
    absurd (grind arith)
same_cut s (a ∷ p) x (b ∷ q) y h k i j e =
    let h' = and_parts (not (a == s)) (lacks s p) h in
    let k' = and_parts (not (b == s)) (lacks s q) k in
    let first : a ≡ b = cc in
    let rest : p ++ x ≡ q ++ y = cc in
    let more = same_cut s p x q y h'.1 k'.1 i j rest in
    (cc (first, more.0), more.1)

pub heads-behind : (s : ℕ) (ps : List (List ℕ)) → heads s (behind s ps) ≡ true
heads-behind s [] = refl
heads-behind s (p ∷ ps) = eq-eqb s s refl

heads-more : (s : ℕ) (ps : List (List ℕ)) (r : List ℕ) → heads s r ≡ true → heads s (behind s ps ++ r) ≡ true
heads-more s [] r h = h
heads-more s (p ∷ ps) r h = eq-eqb s s refl

-- a piece behind known pieces is a piece of the whole text
pub pieces_front : (s : ℕ) (ps qs : List (List ℕ)) (p r : List ℕ) → AllByRecursion (λ t. lacks s t ≡ true) ps → AllByRecursion (λ t. lacks s t ≡ true) qs → lacks s p ≡ true → heads s r ≡ true →
    behind s ps ++ (s ∷ p ++ r) ≡ behind s qs → (more : List (List ℕ)) × (qs ≡ ps ++ p ∷ more) × (r ≡ behind s more)
pieces_front s [] [] p r a b h k e = absurd cc
pieces_front s [] (q ∷ qs) p r a b h k e =
    let tails : p ++ r ≡ q ++ behind s qs = cc in
    let same = same_cut s p r q (behind s qs) h b.0 k (heads-behind s qs) tails in
    (qs, ap (λ t. t ∷ qs) (sym same.0), same.1)
pieces_front s (o ∷ ps) [] p r a b h k e = absurd cc
pieces_front s (o ∷ ps) (q ∷ qs) p r a b h k e =
    let regroup : (s ∷ o ++ behind s ps) ++ (s ∷ p ++ r) ≡ s ∷ o ++ (behind s ps ++ (s ∷ p ++ r)) = append_assoc (s ∷ o) (behind s ps) (s ∷ p ++ r) in
    let whole : s ∷ o ++ (behind s ps ++ (s ∷ p ++ r)) ≡ s ∷ q ++ behind s qs = sym regroup ∙ e in
    let tails : o ++ (behind s ps ++ (s ∷ p ++ r)) ≡ q ++ behind s qs = cc in
    let same = same_cut s o (behind s ps ++ (s ∷ p ++ r)) q (behind s qs) a.0 b.0 (heads-more s ps (s ∷ p ++ r) (eq-eqb s s refl)) (heads-behind s qs) tails in
    let more = pieces_front s ps qs p r a.1 b.1 h k same.1 in
    (more.0, cc (same.0, more.1), more.2)

-- pieces are told by the text
pub pieces_same : (s : ℕ) (ps qs : List (List ℕ)) → AllByRecursion (λ t. lacks s t ≡ true) ps → AllByRecursion (λ t. lacks s t ≡ true) qs → behind s ps ≡ behind s qs → ps ≡ qs
pieces_same s [] [] a b e = refl
pieces_same s [] (q ∷ qs) a b e = absurd cc
pieces_same s (p ∷ ps) [] a b e = absurd cc
pieces_same s (p ∷ ps) (q ∷ qs) a b e =
    let tails : p ++ behind s ps ≡ q ++ behind s qs = cc in
    let same = same_cut s p (behind s ps) q (behind s qs) a.0 b.0 (heads-behind s ps) (heads-behind s qs) tails in
    let more = pieces_same s ps qs a.1 b.1 same.1 in
    cc (same.0, more)

-- ---- pieces of values

-- each value's text lacks the separator, and is that of this value alone
pub record IsSpelling {X : Type 0} (s : ℕ) (spelling : X → List ℕ) (IsRight : X → Type 0) : Type 0 where
  pub lacks : (x : X) → IsRight x → lacks s (spelling x) ≡ true
  pub alone : (x y : X) → IsRight x → IsRight y → spelling x ≡ spelling y → x ≡ y

pub all_lack : {X : Type 0} (s : ℕ) (spelling : X → List ℕ) (IsRight : X → Type 0) → IsSpelling s spelling IsRight → (xs : List X) → AllByRecursion IsRight xs →
    AllByRecursion (λ t. lacks s t ≡ true) (map spelling xs)
all_lack s spelling IsRight w [] a = tt
all_lack s spelling IsRight w (x ∷ xs) a = (w.lacks x a.0, all_lack s spelling IsRight w xs a.1)

found : {X : Type 0} (spelling : X → List ℕ) (IsRight : X → Type 0) (ps : List (List ℕ)) (ys : List X) (p : List ℕ) (more : List (List ℕ)) →
    AllByRecursion IsRight ys → map spelling ys ≡ ps ++ p ∷ more → (y : X) × IsRight y × (p ≡ spelling y)
found spelling IsRight [] [] p more b e = absurd cc
found spelling IsRight (q ∷ ps) [] p more b e = absurd cc
found spelling IsRight [] (y ∷ ys) p more b e = (y, b.0, cc)
found spelling IsRight (q ∷ ps) (y ∷ ys) p more b e = found spelling IsRight ps ys p more b.1 cc

-- a piece behind those of known values is that of a value
pub value_next : {X : Type 0} (s : ℕ) (spelling : X → List ℕ) (IsRight : X → Type 0) → IsSpelling s spelling IsRight → (xs ys : List X) (p r : List ℕ) →
    AllByRecursion IsRight xs → AllByRecursion IsRight ys → lacks s p ≡ true → heads s r ≡ true → behind s (map spelling xs) ++ (s ∷ p ++ r) ≡ behind s (map spelling ys) →
    (y : X) × IsRight y × (p ≡ spelling y)
value_next s spelling IsRight w xs ys p r a b h k e =
    let front = pieces_front s (map spelling xs) (map spelling ys) p r (all_lack s spelling IsRight w xs a) (all_lack s spelling IsRight w ys b) h k e in
    found spelling IsRight (map spelling xs) ys p front.0 b front.1

pub mapped_same : {X : Type 0} (s : ℕ) (spelling : X → List ℕ) (IsRight : X → Type 0) → IsSpelling s spelling IsRight → (xs ys : List X) →
    AllByRecursion IsRight xs → AllByRecursion IsRight ys → map spelling xs ≡ map spelling ys → xs ≡ ys
mapped_same s spelling IsRight w [] [] a b e = refl
mapped_same s spelling IsRight w [] (y ∷ ys) a b e = absurd cc
mapped_same s spelling IsRight w (x ∷ xs) [] a b e = absurd cc
mapped_same s spelling IsRight w (x ∷ xs) (y ∷ ys) a b e =
    let first : x ≡ y = w.alone x y a.0 b.0 cc in
    let rest : map spelling xs ≡ map spelling ys = cc in
    let more = mapped_same s spelling IsRight w xs ys a.1 b.1 rest in
    cc (first, more)

-- values are told by the text
pub values_same : {X : Type 0} (s : ℕ) (spelling : X → List ℕ) (IsRight : X → Type 0) → IsSpelling s spelling IsRight → (xs ys : List X) →
    AllByRecursion IsRight xs → AllByRecursion IsRight ys → behind s (map spelling xs) ≡ behind s (map spelling ys) → xs ≡ ys
values_same s spelling IsRight w xs ys a b e =
    mapped_same s spelling IsRight w xs ys a b (pieces_same s (map spelling xs) (map spelling ys) (all_lack s spelling IsRight w xs a) (all_lack s spelling IsRight w ys b) e)

-- one more value
pub all_more : {X : Type 0} (IsRight : X → Type 0) (xs : List X) (x : X) → AllByRecursion IsRight xs → IsRight x → AllByRecursion IsRight (xs ++ x ∷ [])
all_more IsRight [] x a h = (h, tt)
all_more IsRight (y ∷ xs) x a h = (a.0, all_more IsRight xs x a.1 h)

pub behind_more : {X : Type 0} (s : ℕ) (spelling : X → List ℕ) (xs : List X) (x : X) (r : List ℕ) → behind s (map spelling (xs ++ x ∷ [])) ++ r ≡ behind s (map spelling xs) ++ (s ∷ spelling x ++ r)
behind_more s spelling [] x r = ap (λ t. s ∷ t) (append_assoc (spelling x) [] r)
behind_more s spelling (y ∷ xs) x r =
    append_assoc (s ∷ spelling y) _ r ∙ ap (λ t. s ∷ spelling y ++ t) (behind_more s spelling xs x r) ∙ sym (append_assoc (s ∷ spelling y) (behind s (map spelling xs)) _)

-- ---- the steps of a walk over the texts of values

-- a text that begins with a separator, if with anything, ends where none stands
pub no_part : (s : ℕ) (left : List ℕ) → heads s left ≡ true → ((rest : List ℕ) → left ≡ s ∷ rest → ⊥) → left ≡ []
no_part s [] h none = refl
no_part s (b ∷ left) h none = absurd (none left (ap (λ z. z ∷ left) (eqb-true b s h)))

-- a part that is the text of no value
pub bad_part : {X : Type 0} (s : ℕ) (spelling : X → List ℕ) (IsRight : X → Type 0) → IsSpelling s spelling IsRight → (xs ys : List X) (left whole p r : List ℕ) →
    AllByRecursion IsRight xs → AllByRecursion IsRight ys → behind s (map spelling xs) ++ left ≡ whole → IsNextPart s left p r →
    ((x : X) → IsRight x → p ≡ spelling x → ⊥) → whole ≡ behind s (map spelling ys) → ⊥
bad_part s spelling IsRight w xs ys left whole p r a b e part none f =
    let value = value_next s spelling IsRight w xs ys p r a b part.lacks part.heads (ap (λ z. behind s (map spelling xs) ++ z) (sym part.whole) ∙ e ∙ f) in
    none value.0 value.1 value.2

-- a part that is the text of a value
pub good_part : {X : Type 0} (s : ℕ) (spelling : X → List ℕ) (xs ys : List X) (x : X) (left whole p r : List ℕ) →
    behind s (map spelling xs) ++ left ≡ whole → IsNextPart s left p r → p ≡ spelling x → ys ≡ xs ++ x ∷ [] → behind s (map spelling ys) ++ r ≡ whole
good_part s spelling xs ys x left whole p r e part f new =
    ap (λ z. behind s (map spelling z) ++ r) new ∙ behind_more s spelling xs x r ∙ ap (λ z. behind s (map spelling xs) ++ (s ∷ z ++ r)) (sym f)
    ∙ ap (λ z. behind s (map spelling xs) ++ z) (sym part.whole) ∙ e

-- nothing is left
pub whole_part : {X : Type 0} (s : ℕ) (spelling : X → List ℕ) (xs : List X) (left whole : List ℕ) → behind s (map spelling xs) ++ left ≡ whole → left ≡ [] → whole ≡ behind s (map spelling xs)
whole_part s spelling xs left whole e f = sym e ∙ ap (λ z. behind s (map spelling xs) ++ z) f ∙ append-nil _
