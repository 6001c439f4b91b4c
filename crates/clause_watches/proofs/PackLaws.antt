-- Clauses packed for watching, and what a look at them finds.
use Rattle.std.proofs.Common.{◌≡◌, ◌≢◌, ℕ, zero, suc, ◌<◌, ◌≤◌, ◌+◌, true, false, List, [], ◌∷◌, ◌++◌, ◌⊎◌, inl, inr, ℤ, length, arith, refl, sym, ap, ◌∙◌, subst, bit_and, slice_index_or, Option, Some, None}
use Rattle.std.specs.Prelude.{IfNone}
use Rattle.std.specs.List.{All}
use Rattle.std.proofs.lemmas.Bool.{cases_eq}
use Rattle.std.proofs.lemmas.List.{length_push}
use Rattle.signed_clause.specs.Ranges.{Ranges, IsValid}
use Rattle.signed_clause.specs.SetAlgebra.{is_disjoint}
use Rattle.signed_clause.specs.Clauses.{Boxes, Literals, box_of, set_of, IsClause}
use Rattle.clause_watches.specs.declared.rest.Rest.{Rest}
use Rattle.clause_watches.specs.declared.packed.PackedLiteral.{PackedLiteral}
use Rattle.clause_watches.specs.declared.watch.Link.{Link}
use Rattle.clause_watches.specs.declared.watch.Witness.TheVariants.{Mask}
use Rattle.clause_watches.specs.Watching.{clause_of, Meets}
use Rattle.clause_watches.specs.Rows.{names, IsMaskOf, HasAllBits, IsTrueOf}
use Rattle.clause_watches.specs.Sound.{least_at, sets_at, packed_of, AreClauses, IsCopy, IsPacked, ArePacked}
use Rattle.clause_watches.specs.Looking.{IsOut, IsShown, IsLink, AreOutBetween}
use Rattle.clause_watches.proofs.ActLaws.{set_at}
use Rattle.clause_watches.proofs.LinkLaws.{clause_added}
use Rattle.clause_watches.proofs.MaskLaws.{masks_meet, bits_out}

-- ---- one literal

-- the least value that a mask is counted from
least_is : (leasts : List ℤ) (l : ℕ × Ranges) (p : PackedLiteral) (least : ℤ) →
    IsCopy leasts l p → least ≡ least_at leasts p.variable → least ≡ least_at leasts l.0
least_is leasts l p least copy e = e ∙ ap (λ (x : ℕ). least_at leasts x) copy.variable

-- a common bit shows that the literal meets the box
pub copy_shown : (leasts : List ℤ) (at : Ranges) (l : ℕ × Ranges) (p : PackedLiteral) (least : ℤ)
    (seen : ℕ) → IsCopy leasts l p → least ≡ least_at leasts p.variable → IsValid at →
    IsMaskOf least at seen → bit_and p.bits seen ≢ 0 → IsShown leasts at l (Mask p.bits)
copy_shown leasts at l p least seen copy e valid mask some =
    let same = least_is leasts l p least copy e in
    let own : IsMaskOf (least_at leasts l.0) at seen =
    subst (λ (v : ℤ). IsMaskOf v at seen) same mask in record {
      meets = masks_meet (least_at leasts l.0) l.1 at p.bits seen some copy.bits own copy.valid
          valid;
      right = copy.bits;
    }

-- none shows that it doesn't, where all values of the box have bits
pub copy_out : (leasts : List ℤ) (at : Ranges) (l : ℕ × Ranges) (p : PackedLiteral) (least : ℤ)
    (seen : ℕ) → IsCopy leasts l p → least ≡ least_at leasts p.variable → IsValid at →
    HasAllBits least at seen → bit_and p.bits seen ≡ 0 → is_disjoint l.1 at ≡ true
copy_out leasts at l p least seen copy e valid all none =
    let same = least_is leasts l p least copy e in
    let own : HasAllBits (least_at leasts l.0) at seen =
    subst (λ (v : ℤ). HasAllBits v at seen) same all in
    bits_out (least_at leasts l.0) l.1 at p.bits seen copy.valid valid copy.whole own none

-- a literal that is named, and one that doesn't meet the box
pub named_out : (boxes : Boxes) (leasts : List ℤ) (rest : Rest) (l : ℕ × Ranges)
    (p : PackedLiteral) → IsCopy leasts l p → names rest p.variable ≡ true → IsOut boxes rest l
named_out boxes leasts rest l p copy n =
    let on : names rest l.0 ≡ true = subst (λ (x : ℕ). names rest x ≡ true) copy.variable n in
    record { disjoint = λ off. absurd (cc) }

pub disjoint_out : (boxes : Boxes) (leasts : List ℤ) (rest : Rest) (at : Ranges) (l : ℕ × Ranges)
    (p : PackedLiteral) → IsCopy leasts l p → at ≡ box_of boxes p.variable →
    is_disjoint l.1 at ≡ true → IsOut boxes rest l
disjoint_out boxes leasts rest at l p copy is none =
    let own : at ≡ box_of boxes l.0 = is ∙ ap (λ (x : ℕ). box_of boxes x) copy.variable in
    record { disjoint = λ off. subst (λ (s : Ranges). is_disjoint l.1 s ≡ true) own none }

-- a watch by the literal at index k
pub link_made : (boxes : Boxes) (added : List (ℕ × Literals)) (leasts : List ℤ) (i k : ℕ)
    (rest : Rest) (d : ℕ × Ranges) (p : PackedLiteral) (at : Ranges) (link : Link) →
    IsClause (clause_of added i) → k < length (clause_of added i) →
    IsCopy leasts (slice_index_or (clause_of added i) k d) p → names rest p.variable ≡ false →
    at ≡ box_of boxes p.variable → p.variable < length boxes →
    IsShown leasts at (slice_index_or (clause_of added i) k d) link.watch.witness →
    link.variable ≡ p.variable → link.watch.clause ≡ i →
    IsLink boxes added leasts i rest link
link_made boxes added leasts i k rest d p at link form there copy unnamed is below shown variable
    clause =
    let c = clause_of added i in
    let l = slice_index_or c k d in
    let own : set_of c l.0 ≡ l.1 = set_at 0 c k l d form there refl in
    let x : link.variable ≡ l.0 = variable ∙ copy.variable in
    let box : at ≡ box_of boxes l.0 = is ∙ ap (λ (y : ℕ). box_of boxes y) copy.variable in
    let meets : is_disjoint l.1 (box_of boxes l.0) ≡ false =
    subst (λ (s : Ranges). is_disjoint l.1 s ≡ false) box shown.meets in record {
      clause = clause;
      there = subst (λ (y : ℕ). y < length boxes) (sym variable) below;
      unnamed = subst (λ (y : ℕ). names rest y ≡ false) (sym variable) unnamed;
      meets = subst (λ (y : ℕ). Meets boxes c y) (sym x)
          (subst (λ (s : Ranges). is_disjoint s (box_of boxes l.0) ≡ false) (sym own) meets);
      right = subst (λ (y : ℕ). IsTrueOf (least_at leasts y) (sets_at added y i) link.watch.witness)
          (sym x)
          (subst (λ (s : Ranges). IsTrueOf (least_at leasts l.0) s link.watch.witness) (sym own)
          shown.right);
    }

-- ---- the literals from one index to another

-- one more
pub out_more : (boxes : Boxes) (rest : Rest) (c : Literals) (from k : ℕ) →
    AreOutBetween boxes rest c from k →
    ((d : ℕ × Ranges) → IsOut boxes rest (slice_index_or c k d)) →
    AreOutBetween boxes rest c from (k + 1)
out_more boxes rest c from k out one j low high d = elim (cases_eq j k) [
  | inl same ↦ subst (λ (i : ℕ). IsOut boxes rest (slice_index_or c i d)) (sym same) (one d)
  | inr other ↦ out j low (omega arith) d
]

pub out_fewer : (boxes : Boxes) (rest : Rest) (c : Literals) (from k to : ℕ) → to ≤ k →
    AreOutBetween boxes rest c from k → AreOutBetween boxes rest c from to
out_fewer boxes rest c from k to h out j low high d = out j low (omega arith) d

split_at : (k n : ℕ) → (k < n) ⊎ (n ≤ k)
split_at k zero = inr (omega arith)
split_at zero (suc n) = inl (omega arith)
split_at (suc k) (suc n) = elim (split_at k n) [
  | inl low ↦ inl (omega arith)
  | inr high ↦ inr (omega arith)
]

-- those from an index on and those before it are all
pub out_all : (boxes : Boxes) (rest : Rest) (c : Literals) (begin end : ℕ) → end ≡ length c →
    AreOutBetween boxes rest c begin end → AreOutBetween boxes rest c 0 begin →
    All (λ l. IsOut boxes rest l) c
out_all boxes rest c begin end e late early k d h = elim (split_at k begin) [
  | inl low ↦ early k (omega arith) low d
  | inr high ↦ late k high (omega arith) d
]

-- ---- all clauses

pub packed_same : (leasts : List ℤ) (added : List (ℕ × Literals))
    (packed news : List (List PackedLiteral)) → ArePacked leasts added packed →
    length news ≡ length packed →
    ((i : ℕ) → packed_of news i ≡ packed_of packed i) → ArePacked leasts added news
packed_same leasts added packed news are size same = record {
  size = size ∙ are.size;
  each = λ i h. subst (λ (ps : List PackedLiteral). IsPacked leasts (clause_of added i) ps)
      (sym (same i)) (are.each i h);
}

packed_kept : (packed : List (List PackedLiteral)) (ps : List PackedLiteral) (i : ℕ) →
    i < length packed → packed_of (packed ++ ps ∷ []) i ≡ packed_of packed i
packed_kept [] ps i h = absurd (omega arith)
packed_kept (q ∷ qs) ps zero h = refl
packed_kept (q ∷ qs) ps (suc i) h = packed_kept qs ps i (omega arith)

packed_last : (packed : List (List PackedLiteral)) (ps : List PackedLiteral) →
    packed_of (packed ++ ps ∷ []) (length packed) ≡ ps
packed_last [] ps = refl
packed_last (q ∷ qs) ps = packed_last qs ps

clause_last : (added : List (ℕ × Literals)) (a : ℕ × Literals) →
    clause_of (added ++ a ∷ []) (length added) ≡ a.1
clause_last [] a = refl
clause_last (b ∷ bs) a = clause_last bs a

-- one more
pub packed_added : (leasts : List ℤ) (added : List (ℕ × Literals)) (a : ℕ × Literals)
    (packed : List (List PackedLiteral)) (ps : List PackedLiteral) →
    ArePacked leasts added packed → IsPacked leasts a.1 ps →
    ArePacked leasts (added ++ a ∷ []) (packed ++ ps ∷ [])
packed_added leasts added a packed ps are one =
    record {
      size = length_push packed ps ∙ ap (λ (n : ℕ). n + 1) are.size ∙ sym (length_push added a);
      each = λ i h. elim (cases_eq i (length added)) [
        | inl same ↦
            subst (λ (j : ℕ). IsPacked leasts (clause_of (added ++ a ∷ []) j)
            (packed_of (packed ++ ps ∷ []) j)) (sym same)
            (subst (λ (c : Literals). IsPacked leasts c
            (packed_of (packed ++ ps ∷ []) (length added))) (sym (clause_last added a))
            (subst (λ (n : ℕ). IsPacked leasts a.1 (packed_of (packed ++ ps ∷ []) n)) are.size
            (subst (λ (qs : List PackedLiteral). IsPacked leasts a.1 qs)
            (sym (packed_last packed ps)) one)))
        | inr other ↦
            let total = length_push added a in
            let low : i < length added = omega arith in
            let low_too : i < length packed = let e = are.size in omega arith in
            subst (λ (c : Literals). IsPacked leasts c (packed_of (packed ++ ps ∷ []) i))
            (sym (clause_added added a i low))
            (subst (λ (qs : List PackedLiteral). IsPacked leasts (clause_of added i) qs)
            (sym (packed_kept packed ps i low_too)) (are.each i low))
      ];
    }

-- literals that are packed one by one
pub record IsPackedTo (leasts : List ℤ) (c : Literals) (ps : List PackedLiteral) (n : ℕ) : Type 0
  where
    pub size : length ps ≡ n
    pub each : (k : ℕ) → k < n → (d : ℕ × Ranges) (e : PackedLiteral) →
        IsCopy leasts (slice_index_or c k d) (slice_index_or ps k e)

literal_kept : (ps : List PackedLiteral) (p e : PackedLiteral) (k : ℕ) → k < length ps →
    slice_index_or (ps ++ p ∷ []) k e ≡ slice_index_or ps k e
literal_kept [] p e k h = absurd (omega arith)
literal_kept (q ∷ qs) p e zero h = refl
literal_kept (q ∷ qs) p e (suc k) h = literal_kept qs p e k (omega arith)

literal_last : (ps : List PackedLiteral) (p e : PackedLiteral) →
    slice_index_or (ps ++ p ∷ []) (length ps) e ≡ p
literal_last [] p e = refl
literal_last (q ∷ qs) p e = literal_last qs p e

-- below the length the default doesn't matter
index_same : (c : Literals) (k : ℕ) (d e : ℕ × Ranges) → k < length c →
    slice_index_or c k d ≡ slice_index_or c k e
index_same [] k d e h = absurd (omega arith)
index_same (l ∷ ls) zero d e h = refl
index_same (l ∷ ls) (suc k) d e h = index_same ls k d e (omega arith)

pub packed_one : (leasts : List ℤ) (c : Literals) (ps : List PackedLiteral) (n : ℕ)
    (l d : ℕ × Ranges) (p : PackedLiteral) → n < length c → l ≡ slice_index_or c n d →
    IsCopy leasts l p → IsPackedTo leasts c ps n → IsPackedTo leasts c (ps ++ p ∷ []) (n + 1)
packed_one leasts c ps n l d p there is copy to =
    let size = to.size in record {
      size = length_push ps p ∙ ap (λ (m : ℕ). m + 1) size;
      each = λ k h f e. elim (cases_eq k n) [
        | inl same ↦
            let own : IsCopy leasts (slice_index_or c n f) p =
            subst (λ (q : ℕ × Ranges). IsCopy leasts q p) (is ∙ index_same c n d f there) copy in
            let last : slice_index_or (ps ++ p ∷ []) n e ≡ p =
            subst (λ (m : ℕ). slice_index_or (ps ++ p ∷ []) m e ≡ p) size
            (literal_last ps p e) in
            subst (λ (m : ℕ). IsCopy leasts (slice_index_or c m f)
            (slice_index_or (ps ++ p ∷ []) m e)) (sym same)
            (subst (λ (q : PackedLiteral). IsCopy leasts (slice_index_or c n f) q) (sym last)
            own)
        | inr other ↦
            subst (λ (q : PackedLiteral). IsCopy leasts (slice_index_or c k f) q)
            (sym (literal_kept ps p e k (omega arith))) (to.each k (omega arith) f e)
      ];
    }

pub packed_none : (leasts : List ℤ) (c : Literals) → IsPackedTo leasts c [] 0
packed_none leasts c = record { size = refl; each = λ k h d e. absurd (omega arith) }

pub packed_whole : (leasts : List ℤ) (c : Literals) (ps : List PackedLiteral) →
    IsPackedTo leasts c ps (length c) → IsPacked leasts c ps
packed_whole leasts c ps to = record { size = to.size; each = to.each }

-- no clause is packed
pub none_packed : (leasts : List ℤ) → ArePacked leasts [] []
none_packed leasts = record { size = refl; each = λ i h. absurd (omega arith) }

-- ---- what is there

pub copy_there : (leasts : List ℤ) (added : List (ℕ × Literals))
    (packed xs : List (List PackedLiteral)) (i k : ℕ) (p : PackedLiteral) →
    ArePacked leasts added packed → xs ≡ packed → i < length added →
    k < length (clause_of added i) →
    ((d : PackedLiteral) → p ≡ slice_index_or (packed_of xs i) k d) → (d : ℕ × Ranges) →
    IsCopy leasts (slice_index_or (clause_of added i) k d) p
copy_there leasts added packed xs i k p are e h there is d =
    subst (λ (q : PackedLiteral). IsCopy leasts (slice_index_or (clause_of added i) k d) q)
    (sym (is p))
    (subst (λ (ps : List (List PackedLiteral)). IsCopy leasts
    (slice_index_or (clause_of added i) k d) (slice_index_or (packed_of ps i) k p)) (sym e)
    ((are.each i h).each k there d p))

pub variable_below : (n : ℕ) (leasts : List ℤ) (added : List (ℕ × Literals)) (i k : ℕ)
    (p : PackedLiteral) → AreClauses n added → i < length added →
    k < length (clause_of added i) →
    IsCopy leasts (slice_index_or (clause_of added i) k (0, [])) p → p.variable < n
variable_below n leasts added i k p clauses h there copy =
    subst (λ (x : ℕ). x < n) (sym copy.variable) (clauses.within i (0, []) h k (0, []) there)

-- ---- what a call found none of

pub none_from : {X : Type 0} (o : Option X) (P : Type 0) → P → IfNone o P
none_from None P p = p
none_from (Some x) P p = tt

pub none_weaker : {X : Type 0} (o : Option X) (P Q : Type 0) → (P → Q) → IfNone o P → IfNone o Q
none_weaker None P Q f p = f p
none_weaker (Some x) P Q f p = tt
