-- The count of changes, a truth more.
use Rattle.std.proofs.Common.{◌≡◌, ℕ, ◌+◌, ◌<◌, ◌≤◌, Bool, true, false, List, [], ◌∷◌, ◌++◌, ℤ, pos, negsuc, ◌+ℤ◌, ◌*ℤ◌, ◌≤ℤ◌, All, length, length-append, refl, sym, ap, ◌∙◌, subst, arith}
use Rattle.std.specs.Prelude.{unsigned_abs}
use Rattle.std.specs.Ordering.{int_eq}
use Rattle.std.proofs.lemmas.Int.{ints}
use Rattle.std.proofs.lemmas.List.Elements.{All-push}
use Rattle.signed_clause.specs.Ranges.{Ranges, IsValid}
use Rattle.signed_clause.specs.Clauses.{Boxes, box_of}
use Rattle.ground_form.specs.declared.ground.Ground.{Ground}
use Rattle.ground_form.specs.Meaning.{value_of, bit, sum_at}
use Rattle.ground_form.specs.Bounds.{low_of, high_of, reach_of, term_weight, weight_of, LiesWithin}
use Rattle.form_build.specs.Worlds.{IsWorld, Grows}
use Rattle.form_build.proofs.Growth.{no_less}
use Rattle.form_build.proofs.Singles.{ends_ordered}
use Rattle.form_truths.specs.Parts.{IsPartOf}
use Rattle.form_truths.proofs.PartLaws.{flag_value}
use Rattle.block_sums.proofs.Terms.{sum_more, weight_more, weight_kept}
use Rattle.reconfigure.specs.Counting.{count_at, IsCount}
use Rattle.reconfigure.specs.declared.count.Count.{Count}

-- ---- a term more

group : (x y z : ℤ) → (x +ℤ (y +ℤ z)) ≡ ((x +ℤ y) +ℤ z)
group x y z = omega (arith, ints)

-- ---- a flag

flag_reach : (low high : ℤ) → pos 0 ≤ℤ low → low ≤ℤ high → high ≤ℤ pos 1 → (unsigned_abs low ≤ 1) × (unsigned_abs high ≤ 1)
flag_reach low high a b c = (grind (arith, ints), grind (arith, ints))

small_reach : (box : Ranges) → IsValid box → LiesWithin (pos 0) (pos 1) box → reach_of box ≤ 1
small_reach box valid lies =
    let both = flag_reach (low_of box) (high_of box) lies.0 (ends_ordered box valid) lies.1 in
    omega (arith, both.0, both.1)

one_weight : (f : ℕ) (boxes : Boxes) → IsValid (box_of boxes f) → LiesWithin (pos 0) (pos 1) (box_of boxes f) → term_weight (pos 1, f) boxes ≤ 1
unfolding term_weight
one_weight f boxes valid lies = let r = small_reach (box_of boxes f) valid lies in omega (arith, r)

less_weight : (f : ℕ) (boxes : Boxes) → IsValid (box_of boxes f) → LiesWithin (pos 0) (pos 1) (box_of boxes f) → term_weight (negsuc 0, f) boxes ≤ 1
unfolding term_weight
less_weight f boxes valid lies = let r = small_reach (box_of boxes f) valid lies in omega (arith, r)

one_value : (v : ℤ) → pos 0 ≤ℤ v → v ≤ℤ pos 1 → (pos 1 *ℤ v) ≡ bit (int_eq v (pos 1))
one_value v low high = by (int_eq v (pos 1)) refl
  where
    by : (b : Bool) → int_eq v (pos 1) ≡ b → (pos 1 *ℤ v) ≡ bit b
    by true e = let one : v ≡ pos 1 = grind (arith, ints) in ap (λ (z : ℤ). pos 1 *ℤ z) one
    by false e = let nought : v ≡ pos 0 = grind (arith, ints) in ap (λ (z : ℤ). pos 1 *ℤ z) nought

less_value : (v : ℤ) → pos 0 ≤ℤ v → v ≤ℤ pos 1 → ((negsuc 0 *ℤ v) +ℤ pos 1) ≡ bit (int_eq v (pos 0))
less_value v low high = by (int_eq v (pos 0)) refl
  where
    by : (b : Bool) → int_eq v (pos 0) ≡ b → ((negsuc 0 *ℤ v) +ℤ pos 1) ≡ bit b
    by true e = let nought : v ≡ pos 0 = grind (arith, ints) in ap (λ (z : ℤ). (negsuc 0 *ℤ z) +ℤ pos 1) nought
    by false e = let one : v ≡ pos 1 = grind (arith, ints) in ap (λ (z : ℤ). (negsuc 0 *ℤ z) +ℤ pos 1) one

last_two : (s o x y : ℤ) → x ≡ y → ((s +ℤ x) +ℤ o) ≡ ((s +ℤ o) +ℤ y)
last_two s o x y e = omega (arith, ints, e)

last_three : (s o x y : ℤ) → (x +ℤ pos 1) ≡ y → ((s +ℤ x) +ℤ (o +ℤ pos 1)) ≡ ((s +ℤ o) +ℤ y)
last_three s o x y e = omega (arith, ints, e)

-- with a flag that counts where it is 1
pub one_more : (old new : Count) (f : ℕ) (a : List ℤ) → new.terms.items ≡ old.terms.items ++ (pos 1, f) ∷ [] → new.offset ≡ old.offset → pos 0 ≤ℤ value_of a f → value_of a f ≤ℤ pos 1 → count_at new a ≡ (count_at old a +ℤ bit (int_eq (value_of a f) (pos 1)))
one_more old new f a e o low high =
    ap (λ (ts : List (ℤ × ℕ)). sum_at ts a +ℤ new.offset) e
    ∙ ap (λ (z : ℤ). z +ℤ new.offset) (sum_more old.terms.items (pos 1, f) a)
    ∙ ap (λ (z : ℤ). (sum_at old.terms.items a +ℤ (pos 1 *ℤ value_of a f)) +ℤ z) o
    ∙ last_two (sum_at old.terms.items a) old.offset (pos 1 *ℤ value_of a f) (bit (int_eq (value_of a f) (pos 1))) (one_value (value_of a f) low high)

-- with one that counts where it is 0
pub less_more : (old new : Count) (f : ℕ) (a : List ℤ) → new.terms.items ≡ old.terms.items ++ (negsuc 0, f) ∷ [] → new.offset ≡ (old.offset +ℤ pos 1) → pos 0 ≤ℤ value_of a f → value_of a f ≤ℤ pos 1 → count_at new a ≡ (count_at old a +ℤ bit (int_eq (value_of a f) (pos 0)))
less_more old new f a e o low high =
    ap (λ (ts : List (ℤ × ℕ)). sum_at ts a +ℤ new.offset) e
    ∙ ap (λ (z : ℤ). z +ℤ new.offset) (sum_more old.terms.items (negsuc 0, f) a)
    ∙ ap (λ (z : ℤ). (sum_at old.terms.items a +ℤ (negsuc 0 *ℤ value_of a f)) +ℤ z) o
    ∙ last_three (sum_at old.terms.items a) old.offset (negsuc 0 *ℤ value_of a f) (bit (int_eq (value_of a f) (pos 0))) (less_value (value_of a f) low high)

-- ---- how large its numbers are

abs_more : (o : ℤ) → unsigned_abs (o +ℤ pos 1) ≤ unsigned_abs o + 1
abs_more o = grind (arith, ints)

pub one_few : (boxes : Boxes) (n f : ℕ) (old new : Count) → f < length boxes → IsValid (box_of boxes f) → LiesWithin (pos 0) (pos 1) (box_of boxes f) → new.terms.items ≡ old.terms.items ++ (pos 1, f) ∷ [] → new.offset ≡ old.offset → IsCount boxes n old → IsCount boxes (n + 2) new
one_few boxes n f old new lt valid lies e o h = record {
  exist = subst (λ (ts : List (ℤ × ℕ)). All (λ t. t.1 < length boxes) ts) (sym e) (All-push (λ (t : ℤ × ℕ). t.1 < length boxes) old.terms.items (pos 1, f) h.exist lt);
  short = let size = ap (λ (ts : List (ℤ × ℕ)). length ts) e ∙ length-append old.terms.items ((pos 1, f) ∷ []) in omega (arith, size, h.short);
  few =
      let w = ap (λ (ts : List (ℤ × ℕ)). weight_of ts boxes) e ∙ weight_more old.terms.items (pos 1, f) boxes in
      let one = one_weight f boxes valid lies in
      let off = ap unsigned_abs o in
      omega (arith, w, one, off, h.few);
}

pub less_few : (boxes : Boxes) (n f : ℕ) (old new : Count) → f < length boxes → IsValid (box_of boxes f) → LiesWithin (pos 0) (pos 1) (box_of boxes f) → new.terms.items ≡ old.terms.items ++ (negsuc 0, f) ∷ [] → new.offset ≡ (old.offset +ℤ pos 1) → IsCount boxes n old → IsCount boxes (n + 2) new
less_few boxes n f old new lt valid lies e o h = record {
  exist = subst (λ (ts : List (ℤ × ℕ)). All (λ t. t.1 < length boxes) ts) (sym e) (All-push (λ (t : ℤ × ℕ). t.1 < length boxes) old.terms.items (negsuc 0, f) h.exist lt);
  short = let size = ap (λ (ts : List (ℤ × ℕ)). length ts) e ∙ length-append old.terms.items ((negsuc 0, f) ∷ []) in omega (arith, size, h.short);
  few =
      let w = ap (λ (ts : List (ℤ × ℕ)). weight_of ts boxes) e ∙ weight_more old.terms.items (negsuc 0, f) boxes in
      let one = less_weight f boxes valid lies in
      let off = ap unsigned_abs o in
      let more = abs_more old.offset in
      omega (arith, w, one, off, more, h.few);
}

-- ---- as the problem grows

pub count_kept : (old new : Ground) (n : ℕ) (c : Count) → Grows old new → IsCount old.domains n c → IsCount new.domains n c
count_kept old new n c g h = record {
  exist = λ k d lt. let more = no_less old new g in let there = h.exist k d lt in omega (arith, more, there);
  short = h.short;
  few = let w = weight_kept old new c.terms.items g h.exist in omega (arith, w, h.few);
}

pub count_wider : (boxes : Boxes) (m n : ℕ) (c : Count) → m ≤ n → IsCount boxes m c → IsCount boxes n c
count_wider boxes m n c le h = record { exist = h.exist; short = omega (arith, le, h.short); few = omega (arith, le, h.few) }

-- ---- a truth of the part's flag

-- a part's flag is 0 or 1
pub part_value : (g : Ground) (p : ℕ × Bool) (says : List ℤ → Bool) (a : List ℤ) → All (λ d. IsValid d) g.domains → IsPartOf g p says → IsWorld g a → (pos 0 ≤ℤ value_of a p.0) × (value_of a p.0 ≤ℤ pos 1)
part_value g p says a valid h w = flag_value (box_of g.domains p.0) (value_of a p.0) (valid p.0 [] h.exists) h.flag (w.within p.0 h.exists)

pub fixed_more : (old new : Count) (b : Bool) (a : List ℤ) → new.terms.items ≡ old.terms.items → new.offset ≡ (old.offset +ℤ bit b) → count_at new a ≡ (count_at old a +ℤ bit b)
fixed_more old new b a e o =
    ap (λ (ts : List (ℤ × ℕ)). sum_at ts a +ℤ new.offset) e
    ∙ ap (λ (z : ℤ). sum_at old.terms.items a +ℤ z) o
    ∙ group (sum_at old.terms.items a) old.offset (bit b)

abs_bit : (o : ℤ) (b : Bool) → unsigned_abs (o +ℤ bit b) ≤ unsigned_abs o + 1
abs_bit o true = abs_more o
abs_bit o false = grind (arith, ints)

pub fixed_few : (boxes : Boxes) (n : ℕ) (old new : Count) (b : Bool) → new.terms.items ≡ old.terms.items → new.offset ≡ (old.offset +ℤ bit b) → IsCount boxes n old → IsCount boxes (n + 2) new
fixed_few boxes n old new b e o h = record {
  exist = subst (λ (ts : List (ℤ × ℕ)). All (λ t. t.1 < length boxes) ts) (sym e) h.exist;
  short = let size = ap (λ (ts : List (ℤ × ℕ)). length ts) e in omega (arith, size, h.short);
  few =
      let w = ap (λ (ts : List (ℤ × ℕ)). weight_of ts boxes) e in
      let off = ap unsigned_abs o in
      let more = abs_bit old.offset b in
      omega (arith, w, off, more, h.few);
}
