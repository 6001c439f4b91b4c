-- Rows hold exactly where what they pack fits.
use Rattle.std.proofs.Common.{◌≡◌, ℕ, zero, suc, get_or, Bool, true, false, ◌&&◌, ◌||◌, cond, List, [], ◌∷◌, ℤ, pos, negsuc, ◌+ℤ◌, ◌-ℤ◌, ◌≤ℤ◌, ◌<ℤ◌, int_le, refl, sym, ap, ◌∙◌, arith}
use Rattle.std.specs.List.{All}
use Rattle.std.specs.Ordering.{int_eq}
use Rattle.std.proofs.lemmas.Int.{ints}
use Rattle.std.proofs.lemmas.Bool.{and_parts}
use Rattle.std.proofs.lemmas.List.Elements.{All-head, All-tail, All-weaker}
use Rattle.signed_clause.specs.Clauses.{Boxes}
use Rattle.ground_form.specs.declared.ground.Ground.{Ground}
use Rattle.ground_form.specs.Meaning.{value_of, load_at, rooms_hold}
use Rattle.form_build.specs.Worlds.{IsInBoxes, IsWorld, Grows}
use Rattle.form_build.proofs.Growth.{world_before}
use Rattle.packed_rows.specs.declared.row.Row.{Row}
use Rattle.packed_rows.specs.Loads.{load_of, row_holds, rows_hold}
use Rattle.packed_rows.specs.Plans.{is_bin, IsRowOf, AscendAbove, IsItem, IsPlan, filling, ArePacked}

-- ---- truths

same_truth : (p q : Bool) → (p ≡ true → q ≡ true) → (q ≡ true → p ≡ true) → p ≡ q
same_truth true q f g = sym (f refl)
same_truth false true f g = g refl
same_truth false false f g = refl

at_most : (m n : ℤ) → int_le m n ≡ true → m ≤ℤ n
at_most m n e = grind (arith, ints)

is_at_most : (m n : ℤ) → m ≤ℤ n → int_le m n ≡ true
is_at_most m n h = grind (arith, ints)

both : (p q : Bool) → p ≡ true → q ≡ true → (p && q) ≡ true
both p q e f = grind arith

-- ---- fillings

differ : (v w : ℤ) → v <ℤ w → int_eq w v ≡ false
differ v w h = grind (arith, ints)

itself : (v : ℤ) → int_eq v v ≡ true
itself v = grind (arith, ints)

below : (v w : ℤ) (rows : List Row) → w ≤ℤ v → AscendAbove v rows → AscendAbove w rows
below v w [] le h = h
below v w (r ∷ rows) le h = (omega (arith, ints, le, h.0), h.1)

-- no bin above v is v
none_filled : (most v : ℤ) (rows : List Row) → AscendAbove v rows → filling most v rows ≡ pos 0
none_filled most v [] h = refl
none_filled most v (r ∷ rows) h =
    ap (λ (b : Bool). cond b ((most -ℤ r.room) +ℤ filling most v rows) (filling most v rows)) (differ v r.bin h.0)
    ∙ none_filled most v rows (below r.bin v rows (omega (arith, ints, h.0)) h.1)

head_filled : (most v : ℤ) (r : Row) (rows : List Row) → AscendAbove v (r ∷ rows) → filling most r.bin (r ∷ rows) ≡ (most -ℤ r.room)
head_filled most v r rows h =
    ap (λ (b : Bool). cond b ((most -ℤ r.room) +ℤ filling most r.bin rows) (filling most r.bin rows)) (itself r.bin)
    ∙ plus_none (most -ℤ r.room) (filling most r.bin rows) (none_filled most r.bin rows h.1)
  where
    plus_none : (m n : ℤ) → n ≡ pos 0 → (m +ℤ n) ≡ m
    plus_none m n e = omega (arith, ints, e)

cons_all : {X : Type 0} (P : X → Type 0) (x : X) (xs : List X) → P x → All P xs → All P (x ∷ xs)
cons_all P x xs p h zero d lt = p
cons_all P x xs p h (suc k) d lt = h k d (omega (arith, lt))

none_all : {X : Type 0} (P : X → Type 0) → All P []
none_all P k d lt = absurd (omega (arith, lt))

above_all : (v : ℤ) (rows : List Row) → AscendAbove v rows → All (λ (q : Row). v <ℤ q.bin) rows
above_all v [] h = none_all (λ (q : Row). v <ℤ q.bin)
above_all v (q ∷ rows) h =
    cons_all (λ (p : Row). v <ℤ p.bin) q rows h.0
    (All-weaker (λ (p : Row). q.bin <ℤ p.bin) (λ (p : Row). v <ℤ p.bin) (λ p lt. omega (arith, ints, h.0, lt)) rows (above_all q.bin rows h.1))

-- a later row isn't at the first one's bin
skips : (most v : ℤ) (q : Row) (rows : List Row) → q.bin <ℤ v → filling most v (q ∷ rows) ≡ filling most v rows
skips most v q rows lt = ap (λ (b : Bool). cond b ((most -ℤ q.room) +ℤ filling most v rows) (filling most v rows)) (apart q.bin v lt)
  where
    apart : (v w : ℤ) → v <ℤ w → int_eq v w ≡ false
    apart v w h = grind (arith, ints)

-- what fills each row's bin is what its room lacks
pub all_filled : (most v : ℤ) (rows : List Row) → AscendAbove v rows → All (λ (r : Row). filling most r.bin rows ≡ (most -ℤ r.room)) rows
all_filled most v [] h = none_all (λ (r : Row). filling most r.bin [] ≡ (most -ℤ r.room))
all_filled most v (q ∷ rows) h =
    let rest = all_filled most q.bin rows h.1 in
    let later = above_all q.bin rows h.1 in
    cons_all (λ (r : Row). filling most r.bin (q ∷ rows) ≡ (most -ℤ r.room)) q rows (head_filled most v q rows h)
    (λ k d lt. skips most (get_or rows k d).bin q rows (later k d lt) ∙ rest k d lt)

-- ---- loads

other_bin : (v bin most : ℤ) (all : List (ℕ × ℕ × ℕ)) (a : List ℤ) → int_le (load_at v all a) most ≡ true → int_le (load_at bin all a) most ≡ false → int_eq v bin ≡ false
other_bin v bin most all a low high = cases (int_eq v bin) refl
  where
    equal : int_eq v bin ≡ true → v ≡ bin
    equal e = grind (arith, ints)

    apart : true ≡ false → ⊥
    apart e = grind arith

    cases : (b : Bool) → int_eq v bin ≡ b → b ≡ false
    cases false e = refl
    cases true e = absurd (apart (sym low ∙ ap (λ (z : ℤ). int_le (load_at z all a) most) (equal e) ∙ high))

-- where the rooms hold, nothing is in a bin that has too much
nothing_there : (bin most : ℤ) (all rest : List (ℕ × ℕ × ℕ)) (a : List ℤ) → rooms_hold all rest a ≡ true → All (λ (p : ℕ × ℕ × ℕ). value_of a p.2 ≡ most) rest → int_le (load_at bin all a) most ≡ false → load_at bin rest a ≡ pos 0
nothing_there bin most all [] a h rooms over = refl
nothing_there bin most all (p ∷ rest) a h rooms over =
    let parts = and_parts (int_le (load_at (value_of a p.0) all a) (value_of a p.2)) (rooms_hold all rest a) h in
    let room = All-head (λ (q : ℕ × ℕ × ℕ). value_of a q.2 ≡ most) p rest rooms in
    let low : int_le (load_at (value_of a p.0) all a) most ≡ true = ap (λ (z : ℤ). int_le (load_at (value_of a p.0) all a) z) (sym room) ∙ parts.0 in
    ap (λ (b : Bool). cond b (value_of a p.1 +ℤ load_at bin rest a) (load_at bin rest a)) (other_bin (value_of a p.0) bin most all a low over)
    ∙ nothing_there bin most all rest a parts.1 (All-tail (λ (q : ℕ × ℕ × ℕ). value_of a q.2 ≡ most) p rest rooms) over

-- so each bin has at most the greatest room
fits_everywhere : (bin most : ℤ) (packed : List (ℕ × ℕ × ℕ)) (a : List ℤ) → pos 0 ≤ℤ most → rooms_hold packed packed a ≡ true → All (λ (p : ℕ × ℕ × ℕ). value_of a p.2 ≡ most) packed → load_at bin packed a ≤ℤ most
fits_everywhere bin most packed a low h rooms = at_most (load_at bin packed a) most (cases (int_le (load_at bin packed a) most) refl)
  where
    apart : true ≡ false → ⊥
    apart e = grind arith

    cases : (b : Bool) → int_le (load_at bin packed a) most ≡ b → b ≡ true
    cases true e = refl
    cases false e = absurd (apart (sym (is_at_most (pos 0) most low) ∙ ap (λ (z : ℤ). int_le z most) (sym (nothing_there bin most packed packed a h rooms e)) ∙ e))

-- and where each has, the rooms hold
rooms_from : (most : ℤ) (all rest : List (ℕ × ℕ × ℕ)) (a : List ℤ) → All (λ (p : ℕ × ℕ × ℕ). load_at (value_of a p.0) all a ≤ℤ most) rest → All (λ (p : ℕ × ℕ × ℕ). value_of a p.2 ≡ most) rest → rooms_hold all rest a ≡ true
rooms_from most all [] a h rooms = refl
rooms_from most all (p ∷ rest) a h rooms =
    both (int_le (load_at (value_of a p.0) all a) (value_of a p.2)) (rooms_hold all rest a)
    (ap (λ (z : ℤ). int_le (load_at (value_of a p.0) all a) z) (All-head (λ (q : ℕ × ℕ × ℕ). value_of a q.2 ≡ most) p rest rooms)
    ∙ is_at_most (load_at (value_of a p.0) all a) most (All-head (λ (q : ℕ × ℕ × ℕ). load_at (value_of a q.0) all a ≤ℤ most) p rest h))
    (rooms_from most all rest a (All-tail (λ (q : ℕ × ℕ × ℕ). load_at (value_of a q.0) all a ≤ℤ most) p rest h) (All-tail (λ (q : ℕ × ℕ × ℕ). value_of a q.2 ≡ most) p rest rooms))

-- ---- rows

-- what holds of each row's bin holds of each bin
of_bins : (test : ℤ → Bool) (rows : List Row) (v : ℤ) → All (λ (r : Row). test r.bin ≡ true) rows → is_bin rows v ≡ true → test v ≡ true
of_bins test [] v h e = absurd (apart e)
  where
    apart : false ≡ true → ⊥
    apart e = grind arith
of_bins test (r ∷ rows) v h e = cases (int_eq r.bin v) refl (of_bins test rows v (All-tail (λ (q : Row). test q.bin ≡ true) r rows h))
  where
    equal : int_eq r.bin v ≡ true → r.bin ≡ v
    equal d = grind (arith, ints)

    cases : (b : Bool) → int_eq r.bin v ≡ b → (is_bin rows v ≡ true → test v ≡ true) → test v ≡ true
    cases true d rest = ap test (sym (equal d)) ∙ All-head (λ (q : Row). test q.bin ≡ true) r rows h
    cases false d rest = rest (sym (ap (λ (b : Bool). b || is_bin rows v) d) ∙ e)

-- what is known of a packing at values of its variables
record IsAt (boxes : Boxes) (rows : List Row) (items : List (ℕ × ℤ)) (most : ℤ) (packed : List (ℕ × ℕ × ℕ)) (a : List ℤ) : Type 0 where
  plan : IsPlan boxes rows items most
  load : (bin : ℤ) → load_at bin packed a ≡ (load_of bin items a +ℤ filling most bin rows)
  at_bins : All (λ (p : ℕ × ℕ × ℕ). is_bin rows (value_of a p.0) ≡ true) packed
  rooms : All (λ (p : ℕ × ℕ × ℕ). value_of a p.2 ≡ most) packed
  within : IsInBoxes boxes a

row_from : (boxes : Boxes) (rows : List Row) (items : List (ℕ × ℤ)) (most : ℤ) (packed : List (ℕ × ℕ × ℕ)) (a : List ℤ) (r : Row) → IsAt boxes rows items most packed a → IsRowOf boxes items most r → filling most r.bin rows ≡ (most -ℤ r.room) → load_at r.bin packed a ≤ℤ most → row_holds a r ≡ true
row_from boxes rows items most packed a r h is fills le =
    let all = h.load r.bin in
    let own = is.same a h.within in
    is_at_most (load_of r.bin r.loads.items a) r.room (omega (arith, ints, all, own, fills, le))

load_from : (boxes : Boxes) (rows : List Row) (items : List (ℕ × ℤ)) (most : ℤ) (packed : List (ℕ × ℕ × ℕ)) (a : List ℤ) (r : Row) → IsAt boxes rows items most packed a → IsRowOf boxes items most r → filling most r.bin rows ≡ (most -ℤ r.room) → row_holds a r ≡ true → int_le (load_at r.bin packed a) most ≡ true
load_from boxes rows items most packed a r h is fills e =
    let all = h.load r.bin in
    let own = is.same a h.within in
    let low = at_most (load_of r.bin r.loads.items a) r.room e in
    is_at_most (load_at r.bin packed a) most (omega (arith, ints, all, own, fills, low))

all_hold : (rows : List Row) (a : List ℤ) → All (λ r. row_holds a r ≡ true) rows → rows_hold rows a ≡ true
all_hold [] a h = refl
all_hold (r ∷ rows) a h = both (row_holds a r) (rows_hold rows a) (All-head (λ q. row_holds a q ≡ true) r rows h) (all_hold rows a (All-tail (λ q. row_holds a q ≡ true) r rows h))

each_holds : (rows : List Row) (a : List ℤ) → rows_hold rows a ≡ true → All (λ r. row_holds a r ≡ true) rows
each_holds [] a e = none_all (λ r. row_holds a r ≡ true)
each_holds (r ∷ rows) a e =
    let parts = and_parts (row_holds a r) (rows_hold rows a) e in
    cons_all (λ q. row_holds a q ≡ true) r rows parts.0 (each_holds rows a parts.1)

says_at : (boxes : Boxes) (rows : List Row) (items : List (ℕ × ℤ)) (most : ℤ) (packed : List (ℕ × ℕ × ℕ)) (a : List ℤ) → IsAt boxes rows items most packed a → rooms_hold packed packed a ≡ rows_hold rows a
says_at boxes rows items most packed a h =
    let fills = all_filled most (negsuc 0) rows h.plan.ascend in
    same_truth (rooms_hold packed packed a) (rows_hold rows a)
    (λ e. all_hold rows a (λ k d lt. row_from boxes rows items most packed a (get_or rows k d) h (h.plan.rows_are k d lt) (fills k d lt) (fits_everywhere (get_or rows k d).bin most packed a h.plan.low e h.rooms)))
    (λ e.
    let each = each_holds rows a e in
    let loads : All (λ (r : Row). int_le (load_at r.bin packed a) most ≡ true) rows = λ k d lt. load_from boxes rows items most packed a (get_or rows k d) h (h.plan.rows_are k d lt) (fills k d lt) (each k d lt) in
    rooms_from most packed packed a
    (λ k d lt. at_most (load_at (value_of a (get_or packed k d).0) packed a) most (of_bins (λ v. int_le (load_at v packed a) most) rows (value_of a (get_or packed k d).0) loads (h.at_bins k d lt)))
    h.rooms)

itself_bin : (r : Row) (rows : List Row) → is_bin (r ∷ rows) r.bin ≡ true
itself_bin r rows = ap (λ (b : Bool). b || is_bin rows r.bin) (itself r.bin)

later_bin : (q : Row) (rows : List Row) (v : ℤ) → is_bin rows v ≡ true → is_bin (q ∷ rows) v ≡ true
later_bin q rows v e = or_right (int_eq q.bin v) (is_bin rows v) e
  where
    or_right : (p q : Bool) → q ≡ true → (p || q) ≡ true
    or_right p q e = grind arith

own_bins : (rows : List Row) → All (λ (r : Row). is_bin rows r.bin ≡ true) rows
own_bins [] = none_all (λ (r : Row). is_bin [] r.bin ≡ true)
own_bins (r ∷ rows) =
    let rest = own_bins rows in
    cons_all (λ (q : Row). is_bin (r ∷ rows) q.bin ≡ true) r rows (itself_bin r rows) (λ k d lt. later_bin r rows (get_or rows k d).bin (rest k d lt))

-- rows that are a packing hold exactly where what was packed fits
pub packing_says : (old new : Ground) (rows : List Row) (items : List (ℕ × ℤ)) (most : ℤ) (packed : List (ℕ × ℕ × ℕ)) (a : List ℤ) → Grows old new → IsPlan old.domains rows items most → ArePacked new items rows most packed → IsWorld new a → rooms_hold packed packed a ≡ rows_hold rows a
packing_says old new rows items most packed a g plan h w =
    let within = (world_before old new a g w).within in
    says_at old.domains rows items most packed a (record {
      plan = plan;
      load = h.load a w;
      at_bins =
          h.at_bins (is_bin rows) a w
          (All-weaker (IsItem old.domains rows) (λ (i : ℕ × ℤ). is_bin rows (value_of a i.0) ≡ true) (λ i is. is.at_bins (value_of a i.0) (within i.0 is.exists)) items plan.items_are)
          (own_bins rows);
      rooms = h.rooms a w;
      within = within;
    })
