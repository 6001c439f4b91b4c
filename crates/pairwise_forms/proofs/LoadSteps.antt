-- Items made of parts one after the other, what counts at their places, and the walks over them.
use Rattle.std.proofs.Common.{◌≡◌, ℕ, zero, suc, ◌+◌, ◌^◌, ◌<◌, ◌≤◌, Bool, true, false, not, ◌&&◌, ◌||◌, List, [], ◌∷◌, ◌++◌, take, get_or, map, ℤ, pos, negsuc, neg_ℤ, ◌+ℤ◌, ◌-ℤ◌, ◌*ℤ◌, int_le, length, refl, sym, ap, ◌∙◌, subst, arith}
use Rattle.std.specs.Prelude.{slice_index_or}
use Rattle.std.specs.List.{All, list_any}
use Rattle.std.specs.Int.{int_max, int_min}
use Rattle.std.proofs.lemmas.Int.{ints, clamps}
use Rattle.std.proofs.lemmas.List.{take_all, take_more, map-append, length-map}
use Rattle.std.proofs.lemmas.List.Elements.{All-nil, All-push, All-weaker, All-head, All-map}
use Rattle.std.proofs.lemmas.List.Folds.{list_any_more}
use Rattle.signed_clause.specs.Clauses.{Boxes}
use Rattle.ground_form.specs.declared.ground.Ground.{Ground}
use Rattle.ground_form.specs.Meaning.{value_of}
use Rattle.form_build.specs.declared.form.Linear.{Linear}
use Rattle.form_build.specs.declared.form.Truth.{Truth}
use Rattle.form_build.specs.Forms.{linear_at, truth_at, HasVariable}
use Rattle.form_build.specs.Sums.{IsLinear, IsSum, AreNumbersWithin, least_linear, greatest_linear}
use Rattle.form_build.specs.Worlds.{Grows}
use Rattle.form_build.proofs.Growth.{world_before, no_less}
use Rattle.form_build.proofs.Keeping.{linear_kept, sum_kept}
use Rattle.form_build.proofs.Linears.{numbers_within, minus_one, sum_wider}
use Rattle.conf_limits.specs.Measures.{many, is_narrow}
use Rattle.conf_syntax.specs.declared.tree.QuantKind.{QuantKind}
use Rattle.conf_eval.specs.declared.value.Value.TheVariants.{Int}
use Rattle.conf_eval.specs.Meaning.{int_of, first_of, total}
use Rattle.expr_forms.specs.declared.form.Form.{Form}
use Rattle.expr_forms.specs.FormValues.{number_part}
use Rattle.expr_forms.proofs.PartValues.{number_part_at}
use Rattle.quantifier_forms.specs.declared.part.Part.{Part}
use Rattle.quantifier_forms.specs.PartValues.{form_values, body_values}
use Rattle.quantifier_forms.specs.Quantified.{IsNarrow, AreParts}
use Rattle.quantifier_forms.specs.Totals.{AreSummands}
use Rattle.quantifier_forms.proofs.Narrowness.{near_ends, first_narrow}
use Rattle.quantifier_forms.proofs.PartsKept.{variable_kept}
use Rattle.pairwise_forms.specs.declared.members.Packed.{Packed}
use Rattle.pairwise_forms.specs.AlikeParts.{first_form, second_number, third_number, AreAlike, AreSizes}
use Rattle.pairwise_forms.specs.KeyValues.{key, IsKeyOf}
use Rattle.pairwise_forms.specs.Packing.{size_there, load_there, is_overfull, IsPacked, Seen, seen_item, seen_part, HasItemPart, AreItems, AreNarrow}
use Rattle.pairwise_forms.proofs.KeyLaws.{first_value, first_has_key}
use Rattle.pairwise_forms.proofs.KeptParts.{has_key_kept}

-- ---- the numbers of a part

second_at : (fs : List Form) (a : List ℤ) → linear_at (second_number fs) a ≡ int_of (slice_index_or (form_values fs a) 1 (Int (pos 0)))
second_at [] a = omega (arith, ints)
second_at (f ∷ []) a = omega (arith, ints)
second_at (f ∷ g ∷ fs) a = number_part_at g a

third_at : (fs : List Form) (a : List ℤ) → linear_at (third_number fs) a ≡ int_of (slice_index_or (form_values fs a) 2 (Int (pos 0)))
third_at [] a = omega (arith, ints)
third_at (f ∷ []) a = omega (arith, ints)
third_at (f ∷ g ∷ []) a = omega (arith, ints)
third_at (f ∷ g ∷ h ∷ fs) a = number_part_at h a

no_number : (boxes : Boxes) → IsLinear (2 ^ 58) boxes (record { terms = []; offset = pos 0 })
no_number boxes = record { terms = tt; bounded = omega arith }

third_linear : (boxes : Boxes) (fs : List Form) → All (λ f. IsLinear (2 ^ 58) boxes (number_part f)) fs → IsLinear (2 ^ 58) boxes (third_number fs)
third_linear boxes [] h = no_number boxes
third_linear boxes (f ∷ []) h = no_number boxes
third_linear boxes (f ∷ g ∷ []) h = no_number boxes
third_linear boxes (f ∷ g ∷ k ∷ fs) h = h 2 k (omega arith)

-- ---- parts

item_part_kept : (old new : Ground) (p : Part) → Grows old new → HasItemPart old.domains p → HasItemPart new.domains p
item_part_kept old new p g h = record {
  kept = variable_kept old new g p.kept h.kept;
  first = has_key_kept old new (first_form p.bodies.items) g h.first;
  size = linear_kept (2 ^ 58) old new (second_number p.bodies.items) g h.size;
  room = linear_kept (2 ^ 58) old new (third_number p.bodies.items) g h.room;
}

pub item_parts_kept : (old new : Ground) (ps : List Part) → Grows old new → All (HasItemPart old.domains) ps → All (HasItemPart new.domains) ps
item_parts_kept old new ps g h = All-weaker (HasItemPart old.domains) (HasItemPart new.domains) (λ p k. item_part_kept old new p g k) ps h

-- a variable can be the place of each part, and its numbers are in good order
pub item_parts : (g : Ground) (q : QuantKind) (ps : List Part) → AreParts g.domains q ps → AreAlike g.domains ps → AreSizes g.domains ps → All (HasItemPart g.domains) ps
item_parts g q ps h alike sizes k d lt =
    let part = h.parts k d lt in
    let size = sizes.sizes k d lt in
    record {
      kept = part.truths.kept;
      first = first_has_key alike.outline g.domains alike.type _ (alike.typed k d lt) part.truths.bodies part.numbers;
      size = size.linear;
      room = third_linear g.domains _ part.numbers;
    }

-- ---- items

abbrev seen_as : Bool → ℤ → ℤ → ℤ → Seen
seen_as k p s r = record { kept = k; place = p; size = s; room = r }

seen_same : (k l : Bool) (p q s t r u : ℤ) → k ≡ l → p ≡ q → s ≡ t → r ≡ u → seen_as k p s r ≡ seen_as l q t u
seen_same k l p q s t r u e f g h =
    ap (λ (z : Bool). seen_as z p s r) e
    ∙ ap (λ (z : ℤ). seen_as l z s r) f
    ∙ ap (λ (z : ℤ). seen_as l q z r) g
    ∙ ap (λ (z : ℤ). seen_as l q t z) h

pub no_items : (g : Ground) → AreItems g [] []
no_items g = record { exist = λ k d lt. absurd (omega (arith, lt)); kept = refl; sizes = refl; seen = λ a w. refl }

packed_kept : (old new : Ground) (e : Packed) → Grows old new → IsPacked old.domains e → IsPacked new.domains e
packed_kept old new e g h =
    let less = no_less old new g in
    record {
      kept = variable_kept old new g e.kept h.kept;
      exists = omega (arith, h.exists, less);
      size = linear_kept (2 ^ 58) old new e.size g h.size;
      room = linear_kept (2 ^ 58) old new e.room g h.room;
    }

pub item_kept : (old new : Ground) (e : Packed) → Grows old new → IsPacked old.domains e → IsPacked new.domains e
item_kept old new e g h = packed_kept old new e g h

pub items_kept : (old new : Ground) (es : List Packed) → Grows old new → All (IsPacked old.domains) es → All (IsPacked new.domains) es
items_kept old new es g h = All-weaker (IsPacked old.domains) (IsPacked new.domains) (λ e k. packed_kept old new e g k) es h

pub items_more : (old new : Ground) (ps : List Part) (k : ℕ) (p : Part) (es more : List Packed) (e : Packed) → Grows old new → k < length ps → p ≡ get_or ps k p → more ≡ es ++ e ∷ [] → AreItems new (p ∷ []) (e ∷ []) → AreItems old (take k ps) es → AreItems new (take (k + 1) ps) more
items_more old new ps k p es more e g lt is made one h =
    let next : take (k + 1) ps ≡ take k ps ++ p ∷ [] = take_more ps k p lt ∙ ap (λ (q : Part). take k ps ++ q ∷ []) (sym is) in
    record {
      exist =
          subst (All (IsPacked new.domains)) (sym made)
          (All-push (IsPacked new.domains) es e (items_kept old new es g h.exist) (All-head (IsPacked new.domains) e [] one.exist));
      kept =
          ap (map (λ (f : Packed). f.kept)) made
          ∙ map-append (λ (f : Packed). f.kept) es (e ∷ [])
          ∙ ap (λ (ts : List Truth). ts ++ e.kept ∷ []) h.kept
          ∙ ap (λ (ts : List Truth). map (λ (q : Part). q.kept) (take k ps) ++ ts) one.kept
          ∙ sym (map-append (λ (q : Part). q.kept) (take k ps) (p ∷ []))
          ∙ ap (map (λ (q : Part). q.kept)) (sym next);
      sizes =
          ap (map (λ (f : Packed). f.size)) made
          ∙ map-append (λ (f : Packed). f.size) es (e ∷ [])
          ∙ ap (λ (ss : List Linear). ss ++ e.size ∷ []) h.sizes
          ∙ ap (λ (ss : List Linear). map (λ (q : Part). second_number q.bodies.items) (take k ps) ++ ss) one.sizes
          ∙ sym (map-append (λ (q : Part). second_number q.bodies.items) (take k ps) (p ∷ []))
          ∙ ap (map (λ (q : Part). second_number q.bodies.items)) (sym next);
      seen = λ a w.
          ap (map (λ (f : Packed). seen_item f a)) made
          ∙ map-append (λ (f : Packed). seen_item f a) es (e ∷ [])
          ∙ ap (λ (ss : List Seen). ss ++ seen_item e a ∷ []) (h.seen a (world_before old new a g w))
          ∙ ap (λ (ss : List Seen). map (λ (q : Part). seen_part q a) (take k ps) ++ ss) (one.seen a w)
          ∙ sym (map-append (λ (q : Part). seen_part q a) (take k ps) (p ∷ []))
          ∙ ap (map (λ (q : Part). seen_part q a)) (sym next);
    }

pub items_all : (g : Ground) (ps : List Part) (k : ℕ) (es : List Packed) → length ps ≤ k → AreItems g (take k ps) es → AreItems g ps es
items_all g ps k es le h = subst (λ (qs : List Part). AreItems g qs es) (take_all k ps le) h

pub item_is : (old new : Ground) (p : Part) (e : Packed) → Grows old new → HasItemPart old.domains p → e.kept ≡ p.kept → IsKeyOf new (first_form p.bodies.items) e.place → e.size ≡ second_number p.bodies.items → e.room ≡ third_number p.bodies.items → AreItems new (p ∷ []) (e ∷ [])
item_is old new p e g h same is size room =
    let there = item_part_kept old new p g h in
    record {
      exist = All-push (IsPacked new.domains) [] e (All-nil (IsPacked new.domains)) (record {
        kept = subst (HasVariable (length new.domains)) (sym same) there.kept;
        exists = is.exists;
        size = subst (IsLinear (2 ^ 58) new.domains) (sym size) there.size;
        room = subst (IsLinear (2 ^ 58) new.domains) (sym room) there.room;
      });
      kept = ap (λ (t : Truth). t ∷ []) same;
      sizes = ap (λ (f : Linear). f ∷ []) size;
      seen = λ a w.
          ap (λ (s : Seen). s ∷ [])
          (seen_same (truth_at e.kept a) (truth_at p.kept a) (value_of a e.place) (key (first_of (body_values p a)))
          (linear_at e.size a) (int_of (slice_index_or (body_values p a) 1 (Int (pos 0)))) (linear_at e.room a) (int_of (slice_index_or (body_values p a) 2 (Int (pos 0))))
          (ap (λ (t : Truth). truth_at t a) same)
          (is.value a w ∙ ap key (first_value p.bodies.items a))
          (ap (λ (f : Linear). linear_at f a) size ∙ second_at p.bodies.items a)
          (ap (λ (f : Linear). linear_at f a) room ∙ third_at p.bodies.items a));
    }

-- ---- sizes

size_lies : (boxes : Boxes) (low high : ℤ) (fs gs : List Linear) → fs ≡ gs → All (IsSum boxes low high) gs → All (IsSum boxes low high) fs
size_lies boxes low high fs gs e h = subst (All (IsSum boxes low high)) (sym e) h

pub mapped_back : {X Y : Type 0} (P : Y → Type 0) (f : X → Y) (xs : List X) → All P (map f xs) → All (λ x. P (f x)) xs
mapped_back P f [] h k d lt = absurd (omega (arith, lt))
mapped_back P f (x ∷ xs) h zero d lt = h 0 (f d) (omega arith)
mapped_back P f (x ∷ xs) h (suc k) d lt = mapped_back P f xs (λ j e l. h (suc j) e (omega (arith, l))) k d (omega (arith, lt))

-- the items' sizes are the parts'
pub narrow_items : (old new : Ground) (ps : List Part) (es : List Packed) → Grows old new → AreSizes old.domains ps → AreItems new ps es → AreNarrow new.domains es
narrow_items old new ps es g h items =
    let i = h.second in
    let kept : All (λ p. IsSum new.domains i.low i.high (second_number p.bodies.items)) ps =
    All-weaker (λ p. IsSum old.domains i.low i.high (second_number p.bodies.items)) (λ p. IsSum new.domains i.low i.high (second_number p.bodies.items))
    (λ p s. sum_kept i.low i.high old new (second_number p.bodies.items) g s) ps h.sizes in
    let count : length es ≡ length ps =
    sym (length-map es (λ (e : Packed). e.size)) ∙ ap length items.sizes ∙ length-map ps (λ (p : Part). second_number p.bodies.items) in
    record {
      second = i;
      sizes =
          mapped_back (IsSum new.domains i.low i.high) (λ (e : Packed). e.size) es
          (size_lies new.domains i.low i.high _ _ items.sizes (All-map (IsSum new.domains i.low i.high) (λ (p : Part). second_number p.bodies.items) ps kept));
      narrow = ap (λ (n : ℕ). is_narrow (many n i)) count ∙ h.narrow;
    }

pub narrow_kept : (old new : Ground) (es : List Packed) → Grows old new → AreNarrow old.domains es → AreNarrow new.domains es
narrow_kept old new es g h = record {
  second = h.second;
  sizes =
      All-weaker (λ e. IsSum old.domains h.second.low h.second.high e.size) (λ e. IsSum new.domains h.second.low h.second.high e.size)
      (λ e s. sum_kept h.second.low h.second.high old new e.size g s) es h.sizes;
  narrow = h.narrow;
}

-- each item's size is narrow
pub sizes_narrow : (boxes : Boxes) (es : List Packed) → AreNarrow boxes es → All (λ e. IsNarrow boxes e.size) es
sizes_narrow boxes es h k d lt = first_narrow boxes (length es) h.second _ (omega (arith, lt)) h.narrow (h.sizes k d lt)

-- what the items add can be added up
pub added_up : (old new : Boxes) (es : List Packed) (fs : List Linear) → AreNarrow old es → length fs ≡ length es → ((low high : ℤ) → All (λ e. IsSum old low high e.size) es → All (IsSum new (int_min low (pos 0)) (int_max high (pos 0))) fs) → AreSummands new fs
added_up old new es fs h same sums =
    let near = near_ends (many (length es) h.second) h.narrow in
    let low_same = ap (λ (n : ℕ). pos n *ℤ int_min h.second.low (pos 0)) same in
    let high_same = ap (λ (n : ℕ). pos n *ℤ int_max h.second.high (pos 0)) same in
    record {
      low = int_min h.second.low (pos 0);
      high = int_max h.second.high (pos 0);
      below = omega (arith, ints, clamps);
      above = omega (arith, ints, clamps);
      sums = sums h.second.low h.second.high h.sizes;
      narrow_low = omega (arith, ints, near.low_low, low_same);
      narrow_high = omega (arith, ints, near.high_high, high_same);
    }

-- what one item adds lies where its size does, or is 0
pub added_sum : (old mid new : Ground) (low high : ℤ) (f r : Linear) → Grows old mid → IsSum new.domains (int_min (least_linear f mid.domains) (pos 0)) (int_max (greatest_linear f mid.domains) (pos 0)) r → IsSum old.domains low high f → IsSum new.domains (int_min low (pos 0)) (int_max high (pos 0)) r
added_sum old mid new low high f r g s h =
    let there = sum_kept low high old mid f g h in
    sum_wider new.domains _ _ (int_min low (pos 0)) (int_max high (pos 0)) r
    (omega (arith, ints, clamps, there.lies.low_is))
    (omega (arith, ints, clamps, there.lies.high_is))
    s

pub narrow_size : (old mid : Ground) (f : Linear) → Grows old mid → IsNarrow old.domains f → IsNarrow mid.domains f
narrow_size old mid f g h = sum_kept (neg_ℤ (pos (2 ^ 50))) (pos (2 ^ 50)) old mid f g h

pub narrow_sizes : (old mid : Ground) (es : List Packed) → Grows old mid → All (λ e. IsNarrow old.domains e.size) es → All (λ e. IsNarrow mid.domains e.size) es
narrow_sizes old mid es g h = All-weaker (λ e. IsNarrow old.domains e.size) (λ e. IsNarrow mid.domains e.size) (λ e n. narrow_size old mid e.size g n) es h

-- the size of one item, after the problem grew
pub size_before : (old mid : Ground) (low high : ℤ) (es : List Packed) (k : ℕ) (e : Packed) → Grows old mid → k < length es → e ≡ get_or es k e → All (λ f. IsSum old.domains low high f.size) es → IsSum mid.domains low high e.size
size_before old mid low high es k e g lt is h =
    sum_kept low high old mid e.size g (subst (λ (f : Packed). IsSum old.domains low high f.size) (sym is) (h k e lt))

-- ---- what counts at a place

pub both_is : (s t d d' u : Bool) → d ≡ (not s || false) → d' ≡ (not t || d) → u ≡ not d' → u ≡ (s && t)
both_is s t d d' u e f g = g ∙ ap not (f ∙ ap (λ (b : Bool). not t || b) e) ∙ by s t
  where
    by : (s t : Bool) → not (not t || (not s || false)) ≡ (s && t)
    by true true = refl
    by true false = refl
    by false true = refl
    by false false = refl

pub added_more : (e : Packed) (es : List Packed) (k : ℕ) (f : Packed) (a : List ℤ) (fs gs : List Linear) (r : Linear) → k < length es → f ≡ get_or es k f → gs ≡ fs ++ r ∷ [] → map (λ (g : Linear). linear_at g a) fs ≡ map (λ (o : Packed). size_there e o a) (take k es) → linear_at r a ≡ size_there e f a → map (λ (g : Linear). linear_at g a) gs ≡ map (λ (o : Packed). size_there e o a) (take (k + 1) es)
added_more e es k f a fs gs r lt same made before is =
    ap (map (λ (g : Linear). linear_at g a)) made
    ∙ map-append (λ (g : Linear). linear_at g a) fs (r ∷ [])
    ∙ ap (λ (vs : List ℤ). vs ++ linear_at r a ∷ []) before
    ∙ ap (λ (v : ℤ). map (λ (o : Packed). size_there e o a) (take k es) ++ v ∷ []) is
    ∙ sym (map-append (λ (o : Packed). size_there e o a) (take k es) (f ∷ []))
    ∙ ap (map (λ (o : Packed). size_there e o a)) (ap (λ (o : Packed). take k es ++ o ∷ []) same ∙ sym (take_more es k f lt))

pub load_is : (e : Packed) (es : List Packed) (fs : List Linear) (a : List ℤ) (v : ℤ) → v ≡ total (map (λ (g : Linear). linear_at g a) fs) → map (λ (g : Linear). linear_at g a) fs ≡ map (λ (o : Packed). size_there e o a) es → v ≡ load_there e es a
load_is e es fs a v h is = h ∙ ap total is

-- ---- rooms

pub fits_times : (boxes : Boxes) (f : Linear) → IsLinear (2 ^ 58) boxes f → AreNumbersWithin 1 (2 ^ 62) f
fits_times boxes f h = numbers_within boxes (2 ^ 58) (2 ^ 62) f (omega arith) h

pub fits_plus : (boxes : Boxes) (n : ℕ) (f : Linear) → n ≤ 2 ^ 61 → IsLinear n boxes f → AreNumbersWithin 1 (2 ^ 61) f
fits_plus boxes n f lt h = numbers_within boxes n (2 ^ 61) f lt h

pub less_value : (f g less r : Linear) (a : List ℤ) → linear_at less a ≡ negsuc 0 *ℤ linear_at g a → linear_at r a ≡ linear_at f a +ℤ linear_at less a → linear_at r a ≡ linear_at f a -ℤ linear_at g a
less_value f g less r a e h =
    let m = minus_one (linear_at g a) in
    omega (arith, ints, e, h, m)

pub at_most_of : (v w d : ℤ) → d ≡ v -ℤ w → int_le d (pos 0) ≡ int_le v w
at_most_of v w d e = grind (arith, ints)

pub overfull_is : (kept fits d d' t : Bool) → d ≡ (not kept || false) → d' ≡ (fits || d) → t ≡ not d' → t ≡ (kept && not fits)
overfull_is kept fits d d' t e f g = g ∙ ap not (f ∙ ap (λ (b : Bool). fits || b) e) ∙ by kept fits
  where
    by : (kept fits : Bool) → not (fits || (not kept || false)) ≡ (kept && not fits)
    by true true = refl
    by true false = refl
    by false true = refl
    by false false = refl

or_swap : (p q : Bool) → (p || q) ≡ (q || p)
or_swap true true = refl
or_swap true false = refl
or_swap false true = refl
or_swap false false = refl

pub overfull_step : (all es : List Packed) (k : ℕ) (e : Packed) (a : List ℤ) (old new t : Bool) → k < length es → e ≡ get_or es k e → old ≡ list_any (λ o. is_overfull all o a) (take k es) → t ≡ is_overfull all e a → new ≡ (t || old) → new ≡ list_any (λ o. is_overfull all o a) (take (k + 1) es)
overfull_step all es k e a old new t lt same before is after =
    after
    ∙ or_swap t old
    ∙ ap (λ (b : Bool). b || t) before
    ∙ ap (λ (b : Bool). list_any (λ o. is_overfull all o a) (take k es) || b) (is ∙ ap (λ (o : Packed). is_overfull all o a) same)
    ∙ sym (list_any_more (λ o. is_overfull all o a) es k e lt)

pub overfull_all : (all es : List Packed) (k : ℕ) (a : List ℤ) (v : Bool) → length es ≤ k → v ≡ list_any (λ o. is_overfull all o a) (take k es) → v ≡ list_any (λ o. is_overfull all o a) es
overfull_all all es k a v le h = h ∙ ap (λ (z : List Packed). list_any (λ o. is_overfull all o a) z) (take_all k es le)
