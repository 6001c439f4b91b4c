-- Members that are all kept: their clashes and loads by their variables alone.
use Rattle.std.proofs.Common.{◌≡◌, ℕ, ◌+◌, ◌<◌, Bool, true, false, not, ◌&&◌, ◌||◌, cond, List, [], ◌∷◌, ◌++◌, take, get_or, map, ℤ, pos, ◌+ℤ◌, int_le, length, length-append, refl, sym, ap, ◌∙◌, subst, arith}
use Rattle.std.specs.List.{All, list_any}
use Rattle.std.specs.Ordering.{int_eq}
use Rattle.std.proofs.lemmas.Int.{ints}
use Rattle.std.proofs.lemmas.List.{take_more, map-append}
use Rattle.std.proofs.lemmas.List.Elements.{All-nil, All-push, All-weaker, All-head, All-tail, All-map}
use Rattle.ground_form.specs.declared.ground.Ground.{Ground}
use Rattle.ground_form.specs.Meaning.{value_of, lacks, all_differ, load_at, rooms_hold}
use Rattle.ground_build.specs.Growing.{AreItemVariables}
use Rattle.form_build.specs.declared.form.Truth.{Truth}
use Rattle.form_build.specs.declared.form.Truth.TheVariants as truth
use Rattle.form_build.specs.Forms.{linear_at, truth_at}
use Rattle.form_build.specs.Worlds.{IsWorld, Grows}
use Rattle.form_build.proofs.Growth.{world_before, no_less}
use Rattle.pairwise_forms.specs.declared.members.Keyed.{Keyed}
use Rattle.pairwise_forms.specs.declared.members.Packed.{Packed}
use Rattle.pairwise_forms.specs.Clashing.{clash_at, some_clash, IsKeyed}
use Rattle.pairwise_forms.specs.Packing.{load_there, is_overfull, some_overfull}
use Rattle.pairwise_forms.specs.Rows.{row_values, item_values, AreRows}

-- ---- clashes

turned : (v w : ℤ) → int_eq v w ≡ int_eq w v
turned v w = grind (arith, ints)

both_none : (p q : Bool) → (not p && not q) ≡ not (p || q)
both_none true q = refl
both_none false q = refl

sure : (t : Truth) (a : List ℤ) → t ≡ truth.Fixed true → truth_at t a ≡ true
sure t a e = ap (λ (u : Truth). truth_at u a) e

clash_sure : (e f : Keyed) (a : List ℤ) → e.kept ≡ truth.Fixed true → f.kept ≡ truth.Fixed true → clash_at e f a ≡ int_eq (value_of a f.key) (value_of a e.key)
clash_sure e f a h k =
    ap (λ (b : Bool). (b && truth_at f.kept a) && int_eq (value_of a e.key) (value_of a f.key)) (sure e.kept a h)
    ∙ ap (λ (b : Bool). b && int_eq (value_of a e.key) (value_of a f.key)) (sure f.kept a k)
    ∙ turned (value_of a e.key) (value_of a f.key)

lacks_none : (e : Keyed) (es : List Keyed) (a : List ℤ) → e.kept ≡ truth.Fixed true → All (λ f. f.kept ≡ truth.Fixed true) es → lacks (value_of a e.key) (map (λ (f : Keyed). f.key) es) a ≡ not (list_any (λ f. clash_at e f a) es)
lacks_none e [] a h all = refl
lacks_none e (f ∷ es) a h all =
    ap (λ (b : Bool). not b && lacks (value_of a e.key) (map (λ (o : Keyed). o.key) es) a) (sym (clash_sure e f a h (All-head (λ o. o.kept ≡ truth.Fixed true) f es all)))
    ∙ ap (λ (b : Bool). not (clash_at e f a) && b) (lacks_none e es a h (All-tail (λ o. o.kept ≡ truth.Fixed true) f es all))
    ∙ both_none (clash_at e f a) (list_any (λ o. clash_at e o a) es)

-- where all are kept none clashes exactly where the variables' values differ
keys_differ : (es : List Keyed) (a : List ℤ) → All (λ e. e.kept ≡ truth.Fixed true) es → all_differ (map (λ (e : Keyed). e.key) es) a ≡ not (some_clash es a)
keys_differ [] a all = refl
keys_differ (e ∷ es) a all =
    let rest = All-tail (λ o. o.kept ≡ truth.Fixed true) e es all in
    ap (λ (b : Bool). b && all_differ (map (λ (f : Keyed). f.key) es) a) (lacks_none e es a (All-head (λ o. o.kept ≡ truth.Fixed true) e es all) rest)
    ∙ ap (λ (b : Bool). not (list_any (λ f. clash_at e f a) es) && b) (keys_differ es a rest)
    ∙ both_none (list_any (λ f. clash_at e f a) es) (some_clash es a)

pub different_says : (es : List Keyed) (xs : List ℕ) (a : List ℤ) → All (λ e. e.kept ≡ truth.Fixed true) es → xs ≡ map (λ (e : Keyed). e.key) es → all_differ xs a ≡ not (some_clash es a)
different_says es xs a all e = ap (λ (z : List ℕ). all_differ z a) e ∙ keys_differ es a all

pub keys_exist : (n : ℕ) (es : List Keyed) (xs : List ℕ) → xs ≡ map (λ (e : Keyed). e.key) es → All (IsKeyed n) es → All (λ x. x < n) xs
keys_exist n es xs e h =
    subst (All (λ x. x < n)) (sym e)
    (All-map (λ x. x < n) (λ (k : Keyed). k.key) es (All-weaker (IsKeyed n) (λ k. k.key < n) (λ k i. i.exists) es h))

-- ---- loads

-- what is seen at a place
abbrev load_seen : ℤ → List (ℤ × ℤ × ℤ) → ℤ
load_seen place [] = pos 0
load_seen place (t ∷ ts) = cond (int_eq t.0 place) (t.1 +ℤ load_seen place ts) (load_seen place ts)

abbrev fit_seen : List (ℤ × ℤ × ℤ) → List (ℤ × ℤ × ℤ) → Bool
fit_seen all [] = true
fit_seen all (t ∷ ts) = int_le (load_seen t.0 all) t.2 && fit_seen all ts

load_rows : (place : ℤ) (rows : List (ℕ × ℕ × ℕ)) (a : List ℤ) → load_at place rows a ≡ load_seen place (map (λ (r : ℕ × ℕ × ℕ). row_values r a) rows)
load_rows place [] a = refl
load_rows place (r ∷ rows) a = ap (λ (v : ℤ). cond (int_eq (value_of a r.0) place) (value_of a r.1 +ℤ v) v) (load_rows place rows a)

fit_rows : (all rows : List (ℕ × ℕ × ℕ)) (a : List ℤ) → rooms_hold all rows a ≡ fit_seen (map (λ (r : ℕ × ℕ × ℕ). row_values r a) all) (map (λ (r : ℕ × ℕ × ℕ). row_values r a) rows)
fit_rows all [] a = refl
fit_rows all (r ∷ rows) a =
    ap (λ (v : ℤ). int_le v (value_of a r.2) && rooms_hold all rows a) (load_rows (value_of a r.0) all a)
    ∙ ap (λ (b : Bool). int_le (load_seen (value_of a r.0) (map (λ (q : ℕ × ℕ × ℕ). row_values q a) all)) (value_of a r.2) && b) (fit_rows all rows a)

load_step : (b c : Bool) (n r s : ℤ) → b ≡ c → r ≡ s → cond b (n +ℤ r) r ≡ (cond c n (pos 0) +ℤ s)
load_step true c n r s e f = ap (λ (v : ℤ). n +ℤ v) f ∙ ap (λ (d : Bool). cond d n (pos 0) +ℤ s) e
load_step false c n r s e f = let zero_first : r ≡ (pos 0 +ℤ s) = omega (arith, ints, f) in zero_first ∙ ap (λ (d : Bool). cond d n (pos 0) +ℤ s) e

counts_sure : (e f : Packed) (a : List ℤ) → f.kept ≡ truth.Fixed true → int_eq (value_of a f.place) (value_of a e.place) ≡ (truth_at f.kept a && int_eq (value_of a e.place) (value_of a f.place))
counts_sure e f a h =
    turned (value_of a f.place) (value_of a e.place)
    ∙ sym (ap (λ (b : Bool). b && int_eq (value_of a e.place) (value_of a f.place)) (sure f.kept a h))

load_items : (e : Packed) (es : List Packed) (a : List ℤ) → All (λ f. f.kept ≡ truth.Fixed true) es → load_seen (value_of a e.place) (map (λ (f : Packed). item_values f a) es) ≡ load_there e es a
load_items e [] a all = refl
load_items e (f ∷ es) a all =
    load_step (int_eq (value_of a f.place) (value_of a e.place)) (truth_at f.kept a && int_eq (value_of a e.place) (value_of a f.place)) (linear_at f.size a) (load_seen (value_of a e.place) (map (λ (o : Packed). item_values o a) es)) (load_there e es a)
    (counts_sure e f a (All-head (λ o. o.kept ≡ truth.Fixed true) f es all))
    (load_items e es a (All-tail (λ o. o.kept ≡ truth.Fixed true) f es all))

none_over : (b c : Bool) → (b && not c) ≡ not (not b || c)
none_over true c = refl
none_over false c = refl

overfull_sure : (all : List Packed) (e : Packed) (a : List ℤ) → e.kept ≡ truth.Fixed true → not (int_le (load_there e all a) (linear_at e.room a)) ≡ is_overfull all e a
overfull_sure all e a h = sym (ap (λ (b : Bool). b && not (int_le (load_there e all a) (linear_at e.room a))) (sure e.kept a h))

fit_items : (all es : List Packed) (a : List ℤ) → All (λ e. e.kept ≡ truth.Fixed true) all → All (λ e. e.kept ≡ truth.Fixed true) es → fit_seen (map (λ (e : Packed). item_values e a) all) (map (λ (e : Packed). item_values e a) es) ≡ not (list_any (λ e. is_overfull all e a) es)
fit_items all [] a h k = refl
fit_items all (e ∷ es) a h k =
    ap (λ (v : ℤ). int_le v (linear_at e.room a) && fit_seen (map (λ (f : Packed). item_values f a) all) (map (λ (f : Packed). item_values f a) es)) (load_items e all a h)
    ∙ ap (λ (b : Bool). int_le (load_there e all a) (linear_at e.room a) && b) (fit_items all es a h (All-tail (λ o. o.kept ≡ truth.Fixed true) e es k))
    ∙ none_over (int_le (load_there e all a) (linear_at e.room a)) (list_any (λ f. is_overfull all f a) es)
    ∙ ap (λ (b : Bool). not (b || list_any (λ f. is_overfull all f a) es)) (overfull_sure all e a (All-head (λ o. o.kept ≡ truth.Fixed true) e es k))

-- where all are kept none is overfull exactly where the rooms hold
pub fitting_says : (g : Ground) (es : List Packed) (rows : List (ℕ × ℕ × ℕ)) (a : List ℤ) → AreRows g es rows → IsWorld g a → All (λ e. e.kept ≡ truth.Fixed true) es → rooms_hold rows rows a ≡ not (some_overfull es a)
fitting_says g es rows a h w all =
    fit_rows rows rows a
    ∙ ap (λ (ts : List (ℤ × ℤ × ℤ)). fit_seen ts ts) (h.seen a w)
    ∙ fit_items es es a all all

-- ---- rows, one after the other

pub no_rows : (g : Ground) → AreRows g [] []
no_rows g = record { exist = λ k d lt. absurd (omega (arith, lt)); count = refl; seen = λ a w. refl }

pub rows_there : (old new : Ground) (rows : List (ℕ × ℕ × ℕ)) → Grows old new → All (AreItemVariables old) rows → All (AreItemVariables new) rows
rows_there old new rows g h =
    All-weaker (AreItemVariables old) (AreItemVariables new)
    (λ r t. let less = no_less old new g in (omega (arith, less, t.0), omega (arith, less, t.1), omega (arith, less, t.2))) rows h

pub rows_more : (old new : Ground) (es : List Packed) (k : ℕ) (e : Packed) (rows more : List (ℕ × ℕ × ℕ)) (r : ℕ × ℕ × ℕ) → Grows old new → k < length es → e ≡ get_or es k e → more ≡ rows ++ r ∷ [] → AreRows new (e ∷ []) (r ∷ []) → AreRows old (take k es) rows → AreRows new (take (k + 1) es) more
rows_more old new es k e rows more r g lt is made one h =
    let next : take (k + 1) es ≡ take k es ++ e ∷ [] = take_more es k e lt ∙ ap (λ (q : Packed). take k es ++ q ∷ []) (sym is) in
    record {
      exist =
          subst (All (AreItemVariables new)) (sym made)
          (All-push (AreItemVariables new) rows r (rows_there old new rows g h.exist) (All-head (AreItemVariables new) r [] one.exist));
      count =
          let rows_now = ap length made in
          let one_row = length-append rows (r ∷ []) in
          let items_now = ap length next in
          let one_item = length-append (take k es) (e ∷ []) in
          omega (arith, rows_now, one_row, items_now, one_item, h.count);
      seen = λ a w.
          ap (map (λ (q : ℕ × ℕ × ℕ). row_values q a)) made
          ∙ map-append (λ (q : ℕ × ℕ × ℕ). row_values q a) rows (r ∷ [])
          ∙ ap (λ (ts : List (ℤ × ℤ × ℤ)). ts ++ row_values r a ∷ []) (h.seen a (world_before old new a g w))
          ∙ ap (λ (ts : List (ℤ × ℤ × ℤ)). map (λ (f : Packed). item_values f a) (take k es) ++ ts) (one.seen a w)
          ∙ sym (map-append (λ (f : Packed). item_values f a) (take k es) (e ∷ []))
          ∙ ap (map (λ (f : Packed). item_values f a)) (sym next);
    }

pub row_is : (mid new : Ground) (e : Packed) (x y : ℕ) → Grows mid new → e.place < length mid.domains → x < length mid.domains → y < length new.domains → ((a : List ℤ) → IsWorld mid a → value_of a x ≡ linear_at e.size a) → ((a : List ℤ) → IsWorld new a → value_of a y ≡ linear_at e.room a) → AreRows new (e ∷ []) ((e.place, x, y) ∷ [])
row_is mid new e x y g place there last size room = record {
  exist =
      let less = no_less mid new g in
      All-push (AreItemVariables new) [] (e.place, x, y) (All-nil (AreItemVariables new)) (omega (arith, less, place), omega (arith, less, there), last);
  count = refl;
  seen = λ a w.
      ap (λ (v : ℤ). (value_of a e.place, v, value_of a y) ∷ []) (size a (world_before mid new a g w))
      ∙ ap (λ (v : ℤ). (value_of a e.place, linear_at e.size a, v) ∷ []) (room a w);
}
