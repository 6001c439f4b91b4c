-- Why a bin is overfull in what the literals leave: each step keeps what was counted.
use Rattle.std.proofs.Common.{◌≡◌, ℕ, zero, suc, ◌+◌, ◌<◌, ◌≤◌, Bool, true, false, not, ◌&&◌, ◌||◌, cond, List, [], ◌∷◌, ℤ, pos, ◌+ℤ◌, ◌≤ℤ◌, All, length, get_or, refl, arith, subst, sym}
use Rattle.std.specs.Prelude.{int_lt, slice_index_or}
use Rattle.std.specs.Ordering.{int_eq}
use Rattle.std.proofs.lemmas.Int.{ints}
use Rattle.std.proofs.lemmas.Bool.{and_parts, and_from, false_from_ne_true}
use Rattle.std.proofs.lemmas.Bool.Decides.{Decides-int_eq}
use Rattle.signed_clause.specs.Ranges.{Ranges, has, is_nil, IsValid}
use Rattle.signed_clause.specs.Clauses.{Boxes, Literals, box_of}
use Rattle.signed_clause.proofs.SetFacts.{disjoint_law}
use Rattle.ground_form.specs.declared.con.Con.{Con}
use Rattle.ground_form.specs.declared.con.Con.TheVariants.{Pack}
use Rattle.ground_form.specs.Meaning.{item_vars}
use Rattle.ground_form.specs.Bounds.{low_of, high_of}
use Rattle.box_view.specs.Views.{cut}
use Rattle.box_rules.specs.Named.{AreItemsNamed, IsItemNamed}
use Rattle.rule_law.specs.Reasons.{IsReason}
use Rattle.box_rules.specs.Refuted.{fixed_at, fixed_load, some_overfull, some_empty, all_room, least_sizes, refuted}
use Rattle.box_view.proofs.EndLaws.{ends_in_order}
use Rattle.pack_prop.specs.Collected.{said, AreCollected, SaysMore}
use Rattle.pack_prop.specs.LoadSteps.{loads_at, AreLoaded}
use Rattle.pack_prop.specs.Sources.{with_part, IsPart}
use Rattle.pack_prop.proofs.Collecting.{MaySay, said_collected, said_more, said_here}
use Rattle.pack_prop.proofs.CutBoxes.{AreOver, cut_valid, cut_some, cut_in, cut_less, cut_low, cut_high, cut_passes, low_within, high_within}
use Rattle.pack_prop.proofs.OverReason.{or_right, or_left, some_at, fixed_low}
use Rattle.pack_prop.proofs.TotalReason.{part_reason, size_said, size_from}

-- ---- sets that are one value

fixed_parts : (s : Ranges) (v : ℤ) → fixed_at s v ≡ true → (low_of s ≡ v) × (high_of s ≡ v)
fixed_parts s v h =
    let a = and_parts (not (is_nil s)) (int_eq (low_of s) v && int_eq (high_of s) v) h in
    let b = and_parts (int_eq (low_of s) v) (int_eq (high_of s) v) a.1 in ((Decides-int_eq (low_of s) v).0 b.0, (Decides-int_eq (high_of s) v).0 b.1)

fixed_from : (s : Ranges) (v : ℤ) → is_nil s ≡ false → low_of s ≡ v → high_of s ≡ v → fixed_at s v ≡ true
fixed_from s v n l h =
    let a = (Decides-int_eq (low_of s) v).1 l in let b = (Decides-int_eq (high_of s) v).1 h in rw (n, a, b) refl

fixed_within : (a b : Ranges) (v : ℤ) → IsValid a → IsValid b → is_nil b ≡ false → ((w : ℤ) → has b w ≡ true → has a w ≡ true) → fixed_at a v ≡ true → fixed_at b v ≡ true
fixed_within a b v f g n h k =
    let ends = fixed_parts a v k in let one = ends.0 in let two = ends.1 in
    let low = low_within b a g f n h in let high = high_within b a g f n h in let order = ends_in_order b g in
    fixed_from b v n (omega (arith, ints)) (omega (arith, ints))

-- ---- loads

-- of the items' sizes none is below 0
abbrev Sizes : List (ℕ × ℕ × ℕ) → Boxes → Type 0
Sizes items boxes = All (λ i. pos 0 ≤ℤ low_of (box_of boxes i.1)) items

part_ge : (f : Bool) (low rest least : ℤ) → pos 0 ≤ℤ low → least ≤ℤ rest → least ≤ℤ cond f (low +ℤ rest) rest
part_ge true low rest least h k = omega (arith, ints)
part_ge false low rest least h k = k

both_ge : (f g : Bool) (a b m n : ℤ) → (f ≡ true → g ≡ true) → a ≤ℤ b → pos 0 ≤ℤ b → m ≤ℤ n → cond f (a +ℤ m) m ≤ℤ cond g (b +ℤ n) n
both_ge true true a b m n h k l o = omega (arith, ints)
both_ge true false a b m n h k l o = (let e = h refl in absurd cc)
both_ge false g a b m n h k l o = part_ge g b n m l o

pub loads_none : (v : ℤ) (items : List (ℕ × ℕ × ℕ)) (one two : Boxes) → loads_at v 0 items one two ≡ fixed_load v items two
loads_none v [] one two = refl
loads_none v (i ∷ is) one two = let more = loads_none v is one two in rw more refl

loads_all : (v : ℤ) (k : ℕ) (items : List (ℕ × ℕ × ℕ)) (one two : Boxes) → length items ≤ k → loads_at v k items one two ≡ fixed_load v items one
loads_all v k [] one two h = refl
loads_all v zero (i ∷ is) one two h = absurd (omega arith)
loads_all v (suc k) (i ∷ is) one two h = let more = loads_all v k is one two (omega arith) in rw more refl

-- an item's load
abbrev pub load_of : ℤ → ℕ × ℕ × ℕ → Boxes → ℤ
load_of v i boxes = cond (fixed_at (box_of boxes i.0) v) (low_of (box_of boxes i.1)) (pos 0)

added : (f : Bool) (low rest : ℤ) → cond f (low +ℤ rest) rest ≡ cond f low (pos 0) +ℤ rest
added true low rest = refl
added false low rest = omega (arith, ints)

loads_next : (v : ℤ) (k : ℕ) (items : List (ℕ × ℕ × ℕ)) (one two : Boxes) → k < length items →
    loads_at v (suc k) items one two +ℤ load_of v (slice_index_or items k (0, 0, 0)) two ≡ loads_at v k items one two +ℤ load_of v (slice_index_or items k (0, 0, 0)) one
loads_next v k [] one two h = absurd (omega arith)
loads_next v zero (i ∷ is) one two h =
    let a = added (fixed_at (box_of one i.0) v) (low_of (box_of one i.1)) (loads_at v zero is one two) in
    let b = added (fixed_at (box_of two i.0) v) (low_of (box_of two i.1)) (loads_at v zero is one two) in omega (arith, ints)
loads_next v (suc k) (i ∷ is) one two h =
    let more = loads_next v k is one two (omega arith) in
    let a = added (fixed_at (box_of one i.0) v) (low_of (box_of one i.1)) (loads_at v (suc k) is one two) in
    let b = added (fixed_at (box_of one i.0) v) (low_of (box_of one i.1)) (loads_at v k is one two) in omega (arith, ints)

-- narrower boxes have no less load
record IsNarrower (old new : Boxes) (v : ℤ) (i : ℕ × ℕ × ℕ) : Type 0 where
  fixed : fixed_at (box_of old i.0) v ≡ true → fixed_at (box_of new i.0) v ≡ true
  low : low_of (box_of old i.1) ≤ℤ low_of (box_of new i.1)
  some : pos 0 ≤ℤ low_of (box_of new i.1)

loads_more : (v : ℤ) (k : ℕ) (items : List (ℕ × ℕ × ℕ)) (old new two : Boxes) → All (λ i. IsNarrower old new v i) items → loads_at v k items old two ≤ℤ loads_at v k items new two
loads_more v k [] old new two h = omega (arith, ints)
loads_more v zero (i ∷ is) old new two h =
    let more = loads_more v zero is old new two (λ k d lt. h (suc k) d (omega arith)) in
    let a = added (fixed_at (box_of two i.0) v) (low_of (box_of two i.1)) (loads_at v zero is old two) in
    let b = added (fixed_at (box_of two i.0) v) (low_of (box_of two i.1)) (loads_at v zero is new two) in omega (arith, ints)
loads_more v (suc k) (i ∷ is) old new two h =
    let here = h 0 i (omega arith) in
    both_ge (fixed_at (box_of old i.0) v) (fixed_at (box_of new i.0) v) (low_of (box_of old i.1)) (low_of (box_of new i.1)) (loads_at v k is old two) (loads_at v k is new two) here.fixed here.low here.some
    (loads_more v k is old new two (λ j d lt. h (suc j) d (omega arith)))

-- ---- a further literal keeps all

cut_from_zero : (domains boxes : Boxes) (ls : Literals) (y : ℕ) → AreOver domains boxes → AreCollected boxes ls → y < length boxes → pos 0 ≤ℤ low_of (box_of domains y) → pos 0 ≤ℤ low_of (box_of (cut domains ls) y)
cut_from_zero domains boxes ls y o h n z =
    let low = low_within (box_of (cut domains ls) y) (box_of domains y) (cut_valid domains boxes ls o.domain_sets h y) (o.domain_sets y) (cut_some domains boxes ls y o h n) (λ v q. cut_in domains boxes ls y v o h q) in omega (arith, ints)

cut_fixed : (domains boxes : Boxes) (old new : Literals) (y : ℕ) (v : ℤ) → AreOver domains boxes → AreCollected boxes old → AreCollected boxes new → SaysMore old new → y < length boxes →
    fixed_at (box_of (cut domains old) y) v ≡ true → fixed_at (box_of (cut domains new) y) v ≡ true
cut_fixed domains boxes old new y v o h k m n q =
    fixed_within (box_of (cut domains old) y) (box_of (cut domains new) y) v (cut_valid domains boxes old o.domain_sets h y) (cut_valid domains boxes new o.domain_sets k y) (cut_some domains boxes new y o k n)
    (λ w t. cut_less domains boxes old new y w o h k m t) q

pub loaded_more : (v : ℤ) (i : ℕ × ℕ × ℕ) (items : List (ℕ × ℕ × ℕ)) (domains boxes : Boxes) (m : ℕ) (room spare : ℤ) (old new : Literals) → AreOver domains boxes → AreItemsNamed items boxes → IsItemNamed i boxes → Sizes items domains →
    AreLoaded v i items domains boxes m room spare old → AreCollected boxes new → SaysMore old new → AreLoaded v i items domains boxes m room spare new
loaded_more v i items domains boxes m room spare old new o n j z t h says = record {
  literals = h;
  fixed = cut_fixed domains boxes old new i.0 v o t.literals h says j.bin t.fixed;
  upto = let high = cut_high domains boxes old new i.2 o t.literals h says j.room in let before = t.upto in omega (arith, ints);
  some = t.some;
  more =
      let loads = loads_more v m items (cut domains old) (cut domains new) boxes (λ k d lt. record {
        fixed = λ q. cut_fixed domains boxes old new (get_or items k d).0 v o t.literals h says (n k d lt).bin q;
        low = cut_low domains boxes old new (get_or items k d).1 o t.literals h says (n k d lt).size;
        some = cut_from_zero domains boxes new (get_or items k d).1 o h (n k d lt).size (z k d lt);
      }) in
      let before = t.more in omega (arith, ints);
}

-- ---- a bin

pub bin_said : (domains boxes : Boxes) (y : ℕ) (s : Ranges) → AreOver domains boxes → y < length boxes → IsValid s → ((v : ℤ) → has s v ≡ (has (box_of domains y) v && not (has (box_of boxes y) v))) → MaySay boxes y s
bin_said domains boxes y s o n f w = record {
  named = n;
  valid = f;
  disjoint = (disjoint_law s (box_of boxes y) f (o.box_sets y)).1 (λ v q. false_from_ne_true (has (box_of boxes y) v) (λ t. let is = w v in grind arith));
}

pub bin_fixed : (domains boxes : Boxes) (y : ℕ) (v : ℤ) (s : Ranges) (ls : Literals) → AreOver domains boxes → y < length boxes → AreCollected boxes ls → MaySay boxes y s →
    ((w : ℤ) → has s w ≡ (has (box_of domains y) w && not (has (box_of boxes y) w))) → fixed_at (box_of boxes y) v ≡ true → fixed_at (box_of (cut domains (said y s ls)) y) v ≡ true
bin_fixed domains boxes y v s ls o n c m w f =
    let new = said_collected boxes y s ls o.box_sets m c in
    fixed_within (box_of boxes y) (box_of (cut domains (said y s ls)) y) v (o.box_sets y) (cut_valid domains boxes (said y s ls) o.domain_sets new y) (cut_some domains boxes (said y s ls) y o new n)
    (λ u q. cut_passes domains boxes (said y s ls) y u (has (box_of boxes y) u) o new (λ d b. let is = w u in said_here boxes y s u ls m.valid c (grind arith)) q) f

-- ---- one item more

loaded_next : (v : ℤ) (i : ℕ × ℕ × ℕ) (items : List (ℕ × ℕ × ℕ)) (domains boxes : Boxes) (m : ℕ) (room spare next : ℤ) (ls : Literals) → m < length items → pos 0 ≤ℤ next →
    (next +ℤ load_of v (slice_index_or items m (0, 0, 0)) boxes) ≤ℤ (spare +ℤ load_of v (slice_index_or items m (0, 0, 0)) (cut domains ls)) →
    AreLoaded v i items domains boxes m room spare ls → AreLoaded v i items domains boxes (m + 1) room next ls
loaded_next v i items domains boxes m room spare next ls u l h t = record {
  literals = t.literals;
  fixed = t.fixed;
  upto = t.upto;
  some = l;
  more =
      let is : suc m ≡ m + 1 = omega arith in
      let step = loads_next v m items (cut domains ls) boxes u in let before = t.more in
      subst (λ (z : ℕ). ((room +ℤ pos 1) +ℤ next) ≤ℤ loads_at v z items (cut domains ls) boxes) is (omega (arith, ints));
}

load_ge : (f : Bool) (low : ℤ) → pos 0 ≤ℤ low → pos 0 ≤ℤ cond f low (pos 0)
load_ge true low h = h
load_ge false low h = omega (arith, ints)

-- an item that adds at most what is to spare
pub loaded_free : (v : ℤ) (i : ℕ × ℕ × ℕ) (items : List (ℕ × ℕ × ℕ)) (domains boxes : Boxes) (m : ℕ) (room spare next : ℤ) (ls : Literals) → AreOver domains boxes → AreItemsNamed items boxes → Sizes items domains → m < length items → pos 0 ≤ℤ next →
    (next +ℤ load_of v (slice_index_or items m (0, 0, 0)) boxes) ≤ℤ spare → AreLoaded v i items domains boxes m room spare ls → AreLoaded v i items domains boxes (m + 1) room next ls
loaded_free v i items domains boxes m room spare next ls o n z u l h t =
    let j = slice_index_or items m (0, 0, 0) in
    let low = cut_from_zero domains boxes ls j.1 o t.literals (n m (0, 0, 0) u).size (z m (0, 0, 0) u) in
    let ge = load_ge (fixed_at (box_of (cut domains ls) j.0) v) (low_of (box_of (cut domains ls) j.1)) low in
    loaded_next v i items domains boxes m room spare next ls u l (omega (arith, ints)) t

load_is : (f g : Bool) (a b : ℤ) → f ≡ true → g ≡ true → a ≤ℤ b → cond f a (pos 0) ≤ℤ cond g b (pos 0)
load_is true true a b e h k = k
load_is true false a b e h k = absurd cc
load_is false g a b e h k = absurd cc

-- an item whose bin and size are said
pub loaded_said : (v : ℤ) (i : ℕ × ℕ × ℕ) (items : List (ℕ × ℕ × ℕ)) (domains boxes : Boxes) (m : ℕ) (room spare low : ℤ) (p s : Ranges) (ls : Literals) → AreOver domains boxes → AreItemsNamed items boxes → IsItemNamed i boxes → Sizes items domains → m < length items →
    fixed_at (box_of boxes (slice_index_or items m (0, 0, 0)).0) v ≡ true → low ≡ low_of (box_of boxes (slice_index_or items m (0, 0, 0)).1) → IsValid p → IsValid s →
    ((w : ℤ) → has p w ≡ (has (box_of domains (slice_index_or items m (0, 0, 0)).0) w && not (has (box_of boxes (slice_index_or items m (0, 0, 0)).0) w))) →
    ((w : ℤ) → has s w ≡ (has (box_of domains (slice_index_or items m (0, 0, 0)).1) w && int_lt w low)) →
    AreLoaded v i items domains boxes m room spare ls → AreLoaded v i items domains boxes (m + 1) room spare (said (slice_index_or items m (0, 0, 0)).1 s (said (slice_index_or items m (0, 0, 0)).0 p ls))
loaded_said v i items domains boxes m room spare low p s ls o n named z u f e a b g h t =
    let j = slice_index_or items m (0, 0, 0) in
    let jn = n m (0, 0, 0) u in
    let one = said j.0 p ls in let two = said j.1 s one in
    let bin = bin_said domains boxes j.0 p o jn.bin a g in
    let c1 = said_collected boxes j.0 p ls o.box_sets bin t.literals in
    let size = size_said domains boxes j.1 low low s o jn.size b e (omega (arith, ints)) h in
    let c2 = said_collected boxes j.1 s one o.box_sets size c1 in
    let m1 = said_more boxes j.0 p ls a t.literals in
    let m2 = said_more boxes j.1 s one b c1 in
    let t1 = loaded_more v i items domains boxes m room spare ls one o n named z t c1 m1 in
    let t2 = loaded_more v i items domains boxes m room spare one two o n named z t1 c2 m2 in
    let fixed = cut_fixed domains boxes one two j.0 v o c1 c2 m2 jn.bin (bin_fixed domains boxes j.0 v p ls o jn.bin t.literals bin g f) in
    let from = size_from domains boxes j.1 low s one o jn.size c1 size h in
    let loads = load_is (fixed_at (box_of boxes j.0) v) (fixed_at (box_of (cut domains two) j.0) v) (low_of (box_of boxes j.1)) (low_of (box_of (cut domains two) j.1)) f fixed (omega (arith, ints)) in
    loaded_next v i items domains boxes m room spare spare two u t.some (omega (arith, ints)) t2

-- ---- where it begins and ends

pub loaded_none : (v : ℤ) (i : ℕ × ℕ × ℕ) (items : List (ℕ × ℕ × ℕ)) (domains boxes : Boxes) (room spare load : ℤ) (ls : Literals) → AreCollected boxes ls → fixed_at (box_of (cut domains ls) i.0) v ≡ true → high_of (box_of (cut domains ls) i.2) ≤ℤ room →
    load ≡ fixed_load v items boxes → pos 0 ≤ℤ spare → ((room +ℤ pos 1) +ℤ spare) ≤ℤ load → AreLoaded v i items domains boxes 0 room spare ls
loaded_none v i items domains boxes room spare load ls c f u e l h = record {
  literals = c;
  fixed = f;
  upto = u;
  some = l;
  more = let is = loads_none v items (cut domains ls) boxes in omega (arith, ints);
}

pub loaded_overfull : (v : ℤ) (k : ℕ) (items : List (ℕ × ℕ × ℕ)) (domains boxes : Boxes) (room spare : ℤ) (ls : Literals) → k < length items → AreLoaded v (slice_index_or items k (0, 0, 0)) items domains boxes (length items) room spare ls →
    some_overfull items items (cut domains ls) ≡ true
loaded_overfull v k items domains boxes room spare ls lt t =
    let cuts = cut domains ls in let i = slice_index_or items k (0, 0, 0) in
    let b = box_of cuts i.0 in
    let loads = loads_all v (length items) items cuts boxes (omega arith) in
    let more = t.more in let some = t.some in let upto = t.upto in
    let over : int_lt (high_of (box_of cuts i.2)) (fixed_load v items cuts) ≡ true = grind (arith, ints) in
    let low = fixed_low b v t.fixed in
    some_at k items items cuts lt
    (subst (λ (z : ℤ). (fixed_at b z && int_lt (high_of (box_of cuts i.2)) (fixed_load z items cuts)) ≡ true) (sym low) (and_from _ _ t.fixed over))

pub loaded_reason : (con : Con) (v : ℤ) (k : ℕ) (items : List (ℕ × ℕ × ℕ)) (domains boxes : Boxes) (x : ℕ) (s : Ranges) (room spare : ℤ) (ls : Literals) → con ≡ Pack items → IsPart domains boxes items x s → k < length items →
    AreLoaded v (slice_index_or items k (0, 0, 0)) items domains (with_part boxes x s) (length items) room spare ls → IsReason con domains boxes ls
loaded_reason con v k items domains boxes x s room spare ls e p lt t =
    let cuts = cut domains ls in
    let over = loaded_overfull v k items domains (with_part boxes x s) room spare ls lt t in
    let follows : refuted (Pack items) cuts ≡ true = or_right (some_empty (item_vars items) cuts) (some_overfull items items cuts || int_lt (all_room items cuts) (least_sizes items cuts)) (or_left (some_overfull items items cuts) (int_lt (all_room items cuts) (least_sizes items cuts)) over) in
    subst (λ (z : Con). IsReason z domains boxes ls) (sym e) (part_reason (Pack items) domains boxes items x s ls p t.literals follows)
