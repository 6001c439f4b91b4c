-- What each call of the walk that explains the total comes to.
use Rattle.std.proofs.Common.{◌≡◌, ℕ, ◌+◌, ◌<◌, Bool, ◌&&◌, List, [], ◌∷◌, ℤ, pos, ◌+ℤ◌, ◌-ℤ◌, ◌≤ℤ◌, ◌<ℤ◌, All, length, arith, subst, sym, ap, ◌∙◌}
use Rattle.std.specs.Prelude.{int_lt, slice_index_or}
use Rattle.std.proofs.lemmas.Int.{ints}
use Rattle.std.specs.Int.{int_max, int_min}
use Rattle.std.proofs.lemmas.List.Elements.{All-cons, All-nil}
use Rattle.signed_clause.specs.Ranges.{Ranges, has, IsValid}
use Rattle.signed_clause.specs.Clauses.{Boxes, Literals, box_of}
use Rattle.ground_form.specs.declared.con.Con.{Con}
use Rattle.ground_form.specs.declared.con.Con.TheVariants.{Pack}
use Rattle.ground_form.specs.Bounds.{low_of, high_of}
use Rattle.box_view.specs.Views.{cut}
use Rattle.rule_law.specs.Reasons.{IsReason}
use Rattle.box_rules.specs.Refuted.{least_sizes, first_bin, last_bin}
use Rattle.box_rules.proofs.PackLaws.{first_bin-le, last_bin-ge}
use Rattle.pack_prop.specs.Collected.{said, AreCollected, SaysMore}
use Rattle.pack_prop.specs.RoomRows.{best_rooms, row_sum, raised, is_short}
use Rattle.pack_prop.specs.Sources.{with_part, IsPart}
use Rattle.pack_prop.specs.TotalSteps.{AreTotalled, AreWeighed, IsWindow}
use Rattle.pack_prop.proofs.Collecting.{said_collected, said_more}
use Rattle.pack_prop.proofs.CutBoxes.{box_in, low_within}
use Rattle.pack_prop.proofs.TotalReason.{part_over, part_named, totalled_more, totalled_none, sizes_none, room_said, room_upto, seat_raised, seat_short, totalled_spare, weigh_free, weigh_said, totalled_reason}

-- ---- the window

first_upto : (a : ℤ) (items : List (ℕ × ℕ × ℕ)) (d : Boxes) → All (λ i. first_bin a items d ≤ℤ low_of (box_of d i.0)) items
first_upto a [] d = All-nil (λ (i : ℕ × ℕ × ℕ). first_bin a [] d ≤ℤ low_of (box_of d i.0))
first_upto a (i ∷ is) d =
    let here = first_bin-le (int_min a (low_of (box_of d i.0))) is d in
    All-cons (λ (j : ℕ × ℕ × ℕ). first_bin (int_min a (low_of (box_of d i.0))) is d ≤ℤ low_of (box_of d j.0)) i is (grind (arith, ints)) (first_upto (int_min a (low_of (box_of d i.0))) is d)

last_from : (b : ℤ) (items : List (ℕ × ℕ × ℕ)) (d : Boxes) → All (λ i. high_of (box_of d i.0) ≤ℤ last_bin b items d) items
last_from b [] d = All-nil (λ (i : ℕ × ℕ × ℕ). high_of (box_of d i.0) ≤ℤ last_bin b [] d)
last_from b (i ∷ is) d =
    let here = last_bin-ge (int_max b (high_of (box_of d i.0))) is d in
    All-cons (λ (j : ℕ × ℕ × ℕ). high_of (box_of d j.0) ≤ℤ last_bin (int_max b (high_of (box_of d i.0))) is d) i is (grind (arith, ints)) (last_from (int_max b (high_of (box_of d i.0))) is d)

pub window_is : (first last : ℤ) (n : ℕ) (items : List (ℕ × ℕ × ℕ)) (d : Boxes) → first ≡ first_bin (pos 9999) items d → last ≡ last_bin (pos 0) items d → pos 0 ≤ℤ first → first ≤ℤ last → last ≤ℤ pos 9999 →
    first +ℤ pos n ≡ last +ℤ pos 1 → IsWindow first n items d
window_is first last n items d e f l o h w = record {
  low = l;
  high = omega (arith, ints);
  few = omega (arith, ints);
  covers = λ k i lt. (let a = first_upto (pos 9999) items d k i lt in omega (arith, ints), let b = last_from (pos 0) items d k i lt in omega (arith, ints));
}

-- ---- sets of a domain

of_domain : (d box s : Ranges) (f : ℤ → Bool) → d ≡ box → ((v : ℤ) → has s v ≡ (has d v && f v)) → (v : ℤ) → has s v ≡ (has box v && f v)
of_domain d box s f e h v = h v ∙ ap (λ (z : Ranges). has z v && f v) e

-- ---- an item's room

pub record IsRoomSaid (domains boxes : Boxes) (y : ℕ) (h : ℤ) (old new : Literals) : Type 0 where
  pub literals : AreCollected boxes new
  pub more : SaysMore old new
  pub upto : high_of (box_of (cut domains new) y) ≤ℤ h

pub room_is_said : (domains boxes : Boxes) (items : List (ℕ × ℕ × ℕ)) (x k : ℕ) (part d s : Ranges) (h : ℤ) (old new : Literals) → IsPart domains boxes items x part → k < length items → AreCollected (with_part boxes x part) old →
    h ≡ high_of (box_of (with_part boxes x part) (slice_index_or items k (0, 0, 0)).2) → d ≡ box_of domains (slice_index_or items k (0, 0, 0)).2 → IsValid s → ((v : ℤ) → has s v ≡ (has d v && int_lt h v)) →
    new ≡ said (slice_index_or items k (0, 0, 0)).2 s old → IsRoomSaid domains (with_part boxes x part) (slice_index_or items k (0, 0, 0)).2 h old new
room_is_said domains boxes items x k part d s h old new p u c e q f w n =
    let y = (slice_index_or items k (0, 0, 0)).2 in
    let over = part_over domains boxes items x part p in
    let named = (part_named boxes x part items p.named k (0, 0, 0) u).room in
    let values = of_domain d (box_of domains y) s (λ v. int_lt h v) q w in
    let may = room_said domains (with_part boxes x part) y h s old over named c f e values in
    subst (λ (z : Literals). IsRoomSaid domains (with_part boxes x part) y h old z) (sym n)
    (record {
      literals = said_collected (with_part boxes x part) y s old over.box_sets may c;
      more = said_more (with_part boxes x part) y s old f c;
      upto = room_upto domains (with_part boxes x part) y h s old over named c may values;
    })

-- ---- an item's bin

pub seated_raised : (domains boxes : Boxes) (items : List (ℕ × ℕ × ℕ)) (x k : ℕ) (part d : Ranges) (h sizes sum : ℤ) (row same more : List (ℤ × ℤ)) (again : List (ℤ × ℤ)) (old new : Literals) → IsPart domains boxes items x part → k < length items →
    sizes ≡ least_sizes items (with_part boxes x part) → AreTotalled items domains (with_part boxes x part) k 0 row (pos 0) old → AreCollected (with_part boxes x part) new → SaysMore old new →
    high_of (box_of (cut domains new) (slice_index_or items k (0, 0, 0)).2) ≤ℤ h → d ≡ box_of domains (slice_index_or items k (0, 0, 0)).0 → same ≡ row → more ≡ raised d h same → again ≡ more → sum ≡ row_sum again → sum <ℤ sizes →
    AreTotalled items domains (with_part boxes x part) (k + 1) 0 more (pos 0) new
seated_raised domains boxes items x k part d h sizes sum row same more again old new p u z t c s upto q r m a n l =
    let over = part_over domains boxes items x part p in
    let next = totalled_more items domains (with_part boxes x part) k 0 row (pos 0) old new over (part_named boxes x part items p.named) (omega arith) t c s in
    let is : more ≡ raised (box_of domains (slice_index_or items k (0, 0, 0)).0) h row = m ∙ ap (λ (b : Ranges). raised b h same) q ∙ ap (λ (b : List (ℤ × ℤ)). raised (box_of domains (slice_index_or items k (0, 0, 0)).0) h b) r in
    let less : row_sum more <ℤ sizes = subst (λ (b : List (ℤ × ℤ)). row_sum b <ℤ sizes) a (subst (λ (b : ℤ). b <ℤ sizes) n l) in
    seat_raised items domains (with_part boxes x part) k h sizes row more new over u upto is z less next

pub seated_short : (domains boxes : Boxes) (items : List (ℕ × ℕ × ℕ)) (x k : ℕ) (part d s : Ranges) (h : ℤ) (row same : List (ℤ × ℤ)) (old new last : Literals) → IsPart domains boxes items x part → k < length items →
    AreTotalled items domains (with_part boxes x part) k 0 row (pos 0) old → AreCollected (with_part boxes x part) new → SaysMore old new → h ≡ high_of (box_of (with_part boxes x part) (slice_index_or items k (0, 0, 0)).2) →
    high_of (box_of (cut domains new) (slice_index_or items k (0, 0, 0)).2) ≤ℤ h → d ≡ box_of domains (slice_index_or items k (0, 0, 0)).0 → same ≡ row → IsValid s → ((v : ℤ) → has s v ≡ (has d v && is_short v h same)) →
    last ≡ said (slice_index_or items k (0, 0, 0)).0 s new → AreTotalled items domains (with_part boxes x part) (k + 1) 0 row (pos 0) last
seated_short domains boxes items x k part d s h row same old new last p u t c m e upto q r f w n =
    let over = part_over domains boxes items x part p in
    let named = part_named boxes x part items p.named in
    let y = (slice_index_or items k (0, 0, 0)).0 in
    let next = totalled_more items domains (with_part boxes x part) k 0 row (pos 0) old new over named (omega arith) t c m in
    let values : (v : ℤ) → has s v ≡ (has (box_of domains y) v && is_short v h row) = λ v. w v ∙ ap (λ (z : Ranges). has z v && is_short v h same) q ∙ ap (λ (b : List (ℤ × ℤ)). has (box_of domains y) v && is_short v h b) r in
    subst (λ (z : Literals). AreTotalled items domains (with_part boxes x part) (k + 1) 0 row (pos 0) z) (sym n)
    (seat_short items domains (with_part boxes x part) k h row s new over named u upto e f values next)

-- ---- an item's size

pub sizes_order : (domains boxes : Boxes) (items : List (ℕ × ℕ × ℕ)) (x k : ℕ) (part : Ranges) (low least : ℤ) → IsPart domains boxes items x part → k < length items → low ≡ low_of (box_of (with_part boxes x part) (slice_index_or items k (0, 0, 0)).1) →
    least ≡ low_of (box_of domains (slice_index_or items k (0, 0, 0)).1) → (pos 0 ≤ℤ least) × (least ≤ℤ low)
sizes_order domains boxes items x k part low least p u e f =
    let y = (slice_index_or items k (0, 0, 0)).1 in
    let over = part_over domains boxes items x part p in
    let named = (part_named boxes x part items p.named k (0, 0, 0) u).size in
    let some = p.sizes k (0, 0, 0) u in
    let from = low_within (box_of (with_part boxes x part) y) (box_of domains y) (over.box_sets y) (over.domain_sets y) (over.some y named) (λ v q. box_in domains (with_part boxes x part) y v over named q) in
    (omega (arith, ints), omega (arith, ints))

pub weighed_free : (domains boxes : Boxes) (items : List (ℕ × ℕ × ℕ)) (x m : ℕ) (part : Ranges) (spare fall low least next : ℤ) (ls : Literals) → IsPart domains boxes items x part → m < length items →
    AreWeighed items domains (with_part boxes x part) m spare ls → low ≡ low_of (box_of (with_part boxes x part) (slice_index_or items m (0, 0, 0)).1) → least ≡ low_of (box_of domains (slice_index_or items m (0, 0, 0)).1) →
    fall ≡ low -ℤ least → next ≡ spare -ℤ fall → fall ≤ℤ spare → AreWeighed items domains (with_part boxes x part) (m + 1) next ls
weighed_free domains boxes items x m part spare fall low least next ls p u w e f g h l = record {
  row = w.row;
  totalled = weigh_free items domains (with_part boxes x part) (length items) m w.row spare next low least ls (part_over domains boxes items x part p) (part_named boxes x part items p.named) u e f (omega (arith, ints)) (omega (arith, ints)) w.totalled;
}

pub weighed_said : (domains boxes : Boxes) (items : List (ℕ × ℕ × ℕ)) (x m : ℕ) (part d s : Ranges) (spare low to : ℤ) (ls last : Literals) → IsPart domains boxes items x part → m < length items →
    AreWeighed items domains (with_part boxes x part) m spare ls → low ≡ low_of (box_of (with_part boxes x part) (slice_index_or items m (0, 0, 0)).1) → d ≡ box_of domains (slice_index_or items m (0, 0, 0)).1 →
    to ≡ low -ℤ spare → IsValid s → ((v : ℤ) → has s v ≡ (has d v && int_lt v to)) → last ≡ said (slice_index_or items m (0, 0, 0)).1 s ls → AreWeighed items domains (with_part boxes x part) (m + 1) (pos 0) last
weighed_said domains boxes items x m part d s spare low to ls last p u w e q g f h n = record {
  row = w.row;
  totalled = subst (λ (z : Literals). AreTotalled items domains (with_part boxes x part) (length items) (m + 1) w.row (pos 0) z) (sym n)
      (weigh_said items domains (with_part boxes x part) (length items) m w.row spare low to s ls (part_over domains boxes items x part p) (part_named boxes x part items p.named) (omega arith) u e g f
      (of_domain d (box_of domains (slice_index_or items m (0, 0, 0)).1) s (λ v. int_lt v to) q h) w.totalled);
}

-- ---- the whole

pub total_begins : (domains boxes : Boxes) (items : List (ℕ × ℕ × ℕ)) (x n : ℕ) (part : Ranges) (first sizes sum : ℤ) (row same : List (ℤ × ℤ)) (ls : Literals) → IsWindow first n items domains → row ≡ best_rooms n first items (with_part boxes x part) →
    sizes ≡ least_sizes items (with_part boxes x part) → same ≡ row → sum ≡ row_sum same → sum <ℤ sizes → ls ≡ [] → AreTotalled items domains (with_part boxes x part) 0 0 row (pos 0) ls
total_begins domains boxes items x n part first sizes sum row same ls w e z a s l none =
    let less : row_sum row <ℤ sizes = subst (λ (b : List (ℤ × ℤ)). row_sum b <ℤ sizes) a (subst (λ (b : ℤ). b <ℤ sizes) s l) in
    subst (λ (q : Literals). AreTotalled items domains (with_part boxes x part) 0 0 row (pos 0) q) (sym none)
    (totalled_none items domains (with_part boxes x part) n first ((first +ℤ pos n) -ℤ pos 1) sizes row e (omega (arith, ints)) (λ k i lt. ((w.covers k i lt).0, let h = (w.covers k i lt).1 in omega (arith, ints))) z less)

pub total_less : (items : List (ℕ × ℕ × ℕ)) (domains boxes : Boxes) (k : ℕ) (sizes sum : ℤ) (row same : List (ℤ × ℤ)) (ls : Literals) → AreTotalled items domains boxes k 0 row (pos 0) ls → sizes ≡ least_sizes items boxes → same ≡ row → sum ≡ row_sum same →
    sum <ℤ sizes
total_less items domains boxes k sizes sum row same ls t z a s =
    let more = t.more in let is = sizes_none items (cut domains ls) boxes in
    let sums : sum ≡ row_sum row = s ∙ ap (λ (b : List (ℤ × ℤ)). row_sum b) a in omega (arith, ints)

pub total_spare : (items : List (ℕ × ℕ × ℕ)) (domains boxes : Boxes) (sizes sum spare : ℤ) (row same : List (ℤ × ℤ)) (ls : Literals) → AreTotalled items domains boxes (length items) 0 row (pos 0) ls → sizes ≡ least_sizes items boxes → same ≡ row → sum ≡ row_sum same →
    pos 0 ≤ℤ spare → ((sum +ℤ pos 1) +ℤ spare) ≤ℤ sizes → AreWeighed items domains boxes 0 spare ls
total_spare items domains boxes sizes sum spare row same ls t z a s some fits =
    let sums : sum ≡ row_sum row = s ∙ ap (λ (b : List (ℤ × ℤ)). row_sum b) a in record {
      row = row;
      totalled = totalled_spare items domains boxes (length items) row spare sizes ls z some (omega (arith, ints)) t;
    }

pub total_reason : (con : Con) (domains boxes : Boxes) (items : List (ℕ × ℕ × ℕ)) (x : ℕ) (part : Ranges) (spare : ℤ) (ls : Literals) → con ≡ Pack items → IsPart domains boxes items x part → AreWeighed items domains (with_part boxes x part) (length items) spare ls →
    IsReason con domains boxes ls
total_reason con domains boxes items x part spare ls e p w = totalled_reason con items domains boxes x part w.row spare ls e p w.totalled
