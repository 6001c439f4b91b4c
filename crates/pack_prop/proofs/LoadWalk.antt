-- What each call of the walk that explains a load comes to.
use Rattle.std.proofs.Common.{◌≡◌, ℕ, ◌+◌, ◌<◌, Bool, true, false, ◌&&◌, cond, List, ℤ, pos, ◌+ℤ◌, ◌-ℤ◌, ◌≤ℤ◌, ◌<ℤ◌, length, refl, arith, subst, sym, ap, ◌∙◌}
use Rattle.std.specs.Prelude.{int_lt, slice_index_or}
use Rattle.std.proofs.lemmas.Int.{ints}
use Rattle.signed_clause.specs.Ranges.{Ranges, has, IsValid}
use Rattle.signed_clause.specs.SetAlgebra.{less}
use Rattle.signed_clause.specs.Clauses.{Boxes, Literals, box_of}
use Rattle.signed_clause.proofs.RangeSteps.{has-less_valid, IsValid-less}
use Rattle.ground_form.specs.declared.con.Con.{Con}
use Rattle.ground_form.specs.declared.con.Con.TheVariants.{Pack}
use Rattle.ground_form.specs.Bounds.{low_of, high_of}
use Rattle.box_view.specs.Views.{cut}
use Rattle.rule_law.specs.Reasons.{IsReason}
use Rattle.box_rules.specs.Refuted.{fixed_at, fixed_load}
use Rattle.pack_prop.specs.Collected.{said, AreCollected}
use Rattle.pack_prop.specs.LoadSteps.{AreOverfull}
use Rattle.pack_prop.specs.Sources.{with_part, IsPart, IsOverfilled}
use Rattle.pack_prop.proofs.Collecting.{said_collected, said_more}
use Rattle.pack_prop.proofs.CutBoxes.{cut_high}
use Rattle.pack_prop.proofs.LoadReason.{bin_said, bin_fixed, loaded_free, loaded_said, loaded_none, loaded_reason}
use Rattle.pack_prop.proofs.TotalReason.{part_over, part_named}
use Rattle.pack_prop.proofs.TotalWalk.{sizes_order}

pub over_begins : (domains boxes : Boxes) (items : List (ℕ × ℕ × ℕ)) (x k : ℕ) (part : Ranges) (v room load spare : ℤ) (old new : Literals) → IsPart domains boxes items x part → IsOverfilled v items (with_part boxes x part) k → AreCollected (with_part boxes x part) old →
    high_of (box_of (cut domains old) (slice_index_or items k (0, 0, 0)).2) ≤ℤ room → new ≡ said (slice_index_or items k (0, 0, 0)).0 (less (box_of domains (slice_index_or items k (0, 0, 0)).0) (box_of (with_part boxes x part) (slice_index_or items k (0, 0, 0)).0)) old →
    load ≡ fixed_load v items (with_part boxes x part) → pos 0 ≤ℤ spare → ((room +ℤ pos 1) +ℤ spare) ≤ℤ load → AreOverfull v items domains (with_part boxes x part) 0 spare new
over_begins domains boxes items x k part v room load spare old new p o c u e l some fits =
    let i = slice_index_or items k (0, 0, 0) in
    let over = part_over domains boxes items x part p in
    let b = with_part boxes x part in
    let n = part_named boxes x part items p.named k (0, 0, 0) o.there in
    let s = less (box_of domains i.0) (box_of b i.0) in
    let valid = IsValid-less (box_of domains i.0) (box_of b i.0) (over.domain_sets i.0) (over.box_sets i.0) in
    let values = has-less_valid (box_of domains i.0) (box_of b i.0) (over.domain_sets i.0) (over.box_sets i.0) in
    let bin = bin_said domains b i.0 s over n.bin valid values in
    let next = said_collected b i.0 s old over.box_sets bin c in
    let more = said_more b i.0 s old valid c in
    subst (λ (z : Literals). AreOverfull v items domains b 0 spare z) (sym e)
    (record {
      index = k;
      there = o.there;
      room = room;
      loaded = loaded_none v i items domains b room spare load (said i.0 s old) next (bin_fixed domains b i.0 v s old over n.bin c bin values o.fixed)
          (let high = cut_high domains b old (said i.0 s old) i.2 over c next more n.room in omega (arith, ints)) l some fits;
    })

none_added : (f : Bool) (low : ℤ) → (f ≡ true → ⊥) → cond f low (pos 0) ≡ pos 0
none_added true low h = absurd (h refl)
none_added false low h = refl

all_added : (f : Bool) (low : ℤ) → f ≡ true → cond f low (pos 0) ≡ low
all_added true low h = refl
all_added false low h = absurd cc

-- the item's bin isn't fixed there
pub over_open : (domains boxes : Boxes) (items : List (ℕ × ℕ × ℕ)) (x m : ℕ) (part : Ranges) (v spare : ℤ) (ls : Literals) → IsPart domains boxes items x part → m < length items → (fixed_at (box_of (with_part boxes x part) (slice_index_or items m (0, 0, 0)).0) v ≡ true → ⊥) →
    AreOverfull v items domains (with_part boxes x part) m spare ls → AreOverfull v items domains (with_part boxes x part) (m + 1) spare ls
over_open domains boxes items x m part v spare ls p u f w =
    let j = slice_index_or items m (0, 0, 0) in let b = with_part boxes x part in
    let none = none_added (fixed_at (box_of b j.0) v) (low_of (box_of b j.1)) f in record {
      index = w.index;
      there = w.there;
      room = w.room;
      loaded = loaded_free v (slice_index_or items w.index (0, 0, 0)) items domains b m w.room spare spare ls (part_over domains boxes items x part p) (part_named boxes x part items p.named) p.sizes u w.loaded.some (omega (arith, ints)) w.loaded;
    }

-- its least size is to spare
pub over_spared : (domains boxes : Boxes) (items : List (ℕ × ℕ × ℕ)) (x m : ℕ) (part : Ranges) (v spare low next : ℤ) (ls : Literals) → IsPart domains boxes items x part → m < length items → fixed_at (box_of (with_part boxes x part) (slice_index_or items m (0, 0, 0)).0) v ≡ true →
    low ≡ low_of (box_of (with_part boxes x part) (slice_index_or items m (0, 0, 0)).1) → next ≡ spare -ℤ low → low ≤ℤ spare →
    AreOverfull v items domains (with_part boxes x part) m spare ls → AreOverfull v items domains (with_part boxes x part) (m + 1) next ls
over_spared domains boxes items x m part v spare low next ls p u f e n l w =
    let j = slice_index_or items m (0, 0, 0) in let b = with_part boxes x part in
    let all = all_added (fixed_at (box_of b j.0) v) (low_of (box_of b j.1)) f in record {
      index = w.index;
      there = w.there;
      room = w.room;
      loaded = loaded_free v (slice_index_or items w.index (0, 0, 0)) items domains b m w.room spare next ls (part_over domains boxes items x part p) (part_named boxes x part items p.named) p.sizes u (omega (arith, ints)) (omega (arith, ints)) w.loaded;
    }

-- its bin and its size are said
pub over_said : (domains boxes : Boxes) (items : List (ℕ × ℕ × ℕ)) (x m : ℕ) (part d s : Ranges) (v spare low : ℤ) (ls mid last : Literals) → IsPart domains boxes items x part → m < length items → fixed_at (box_of (with_part boxes x part) (slice_index_or items m (0, 0, 0)).0) v ≡ true →
    low ≡ low_of (box_of (with_part boxes x part) (slice_index_or items m (0, 0, 0)).1) →
    mid ≡ said (slice_index_or items m (0, 0, 0)).0 (less (box_of domains (slice_index_or items m (0, 0, 0)).0) (box_of (with_part boxes x part) (slice_index_or items m (0, 0, 0)).0)) ls →
    d ≡ box_of domains (slice_index_or items m (0, 0, 0)).1 → IsValid s → ((w : ℤ) → has s w ≡ (has d w && int_lt w low)) → last ≡ said (slice_index_or items m (0, 0, 0)).1 s mid →
    AreOverfull v items domains (with_part boxes x part) m spare ls → AreOverfull v items domains (with_part boxes x part) (m + 1) spare last
over_said domains boxes items x m part d s v spare low ls mid last p u f e q r g h n w =
    let j = slice_index_or items m (0, 0, 0) in let b = with_part boxes x part in
    let over = part_over domains boxes items x part p in
    let named = part_named boxes x part items p.named in
    let t = less (box_of domains j.0) (box_of b j.0) in
    subst (λ (z : Literals). AreOverfull v items domains b (m + 1) spare z) (sym (n ∙ ap (λ (z : Literals). said j.1 s z) q))
    (record {
      index = w.index;
      there = w.there;
      room = w.room;
      loaded = loaded_said v (slice_index_or items w.index (0, 0, 0)) items domains b m w.room spare low t s ls over named (named w.index (0, 0, 0) w.there) p.sizes u f e
          (IsValid-less (box_of domains j.0) (box_of b j.0) (over.domain_sets j.0) (over.box_sets j.0)) g (has-less_valid (box_of domains j.0) (box_of b j.0) (over.domain_sets j.0) (over.box_sets j.0))
          (λ z. h z ∙ ap (λ (c : Ranges). has c z && int_lt z low) r) w.loaded;
    })

pub over_reason : (con : Con) (domains boxes : Boxes) (items : List (ℕ × ℕ × ℕ)) (x : ℕ) (part : Ranges) (v spare : ℤ) (ls : Literals) → con ≡ Pack items → IsPart domains boxes items x part → AreOverfull v items domains (with_part boxes x part) (length items) spare ls →
    IsReason con domains boxes ls
over_reason con domains boxes items x part v spare ls e p w = loaded_reason con v w.index items domains boxes x part w.room spare ls e p w.there w.loaded

pub over_less : (v : ℤ) (items : List (ℕ × ℕ × ℕ)) (boxes : Boxes) (k : ℕ) (room total load : ℤ) → IsOverfilled v items boxes k → room ≡ high_of (box_of boxes (slice_index_or items k (0, 0, 0)).2) → total ≡ room → load ≡ fixed_load v items boxes → total <ℤ load
over_less v items boxes k room total load o r t l = let over = o.over in grind (arith, ints)

pub size_ge : (domains boxes : Boxes) (items : List (ℕ × ℕ × ℕ)) (x m : ℕ) (part : Ranges) (low : ℤ) → IsPart domains boxes items x part → m < length items → low ≡ low_of (box_of (with_part boxes x part) (slice_index_or items m (0, 0, 0)).1) → pos 0 ≤ℤ low
size_ge domains boxes items x m part low p u e =
    let order = sizes_order domains boxes items x m part low (low_of (box_of domains (slice_index_or items m (0, 0, 0)).1)) p u e refl in
    let from = order.0 in let to = order.1 in omega (arith, ints)
