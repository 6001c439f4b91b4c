-- Rows that follow.
use Rattle.std.proofs.Common.{◌≡◌, ℕ, ◌*◌, ◌^◌, ◌≤◌, Bool, true, false, not, ◌&&◌, ◌||◌, List, [], ℤ, pos, ◌-ℤ◌, unsigned_abs, All, refl, ap, ◌∙◌, arith}
use Rattle.std.proofs.lemmas.Int.{ints}
use Rattle.std.proofs.Math.Nat.{mul-le-mul_left, mul-le-mul_right}
use Rattle.std.proofs.lemmas.List.Elements.{All-weaker}
use Rattle.signed_clause.specs.Clauses.{Boxes}
use Rattle.form_build.specs.Sums.{IsLinear, AreNumbersWithin}
use Rattle.form_build.proofs.Linears.{numbers_within, linear_more}
use Rattle.signed_clause.specs.Ranges.{Ranges, has, count_of}
use Rattle.ground_form.specs.declared.ground.Ground.{Ground}
use Rattle.form_build.specs.declared.form.Linear.{Linear}
use Rattle.form_build.specs.Forms.{linear_at}
use Rattle.form_build.specs.Worlds.{IsWorld, AllHold, Adds, Defines}
use Rattle.form_build.proofs.Growth.{world_before}
use Rattle.packing_sums.specs.declared.packing.Packing.{Packing}
use Rattle.packing_sums.specs.Loads.{sizes_where}
use Rattle.packing_sums.specs.Packings.{IsPacking}
use Rattle.stated_facts.specs.Rows.{Follows}
use Rattle.packing_sums.proofs.LoadLaws.{split, none_there, all_there, set_room}
use Rattle.packing_sums.proofs.PackingLaws.{bins_used}

-- what is stated and follows from what stood says nothing more
pub implied : (old new : Ground) (says : List ℤ → Bool) → ((a : List ℤ) → IsWorld old a → AllHold old a → says a ≡ true) → Adds [] old new says → Defines old new
implied old new says follows added = record {
  grows = added.grows;
  holds = λ a w kn.
      let h = added.holds a w kn in (
        (λ all. ((h.0 all).0, refl)),
        (λ z. h.1 (z.0, follows a (world_before old new a added.grows w) z.0)),
      );
}

small_times : (c n : ℕ) → c ≤ 2 ^ 18 → n ≤ 2 ^ 40 → c * n ≤ 2 ^ 58
small_times c n h k =
    let one = mul-le-mul_left c k in
    let two = mul-le-mul_right (2 ^ 40) h in
    omega (arith, one, two)

row_numbers : (c : ℕ) (ts : List (ℤ × ℕ)) → c ≤ 2 ^ 18 → All (λ t. 1 * unsigned_abs t.0 ≤ 2 ^ 40) ts → All (λ t. c * unsigned_abs t.0 ≤ 2 ^ 62) ts
row_numbers c ts h all =
    All-weaker (λ t. 1 * unsigned_abs t.0 ≤ 2 ^ 40) (λ t. c * unsigned_abs t.0 ≤ 2 ^ 62)
    (λ t k. let product = small_times c (unsigned_abs t.0) h (omega (arith, k)) in omega (arith, product)) ts all

-- a row so many times
pub times_numbers : (boxes : Boxes) (f : Linear) (c : ℤ) → unsigned_abs c ≤ 2 ^ 18 → IsLinear (2 ^ 40) boxes f → AreNumbersWithin (unsigned_abs c) (2 ^ 62) f
times_numbers boxes f c h k =
    let numbers = numbers_within boxes (2 ^ 40) (2 ^ 40) f (omega arith) k in
    record {
      terms = row_numbers (unsigned_abs c) f.terms h numbers.terms;
      offset =
          let one = numbers.offset in
          let product = small_times (unsigned_abs c) (unsigned_abs f.offset) h (omega (arith, one)) in
          omega (arith, product);
    }

pub times_linear : (boxes : Boxes) (f : Linear) (c : ℤ) → unsigned_abs c ≤ 2 ^ 18 → IsLinear (unsigned_abs c * 2 ^ 40) boxes f → IsLinear (2 ^ 58) boxes f
times_linear boxes f c h k = linear_more (unsigned_abs c * 2 ^ 40) (2 ^ 58) boxes f (small_times (unsigned_abs c) (2 ^ 40) h (omega arith)) k

pub few_signed : (v : ℤ) (n : ℕ) → v ≡ pos n → n ≤ 2 ^ 18 → unsigned_abs v ≤ 2 ^ 18
few_signed v n e h = let size = ap unsigned_abs e in omega (arith, size, h)

pub small_signed : (v : ℤ) (n : ℕ) → v ≡ pos n → n ≤ 2 ^ 38 → unsigned_abs v ≤ 2 ^ 38
small_signed v n e h = let size = ap unsigned_abs e in omega (arith, size, h)

pub twice_linear : (boxes : Boxes) (f : Linear) (c : ℤ) → unsigned_abs c ≤ 2 ^ 38 → IsLinear (unsigned_abs c * 2) boxes f → IsLinear (2 ^ 39) boxes f
twice_linear boxes f c h k = linear_more (unsigned_abs c * 2) (2 ^ 39) boxes f (omega (arith, h)) k

-- ---- what the items in a set, and those outside it, have room for

both : (p q : Bool) → p ≡ true → q ≡ true → ((p && q) || false) ≡ true
both p q e f = grind arith

either : (p q : Bool) → p ≡ true → (q || (p && not q)) ≡ true
either p q e = grind arith

pub inside_follows : (g : Ground) (p : Packing) (set there : Ranges) (f row : Linear) (most : ℕ) → IsPacking g p → ((v : ℤ) → has there v ≡ (has p.used v && has set v)) → most ≡ p.room * count_of there → ((a : List ℤ) → IsWorld g a → linear_at f a ≡ pos (sizes_where (has set) p.items.items a)) → ((a : List ℤ) → linear_at row a ≡ (linear_at f a -ℤ pos most)) → Follows g row
inside_follows g p set there f row most h meets room inside less a w all =
    let at = bins_used g p.used p.items.items a h.exist h.used w in
    let parts = split p.used (has set) (has there) (λ v. false) p.items.items a (λ v u e. ap (λ (b : Bool). b || false) (meets v) ∙ both (has p.used v) (has set v) u e) at in
    let none = none_there (λ v. false) p.items.items a (λ v. refl) in
    let fits = set_room p.used there p.room p.items.items a at (h.fits a w all) in
    let value = inside a w in
    let row_is = less a in
    omega (arith, ints, parts, none, fits, room, value, row_is)

pub outside_follows : (g : Ground) (p : Packing) (set rest : Ranges) (f outside row : Linear) (most : ℕ) → IsPacking g p → ((v : ℤ) → has rest v ≡ (has p.used v && not (has set v))) → most ≡ p.room * count_of rest → ((a : List ℤ) → IsWorld g a → linear_at f a ≡ pos (sizes_where (has set) p.items.items a)) → ((a : List ℤ) → linear_at outside a ≡ (pos p.whole -ℤ linear_at f a)) → ((a : List ℤ) → linear_at row a ≡ (linear_at outside a -ℤ pos most)) → Follows g row
outside_follows g p set rest f outside row most h others room inside turned less a w all =
    let at = bins_used g p.used p.items.items a h.exist h.used w in
    let parts = split p.used (has p.used) (has set) (has rest) p.items.items a (λ v u e. ap (λ (b : Bool). has set v || b) (others v) ∙ either (has p.used v) (has set v) u) at in
    let whole = all_there (has p.used) p.items.items a at in
    let total = h.whole in
    let fits = set_room p.used rest p.room p.items.items a at (h.fits a w all) in
    let value = inside a w in
    let out = turned a in
    let row_is = less a in
    omega (arith, ints, parts, whole, total, fits, room, value, out, row_is)
