-- What follows from values of variables.
use Rattle.std.proofs.Common.{◌≡◌, ℕ, zero, suc, Bool, true, false, ◌&&◌, not, List, [], ◌∷◌, ◌++◌, ℤ, pos, negsuc, ◌+ℤ◌, ◌*ℤ◌, ◌<ℤ◌, ◌≤ℤ◌, int_le, Contains, All, refl, sym, ap, ◌∙◌, subst, arith}
use Rattle.std.specs.Ordering.{int_eq}
use Rattle.std.proofs.lemmas.Bool.{and_parts}
use Rattle.std.proofs.lemmas.Bool.Decides.{Decides-int_eq}
use Rattle.std.proofs.lemmas.Int.{ints}
use Rattle.std.proofs.lemmas.List.Elements.{All-nil, All-cons, All-head, All-tail, All-push, All-contains}
use Rattle.std.proofs.Math.IntN.{suc_ℤ-*ℤ}
use Rattle.signed_clause.specs.Ranges.{Ranges, has, IsValid}
use Rattle.signed_clause.specs.Clauses.{Boxes, box_of}
use Rattle.ground_form.specs.declared.con.Con.{Con}
use Rattle.ground_form.specs.declared.con.Con.TheVariants.{MemberDef, AndDef, ReifLe, LinDef}
use Rattle.ground_form.specs.declared.ground.Ground.{Ground}
use Rattle.ground_form.specs.Meaning.{value_of, bit, sum_at, parts_true, con_true}
use Rattle.ground_form.proofs.Ends.{low_le}
use Rattle.form_build.specs.Worlds.{IsInBoxes, AllHold, AreKnown}
use Rattle.stated_facts.specs.declared.claims.Claims.{Claims}
use Rattle.stated_facts.specs.Claims.{IsLoad, AreZero, Hold, Leads}
use Rattle.stated_facts.proofs.NoughtLaws.{pos_above, neg_below}

-- ---- one claim more

pub value_claimed : (a : List ℤ) (old new : List (ℕ × ℤ)) (x : ℕ) (v : ℤ) → new ≡ old ++ (x, v) ∷ [] → value_of a x ≡ v → AreKnown old a → AreKnown new a
value_claimed a old new x v e is h = subst (λ (z : List (ℕ × ℤ)). AreKnown z a) (sym e) (All-push (λ (k : ℕ × ℤ). value_of a k.0 ≡ k.1) old (x, v) h is)

pub other_claimed : (a : List ℤ) (old new : List (ℕ × ℕ)) (x v : ℕ) → new ≡ old ++ (x, v) ∷ [] → int_eq (value_of a x) (pos v) ≡ false → All (λ q. int_eq (value_of a q.0) (pos q.1) ≡ false) old → All (λ q. int_eq (value_of a q.0) (pos q.1) ≡ false) new
other_claimed a old new x v e is h =
    subst (λ (z : List (ℕ × ℕ)). All (λ (q : ℕ × ℕ). int_eq (value_of a q.0) (pos q.1) ≡ false) z) (sym e)
    (All-push (λ (q : ℕ × ℕ). int_eq (value_of a q.0) (pos q.1) ≡ false) old (x, v) h is)

-- ---- flags that ask about a variable

pub bit_true : (b : Bool) (v : ℤ) → v ≡ bit b → v ≡ pos 1 → b ≡ true
bit_true true v e h = refl
bit_true false v e h = absurd (omega (arith, ints, e, h))

pub bit_false : (b : Bool) (v : ℤ) → v ≡ bit b → v ≡ pos 0 → b ≡ false
bit_false true v e h = absurd (omega (arith, ints, e, h))
bit_false false v e h = refl

pub left_inside : (at set left : Ranges) (v : ℤ) → ((w : ℤ) → has left w ≡ (has at w && has set w)) → has at v ≡ true → has set v ≡ true → has left v ≡ true
left_inside at set left v meets there h = meets v ∙ ap (λ (b : Bool). b && has set v) there ∙ h

pub left_outside : (at set left : Ranges) (v : ℤ) → ((w : ℤ) → has left w ≡ (has at w && not (has set w))) → has at v ≡ true → has set v ≡ false → has left v ≡ true
left_outside at set left v less there h = less v ∙ ap (λ (b : Bool). b && not (has set v)) there ∙ ap not h

only_one : (v w : ℤ) → has ((v, v) ∷ []) w ≡ true → w ≡ v
only_one v w h = grind (arith, ints)

not_one : (v w : ℤ) → has ((v, v) ∷ []) w ≡ false → int_eq w v ≡ false
not_one v w h = grind (arith, ints)

pub single_is : (left : Ranges) (v w : ℤ) → left ≡ (v, v) ∷ [] → has left w ≡ true → w ≡ v
single_is left v w e h = only_one v w (subst (λ (z : Ranges). has z w ≡ true) e h)

pub other_is : (set : Ranges) (v : ℕ) (w : ℤ) → set ≡ (pos v, pos v) ∷ [] → has set w ≡ false → int_eq w (pos v) ≡ false
other_is set v w e h = not_one (pos v) w (subst (λ (z : Ranges). has z w ≡ false) e h)

-- ---- parts

pub parts_known : (ps : List (ℕ × Bool)) (a : List ℤ) → parts_true ps a ≡ true → All (λ p. value_of a p.0 ≡ bit p.1) ps
parts_known [] a h = All-nil (λ (p : ℕ × Bool). value_of a p.0 ≡ bit p.1)
parts_known (p ∷ ps) a h =
    let parts = and_parts (int_eq (value_of a p.0) (bit p.1)) (parts_true ps a) h in
    All-cons (λ (q : ℕ × Bool). value_of a q.0 ≡ bit q.1) p ps ((Decides-int_eq (value_of a p.0) (bit p.1)).0 parts.0) (parts_known ps a parts.1)

pub flag_parts : (ps : List (ℕ × Bool)) (a : List ℤ) (v : ℤ) → v ≡ bit (parts_true ps a) → v ≡ pos 1 → parts_true ps a ≡ true
flag_parts ps a v e h = bit_true (parts_true ps a) v e h

-- ---- sums

-- what stands in the problem
is_defined : (g : Ground) (c : Con) (a : List ℤ) (v w : ℤ) → Contains g.cons c → AllHold g a → con_true c a ≡ int_eq v w → v ≡ w
is_defined g c a v w there all e = (Decides-int_eq v w).0 (sym e ∙ All-contains (λ (d : Con). con_true d a ≡ true) g.cons c all there)

module _ (g : Ground) (k : ℕ × ℤ) (x : ℕ) (old new : Claims) (e : x ≡ k.0) where
  leads : (c : Con) (w : List ℤ → ℤ) → Contains g.cons c → ((a : List ℤ) → con_true c a ≡ int_eq (value_of a x) (w a)) → ((a : List ℤ) → IsInBoxes g.domains a → k.1 ≡ w a → Hold old a → Hold new a) → Leads g k old new
  leads c w there means h a world all is held =
      h a world.within (sym is ∙ ap (value_of a) (sym e) ∙ is_defined g c a (value_of a x) (w a) there all (means a)) held

  pub member_leads : (y : ℕ) (set : Ranges) → Contains g.cons (MemberDef x y set) → ((a : List ℤ) → IsInBoxes g.domains a → k.1 ≡ bit (has set (value_of a y)) → Hold old a → Hold new a) → Leads g k old new
  member_leads y set there h = leads (MemberDef x y set) (λ a. bit (has set (value_of a y))) there (λ a. refl) h

  pub parts_lead : (ps : List (ℕ × Bool)) → Contains g.cons (AndDef x ps) → ((a : List ℤ) → k.1 ≡ bit (parts_true ps a) → Hold old a → Hold new a) → Leads g k old new
  parts_lead ps there h = leads (AndDef x ps) (λ a. bit (parts_true ps a)) there (λ a. refl) (λ a within is held. h a is held)

  pub bound_leads : (ts : List (ℤ × ℕ)) (bound : ℤ) → Contains g.cons (ReifLe x ts bound) → ((a : List ℤ) → IsInBoxes g.domains a → k.1 ≡ bit (int_le (sum_at ts a) bound) → Hold old a → Hold new a) → Leads g k old new
  bound_leads ts bound there h = leads (ReifLe x ts bound) (λ a. bit (int_le (sum_at ts a) bound)) there (λ a. refl) h

  pub sum_leads : (ts : List (ℤ × ℕ)) (offset : ℤ) → Contains g.cons (LinDef x ts offset) → ((a : List ℤ) → IsInBoxes g.domains a → k.1 ≡ (sum_at ts a +ℤ offset) → Hold old a → Hold new a) → Leads g k old new
  sum_leads ts offset there h = leads (LinDef x ts offset) (λ a. sum_at ts a +ℤ offset) there (λ a. refl) h

term_up : (c v : ℤ) → pos 0 <ℤ c → pos 0 ≤ℤ v → v ≤ℤ (c *ℤ v)
term_up (pos zero) v h k = absurd (omega (arith, ints, h))
term_up (pos (suc n)) v h k =
    let step : (pos (suc n) *ℤ v) ≡ ((pos n *ℤ v) +ℤ v) = suc_ℤ-*ℤ (pos n) v in
    let above = pos_above n v k in
    omega (arith, ints, step, above)
term_up (negsuc n) v h k = absurd (omega (arith, ints, h))

term_down : (c v : ℤ) → c <ℤ pos 0 → pos 0 ≤ℤ v → ((c *ℤ v) +ℤ v) ≤ℤ pos 0
term_down (pos n) v h k = absurd (omega (arith, ints, h))
term_down (negsuc zero) v h k =
    let step : (pos 0 *ℤ v) ≡ ((negsuc 0 *ℤ v) +ℤ v) = suc_ℤ-*ℤ (negsuc 0) v in
    let below = neg_below 0 v k in
    omega (arith, ints, step, below)
term_down (negsuc (suc n)) v h k =
    let step : (negsuc n *ℤ v) ≡ ((negsuc (suc n) *ℤ v) +ℤ v) = suc_ℤ-*ℤ (negsuc (suc n)) v in
    let below = neg_below (suc n) v k in
    omega (arith, ints, step, below)

module _ (boxes : Boxes) (a : List ℤ) (valid : All (λ d. IsValid d) boxes) (within : IsInBoxes boxes a) where
  above : (rises : Bool) (t : ℤ × ℕ) → IsLoad boxes rises t → pos 0 ≤ℤ value_of a t.1
  above rises t h =
      let low = low_le (box_of boxes t.1) (value_of a t.1) (valid t.1 [] h.exists) (within t.1 h.exists) in
      let some = h.some in
      omega (arith, ints, low, some)

  sum_up : (ts : List (ℤ × ℕ)) → All (IsLoad boxes true) ts → pos 0 ≤ℤ sum_at ts a
  sum_up [] all = omega (arith, ints)
  sum_up (t ∷ ts) all =
      let one = All-head (IsLoad boxes true) t ts all in
      let some = above true t one in
      let term = term_up t.0 (value_of a t.1) (one.up refl) some in
      let rest = sum_up ts (All-tail (IsLoad boxes true) t ts all) in
      omega (arith, ints, some, term, rest)

  sum_down : (ts : List (ℤ × ℕ)) → All (IsLoad boxes false) ts → sum_at ts a ≤ℤ pos 0
  sum_down [] all = omega (arith, ints)
  sum_down (t ∷ ts) all =
      let one = All-head (IsLoad boxes false) t ts all in
      let some = above false t one in
      let term = term_down t.0 (value_of a t.1) (one.down refl) some in
      let rest = sum_down ts (All-tail (IsLoad boxes false) t ts all) in
      omega (arith, ints, some, term, rest)

  zeros_up : (ts : List (ℤ × ℕ)) → All (IsLoad boxes true) ts → sum_at ts a ≤ℤ pos 0 → AreZero ts a
  zeros_up [] all le = All-nil (λ (t : ℤ × ℕ). value_of a t.1 ≡ pos 0)
  zeros_up (t ∷ ts) all le =
      let one = All-head (IsLoad boxes true) t ts all in
      let some = above true t one in
      let term = term_up t.0 (value_of a t.1) (one.up refl) some in
      let rest = sum_up ts (All-tail (IsLoad boxes true) t ts all) in
      All-cons (λ (u : ℤ × ℕ). value_of a u.1 ≡ pos 0) t ts (omega (arith, ints, some, term, rest, le))
      (zeros_up ts (All-tail (IsLoad boxes true) t ts all) (omega (arith, ints, some, term, le)))

  zeros_down : (ts : List (ℤ × ℕ)) → All (IsLoad boxes false) ts → pos 0 ≤ℤ sum_at ts a → AreZero ts a
  zeros_down [] all le = All-nil (λ (t : ℤ × ℕ). value_of a t.1 ≡ pos 0)
  zeros_down (t ∷ ts) all le =
      let one = All-head (IsLoad boxes false) t ts all in
      let some = above false t one in
      let term = term_down t.0 (value_of a t.1) (one.down refl) some in
      let rest = sum_down ts (All-tail (IsLoad boxes false) t ts all) in
      All-cons (λ (u : ℤ × ℕ). value_of a u.1 ≡ pos 0) t ts (omega (arith, ints, some, term, rest, le))
      (zeros_down ts (All-tail (IsLoad boxes false) t ts all) (omega (arith, ints, some, term, le)))

  pub are_zero : (rises : Bool) (ts : List (ℤ × ℕ)) → All (IsLoad boxes rises) ts → (rises ≡ true → sum_at ts a ≤ℤ pos 0) → (rises ≡ false → pos 0 ≤ℤ sum_at ts a) → AreZero ts a
  are_zero true ts all up down = zeros_up ts all (up refl)
  are_zero false ts all up down = zeros_down ts all (down refl)

-- a sum that is at most a bound, or isn't
pub bounded_up : (value s bound : ℤ) → value ≡ bit (int_le s bound) → value ≡ pos 1 → bound ≤ℤ pos 0 → s ≤ℤ pos 0
bounded_up value s bound e h le = at_most s bound (bit_true (int_le s bound) value e h) le
  where
    at_most : (s bound : ℤ) → int_le s bound ≡ true → bound ≤ℤ pos 0 → s ≤ℤ pos 0
    at_most s bound t le = grind (arith, ints)

pub bounded_down : (value s bound : ℤ) → value ≡ bit (int_le s bound) → value ≡ pos 0 → negsuc 0 ≤ℤ bound → pos 0 ≤ℤ s
bounded_down value s bound e h le = more s bound (bit_false (int_le s bound) value e h) le
  where
    more : (s bound : ℤ) → int_le s bound ≡ false → negsuc 0 ≤ℤ bound → pos 0 ≤ℤ s
    more s bound t le = grind (arith, ints)
