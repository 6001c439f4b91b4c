-- Literals that say of variables that they are in their domains and outside what a reason leaves of
-- them.
use Rattle.std.proofs.Common.{◌≡◌, ℕ, suc, zero, ◌<◌, ◌==◌, Bool, true, false, not, ◌&&◌, ◌||◌, cond, List, [], ◌∷◌, ◌++◌, ℤ, All, length, is_some, Some, None, arith, refl, ap, sym, subst, ◌∙◌}
use Rattle.std.proofs.lemmas.Bool.{and_parts, false_from_ne_true}
use Rattle.signed_clause.specs.Ranges.{Ranges, has, is_nil, IsValid}
use Rattle.signed_clause.specs.SetAlgebra.{is_disjoint, is_within, less, meet}
use Rattle.signed_clause.specs.Clauses.{Boxes, Literal, Literals, box_of, set_of, false_in, unit_of, alone_of}
use Rattle.signed_clause.proofs.RangeSteps.{has-less_valid, IsValid-less}
use Rattle.signed_clause.proofs.SetFacts.{disjoint_law, within_law, same_law}
use Rattle.ground_form.specs.declared.con.Con.{Con}
use Rattle.ground_form.specs.Meaning.{clause_vars, vars_of}
use Rattle.box_rules.specs.Refuted.{refuted}
use Rattle.box_view.specs.Views.{cut}
use Rattle.box_rules.specs.Justified.{justified}
use Rattle.box_rules.specs.Named.{Agree}
use Rattle.rule_law.specs.Reasons.{has_number, no_repeat, Acts, IsReason, kept_one, kept}
use Rattle.box_view.proofs.CutLaws.{cut_box}
use Rattle.box_rules.proofs.Agreeing.{agree_refuted}

-- ---- sets

-- what a domain has beside a part of it, taken away, leaves the part
pub rest_rest : (d s : Ranges) → IsValid d → IsValid s → is_within s d ≡ true → less d (less d s) ≡ s
rest_rest d s f g h =
    let sub = (within_law s d g f).0 h in
    (same_law (less d (less d s)) s (IsValid-less d (less d s) f (IsValid-less d s f g)) g).1 (λ v.
    let outer = has-less_valid d (less d s) f (IsValid-less d s f g) v in
    let inner = has-less_valid d s f g v in
    let part = sub v in grind arith)

-- what a domain has beside a set has nothing in common with a box within the set
pub rest_apart : (d s b : Ranges) → IsValid d → IsValid s → IsValid b → is_within b s ≡ true → is_disjoint (less d s) b ≡ true
rest_apart d s b f g k h =
    let sub = (within_law b s k g).0 h in
    (disjoint_law (less d s) b (IsValid-less d s f g) k).1 (λ v q.
    let e = has-less_valid d s f g v in
    let part = sub v in false_from_ne_true (has b v) (λ r. let p = part r in grind arith))

-- a box that has a value of the set isn't within what a domain has beside the set
pub rest_takes : (d s b : Ranges) (v : ℤ) → IsValid d → IsValid s → IsValid b → has b v ≡ true → has s v ≡ true → is_within b (less d s) ≡ false
rest_takes d s b v f g k h t =
    false_from_ne_true (is_within b (less d s)) (λ q.
    let in_rest = (within_law b (less d s) k (IsValid-less d s f g)).0 q v h in
    let e = has-less_valid d s f g v in grind arith)

-- ---- lists of numbers

same_number : (y x : ℕ) → (y == x) ≡ true → y ≡ x
same_number y x h = grind arith

-- what stands in the list isn't what doesn't
other_number : (z x y : ℕ) (xs : List ℕ) → has_number z xs ≡ true → has_number y xs ≡ false → x ≡ y → (z == x) ≡ false
other_number z x y xs q none same = false_from_ne_true (z == x) (λ e. let zx = same_number z x e in let is : has_number z xs ≡ has_number y xs = ap (λ (k : ℕ). has_number k xs) (zx ∙ same) in grind arith)

-- ---- the literals

kept_missing : (y : ℕ) (domains : Boxes) (leaves : ℕ → Ranges) (xs : List ℕ) → has_number y xs ≡ false → has_number y (clause_vars (kept domains leaves xs)) ≡ false
kept_missing y domains leaves [] h = refl
kept_missing y domains leaves (x ∷ xs) h = let more = kept_missing y domains leaves xs in grind arith

pub kept_differ : (domains : Boxes) (leaves : ℕ → Ranges) (xs : List ℕ) → no_repeat xs ≡ true → no_repeat (clause_vars (kept domains leaves xs)) ≡ true
kept_differ domains leaves [] h = refl
kept_differ domains leaves (x ∷ xs) h =
    let more = kept_differ domains leaves xs in let none = kept_missing x domains leaves xs in grind arith

-- a property of every literal that is kept
pub one_all : (P : Literal → Type 0) (b : Bool) (l : Literal) (rest : Literals) → (b ≡ false → P l) → All P rest → All P (cond b rest (l ∷ rest))
one_all P true l rest h a k d lt = a k d lt
one_all P false l rest h a zero d lt = h refl
one_all P false l rest h a (suc k) d lt = a k d (omega arith)

kept_all : (P : Literal → Type 0) (domains : Boxes) (leaves : ℕ → Ranges) (xs : List ℕ) →
    ((x : ℕ) → has_number x xs ≡ true → is_nil (less (box_of domains x) (leaves x)) ≡ false → P (x, less (box_of domains x) (leaves x))) → All P (kept domains leaves xs)
kept_all P domains leaves [] h k d lt = absurd (omega arith)
kept_all P domains leaves (x ∷ xs) h k d lt =
    one_all P (is_nil (less (box_of domains x) (leaves x))) (x, less (box_of domains x) (leaves x)) (kept domains leaves xs)
    (h x (grind arith)) (kept_all P domains leaves xs (λ y q. h y (grind arith))) k d lt

pub kept_some : (domains : Boxes) (leaves : ℕ → Ranges) (xs : List ℕ) → All (λ l. is_nil l.1 ≡ false) (kept domains leaves xs)
kept_some domains leaves xs = kept_all (λ l. is_nil l.1 ≡ false) domains leaves xs (λ x q n. n)

pub kept_sets : (domains : Boxes) (leaves : ℕ → Ranges) (xs : List ℕ) → ((x : ℕ) → IsValid (box_of domains x)) → ((x : ℕ) → has_number x xs ≡ true → IsValid (leaves x)) → All (λ l. IsValid l.1) (kept domains leaves xs)
kept_sets domains leaves xs f g = kept_all (λ l. IsValid l.1) domains leaves xs (λ x q n. IsValid-less (box_of domains x) (leaves x) (f x) (g x q))

pub kept_named : (n : ℕ) (domains : Boxes) (leaves : ℕ → Ranges) (xs : List ℕ) → ((x : ℕ) → has_number x xs ≡ true → x < n) → All (λ l. l.0 < n) (kept domains leaves xs)
kept_named n domains leaves xs h = kept_all (λ l. l.0 < n) domains leaves xs (λ x q m. h x q)

pub kept_false : (domains boxes : Boxes) (leaves : ℕ → Ranges) (xs : List ℕ) → ((x : ℕ) → has_number x xs ≡ true → is_disjoint (less (box_of domains x) (leaves x)) (box_of boxes x) ≡ true) → false_in boxes (kept domains leaves xs) ≡ true
kept_false domains boxes leaves [] h = refl
kept_false domains boxes leaves (x ∷ xs) h =
    let more = kept_false domains boxes leaves xs (λ y q. h y (grind arith)) in
    let one = h x (grind arith) in grind arith

-- ---- what the literals say of a variable

pub set_one : (x y : ℕ) (s : Ranges) (rest : Literals) → (y == x) ≡ false → set_of (kept_one y s rest) x ≡ set_of rest x
set_one x y [] rest h = refl
set_one x y (r ∷ s) rest h = grind arith

set_missing : (x : ℕ) (domains : Boxes) (leaves : ℕ → Ranges) (xs : List ℕ) → has_number x xs ≡ false → set_of (kept domains leaves xs) x ≡ []
set_missing x domains leaves [] h = refl
set_missing x domains leaves (y ∷ xs) h =
    set_one x y (less (box_of domains y) (leaves y)) (kept domains leaves xs) (grind arith) ∙ set_missing x domains leaves xs (grind arith)

pub set_here : (x : ℕ) (s : Ranges) (rest : Literals) → set_of rest x ≡ [] → set_of (kept_one x s rest) x ≡ s
set_here x [] rest h = h
set_here x (r ∷ s) rest h = grind arith

pub kept_set : (x : ℕ) (domains : Boxes) (leaves : ℕ → Ranges) (xs : List ℕ) → no_repeat xs ≡ true → has_number x xs ≡ true → set_of (kept domains leaves xs) x ≡ less (box_of domains x) (leaves x)
kept_set x domains leaves [] d h = absurd (grind arith)
kept_set x domains leaves (y ∷ xs) d h =
    let p = and_parts (not (has_number y xs)) (no_repeat xs) d in
    let none : has_number y xs ≡ false = grind arith in
    elim (y == x) as (λ b. (y == x) ≡ b → set_of (kept domains leaves (y ∷ xs)) x ≡ less (box_of domains x) (leaves x)) [
      | true ↦ λ e. subst (λ (z : ℕ). set_of (kept domains leaves (y ∷ xs)) z ≡ less (box_of domains z) (leaves z)) (same_number y x e)
          (set_here y (less (box_of domains y) (leaves y)) (kept domains leaves xs) (set_missing y domains leaves xs none))
      | false ↦ λ e. set_one x y (less (box_of domains y) (leaves y)) (kept domains leaves xs) e ∙ kept_set x domains leaves xs p.1 (grind arith)
    ] refl

-- a variable of the list keeps what is left of it
pub kept_cut : (x : ℕ) (domains : Boxes) (leaves : ℕ → Ranges) (xs : List ℕ) → no_repeat xs ≡ true → has_number x xs ≡ true → IsValid (box_of domains x) → IsValid (leaves x) → is_within (leaves x) (box_of domains x) ≡ true →
    box_of (cut domains (kept domains leaves xs)) x ≡ leaves x
kept_cut x domains leaves xs d h f g n =
    cut_box domains (kept domains leaves xs) x ∙ ap (λ (s : Ranges). less (box_of domains x) s) (kept_set x domains leaves xs d h) ∙ rest_rest (box_of domains x) (leaves x) f g n

-- what is left of the list's variables is as they say, and their domains allow it
pub record AreLeft (domains : Boxes) (leaves : ℕ → Ranges) (xs : List ℕ) : Type 0 where
  pub differ : no_repeat xs ≡ true
  pub domains_valid : (x : ℕ) → IsValid (box_of domains x)
  pub valid : (x : ℕ) → has_number x xs ≡ true → IsValid (leaves x)
  pub within : (x : ℕ) → has_number x xs ≡ true → is_within (leaves x) (box_of domains x) ≡ true

agree_left : (domains b : Boxes) (leaves : ℕ → Ranges) (xs ys : List ℕ) → AreLeft domains leaves xs → ((y : ℕ) → has_number y ys ≡ true → has_number y xs ≡ true) → ((y : ℕ) → has_number y ys ≡ true → box_of b y ≡ leaves y) →
    Agree (cut domains (kept domains leaves xs)) b ys
agree_left domains b leaves xs [] l h e = tt
agree_left domains b leaves xs (y ∷ ys) l h e =
    let here : has_number y (y ∷ ys) ≡ true = grind arith in
    let there = h y here in (
      kept_cut y domains leaves xs l.differ there (l.domains_valid y) (l.valid y there) (l.within y there) ∙ sym (e y here),
      agree_left domains b leaves xs ys l (λ z q. h z (grind arith)) (λ z q. e z (grind arith)),
    )

-- the literals are justified where boxes that have of the constraint's variables what is left of
-- them refute it
pub kept_follows : (con : Con) (domains b : Boxes) (leaves : ℕ → Ranges) (xs : List ℕ) → AreLeft domains leaves xs → ((y : ℕ) → has_number y (vars_of con) ≡ true → has_number y xs ≡ true) →
    ((y : ℕ) → has_number y (vars_of con) ≡ true → box_of b y ≡ leaves y) → refuted con b ≡ true → justified con domains (kept domains leaves xs) ≡ true
kept_follows con domains b leaves xs l h e r =
    agree_refuted con (cut domains (kept domains leaves xs)) b (agree_left domains b leaves xs (vars_of con) l h e) ∙ r

pub kept_reason : (con : Con) (domains boxes : Boxes) (leaves : ℕ → Ranges) (xs : List ℕ) → AreLeft domains leaves xs → ((x : ℕ) → has_number x xs ≡ true → x < length boxes) →
    justified con domains (kept domains leaves xs) ≡ true → Acts boxes (kept domains leaves xs) → IsReason con domains boxes (kept domains leaves xs)
kept_reason con domains boxes leaves xs l n f a = record {
  named = kept_named (length boxes) domains leaves xs n;
  differ = kept_differ domains leaves xs l.differ;
  some = kept_some domains leaves xs;
  sets = kept_sets domains leaves xs l.domains_valid l.valid;
  follows = f;
  acts = a;
}

-- ---- what acts

pub acts_false : (boxes : Boxes) (ls : Literals) → false_in boxes ls ≡ true → Acts boxes ls
acts_false boxes ls h = ap (λ (b : Bool). b || is_some (unit_of boxes ls)) h

-- one more that misses its box
pub acts_next : (boxes : Boxes) (l : Literal) (ls : Literals) → is_disjoint l.1 (box_of boxes l.0) ≡ true → Acts boxes ls → Acts boxes (l ∷ ls)
acts_next boxes l ls h a = ap (λ (b : Bool). (b && false_in boxes ls) || is_some (cond b (unit_of boxes ls) (alone_of boxes l ls))) h ∙ a

alone_some : (b : Bool) (u : Literal) → is_some (cond b (Some u) None) ≡ b
alone_some true u = refl
alone_some false u = refl

first_by : (boxes : Boxes) (l : Literal) (ls : Literals) (m : Bool) → false_in boxes ls ≡ true → is_within (box_of boxes l.0) l.1 ≡ false →
    ((m && false_in boxes ls) || is_some (cond m (unit_of boxes ls) (alone_of boxes l ls))) ≡ true
first_by boxes l ls true f n = acts_false boxes ls f
first_by boxes l ls false f n = alone_some (false_in boxes ls && not (is_within (box_of boxes l.0) l.1)) (l.0, meet l.1 (box_of boxes l.0)) ∙ rw (f, n) refl

-- one that takes something away, before others that miss their boxes
pub acts_first : (boxes : Boxes) (l : Literal) (ls : Literals) → false_in boxes ls ≡ true → is_within (box_of boxes l.0) l.1 ≡ false → Acts boxes (l ∷ ls)
acts_first boxes l ls f n = first_by boxes l ls (is_disjoint l.1 (box_of boxes l.0)) f n

-- and between others
pub acts_one : (boxes : Boxes) (front : Literals) (l : Literal) (back : Literals) → false_in boxes front ≡ true → false_in boxes back ≡ true → is_within (box_of boxes l.0) l.1 ≡ false → Acts boxes (front ++ l ∷ back)
acts_one boxes [] l back f g n = acts_first boxes l back g n
acts_one boxes (m ∷ front) l back f g n =
    let p = and_parts (is_disjoint m.1 (box_of boxes m.0)) (false_in boxes front) f in
    acts_next boxes m (front ++ l ∷ back) p.0 (acts_one boxes front l back p.1 g n)

pub false_append : (boxes : Boxes) (front back : Literals) → false_in boxes front ≡ true → false_in boxes back ≡ true → false_in boxes (front ++ back) ≡ true
false_append boxes [] back f g = g
false_append boxes (m ∷ front) back f g =
    let p = and_parts (is_disjoint m.1 (box_of boxes m.0)) (false_in boxes front) f in
    let more = false_append boxes front back p.1 g in let one = p.0 in grind arith

acts_kept_one : (boxes : Boxes) (x : ℕ) (s : Ranges) (rest : Literals) → is_disjoint s (box_of boxes x) ≡ true → Acts boxes rest → Acts boxes (kept_one x s rest)
acts_kept_one boxes x [] rest h a = a
acts_kept_one boxes x (r ∷ s) rest h a = acts_next boxes (x, r ∷ s) rest h a

acts_kept_here : (boxes : Boxes) (x : ℕ) (s : Ranges) (rest : Literals) → false_in boxes rest ≡ true → is_within (box_of boxes x) s ≡ false → Acts boxes (kept_one x s rest)
acts_kept_here boxes x [] rest f n = acts_false boxes rest f
acts_kept_here boxes x (r ∷ s) rest f n = acts_first boxes (x, r ∷ s) rest f n

pub kept_acts : (x : ℕ) (domains boxes : Boxes) (leaves : ℕ → Ranges) (xs : List ℕ) → no_repeat xs ≡ true → has_number x xs ≡ true →
    ((y : ℕ) → has_number y xs ≡ true → (y == x) ≡ false → is_disjoint (less (box_of domains y) (leaves y)) (box_of boxes y) ≡ true) →
    is_within (box_of boxes x) (less (box_of domains x) (leaves x)) ≡ false → Acts boxes (kept domains leaves xs)
kept_acts x domains boxes leaves [] d h m n = absurd (grind arith)
kept_acts x domains boxes leaves (y ∷ xs) d h m n =
    let p = and_parts (not (has_number y xs)) (no_repeat xs) d in
    let none : has_number y xs ≡ false = grind arith in
    elim (y == x) as (λ b. (y == x) ≡ b → Acts boxes (kept domains leaves (y ∷ xs))) [
      | true ↦ λ e.
          let same : x ≡ y = sym (same_number y x e) in
          acts_kept_here boxes y (less (box_of domains y) (leaves y)) (kept domains leaves xs)
          (kept_false domains boxes leaves xs (λ z q. m z (grind arith) (other_number z x y xs q none same)))
          (subst (λ (z : ℕ). is_within (box_of boxes z) (less (box_of domains z) (leaves z)) ≡ false) same n)
      | false ↦ λ e.
          acts_kept_one boxes y (less (box_of domains y) (leaves y)) (kept domains leaves xs) (m y (grind arith) e)
          (kept_acts x domains boxes leaves xs p.1 (grind arith) (λ z q. m z (grind arith)) n)
    ] refl
