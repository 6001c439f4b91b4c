-- The levels of a run: where their entries came from, and how their boxes lie in the domains.
use Rattle.std.proofs.Common.{◌≡◌, ℕ, ◌<◌, true, false, List, [], ◌∷◌, ◌++◌, length, sym, ap, ◌∙◌, arith, inl, inr, subst, slice_set, Option, Some, None, length-append}
use Rattle.std.proofs.lemmas.List.{length-set, get_or_append_left}
use Rattle.std.proofs.lemmas.Bool.{and_parts, cases_eq}
use Rattle.signed_clause.specs.Ranges.{Ranges, has, is_nil, IsValid, IsSubset}
use Rattle.signed_clause.specs.SetAlgebra.{meet}
use Rattle.signed_clause.specs.Clauses.{Boxes, Literals, box_of, false_in, unit_of, IsClause, AreValid}
use Rattle.signed_clause.proofs.SetFacts.{within_law}
use Rattle.signed_clause.proofs.RangeSteps.{has-meet_valid, IsValid-meet}
use Rattle.fd_store.specs.Levels.{Entry, Level, Stack}
use Rattle.log_form.specs.Acceptance.{clause_at}
use Rattle.learn_clauses.specs.Walk.{trail_from}
use Rattle.learn_clauses.specs.Learnt.{IsFrom, AreFrom, CameFrom, domains_from, domains_of}
use Rattle.learn_clauses.proofs.FalseLaws.{false_in-narrower}
use Rattle.run_law.proofs.Units.{box-set_same, box-set_other, AreValid-set, IsUnitBy, IsHalf}

-- ---- boxes in the domains

-- a box for each domain and within it, with a value where the domain has one
pub record AreBoxesIn (domains boxes : Boxes) : Type 0 where
  pub size : length boxes ≡ length domains
  pub sets : AreValid boxes
  pub within : (x : ℕ) → IsSubset (box_of boxes x) (box_of domains x)
  pub some : (x : ℕ) → is_nil (box_of domains x) ≡ false → is_nil (box_of boxes x) ≡ false

-- what a box may be narrowed to
pub record IsPart (box part : Ranges) : Type 0 where
  pub valid : IsValid part
  pub within : IsSubset part box
  pub some : is_nil part ≡ false

-- P holds of the box of y, as it does of the new one and of the others
of_box : (P : Ranges → Type 0) (boxes : Boxes) (x y : ℕ) (s : Ranges) → x < length boxes →
    (y ≡ x → P s) → P (box_of boxes y) → P (box_of (slice_set boxes x s) y)
of_box P boxes x y s lt new old =
    elim (cases_eq y x) [
      | inl e ↦
          let at : box_of (slice_set boxes x s) y ≡ s =
          ap (λ (y : ℕ). box_of (slice_set boxes x s) y) e ∙ box-set_same boxes x s lt in
          subst P (sym at) (new e)
      | inr e ↦ subst P (sym (box-set_other boxes x y s e)) old
    ]

pub part_in : (domains boxes : Boxes) (x : ℕ) (s : Ranges) → AreBoxesIn domains boxes →
    x < length boxes → IsPart (box_of boxes x) s → AreBoxesIn domains (slice_set boxes x s)
part_in domains boxes x s a lt p = record {
  size = length-set boxes x s ∙ a.size;
  sets = AreValid-set boxes x s lt a.sets p.valid;
  within = λ y. of_box (λ b. IsSubset b (box_of domains y)) boxes x y s lt
      (λ e v h. a.within y v (subst (λ (z : ℕ). has (box_of boxes z) v ≡ true) (sym e)
      (p.within v h))) (a.within y);
  some = λ y h. of_box (λ b. is_nil b ≡ false) boxes x y s lt (λ e. p.some) (a.some y h);
}

meet_right : (a b : Ranges) → IsValid a → IsValid b → IsSubset (meet a b) b
meet_right a b f g v h =
    (and_parts (has a v) (has b v) (sym (has-meet_valid a b f g v) ∙ h)).1

-- a box that is narrowed to a part keeps what is false
pub part_keeps : (boxes : Boxes) (x : ℕ) (s : Ranges) → AreValid boxes → x < length boxes →
    IsPart (box_of boxes x) s → (c : Literals) → IsClause c → false_in boxes c ≡ true →
    false_in (slice_set boxes x s) c ≡ true
part_keeps boxes x s a lt p c f h =
    let new = slice_set boxes x s in
    let sub : (y : ℕ) → IsSubset (box_of new y) (box_of boxes y) = λ y.
    of_box (λ b. IsSubset b (box_of boxes y)) boxes x y s lt
    (λ e v k. subst (λ (z : ℕ). has (box_of boxes z) v ≡ true) (sym e) (p.within v k))
    (λ v k. k) in
    false_in-narrower c new boxes f (AreValid-set boxes x s lt a p.valid) a sub h

-- the half of a decision is a part
pub half_part : (boxes : Boxes) (x : ℕ) (half : Ranges) → AreValid boxes → IsHalf boxes x half →
    IsPart (box_of boxes x) half
half_part boxes x half a w = record {
  valid = w.valid;
  within = (within_law half (box_of boxes x) w.valid (a x)).0 w.part;
  some = w.some;
}

pub unit_part : (boxes : Boxes) (u : ℕ × Ranges) (s : Ranges) → AreValid boxes →
    IsUnitBy boxes u s → IsPart (box_of boxes u.0) u.1
unit_part boxes u s a w =
    let box = box_of boxes u.0 in
    let here : IsPart box (meet s box) = record {
      valid = IsValid-meet s box w.valid (a u.0);
      within = meet_right s box w.valid (a u.0);
      some = w.meets;
    } in
    subst (IsPart box) (sym w.is) here

-- ---- levels

-- the boxes before the entries, the newest first
abbrev pub undone_by : Boxes → List Entry → Boxes
undone_by boxes [] = boxes
undone_by boxes (e ∷ es) = undone_by (slice_set boxes e.var e.before) es

-- what is false in the first boxes is false in the second
abbrev pub Keeps : Boxes → Boxes → Type 0
Keeps wide boxes =
    (c : Literals) → IsClause c → false_in wide c ≡ true → false_in boxes c ≡ true

-- the entries came from the clauses, and led from the boxes before them to the present ones
pub record IsLevel (clauses : List Literals) (domains before : Boxes) (l : Level) : Type 0 where
  pub came : AreFrom clauses l.now l.entries
  pub led : undone_by l.now l.entries ≡ before
  pub boxes : AreBoxesIn domains l.now
  pub keeps : Keeps l.first l.now

-- the first boxes are those below with a half for one of them
pub record IsOpened (below first : Boxes) : Type 0 where
  pub var : ℕ
  pub half : Ranges
  pub is_half : IsHalf below var half
  pub is : first ≡ slice_set below var half

pub opened_keeps : (below first : Boxes) → AreValid below → IsOpened below first →
    Keeps below first
opened_keeps below first a o c f h =
    let part = half_part below o.var o.half a o.is_half in
    let kept = part_keeps below o.var o.half a o.is_half.exists part c f h in
    subst (λ (b : Boxes). false_in b c ≡ true) (sym o.is) kept

-- each level led from the boxes below, by a decision there, and level 0 from the domains
abbrev pub AreLevels : List Literals → Boxes → Level → List Level → Type 0
AreLevels clauses domains top [] = IsLevel clauses domains domains top × (top.first ≡ domains)
AreLevels clauses domains top (l ∷ ls) =
    IsLevel clauses domains l.now top × IsOpened l.now top.first × AreLevels clauses domains l ls

abbrev pub IsStack : List Literals → Boxes → Stack → Type 0
IsStack clauses domains s = AreLevels clauses domains s.top s.below

-- ---- what they mean

from_both : (clauses : List Literals) (boxes : Boxes) (es fs : List Entry) →
    AreFrom clauses boxes es → AreFrom clauses (undone_by boxes es) fs →
    AreFrom clauses boxes (es ++ fs)
from_both clauses boxes [] fs p q = q
from_both clauses boxes (e ∷ es) fs p q =
    (p.0, from_both clauses (slice_set boxes e.var e.before) es fs p.1 q)

levels_came : (clauses : List Literals) (domains : Boxes) (top : Level) (below : List Level) →
    AreLevels clauses domains top below → AreFrom clauses top.now (trail_from top below)
levels_came clauses domains top [] a = a.0.came
levels_came clauses domains top (l ∷ ls) a =
    let lower = levels_came clauses domains l ls a.2 in
    from_both clauses top.now top.entries (trail_from l ls) a.0.came
    (subst (λ (b : Boxes). AreFrom clauses b (trail_from l ls)) (sym a.0.led) lower)

pub stack_came : (clauses : List Literals) (domains : Boxes) (s : Stack) →
    IsStack clauses domains s → CameFrom clauses s
stack_came clauses domains s a = levels_came clauses domains s.top s.below a

levels_domains : (clauses : List Literals) (domains : Boxes) (top : Level) (below : List Level) →
    AreLevels clauses domains top below → domains_from top below ≡ domains
levels_domains clauses domains top [] a = a.1
levels_domains clauses domains top (l ∷ ls) a = levels_domains clauses domains l ls a.2

pub stack_domains : (clauses : List Literals) (domains : Boxes) (s : Stack) →
    IsStack clauses domains s → domains_of s ≡ domains
stack_domains clauses domains s a = levels_domains clauses domains s.top s.below a

pub levels_boxes : (clauses : List Literals) (domains : Boxes) (top : Level) (below : List Level) →
    AreLevels clauses domains top below → AreBoxesIn domains top.now
levels_boxes clauses domains top [] a = a.0.boxes
levels_boxes clauses domains top (l ∷ ls) a = a.0.boxes

pub stack_boxes : (clauses : List Literals) (domains : Boxes) (s : Stack) →
    IsStack clauses domains s → AreBoxesIn domains s.top.now
stack_boxes clauses domains s a = levels_boxes clauses domains s.top s.below a

-- ---- more clauses

is_from_more : (from : Option ℕ) (cs ds : List Literals) (before : Boxes) (x : ℕ) (now : Ranges) →
    IsFrom from cs before x now → IsFrom from (cs ++ ds) before x now
is_from_more None cs ds before x now h = tt
is_from_more (Some j) cs ds before x now h =
    let lt = h.0 in
    let more = length-append cs ds in
    let same : clause_at (cs ++ ds) j ≡ clause_at cs j = get_or_append_left cs ds [] j lt in
    (omega (arith, lt, more), ap (unit_of before) same ∙ h.1)

from_more : (cs ds : List Literals) (boxes : Boxes) (es : List Entry) → AreFrom cs boxes es →
    AreFrom (cs ++ ds) boxes es
from_more cs ds boxes [] h = tt
from_more cs ds boxes (e ∷ es) h =
    let before = slice_set boxes e.var e.before in (
      is_from_more e.from cs ds before e.var (box_of boxes e.var) h.0,
      from_more cs ds before es h.1,
    )

level_more : (cs ds : List Literals) (domains before : Boxes) (l : Level) →
    IsLevel cs domains before l → IsLevel (cs ++ ds) domains before l
level_more cs ds domains before l h =
    record {
      came = from_more cs ds l.now l.entries h.came;
      led = h.led;
      boxes = h.boxes;
      keeps = h.keeps;
    }

levels_more : (cs ds : List Literals) (domains : Boxes) (top : Level) (below : List Level) →
    AreLevels cs domains top below → AreLevels (cs ++ ds) domains top below
levels_more cs ds domains top [] a = (level_more cs ds domains domains top a.0, a.1)
levels_more cs ds domains top (l ∷ ls) a =
    (level_more cs ds domains l.now top a.0, a.1, levels_more cs ds domains l ls a.2)

pub stack_more : (cs ds : List Literals) (domains : Boxes) (s : Stack) → IsStack cs domains s →
    IsStack (cs ++ ds) domains s
stack_more cs ds domains s a = levels_more cs ds domains s.top s.below a
