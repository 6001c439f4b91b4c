-- Marks of named clauses, from the last line back.
use Rattle.std.proofs.Common.{◌≡◌, ℕ, zero, suc, ◌+◌, ◌-◌, ◌<◌, ◌≤◌, inl, inr, Bool, true, false, ◌&&◌, ◌||◌, ◌==◌, List, [], ◌∷◌, ◌++◌, length, get_or, take, drop, refl, sym, ap, ◌∙◌, arith, subst, append_assoc, add-one, drop-cons, length-drop, reverse}
use Rattle.std.specs.Prelude.{slice_index_or, slice_set}
use Rattle.std.proofs.lemmas.Bool.{eq-eqb, eqb-true, ne_eqb, cases_lt}
use Rattle.std.proofs.Math.Seq.{drop-length}
use Rattle.std.proofs.lemmas.List.{take_all, length-set, get_or-set_same, get_or-set_other, reverse-append}
use Rattle.signed_clause.specs.Ranges.{is_nil}
use Rattle.ground_form.specs.declared.ground.Ground.{Ground}
use Rattle.log_form.specs.declared.line.Line.{Line}
use Rattle.log_form.specs.declared.line.Line.TheVariants.{Axiom, Chain, Bound, Use, Found, Decide, Empty}
use Rattle.log_check.specs.Trimmed.{clauses_of, steps_name, names, is_needed, named, stays}
use Rattle.log_check.specs.Marks.{clauses_in, needs, unmarked, with_steps, with_names, marked}

-- the marks say this of each clause
abbrev pub IsMarked : List Bool → (ℕ → Bool) → Type 0
IsMarked marks told = (j : ℕ) → j < length marks → slice_index_or marks j false ≡ told j

-- ---- no marks

pub unmarked_more : (m n : ℕ) → unmarked m ++ unmarked n ≡ unmarked (m + n)
unmarked_more zero n = let e : 0 + n ≡ n = omega arith in rw e refl
unmarked_more (suc m) n = let e : suc m + n ≡ suc (m + n) = omega arith in rw e (ap (λ marks. false ∷ marks) (unmarked_more m n))

unmarked_at : (n j : ℕ) → slice_index_or (unmarked n) j false ≡ false
unmarked_at zero zero = refl
unmarked_at zero (suc j) = refl
unmarked_at (suc n) zero = refl
unmarked_at (suc n) (suc j) = unmarked_at n j

pub unmarked_size : (n : ℕ) → length (unmarked n) ≡ n
unmarked_size zero = refl
unmarked_size (suc n) = ap suc (unmarked_size n)

-- ---- setting marks

set_at : (marks : List Bool) (i j : ℕ) → j < length marks → slice_index_or (slice_set marks i true) j false ≡ (i == j || slice_index_or marks j false)
set_at marks i j h =
    elim (i == j) as (λ b. (i == j) ≡ b → slice_index_or (slice_set marks i true) j false ≡ (b || slice_index_or marks j false)) [
      | true ↦ λ e. let same : i ≡ j = eqb-true i j e in subst (λ (n : ℕ). slice_index_or (slice_set marks n true) j false ≡ true) (sym same) (get_or-set_same marks j true false h)
      | false ↦ λ e. get_or-set_other marks i j true false (λ same. let wrong = eq-eqb i j (sym same) in absurd cc)
    ] refl

pub set_past : (marks : List Bool) (i : ℕ) → length marks ≤ i → slice_set marks i true ≡ marks
set_past [] i h = refl
set_past (m ∷ marks) zero h = absurd (omega arith)
set_past (m ∷ marks) (suc i) h = ap (λ ms. m ∷ ms) (set_past marks i (omega arith))

steps_size : (ss : List (ℕ × ℕ)) (marks : List Bool) → length (with_steps ss marks) ≡ length marks
steps_size [] marks = refl
steps_size (s ∷ ss) marks = steps_size ss (slice_set marks s.1 true) ∙ length-set marks s.1 true

or_turn : (x y z : Bool) → (y || (x || z)) ≡ ((x || y) || z)
or_turn true true z = refl
or_turn true false z = refl
or_turn false y z = refl

steps_at : (ss : List (ℕ × ℕ)) (marks : List Bool) (j : ℕ) → j < length marks → slice_index_or (with_steps ss marks) j false ≡ (steps_name ss j || slice_index_or marks j false)
steps_at [] marks j h = refl
steps_at (s ∷ ss) marks j h =
    let size = length-set marks s.1 true in
    steps_at ss (slice_set marks s.1 true) j (omega arith)
    ∙ ap (λ b. steps_name ss j || b) (set_at marks s.1 j h)
    ∙ or_turn (s.1 == j) (steps_name ss j) (slice_index_or marks j false)

names_size : (l : Line) (marks : List Bool) → length (with_names l marks) ≡ length marks
names_size (Axiom k c) marks = refl
names_size (Chain chain c) marks = steps_size chain.steps (slice_set marks chain.first true) ∙ length-set marks chain.first true
names_size (Bound values) marks = refl
names_size (Use i) marks = refl
names_size (Found a) marks = refl
names_size (Decide x set) marks = refl
names_size (Empty x) marks = refl

names_at : (l : Line) (marks : List Bool) (j : ℕ) → j < length marks → slice_index_or (with_names l marks) j false ≡ (names l j || slice_index_or marks j false)
names_at (Axiom k c) marks j h = refl
names_at (Chain chain c) marks j h =
    let size = length-set marks chain.first true in
    steps_at chain.steps (slice_set marks chain.first true) j (omega arith)
    ∙ ap (λ b. steps_name chain.steps j || b) (set_at marks chain.first j h)
    ∙ or_turn (chain.first == j) (steps_name chain.steps j) (slice_index_or marks j false)
names_at (Bound values) marks j h = refl
names_at (Use i) marks j h = refl
names_at (Found a) marks j h = refl
names_at (Decide x set) marks j h = refl
names_at (Empty x) marks j h = refl

marked_size : (needed : Bool) (l : Line) (marks : List Bool) → length (marked needed l marks) ≡ length marks
marked_size true l marks = names_size l marks
marked_size false l marks = refl

marked_at : (needed : Bool) (l : Line) (marks : List Bool) (j : ℕ) → j < length marks → slice_index_or (marked needed l marks) j false ≡ ((needed && names l j) || slice_index_or marks j false)
marked_at true l marks j h = names_at l marks j h
marked_at false l marks j h = refl

-- ---- one line back

take_at : (marks : List Bool) (n j : ℕ) → j < n → slice_index_or (take n marks) j false ≡ slice_index_or marks j false
take_at marks zero j h = absurd (omega arith)
take_at [] (suc n) j h = refl
take_at (m ∷ marks) (suc n) zero h = refl
take_at (m ∷ marks) (suc n) (suc j) h = take_at marks n j (omega arith)

take_size : (marks : List Bool) (n : ℕ) → n ≤ length marks → length (take n marks) ≡ n
take_size marks zero h = refl
take_size [] (suc n) h = absurd (omega arith)
take_size (m ∷ marks) (suc n) h = ap suc (take_size marks n (omega arith))

-- whether a line is needed, by the mark of its clause; one that makes none doesn't ask
needed_by : (g : Ground) (l : Line) (ls : List Line) (marks : List Bool) (n : ℕ) → length marks ≡ n + clauses_of g l → IsMarked marks (named g (length marks) ls) →
    is_needed l (is_nil ls) (slice_index_or marks n false) ≡ stays g n l ls
needed_by g (Axiom k c) ls marks n size told = ap (λ b. is_nil ls || b) (told n (omega arith) ∙ ap (λ i. named g i ls n) size)
needed_by g (Chain chain c) ls marks n size told = ap (λ b. is_nil ls || b) (told n (omega arith) ∙ ap (λ i. named g i ls n) size)
needed_by g (Bound values) ls marks n size told = refl
needed_by g (Use i) ls marks n size told = refl
needed_by g (Found a) ls marks n size told = refl
needed_by g (Decide x set) ls marks n size told = refl
needed_by g (Empty x) ls marks n size told = ap (λ b. is_nil ls || b) (told n (omega arith) ∙ ap (λ i. named g i ls n) size)

-- what the walk back has come to: behind the lines ls
pub record IsWalked (g : Ground) (ls : List Line) (marks needed : List Bool) : Type 0 where
  pub flags : reverse needed ≡ needs g (length marks) ls
  pub told : IsMarked marks (named g (length marks) ls)

walked_none : (g : Ground) (marks needed : List Bool) (n : ℕ) → marks ≡ unmarked n → needed ≡ [] → IsWalked g [] marks needed
walked_none g marks needed n is none = record {
  flags = ap reverse none;
  told = λ j lt. ap (λ (ms : List Bool). slice_index_or ms j false) is ∙ unmarked_at n j;
}

walked_line : (g : Ground) (l : Line) (ls : List Line) (marks needed : List Bool) (n : ℕ) (r : Bool) → IsWalked g ls marks needed → length marks ≡ n + clauses_of g l →
    r ≡ is_needed l (is_nil ls) (slice_index_or marks n false) → IsWalked g (l ∷ ls) (marked r l (take n marks)) (needed ++ r ∷ [])
walked_line g l ls marks needed n r w size said =
    let before = take n marks in
    let count : length before ≡ n = take_size marks n (omega arith) in
    let now : length (marked r l before) ≡ n = marked_size r l before ∙ count in
    let is : r ≡ stays g n l ls = said ∙ needed_by g l ls marks n size w.told in
    record {
      flags = reverse-append needed (r ∷ []) ∙ ap (λ b. b ∷ reverse needed) is ∙ ap (λ bs. stays g n l ls ∷ bs) (w.flags ∙ ap (λ i. needs g i ls) size) ∙ ap (λ i. needs g i (l ∷ ls)) (sym now);
      told = λ j lt.
          marked_at r l before j (omega arith)
          ∙ ap (λ b. (r && names l j) || b) (take_at marks n j (omega arith) ∙ w.told j (omega arith) ∙ ap (λ i. named g i ls j) size)
          ∙ ap (λ b. (b && names l j) || named g (n + clauses_of g l) ls j) is
          ∙ ap (λ i. named g i (l ∷ ls) j) (sym now);
    }

-- ---- along the lines

clauses-front : (g : Ground) (ls : List Line) (k : ℕ) (x : Line) → k < length ls → x ≡ get_or ls k x → clauses_in g (take (suc k) ls) ≡ clauses_in g (take k ls) + clauses_of g x
clauses-front g [] k x h e = absurd (omega arith)
clauses-front g (l ∷ ls) zero x h e = let same = ap (clauses_of g) e in omega arith
clauses-front g (l ∷ ls) (suc k) x h e = let more = clauses-front g ls k x (omega arith) e in omega arith

clauses_more : (g : Ground) (ls : List Line) (k : ℕ) (x : Line) → k < length ls → x ≡ get_or ls k x → clauses_in g (take (k + 1) ls) ≡ clauses_in g (take k ls) + clauses_of g x
clauses_more g ls k x h e = rw add-one (clauses-front g ls k x h e)

-- so there is a mark for each clause of the line
pub clauses_within : (g : Ground) (ls : List Line) (k : ℕ) (x : Line) (n : ℕ) → k < length ls → x ≡ get_or ls k x → n ≡ clauses_in g (take (k + 1) ls) → clauses_of g x ≤ n
clauses_within g ls k x n h e is = let more = clauses_more g ls k x h e in omega arith

pub drop_line : (ls : List Line) (k : ℕ) (x : Line) → k < length ls → x ≡ get_or ls k x → drop k ls ≡ x ∷ drop (k + 1) ls
drop_line ls k x h e = drop-cons ls k x h ∙ ap (λ y. y ∷ drop (suc k) ls) (sym e) ∙ ap (λ n. x ∷ drop n ls) (sym (add-one k))

nil_by_size : (ls : List Line) → length ls ≡ 0 → true ≡ is_nil ls
nil_by_size [] h = refl
nil_by_size (l ∷ ls) h = absurd (omega arith)

full_by_size : (ls : List Line) → 0 < length ls → false ≡ is_nil ls
full_by_size [] h = absurd (omega arith)
full_by_size (l ∷ ls) h = refl

last_is : (ls : List Line) (k : ℕ) (b : Bool) → k < length ls → b ≡ (k + 1 == length ls) → b ≡ is_nil (drop (k + 1) ls)
last_is ls k b h e =
    elim (cases_lt (k + 1) (length ls)) [
      | inl lt ↦ e ∙ ne_eqb (k + 1) (length ls) (λ same. omega arith) ∙ full_by_size (drop (k + 1) ls) (omega (arith, length-drop (k + 1) ls))
      | inr ge ↦ e ∙ eq-eqb (k + 1) (length ls) (omega arith) ∙ nil_by_size (drop (k + 1) ls) (omega (arith, length-drop (k + 1) ls))
    ]

pub walked_more : (g : Ground) (ls : List Line) (k : ℕ) (x : Line) (marks needed after : List Bool) (last r : Bool) → k < length ls → x ≡ get_or ls k x → IsWalked g (drop (k + 1) ls) marks needed →
    length marks ≡ clauses_in g (take (k + 1) ls) → last ≡ (k + 1 == length ls) → r ≡ is_needed x last (slice_index_or marks (length marks - clauses_of g x) false) →
    after ≡ marked r x (take (length marks - clauses_of g x) marks) → IsWalked g (drop k ls) after (needed ++ r ∷ []) × (length after ≡ clauses_in g (take k ls))
walked_more g ls k x marks needed after last r h e w count at said is =
    let rest = drop (k + 1) ls in
    let n = clauses_in g (take k ls) in
    let more = clauses_more g ls k x h e in
    let before : length marks - clauses_of g x ≡ n = omega arith in
    let said' : r ≡ is_needed x (is_nil rest) (slice_index_or marks n false) =
    said ∙ ap (λ b. is_needed x b (slice_index_or marks (length marks - clauses_of g x) false)) (last_is ls k last h at) ∙ ap (λ i. is_needed x (is_nil rest) (slice_index_or marks i false)) before in
    let is' : after ≡ marked r x (take n marks) = is ∙ ap (λ i. marked r x (take i marks)) before in
    let walked = walked_line g x rest marks needed n r w (omega arith) said' in (
      subst (λ (z : List Line). IsWalked g z after (needed ++ r ∷ [])) (sym (drop_line ls k x h e)) (subst (λ (z : List Bool). IsWalked g (x ∷ rest) z (needed ++ r ∷ [])) (sym is') walked),
      ap length is' ∙ marked_size r x (take n marks) ∙ take_size marks n (omega arith),
    )

-- the same where k counts down
pub walked_back : (g : Ground) (ls : List Line) (k : ℕ) (x : Line) (marks needed after : List Bool) (last r : Bool) → 0 < k → k ≤ length ls → x ≡ get_or ls (k - 1) x → IsWalked g (drop k ls) marks needed →
    length marks ≡ clauses_in g (take k ls) → last ≡ (k - 1 + 1 == length ls) → r ≡ is_needed x last (slice_index_or marks (length marks - clauses_of g x) false) →
    after ≡ marked r x (take (length marks - clauses_of g x) marks) → IsWalked g (drop (k - 1) ls) after (needed ++ r ∷ []) × (length after ≡ clauses_in g (take (k - 1) ls))
walked_back g ls k x marks needed after last r some lt e w count at said is =
    let up : k - 1 + 1 ≡ k = omega arith in
    walked_more g ls (k - 1) x marks needed after last r (omega arith) e (subst (λ (n : ℕ). IsWalked g (drop n ls) marks needed) (sym up) w) (count ∙ ap (λ n. clauses_in g (take n ls)) (sym up)) at said is

-- behind the last line
pub walked_start : (g : Ground) (ls : List Line) (marks needed : List Bool) → marks ≡ unmarked (clauses_in g ls) → needed ≡ [] → IsWalked g (drop (length ls) ls) marks needed × (length marks ≡ clauses_in g (take (length ls) ls))
walked_start g ls marks needed is none = (
  subst (λ (z : List Line). IsWalked g z marks needed) (sym (drop-length ls)) (walked_none g marks needed (clauses_in g ls) is none),
  ap length is ∙ unmarked_size (clauses_in g ls) ∙ ap (clauses_in g) (sym (take_all (length ls) ls (omega arith))),
)

-- at the first line
pub walked_all : (g : Ground) (ls : List Line) (k : ℕ) (marks needed out : List Bool) → IsWalked g (drop k ls) marks needed → length marks ≡ clauses_in g (take k ls) → k ≡ 0 → out ≡ reverse needed → out ≡ needs g 0 ls
walked_all g ls k marks needed out w count zero_left is =
    let size : length marks ≡ 0 = count ∙ ap (λ i. clauses_in g (take i ls)) zero_left in
    is ∙ w.flags ∙ ap (λ i. needs g i (drop k ls)) size ∙ ap (λ i. needs g 0 (drop i ls)) zero_left

unmarked_last : (k : ℕ) → unmarked (suc k) ≡ unmarked k ++ false ∷ []
unmarked_last zero = refl
unmarked_last (suc k) = ap (λ marks. false ∷ marks) (unmarked_last k)

pub unmarked_one : (before marks after : List Bool) (k : ℕ) → marks ≡ before ++ unmarked k → after ≡ marks ++ false ∷ [] → after ≡ before ++ unmarked (k + 1)
unmarked_one before marks after k e f = f ∙ ap (λ ms. ms ++ false ∷ []) e ∙ append_assoc before (unmarked k) (false ∷ []) ∙ ap (λ ms. before ++ ms) (sym (unmarked_last k)) ∙ ap (λ n. before ++ unmarked n) (sym (add-one k))

-- the marks of one line more
pub marks_more : (g : Ground) (ls : List Line) (k : ℕ) (x : Line) (before after all : List Bool) (count : ℕ) → k < length ls → x ≡ get_or ls k x → count ≡ clauses_of g x → after ≡ before ++ unmarked count →
    before ++ unmarked (clauses_in g (drop k ls)) ≡ all → after ++ unmarked (clauses_in g (drop (k + 1) ls)) ≡ all
marks_more g ls k x before after all count h e size is told =
    let rest = drop (k + 1) ls in
    ap (λ ms. ms ++ unmarked (clauses_in g rest)) (is ∙ ap (λ n. before ++ unmarked n) size)
    ∙ append_assoc before (unmarked (clauses_of g x)) (unmarked (clauses_in g rest))
    ∙ ap (λ ms. before ++ ms) (unmarked_more (clauses_of g x) (clauses_in g rest))
    ∙ ap (λ (z : List Line). before ++ unmarked (clauses_in g z)) (sym (drop_line ls k x h e))
    ∙ told
