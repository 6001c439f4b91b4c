-- Numbers of the clauses that stay.
use Rattle.std.proofs.Common.{◌≡◌, ℕ, zero, suc, ◌+◌, ◌-◌, ◌<◌, Bool, true, false, cond, List, [], ◌∷◌, ◌++◌, length, get_or, drop, length-append, refl, sym, ap, ◌∙◌, arith, add-one, append_assoc}
use Rattle.std.specs.Prelude.{slice_index_or}
use Rattle.ground_form.specs.declared.ground.Ground.{Ground}
use Rattle.log_form.specs.declared.line.Line.{Line}
use Rattle.log_check.specs.Trimmed.{clauses_of, stays, renumbered, next_number, numbers_from, trimmed_from}
use Rattle.log_check.specs.Marks.{needs}
use Rattle.log_check.proofs.Marking.{drop_line}
use Rattle.log_check.proofs.TrimLaws.{numbers_size}

numbers_step : (kept : Bool) (k next : ℕ) → 0 < k → numbers_from kept k next ≡ next ∷ numbers_from kept (k - 1) (next_number kept 1 next)
numbers_step kept zero next h = absurd (omega arith)
numbers_step kept (suc k) next h = let e : suc k - 1 ≡ k = omega arith in rw e refl

next_step : (kept : Bool) (k next : ℕ) → 0 < k → next_number kept k next ≡ next_number kept (k - 1) (next_number kept 1 next)
next_step true k next h = omega arith
next_step false k next h = refl

-- one number more
pub numbers_more : (kept : Bool) (before now after : List ℕ) (count k at then first : ℕ) → k < count → now ++ numbers_from kept (count - k) at ≡ before ++ numbers_from kept count first → after ≡ now ++ at ∷ [] → then ≡ next_number kept 1 at →
    after ++ numbers_from kept (count - (k + 1)) then ≡ before ++ numbers_from kept count first
numbers_more kept before now after count k at then first lt h e f =
    let less : count - k - 1 ≡ count - (k + 1) = omega arith in
    ap (λ ns. ns ++ numbers_from kept (count - (k + 1)) then) e
    ∙ append_assoc now (at ∷ []) (numbers_from kept (count - (k + 1)) then)
    ∙ ap (λ n. now ++ at ∷ numbers_from kept (count - (k + 1)) n) f
    ∙ ap (λ n. now ++ at ∷ numbers_from kept n (next_number kept 1 at)) (sym less)
    ∙ ap (λ ns. now ++ ns) (sym (numbers_step kept (count - k) at (omega arith)))
    ∙ h

pub next_more : (kept : Bool) (count k at then first : ℕ) → k < count → next_number kept (count - k) at ≡ next_number kept count first → then ≡ next_number kept 1 at →
    next_number kept (count - (k + 1)) then ≡ next_number kept count first
next_more kept count k at then first lt h f =
    let less : count - k - 1 ≡ count - (k + 1) = omega arith in
    ap (λ n. next_number kept (count - (k + 1)) n) f ∙ ap (λ n. next_number kept n (next_number kept 1 at)) (sym less) ∙ sym (next_step kept (count - k) at (omega arith)) ∙ h

-- ---- one line more

drop-front : (bs : List Bool) (k : ℕ) (b : Bool) (rest : List Bool) → drop k bs ≡ b ∷ rest → (slice_index_or bs k false ≡ b) × (drop (suc k) bs ≡ rest)
drop-front [] zero b rest h = absurd cc
drop-front [] (suc k) b rest h = absurd cc
drop-front (c ∷ bs) zero b rest h = (cc, cc)
drop-front (c ∷ bs) (suc k) b rest h = drop-front bs k b rest h

pub kept_more : (g : Ground) (ls : List Line) (k : ℕ) (x : Line) (needed : List Bool) (numbers after : List ℕ) (next then count : ℕ) (kept longer all : List Line) → k < length ls → x ≡ get_or ls k x →
    drop k needed ≡ needs g (length numbers) (drop k ls) → count ≡ clauses_of g x →
    longer ≡ kept ++ cond (slice_index_or needed k false) (renumbered numbers x ∷ []) [] → after ≡ numbers ++ numbers_from (slice_index_or needed k false) count next → then ≡ next_number (slice_index_or needed k false) count next →
    kept ++ trimmed_from g numbers next (drop k ls) ≡ all →
    (drop (k + 1) needed ≡ needs g (length after) (drop (k + 1) ls)) × (longer ++ trimmed_from g after then (drop (k + 1) ls) ≡ all)
kept_more g ls k x needed numbers after next then count kept longer all h e told size longer_is after_is then_is whole =
    let rest = drop (k + 1) ls in
    let n = length numbers in
    let line = drop_line ls k x h e in
    let front = drop-front needed k (stays g n x rest) (needs g (n + clauses_of g x) rest) (told ∙ ap (needs g n) line) in
    let flag : slice_index_or needed k false ≡ stays g n x rest = front.0 in
    let grown : length after ≡ n + clauses_of g x =
    ap length after_is ∙ length-append numbers (numbers_from (slice_index_or needed k false) count next) ∙ ap (λ i. n + i) (numbers_size (slice_index_or needed k false) count next ∙ size) in (
      ap (λ i. drop i needed) (add-one k) ∙ front.1 ∙ ap (λ i. needs g i rest) (sym grown),
      ap (λ (z : List Line). z ++ trimmed_from g after then rest) longer_is
          ∙ ap (λ (ns : List ℕ). (kept ++ cond (slice_index_or needed k false) (renumbered numbers x ∷ []) []) ++ trimmed_from g ns then rest) after_is
          ∙ ap (λ i. (kept ++ cond (slice_index_or needed k false) (renumbered numbers x ∷ []) []) ++ trimmed_from g (numbers ++ numbers_from (slice_index_or needed k false) count next) i rest) then_is
          ∙ append_assoc kept (cond (slice_index_or needed k false) (renumbered numbers x ∷ []) []) (trimmed_from g (numbers ++ numbers_from (slice_index_or needed k false) count next) (next_number (slice_index_or needed k false) count next) rest)
          ∙ ap (λ b. kept ++ (cond b (renumbered numbers x ∷ []) [] ++ trimmed_from g (numbers ++ numbers_from b count next) (next_number b count next) rest)) flag
          ∙ ap (λ i. kept ++ (cond (stays g n x rest) (renumbered numbers x ∷ []) [] ++ trimmed_from g (numbers ++ numbers_from (stays g n x rest) i next) (next_number (stays g n x rest) i next) rest)) size
          ∙ ap (λ (z : List Line). kept ++ trimmed_from g numbers next z) (sym line)
          ∙ whole,
    )
