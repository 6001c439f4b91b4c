-- Accepted fronts of a list of lines.
use Rattle.std.proofs.Common.{◌≡◌, ℕ, zero, suc, ◌+◌, ◌-◌, ◌<◌, Bool, true, false, ◌&&◌, List, [], ◌∷◌, length, get_or, take, sym, ap, ◌∙◌, arith, add-one, subst}
use Rattle.std.proofs.Math.Bool.{and-true, and_assoc}
use Rattle.std.proofs.lemmas.Bool.{and_right, and_from}
use Rattle.std.proofs.lemmas.List.{take_all}
use Rattle.ground_form.specs.declared.ground.Ground.{Ground}
use Rattle.log_form.specs.declared.line.Line.{Line}
use Rattle.log_form.specs.Acceptance.{Made, may_come, after, accepted, start, accepted_from, made_from, has_empty, made, FailsFirst, shown_by}
use Rattle.log_check.specs.Soundness.{IsSound, Means}
use Rattle.log_check.specs.Verdicts.{Ending, ending}
use Rattle.log_check.specs.Kinds.{shown_of}
use Rattle.log_check.proofs.Steps.{sound_means}

accepted-front : (g : Ground) (m : Made) (ls : List Line) (k : ℕ) (x : Line) → k < length ls → x ≡ get_or ls k x →
    accepted_from g m (take (suc k) ls) ≡ (accepted_from g m (take k ls) && may_come g (made_from g m (take k ls)) x)
accepted-front g m [] k x h e = absurd (omega arith)
accepted-front g m (l ∷ ls) zero x h e = ap (λ z. may_come g m z && true) (sym e) ∙ and-true (may_come g m x)
accepted-front g m (l ∷ ls) (suc k) x h e =
    let more = accepted-front g (after g m l) ls k x (omega arith) e in
    ap (λ b. may_come g m l && b) more ∙ sym (and_assoc (may_come g m l) _ _)

made-front : (g : Ground) (m : Made) (ls : List Line) (k : ℕ) (x : Line) → k < length ls → x ≡ get_or ls k x →
    made_from g m (take (suc k) ls) ≡ after g (made_from g m (take k ls)) x
made-front g m [] k x h e = absurd (omega arith)
made-front g m (l ∷ ls) zero x h e = ap (after g m) (sym e)
made-front g m (l ∷ ls) (suc k) x h e = made-front g (after g m l) ls k x (omega arith) e

pub accepted_more : (g : Ground) (m : Made) (ls : List Line) (k : ℕ) (x : Line) → k < length ls → x ≡ get_or ls k x →
    accepted_from g m (take (k + 1) ls) ≡ (accepted_from g m (take k ls) && may_come g (made_from g m (take k ls)) x)
accepted_more g m ls k x h e = rw add-one (accepted-front g m ls k x h e)

pub made_more : (g : Ground) (m : Made) (ls : List Line) (k : ℕ) (x : Line) → k < length ls → x ≡ get_or ls k x →
    made_from g m (take (k + 1) ls) ≡ after g (made_from g m (take k ls)) x
made_more g m ls k x h e = rw add-one (made-front g m ls k x h e)

pub refused_at : (g : Ground) (ls : List Line) (k : ℕ) (x : Line) (p : Made) (r : Bool) → k < length ls → x ≡ get_or ls k x → accepted g (take k ls) ≡ true → made_from g start (take k ls) ≡ p →
    r ≡ may_come g p x → r ≡ false → FailsFirst g ls (k + 1)
refused_at g ls k x p r h e front made asked said =
    let more = accepted_more g start ls k x h e in
    let test : may_come g (made_from g start (take k ls)) x ≡ false = ap (λ (m : Made). may_come g m x) made ∙ sym asked ∙ said in
    let before : k + 1 - 1 ≡ k = omega arith in
    record {
      before = ap (λ n. accepted g (take n ls)) before ∙ front;
      here = more ∙ and_right (accepted g (take k ls)) (may_come g (made_from g start (take k ls)) x) test;
    }

pub taken_at : (g : Ground) (ls : List Line) (k : ℕ) (x : Line) (p q : Made) (r : Bool) → k < length ls → x ≡ get_or ls k x → accepted g (take k ls) ≡ true → made_from g start (take k ls) ≡ p →
    r ≡ may_come g p x → r ≡ true → q ≡ after g p x → (accepted g (take (k + 1) ls) ≡ true) × (made_from g start (take (k + 1) ls) ≡ q)
taken_at g ls k x p q r h e front made asked said next =
    let more = accepted_more g start ls k x h e in
    let test : may_come g (made_from g start (take k ls)) x ≡ true = ap (λ (m : Made). may_come g m x) made ∙ sym asked ∙ said in (
      more ∙ and_from (accepted g (take k ls)) (may_come g (made_from g start (take k ls)) x) front test,
      made_more g start ls k x h e ∙ ap (λ (m : Made). after g m x) made ∙ sym next,
    )

-- all lines were taken
pub all_taken : (g : Ground) (ls : List Line) (k : ℕ) (p : Made) → length ls ≡ k → accepted g (take k ls) ≡ true → made_from g start (take k ls) ≡ p → (accepted g ls ≡ true) × (made g ls ≡ p)
all_taken g ls k p h front made_is =
    let whole : take k ls ≡ ls = take_all k ls (omega arith) in
    (ap (accepted g) (sym whole) ∙ front, ap (made g) (sym whole) ∙ made_is)

-- the verdict of what they left
pub verdict_is : (g : Ground) (ls : List Line) (m : Made) (closed : Bool) (e : Ending) → made g ls ≡ m → closed ≡ has_empty m.clauses → e ≡ record { closed = closed; found = m.found } → e ≡ ending g ls
verdict_is g ls m closed e made_is flag is =
    is ∙ ap (λ (b : Bool). record { closed = b; found = m.found }) flag ∙ ap (λ (z : Made). record { closed = has_empty z.clauses; found = z.found }) (sym made_is)

-- and what it says is so
pub verdict_sound : (g : Ground) (m : Made) (closed : Bool) (e : Ending) → IsSound g m → closed ≡ has_empty m.clauses → e ≡ record { closed = closed; found = m.found } → Means g (shown_of e)
verdict_sound g m closed e s flag is =
    let same : shown_by (has_empty m.clauses) m.found ≡ shown_of e = sym (ap shown_of is ∙ ap (λ (b : Bool). shown_by b m.found) flag) in
    subst (Means g) same (sound_means g m s)
