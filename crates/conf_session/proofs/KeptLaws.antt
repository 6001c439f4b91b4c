-- Clauses that are kept, one by one.
use Rattle.std.proofs.Common.{◌≡◌, ℕ, zero, suc, ◌+◌, ◌-◌, ◌<◌, ◌≤◌, Bool, true, false, cond, List, [], ◌∷◌, ◌++◌, length, drop, refl, sym, ap, ◌∙◌, arith, length-append, drop_of_length-le}
use Rattle.std.specs.List.{list_any}
use Rattle.ground_form.specs.declared.con.Con.{Con}
use Rattle.ground_form.specs.declared.con.Con.TheVariants.{ClauseCon}
use Rattle.ground_form.specs.declared.ground.Ground.{Ground}
use Rattle.kept_clauses.specs.Kept.{flagged, keeps, marks_of}
use Rattle.log_form.specs.declared.line.Line.{Line}
use Rattle.signed_clause.specs.Clauses.{Literals}
use Rattle.conf_session.specs.Keeping.{is_stated, with_kept}

-- without room nothing is kept
pub none_left : (cons : List Con) (cs : List Literals) → with_kept 0 cons cs ≡ cons
none_left cons [] = refl
none_left cons (c ∷ cs) = refl

-- what stands already isn't kept again
pub stood : (room : ℕ) (cons : List Con) (c : Literals) (cs : List Literals) → is_stated cons c ≡ true → with_kept room cons (c ∷ cs) ≡ with_kept room cons cs
stood zero cons c cs h = sym (none_left cons cs)
stood (suc room) cons c cs h = ap (λ b. cond b (with_kept (suc room) cons cs) (with_kept room (cons ++ ClauseCon c ∷ []) cs)) h

-- one that doesn't is, where there is room
pub one_more : (room : ℕ) (cons : List Con) (c : Literals) (cs : List Literals) → 0 < room → is_stated cons c ≡ false → with_kept room cons (c ∷ cs) ≡ with_kept (room - 1) (cons ++ ClauseCon c ∷ []) cs
one_more zero cons c cs some h = absurd (omega (arith, some))
one_more (suc room) cons c cs some h =
    let one : room ≡ suc room - 1 = omega arith in
    ap (λ b. cond b (with_kept (suc room) cons cs) (with_kept room (cons ++ ClauseCon c ∷ []) cs)) h
    ∙ ap (λ n. with_kept n (cons ++ ClauseCon c ∷ []) cs) one

-- at most so many are
pub kept_few : (room : ℕ) (cons : List Con) (cs : List Literals) → (length cons ≤ length (with_kept room cons cs)) × (length (with_kept room cons cs) ≤ length cons + room)
kept_few room cons [] = (omega arith, omega arith)
kept_few zero cons (c ∷ cs) = (omega arith, omega arith)
kept_few (suc room) cons (c ∷ cs) =
    elim (is_stated cons c) as (λ b. (length cons ≤ length (cond b (with_kept (suc room) cons cs) (with_kept room (cons ++ ClauseCon c ∷ []) cs))) × (length (cond b (with_kept (suc room) cons cs) (with_kept room (cons ++ ClauseCon c ∷ []) cs)) ≤ length cons + suc room)) [
      | true ↦ kept_few (suc room) cons cs
      | false ↦
          let more = kept_few room (cons ++ ClauseCon c ∷ []) cs in
          let size : length (cons ++ ClauseCon c ∷ []) ≡ length cons + 1 = length-append cons (ClauseCon c ∷ []) in
          (omega (arith, more.0, size), omega (arith, more.1, size))
    ]

-- where no line is flagged there is no clause
pub none_flagged : (fs : List Bool) (ls : List Line) → list_any (λ f. f) fs ≡ false → flagged fs ls ≡ []
none_flagged [] ls h = refl
none_flagged (f ∷ fs) [] h = refl
none_flagged (true ∷ fs) (l ∷ ls) h = absurd cc
none_flagged (false ∷ fs) (l ∷ ls) h = none_flagged fs ls h

-- ---- flags

-- there is a flag for each line
pub flags_size : (g : Ground) (n b : ℕ) (marks : List Bool) (ls : List Line) → length (keeps g n b marks ls) ≡ length ls
flags_size g n b marks [] = refl
flags_size g n b marks (l ∷ ls) = ap suc (flags_size g n b (marks ++ marks_of g b marks l) ls)

no_line : (fs : List Bool) → flagged fs [] ≡ []
no_line [] = refl
no_line (f ∷ fs) = refl

-- behind the last line nothing is left to add
none_left_over : (fs : List Bool) (ls : List Line) (k : ℕ) → length ls ≤ k → flagged (drop k fs) (drop k ls) ≡ []
none_left_over fs ls k h = ap (flagged (drop k fs)) (drop_of_length-le ls h) ∙ no_line (drop k fs)

pub none_behind : (left : ℕ) (cons : List Con) (fs : List Bool) (ls : List Line) (k : ℕ) (whole : List Con) → length ls ≤ k → with_kept left cons (flagged (drop k fs) (drop k ls)) ≡ whole → cons ≡ whole
none_behind left cons fs ls k whole h e = sym (ap (with_kept left cons) (none_left_over fs ls k h)) ∙ e

pub flags_long : (g : Ground) (n b : ℕ) (ls : List Line) (flags : List Bool) → flags ≡ keeps g n b [] ls → length ls ≤ length flags
flags_long g n b ls flags is = let same = ap (λ (fs : List Bool). length fs) is ∙ flags_size g n b [] ls in omega (arith, same)
