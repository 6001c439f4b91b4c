-- What each line of a run leaves: levels, mode, learnt clauses and bounds.
use Rattle.std.proofs.Common.{◌≡◌, ℕ, zero, suc, ◌<◌, Bool, true, false, ◌||◌, cond, List, [], ◌∷◌, ◌++◌, length, refl, sym, ap, ◌∙◌, arith, subst, All, is_some, length-append, append_assoc}
use Rattle.std.specs.List.{AllByRecursion, Contains}
use Rattle.std.proofs.lemmas.List.Elements.{Contains-append_left, Contains-append_right, All-contains_itself}
use Rattle.signed_clause.specs.Ranges.{is_nil}
use Rattle.signed_clause.specs.Clauses.{Boxes, Literals, false_in, unit_of}
use Rattle.log_form.specs.Acceptance.{Made, clause_at, has_empty}
use Rattle.fd_store.specs.Levels.{Stack, reacted, pruned_by}
use Rattle.run_law.specs.Replay.{Mode, Going, Conflict, AtFound, Closed, mode_by, first_false, mode_by_bounds}

-- ---- clauses that were made

nil_at : (P : Literals → Type 0) → P [] → (j : ℕ) → P (clause_at [] j)
nil_at P h zero = h
nil_at P h (suc j) = h

clause_here : (before : List Literals) (c : Literals) (cs : List Literals) →
    clause_at (before ++ c ∷ cs) (length before) ≡ c
clause_here [] c cs = refl
clause_here (b ∷ before) c cs = clause_here before c cs

length_one : (before : List Literals) (c : Literals) →
    length (before ++ c ∷ []) ≡ suc (length before)
length_one [] c = refl
length_one (b ∷ before) c = ap suc (length_one before c)

pub at_append : (P : Literals → Type 0) (cs ds : List Literals) → P [] →
    ((j : ℕ) → P (clause_at cs j)) → AllByRecursion P ds → (j : ℕ) → P (clause_at (cs ++ ds) j)
at_append P [] [] nil old new j = nil_at P nil j
at_append P [] (d ∷ ds) nil old new zero = new.0
at_append P [] (d ∷ ds) nil old new (suc j) = at_append P [] ds nil (nil_at P nil) new.1 j
at_append P (c ∷ cs) ds nil old new zero = old 0
at_append P (c ∷ cs) ds nil old new (suc j) =
    at_append P cs ds nil (λ i. old (suc i)) new j

or_assoc : (a b c : Bool) → (a || (b || c)) ≡ ((a || b) || c)
or_assoc true b c = refl
or_assoc false b c = refl

has_empty-append : (cs ds : List Literals) → has_empty (cs ++ ds) ≡ (has_empty cs || has_empty ds)
has_empty-append [] ds = refl
has_empty-append (c ∷ cs) ds =
    ap (λ b. is_nil c || b) (has_empty-append cs ds)
    ∙ or_assoc (is_nil c) (has_empty cs) (has_empty ds)

-- the empty clause is made by the new clauses alone
pub empty_more : (cs ds : List Literals) → has_empty cs ≡ false →
    has_empty (cs ++ ds) ≡ has_empty ds
empty_more cs ds h = has_empty-append cs ds ∙ ap (λ b. b || has_empty ds) h

pub empty_one : (cs : List Literals) (c : Literals) → has_empty cs ≡ false →
    has_empty (cs ++ c ∷ []) ≡ is_nil c
empty_one cs c h = empty_more cs (c ∷ []) h
    ∙ elim (is_nil c) as (λ b. (b || false) ≡ b) [ true ↦ refl | false ↦ refl ]

pub some_at : (cs : List Literals) (j : ℕ) → has_empty cs ≡ false → j < length cs →
    is_nil (clause_at cs j) ≡ false
some_at [] j h lt = absurd (omega arith)
some_at (c ∷ cs) zero h lt =
    (elim (is_nil c) as (λ b. (b || has_empty cs) ≡ false → b ≡ false) [
      | true ↦ λ h. h
      | false ↦ λ h. refl
    ]) h
some_at (c ∷ cs) (suc j) h lt =
    let rest : has_empty cs ≡ false = (elim (is_nil c) as (λ b. (b || has_empty cs) ≡ false →
    has_empty cs ≡ false) [ true ↦ λ h. absurd cc | false ↦ λ h. h ]) h in
    some_at cs j rest (omega arith)

-- all of them are among those made
abbrev pub AreMade : List Literals → List Literals → Type 0
AreMade made cs = All (λ c. Contains made c) cs

pub made_more : (cs ds es : List Literals) → AreMade cs es → AreMade (cs ++ ds) es
made_more cs ds es h = λ k d lt. Contains-append_left cs ds _ (h k d lt)

pub made_new : (cs ds : List Literals) → AreMade (cs ++ ds) ds
made_new cs ds = λ k d lt. Contains-append_right cs ds _ (All-contains_itself ds k d lt)

-- ---- modes

-- what each mode says of the clauses made and of the present boxes
abbrev pub HoldsIn : Made → Boxes → Mode → Type 0
HoldsIn m boxes Going = has_empty m.clauses ≡ false
HoldsIn m boxes (Conflict n) =
    (has_empty m.clauses ≡ false) × (n < length m.clauses)
    × (false_in boxes (clause_at m.clauses n) ≡ true)
HoldsIn m boxes AtFound = (has_empty m.clauses ≡ false) × (is_some m.found ≡ true)
HoldsIn m boxes Closed = has_empty m.clauses ≡ true

pub reacted_mode : (m : Made) (k : ℕ) (c : Literals) (s : Stack) →
    has_empty m.clauses ≡ is_nil c → k < length m.clauses → clause_at m.clauses k ≡ c →
    HoldsIn m (reacted k c s).top.now (mode_by s.top.now k c)
reacted_mode m k c s empty lt is =
    let after = reacted k c s in
    (elim (is_nil c) as (λ b. has_empty m.clauses ≡ b → HoldsIn m after.top.now
    (cond b Closed (cond (false_in s.top.now c) (Conflict k) Going))) [
      | true ↦ λ e. e
      | false ↦ λ e. (elim (false_in s.top.now c) as (λ b. false_in s.top.now c ≡ b → HoldsIn m
          (cond b s (pruned_by k (unit_of s.top.now c) s)).top.now
          (cond b (Conflict k) Going)) [
            | true ↦ λ f. (e, lt, ap (false_in s.top.now) is ∙ f)
            | false ↦ λ f. e
          ]) refl
    ]) empty

-- the first clause that is false of those behind the ones before
false_mode : (m : Made) (boxes : Boxes) (before cs : List Literals) → m.clauses ≡ before ++ cs →
    has_empty m.clauses ≡ false → HoldsIn m boxes (first_false boxes (length before) cs)
false_mode m boxes before [] e h = h
false_mode m boxes before (c ∷ cs) e h =
    let n = length before in
    let assoc : before ++ c ∷ cs ≡ (before ++ c ∷ []) ++ cs =
    sym (append_assoc before (c ∷ []) cs) in
    let more : HoldsIn m boxes (first_false boxes (length (before ++ c ∷ [])) cs) =
    false_mode m boxes (before ++ c ∷ []) cs (e ∙ assoc) h in
    let one : length (before ++ c ∷ []) ≡ suc n = length_one before c in
    let later : HoldsIn m boxes (first_false boxes (suc n) cs) =
    subst (λ (n : ℕ). HoldsIn m boxes (first_false boxes n cs)) one more in
    (elim (false_in boxes c) as (λ b. false_in boxes c ≡ b →
    HoldsIn m boxes (cond b (Conflict n) (first_false boxes (suc n) cs))) [
      | true ↦ λ f.
          let long = length-append before (c ∷ cs) in
          let there : n < length m.clauses = subst (λ (ds : List Literals). n < length ds) (sym e)
          (omega (arith, long)) in
          let at : clause_at m.clauses n ≡ c = ap (λ (ds : List Literals). clause_at ds n) e
          ∙ clause_here before c cs in
          (h, there, ap (false_in boxes) at ∙ f)
      | false ↦ λ f. later
    ]) refl

pub bounds_mode : (m : Made) (boxes : Boxes) (before cs : List Literals) →
    m.clauses ≡ before ++ cs → has_empty before ≡ false →
    HoldsIn m boxes (mode_by_bounds boxes (length before) cs)
bounds_mode m boxes before cs e h =
    let is : has_empty m.clauses ≡ has_empty cs = ap has_empty e ∙ empty_more before cs h in
    (elim (has_empty cs) as (λ b. has_empty m.clauses ≡ b →
    HoldsIn m boxes (cond b Closed (first_false boxes (length before) cs))) [
      | true ↦ λ k. k
      | false ↦ λ k. false_mode m boxes before cs e k
    ]) is
