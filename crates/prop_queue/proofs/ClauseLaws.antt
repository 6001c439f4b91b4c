-- Clauses and other constraints, by number.
use Rattle.std.proofs.Common.{◌≡◌, ℕ, suc, zero, ◌<◌, ◌==◌, ◌+◌, Bool, true, false, cond, List, [], ◌∷◌, ◌++◌, ◌||◌, Some, length, arith, refl, sym, ap, ◌∙◌, subst, slice_get, slice_index_or, drop, drop-cons, add-one}
use Rattle.signed_clause.specs.Clauses.{Boxes, Literals}
use Rattle.ground_form.specs.declared.con.Con.{Con}
use Rattle.ground_form.specs.declared.con.Con.TheVariants.{LinLe, LinDef, ReifLe, AndDef, MemberDef, EqDef, ElementDef, CondDef, ClauseCon, AllDiff, Pack}
use Rattle.ground_form.specs.Meaning.{vars_of}
use Rattle.rule_law.specs.Reasons.{has_number}
use Rattle.clause_watches.specs.declared.rest.Rest.{Rest}
use Rattle.clause_watches.specs.declared.rest.Rest.TheVariants.{Listed}
use Rattle.clause_watches.specs.Watching.{Watching, rest_of, acts, IsActing}
use Rattle.prop_queue.specs.Work.{is_clause, literals_of, listed_vars, own_clause, clauses_from, own_number, others_from, IsActingAt}

-- ---- one constraint

pub is_it : (con : Con) → is_clause con ≡ true → con ≡ ClauseCon (literals_of con)
is_it (LinLe terms bound) e = absurd cc
is_it (LinDef out terms offset) e = absurd cc
is_it (ReifLe flag terms bound) e = absurd cc
is_it (AndDef flag parts) e = absurd cc
is_it (MemberDef flag var set) e = absurd cc
is_it (EqDef flag left right) e = absurd cc
is_it (ElementDef out index items) e = absurd cc
is_it (CondDef out flag item) e = absurd cc
is_it (ClauseCon clause) e = refl
is_it (AllDiff vars) e = absurd cc
is_it (Pack items) e = absurd cc

pub listed_plain : (con : Con) → is_clause con ≡ false → listed_vars con ≡ vars_of con
listed_plain con e = rw e refl

-- ---- the others

or_true : (a b : Bool) → b ≡ true → (a || b) ≡ true
or_true true b e = refl
or_true false b e = e

-- a constraint that isn't a clause is among them
other_from : (cons : List Con) (n k : ℕ) (con : Con) → slice_get cons k ≡ Some con →
    is_clause con ≡ false → has_number (n + k) (others_from n cons) ≡ true
other_from [] n k con at e = absurd cc
other_from (c ∷ cs) n zero con at e =
    let same : c ≡ con = cc in
    let plain : is_clause c ≡ false = subst (λ (z : Con). is_clause z ≡ false) (sym same) e in
    let first : (n == n + 0) ≡ true = grind arith in
    rw (plain, first) refl
other_from (c ∷ cs) n (suc k) con at e =
    let more : has_number (n + suc k) (others_from (suc n) cs) ≡ true =
    subst (λ (z : ℕ). has_number z (others_from (suc n) cs) ≡ true) (omega arith)
    (other_from cs (suc n) k con at e) in
    elim (is_clause c) as (λ b.
    has_number (n + suc k) (cond b [] (n ∷ []) ++ others_from (suc n) cs) ≡ true) [
      | true ↦ more
      | false ↦ or_true (n == n + suc k) _ more
    ]

pub other_listed : (cons : List Con) (k : ℕ) (con : Con) → slice_get cons k ≡ Some con →
    is_clause con ≡ false → has_number k (others_from 0 cons) ≡ true
other_listed cons k con at e =
    subst (λ (z : ℕ). has_number z (others_from 0 cons) ≡ true) (omega arith)
    (other_from cons 0 k con at e)

first_or : (a b : Bool) → (a || b) ≡ true → a ≡ false → b ≡ true
first_or true b h e = absurd cc
first_or false b h e = h

-- and none beyond the constraints is
pub other_below : (cons : List Con) (n k : ℕ) → has_number k (others_from n cons) ≡ true →
    k < n + length cons
other_below [] n k h = absurd cc
other_below (c ∷ cs) n k h =
    let P : Bool → Type 0 = λ b.
    has_number k (cond b [] (n ∷ []) ++ others_from (suc n) cs) ≡ true → k < n + suc (length cs) in
    (elim (is_clause c) as P [
      | true ↦ λ h. let more = other_below cs (suc n) k h in omega arith
      | false ↦ λ h. elim (n == k) as (λ b. (n == k) ≡ b → k < n + suc (length cs)) [
        | true ↦ λ e. let same : n ≡ k = grind arith in omega arith
        | false ↦ λ e. let more = other_below cs (suc n) k (first_or (n == k) _ h e) in omega arith
      ] refl
    ]) h

-- ---- the clauses

-- an entry is a clause, and its number is that of its constraint
record IsNumbered (cons : List Con) (m : ℕ) (p : ℕ × Literals) : Type 0 where
  pub k : ℕ
  pub number : p.0 ≡ m + k
  pub at : slice_get cons k ≡ Some (ClauseCon p.1)

later : (c : Con) (cs : List Con) (m : ℕ) (p : ℕ × Literals) → IsNumbered cs (suc m) p →
    IsNumbered (c ∷ cs) m p
later c cs m p h = record {
  k = suc h.k;
  number = h.number ∙ (omega arith);
  at = h.at;
}

-- where the first constraint is a clause
numbered_first : (c : Con) (cs : List Con) (m i : ℕ) → is_clause c ≡ true →
    ((j : ℕ) → j < length (clauses_from (suc m) cs) →
    IsNumbered cs (suc m) (slice_index_or (clauses_from (suc m) cs) j (0, []))) →
    i < suc (length (clauses_from (suc m) cs)) →
    IsNumbered (c ∷ cs) m
    (slice_index_or ((m, literals_of c) ∷ clauses_from (suc m) cs) i (0, []))
numbered_first c cs m zero e rest h = record {
  k = 0;
  number = (omega arith);
  at = ap Some (is_it c e);
}
numbered_first c cs m (suc i) e rest h = later c cs m _ (rest i (omega arith))

numbered : (cons : List Con) (m i : ℕ) → i < length (clauses_from m cons) →
    IsNumbered cons m (slice_index_or (clauses_from m cons) i (0, []))
numbered [] m i h = absurd (omega arith)
numbered (c ∷ cs) m i h =
    let P : Bool → Type 0 = λ b. is_clause c ≡ b →
    i < length (cond b ((m, literals_of c) ∷ []) [] ++ clauses_from (suc m) cs) →
    IsNumbered (c ∷ cs) m
    (slice_index_or (cond b ((m, literals_of c) ∷ []) [] ++ clauses_from (suc m) cs) i (0, [])) in
    (elim (is_clause c) as P [
      | true ↦ λ e h. numbered_first c cs m i e (numbered cs (suc m)) h
      | false ↦ λ e h. later c cs m _ (numbered cs (suc m) i h)
    ]) refl h

-- a clause that acts is a constraint that does
pub acting_at : (cons : List Con) (w : Watching) (boxes : Boxes) (n : ℕ) →
    w.added ≡ clauses_from 0 cons → IsActing boxes w n → IsActingAt cons boxes n
acting_at cons w boxes n e a =
    let there = subst (λ (z : List (ℕ × Literals)). a.index < length z) e a.there in
    let it = numbered cons 0 a.index there in
    let entry = slice_index_or (clauses_from 0 cons) a.index (0, []) in
    let number : entry.0 ≡ n =
    subst (λ (z : List (ℕ × Literals)). (slice_index_or z a.index (0, [])).0 ≡ n) e a.numbered in
    let same : it.k ≡ n = omega (arith, it.number, number) in
    record {
      clause = entry.1;
      at = subst (λ (z : ℕ). slice_get cons z ≡ Some (ClauseCon entry.1)) same it.at;
      acting = subst (λ (z : List (ℕ × Literals)).
          acts boxes (slice_index_or z a.index (0, [])).1 ≡ true) e a.acting;
    }

-- where the literals of a clause stand among the entries
pub record HasEntry (entries : List (ℕ × Literals)) (c : Literals) : Type 0 where
  pub i : ℕ
  pub there : i < length entries
  pub clause : (slice_index_or entries i (0, [])).1 ≡ c

entry_behind : (b : Bool) (p : ℕ × Literals) (entries : List (ℕ × Literals)) (c : Literals) →
    HasEntry entries c → HasEntry (cond b (p ∷ []) [] ++ entries) c
entry_behind true p entries c h =
    record { i = suc h.i; there = (let lt = h.there in omega arith); clause = h.clause }
entry_behind false p entries c h = h

pub has_entry : (cons : List Con) (m k : ℕ) (con : Con) → slice_get cons k ≡ Some con →
    is_clause con ≡ true → HasEntry (clauses_from m cons) (literals_of con)
has_entry [] m k con at e = absurd cc
has_entry (c ∷ cs) m zero con at e =
    let same : c ≡ con = cc in
    let plain : is_clause c ≡ true = subst (λ (z : Con). is_clause z ≡ true) (sym same) e in
    let it : HasEntry ((m, literals_of c) ∷ clauses_from (suc m) cs) (literals_of con) =
    record { i = 0; there = (omega arith); clause = ap literals_of same } in
    rw plain it
has_entry (c ∷ cs) m (suc k) con at e =
    entry_behind (is_clause c) (m, literals_of c) (clauses_from (suc m) cs) (literals_of con)
    (has_entry cs (suc m) k con at e)

-- ---- one after the other

-- what is left of a walk, one constraint on
pub clauses_next : (cons : List Con) (k : ℕ) (d : Con) → k < length cons →
    clauses_from k (drop k cons) ≡
    own_clause k (slice_index_or cons k d) ++ clauses_from (k + 1) (drop (k + 1) cons)
clauses_next cons k d h = rw (drop-cons cons k d h, add-one k) refl

pub others_next : (cons : List Con) (k : ℕ) (d : Con) → k < length cons →
    others_from k (drop k cons) ≡
    own_number k (slice_index_or cons k d) ++ others_from (k + 1) (drop (k + 1) cons)
others_next cons k d h = rw (drop-cons cons k d h, add-one k) refl

-- each clause that is added is still to be looked at
pub listed_more : (rests : List Rest) → ((i : ℕ) → rest_of rests i ≡ Listed) → (i : ℕ) →
    rest_of (rests ++ Listed ∷ []) i ≡ Listed
listed_more [] h zero = refl
listed_more [] h (suc i) = refl
listed_more (r ∷ rs) h zero = h 0
listed_more (r ∷ rs) h (suc i) = listed_more rs (λ j. h (suc j)) i

-- ---- an item of a list, as the code and as definitions take it

pub get_there : (cons : List Con) (n : ℕ) (con : Con) → n < length cons →
    con ≡ slice_index_or cons n con → slice_get cons n ≡ Some con
get_there [] n con h e = absurd (omega arith)
get_there (c ∷ cs) zero con h e = ap Some (sym e)
get_there (c ∷ cs) (suc n) con h e = get_there cs n con (omega arith) e

pub same_there : (cons : List Con) (n : ℕ) (con other : Con) → con ≡ slice_index_or cons n con →
    slice_get cons n ≡ Some other → con ≡ other
same_there [] n con other e at = absurd cc
same_there (c ∷ cs) zero con other e at = let same : c ≡ other = cc in e ∙ same
same_there (c ∷ cs) (suc n) con other e at = same_there cs n con other e at

pub some_one : (cons : List Con) (n : ℕ) (con other : Con) → slice_get cons n ≡ Some con →
    slice_get cons n ≡ Some other → con ≡ other
some_one cons n con other e f = let same : Some con ≡ Some other = sym e ∙ f in cc
