-- Clauses that rest on the first constraints of a problem are true wherever these are.
use Rattle.std.proofs.Common.{◌≡◌, ℕ, zero, suc, ◌<◌, Bool, true, false, not, ◌&&◌, cond, nat_lt}
use Rattle.std.proofs.Common.{List, [], ◌∷◌, ◌++◌, ℤ, pos, length, take, replicate, All}
use Rattle.std.proofs.Common.{refl, sym, ap, ◌∙◌, arith, subst}
use Rattle.std.proofs.lemmas.List.{length-take, get_or-take}
use Rattle.std.proofs.lemmas.List.Elements.{All-nil, All-cons, All-append, All-head, All-tail}
use Rattle.std.proofs.lemmas.Bool.{and_parts, ltb-true}
use Rattle.signed_clause.specs.Clauses.{Literals, has_var, clause_true, resolvent, IsClause}
use Rattle.signed_clause.proofs.ClauseLaws.{resolvent_true, IsClauseFrom-resolvent}
use Rattle.ground_form.specs.declared.con.Con.{Con}
use Rattle.ground_form.specs.declared.con.Con.TheVariants.{LinLe}
use Rattle.ground_form.specs.declared.ground.Ground.{Ground}
use Rattle.ground_form.specs.Meaning.{con_true, clause_vars}
use Rattle.ground_form.specs.Solutions.{IsPoint}
use Rattle.ground_form.specs.WellMade.{IsWellMade}
use Rattle.box_rules.specs.Justified.{justified}
use Rattle.numbered_clauses.specs.declared.chain.Chain.{Chain as AChain}
use Rattle.log_form.specs.declared.line.Line.{Line}
use Rattle.log_form.specs.declared.line.Line.TheVariants.{Axiom, Chain, Bound, Use}
use Rattle.log_form.specs.declared.line.Line.TheVariants.{Found, Decide, Empty}
use Rattle.log_form.specs.Acceptance.{Made, start, clause_at, has_empty}
use Rattle.log_form.specs.Acceptance.{chain_holds, chain_end, same_clause}
use Rattle.log_form.specs.Acceptance.{bounds, vars_below, con_at, accepts, after}
use Rattle.log_form.specs.Acceptance.{may_come, accepted_from, accepted}
use Rattle.log_check.specs.Added.{added}
use Rattle.log_check.specs.Trimmed.{bounds_count}
use Rattle.log_check.specs.Soundness.{HasClause, IsSound}
use Rattle.log_check.proofs.Justified.{justified-true}
use Rattle.log_check.proofs.Steps.{same_clause-equal, sound_start, sound_step}
use Rattle.log_check.proofs.TrimLaws.{after_is, added_size}
use Rattle.kept_clauses.specs.Kept.{is_marked, steps_rest, chain_rests, marks_of}
use Rattle.kept_clauses.specs.Kept.{is_kept, keeps, derived, flagged, kept}

-- ---- marks and clauses

-- there is a mark for each clause, and each that is marked is true
abbrev pub AreTrue : List ℤ → List Bool → List Literals → Type 0
AreTrue a [] [] = Unit {0}
AreTrue a [] (c ∷ cs) = ⊥
AreTrue a (m ∷ marks) [] = ⊥
AreTrue a (m ∷ marks) (c ∷ cs) = (m ≡ true → clause_true c a ≡ true) × AreTrue a marks cs

true_append : (a : List ℤ) (marks more : List Bool) (cs ds : List Literals) →
    AreTrue a marks cs → AreTrue a more ds → AreTrue a (marks ++ more) (cs ++ ds)
true_append a [] more [] ds h k = k
true_append a [] more (c ∷ cs) ds h k = absurd h
true_append a (m ∷ marks) more [] ds h k = absurd h
true_append a (m ∷ marks) more (c ∷ cs) ds h k = (h.0, true_append a marks more cs ds h.1 k)

true_at : (a : List ℤ) (marks : List Bool) (cs : List Literals) (j : ℕ) → AreTrue a marks cs →
    is_marked marks j ≡ true → clause_true (clause_at cs j) a ≡ true
true_at a [] cs zero h k = absurd cc
true_at a [] cs (suc j) h k = absurd cc
true_at a (m ∷ marks) [] j h k = absurd h
true_at a (m ∷ marks) (c ∷ cs) zero h k = h.0 k
true_at a (m ∷ marks) (c ∷ cs) (suc j) h k = true_at a marks cs j h.1 k

-- of clauses that aren't marked nothing is said
none_true : (a : List ℤ) (n : ℕ) (cs : List Literals) → length cs ≡ n →
    AreTrue a (replicate n false) cs
none_true a zero [] h = tt
none_true a zero (c ∷ cs) h = absurd (omega arith)
none_true a (suc n) [] h = absurd (omega arith)
none_true a (suc n) (c ∷ cs) h = (λ e. absurd cc, none_true a n cs (omega arith))

-- ---- chains

-- a chain from a true clause leads to a true one, where all clauses that it resolves with are
steps_true : (a : List ℤ) (marks : List Bool) (cs : List Literals) (c : Literals)
    (ss : List (ℕ × ℕ)) → ((j : ℕ) → IsClause (clause_at cs j)) → AreTrue a marks cs →
    IsClause c → clause_true c a ≡ true → steps_rest marks ss ≡ true →
    chain_holds cs c ss ≡ true → clause_true (chain_end cs c ss) a ≡ true
steps_true a marks cs c [] forms truths f h r k = h
steps_true a marks cs c (s ∷ ss) forms truths f h r k =
    let d = clause_at cs s.1 in
    let next = resolvent s.0 c d in
    let holds = chain_holds cs next ss in
    let p = and_parts (nat_lt s.1 (length cs)) (has_var c s.0 && (has_var d s.0 && holds)) k in
    let q = and_parts (has_var c s.0) (has_var d s.0 && holds) p.1 in
    let t = and_parts (has_var d s.0) holds q.1 in
    let rests = and_parts (is_marked marks s.1) (steps_rest marks ss) r in
    let here = true_at a marks cs s.1 truths rests.0 in
    let form = IsClauseFrom-resolvent s.0 c d 0 f (forms s.1) in
    let now = resolvent_true s.0 c d 0 0 a f (forms s.1) h here in
    steps_true a marks cs next ss forms truths form now rests.1 t.1

-- the clause of an accepted chain, all of whose clauses are marked
chain_true : (g : Ground) (a : List ℤ) (marks : List Bool) (m : Made) (chain : AChain)
    (c : Literals) → IsSound g m → AreTrue a marks m.clauses →
    accepts g m (Chain chain c) ≡ true → chain_rests marks chain ≡ true → clause_true c a ≡ true
unfolding accepts
chain_true g a marks m chain c s truths h r =
    let cs = m.clauses in
    let d = clause_at cs chain.first in
    let end = chain_end cs d chain.steps in
    let holds = chain_holds cs d chain.steps in
    let p = and_parts (nat_lt chain.first (length cs)) (holds && same_clause end c) h in
    let q = and_parts holds (same_clause end c) p.1 in
    let rests = and_parts (is_marked marks chain.first) (steps_rest marks chain.steps) r in
    let first = true_at a marks cs chain.first truths rests.0 in
    let form = s.forms chain.first in
    let now = steps_true a marks cs d chain.steps s.forms truths form first rests.1 q.0 in
    subst (λ (z : Literals). clause_true z a ≡ true) (same_clause-equal end c q.1) now

-- ---- the first constraints

-- the problem is well made, and its first b constraints are true at values in its domains
pub record AreMet (g : Ground) (b : ℕ) (a : List ℤ) : Type 0 where
  pub well_made : IsWellMade g
  pub point : IsPoint g.domains a
  pub truths : All (λ con. con_true con a ≡ true) (take b g.cons)

first_true : (cons : List Con) (b k : ℕ) (a : List ℤ) →
    All (λ con. con_true con a ≡ true) (take b cons) → k < b → k < length cons →
    con_true (con_at cons k) a ≡ true
first_true cons b k a h lt less =
    let none = LinLe [] (pos 0) in
    let size = length-take b cons in
    ap (λ (con : Con). con_true con a) (sym (get_or-take b cons k none lt))
    ∙ h k none (omega (arith, size))

-- the clause of an accepted axiom, whose constraint is one of them
axiom_true : (g : Ground) (b : ℕ) (a : List ℤ) (m : Made) (k : ℕ) (c : Literals) → AreMet g b a →
    IsClause c → accepts g m (Axiom k c) ≡ true → nat_lt k b ≡ true → clause_true c a ≡ true
unfolding accepts
axiom_true g b a m k c met f h first =
    let con = con_at g.cons k in
    let below = vars_below (length g.domains) (clause_vars c) in
    let right = justified con g.domains c in
    let p = and_parts (nat_lt k (length g.cons)) (below && right) h in
    let q = and_parts below right p.1 in
    let w = met.well_made in
    let lt : k < length g.cons = ltb-true k (length g.cons) p.0 in
    let truth = first_true g.cons b k a met.truths (ltb-true k b first) lt in
    let well = w.constraints k (LinLe [] (pos 0)) lt in
    justified-true con g.domains c a w.domains well f met.point q.1 truth

-- ---- one line

-- the marks of what a line makes
added_true : (g : Ground) (b : ℕ) (a : List ℤ) (marks : List Bool) (m : Made) (l : Line) →
    AreMet g b a → HasClause l → IsSound g m → AreTrue a marks m.clauses →
    accepts g m l ≡ true → AreTrue a (marks_of g b marks l) (added g m.found l)
added_true g b a marks m (Axiom k c) met f s truths h =
    (λ first. axiom_true g b a m k c met f h first, tt)
added_true g b a marks m (Chain chain c) met f s truths h =
    (λ rests. chain_true g a marks m chain c s truths h rests, tt)
added_true g b a marks m (Bound values) met f s truths h =
    none_true a (bounds_count g.goals) (bounds g m.found) (added_size g m (Bound values) h)
added_true g b a marks m (Use i) met f s truths h = tt
added_true g b a marks m (Found values) met f s truths h = tt
added_true g b a marks m (Decide x set) met f s truths h = tt
added_true g b a marks m (Empty x) met f s truths h = (λ e. absurd cc, tt)

-- the marks behind it
after_true : (g : Ground) (b : ℕ) (a : List ℤ) (marks : List Bool) (m : Made) (l : Line) →
    AreMet g b a → HasClause l → IsSound g m → AreTrue a marks m.clauses →
    accepts g m l ≡ true → AreTrue a (marks ++ marks_of g b marks l) (after g m l).clauses
after_true g b a marks m l met f s truths h =
    let more = marks_of g b marks l in
    let new = added g m.found l in
    subst (λ (z : Made). AreTrue a (marks ++ more) z.clauses) (sym (after_is g m l))
    (true_append a marks more m.clauses new truths (added_true g b a marks m l met f s truths h))

-- ---- what is kept of one line

-- each clause of some that are taken or not
taken_all : (P : Literals → Type 0) (f : Bool) (cs : List Literals) → (f ≡ true → All P cs) →
    All P (cond f cs [])
taken_all P true cs h = h refl
taken_all P false cs h = All-nil P

one_all : (P : Literals → Type 0) (c : Literals) → P c → All P (c ∷ [])
one_all P c h = All-cons P c [] h (All-nil P)

derived_form : (n : ℕ) (marks : List Bool) (l : Line) → HasClause l → is_kept n marks l ≡ true →
    All (λ c. IsClause c) (derived l)
derived_form n marks (Axiom k c) f h = All-nil (λ c. IsClause c)
derived_form n marks (Chain chain c) f h = one_all (λ c. IsClause c) c f
derived_form n marks (Bound values) f h = All-nil (λ c. IsClause c)
derived_form n marks (Use i) f h = All-nil (λ c. IsClause c)
derived_form n marks (Found a) f h = All-nil (λ c. IsClause c)
derived_form n marks (Decide x set) f h = All-nil (λ c. IsClause c)
derived_form n marks (Empty x) f h = All-nil (λ c. IsClause c)

-- each variable is among the first n
abbrev pub IsLow : ℕ → Literals → Type 0
IsLow n c = All (λ l. l.0 < n) c

low_below : (n : ℕ) (c : Literals) → vars_below n (clause_vars c) ≡ true → IsLow n c
low_below n [] h = All-nil (λ l. l.0 < n)
low_below n (l ∷ c) h =
    let p = and_parts (nat_lt l.0 n) (vars_below n (clause_vars c)) h in
    All-cons (λ l. l.0 < n) l c (ltb-true l.0 n p.0) (low_below n c p.1)

derived_low : (n : ℕ) (marks : List Bool) (l : Line) → HasClause l → is_kept n marks l ≡ true →
    All (IsLow n) (derived l)
derived_low n marks (Axiom k c) f h = All-nil (IsLow n)
derived_low n marks (Chain chain c) f h =
    let p = and_parts (chain_rests marks chain) (vars_below n (clause_vars c)) h in
    one_all (IsLow n) c (low_below n c p.1)
derived_low n marks (Bound values) f h = All-nil (IsLow n)
derived_low n marks (Use i) f h = All-nil (IsLow n)
derived_low n marks (Found a) f h = All-nil (IsLow n)
derived_low n marks (Decide x set) f h = All-nil (IsLow n)
derived_low n marks (Empty x) f h = All-nil (IsLow n)

abbrev pub IsTrueAt : List ℤ → Literals → Type 0
IsTrueAt a c = clause_true c a ≡ true

derived_true : (g : Ground) (n : ℕ) (a : List ℤ) (marks : List Bool) (m : Made) (l : Line) →
    IsSound g m → AreTrue a marks m.clauses → accepts g m l ≡ true → is_kept n marks l ≡ true →
    All (IsTrueAt a) (derived l)
derived_true g n a marks m (Axiom i c) s truths h k = All-nil (IsTrueAt a)
derived_true g n a marks m (Chain chain c) s truths h k =
    let p = and_parts (chain_rests marks chain) (vars_below n (clause_vars c)) k in
    one_all (IsTrueAt a) c (chain_true g a marks m chain c s truths h p.0)
derived_true g n a marks m (Bound values) s truths h k = All-nil (IsTrueAt a)
derived_true g n a marks m (Use i) s truths h k = All-nil (IsTrueAt a)
derived_true g n a marks m (Found values) s truths h k = All-nil (IsTrueAt a)
derived_true g n a marks m (Decide x set) s truths h k = All-nil (IsTrueAt a)
derived_true g n a marks m (Empty x) s truths h k = All-nil (IsTrueAt a)

-- ---- all lines

-- what each line's clause keeps, whatever the marks are
kept_all : (P : Literals → Type 0) (g : Ground) (n b : ℕ) (marks : List Bool) (ls : List Line) →
    ((told : List Bool) (l : Line) → HasClause l → is_kept n told l ≡ true → All P (derived l)) →
    All (λ l. HasClause l) ls → All P (flagged (keeps g n b marks ls) ls)
kept_all P g n b marks [] by f = All-nil P
kept_all P g n b marks (l ∷ ls) by f =
    let form = All-head (λ l. HasClause l) l ls f in
    let rest = All-tail (λ l. HasClause l) l ls f in
    let more = marks ++ marks_of g b marks l in
    All-append P (cond (is_kept n marks l) (derived l) []) (flagged (keeps g n b more ls) ls)
    (taken_all P (is_kept n marks l) (derived l) (λ k. by marks l form k))
    (kept_all P g n b more ls by rest)

pub kept_forms : (g : Ground) (n b : ℕ) (ls : List Line) → All (λ l. HasClause l) ls →
    All (λ c. IsClause c) (kept g n b ls)
kept_forms g n b ls f =
    kept_all (λ c. IsClause c) g n b [] ls (λ marks l form k. derived_form n marks l form k) f

pub kept_low : (g : Ground) (n b : ℕ) (ls : List Line) → All (λ l. HasClause l) ls →
    All (λ c. All (λ l. l.0 < n) c) (kept g n b ls)
kept_low g n b ls f =
    kept_all (IsLow n) g n b [] ls (λ marks l form k. derived_low n marks l form k) f

true_from : (g : Ground) (n b : ℕ) (a : List ℤ) (marks : List Bool) (m : Made)
    (ls : List Line) → AreMet g b a → All (λ l. HasClause l) ls → IsSound g m →
    AreTrue a marks m.clauses → accepted_from g m ls ≡ true →
    All (IsTrueAt a) (flagged (keeps g n b marks ls) ls)
true_from g n b a marks m [] met f s truths h = All-nil (IsTrueAt a)
true_from g n b a marks m (l ∷ ls) met f s truths h =
    let form = All-head (λ l. HasClause l) l ls f in
    let rest = All-tail (λ l. HasClause l) l ls f in
    let more = marks ++ marks_of g b marks l in
    let p = and_parts (may_come g m l) (accepted_from g (after g m l) ls) h in
    let q = and_parts (not (has_empty m.clauses)) (accepts g m l) p.0 in
    let sound = sound_step g m l met.well_made form s q.1 in
    let now = after_true g b a marks m l met form s truths q.1 in
    All-append (IsTrueAt a) (cond (is_kept n marks l) (derived l) [])
    (flagged (keeps g n b more ls) ls)
    (taken_all (IsTrueAt a) (is_kept n marks l) (derived l)
    (λ k. derived_true g n a marks m l s truths q.1 k))
    (true_from g n b a more (after g m l) ls met rest sound now p.1)

pub kept_truths : (g : Ground) (n b : ℕ) (ls : List Line) → IsWellMade g →
    accepted g ls ≡ true → All (λ l. HasClause l) ls → (a : List ℤ) → IsPoint g.domains a →
    All (λ con. con_true con a ≡ true) (take b g.cons) →
    All (λ c. clause_true c a ≡ true) (kept g n b ls)
kept_truths g n b ls w h f a p truths =
    let met : AreMet g b a = record { well_made = w; point = p; truths = truths } in
    true_from g n b a [] start ls met f (sound_start g) tt h

pub ruleset kept_laws = (kept_forms, kept_low, kept_truths)
