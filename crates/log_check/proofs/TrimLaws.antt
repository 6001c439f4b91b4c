-- What is trimmed is accepted, with the same verdict.
use Rattle.std.proofs.Common.{◌≡◌, ℕ, zero, suc, ◌+◌, ◌-◌, ◌<◌, ◌≤◌, inl, inr, Bool, true, false, not, ◌&&◌, ◌||◌, cond, List, [], ◌∷◌, ◌++◌, ℤ, length, length-append, refl, sym, ap, ◌∙◌, arith, subst, nat_lt, ◌==◌, Option, Some, None, append-nil}
use Rattle.std.proofs.lemmas.Bool.{and_parts, and_from, or_right, eq-eqb, ltb-true, cases_lt}
use Rattle.std.proofs.lemmas.List.{get_or_append_left, get_or-append-add}
use Rattle.signed_clause.specs.Ranges.{is_nil}
use Rattle.signed_clause.specs.Clauses.{Boxes, Literals, has_var, resolvent}
use Rattle.ground_form.specs.declared.ground.Ground.{Ground}
use Rattle.ground_form.specs.declared.ground.GroundGoal.{GroundGoal}
use Rattle.log_form.specs.declared.line.Line.{Line}
use Rattle.log_form.specs.declared.line.Line.TheVariants.{Axiom, Chain, Bound, Use, Found, Decide, Empty}
use Rattle.log_form.specs.Acceptance.{Made, start, clause_at, has_empty, chain_holds, chain_end, same_clause, bounds, bounds_of, bounds_from, with_literal, better_values, states_found, accepts, after, may_come, accepted_from, made_from, accepted, made, verdict, shown_by}
use Rattle.log_check.specs.Added.{added, found_after}
use Rattle.log_check.specs.Trimmed.{bounds_count, clauses_of, steps_name, names, named, stays, number_of, steps_renumbered, renumbered, next_number, numbers_from, trimmed_from, trimmed}

-- ---- what a line adds

pub after_is : (g : Ground) (m : Made) (l : Line) → after g m l ≡ record { clauses = m.clauses ++ added g m.found l; found = found_after m.found l }
unfolding after
after_is g m (Axiom k c) = refl
after_is g m (Chain chain c) = refl
after_is g m (Bound values) = refl
after_is g m (Use i) = ap (λ cs. record { clauses = cs; found = m.found }) (sym (append-nil m.clauses))
after_is g m (Found a) = ap (λ cs. record { clauses = cs; found = Some a }) (sym (append-nil m.clauses))
after_is g m (Decide x set) = ap (λ cs. record { clauses = cs; found = m.found }) (sym (append-nil m.clauses))
after_is g m (Empty x) = refl

added_same : (g : Ground) (found : Option (List ℤ)) (ns : List ℕ) (l : Line) → added g found (renumbered ns l) ≡ added g found l
added_same g found ns (Axiom k c) = refl
added_same g found ns (Chain chain c) = refl
added_same g found ns (Bound values) = refl
added_same g found ns (Use i) = refl
added_same g found ns (Found a) = refl
added_same g found ns (Decide x set) = refl
added_same g found ns (Empty x) = refl

found_same : (found : Option (List ℤ)) (ns : List ℕ) (l : Line) → found_after found (renumbered ns l) ≡ found_after found l
found_same found ns (Axiom k c) = refl
found_same found ns (Chain chain c) = refl
found_same found ns (Bound values) = refl
found_same found ns (Use i) = refl
found_same found ns (Found a) = refl
found_same found ns (Decide x set) = refl
found_same found ns (Empty x) = refl

bounds_size : (domains : Boxes) (a : List ℤ) (goals : List GroundGoal) (earlier : Literals) → length (bounds_from domains a earlier goals) ≡ length goals
bounds_size domains a [] earlier = refl
bounds_size domains a (goal ∷ []) earlier = refl
bounds_size domains a (goal ∷ next ∷ goals) earlier = ap suc (bounds_size domains a (next ∷ goals) (with_literal goal.var (better_values domains a goal) earlier))

bounds_of_size : (goals : List GroundGoal) (domains : Boxes) (a : List ℤ) → length (bounds_of goals domains a) ≡ bounds_count goals
bounds_of_size [] domains a = refl
bounds_of_size (goal ∷ goals) domains a = bounds_size domains a (goal ∷ goals) []

bound_size : (g : Ground) (found : Option (List ℤ)) (values : List ℤ) → states_found g.goals found values ≡ true → length (bounds g found) ≡ bounds_count g.goals
bound_size g None values h = absurd cc
bound_size g (Some a) values h = bounds_of_size g.goals g.domains a

pub added_size : (g : Ground) (m : Made) (l : Line) → accepts g m l ≡ true → length (added g m.found l) ≡ clauses_of g l
unfolding accepts
added_size g m (Axiom k c) h = refl
added_size g m (Chain chain c) h = refl
added_size g m (Bound values) h = bound_size g m.found values h
added_size g m (Use i) h = refl
added_size g m (Found a) h = refl
added_size g m (Decide x set) h = refl
added_size g m (Empty x) h = refl

-- ---- chains

-- the clause of number j has another number among others
abbrev Moves : List ℕ → List Literals → List Literals → ℕ → Type 0
Moves ns old new j = (number_of ns j < length new) × (clause_at new (number_of ns j) ≡ clause_at old j)

chain_moves : (ns : List ℕ) (old new : List Literals) (c : Literals) (ss : List (ℕ × ℕ)) → ((j : ℕ) → j < length old → steps_name ss j ≡ true → Moves ns old new j) → chain_holds old c ss ≡ true →
    (chain_holds new c (steps_renumbered ns ss) ≡ true) × (chain_end new c (steps_renumbered ns ss) ≡ chain_end old c ss)
chain_moves ns old new c [] move h = (refl, refl)
chain_moves ns old new c (s ∷ ss) move h =
    let d = clause_at old s.1 in
    let p = and_parts (nat_lt s.1 (length old)) (has_var c s.0 && (has_var d s.0 && chain_holds old (resolvent s.0 c d) ss)) h in
    let q = and_parts (has_var c s.0) (has_var d s.0 && chain_holds old (resolvent s.0 c d) ss) p.1 in
    let r = and_parts (has_var d s.0) (chain_holds old (resolvent s.0 c d) ss) q.1 in
    let self : (s.1 == s.1 || steps_name ss s.1) ≡ true = rw (eq-eqb s.1 s.1 refl) refl in
    let here = move s.1 (ltb-true s.1 (length old) p.0) self in
    let more = chain_moves ns old new (resolvent s.0 c d) ss (λ j lt named. move j lt (or_right (s.1 == j) (steps_name ss j) named)) r.1 in
    let n = number_of ns s.1 in
    let lower : nat_lt n (length new) ≡ true = let lt = here.0 in grind arith in (
      subst (λ (z : Literals). (nat_lt n (length new) && (has_var c s.0 && (has_var z s.0 && chain_holds new (resolvent s.0 c z) (steps_renumbered ns ss)))) ≡ true) (sym here.1)
          (and_from _ _ lower (and_from _ _ q.0 (and_from _ _ r.0 more.0))),
      subst (λ (z : Literals). chain_end new (resolvent s.0 c z) (steps_renumbered ns ss) ≡ chain_end old (resolvent s.0 c d) ss) (sym here.1) more.1,
    )

or_first : (x y : Bool) → x ≡ true → (x || y) ≡ true
or_first x y e = rw e refl

-- ---- what is carried over

-- the lines ls come next; `new` has what they ask of `old`, at the numbers ns
pub record IsCarried (g : Ground) (ls : List Line) (ns : List ℕ) (old new : Made) : Type 0 where
  pub size : length ns ≡ length old.clauses
  pub found : new.found ≡ old.found
  pub closed : has_empty new.clauses ≡ has_empty old.clauses
  pub moves : (j : ℕ) → j < length old.clauses → named g (length old.clauses) ls j ≡ true → Moves ns old.clauses new.clauses j

pub carried_start : (g : Ground) (ls : List Line) → IsCarried g ls [] start start
carried_start g ls = record { size = refl; found = refl; closed = refl; moves = λ j lt h. absurd (omega arith) }

-- a line that stays is accepted
kept_accepts : (g : Ground) (l : Line) (ls : List Line) (ns : List ℕ) (old new : Made) → IsCarried g (l ∷ ls) ns old new → stays g (length old.clauses) l ls ≡ true → accepts g old l ≡ true →
    accepts g new (renumbered ns l) ≡ true
unfolding accepts
kept_accepts g (Axiom k c) ls ns old new s kept h = h
kept_accepts g (Chain chain c) ls ns old new s kept h =
    let d = clause_at old.clauses chain.first in
    let n = length old.clauses in
    let behind = named g (n + 1) ls in
    let p = and_parts (nat_lt chain.first n) (chain_holds old.clauses d chain.steps && same_clause (chain_end old.clauses d chain.steps) c) h in
    let q = and_parts (chain_holds old.clauses d chain.steps) (same_clause (chain_end old.clauses d chain.steps) c) p.1 in
    let asked : (j : ℕ) → names (Chain chain c) j ≡ true → named g n (Chain chain c ∷ ls) j ≡ true =
    λ j named_here. or_first (stays g n (Chain chain c) ls && names (Chain chain c) j) (behind j) (and_from (stays g n (Chain chain c) ls) (names (Chain chain c) j) kept named_here) in
    let first = s.moves chain.first (ltb-true chain.first n p.0) (asked chain.first (rw (eq-eqb chain.first chain.first refl) refl)) in
    let steps = chain_moves ns old.clauses new.clauses d chain.steps (λ j lt there. s.moves j lt (asked j (or_right (chain.first == j) (steps_name chain.steps j) there))) q.0 in
    let lower : nat_lt (number_of ns chain.first) (length new.clauses) ≡ true = let lt = first.0 in grind arith in
    and_from _ _ lower
    (subst (λ (z : Literals). (chain_holds new.clauses z (steps_renumbered ns chain.steps) && same_clause (chain_end new.clauses z (steps_renumbered ns chain.steps)) c) ≡ true) (sym first.1)
    (and_from _ _ steps.0 (subst (λ (z : Literals). same_clause z c ≡ true) (sym steps.1) q.1)))
kept_accepts g (Bound values) ls ns old new s kept h = rw s.found h
kept_accepts g (Use i) ls ns old new s kept h = absurd cc
kept_accepts g (Found a) ls ns old new s kept h = rw s.found h
kept_accepts g (Decide x set) ls ns old new s kept h = h
kept_accepts g (Empty x) ls ns old new s kept h = h

-- clauses that are added to both are carried over
or_shift : (x y z : Bool) → (x || (y || z)) ≡ ((x || y) || z)
or_shift true y z = refl
or_shift false y z = refl

pub has_empty_append : (cs ds : List Literals) → has_empty (cs ++ ds) ≡ (has_empty cs || has_empty ds)
has_empty_append [] ds = refl
has_empty_append (c ∷ cs) ds = ap (λ b. is_nil c || b) (has_empty_append cs ds) ∙ or_shift (is_nil c) (has_empty cs) (has_empty ds)

or-false : (b : Bool) → (b || false) ≡ b
or-false true = refl
or-false false = refl

pub numbers_size : (kept : Bool) (k next : ℕ) → length (numbers_from kept k next) ≡ k
numbers_size kept zero next = refl
numbers_size kept (suc k) next = ap suc (numbers_size kept k (next_number kept 1 next))

numbers_at : (k next i : ℕ) → i < k → number_of (numbers_from true k next) i ≡ next + i
numbers_at zero next i h = absurd (omega arith)
numbers_at (suc k) next zero h = omega arith
numbers_at (suc k) next (suc i) h = numbers_at k (next + 1) i (omega arith) ∙ omega arith

-- a clause that stood before stands at its number still
stays_at : (ns : List ℕ) (old new ms : List Literals) (more : List ℕ) (ds : List Literals) (j : ℕ) → length ns ≡ length old → j < length old → Moves ns old new j → Moves (ns ++ more) (old ++ ds) (new ++ ms) j
stays_at ns old new ms more ds j size lt move =
    let same : number_of (ns ++ more) j ≡ number_of ns j = get_or_append_left ns more 0 j (omega arith) in
    subst (λ (n : ℕ). (n < length (new ++ ms)) × (clause_at (new ++ ms) n ≡ clause_at (old ++ ds) j)) (sym same) (
      let less = move.0 in omega (arith, length-append new ms),
      get_or_append_left new ms [] (number_of ns j) move.0 ∙ move.1 ∙ sym (get_or_append_left old ds [] j lt),
    )

-- a clause that was added to both stands at the next numbers
added_at : (ns : List ℕ) (old new ds : List Literals) (next i : ℕ) → length ns ≡ length old → next ≡ length new → i < length ds →
    Moves (ns ++ numbers_from true (length ds) next) (old ++ ds) (new ++ ds) (length old + i)
added_at ns old new ds next i size is lt =
    let same : number_of (ns ++ numbers_from true (length ds) next) (length old + i) ≡ length new + i =
    ap (λ n. number_of (ns ++ numbers_from true (length ds) next) (n + i)) (sym size) ∙ get_or-append-add ns (numbers_from true (length ds) next) i 0 ∙ numbers_at (length ds) next i lt ∙ ap (λ n. n + i) is in
    subst (λ (n : ℕ). (n < length (new ++ ds)) × (clause_at (new ++ ds) n ≡ clause_at (old ++ ds) (length old + i))) (sym same) (
      omega (arith, length-append new ds),
      get_or-append-add new ds i [] ∙ sym (get_or-append-add old ds i []),
    )

-- behind a line that stays
kept_carries : (g : Ground) (l : Line) (ls : List Line) (ns : List ℕ) (next : ℕ) (old new : Made) (ds : List Literals) (found : Option (List ℤ)) → IsCarried g (l ∷ ls) ns old new → next ≡ length new.clauses →
    length ds ≡ clauses_of g l →
    IsCarried g ls (ns ++ numbers_from true (clauses_of g l) next) (record { clauses = old.clauses ++ ds; found = found }) (record { clauses = new.clauses ++ ds; found = found })
kept_carries g l ls ns next old new ds found s is size =
    let olds = old.clauses in
    let news = new.clauses in
    let count : length (olds ++ ds) ≡ length olds + clauses_of g l = length-append olds ds ∙ ap (λ n. length olds + n) size in
    record {
      size = length-append ns (numbers_from true (clauses_of g l) next) ∙ (let e = numbers_size true (clauses_of g l) next in let f = s.size in omega arith);
      found = refl;
      closed = has_empty_append news ds ∙ ap (λ b. b || has_empty ds) s.closed ∙ sym (has_empty_append olds ds);
      moves = λ j lt h.
          elim (cases_lt j (length olds)) [
            | inl less ↦
                let asked : named g (length olds) (l ∷ ls) j ≡ true = or_right _ (named g (length olds + clauses_of g l) ls j) (subst (λ (n : ℕ). named g n ls j ≡ true) count h) in
                stays_at ns olds news ds (numbers_from true (clauses_of g l) next) ds j s.size less (s.moves j less asked)
            | inr ge ↦
                let i = j - length olds in
                let at : length olds + i ≡ j = omega arith in
                subst (λ (n : ℕ). Moves (ns ++ numbers_from true (clauses_of g l) next) (olds ++ ds) (news ++ ds) n) at
                (subst (λ (k : ℕ). Moves (ns ++ numbers_from true k next) (olds ++ ds) (news ++ ds) (length olds + i)) size (added_at ns olds news ds next i s.size is (omega (arith, length-append olds ds))))
          ];
    }

-- behind a line that goes: its clause, if it made one, isn't named
gone_carries : (g : Ground) (l : Line) (ls : List Line) (ns : List ℕ) (next : ℕ) (old new : Made) (ds : List Literals) → IsCarried g (l ∷ ls) ns old new → length ds ≡ clauses_of g l →
    ((j : ℕ) → length old.clauses ≤ j → j < length old.clauses + clauses_of g l → named g (length old.clauses + clauses_of g l) ls j ≡ false) → has_empty ds ≡ false →
    IsCarried g ls (ns ++ numbers_from false (clauses_of g l) next) (record { clauses = old.clauses ++ ds; found = old.found }) new
gone_carries g l ls ns next old new ds s size unnamed full =
    let olds = old.clauses in
    let news = new.clauses in
    let count : length (olds ++ ds) ≡ length olds + clauses_of g l = length-append olds ds ∙ ap (λ n. length olds + n) size in
    record {
      size = length-append ns (numbers_from false (clauses_of g l) next) ∙ (let e = numbers_size false (clauses_of g l) next in let f = s.size in omega arith);
      found = s.found;
      closed = s.closed ∙ sym (has_empty_append olds ds ∙ ap (λ b. has_empty olds || b) full ∙ or-false (has_empty olds));
      moves = λ j lt h.
          let there : named g (length olds + clauses_of g l) ls j ≡ true = subst (λ (n : ℕ). named g n ls j ≡ true) count h in
          elim (cases_lt j (length olds)) [
            | inl less ↦
                let asked : named g (length olds) (l ∷ ls) j ≡ true = or_right _ (named g (length olds + clauses_of g l) ls j) there in
                let moved = stays_at ns olds news [] (numbers_from false (clauses_of g l) next) ds j s.size less (s.moves j less asked) in
                subst (λ (cs : List Literals). Moves (ns ++ numbers_from false (clauses_of g l) next) (olds ++ ds) cs j) (append-nil news) moved
            | inr ge ↦ absurd (let wrong = unnamed j ge (omega arith) in cc)
          ];
    }

or_no_first : (x y : Bool) → (x || y) ≡ false → x ≡ false
or_no_first true y h = h
or_no_first false y h = refl

or_no_second : (x y : Bool) → (x || y) ≡ false → y ≡ false
or_no_second true y h = absurd cc
or_no_second false y h = h

not_true : (b : Bool) → not b ≡ true → b ≡ false
not_true true h = absurd cc
not_true false h = refl

second_false : (cs ds : List Literals) → has_empty (cs ++ ds) ≡ false → has_empty ds ≡ false
second_false cs ds h = or_no_second (has_empty cs) (has_empty ds) (sym (has_empty_append cs ds) ∙ h)

-- a line that goes isn't the last that makes a clause, and its clause isn't named behind it
gone_unnamed : (g : Ground) (n : ℕ) (l : Line) (ls : List Line) → stays g n l ls ≡ false → (j : ℕ) → n ≤ j → j < n + clauses_of g l → named g (n + clauses_of g l) ls j ≡ false
gone_unnamed g n (Axiom k c) ls h j lo hi = let at : n ≡ j = omega arith in subst (λ (i : ℕ). named g (n + 1) ls i ≡ false) at (or_no_second (is_nil ls) (named g (n + 1) ls n) h)
gone_unnamed g n (Chain chain c) ls h j lo hi = let at : n ≡ j = omega arith in subst (λ (i : ℕ). named g (n + 1) ls i ≡ false) at (or_no_second (is_nil ls) (named g (n + 1) ls n) h)
gone_unnamed g n (Bound values) ls h j lo hi = absurd cc
gone_unnamed g n (Use i) ls h j lo hi = absurd (omega arith)
gone_unnamed g n (Found a) ls h j lo hi = absurd cc
gone_unnamed g n (Decide x set) ls h j lo hi = absurd (omega arith)
gone_unnamed g n (Empty x) ls h j lo hi = let at : n ≡ j = omega arith in subst (λ (i : ℕ). named g (n + 1) ls i ≡ false) at (or_no_second (is_nil ls) (named g (n + 1) ls n) h)

-- the clauses of a line behind which others are accepted aren't empty
followed : (g : Ground) (m : Made) (ls : List Line) → is_nil ls ≡ false → accepted_from g m ls ≡ true → has_empty m.clauses ≡ false
followed g m [] h k = absurd cc
followed g m (l ∷ ls) h k =
    let p = and_parts (may_come g m l) (accepted_from g (after g m l) ls) k in
    not_true (has_empty m.clauses) (and_parts (not (has_empty m.clauses)) (accepts g m l) p.0).0

gone_full : (g : Ground) (n : ℕ) (m : Made) (l : Line) (ls : List Line) → stays g n l ls ≡ false → accepted_from g (record { clauses = m.clauses ++ added g m.found l; found = found_after m.found l }) ls ≡ true → has_empty (added g m.found l) ≡ false
gone_full g n m (Axiom k c) ls h a = second_false m.clauses (c ∷ []) (followed g _ ls (or_no_first (is_nil ls) (named g (n + 1) ls n) h) a)
gone_full g n m (Chain chain c) ls h a = second_false m.clauses (c ∷ []) (followed g _ ls (or_no_first (is_nil ls) (named g (n + 1) ls n) h) a)
gone_full g n m (Bound values) ls h a = absurd cc
gone_full g n m (Use i) ls h a = refl
gone_full g n m (Found b) ls h a = absurd cc
gone_full g n m (Decide x set) ls h a = refl
gone_full g n m (Empty x) ls h a = second_false m.clauses ([] ∷ []) (followed g _ ls (or_no_first (is_nil ls) (named g (n + 1) ls n) h) a)

gone_found : (g : Ground) (n : ℕ) (found : Option (List ℤ)) (l : Line) (ls : List Line) → stays g n l ls ≡ false → found_after found l ≡ found
gone_found g n found (Axiom k c) ls h = refl
gone_found g n found (Chain chain c) ls h = refl
gone_found g n found (Bound values) ls h = refl
gone_found g n found (Use i) ls h = refl
gone_found g n found (Found a) ls h = absurd cc
gone_found g n found (Decide x set) ls h = refl
gone_found g n found (Empty x) ls h = refl

-- ---- all lines

-- lines that come behind `new` are accepted, and leave what ls leave behind `old`
pub record Serves (g : Ground) (old new : Made) (ls kept : List Line) : Type 0 where
  pub accepted : accepted_from g new kept ≡ true
  pub closed : has_empty (made_from g new kept).clauses ≡ has_empty (made_from g old ls).clauses
  pub found : (made_from g new kept).found ≡ (made_from g old ls).found

new_added : (g : Ground) (ns : List ℕ) (l : Line) (old new : Made) → new.found ≡ old.found → after g new (renumbered ns l) ≡ record { clauses = new.clauses ++ added g old.found l; found = found_after old.found l }
new_added g ns l old new same =
    after_is g new (renumbered ns l)
    ∙ ap (λ (found : Option (List ℤ)). record { clauses = new.clauses ++ added g found (renumbered ns l); found = found_after found (renumbered ns l) }) same
    ∙ ap (λ (ds : List Literals). record { clauses = new.clauses ++ ds; found = found_after old.found (renumbered ns l) }) (added_same g old.found ns l)
    ∙ ap (λ (found : Option (List ℤ)). record { clauses = new.clauses ++ added g old.found l; found = found }) (found_same old.found ns l)

both_carried : (g : Ground) (ls : List Line) (ns : List ℕ) (old new p q : Made) → IsCarried g ls ns p q → old ≡ p → new ≡ q → IsCarried g ls ns old new
both_carried g ls ns old new p q s e f =
    subst (λ (m : Made). IsCarried g ls ns m new) (sym e) (subst (λ (m : Made). IsCarried g ls ns p m) (sym f) s)

kept_next : (g : Ground) (ns : List ℕ) (next : ℕ) (l : Line) (old new : Made) → new.found ≡ old.found → next ≡ length new.clauses → accepts g old l ≡ true → next + clauses_of g l ≡ length (after g new (renumbered ns l)).clauses
kept_next g ns next l old new same is h =
    ap (λ n. n + clauses_of g l) is ∙ ap (λ n. length new.clauses + n) (sym (added_size g old l h)) ∙ sym (length-append new.clauses (added g old.found l))
    ∙ ap (λ (m : Made). length m.clauses) (sym (new_added g ns l old new same))

kept_serves : (g : Ground) (l : Line) (ls rest : List Line) (ns : List ℕ) (old new : Made) → IsCarried g (l ∷ ls) ns old new → stays g (length ns) l ls ≡ true → may_come g old l ≡ true →
    Serves g (after g old l) (after g new (renumbered ns l)) ls rest → Serves g old new (l ∷ ls) (renumbered ns l ∷ rest)
kept_serves g l ls rest ns old new s kept h more =
    let q = and_parts (not (has_empty old.clauses)) (accepts g old l) h in
    let here : stays g (length old.clauses) l ls ≡ true = subst (λ (n : ℕ). stays g n l ls ≡ true) s.size kept in
    let open_still : not (has_empty new.clauses) ≡ true = ap not s.closed ∙ q.0 in
    record {
      accepted = and_from (may_come g new (renumbered ns l)) _ (and_from (not (has_empty new.clauses)) (accepts g new (renumbered ns l)) open_still (kept_accepts g l ls ns old new s here q.1)) more.accepted;
      closed = more.closed;
      found = more.found;
    }

gone_next : (g : Ground) (l : Line) (ls : List Line) (ns : List ℕ) (next : ℕ) (old new : Made) → IsCarried g (l ∷ ls) ns old new → stays g (length ns) l ls ≡ false → accepts g old l ≡ true → accepted_from g (after g old l) ls ≡ true →
    IsCarried g ls (ns ++ numbers_from false (clauses_of g l) next) (after g old l) new
gone_next g l ls ns next old new s gone h more =
    let here : stays g (length old.clauses) l ls ≡ false = subst (λ (n : ℕ). stays g n l ls ≡ false) s.size gone in
    let behind = subst (λ (m : Made). accepted_from g m ls ≡ true) (after_is g old l) more in
    let is : after g old l ≡ record { clauses = old.clauses ++ added g old.found l; found = old.found } =
    after_is g old l ∙ ap (λ (found : Option (List ℤ)). record { clauses = old.clauses ++ added g old.found l; found = found }) (gone_found g (length old.clauses) old.found l ls here) in
    subst (λ (m : Made). IsCarried g ls (ns ++ numbers_from false (clauses_of g l) next) m new) (sym is)
    (gone_carries g l ls ns next old new (added g old.found l) s (added_size g old l h) (gone_unnamed g (length old.clauses) l ls here) (gone_full g (length old.clauses) old l ls here behind))

carries : (g : Ground) (ls : List Line) (ns : List ℕ) (next : ℕ) (old new : Made) → IsCarried g ls ns old new → next ≡ length new.clauses → accepted_from g old ls ≡ true → Serves g old new ls (trimmed_from g ns next ls)
carries g [] ns next old new s is h = record { accepted = refl; closed = s.closed; found = s.found }
carries g (l ∷ ls) ns next old new s is h =
    let p = and_parts (may_come g old l) (accepted_from g (after g old l) ls) h in
    let q = and_parts (not (has_empty old.clauses)) (accepts g old l) p.0 in
    let k = clauses_of g l in
    elim (stays g (length ns) l ls) as (λ b. stays g (length ns) l ls ≡ b → Serves g old new (l ∷ ls) (cond b (renumbered ns l ∷ []) [] ++ trimmed_from g (ns ++ numbers_from b k next) (next_number b k next) ls)) [
      | true ↦ λ e.
          let carried = both_carried g ls (ns ++ numbers_from true k next) (after g old l) (after g new (renumbered ns l)) _ _
          (kept_carries g l ls ns next old new (added g old.found l) (found_after old.found l) s is (added_size g old l q.1)) (after_is g old l) (new_added g ns l old new s.found) in
          kept_serves g l ls (trimmed_from g (ns ++ numbers_from true k next) (next + k) ls) ns old new s e p.0
          (carries g ls (ns ++ numbers_from true k next) (next + k) (after g old l) (after g new (renumbered ns l)) carried (kept_next g ns next l old new s.found is q.1) p.1)
      | false ↦ λ e.
          let more = carries g ls (ns ++ numbers_from false k next) next (after g old l) new (gone_next g l ls ns next old new s e q.1 p.1) is p.1 in
          record { accepted = more.accepted; closed = more.closed; found = more.found }
    ] refl

-- ---- what is trimmed

whole_serves : (g : Ground) (ls : List Line) → accepted g ls ≡ true → Serves g start start ls ls
whole_serves g ls h = record { accepted = h; closed = refl; found = refl }

trimmed_serves : (g : Ground) (ls : List Line) → accepted g ls ≡ true → Serves g start start ls (trimmed g ls)
trimmed_serves g ls h =
    elim (has_empty (made g ls).clauses) as (λ b. Serves g start start ls (cond b (trimmed_from g [] 0 ls) ls)) [
      | true ↦ carries g ls [] 0 start start (carried_start g ls) refl h
      | false ↦ whole_serves g ls h
    ]

pub trimmed_accepted : (g : Ground) (ls kept : List Line) → accepted g ls ≡ true → kept ≡ trimmed g ls → accepted g kept ≡ true
trimmed_accepted g ls kept h e = let s = trimmed_serves g ls h in ap (accepted g) e ∙ s.accepted

pub trimmed_verdict : (g : Ground) (ls kept : List Line) → accepted g ls ≡ true → kept ≡ trimmed g ls → verdict g kept ≡ verdict g ls
trimmed_verdict g ls kept h e =
    let s = trimmed_serves g ls h in
    ap (verdict g) e ∙ ap (λ (b : Bool). shown_by b (made g (trimmed g ls)).found) s.closed ∙ ap (λ (found : Option (List ℤ)). shown_by (has_empty (made g ls).clauses) found) s.found
