-- Among accepted lines only the last can have made the empty clause.
use Rattle.std.proofs.Common.{◌≡◌, ℕ, zero, suc, ◌+◌, ◌-◌, ◌<◌, ◌≤◌, Bool, true, false, not, ◌&&◌, ◌||◌, List, [], ◌∷◌, ℤ, length, get_or, refl, sym, ap, ◌∙◌, arith, subst, add-one, take, Option, Some, None, All}
use Rattle.std.proofs.lemmas.Bool.{and_parts}
use Rattle.ground_form.specs.declared.ground.Ground.{Ground}
use Rattle.ground_form.specs.WellMade.{IsWellMade}
use Rattle.signed_clause.specs.Clauses.{Boxes}
use Rattle.log_form.specs.declared.line.Line.{Line}
use Rattle.log_form.specs.declared.line.Line.TheVariants.{Axiom, Chain, Bound, Use, Found, Decide, Empty}
use Rattle.log_form.specs.Acceptance.{Made, start, has_empty, point_of, all_true, beats, accepts, after, may_come, accepted, made, accepted_from, made_from}
use Rattle.log_check.specs.Added.{added, found_after, found_from, last_values}
use Rattle.log_check.proofs.Points.{goals_at}
use Rattle.log_check.proofs.TrimLaws.{after_is, has_empty_append}

-- ---- what was found last

found_is : (g : Ground) (m : Made) (ls : List Line) → (made_from g m ls).found ≡ found_from m.found ls
found_is g m [] = refl
found_is g m (l ∷ ls) = found_is g (after g m l) ls ∙ ap (λ (n : Made). found_from n.found ls) (after_is g m l)

-- the values found last are a point
abbrev FoundPoint : Boxes → Option (List ℤ) → Type 0
FoundPoint ds None = Unit {0}
FoundPoint ds (Some a) = point_of ds a ≡ true

point_after : (g : Ground) (m : Made) (l : Line) → FoundPoint g.domains m.found → accepts g m l ≡ true → FoundPoint g.domains (after g m l).found
unfolding accepts after
point_after g m (Axiom k c) p h = p
point_after g m (Chain chain c) p h = p
point_after g m (Bound values) p h = p
point_after g m (Use i) p h = p
point_after g m (Found a) p h = (and_parts (point_of g.domains a) (all_true g.cons a && beats g.goals m.found a) h).0
point_after g m (Decide x set) p h = p
point_after g m (Empty x) p h = p

point_found : (g : Ground) (m : Made) (ls : List Line) → FoundPoint g.domains m.found → accepted_from g m ls ≡ true → FoundPoint g.domains (made_from g m ls).found
point_found g m [] p h = p
point_found g m (l ∷ ls) p h =
    let q = and_parts (may_come g m l) (accepted_from g (after g m l) ls) h in
    let r = and_parts (not (has_empty m.clauses)) (accepts g m l) q.0 in
    point_found g (after g m l) ls (point_after g m l p r.1) q.1

-- so the goals' variables have values there
pub found_fits : (g : Ground) (ls : List Line) (a : List ℤ) → IsWellMade g → accepted g ls ≡ true → last_values ls ≡ Some a → All (λ goal. goal.var < length a) g.goals
found_fits g ls a w h e =
    let point : point_of g.domains a ≡ true = subst (λ (found : Option (List ℤ)). FoundPoint g.domains found) (found_is g start ls ∙ e) (point_found g start ls tt h) in
    goals_at g.domains g.goals g.goals a refl w.goals point

-- ---- going back over lines that found nothing

found_front : (ls : List Line) (k : ℕ) (x : Line) (found : Option (List ℤ)) → k < length ls → x ≡ get_or ls k x → found_from found (take (suc k) ls) ≡ found_after (found_from found (take k ls)) x
found_front [] k x found h e = absurd (omega arith)
found_front (l ∷ ls) zero x found h e = ap (found_after found) (sym e)
found_front (l ∷ ls) (suc k) x found h e = found_front ls k x (found_after found l) (omega arith) e

found_more : (ls : List Line) (k : ℕ) (x : Line) → k < length ls → x ≡ get_or ls k x → last_values (take (k + 1) ls) ≡ found_after (last_values (take k ls)) x
found_more ls k x h e = rw add-one (found_front ls k x None h e)

pub found_back : (ls : List Line) (k : ℕ) (x : Line) → 0 < k → k ≤ length ls → x ≡ get_or ls (k - 1) x → last_values (take k ls) ≡ last_values ls → last_values ls ≡ found_after (last_values (take (k - 1) ls)) x
found_back ls k x some lt e same =
    let up : k - 1 + 1 ≡ k = omega arith in
    sym same ∙ ap (λ n. last_values (take n ls)) (sym up) ∙ found_more ls (k - 1) x (omega arith) e

-- ---- the last line

not_true : (b : Bool) → not b ≡ true → b ≡ false
not_true true h = absurd cc
not_true false h = refl

found_before : (g : Ground) (m : Made) (y : Line) → has_empty (added g (after g m y).found y) ≡ has_empty (added g m.found y)
unfolding after
found_before g m (Axiom k c) = refl
found_before g m (Chain chain c) = refl
found_before g m (Bound values) = refl
found_before g m (Use i) = refl
found_before g m (Found a) = refl
found_before g m (Decide x set) = refl
found_before g m (Empty x) = refl

last_closes : (g : Ground) (m : Made) (ls : List Line) (x : Line) → accepted_from g m ls ≡ true → 0 < length ls → x ≡ get_or ls (length ls - 1) x → has_empty (added g (made_from g m ls).found x) ≡ has_empty (made_from g m ls).clauses
last_closes g m [] x h lt e = absurd (omega arith)
last_closes g m (l ∷ []) x h lt e =
    let p = and_parts (may_come g m l) true h in
    let q = and_parts (not (has_empty m.clauses)) (accepts g m l) p.0 in
    let before = not_true (has_empty m.clauses) q.0 in
    ap (λ (y : Line). has_empty (added g (after g m l).found y)) e
    ∙ found_before g m l
    ∙ ap (λ b. b || has_empty (added g m.found l)) (sym before)
    ∙ sym (has_empty_append m.clauses (added g m.found l))
    ∙ ap (λ (n : Made). has_empty n.clauses) (sym (after_is g m l))
last_closes g m (l ∷ k ∷ ls) x h lt e =
    let p = and_parts (may_come g m l) (accepted_from g (after g m l) (k ∷ ls)) h in
    let n : length (l ∷ k ∷ ls) - 1 ≡ suc (length (k ∷ ls) - 1) = omega arith in
    last_closes g (after g m l) (k ∷ ls) x p.1 (omega arith) (e ∙ ap (λ i. get_or (l ∷ k ∷ ls) i x) n)

pub closed_by_last : (g : Ground) (ls : List Line) (x : Line) (b : Bool) → accepted g ls ≡ true → 0 < length ls → x ≡ get_or ls (length ls - 1) x → b ≡ has_empty (added g (last_values ls) x) → b ≡ has_empty (made g ls).clauses
closed_by_last g ls x b h lt e said =
    said ∙ ap (λ (found : Option (List ℤ)). has_empty (added g found x)) (sym (found_is g start ls)) ∙ last_closes g start ls x h lt e
