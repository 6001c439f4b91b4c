-- The way back along a trail, entry by entry.
use Rattle.std.proofs.Common.{◌≡◌, ℕ, ◌+◌, ◌<◌, ◌≤◌, List, [], ◌∷◌, ◌++◌, length, sym, ap, ◌∙◌, arith, subst, slice_set, reverse, take, get_or}
use Rattle.std.proofs.lemmas.List.{reverse-append, take_all, take_more}
use Rattle.signed_clause.specs.Clauses.{Boxes, Literals, box_of}
use Rattle.fd_store.specs.declared.trail.Moved.{Moved}
use Rattle.fd_store.specs.Levels.{Entry, Stack}
use Rattle.fd_store.specs.Trails.{entries_of, stack_of}
use Rattle.learn_clauses.specs.Walk.{trail_of}
use Rattle.learn_clauses.specs.Learnt.{domains_of, IsFrom, AreFrom, CameFrom}
use Rattle.learn_clauses.proofs.BackLaws.{trail_of-stack, domains_of-older}
use Rattle.test_search_checks.specs.Backwards.{IsStepBack, IsBack}

pub back_begins : (clauses : List Literals) (s : Stack) (trail : List Moved) (boxes : Boxes) →
    s ≡ stack_of s.top.now (reverse trail) → boxes ≡ s.top.now →
    IsBack clauses s trail (length trail) boxes
back_begins clauses s trail boxes h b =
    let all : take (length trail) trail ≡ trail = take_all (length trail) trail (omega arith) in
    let entries : trail_of s ≡ entries_of (reverse trail) =
    ap (λ (s : Stack). trail_of s) h ∙ trail_of-stack (reverse trail) s.top.now in
    record {
      some_left = omega arith;
      came = rw (all, b)
          (λ c. subst (λ (es : List Entry). AreFrom clauses s.top.now es) (sym entries) c);
      same_domains = rw (all, b) (ap (λ (s : Stack). domains_of s) (sym h));
    }

newest : (trail : List Moved) (i left : ℕ) (m : Moved) → left ≡ i + 1 → i < length trail →
    m ≡ get_or trail i m → reverse (take left trail) ≡ m ∷ reverse (take i trail)
newest trail i left m e lt is =
    let more : take left trail ≡ take i trail ++ m ∷ [] =
    rw e (take_more trail i m lt ∙ ap (λ (m : Moved). take i trail ++ m ∷ []) (sym is)) in
    ap (λ (ms : List Moved). reverse ms) more ∙ reverse-append (take i trail) (m ∷ [])

pub back_steps : (clauses : List Literals) (s : Stack) (trail : List Moved) (i left : ℕ)
    (m : Moved) (boxes new : Boxes) → left ≡ i + 1 → i < length trail → m ≡ get_or trail i m →
    IsBack clauses s trail left boxes → IsStepBack clauses m boxes new →
    IsBack clauses s trail i new
back_steps clauses s trail i left m boxes new e lt is w step =
    let ms = reverse (take i trail) in
    let before = slice_set boxes m.var m.before in
    let here : reverse (take left trail) ≡ m ∷ ms = newest trail i left m e lt is in
    let came : AreFrom clauses boxes (entries_of (m ∷ ms)) → CameFrom clauses s =
    subst (λ (ms : List Moved). AreFrom clauses boxes (entries_of ms) → CameFrom clauses s) here
    w.came in
    let same : domains_of (stack_of boxes (m ∷ ms)) ≡ domains_of s =
    subst (λ (ms : List Moved). domains_of (stack_of boxes ms) ≡ domains_of s) here w.same_domains in
    let from = subst (λ (b : Boxes). IsFrom m.from clauses b m.var (box_of boxes m.var))
    step.before_is step.from in
    record {
      some_left = omega arith;
      came = rw (step.before_is) (λ rest. came (from, rest));
      same_domains = rw (step.before_is) (sym (domains_of-older m ms boxes) ∙ same);
    }

pub back_ends : (clauses : List Literals) (s : Stack) (trail : List Moved) (left : ℕ)
    (boxes : Boxes) → left ≤ 0 → IsBack clauses s trail left boxes → CameFrom clauses s
back_ends clauses s trail left boxes h w' =
    let zero : left ≡ 0 = omega arith in
    let w = subst (λ (left : ℕ). IsBack clauses s trail left boxes) zero w' in
    w.came tt

pub back_domains : (clauses : List Literals) (s : Stack) (trail : List Moved) (left : ℕ)
    (boxes : Boxes) → left ≤ 0 → IsBack clauses s trail left boxes → boxes ≡ domains_of s
back_domains clauses s trail left boxes h w' =
    let zero : left ≡ 0 = omega arith in
    let w = subst (λ (left : ℕ). IsBack clauses s trail left boxes) zero w' in
    w.same_domains
