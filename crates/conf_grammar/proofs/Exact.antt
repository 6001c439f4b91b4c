-- Reading refuses at the first token that no model has there.
use Rattle.std.proofs.Common.{◌≡◌, ◌≤◌, ◌<◌, ℕ, List, [], ◌∷◌, ◌++◌, refl, sym, ◌∙◌, ap, subst, append_assoc, append-nil, arith, Option, None, Some, nat_le}
use Rattle.std.proofs.lemmas.Bool.{cond_both, leb-true, leb-false}
use Rattle.conf_syntax.specs.declared.token.Token.{Token}
use Rattle.conf_syntax.specs.Plain.{Program, program_tokens, IsProgram, nesting}
use Rattle.conf_syntax.specs.Begun.{IsBegun, IsBegunIn, IsRefused, IsTooDeep}
use Rattle.conf_grammar.specs.Machine.{Outside, InClass, HomeAt, Enums, ClassHead, ShapeAt, HighAt, CountAt, WhereAt, BracesAt, State, At, Row, Need, Have, Dotted, VarAt, NamedAt, Next, step, completed, Outcome, Whole, Wrong, Deep, ended, onward, reading, onto, run, start}
use Rattle.conf_grammar.specs.Fronts.{front, back, IsState, GoesOn, IsReading}
use Rattle.conf_grammar.proofs.Complete.{completed_tokens, completed_good}
use Rattle.conf_grammar.proofs.Steps.{step_right}
use Rattle.conf_grammar.proofs.Whole.{run_append, program_back}

onto_right : (most : ℕ) (a b : List Token) (o : Option State) (f : State → Option State) → GoesOn a most o → ((s : State) → front s ≡ a → most ≤ nesting (completed s) → IsState s → GoesOn b most (f s)) → GoesOn b most (onto o f)
onto_right most a b None f h k = tt
onto_right most a b (Some s) f h k = k s h.0 h.1 h.2

raised : (tokens other : List Token) (m n : ℕ) (o : Option State) → other ≡ tokens → m ≤ n → GoesOn other n o → GoesOn tokens m o
raised tokens other m n None e h g = tt
raised tokens other m n (Some s) e h g = (g.0 ∙ e, omega (arith, g.1), g.2)

-- over a row of tokens nothing gets less nested
pub run_right : (tokens : List Token) (s : State) → IsState s → GoesOn (front s ++ tokens) (nesting (completed s)) (run tokens s)
run_right [] s h = (sym (append-nil (front s)), omega arith, h)
run_right (token ∷ rest) s h =
    onto_right (nesting (completed s)) (front s ++ (token ∷ [])) (front s ++ (token ∷ rest)) (step s token) (λ y. run rest y) (step_right s token h)
    (λ y e n i. raised (front s ++ (token ∷ rest)) (front y ++ rest) (nesting (completed s)) (nesting (completed y)) (run rest y)
    (ap (λ (x : List Token). x ++ rest) e ∙ append_assoc (front s) (token ∷ []) rest) n (run_right rest y i))

run_on : (a b : List Token) (s : State) → run a start ≡ Some s → run (a ++ b) start ≡ run b s
run_on a b s e = run_append a b start ∙ ap (λ (x : Option State). onto x (λ y. run b y)) e

onto_some : (o : Option State) → onto o (λ y. Some y) ≡ o
onto_some None = refl
onto_some (Some s) = refl

run_one : (token : Token) (s : State) → run (token ∷ []) s ≡ step s token
run_one token s = onto_some (step s token)

-- the state behind a whole program
abbrev done : Program → State
done p = At (HomeAt (Outside p))

-- a program that begins with the front comes by the front's state
run_program : (p : Program) (a back : List Token) (s : State) → IsProgram p → run a start ≡ Some s → program_tokens p ≡ a ++ back → run back s ≡ Some (done p)
run_program p a back s g e is = sym (run_on a back s e) ∙ ap (λ (x : List Token). run x start) (sym is) ∙ program_back p g

least_by : (o : Option State) (p : Program) (tokens : List Token) (n : ℕ) → GoesOn tokens n o → o ≡ Some (done p) → n ≤ nesting p
least_by o p tokens n g e = let h : GoesOn tokens n (Some (done p)) = subst (λ (x : Option State). GoesOn tokens n x) e g in h.1

-- what begins with the front is at least as nested as its state
least_of : (p : Program) (a back : List Token) (s : State) → IsState s → IsProgram p → run a start ≡ Some s → program_tokens p ≡ a ++ back → nesting (completed s) ≤ nesting p
least_of p a back s h g e is = least_by (run back s) p (front s ++ back) (nesting (completed s)) (run_right back s h) (run_program p a back s g e is)

some_is : (s y : State) → Some s ≡ Some y → s ≡ y
some_is s y e = cc

begun_in : (most : ℕ) (s : State) → IsState s → nesting (completed s) ≤ most → IsBegunIn most (front s)
begun_in most s h n = (completed s, back s, completed_good s h, n, completed_tokens s h)

not_whole : (s : State) → IsState s → run (front s) start ≡ Some s → ((q : Program) → s ≡ done q → ⊥) → IsRefused (front s) []
not_whole s h e never = λ p g is. never p (some_is s (done p) (sym e ∙ ap (λ (x : List Token). run x start) (sym is) ∙ program_back p g))

wrong_end : (s : State) (most : ℕ) → IsState s → run (front s) start ≡ Some s → nesting (completed s) ≤ most → ((q : Program) → s ≡ done q → ⊥) → IsReading most (front s ++ []) (Wrong [])
wrong_end s most h e n never = (front s, refl, begun_in most s h n, not_whole s h e never)

ended_right : (s : State) (most : ℕ) → IsState s → run (front s) start ≡ Some s → nesting (completed s) ≤ most → IsReading most (front s ++ []) (ended s)
ended_right (At (HomeAt (Outside p))) most h e n = (h, n, append-nil (program_tokens p))
ended_right (At (HomeAt (InClass p a w o ms))) most h e n = wrong_end (At (HomeAt (InClass p a w o ms))) most h e n (λ q k. cc)
ended_right (At (Enums p w vs)) most h e n = wrong_end (At (Enums p w vs)) most h e n (λ q k. cc)
ended_right (At (ClassHead p a w)) most h e n = wrong_end (At (ClassHead p a w)) most h e n (λ q k. cc)
ended_right (At (ShapeAt p w)) most h e n = wrong_end (At (ShapeAt p w)) most h e n (λ q k. cc)
ended_right (At (HighAt p w low)) most h e n = wrong_end (At (HighAt p w low)) most h e n (λ q k. cc)
ended_right (At (CountAt p w r v)) most h e n = wrong_end (At (CountAt p w r v)) most h e n (λ q k. cc)
ended_right (At (WhereAt p)) most h e n = wrong_end (At (WhereAt p)) most h e n (λ q k. cc)
ended_right (At (BracesAt p es)) most h e n = wrong_end (At (BracesAt p es)) most h e n (λ q k. cc)
ended_right (Row ws read l) most h e n = wrong_end (Row ws read l) most h e n (λ q k. cc)
ended_right (Need p fs) most h e n = wrong_end (Need p fs) most h e n (λ q k. cc)
ended_right (Have p fs v) most h e n = wrong_end (Have p fs v) most h e n (λ q k. cc)
ended_right (Dotted p fs v) most h e n = wrong_end (Dotted p fs v) most h e n (λ q k. cc)
ended_right (VarAt p fs k) most h e n = wrong_end (VarAt p fs k) most h e n (λ q k. cc)
ended_right (NamedAt p fs k w) most h e n = wrong_end (NamedAt p fs k w) most h e n (λ q k. cc)
ended_right (Next p fs b) most h e n = wrong_end (Next p fs b) most h e n (λ q k. cc)

stuck : (s : State) (token : Token) → run (front s) start ≡ Some s → step s token ≡ None → IsBegun (front s ++ (token ∷ [])) → ⊥
stuck s token e none (p, back, g, is) =
    let to : run (token ∷ back) s ≡ Some (done p) = run_program p (front s) (token ∷ back) s g e (is ∙ append_assoc (front s) (token ∷ []) back) in
    let never : run (token ∷ back) s ≡ None = ap (λ (x : Option State). onto x (λ y. run back y)) none in
    let both : None ≡ Some (done p) = sym never ∙ to in cc

module _ (s : State) (token : Token) (rest : List Token) (most : ℕ) (h : IsState s) (e : run (front s) start ≡ Some s) (n : nesting (completed s) ≤ most) where
  led : (y : State) → step s token ≡ Some y → front y ≡ front s ++ (token ∷ []) → run (front y) start ≡ Some y
  led y to is = ap (λ (x : List Token). run x start) is ∙ run_on (front s) (token ∷ []) s e ∙ run_one token s ∙ to

  too_deep : (y : State) → step s token ≡ Some y → front y ≡ front s ++ (token ∷ []) → IsState y → most < nesting (completed y) → IsTooDeep most (front s) (token ∷ rest)
  too_deep y to is i deep = (
    (completed y, back y, completed_good y i, completed_tokens y i ∙ ap (λ (x : List Token). x ++ back y) is),
    (λ b. let least = least_of b.0 (front y) b.1 y i b.2 (led y to is) (b.4 ∙ sym (ap (λ (x : List Token). x ++ b.1) is)) in let k = b.3 in absurd (omega arith)),
  )

  onward_right : (go : State → Outcome) (o : Option State) → step s token ≡ o → GoesOn (front s ++ (token ∷ [])) (nesting (completed s)) o
      → ((y : State) → IsState y → run (front y) start ≡ Some y → nesting (completed y) ≤ most → IsReading most (front y ++ rest) (go y))
      → IsReading most (front s ++ (token ∷ rest)) (onward most o (token ∷ rest) go)
  onward_right go None to g k = (front s, refl, begun_in most s h n, stuck s token e to)
  onward_right go (Some y) to g k =
      cond_both (nat_le (nesting (completed y)) most) (go y) (Deep (token ∷ rest)) (IsReading most (front s ++ (token ∷ rest)))
      (λ fits. subst (λ (x : List Token). IsReading most x (go y)) (ap (λ (x : List Token). x ++ rest) g.0 ∙ append_assoc (front s) (token ∷ []) rest)
      (k y g.2 (led y to g.0) (leb-true (nesting (completed y)) most fits)))
      (λ never. (front s, refl, begun_in most s h n, too_deep y to g.0 g.2 (leb-false (nesting (completed y)) most never)))

pub reading_right : (rest : List Token) (most : ℕ) (s : State) → IsState s → run (front s) start ≡ Some s → nesting (completed s) ≤ most → IsReading most (front s ++ rest) (reading rest most s)
reading_right [] most s h e n = ended_right s most h e n
reading_right (token ∷ rest) most s h e n =
    onward_right s token rest most h e n (λ y. reading rest most y) (step s token) refl (step_right s token h)
    (λ y i f m. reading_right rest most y i f m)

-- from the start
pub all_right : (tokens : List Token) (most : ℕ) → IsReading most tokens (reading tokens most start)
all_right tokens most = reading_right tokens most start tt refl (omega arith)

whole_is : (p q : Program) → done p ≡ done q → p ≡ q
whole_is p q e = cc

-- tokens are those of at most one program
pub one_program : (p q : Program) → IsProgram p → IsProgram q → program_tokens p ≡ program_tokens q → p ≡ q
one_program p q g h e = whole_is p q (some_is (done p) (done q) (sym (program_back p g) ∙ ap (λ (x : List Token). run x start) e ∙ program_back q h))

no_refusal : (p : Program) (most : ℕ) → IsProgram p → nesting p ≤ most → (front rest : List Token) → program_tokens p ≡ front ++ rest → IsRefused front rest → ⊥
no_refusal p most g n a [] e never = never p g (e ∙ append-nil a)
no_refusal p most g n a (token ∷ rest) e never = never (p, rest, g, e ∙ sym (append_assoc a (token ∷ []) rest))

no_depth : (p : Program) (most : ℕ) → IsProgram p → nesting p ≤ most → (front rest : List Token) → program_tokens p ≡ front ++ rest → IsTooDeep most front rest → ⊥
no_depth p most g n a [] e never = never
no_depth p most g n a (token ∷ rest) e never = never.1 (p, rest, g, n, e ∙ sym (append_assoc a (token ∷ []) rest))

-- a program within the nesting is read
whole_by : (p : Program) (most : ℕ) → IsProgram p → nesting p ≤ most → (o : Outcome) → reading (program_tokens p) most start ≡ o → IsReading most (program_tokens p) o → o ≡ Whole p
whole_by p most g n (Whole q) e r = ap Whole (sym (one_program p q g r.0 r.2))
whole_by p most g n (Wrong rest) e r = absurd (no_refusal p most g n r.0 rest r.1 r.3)
whole_by p most g n (Deep rest) e r = absurd (no_depth p most g n r.0 rest r.1 r.3)

pub whole_read : (p : Program) (most : ℕ) → IsProgram p → nesting p ≤ most → reading (program_tokens p) most start ≡ Whole p
whole_read p most g n = whole_by p most g n (reading (program_tokens p) most start) refl (all_right (program_tokens p) most)
