-- What begins a model in words of plain trees begins one in those of the program's, and the other
-- way round.
use Rattle.std.proofs.Common.{◌≡◌, ◌≤◌, ◌<◌, ◌*◌, ◌^◌, ℕ, true, refl, sym, ap, ◌∙◌, subst, arith, List, [], ◌∷◌, ◌++◌, length, length-append, Option, None, Some}
use Rattle.conf_syntax.specs.declared.token.Token.{Token}
use Rattle.conf_syntax.specs.declared.tree.Program as tree
use Rattle.conf_syntax.specs.Begun as plain
use Rattle.conf_syntax.specs.Plain.{Program, program_tokens, IsProgram, nesting}
use Rattle.conf_syntax.specs.Views.{program_of}
use Rattle.conf_syntax.proofs.Declared.{nesting_is, all_tokens, all_fit}
use Rattle.conf_syntax.proofs.Fitting.{all_good}
use Rattle.conf_grammar.specs.Machine.{State, At, HomeAt, Outside, run, start, onto, completed}
use Rattle.conf_grammar.specs.Fronts.{front, back, IsState, GoesOn}
use Rattle.conf_grammar.proofs.Complete.{completed_tokens, completed_good}
use Rattle.conf_grammar.proofs.Exact.{run_right}
use Rattle.conf_grammar.proofs.Whole.{run_append, program_back}
use Rattle.conf_parse.specs.Begun.{IsBegun, IsBegunIn, IsRefused, IsTooDeep}
use Rattle.conf_parse.proofs.Brief.{back_size}
use Rattle.conf_parse.proofs.Built.{program_made}

-- From trees of the program to plain ones

pub begun_plain : (tokens : List Token) → IsBegun tokens → plain.IsBegun tokens
begun_plain tokens (p, behind, fits, is) =
    let g = all_good p.items fits in
    (program_of p.items, behind, g, all_tokens p.items g ∙ is)

pub begun_plain_in : (most : ℕ) (tokens : List Token) → IsBegunIn most tokens → plain.IsBegunIn most tokens
begun_plain_in most tokens (p, behind, fits, nested, is) =
    let g = all_good p.items fits in
    (program_of p.items, behind, g, omega (arith, nesting_is p.items g), all_tokens p.items g ∙ is)

-- From plain trees to those of the program: what the machine completes has few tokens

-- a state that has read the tokens, and completes them within the nesting
abbrev Reached : ℕ → List Token → Type 0
Reached most tokens = (s : State) × (front s ≡ tokens) × IsState s × (nesting (completed s) ≤ most)

-- the state behind a whole program
abbrev done : Program → State
done p = At (HomeAt (Outside p))

behind_state : (o : Option State) (tokens : List Token) (n : ℕ) (p : Program) → GoesOn tokens n o → o ≡ Some (done p) → n ≤ nesting p
behind_state o tokens n p g e = (subst (λ (x : Option State). GoesOn tokens n x) e g).1

reached_by : (most : ℕ) (tokens : List Token) (b : plain.IsBegunIn most tokens) (o : Option State) → run tokens start ≡ o → GoesOn tokens 0 o → Reached most tokens
reached_by most tokens b None e g =
    let never : None ≡ Some (done b.0) = sym (run_append tokens b.1 start ∙ ap (λ (x : Option State). onto x (λ y. run b.1 y)) e) ∙ ap (λ (x : List Token). run x start) (sym b.4) ∙ program_back b.0 b.2 in absurd cc
reached_by most tokens b (Some s) e g =
    let ends : run b.1 s ≡ Some (done b.0) = sym (run_append tokens b.1 start ∙ ap (λ (x : Option State). onto x (λ y. run b.1 y)) e) ∙ ap (λ (x : List Token). run x start) (sym b.4) ∙ program_back b.0 b.2 in
    let least = behind_state (run b.1 s) (front s ++ b.1) (nesting (completed s)) b.0 (run_right b.1 s g.2) ends in
    let most_is = b.3 in
    (s, g.0, g.2, omega arith)

lowered : (tokens : List Token) (n : ℕ) (o : Option State) → GoesOn tokens n o → GoesOn tokens 0 o
lowered tokens n None g = tt
lowered tokens n (Some s) g = (g.0, omega arith, g.2)

reached : (most : ℕ) (tokens : List Token) → plain.IsBegunIn most tokens → Reached most tokens
reached most tokens b = reached_by most tokens b (run tokens start) refl (lowered tokens (nesting (completed start)) (run tokens start) (run_right tokens start tt))

-- a plain program that isn't too long begins with the tokens, so one of the program does
from_plain : (most : ℕ) (tokens behind : List Token) (p : Program) → IsProgram p → nesting p ≤ most → length (program_tokens p) < 2 ^ 63 → program_tokens p ≡ tokens ++ behind → IsBegunIn most tokens
from_plain most tokens behind p g nested short is =
    let made = program_made p g short in
    let good : IsProgram (program_of made.0) = subst IsProgram (sym made.1) g in (
      record { items = made.0 },
      behind,
      all_fit made.0 good,
      omega (arith, nesting_is made.0 good, ap nesting made.1),
      sym (all_tokens made.0 good) ∙ ap program_tokens made.1 ∙ is,
    )

pub begun_tree : (most : ℕ) (tokens : List Token) → length tokens * 16 < 2 ^ 63 → plain.IsBegunIn most tokens → IsBegunIn most tokens
begun_tree most tokens few b =
    let r = reached most tokens b in
    let is : program_tokens (completed r.0) ≡ tokens ++ back r.0 = completed_tokens r.0 r.2 ∙ ap (λ (x : List Token). x ++ back r.0) r.1 in
    from_plain most tokens (back r.0) (completed r.0) (completed_good r.0 r.2) r.3
    (omega (arith, ap length is, length-append tokens (back r.0), back_size r.0 r.2, ap length r.1)) is

begun_any : (tokens : List Token) → length tokens * 16 < 2 ^ 63 → plain.IsBegun tokens → IsBegun tokens
begun_any tokens few (p, behind, g, is) =
    let b = begun_tree (nesting p) tokens few (p, behind, g, omega arith, is) in
    (b.0, b.1, b.2, b.4)

-- Refusals

pub refused_tree : (front rest : List Token) → plain.IsRefused front rest → IsRefused front rest
refused_tree front [] never = λ p fits is. let g = all_good p.items fits in never (program_of p.items) g (all_tokens p.items g ∙ is)
refused_tree front (token ∷ rest) never = λ b. never (begun_plain (front ++ (token ∷ [])) b)

pub deep_tree : (most : ℕ) (front rest : List Token) → length (front ++ rest) * 16 < 2 ^ 63 → plain.IsTooDeep most front rest → IsTooDeep most front rest
deep_tree most front [] few deep = deep
deep_tree most front (token ∷ rest) few deep =
    let next = front ++ (token ∷ []) in (
      begun_any next (omega (arith, length-append front (token ∷ rest), length-append front (token ∷ []))) deep.0,
      (λ b. deep.1 (begun_plain_in most next b)),
    )
