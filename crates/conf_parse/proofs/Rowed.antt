-- Straight rows.
use Rattle.std.proofs.Common.{◌≡◌, ◌+◌, ℕ, true, false, List, [], ◌∷◌, refl, sym, ◌∙◌, ap, subst, arith, Some, length, drop, rules}
use Rattle.std.specs.List.{list_all}
use Rattle.std.proofs.lemmas.Bool.{cond-true, cond-false, and_parts}
use Rattle.conf_syntax.specs.declared.token.Key.TheVariants as key
use Rattle.conf_syntax.specs.declared.token.Mark.TheVariants as mark
use Rattle.conf_syntax.specs.declared.token.Placed.{Placed}
use Rattle.conf_syntax.specs.declared.token.Token.{Token}
use Rattle.conf_syntax.specs.declared.token.Token.TheVariants.{Word, Number, Key, Mark}
use Rattle.conf_syntax.specs.Places.{bare}
use Rattle.conf_grammar.specs.declared.piece.Piece.{Piece}
use Rattle.conf_grammar.specs.declared.piece.Piece.TheVariants as piece
use Rattle.conf_grammar.specs.Machine.{takes, least, leasts}
use Rattle.conf_grammar.specs.Leads.{missed, IsNotWord}
use Rattle.conf_parse.specs.Cursor.{Splits, Names, Numbers, Follows, NamesThen, NumbersThen, IsNotNumber, is_fixed}
use Rattle.conf_parse.proofs.Parts.{bare_length}

-- a piece that is one token alone
least_is : (w : Piece) (t : Token) → is_fixed w ≡ true → takes w t ≡ true → t ≡ least w
least_is piece.Word t f e = absurd cc
least_is piece.Number t f e = absurd cc
least_is piece.OpenBrace (Mark mark.OpenBrace) f e = refl
least_is piece.OpenBrace (Key key.As) f e = absurd cc
least_is piece.OpenBrace _ f e = absurd cc
least_is piece.CloseBracket (Mark mark.CloseBracket) f e = refl
least_is piece.CloseBracket (Key key.As) f e = absurd cc
least_is piece.CloseBracket _ f e = absurd cc
least_is piece.Semicolon (Mark mark.Semicolon) f e = refl
least_is piece.Semicolon (Key key.As) f e = absurd cc
least_is piece.Semicolon _ f e = absurd cc
least_is piece.DotDot (Mark mark.DotDot) f e = refl
least_is piece.DotDot (Key key.As) f e = absurd cc
least_is piece.DotDot _ f e = absurd cc
least_is piece.As (Key key.As) f e = refl
least_is piece.As (Mark mark.DotDot) f e = absurd cc
least_is piece.As _ f e = absurd cc
least_is piece.Class (Key key.Class) f e = refl
least_is piece.Class (Mark mark.DotDot) f e = absurd cc
least_is piece.Class _ f e = absurd cc

drop_more : (n : ℕ) (xs ys : List Placed) → ys ≡ drop 1 xs → drop n ys ≡ drop (1 + n) xs
drop_more n xs ys e = ap (λ (x : List Placed). drop n x) e ∙ search rules

drop_same : (m n : ℕ) (xs : List Placed) → m ≡ n → drop m xs ≡ drop n xs
drop_same m n xs e = ap (λ (x : ℕ). drop x xs) e

pub fixed_nil : (tokens : List Placed) (ws : List Piece) → ws ≡ [] → Follows tokens (leasts ws) tokens
fixed_nil tokens ws e = subst (λ (x : List Piece). Follows tokens (leasts x) tokens) (sym e) (record { bare_is = refl; rest_is = search rules })

missed_end : (w : Piece) (ws : List Piece) (tokens : List Placed) → bare tokens ≡ [] → missed (w ∷ ws) (bare tokens) ≡ Some (length tokens)
missed_end w ws tokens e = ap (λ (x : List Token). missed (w ∷ ws) x) e ∙ ap (λ (x : ℕ). Some x) (sym (sym (bare_length tokens) ∙ ap length e))

pub fixed_none : (tokens : List Placed) (ws : List Piece) (w : Piece) (vs : List Piece) → ws ≡ w ∷ vs → bare tokens ≡ [] → missed ws (bare tokens) ≡ Some (length tokens)
fixed_none tokens ws w vs i e = ap (λ (x : List Piece). missed x (bare tokens)) i ∙ missed_end w vs tokens e

missed_first : (w : Piece) (ws : List Piece) (tokens : List Placed) (t : Token) (rest : List Token) → bare tokens ≡ t ∷ rest → takes w t ≡ false → missed (w ∷ ws) (bare tokens) ≡ Some (length tokens)
missed_first w ws tokens t rest e f =
    ap (λ (x : List Token). missed (w ∷ ws) x) e ∙ cond-false (takes w t) (missed ws rest) (Some (length (t ∷ rest))) f
    ∙ ap (λ (x : ℕ). Some x) (sym (sym (bare_length tokens) ∙ ap length e))

pub fixed_other : (tokens : List Placed) (ws : List Piece) (w : Piece) (vs : List Piece) (token : Placed) (after : List Placed) → ws ≡ w ∷ vs → Splits tokens token after → takes w token.token ≡ false → missed ws (bare tokens) ≡ Some (length tokens)
fixed_other tokens ws w vs token after i s f = ap (λ (x : List Piece). missed x (bare tokens)) i ∙ missed_first w vs tokens token.token (bare after) s.bare_is f

pub fixed_rest : (ws : List Piece) (w : Piece) (vs : List Piece) → ws ≡ w ∷ vs → list_all is_fixed ws ≡ true → (is_fixed w ≡ true) × (list_all is_fixed vs ≡ true)
fixed_rest ws w vs i e = and_parts (is_fixed w) (list_all is_fixed vs) (sym (ap (λ (x : List Piece). list_all is_fixed x) i) ∙ e)

missed_on : (w : Piece) (ws : List Piece) (tokens : List Placed) (t : Token) (rest : List Token) → bare tokens ≡ t ∷ rest → takes w t ≡ true → missed (w ∷ ws) (bare tokens) ≡ missed ws rest
missed_on w ws tokens t rest e f = ap (λ (x : List Token). missed (w ∷ ws) x) e ∙ cond-true (takes w t) (missed ws rest) (Some (length (t ∷ rest))) f

pub fixed_miss : (tokens : List Placed) (ws : List Piece) (w : Piece) (vs : List Piece) (token : Placed) (after : List Placed) (left : ℕ) → ws ≡ w ∷ vs → Splits tokens token after → takes w token.token ≡ true → missed vs (bare after) ≡ Some left → missed ws (bare tokens) ≡ Some left
fixed_miss tokens ws w vs token after left i s f m = ap (λ (x : List Piece). missed x (bare tokens)) i ∙ missed_on w vs tokens token.token (bare after) s.bare_is f ∙ m

pub fixed_on : (tokens : List Placed) (ws : List Piece) (w : Piece) (vs : List Piece) (token : Placed) (after rest : List Placed) → ws ≡ w ∷ vs → list_all is_fixed ws ≡ true → Splits tokens token after → takes w token.token ≡ true → Follows after (leasts vs) rest → Follows tokens (leasts ws) rest
fixed_on tokens ws w vs token after rest i a s f g =
    subst (λ (x : List Piece). Follows tokens (leasts x) rest) (sym i) (record {
      bare_is = s.bare_is ∙ ap (λ (x : Token). x ∷ bare after) (least_is w token.token (fixed_rest ws w vs i a).0 f) ∙ ap (λ (x : List Token). least w ∷ x) g.bare_is;
      rest_is = g.rest_is ∙ drop_more (length (leasts vs)) tokens after s.after_is ∙ drop_same (1 + length (leasts vs)) (length (leasts (w ∷ vs))) tokens (omega arith);
    })

word_takes : (t : Token) (rest : List Token) → IsNotWord (t ∷ rest) → takes piece.Word t ≡ false
word_takes (Word w) rest h = absurd h
word_takes _ rest h = refl

number_takes : (t : Token) (rest : List Token) → IsNotNumber (t ∷ rest) → takes piece.Number t ≡ false
number_takes (Number w) rest h = absurd h
number_takes _ rest h = refl

named_by : (ws : List Piece) (tokens : List Placed) (ts : List Token) → bare tokens ≡ ts → IsNotWord ts → missed (piece.Word ∷ ws) (bare tokens) ≡ Some (length tokens)
named_by ws tokens [] e h = missed_end piece.Word ws tokens e
named_by ws tokens (t ∷ rest) e h = missed_first piece.Word ws tokens t rest e (word_takes t rest h)

pub named_none : (ws : List Piece) (tokens : List Placed) → IsNotWord (bare tokens) → missed (piece.Word ∷ ws) (bare tokens) ≡ Some (length tokens)
named_none ws tokens h = named_by ws tokens (bare tokens) refl h

numbered_by : (ws : List Piece) (tokens : List Placed) (ts : List Token) → bare tokens ≡ ts → IsNotNumber ts → missed (piece.Number ∷ ws) (bare tokens) ≡ Some (length tokens)
numbered_by ws tokens [] e h = missed_end piece.Number ws tokens e
numbered_by ws tokens (t ∷ rest) e h = missed_first piece.Number ws tokens t rest e (number_takes t rest h)

pub numbered_none : (ws : List Piece) (tokens : List Placed) → IsNotNumber (bare tokens) → missed (piece.Number ∷ ws) (bare tokens) ≡ Some (length tokens)
numbered_none ws tokens h = numbered_by ws tokens (bare tokens) refl h

pub named_miss : (ws : List Piece) (tokens : List Placed) (w : List ℕ) (at : ℕ) (after : List Placed) (left : ℕ) → Names tokens w at after → missed ws (bare after) ≡ Some left → missed (piece.Word ∷ ws) (bare tokens) ≡ Some left
named_miss ws tokens w at after left n m = missed_on piece.Word ws tokens (Word w) (bare after) n.bare_is refl ∙ m

pub numbered_miss : (ws : List Piece) (tokens : List Placed) (w : ℕ) (at : ℕ) (after : List Placed) (left : ℕ) → Numbers tokens w at after → missed ws (bare after) ≡ Some left → missed (piece.Number ∷ ws) (bare tokens) ≡ Some left
numbered_miss ws tokens w at after left n m = missed_on piece.Number ws tokens (Number w) (bare after) n.bare_is refl ∙ m

pub named_then : (ws : List Piece) (tokens : List Placed) (w : List ℕ) (at : ℕ) (after rest : List Placed) → Names tokens w at after → Follows after (leasts ws) rest → NamesThen tokens w at (leasts ws) rest
named_then ws tokens w at after rest n f = record { bare_is = n.bare_is ∙ ap (λ (x : List Token). Word w ∷ x) f.bare_is; rest_is = f.rest_is ∙ drop_more (length (leasts ws)) tokens after n.after_is; at_is = n.at_is }

pub numbered_then : (ws : List Piece) (tokens : List Placed) (w : ℕ) (at : ℕ) (after rest : List Placed) → Numbers tokens w at after → Follows after (leasts ws) rest → NumbersThen tokens w at (leasts ws) rest
numbered_then ws tokens w at after rest n f = record { bare_is = n.bare_is ∙ ap (λ (x : List Token). Number w ∷ x) f.bare_is; rest_is = f.rest_is ∙ drop_more (length (leasts ws)) tokens after n.after_is; at_is = n.at_is }
