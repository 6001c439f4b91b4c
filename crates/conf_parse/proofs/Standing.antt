-- The places of variables and their shapes, and of rows.
use Rattle.std.proofs.Common.{◌≡◌, ◌+◌, ℕ, true, false, Bool, List, [], ◌∷◌, ◌++◌, refl, sym, ◌∙◌, ap, subst, arith, length, drop, length-append}
use Rattle.std.proofs.lemmas.List.{drop-drop}
use Rattle.std.specs.List.{flat_map}
use Rattle.conf_syntax.specs.declared.token.Ident.{Ident}
use Rattle.conf_syntax.specs.declared.token.Key.TheVariants as key
use Rattle.conf_syntax.specs.declared.token.Mark.TheVariants as mark
use Rattle.conf_syntax.specs.declared.token.Placed.{Placed}
use Rattle.conf_syntax.specs.declared.token.Token.{Token}
use Rattle.conf_syntax.specs.declared.token.Token.TheVariants.{Key, Mark}
use Rattle.conf_syntax.specs.declared.tree.Bound.{Bound}
use Rattle.conf_syntax.specs.declared.tree.Expr.{Expr}
use Rattle.conf_syntax.specs.declared.tree.Shape.{Shape}
use Rattle.conf_syntax.specs.declared.tree.Shape.TheVariants as shape
use Rattle.conf_syntax.specs.Places.{first_at, at_index, size}
use Rattle.conf_syntax.specs.Standing.{statement_size, bound_size, shape_size, var_size, InRow, ShapeStands}
use Rattle.conf_syntax.specs.Trees.{tokens_of, bound_tokens, shape_tokens}
use Rattle.conf_grammar.specs.declared.piece.Piece.TheVariants as piece
use Rattle.conf_grammar.specs.Machine.{leasts}
use Rattle.conf_parse.specs.Cursor.{Takes, Names, Numbers, Follows, NamesThen, NumbersThen}
use Rattle.conf_parse.specs.Reads.{Reads}
use Rattle.conf_parse.specs.Standing.{StandsBefore, StatementReads, VarReads, ShapeReads, LowReads, HighReads, CountReads, RowReads, shape_end, named_shape, counted_shape, row_size}
use Rattle.conf_parse.proofs.Placing.{drops, same_drop}

-- the place of the first token behind so many
pub first_behind : (at n : ℕ) (a b : List Placed) → b ≡ drop n a → at ≡ first_at b → at ≡ at_index n a
first_behind at n a b e h = h ∙ ap first_at e

-- a name, with `ref` or without

plain_by : (r : Bool) (i : Ident) (tokens rest : List Placed) → Takes tokens (Mark mark.Semicolon) rest → CountReads r i tokens (named_shape r i) rest
plain_by true i tokens rest k = record {
  stands = λ front h. h;
  rest_is = λ front e. drops 2 1 front tokens rest e k.after_is;
}
plain_by false i tokens rest k = record {
  stands = λ front h. h;
  rest_is = λ front e. drops 1 1 front tokens rest e k.after_is;
}

pub plain_stands : (r : Bool) (i : Ident) (s : Shape) (tokens rest : List Placed) → Takes tokens (Mark mark.Semicolon) rest → s ≡ named_shape r i → CountReads r i tokens s rest
plain_stands r i s tokens rest k e = subst (λ (x : Shape). CountReads r i tokens x rest) (sym e) (plain_by r i tokens rest k)

many_by : (r : Bool) (i : Ident) (n at : ℕ) (tokens after rest : List Placed) → Takes tokens (Mark mark.OpenBracket) after → NumbersThen after n at (leasts (piece.CloseBracket ∷ piece.Semicolon ∷ [])) rest → CountReads r i tokens (counted_shape r i n) rest
many_by true i n at tokens after rest k m = record {
  stands = λ front h. h;
  rest_is = λ front e. drops 3 3 front after rest (drops 2 1 front tokens after e k.after_is) m.rest_is;
}
many_by false i n at tokens after rest k m = record {
  stands = λ front h. h;
  rest_is = λ front e. drops 2 3 front after rest (drops 1 1 front tokens after e k.after_is) m.rest_is;
}

pub many_stands : (r : Bool) (i : Ident) (n at : ℕ) (s : Shape) (tokens after rest : List Placed) → Takes tokens (Mark mark.OpenBracket) after → NumbersThen after n at (leasts (piece.CloseBracket ∷ piece.Semicolon ∷ [])) rest → s ≡ counted_shape r i n → CountReads r i tokens s rest
many_stands r i n at s tokens after rest k m e = subst (λ (x : Shape). CountReads r i tokens x rest) (sym e) (many_by r i n at tokens after rest k m)

pub ref_stands : (w name : List ℕ) (at : ℕ) (s : Shape) (tokens after mid rest : List Placed) → Takes tokens (Key key.Ref) after → NamesThen after w at (leasts []) mid → CountReads true (record { name = name; at = at }) mid s rest → ShapeReads tokens s rest
ref_stands w name at s tokens after mid rest k n c = record {
  stands = c.stands tokens (first_behind at 1 tokens after k.after_is n.at_is);
  rest_is = c.rest_is tokens (drops 1 1 tokens after mid k.after_is n.rest_is);
}

pub word_stands : (w name : List ℕ) (at : ℕ) (s : Shape) (tokens after rest : List Placed) → Names tokens w at after → CountReads false (record { name = name; at = at }) after s rest → ShapeReads tokens s rest
word_stands w name at s tokens after rest n c = record {
  stands = c.stands tokens n.at_is;
  rest_is = c.rest_is tokens n.after_is;
}

-- `int` and `bool`
pub int_stands : (tokens after rest : List Placed) → Takes tokens (Key key.Int) after → Follows after (leasts (piece.Semicolon ∷ [])) rest → ShapeReads tokens shape.Int rest
int_stands tokens after rest k f = record { stands = tt; rest_is = drops 1 1 tokens after rest k.after_is f.rest_is }

pub bool_stands : (tokens after rest : List Placed) → Takes tokens (Key key.Bool) after → Follows after (leasts (piece.Semicolon ∷ [])) rest → ShapeReads tokens shape.Bool rest
bool_stands tokens after rest k f = record { stands = tt; rest_is = drops 1 1 tokens after rest k.after_is f.rest_is }

-- the low end of a range

pub low_stands : (n at : ℕ) (tokens after rest : List Placed) → Numbers tokens n at after → Follows after (leasts (piece.DotDot ∷ [])) rest → LowReads tokens (record { at = at; minus = false; value = n }) rest
low_stands n at tokens after rest k f = record { at_is = k.at_is; rest_is = drops 1 1 tokens after rest k.after_is f.rest_is }

pub low_minus_stands : (n q at : ℕ) (tokens after rest : List Placed) → Takes tokens (Mark mark.Minus) after → NumbersThen after n q (leasts (piece.DotDot ∷ [])) rest → at ≡ first_at tokens → LowReads tokens (record { at = at; minus = true; value = n }) rest
low_minus_stands n q at tokens after rest k m e = record { at_is = e; rest_is = drops 1 2 tokens after rest k.after_is m.rest_is }

-- the high end of a range

range_size : (low high : Bound) (n : ℕ) → n ≡ bound_size high → bound_size low + 1 + (n + 1) ≡ shape_end (shape.Range low high)
range_size low high n e = omega (arith, e, length-append (bound_tokens low) (Mark mark.DotDot ∷ bound_tokens high))

range_by : (low high : Bound) (n : ℕ) (tokens rest : List Placed) → n ≡ bound_size high → rest ≡ drop (n + 1) tokens → high.at ≡ first_at tokens → HighReads low tokens (shape.Range low high) rest
range_by low high n tokens rest e h a = record {
  stands = λ front l i. (l, first_behind high.at (bound_size low + 1) front tokens i a);
  rest_is = λ front i. same_drop (bound_size low + 1 + (n + 1)) (shape_end (shape.Range low high)) front rest (range_size low high n e) (drops (bound_size low + 1) (n + 1) front tokens rest i h);
}

pub high_stands : (low : Bound) (n at : ℕ) (tokens after rest : List Placed) → Numbers tokens n at after → Follows after (leasts (piece.Semicolon ∷ [])) rest → HighReads low tokens (shape.Range low (record { at = at; minus = false; value = n })) rest
high_stands low n at tokens after rest k f = range_by low (record { at = at; minus = false; value = n }) 1 tokens rest refl (drops 1 1 tokens after rest k.after_is f.rest_is) k.at_is

pub high_minus_stands : (low : Bound) (n q at : ℕ) (tokens after rest : List Placed) → Takes tokens (Mark mark.Minus) after → NumbersThen after n q (leasts (piece.Semicolon ∷ [])) rest → at ≡ first_at tokens → HighReads low tokens (shape.Range low (record { at = at; minus = true; value = n })) rest
high_minus_stands low n q at tokens after rest k m e = range_by low (record { at = at; minus = true; value = n }) 2 tokens rest refl (drops 1 2 tokens after rest k.after_is m.rest_is) e

pub range_stands : (low : Bound) (s : Shape) (tokens mid rest : List Placed) → LowReads tokens low mid → HighReads low mid s rest → ShapeReads tokens s rest
range_stands low s tokens mid rest l h = record {
  stands = h.stands tokens l.at_is l.rest_is;
  rest_is = h.rest_is tokens l.rest_is;
}

-- variables
pub var_stands : (w name : List ℕ) (at : ℕ) (s : Shape) (tokens after mid rest : List Placed) → Takes tokens (Key key.Var) after → NamesThen after w at (leasts (piece.As ∷ [])) mid → ShapeReads mid s rest → VarReads tokens (record { name = record { name = name; at = at }; shape = s }) rest
var_stands w name at s tokens after mid rest k n r =
    let e : mid ≡ drop 3 tokens = drops 1 2 tokens after mid k.after_is n.rest_is in
    record {
      stands = (first_behind at 1 tokens after k.after_is n.at_is, subst (λ (x : List Placed). ShapeStands x s) e r.stands);
      rest_is = same_drop (3 + (shape_size s + 1)) (var_size (record { name = record { name = name; at = at }; shape = s })) tokens rest (omega (arith, length-append (shape_tokens s) (Mark mark.Semicolon ∷ []))) (drops 3 (shape_size s + 1) tokens mid rest e r.rest_is);
    }

-- an expression with its semicolon
pub statement_stands : (tokens behind rest : List Placed) (e : Expr) → Reads tokens e behind → Takes behind (Mark mark.Semicolon) rest → StatementReads tokens e rest
statement_stands tokens behind rest e r k = record {
  stands = r.stands;
  rest_is = same_drop (size e.node + 1) (statement_size e) tokens rest (omega (arith, length-append (tokens_of e.node) (Mark mark.Semicolon ∷ []))) (drops (size e.node) 1 tokens behind rest r.rest_is k.after_is);
}

-- rows

pub row_more_size : {X : Type 0} (size : X → ℕ) (xs : List X) (x : X) → row_size size (xs ++ (x ∷ [])) ≡ row_size size xs + size x
row_more_size size [] x = omega arith
row_more_size size (y ∷ ys) x = omega (arith, row_more_size size ys x)

row_stands : {X : Type 0} (Stand : List Placed → X → Type 0) (size : X → ℕ) (tokens : List Placed) (xs : List X) (x : X) → InRow Stand size tokens xs → Stand (drop (row_size size xs) tokens) x → InRow Stand size tokens (xs ++ (x ∷ []))
row_stands Stand size tokens [] x h s = (s, tt)
row_stands Stand size tokens (y ∷ ys) x h s = (h.0, row_stands Stand size (drop (size y) tokens) ys x h.1 (subst (λ (z : List Placed). Stand z x) (sym (drop-drop (row_size size ys) (size y) tokens)) s))

pub row_begins : {X : Type 0} (Stand : List Placed → X → Type 0) (size : X → ℕ) (tokens : List Placed) (xs : List X) → xs ≡ [] → RowReads Stand size tokens xs tokens
row_begins Stand size tokens xs e = subst (λ x. RowReads Stand size tokens x tokens) (sym e) (record { stands = tt; rest_is = refl })

pub row_goes_on : {X : Type 0} (Stand : List Placed → X → Type 0) (size : X → ℕ) (tokens : List Placed) (xs ys : List X) (x : X) (rest behind : List Placed) → RowReads Stand size tokens xs rest → StandsBefore Stand size rest x behind → ys ≡ xs ++ (x ∷ []) → RowReads Stand size tokens ys behind
row_goes_on Stand size tokens xs ys x rest behind r s e =
    subst (λ y. RowReads Stand size tokens y behind) (sym e) (record {
      stands = row_stands Stand size tokens xs x r.stands (subst (λ (z : List Placed). Stand z x) r.rest_is s.stands);
      rest_is = same_drop (row_size size xs + size x) (row_size size (xs ++ (x ∷ []))) tokens behind (sym (row_more_size size xs x)) (drops (row_size size xs) (size x) tokens rest behind r.rest_is s.rest_is);
    })

-- the tokens of a row
pub flat_size : {X : Type 0} (f : X → List Token) (xs : List X) → length (flat_map f xs) ≡ row_size (λ x. length (f x)) xs
flat_size f [] = refl
flat_size f (x ∷ xs) = omega (arith, length-append (f x) (flat_map f xs), flat_size f xs)
