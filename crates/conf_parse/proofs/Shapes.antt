-- Variables and their shapes.
use Rattle.std.proofs.Common.{◌≡◌, ◌≤◌, ℕ, true, false, Bool, List, [], ◌∷◌, refl, sym, ◌∙◌, ap, subst, arith, None, Some, length}
use Rattle.model_limits.specs.Limits.{most_nesting}
use Rattle.conf_syntax.specs.declared.token.Key.TheVariants as key
use Rattle.conf_syntax.specs.declared.token.Mark.TheVariants as mark
use Rattle.conf_syntax.specs.declared.token.Placed.{Placed}
use Rattle.conf_syntax.specs.declared.token.Token.{Token}
use Rattle.conf_syntax.specs.declared.token.Token.TheVariants.{Word, Number, Key, Mark}
use Rattle.conf_syntax.specs.Places.{bare}
use Rattle.conf_syntax.specs.Plain.{End, EndOf, Shape, Range, Int, Truth, Named, Counted, Var, nesting}
use Rattle.conf_grammar.specs.declared.piece.Piece.TheVariants as piece
use Rattle.conf_grammar.specs.Machine.{Home, HomeAt, ShapeAt, HighAt, CountAt, VarLine, LowLine, DotsLine, HighLine, EndLine, RefLine, CountLine, State, home_with, leasts, shape_step, high_step, count_step, home_done, step, ended, Wrong}
use Rattle.conf_grammar.specs.Leads.{Turns, Fails, WrongAt, DeepAt, Shown, shown, IsNot, IsNotWord, missed, home_low}
use Rattle.conf_grammar.proofs.Homes.{with_nest}
use Rattle.conf_grammar.proofs.Turning as t
use Rattle.conf_grammar.proofs.Whole.{home_var}
use Rattle.conf_parse.specs.declared.stop.Stop.{Stop}
use Rattle.conf_parse.specs.declared.stop.Stop.TheVariants.{Syntax, TooDeep, Memory}
use Rattle.conf_parse.specs.Cursor.{Takes, Names, Numbers, Follows, NamesThen, NumbersThen, IsNotNumber}
use Rattle.conf_parse.specs.Turnings.{TurnErrs, Naming, naming_low, shape_at, high_at, count_at, var_end, home_at, home_and}
use Rattle.conf_parse.proofs.Parts.{bare_length}

-- errors

pub fails_along : {A : Type 0} (low : A → ℕ) (s : A → State) (a : List Placed) (b : List Token) (k : ℕ) → bare a ≡ b → Fails low s b (WrongAt k) → TurnErrs low s (bare a) (Syntax k)
fails_along low s a b k e h = record { is = subst (λ (x : List Token). Fails low s x (WrongAt k)) (sym e) h }

-- nothing else may stand there
pub fails_here : {A : Type 0} (low : A → ℕ) (s : A → State) (tokens : List Placed) → Fails low s (bare tokens) (WrongAt (length (bare tokens))) → TurnErrs low s (bare tokens) (Syntax (length tokens))
fails_here low s tokens h = record { is = subst (λ (x : ℕ). Fails low s (bare tokens) (WrongAt x)) (bare_length tokens) h }

pub turn_errs : {A B : Type 0} (low : A → ℕ) (low' : B → ℕ) (s : A → State) (s' : B → State) (a b : List Token) (e : Stop) → ((out : Shown) → Fails low' s' b out → Fails low s a out) → TurnErrs low' s' b e → TurnErrs low s a e
turn_errs low low' s s' a b (Syntax k) f h = record { is = f (WrongAt k) h.is }
turn_errs low low' s s' a b (TooDeep k) f h = record { is = f (DeepAt k) h.is }
turn_errs low low' s s' a b Memory f h = record { is = tt }

pub turn_errs_on : {A : Type 0} (low : A → ℕ) (s s' : A → State) (a b : List Token) (e : Stop) → Turns low s a s' b → TurnErrs low s' b e → TurnErrs low s a e
turn_errs_on low s s' a b e i h = turn_errs low low s s' a b e (λ out x. t.turns_fail i x) h

pub fails_end : {A : Type 0} (low : A → ℕ) (s : A → State) (tokens : List Token) → ((a : A) → (x : Token) → (rest : List Token) → tokens ≡ x ∷ rest → step (s a) x ≡ None) → ((a : A) → ended (s a) ≡ Wrong []) → Fails low s tokens (WrongAt (length tokens))
fails_end low s [] f e = record { is = λ a n. ap shown (e a) }
fails_end low s (x ∷ rest) f e = t.fails_token low s x rest (λ a. f a x rest refl)

pub turned : {A : Type 0} {low : A → ℕ} {s s' : A → State} (tokens : List Placed) (ts : List Token) (rest : List Token) → bare tokens ≡ ts → Turns low s ts s' rest → Turns low s (bare tokens) s' rest
turned tokens ts rest e h = t.turns_along e h

pub not_at : (token : Token) (tokens : List Token) (x : Token) (rest : List Token) → tokens ≡ x ∷ rest → IsNot token tokens → x ≡ token → ⊥
not_at token tokens x rest e h = subst (λ (y : List Token). IsNot token y) e h

-- behind a name

var_low : (a : Naming) (s : Shape) → naming_low a ≤ most_nesting → nesting (home_done (home_with a.home (Var a.name s))) ≤ most_nesting
var_low a s n = omega (arith, with_nest a.home (Var a.name s))

pub count_plain : (r : Bool) (v : List ℕ) (s : Shape) (tokens rest : List Placed) → Takes tokens (Mark mark.Semicolon) rest → s ≡ Named r v → Turns naming_low (count_at r v) (bare tokens) (var_end s) (bare rest)
count_plain r v s tokens rest k e =
    subst (λ (x : Shape). Turns naming_low (count_at r v) (bare tokens) (var_end x) (bare rest)) (sym e)
    (turned tokens (Mark mark.Semicolon ∷ bare rest) (bare rest) k.bare_is (t.turns_token naming_low (count_at r v) (var_end (Named r v)) (Mark mark.Semicolon) (bare rest) (λ a. refl) (λ a n. var_low a (Named r v) n)))

pub count_many : (r : Bool) (v : List ℕ) (s : Shape) (n i : ℕ) (tokens after rest : List Placed) → Takes tokens (Mark mark.OpenBracket) after → NumbersThen after n i (leasts (piece.CloseBracket ∷ piece.Semicolon ∷ [])) rest → s ≡ Counted r v n → Turns naming_low (count_at r v) (bare tokens) (var_end s) (bare rest)
count_many r v s n i tokens after rest k m e =
    subst (λ (x : Shape). Turns naming_low (count_at r v) (bare tokens) (var_end x) (bare rest)) (sym e)
    (turned tokens (Mark mark.OpenBracket ∷ Number n ∷ Mark mark.CloseBracket ∷ Mark mark.Semicolon ∷ bare rest) (bare rest) (k.bare_is ∙ ap (λ (x : List Token). Mark mark.OpenBracket ∷ x) m.bare_is)
    (t.turns_line naming_low (λ a. CountAt a.home a.name r v) (λ a. CountLine a.home a.name r v) (Mark mark.OpenBracket) (Number n ∷ Mark mark.CloseBracket ∷ Mark mark.Semicolon ∷ []) (bare rest) (λ a. refl) (λ a. refl) (λ a n. n)))

pub count_miss : (r : Bool) (v : List ℕ) (k : ℕ) (tokens after : List Placed) → Takes tokens (Mark mark.OpenBracket) after → missed (piece.Number ∷ piece.CloseBracket ∷ piece.Semicolon ∷ []) (bare after) ≡ Some k → TurnErrs naming_low (count_at r v) (bare tokens) (Syntax k)
count_miss r v k tokens after i m = fails_along naming_low (count_at r v) tokens (Mark mark.OpenBracket ∷ bare after) k i.bare_is (t.fails_line naming_low (λ a. CountAt a.home a.name r v) (λ a. CountLine a.home a.name r v) (Mark mark.OpenBracket) (bare after) k (λ a. refl) (λ a. m) (λ a n. n))

count_other : (h : Home) (w : List ℕ) (r : Bool) (v : List ℕ) (x : Token) → (x ≡ Mark mark.Semicolon → ⊥) → (x ≡ Mark mark.OpenBracket → ⊥) → count_step h w r v x ≡ None
count_other h w r v (Mark mark.Semicolon) a b = absurd (a refl)
count_other h w r v (Mark mark.OpenBracket) a b = absurd (b refl)
count_other h w r v _ a b = refl

pub count_none : (r : Bool) (v : List ℕ) (tokens : List Placed) → IsNot (Mark mark.Semicolon) (bare tokens) → IsNot (Mark mark.OpenBracket) (bare tokens) → TurnErrs naming_low (count_at r v) (bare tokens) (Syntax (length tokens))
count_none r v tokens n m = fails_here naming_low (count_at r v) tokens (fails_end naming_low (count_at r v) (bare tokens) (λ a x rest e. count_other a.home a.name r v x (not_at (Mark mark.Semicolon) (bare tokens) x rest e n) (not_at (Mark mark.OpenBracket) (bare tokens) x rest e m)) (λ a. refl))

-- the high end of a range

pub high_number : (low : End) (n i : ℕ) (tokens after rest : List Placed) → Numbers tokens n i after → Follows after (leasts (piece.Semicolon ∷ [])) rest → Turns naming_low (high_at low) (bare tokens) (var_end (Range low (EndOf false n))) (bare rest)
high_number low n i tokens after rest k f =
    turned tokens (Number n ∷ Mark mark.Semicolon ∷ bare rest) (bare rest) (k.bare_is ∙ ap (λ (x : List Token). Number n ∷ x) f.bare_is)
    (t.turns_line naming_low (λ a. HighAt a.home a.name low) (λ a. EndLine a.home a.name (Range low (EndOf false n))) (Number n) (Mark mark.Semicolon ∷ []) (bare rest) (λ a. refl) (λ a. refl) (λ a n. n))

pub high_number_miss : (low : End) (n i k : ℕ) (tokens after : List Placed) → Numbers tokens n i after → missed (piece.Semicolon ∷ []) (bare after) ≡ Some k → TurnErrs naming_low (high_at low) (bare tokens) (Syntax k)
high_number_miss low n i k tokens after j m = fails_along naming_low (high_at low) tokens (Number n ∷ bare after) k j.bare_is (t.fails_line naming_low (λ a. HighAt a.home a.name low) (λ a. EndLine a.home a.name (Range low (EndOf false n))) (Number n) (bare after) k (λ a. refl) (λ a. m) (λ a n. n))

pub high_minus : (low : End) (n i : ℕ) (tokens after rest : List Placed) → Takes tokens (Mark mark.Minus) after → NumbersThen after n i (leasts (piece.Semicolon ∷ [])) rest → Turns naming_low (high_at low) (bare tokens) (var_end (Range low (EndOf true n))) (bare rest)
high_minus low n i tokens after rest k f =
    turned tokens (Mark mark.Minus ∷ Number n ∷ Mark mark.Semicolon ∷ bare rest) (bare rest) (k.bare_is ∙ ap (λ (x : List Token). Mark mark.Minus ∷ x) f.bare_is)
    (t.turns_line naming_low (λ a. HighAt a.home a.name low) (λ a. HighLine a.home a.name low) (Mark mark.Minus) (Number n ∷ Mark mark.Semicolon ∷ []) (bare rest) (λ a. refl) (λ a. refl) (λ a n. n))

pub high_minus_miss : (low : End) (k : ℕ) (tokens after : List Placed) → Takes tokens (Mark mark.Minus) after → missed (piece.Number ∷ piece.Semicolon ∷ []) (bare after) ≡ Some k → TurnErrs naming_low (high_at low) (bare tokens) (Syntax k)
high_minus_miss low k tokens after j m = fails_along naming_low (high_at low) tokens (Mark mark.Minus ∷ bare after) k j.bare_is (t.fails_line naming_low (λ a. HighAt a.home a.name low) (λ a. HighLine a.home a.name low) (Mark mark.Minus) (bare after) k (λ a. refl) (λ a. m) (λ a n. n))

pub number_at : (tokens : List Token) (x : Token) (rest : List Token) → tokens ≡ x ∷ rest → IsNotNumber tokens → IsNotNumber (x ∷ rest)
number_at tokens x rest e h = subst (λ (y : List Token). IsNotNumber y) e h

pub word_at : (tokens : List Token) (x : Token) (rest : List Token) → tokens ≡ x ∷ rest → IsNotWord tokens → IsNotWord (x ∷ rest)
word_at tokens x rest e h = subst (λ (y : List Token). IsNotWord y) e h

high_other : (h : Home) (w : List ℕ) (low : End) (x : Token) (rest : List Token) → IsNotNumber (x ∷ rest) → (x ≡ Mark mark.Minus → ⊥) → high_step h w low x ≡ None
high_other h w low (Number n) rest a b = absurd a
high_other h w low (Mark mark.Minus) rest a b = absurd (b refl)
high_other h w low _ rest a b = refl

pub high_none : (low : End) (tokens : List Placed) → IsNotNumber (bare tokens) → IsNot (Mark mark.Minus) (bare tokens) → TurnErrs naming_low (high_at low) (bare tokens) (Syntax (length tokens))
high_none low tokens n m = fails_here naming_low (high_at low) tokens (fails_end naming_low (high_at low) (bare tokens) (λ a x rest e. high_other a.home a.name low x rest (number_at (bare tokens) x rest e n) (not_at (Mark mark.Minus) (bare tokens) x rest e m)) (λ a. refl))

-- the low end of a range

pub low_number : (n i : ℕ) (tokens after rest : List Placed) → Numbers tokens n i after → Follows after (leasts (piece.DotDot ∷ [])) rest → Turns naming_low shape_at (bare tokens) (high_at (EndOf false n)) (bare rest)
low_number n i tokens after rest k f =
    turned tokens (Number n ∷ Mark mark.DotDot ∷ bare rest) (bare rest) (k.bare_is ∙ ap (λ (x : List Token). Number n ∷ x) f.bare_is)
    (t.turns_line naming_low (λ a. ShapeAt a.home a.name) (λ a. DotsLine a.home a.name n) (Number n) (Mark mark.DotDot ∷ []) (bare rest) (λ a. refl) (λ a. refl) (λ a n. n))

pub low_number_miss : (n i k : ℕ) (tokens after : List Placed) → Numbers tokens n i after → missed (piece.DotDot ∷ []) (bare after) ≡ Some k → TurnErrs naming_low shape_at (bare tokens) (Syntax k)
low_number_miss n i k tokens after j m = fails_along naming_low shape_at tokens (Number n ∷ bare after) k j.bare_is (t.fails_line naming_low (λ a. ShapeAt a.home a.name) (λ a. DotsLine a.home a.name n) (Number n) (bare after) k (λ a. refl) (λ a. m) (λ a n. n))

pub low_minus : (n i : ℕ) (tokens after rest : List Placed) → Takes tokens (Mark mark.Minus) after → NumbersThen after n i (leasts (piece.DotDot ∷ [])) rest → Turns naming_low shape_at (bare tokens) (high_at (EndOf true n)) (bare rest)
low_minus n i tokens after rest k f =
    turned tokens (Mark mark.Minus ∷ Number n ∷ Mark mark.DotDot ∷ bare rest) (bare rest) (k.bare_is ∙ ap (λ (x : List Token). Mark mark.Minus ∷ x) f.bare_is)
    (t.turns_line naming_low (λ a. ShapeAt a.home a.name) (λ a. LowLine a.home a.name) (Mark mark.Minus) (Number n ∷ Mark mark.DotDot ∷ []) (bare rest) (λ a. refl) (λ a. refl) (λ a n. n))

pub low_minus_miss : (k : ℕ) (tokens after : List Placed) → Takes tokens (Mark mark.Minus) after → missed (piece.Number ∷ piece.DotDot ∷ []) (bare after) ≡ Some k → TurnErrs naming_low shape_at (bare tokens) (Syntax k)
low_minus_miss k tokens after j m = fails_along naming_low shape_at tokens (Mark mark.Minus ∷ bare after) k j.bare_is (t.fails_line naming_low (λ a. ShapeAt a.home a.name) (λ a. LowLine a.home a.name) (Mark mark.Minus) (bare after) k (λ a. refl) (λ a. m) (λ a n. n))

-- none of the words that begin a shape
pub record IsNoShape (tokens : List Token) : Type 0 where
  pub word : IsNotWord tokens
  pub int : IsNot (Key key.Int) tokens
  pub bool : IsNot (Key key.Bool) tokens
  pub ref : IsNot (Key key.Ref) tokens

shape_other : (h : Home) (w : List ℕ) (x : Token) (rest : List Token) → IsNotWord (x ∷ rest) → IsNotNumber (x ∷ rest) → (x ≡ Key key.Int → ⊥) → (x ≡ Key key.Bool → ⊥) → (x ≡ Key key.Ref → ⊥) → (x ≡ Mark mark.Minus → ⊥) → shape_step h w x ≡ None
shape_other h w (Word v) rest a n i b r m = absurd a
shape_other h w (Number v) rest a n i b r m = absurd n
shape_other h w (Key key.Int) rest a n i b r m = absurd (i refl)
shape_other h w (Key key.Bool) rest a n i b r m = absurd (b refl)
shape_other h w (Key key.Ref) rest a n i b r m = absurd (r refl)
shape_other h w (Mark mark.Minus) rest a n i b r m = absurd (m refl)
shape_other h w _ rest a n i b r m = refl

pub low_none : (tokens : List Placed) → IsNotWord (bare tokens) → IsNot (Key key.Int) (bare tokens) → IsNot (Key key.Bool) (bare tokens) → IsNot (Key key.Ref) (bare tokens) → IsNotNumber (bare tokens) → IsNot (Mark mark.Minus) (bare tokens) → TurnErrs naming_low shape_at (bare tokens) (Syntax (length tokens))
low_none tokens a i b r n m = fails_here naming_low shape_at tokens (fails_end naming_low shape_at (bare tokens) (λ c x rest e. shape_other c.home c.name x rest (word_at (bare tokens) x rest e a) (number_at (bare tokens) x rest e n) (not_at (Key key.Int) (bare tokens) x rest e i) (not_at (Key key.Bool) (bare tokens) x rest e b) (not_at (Key key.Ref) (bare tokens) x rest e r) (not_at (Mark mark.Minus) (bare tokens) x rest e m)) (λ a. refl))

-- shapes

pub int_part : (tokens after rest : List Placed) → Takes tokens (Key key.Int) after → Follows after (leasts (piece.Semicolon ∷ [])) rest → Turns naming_low shape_at (bare tokens) (var_end Int) (bare rest)
int_part tokens after rest k f =
    turned tokens (Key key.Int ∷ Mark mark.Semicolon ∷ bare rest) (bare rest) (k.bare_is ∙ ap (λ (x : List Token). Key key.Int ∷ x) f.bare_is)
    (t.turns_line naming_low (λ a. ShapeAt a.home a.name) (λ a. EndLine a.home a.name Int) (Key key.Int) (Mark mark.Semicolon ∷ []) (bare rest) (λ a. refl) (λ a. refl) (λ a n. n))

pub int_miss : (k : ℕ) (tokens after : List Placed) → Takes tokens (Key key.Int) after → missed (piece.Semicolon ∷ []) (bare after) ≡ Some k → TurnErrs naming_low shape_at (bare tokens) (Syntax k)
int_miss k tokens after j m = fails_along naming_low shape_at tokens (Key key.Int ∷ bare after) k j.bare_is (t.fails_line naming_low (λ a. ShapeAt a.home a.name) (λ a. EndLine a.home a.name Int) (Key key.Int) (bare after) k (λ a. refl) (λ a. m) (λ a n. n))

pub bool_part : (tokens after rest : List Placed) → Takes tokens (Key key.Bool) after → Follows after (leasts (piece.Semicolon ∷ [])) rest → Turns naming_low shape_at (bare tokens) (var_end Truth) (bare rest)
bool_part tokens after rest k f =
    turned tokens (Key key.Bool ∷ Mark mark.Semicolon ∷ bare rest) (bare rest) (k.bare_is ∙ ap (λ (x : List Token). Key key.Bool ∷ x) f.bare_is)
    (t.turns_line naming_low (λ a. ShapeAt a.home a.name) (λ a. EndLine a.home a.name Truth) (Key key.Bool) (Mark mark.Semicolon ∷ []) (bare rest) (λ a. refl) (λ a. refl) (λ a n. n))

pub bool_miss : (k : ℕ) (tokens after : List Placed) → Takes tokens (Key key.Bool) after → missed (piece.Semicolon ∷ []) (bare after) ≡ Some k → TurnErrs naming_low shape_at (bare tokens) (Syntax k)
bool_miss k tokens after j m = fails_along naming_low shape_at tokens (Key key.Bool ∷ bare after) k j.bare_is (t.fails_line naming_low (λ a. ShapeAt a.home a.name) (λ a. EndLine a.home a.name Truth) (Key key.Bool) (bare after) k (λ a. refl) (λ a. m) (λ a n. n))

ref_turns : (v : List ℕ) (i : ℕ) (tokens after rest : List Placed) → Takes tokens (Key key.Ref) after → NamesThen after v i (leasts []) rest → Turns naming_low shape_at (bare tokens) (count_at true v) (bare rest)
ref_turns v i tokens after rest k f =
    turned tokens (Key key.Ref ∷ Word v ∷ bare rest) (bare rest) (k.bare_is ∙ ap (λ (x : List Token). Key key.Ref ∷ x) f.bare_is)
    (t.turns_line naming_low (λ a. ShapeAt a.home a.name) (λ a. RefLine a.home a.name) (Key key.Ref) (Word v ∷ []) (bare rest) (λ a. refl) (λ a. refl) (λ a n. n))

pub ref_miss : (k : ℕ) (tokens after : List Placed) → Takes tokens (Key key.Ref) after → missed (piece.Word ∷ []) (bare after) ≡ Some k → TurnErrs naming_low shape_at (bare tokens) (Syntax k)
ref_miss k tokens after j m = fails_along naming_low shape_at tokens (Key key.Ref ∷ bare after) k j.bare_is (t.fails_line naming_low (λ a. ShapeAt a.home a.name) (λ a. RefLine a.home a.name) (Key key.Ref) (bare after) k (λ a. refl) (λ a. m) (λ a n. n))

pub ref_part : (v u : List ℕ) (i : ℕ) (s : Shape) (tokens after mid rest : List Placed) → Takes tokens (Key key.Ref) after → NamesThen after v i (leasts []) mid → u ≡ v → Turns naming_low (count_at true u) (bare mid) (var_end s) (bare rest) → Turns naming_low shape_at (bare tokens) (var_end s) (bare rest)
ref_part v u i s tokens after mid rest k f e h = t.turns_on (ref_turns v i tokens after mid k f) (subst (λ (x : List ℕ). Turns naming_low (count_at true x) (bare mid) (var_end s) (bare rest)) e h)

pub ref_error : (v u : List ℕ) (i : ℕ) (e : Stop) (tokens after mid : List Placed) → Takes tokens (Key key.Ref) after → NamesThen after v i (leasts []) mid → u ≡ v → TurnErrs naming_low (count_at true u) (bare mid) e → TurnErrs naming_low shape_at (bare tokens) e
ref_error v u i e tokens after mid k f q h = turn_errs_on naming_low shape_at (count_at true v) (bare tokens) (bare mid) e (ref_turns v i tokens after mid k f) (subst (λ (x : List ℕ). TurnErrs naming_low (count_at true x) (bare mid) e) q h)

word_turns : (v : List ℕ) (i : ℕ) (tokens after : List Placed) → Names tokens v i after → Turns naming_low shape_at (bare tokens) (count_at false v) (bare after)
word_turns v i tokens after k = turned tokens (Word v ∷ bare after) (bare after) k.bare_is (t.turns_token naming_low shape_at (count_at false v) (Word v) (bare after) (λ a. refl) (λ a n. var_low a (Named false v) n))

pub word_part : (v u : List ℕ) (i : ℕ) (s : Shape) (tokens mid rest : List Placed) → Names tokens v i mid → u ≡ v → Turns naming_low (count_at false u) (bare mid) (var_end s) (bare rest) → Turns naming_low shape_at (bare tokens) (var_end s) (bare rest)
word_part v u i s tokens mid rest k e h = t.turns_on (word_turns v i tokens mid k) (subst (λ (x : List ℕ). Turns naming_low (count_at false x) (bare mid) (var_end s) (bare rest)) e h)

pub word_error : (v u : List ℕ) (i : ℕ) (e : Stop) (tokens mid : List Placed) → Names tokens v i mid → u ≡ v → TurnErrs naming_low (count_at false u) (bare mid) e → TurnErrs naming_low shape_at (bare tokens) e
word_error v u i e tokens mid k q h = turn_errs_on naming_low shape_at (count_at false v) (bare tokens) (bare mid) e (word_turns v i tokens mid k) (subst (λ (x : List ℕ). TurnErrs naming_low (count_at false x) (bare mid) e) q h)

pub range_part : (low : End) (s : Shape) (tokens mid rest : List Placed) → Turns naming_low shape_at (bare tokens) (high_at low) (bare mid) → Turns naming_low (high_at low) (bare mid) (var_end s) (bare rest) → Turns naming_low shape_at (bare tokens) (var_end s) (bare rest)
range_part low s tokens mid rest h k = t.turns_on h k

pub range_error : (low : End) (e : Stop) (tokens mid : List Placed) → Turns naming_low shape_at (bare tokens) (high_at low) (bare mid) → TurnErrs naming_low (high_at low) (bare mid) e → TurnErrs naming_low shape_at (bare tokens) e
range_error low e tokens mid h k = turn_errs_on naming_low shape_at (high_at low) (bare tokens) (bare mid) e h k

-- variables

var_turns : (w : List ℕ) (i : ℕ) (tokens after rest : List Placed) → Takes tokens (Key key.Var) after → NamesThen after w i (leasts (piece.As ∷ [])) rest → Turns home_low home_at (bare tokens) (λ h. shape_at (record { home = h; name = w })) (bare rest)
var_turns w i tokens after rest k f =
    turned tokens (Key key.Var ∷ Word w ∷ Key key.As ∷ bare rest) (bare rest) (k.bare_is ∙ ap (λ (x : List Token). Key key.Var ∷ x) f.bare_is)
    (t.turns_line home_low (λ h. HomeAt h) (λ h. VarLine h) (Key key.Var) (Word w ∷ Key key.As ∷ []) (bare rest) home_var (λ a. refl) (λ a n. n))

pub var_miss : (k : ℕ) (tokens after : List Placed) → Takes tokens (Key key.Var) after → missed (piece.Word ∷ piece.As ∷ []) (bare after) ≡ Some k → TurnErrs home_low home_at (bare tokens) (Syntax k)
var_miss k tokens after j m = fails_along home_low home_at tokens (Key key.Var ∷ bare after) k j.bare_is (t.fails_line home_low (λ h. HomeAt h) (λ h. VarLine h) (Key key.Var) (bare after) k home_var (λ a. m) (λ a n. n))

pub var_part : (w u : List ℕ) (i : ℕ) (s : Shape) (tokens after mid rest : List Placed) → Takes tokens (Key key.Var) after → NamesThen after w i (leasts (piece.As ∷ [])) mid → u ≡ w → Turns naming_low shape_at (bare mid) (var_end s) (bare rest) → Turns home_low home_at (bare tokens) (home_and (Var u s)) (bare rest)
var_part w u i s tokens after mid rest k f e h =
    subst (λ (x : List ℕ). Turns home_low home_at (bare tokens) (home_and (Var x s)) (bare rest)) (sym e)
    (record { is = λ a n. (var_turns w i tokens after mid k f).is a n ∙ h.is (record { home = a; name = w }) n })

pub var_error : (w : List ℕ) (i : ℕ) (e : Stop) (tokens after mid : List Placed) → Takes tokens (Key key.Var) after → NamesThen after w i (leasts (piece.As ∷ [])) mid → TurnErrs naming_low shape_at (bare mid) e → TurnErrs home_low home_at (bare tokens) e
var_error w i e tokens after mid k f h =
    turn_errs home_low naming_low home_at shape_at (bare tokens) (bare mid) e
    (λ out x. record { is = λ a n. ap shown ((var_turns w i tokens after mid k f).is a n) ∙ x.is (record { home = a; name = w }) n }) h
