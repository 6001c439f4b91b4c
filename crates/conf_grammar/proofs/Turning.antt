-- How readers of declarations are put together.
use Rattle.std.proofs.Common.{◌≡◌, ◌≤◌, ℕ, true, false, Bool, cond, ◌&&◌, List, [], ◌∷◌, ◌++◌, refl, sym, ◌∙◌, ap, subst, append_assoc, append-nil, arith, None, Some, length}
use Rattle.std.proofs.lemmas.Bool.{cond-true, cond-false, and_parts}
use Rattle.model_limits.specs.Limits.{most_nesting}
use Rattle.conf_syntax.specs.declared.token.Key.TheVariants as key
use Rattle.conf_syntax.specs.declared.token.Mark.TheVariants as mark
use Rattle.conf_syntax.specs.declared.token.Token.{Token}
use Rattle.conf_syntax.specs.declared.token.Token.TheVariants.{Word, Number, Key, Mark}
use Rattle.conf_syntax.specs.Plain.{Shape, Range, Int, Named, Counted, End, EndOf, Values, Var, Program, nesting}
use Rattle.conf_grammar.specs.declared.piece.Piece.{Piece}
use Rattle.conf_grammar.specs.Machine.{Home, Corner, Line, EnumLine, ValueLine, AbstractLine, ClassLine, ParentLine, VarLine, LowLine, DotsLine, HighLine, EndLine, RefLine, CountLine, State, At, Row, takes, takes_all, leasts, pieces_of, home_with, home_done, arrive, settle, step, corner_done, completed, reading}
use Rattle.conf_grammar.specs.Fronts.{line_done}
use Rattle.conf_grammar.specs.Leads.{Turns, Fails, Shown, WrongAt, shown, missed}
use Rattle.conf_grammar.proofs.Homes.{with_nest}
use Rattle.conf_grammar.proofs.Complete.{takes_leasts}
use Rattle.conf_grammar.proofs.Leading.{moves, halts}

-- a row leaves the nesting as it is

abbrev IsLevel : List Piece → List Token → Line → Type 0
IsLevel ws read l = (ts : List Token) → takes_all ws ts ≡ true → nesting (corner_done (arrive l (read ++ ts))) ≡ nesting (line_done l)

var_level : (h : Home) (w : List ℕ) (s : Shape) → nesting (home_done (home_with h (Var w s))) ≡ nesting (home_done h)
var_level h w s = with_nest h (Var w s) ∙ omega arith

enum_level : (p : Program) → IsLevel (pieces_of (EnumLine p)) [] (EnumLine p)
enum_level p (Word w ∷ Mark mark.OpenBrace ∷ Word v ∷ []) h = omega arith
enum_level p _ h = absurd cc

value_level : (p : Program) (w : List ℕ) (vs : Values) → IsLevel (pieces_of (ValueLine p w vs)) [] (ValueLine p w vs)
value_level p w vs (Word v ∷ []) h = omega arith
value_level p w vs _ h = absurd cc

abstract_level : (p : Program) → IsLevel (pieces_of (AbstractLine p)) [] (AbstractLine p)
abstract_level p (Key key.Class ∷ Word v ∷ []) h = omega arith
abstract_level p _ h = absurd cc

class_level : (p : Program) → IsLevel (pieces_of (ClassLine p)) [] (ClassLine p)
class_level p (Word v ∷ []) h = omega arith
class_level p _ h = absurd cc

parent_level : (p : Program) (a : Bool) (w : List ℕ) → IsLevel (pieces_of (ParentLine p a w)) [] (ParentLine p a w)
parent_level p a w (Word v ∷ Mark mark.OpenBrace ∷ []) h = omega arith
parent_level p a w _ h = absurd cc

head_level : (h : Home) → IsLevel (pieces_of (VarLine h)) [] (VarLine h)
head_level h (Word v ∷ Key key.As ∷ []) e = var_level h v Int
head_level h _ e = absurd cc

low_level : (h : Home) (w : List ℕ) → IsLevel (pieces_of (LowLine h w)) [] (LowLine h w)
low_level h w (Number n ∷ Mark mark.DotDot ∷ []) e = var_level h w (Range (EndOf true n) (EndOf false 0))
low_level h w _ e = absurd cc

dots_level : (h : Home) (w : List ℕ) (n : ℕ) → IsLevel (pieces_of (DotsLine h w n)) [] (DotsLine h w n)
dots_level h w n (Mark mark.DotDot ∷ []) e = var_level h w (Range (EndOf false n) (EndOf false 0))
dots_level h w n _ e = absurd cc

high_level : (h : Home) (w : List ℕ) (low : End) → IsLevel (pieces_of (HighLine h w low)) [] (HighLine h w low)
high_level h w low (Number n ∷ Mark mark.Semicolon ∷ []) e = var_level h w (Range low (EndOf true n))
high_level h w low _ e = absurd cc

end_level : (h : Home) (w : List ℕ) (s : Shape) → IsLevel (pieces_of (EndLine h w s)) [] (EndLine h w s)
end_level h w s (Mark mark.Semicolon ∷ []) e = var_level h w s
end_level h w s _ e = absurd cc

ref_level : (h : Home) (w : List ℕ) → IsLevel (pieces_of (RefLine h w)) [] (RefLine h w)
ref_level h w (Word v ∷ []) e = var_level h w (Named true v)
ref_level h w _ e = absurd cc

count_level : (h : Home) (w : List ℕ) (r : Bool) (v : List ℕ) → IsLevel (pieces_of (CountLine h w r v)) [] (CountLine h w r v)
count_level h w r v (Number n ∷ Mark mark.CloseBracket ∷ Mark mark.Semicolon ∷ []) e = var_level h w (Counted r v n)
count_level h w r v _ e = absurd cc

pub line_level : (l : Line) → IsLevel (pieces_of l) [] l
line_level (EnumLine p) = enum_level p
line_level (ValueLine p w vs) = value_level p w vs
line_level (AbstractLine p) = abstract_level p
line_level (ClassLine p) = class_level p
line_level (ParentLine p a w) = parent_level p a w
line_level (VarLine h) = head_level h
line_level (LowLine h w) = low_level h w
line_level (DotsLine h w n) = dots_level h w n
line_level (HighLine h w low) = high_level h w low
line_level (EndLine h w s) = end_level h w s
line_level (RefLine h w) = ref_level h w
line_level (CountLine h w r v) = count_level h w r v

settle_level : (ws : List Piece) (read : List Token) (l : Line) → IsLevel ws read l → nesting (completed (settle ws read l)) ≡ nesting (line_done l)
settle_level [] read l r = subst (λ (x : List Token). nesting (corner_done (arrive l x)) ≡ nesting (line_done l)) (append-nil read) (r [] refl)
settle_level (w ∷ ws) read l r = r (leasts (w ∷ ws)) (takes_leasts (w ∷ ws))

level_on : (w : Piece) (ws : List Piece) (read : List Token) (l : Line) (token : Token) → takes w token ≡ true → IsLevel (w ∷ ws) read l → IsLevel ws (read ++ (token ∷ [])) l
level_on w ws read l token e r = λ ts h. subst (λ (x : List Token). nesting (corner_done (arrive l x)) ≡ nesting (line_done l)) (sym (append_assoc read (token ∷ []) ts)) (r (token ∷ ts) (ap (λ (x : Bool). x && takes_all ws ts) e ∙ h))

-- a row that is read
row_reads : (ws : List Piece) (read : List Token) (l : Line) (ts rest : List Token) → IsLevel ws read l → takes_all ws ts ≡ true → nesting (line_done l) ≤ most_nesting → reading (ts ++ rest) most_nesting (settle ws read l) ≡ reading rest most_nesting (At (arrive l (read ++ ts)))
row_reads [] read l [] rest r e n = ap (λ (x : List Token). reading rest most_nesting (At (arrive l x))) (sym (append-nil read))
row_reads [] read l (t ∷ ts) rest r e n = absurd cc
row_reads (w ∷ ws) read l [] rest r e n = absurd cc
row_reads (w ∷ ws) read l (t ∷ ts) rest r e n =
    let a = and_parts (takes w t) (takes_all ws ts) e in
    let q = level_on w ws read l t a.0 r in
    moves t (ts ++ rest) (Row (w ∷ ws) read l) (settle ws (read ++ (t ∷ [])) l) (cond-true (takes w t) (Some (settle ws (read ++ (t ∷ [])) l)) None a.0) (omega (arith, settle_level ws (read ++ (t ∷ [])) l q))
    ∙ row_reads ws (read ++ (t ∷ [])) l ts rest q a.1 n
    ∙ ap (λ (x : List Token). reading rest most_nesting (At (arrive l x))) (append_assoc read (t ∷ []) ts)

-- a row that is missed
some_is : (a b : ℕ) → Some a ≡ Some b → WrongAt a ≡ WrongAt b
some_is a b e = cc

row_missed : (b : Bool) (w : Piece) (ws : List Piece) (read : List Token) (l : Line) (t : Token) (ts : List Token) (k : ℕ) → takes w t ≡ b → IsLevel (w ∷ ws) read l → cond b (missed ws ts) (Some (length (t ∷ ts))) ≡ Some k → nesting (line_done l) ≤ most_nesting → (IsLevel ws (read ++ (t ∷ [])) l → missed ws ts ≡ Some k → shown (reading ts most_nesting (settle ws (read ++ (t ∷ [])) l)) ≡ WrongAt k) → shown (reading (t ∷ ts) most_nesting (Row (w ∷ ws) read l)) ≡ WrongAt k
row_missed true w ws read l t ts k a r e n next =
    let q = level_on w ws read l t a r in
    ap shown (moves t ts (Row (w ∷ ws) read l) (settle ws (read ++ (t ∷ [])) l) (cond-true (takes w t) (Some (settle ws (read ++ (t ∷ [])) l)) None a) (omega (arith, settle_level ws (read ++ (t ∷ [])) l q)))
    ∙ next q e
row_missed false w ws read l t ts k a r e n next = ap shown (halts t ts (Row (w ∷ ws) read l) (cond-false (takes w t) (Some (settle ws (read ++ (t ∷ [])) l)) None a)) ∙ some_is (length (t ∷ ts)) k e

row_misses : (ws : List Piece) (read : List Token) (l : Line) (tokens : List Token) (k : ℕ) → IsLevel ws read l → missed ws tokens ≡ Some k → nesting (line_done l) ≤ most_nesting → shown (reading tokens most_nesting (settle ws read l)) ≡ WrongAt k
row_misses [] read l tokens k r e n = absurd cc
row_misses (w ∷ ws) read l [] k r e n = some_is 0 k e
row_misses (w ∷ ws) read l (t ∷ ts) k r e n = row_missed (takes w t) w ws read l t ts k refl r e n (λ q i. row_misses ws (read ++ (t ∷ [])) l ts k q i n)

pub line_reads : (l : Line) (ts rest : List Token) → takes_all (pieces_of l) ts ≡ true → nesting (line_done l) ≤ most_nesting → reading (ts ++ rest) most_nesting (settle (pieces_of l) [] l) ≡ reading rest most_nesting (At (arrive l ts))
line_reads l ts rest e n = row_reads (pieces_of l) [] l ts rest (line_level l) e n

pub line_misses : (l : Line) (tokens : List Token) (k : ℕ) → missed (pieces_of l) tokens ≡ Some k → nesting (line_done l) ≤ most_nesting → shown (reading tokens most_nesting (settle (pieces_of l) [] l)) ≡ WrongAt k
line_misses l tokens k e n = row_misses (pieces_of l) [] l tokens k (line_level l) e n

-- a token before a row
pub to_line : (l : Line) (c : Corner) (token : Token) (rest : List Token) → step (At c) token ≡ Some (settle (pieces_of l) [] l) → nesting (line_done l) ≤ most_nesting → reading (token ∷ rest) most_nesting (At c) ≡ reading rest most_nesting (settle (pieces_of l) [] l)
to_line l c token rest e n = moves token rest (At c) (settle (pieces_of l) [] l) e (omega (arith, settle_level (pieces_of l) [] l (line_level l)))

-- turns and failures, one behind the other
pub turns_on : {A : Type 0} {low : A → ℕ} {s s' s'' : A → State} {a b c : List Token} → Turns low s a s' b → Turns low s' b s'' c → Turns low s a s'' c
turns_on h k = record { is = λ x n. h.is x n ∙ k.is x n }

pub turns_fail : {A : Type 0} {low : A → ℕ} {s s' : A → State} {a b : List Token} {out : Shown} → Turns low s a s' b → Fails low s' b out → Fails low s a out
turns_fail h k = record { is = λ x n. ap shown (h.is x n) ∙ k.is x n }

pub turns_along : {A : Type 0} {low : A → ℕ} {s s' : A → State} {a b c : List Token} → a ≡ b → Turns low s b s' c → Turns low s a s' c
turns_along {A = A} {low = low} {s = s} {s' = s'} {c = c} e h = subst (λ (x : List Token). Turns low s x s' c) (sym e) h

-- a token that turns, by itself
pub turns_token : {A : Type 0} (low : A → ℕ) (s s' : A → State) (token : Token) (rest : List Token) → ((a : A) → step (s a) token ≡ Some (s' a)) → ((a : A) → low a ≤ most_nesting → nesting (completed (s' a)) ≤ most_nesting) → Turns low s (token ∷ rest) s' rest
turns_token low s s' token rest e n = record { is = λ a l. moves token rest (s a) (s' a) (e a) (n a l) }

pub fails_token : {A : Type 0} (low : A → ℕ) (s : A → State) (token : Token) (rest : List Token) → ((a : A) → step (s a) token ≡ None) → Fails low s (token ∷ rest) (WrongAt (length (token ∷ rest)))
fails_token low s token rest e = record { is = λ a l. ap shown (halts token rest (s a) (e a)) }

-- a token and a row
pub turns_line : {A : Type 0} (low : A → ℕ) (c : A → Corner) (l : A → Line) (token : Token) (ts rest : List Token) → ((a : A) → step (At (c a)) token ≡ Some (settle (pieces_of (l a)) [] (l a))) → ((a : A) → takes_all (pieces_of (l a)) ts ≡ true) → ((a : A) → low a ≤ most_nesting → nesting (line_done (l a)) ≤ most_nesting) → Turns low (λ a. At (c a)) (token ∷ (ts ++ rest)) (λ a. At (arrive (l a) ts)) rest
turns_line low c l token ts rest e t n = record { is = λ a k. to_line (l a) (c a) token (ts ++ rest) (e a) (n a k) ∙ line_reads (l a) ts rest (t a) (n a k) }

pub fails_line : {A : Type 0} (low : A → ℕ) (c : A → Corner) (l : A → Line) (token : Token) (after : List Token) (k : ℕ) → ((a : A) → step (At (c a)) token ≡ Some (settle (pieces_of (l a)) [] (l a))) → ((a : A) → missed (pieces_of (l a)) after ≡ Some k) → ((a : A) → low a ≤ most_nesting → nesting (line_done (l a)) ≤ most_nesting) → Fails low (λ a. At (c a)) (token ∷ after) (WrongAt k)
fails_line low c l token after k e m n = record { is = λ a i. ap shown (to_line (l a) (c a) token after (e a) (n a i)) ∙ line_misses (l a) after k (m a) (n a i) }
