-- Straight rows lead to their corners, whatever names and numbers stand in them.
use Rattle.std.proofs.Common.{◌≡◌, ℕ, true, false, Bool, List, [], ◌∷◌, ◌++◌, refl, ◌∙◌, ap, append_assoc, arith}
use Rattle.conf_syntax.specs.declared.token.Key.TheVariants as key
use Rattle.conf_syntax.specs.declared.token.Mark.TheVariants as mark
use Rattle.conf_syntax.specs.declared.token.Token.{Token}
use Rattle.conf_syntax.specs.declared.token.Token.TheVariants.{Word, Number, Key, Mark}
use Rattle.conf_syntax.specs.Plain.{Shape, Range, Int, Named, EndOf, Counted, End, Values, Var, Program, member_tokens, IsProgram, nesting}
use Rattle.conf_grammar.specs.Machine.{Home, Corner, HomeAt, Line, EnumLine, ValueLine, AbstractLine, ClassLine, ParentLine, VarLine, LowLine, DotsLine, HighLine, EndLine, RefLine, CountLine, pieces_of, home_with, home_done}
use Rattle.conf_grammar.specs.Fronts.{home_front, IsHome, line_front, IsArrival, IsRow}
use Rattle.conf_grammar.proofs.Homes.{with_front, with_nest, with_good}

abbrev pub IsLine : Line → Type 0
IsLine (EnumLine p) = IsProgram p
IsLine (ValueLine p w vs) = IsProgram p
IsLine (AbstractLine p) = IsProgram p
IsLine (ClassLine p) = IsProgram p
IsLine (ParentLine p a w) = IsProgram p
IsLine (VarLine h) = IsHome h
IsLine (LowLine h w) = IsHome h
IsLine (DotsLine h w n) = IsHome h
IsLine (HighLine h w low) = IsHome h
IsLine (EndLine h w s) = IsHome h
IsLine (RefLine h w) = IsHome h
IsLine (CountLine h w r v) = IsHome h

-- a declaration that ends
ends_var : (h : Home) (w : List ℕ) (s : Shape) (a : List Token) → IsHome h → member_tokens (Var w s) ≡ a → IsArrival (home_front h ++ a) (nesting (home_done h)) (HomeAt (home_with h (Var w s)))
ends_var h w s a i e = (with_front h (Var w s) ∙ ap (λ (x : List Token). home_front h ++ x) e, with_nest h (Var w s) ∙ omega arith, with_good h (Var w s) i tt)

along : (a b : List Token) (n : ℕ) (c : Corner) → a ≡ b → IsArrival a n c → IsArrival b n c
along a b n c e h = (h.0 ∙ e, h.1, h.2)

enum_row : (p : Program) → IsProgram p → IsRow (pieces_of (EnumLine p)) [] (EnumLine p)
enum_row p i (Word w ∷ Mark mark.OpenBrace ∷ Word v ∷ []) h = (simp append_assoc, omega arith, i)
enum_row p i _ h = absurd cc

value_row : (p : Program) (w : List ℕ) (vs : Values) → IsProgram p → IsRow (pieces_of (ValueLine p w vs)) [] (ValueLine p w vs)
value_row p w vs i (Word v ∷ []) h = (simp append_assoc, omega arith, i)
value_row p w vs i _ h = absurd cc

abstract_row : (p : Program) → IsProgram p → IsRow (pieces_of (AbstractLine p)) [] (AbstractLine p)
abstract_row p i (Key key.Class ∷ Word v ∷ []) h = (simp append_assoc, omega arith, i)
abstract_row p i _ h = absurd cc

class_row : (p : Program) → IsProgram p → IsRow (pieces_of (ClassLine p)) [] (ClassLine p)
class_row p i (Word v ∷ []) h = (simp append_assoc, omega arith, i)
class_row p i _ h = absurd cc

parent_row : (p : Program) (a : Bool) (w : List ℕ) → IsProgram p → IsRow (pieces_of (ParentLine p a w)) [] (ParentLine p a w)
parent_row p a w i (Word v ∷ Mark mark.OpenBrace ∷ []) h = (simp append_assoc, omega arith, (i, tt))
parent_row p a w i _ h = absurd cc

var_row : (h : Home) → IsHome h → IsRow (pieces_of (VarLine h)) [] (VarLine h)
var_row h i (Word v ∷ Key key.As ∷ []) e = (simp append_assoc, with_nest h (Var v Int) ∙ omega arith, i)
var_row h i _ e = absurd cc

low_row : (h : Home) (w : List ℕ) → IsHome h → IsRow (pieces_of (LowLine h w)) [] (LowLine h w)
low_row h w i (Number n ∷ Mark mark.DotDot ∷ []) e = (simp append_assoc, with_nest h (Var w (Range (EndOf true n) (EndOf false 0))) ∙ omega arith, i)
low_row h w i _ e = absurd cc

dots_row : (h : Home) (w : List ℕ) (n : ℕ) → IsHome h → IsRow (pieces_of (DotsLine h w n)) [] (DotsLine h w n)
dots_row h w n i (Mark mark.DotDot ∷ []) e = (simp append_assoc, with_nest h (Var w (Range (EndOf false n) (EndOf false 0))) ∙ omega arith, i)
dots_row h w n i _ e = absurd cc

high_row : (h : Home) (w : List ℕ) (low : End) → IsHome h → IsRow (pieces_of (HighLine h w low)) [] (HighLine h w low)
high_row h w low i (Number n ∷ Mark mark.Semicolon ∷ []) e =
    along (home_front h ++ member_tokens (Var w (Range low (EndOf true n)))) (line_front (HighLine h w low) ++ (Number n ∷ Mark mark.Semicolon ∷ [])) (nesting (home_done h)) (HomeAt (home_with h (Var w (Range low (EndOf true n)))))
    (simp append_assoc) (ends_var h w (Range low (EndOf true n)) (member_tokens (Var w (Range low (EndOf true n)))) i refl)
high_row h w low i _ e = absurd cc

end_row : (h : Home) (w : List ℕ) (s : Shape) → IsHome h → IsRow (pieces_of (EndLine h w s)) [] (EndLine h w s)
end_row h w s i (Mark mark.Semicolon ∷ []) e =
    along (home_front h ++ member_tokens (Var w s)) (line_front (EndLine h w s) ++ (Mark mark.Semicolon ∷ [])) (nesting (home_done h)) (HomeAt (home_with h (Var w s)))
    (simp append_assoc) (ends_var h w s (member_tokens (Var w s)) i refl)
end_row h w s i _ e = absurd cc

ref_row : (h : Home) (w : List ℕ) → IsHome h → IsRow (pieces_of (RefLine h w)) [] (RefLine h w)
ref_row h w i (Word v ∷ []) e = (simp append_assoc, with_nest h (Var w (Named true v)) ∙ omega arith, i)
ref_row h w i _ e = absurd cc

count_row : (h : Home) (w : List ℕ) (r : Bool) (v : List ℕ) → IsHome h → IsRow (pieces_of (CountLine h w r v)) [] (CountLine h w r v)
count_row h w r v i (Number n ∷ Mark mark.CloseBracket ∷ Mark mark.Semicolon ∷ []) e =
    along (home_front h ++ member_tokens (Var w (Counted r v n))) (line_front (CountLine h w r v) ++ (Number n ∷ Mark mark.CloseBracket ∷ Mark mark.Semicolon ∷ [])) (nesting (home_done h)) (HomeAt (home_with h (Var w (Counted r v n))))
    (simp append_assoc) (ends_var h w (Counted r v n) (member_tokens (Var w (Counted r v n))) i refl)
count_row h w r v i _ e = absurd cc

pub line_row : (l : Line) → IsLine l → IsRow (pieces_of l) [] l
line_row (EnumLine p) i = enum_row p i
line_row (ValueLine p w vs) i = value_row p w vs i
line_row (AbstractLine p) i = abstract_row p i
line_row (ClassLine p) i = class_row p i
line_row (ParentLine p a w) i = parent_row p a w i
line_row (VarLine h) i = var_row h i
line_row (LowLine h w) i = low_row h w i
line_row (DotsLine h w n) i = dots_row h w n i
line_row (HighLine h w low) i = high_row h w low i
line_row (EndLine h w s) i = end_row h w s i
line_row (RefLine h w) i = ref_row h w i
line_row (CountLine h w r v) i = count_row h w r v i
