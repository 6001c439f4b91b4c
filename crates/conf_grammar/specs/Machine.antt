-- A machine that takes one token at a time. A state is the tree read so far, with one hole.
use Rattle.std.specs.Prelude.{◌-◌, ℕ, zero, suc, List, [], ◌∷◌, ◌++◌, Bool, true, false, ◌&&◌, cond, nat_le, Option, None, Some}
use Rattle.conf_syntax.specs.declared.token.Key.TheVariants as key
use Rattle.conf_syntax.specs.declared.token.Mark.TheVariants as mark
use Rattle.conf_syntax.specs.declared.token.Token.{Token}
use Rattle.conf_syntax.specs.declared.token.Token.TheVariants.{Word, Number, Key, Mark}
use Rattle.conf_syntax.specs.declared.tree.Op.{Op}
use Rattle.conf_syntax.specs.declared.tree.Op.TheVariants as op
use Rattle.conf_syntax.specs.declared.tree.QuantKind.{QuantKind}
use Rattle.conf_syntax.specs.declared.tree.QuantKind.TheVariants as kind
use Rattle.conf_syntax.specs.Trees.{op_level, left_level, may_filter}
use Rattle.conf_syntax.specs.Plain.{Sign, Tree, Leaf, Round, Dot, Under, Two, Many, Single, Head, HeadIf, First, Then, Begin, ALeaf, ASign, AParen, AQuant, NoBegin, begin_by, sign_level, right_level, leaf_level, dotted, level, quant, bodies, semicolons, may_more, may_end, End, EndOf, Shape, Range, Int, Truth, Named, Counted, Values, OneValue, WithValue, Exprs, NoExpr, WithExpr, Member, Var, Where, Braces, Members, NoMember, WithMember, Enum, Class, Alone, Goal, Program, Empty, With, nesting}
use Rattle.conf_grammar.specs.declared.piece.Piece.{Piece}
use Rattle.conf_grammar.specs.declared.piece.Piece.TheVariants as piece

-- Where declarations stand, and what an expression stands in

-- the top level, or a class that is open
pub data Home : Type 0 where
  Outside : Program → Home
  InClass : Program → Bool → List ℕ → Option (List ℕ) → Members → Home

-- what an expression of its own stands in: a `where`, the braces of a `where`, a goal
pub data Ground : Type 0 where
  Lone : Home → Ground
  Inner : Home → Exprs → Ground
  GoalOf : Program → Bool → Ground

-- where more than one kind of token may come
pub data Corner : Type 0 where
  HomeAt : Home → Corner
  Enums : Program → List ℕ → Values → Corner
  ClassHead : Program → Bool → List ℕ → Corner
  ShapeAt : Home → List ℕ → Corner
  HighAt : Home → List ℕ → End → Corner
  CountAt : Home → List ℕ → Bool → List ℕ → Corner
  WhereAt : Home → Corner
  BracesAt : Home → Exprs → Corner

-- straight rows of tokens, named after what they end or begin
pub data Line : Type 0 where
  EnumLine : Program → Line
  ValueLine : Program → List ℕ → Values → Line
  AbstractLine : Program → Line
  ClassLine : Program → Line
  ParentLine : Program → Bool → List ℕ → Line
  VarLine : Home → Line
  LowLine : Home → List ℕ → Line
  DotsLine : Home → List ℕ → ℕ → Line
  HighLine : Home → List ℕ → End → Line
  EndLine : Home → List ℕ → Shape → Line
  RefLine : Home → List ℕ → Line
  CountLine : Home → List ℕ → Bool → List ℕ → Line

-- what is open around the hole of an expression, the innermost first
pub data Frame : Type 0 where
  InRight : Op → Tree → Frame
  InUnder : Sign → Frame
  InRound : Frame
  InOver : QuantKind → List ℕ → Frame
  InFilter : Tree → Frame
  InFirst : Tree → Frame
  InSingle : Tree → Frame
  InThen : Tree → Frame

pub data State : Type 0 where
  At : Corner → State
  Row : List Piece → List Token → Line → State
  Need : Ground → List Frame → State
  Have : Ground → List Frame → Tree → State
  Dotted : Ground → List Frame → Tree → State
  VarAt : Ground → List Frame → QuantKind → State
  NamedAt : Ground → List Frame → QuantKind → List ℕ → State
  Next : Ground → List Frame → Tree → State

-- Rows

abbrev pub takes : Piece → Token → Bool
takes piece.Word (Word w) = true
takes piece.Number (Number n) = true
takes piece.OpenBrace (Mark mark.OpenBrace) = true
takes piece.CloseBracket (Mark mark.CloseBracket) = true
takes piece.Semicolon (Mark mark.Semicolon) = true
takes piece.DotDot (Mark mark.DotDot) = true
takes piece.As (Key key.As) = true
takes piece.Class (Key key.Class) = true
takes _ _ = false

abbrev pub takes_all : List Piece → List Token → Bool
takes_all [] [] = true
takes_all (w ∷ ws) (t ∷ ts) = takes w t && takes_all ws ts
takes_all [] (t ∷ ts) = false
takes_all (w ∷ ws) [] = false

abbrev pub word : List ℕ
word = 120 ∷ []

abbrev pub least : Piece → Token
least piece.Word = Word word
least piece.Number = Number 0
least piece.OpenBrace = Mark mark.OpenBrace
least piece.CloseBracket = Mark mark.CloseBracket
least piece.Semicolon = Mark mark.Semicolon
least piece.DotDot = Mark mark.DotDot
least piece.As = Key key.As
least piece.Class = Key key.Class

abbrev pub leasts : List Piece → List Token
leasts [] = []
leasts (w ∷ ws) = least w ∷ leasts ws

abbrev pub pieces_of : Line → List Piece
pieces_of (EnumLine p) = piece.Word ∷ piece.OpenBrace ∷ piece.Word ∷ []
pieces_of (ValueLine p w vs) = piece.Word ∷ []
pieces_of (AbstractLine p) = piece.Class ∷ piece.Word ∷ []
pieces_of (ClassLine p) = piece.Word ∷ []
pieces_of (ParentLine p a w) = piece.Word ∷ piece.OpenBrace ∷ []
pieces_of (VarLine h) = piece.Word ∷ piece.As ∷ []
pieces_of (LowLine h w) = piece.Number ∷ piece.DotDot ∷ []
pieces_of (DotsLine h w n) = piece.DotDot ∷ []
pieces_of (HighLine h w low) = piece.Number ∷ piece.Semicolon ∷ []
pieces_of (EndLine h w s) = piece.Semicolon ∷ []
pieces_of (RefLine h w) = piece.Word ∷ []
pieces_of (CountLine h w r v) = piece.Number ∷ piece.CloseBracket ∷ piece.Semicolon ∷ []

abbrev pub home_with : Home → Member → Home
home_with (Outside p) m = Outside (With p (Alone m))
home_with (InClass p a w o ms) m = InClass p a w o (WithMember ms m)

-- where a row ends
abbrev pub arrive : Line → List Token → Corner
arrive (EnumLine p) (Word w ∷ t ∷ Word v ∷ []) = Enums p w (OneValue v)
arrive (ValueLine p w vs) (Word v ∷ []) = Enums p w (WithValue vs v)
arrive (AbstractLine p) (t ∷ Word w ∷ []) = ClassHead p true w
arrive (ClassLine p) (Word w ∷ []) = ClassHead p false w
arrive (ParentLine p a w) (Word v ∷ t ∷ []) = HomeAt (InClass p a w (Some v) NoMember)
arrive (VarLine h) (Word w ∷ t ∷ []) = ShapeAt h w
arrive (LowLine h w) (Number n ∷ t ∷ []) = HighAt h w (EndOf true n)
arrive (DotsLine h w n) (t ∷ []) = HighAt h w (EndOf false n)
arrive (HighLine h w low) (Number n ∷ t ∷ []) =
    HomeAt (home_with h (Var w (Range low (EndOf true n))))
arrive (EndLine h w s) (t ∷ []) = HomeAt (home_with h (Var w s))
arrive (RefLine h w) (Word v ∷ []) = CountAt h w true v
arrive (CountLine h w r v) (Number n ∷ t ∷ u ∷ []) = HomeAt (home_with h (Var w (Counted r v n)))
arrive _ _ = HomeAt (Outside Empty)

abbrev pub line : Line → State
line l = Row (pieces_of l) [] l

abbrev pub settle : List Piece → List Token → Line → State
settle [] read l = At (arrive l read)
settle (w ∷ ws) read l = Row (w ∷ ws) read l

abbrev pub row_step : List Piece → List Token → Line → Token → Option State
row_step [] read l token = None
row_step (w ∷ ws) read l token =
    cond (takes w token) (Some (settle ws (read ++ (token ∷ [])) l)) None

-- Expressions

-- the least level of what goes into the hole
abbrev pub slot : Frame → ℕ
slot (InRight o l) = right_level o
slot (InUnder s) = sign_level s
slot InRound = 1
slot (InOver k w) = 11
slot (InFilter h) = 1
slot (InFirst h) = 1
slot (InSingle h) = 1
slot (InThen b) = 1

abbrev pub slots : List Frame → ℕ
slots [] = 1
slots (f ∷ fs) = slot f

-- how a token goes on with an operand
pub data Going : Type 0 where
  AnOp : Op → Going
  ADot : Going
  NoGoing : Going

abbrev pub going : Token → Going
going (Mark mark.Arrow) = AnOp op.Implies
going (Key key.Or) = AnOp op.Or
going (Key key.And) = AnOp op.And
going (Mark mark.Equal) = AnOp op.Eq
going (Mark mark.NotEqual) = AnOp op.Ne
going (Mark mark.Less) = AnOp op.Lt
going (Mark mark.AtMost) = AnOp op.Le
going (Mark mark.Greater) = AnOp op.Gt
going (Mark mark.AtLeast) = AnOp op.Ge
going (Key key.In) = AnOp op.In
going (Mark mark.Plus) = AnOp op.Add
going (Mark mark.Minus) = AnOp op.Sub
going (Mark mark.Star) = AnOp op.Mul
going (Mark mark.Dot) = ADot
going _ = NoGoing

-- the least level of the operand before it; no tree has level 12
abbrev pub left_of : Going → ℕ
left_of (AnOp o) = left_level o
left_of ADot = 9
left_of NoGoing = 12

-- the level of what it makes of an operand of level n
abbrev pub made_of : ℕ → Going → ℕ
made_of n (AnOp o) = op_level o
made_of n ADot = dotted n
made_of n NoGoing = 0

-- whether it goes on with a tree of level n in a hole of level s
abbrev pub goes_by : ℕ → ℕ → Going → Bool
goes_by s n g = nat_le s (made_of n g) && nat_le (left_of g) n

abbrev pub goes : ℕ → ℕ → Token → Bool
goes s n token = goes_by s n (going token)

abbrev pub gone_by : Ground → List Frame → Tree → Going → State
gone_by p fs v (AnOp o) = Need p (InRight o v ∷ fs)
gone_by p fs v ADot = Dotted p fs v
gone_by p fs v NoGoing = Dotted p fs v

abbrev pub gone : Ground → List Frame → Tree → Token → State
gone p fs v token = gone_by p fs v (going token)

abbrev pub ground_ends : Ground → Tree → Corner
ground_ends (Lone h) v = HomeAt (home_with h (Where v))
ground_ends (Inner h es) v = BracesAt h (WithExpr es v)
ground_ends (GoalOf p m) v = HomeAt (Outside (With p (Goal m v)))

abbrev pub ends : Ground → Tree → Token → Option State
ends p v (Mark mark.Semicolon) = Some (At (ground_ends p v))
ends p v _ = None

abbrev pub closes : Ground → List Frame → Tree → Token → Option State
closes p fs v (Mark mark.CloseParen) = Some (Have p fs (Round v))
closes p fs v _ = None

abbrev pub only_if : Bool → State → Option State
only_if b s = cond b (Some s) None

-- the frame of the first body
abbrev pub body_frame : Bool → Tree → Frame
body_frame true h = InFirst h
body_frame false h = InSingle h

abbrev pub body : Tree → Frame
body h = body_frame (semicolons (quant h)) h

abbrev pub over : Ground → List Frame → QuantKind → List ℕ → Tree → Token → Option State
over p fs k w v (Key key.Where) = only_if (may_filter k) (Need p (InFilter (Head k w v) ∷ fs))
over p fs k w v (Mark mark.OpenBrace) = Some (Need p (body (Head k w v) ∷ fs))
over p fs k w v _ = None

abbrev pub filters : Ground → List Frame → Tree → Tree → Token → Option State
filters p fs h v (Mark mark.OpenBrace) = Some (Need p (body (HeadIf h v) ∷ fs))
filters p fs h v _ = None

abbrev pub next : Ground → List Frame → Tree → Token → Option State
next p fs b (Mark mark.Semicolon) = Some (Next p fs b)
next p fs b _ = None

abbrev pub single : Ground → List Frame → Tree → Tree → Token → Option State
single p fs h v (Mark mark.CloseBrace) = Some (Have p fs (Single h v))
single p fs h v _ = None

-- a token behind a whole tree: it goes on with it, or with what is around it
abbrev pub have : List Frame → Ground → Tree → Token → Option State
have [] p v token = cond (goes 1 (level v) token) (Some (gone p [] v token)) (ends p v token)
have (InRight o l ∷ fs) p v token =
    cond (goes (right_level o) (level v) token) (Some (gone p (InRight o l ∷ fs) v token))
    (have fs p (Two o l v) token)
have (InUnder s ∷ fs) p v token =
    cond (goes (sign_level s) (level v) token) (Some (gone p (InUnder s ∷ fs) v token))
    (have fs p (Under s v) token)
have (InRound ∷ fs) p v token =
    cond (goes 1 (level v) token) (Some (gone p (InRound ∷ fs) v token)) (closes p fs v token)
have (InOver k w ∷ fs) p v token =
    cond (goes 11 (level v) token) (Some (gone p (InOver k w ∷ fs) v token)) (over p fs k w v token)
have (InFilter h ∷ fs) p v token =
    cond (goes 1 (level v) token) (Some (gone p (InFilter h ∷ fs) v token)) (filters p fs h v token)
have (InFirst h ∷ fs) p v token =
    cond (goes 1 (level v) token) (Some (gone p (InFirst h ∷ fs) v token))
    (next p fs (First h v) token)
have (InSingle h ∷ fs) p v token =
    cond (goes 1 (level v) token) (Some (gone p (InSingle h ∷ fs) v token)) (single p fs h v token)
have (InThen b ∷ fs) p v token =
    cond (goes 1 (level v) token) (Some (gone p (InThen b ∷ fs) v token))
    (next p fs (Then b v) token)

abbrev pub where_room : ℕ → ℕ → State → Option State
where_room l most s = only_if (nat_le l most) s

-- a token where an operand is wanted
abbrev pub need_by : Ground → List Frame → Token → Begin → Option State
need_by p fs token ALeaf = where_room (slots fs) (leaf_level token) (Have p fs (Leaf token))
need_by p fs token (ASign s) = where_room (slots fs) (sign_level s) (Need p (InUnder s ∷ fs))
need_by p fs token AParen = where_room (slots fs) 10 (Need p (InRound ∷ fs))
need_by p fs token (AQuant k) = where_room (slots fs) 10 (VarAt p fs k)
need_by p fs token NoBegin = None

abbrev pub need : Ground → List Frame → Token → Option State
need p fs token = need_by p fs token (begin_by token)

abbrev pub dot_name : Ground → List Frame → Tree → Token → Option State
dot_name p fs v (Word w) = Some (Have p fs (Dot v w))
dot_name p fs v _ = None

abbrev pub var_name : Ground → List Frame → QuantKind → Token → Option State
var_name p fs k (Word w) = Some (NamedAt p fs k w)
var_name p fs k _ = None

abbrev pub in_path : Ground → List Frame → QuantKind → List ℕ → Token → Option State
in_path p fs k w (Key key.In) = Some (Need p (InOver k w ∷ fs))
in_path p fs k w _ = None

-- whether a token closes braces
pub data Closing : Type 0 where
  Closes : Closing
  Other : Closing

abbrev pub closing : Token → Closing
closing (Mark mark.CloseBrace) = Closes
closing _ = Other

abbrev pub again_by : Ground → List Frame → Tree → Token → Closing → Option State
again_by p fs b token Closes = only_if (may_end (quant b) (bodies b)) (Have p fs (Many b))
again_by p fs b token Other =
    cond (may_more (quant b) (bodies b)) (need p (InThen b ∷ fs) token) None

abbrev pub again : Ground → List Frame → Tree → Token → Option State
again p fs b token = again_by p fs b token (closing token)

-- Declarations

abbrev pub home_done : Home → Program
home_done (Outside p) = p
home_done (InClass p a w o ms) = With p (Class a w o ms)

abbrev pub top_step : Program → Token → Option State
top_step p (Key key.Enum) = Some (line (EnumLine p))
top_step p (Key key.Abstract) = Some (line (AbstractLine p))
top_step p (Key key.Class) = Some (line (ClassLine p))
top_step p (Key key.Var) = Some (line (VarLine (Outside p)))
top_step p (Key key.Where) = Some (At (WhereAt (Outside p)))
top_step p (Key key.Maximize) = Some (Need (GoalOf p true) [])
top_step p (Key key.Minimize) = Some (Need (GoalOf p false) [])
top_step p _ = None

abbrev pub class_step : Home → Token → Option State
class_step h (Key key.Var) = Some (line (VarLine h))
class_step h (Key key.Where) = Some (At (WhereAt h))
class_step h (Mark mark.CloseBrace) = Some (At (HomeAt (Outside (home_done h))))
class_step h _ = None

abbrev pub home_step : Home → Token → Option State
home_step (Outside p) token = top_step p token
home_step (InClass p a w o ms) token = class_step (InClass p a w o ms) token

abbrev pub enum_step : Program → List ℕ → Values → Token → Option State
enum_step p w vs (Mark mark.Comma) = Some (line (ValueLine p w vs))
enum_step p w vs (Mark mark.CloseBrace) = Some (At (HomeAt (Outside (With p (Enum w vs)))))
enum_step p w vs _ = None

abbrev pub head_step : Program → Bool → List ℕ → Token → Option State
head_step p a w (Key key.Extends) = Some (line (ParentLine p a w))
head_step p a w (Mark mark.OpenBrace) = Some (At (HomeAt (InClass p a w None NoMember)))
head_step p a w _ = None

abbrev pub shape_step : Home → List ℕ → Token → Option State
shape_step h w (Number n) = Some (line (DotsLine h w n))
shape_step h w (Mark mark.Minus) = Some (line (LowLine h w))
shape_step h w (Key key.Int) = Some (line (EndLine h w Int))
shape_step h w (Key key.Bool) = Some (line (EndLine h w Truth))
shape_step h w (Word v) = Some (At (CountAt h w false v))
shape_step h w (Key key.Ref) = Some (line (RefLine h w))
shape_step h w _ = None

abbrev pub high_step : Home → List ℕ → End → Token → Option State
high_step h w low (Number n) = Some (line (EndLine h w (Range low (EndOf false n))))
high_step h w low (Mark mark.Minus) = Some (line (HighLine h w low))
high_step h w low _ = None

abbrev pub count_step : Home → List ℕ → Bool → List ℕ → Token → Option State
count_step h w r v (Mark mark.Semicolon) = Some (At (HomeAt (home_with h (Var w (Named r v)))))
count_step h w r v (Mark mark.OpenBracket) = Some (line (CountLine h w r v))
count_step h w r v _ = None

abbrev pub where_step : Home → Token → Option State
where_step h (Mark mark.OpenBrace) = Some (At (BracesAt h NoExpr))
where_step h token = need (Lone h) [] token

abbrev pub braces_by : Home → Exprs → Token → Closing → Option State
braces_by h es token Closes = Some (At (HomeAt (home_with h (Braces es))))
braces_by h es token Other = need (Inner h es) [] token

abbrev pub corner_step : Corner → Token → Option State
corner_step (HomeAt h) token = home_step h token
corner_step (Enums p w vs) token = enum_step p w vs token
corner_step (ClassHead p a w) token = head_step p a w token
corner_step (ShapeAt h w) token = shape_step h w token
corner_step (HighAt h w low) token = high_step h w low token
corner_step (CountAt h w r v) token = count_step h w r v token
corner_step (WhereAt h) token = where_step h token
corner_step (BracesAt h es) token = braces_by h es token (closing token)

abbrev pub step : State → Token → Option State
step (At c) token = corner_step c token
step (Row ws read l) token = row_step ws read l token
step (Need p fs) token = need p fs token
step (Have p fs v) token = have fs p v token
step (Dotted p fs v) token = dot_name p fs v token
step (VarAt p fs k) token = var_name p fs k token
step (NamedAt p fs k w) token = in_path p fs k w token
step (Next p fs b) token = again p fs b token

-- Reading: the program, or the tokens that are left at the refused place

-- the least tree
abbrev pub hole : Tree
hole = Leaf (Word word)

-- how many bodies are missing
abbrev pub missing : QuantKind → ℕ → ℕ
missing kind.Pack n = 3 - n
missing kind.Forall n = 0
missing kind.Exists n = 0
missing kind.Sum n = 0
missing kind.Count n = 0
missing kind.AllDifferent n = 0

abbrev pub fill : ℕ → Tree → Tree
fill zero b = b
fill (suc n) b = fill n (Then b hole)

-- the bodies with the missing ones, closed
abbrev pub filled : Tree → Tree
filled b = Many (fill (missing (quant b) (bodies b)) b)

abbrev pub opened_by : Bool → Tree → Tree → Tree
opened_by true h v = filled (First h v)
opened_by false h v = Single h v

-- the least quantifier with a head and its first body
abbrev pub opened : Tree → Tree → Tree
opened h v = opened_by (semicolons (quant h)) h v

abbrev pub ground_done : Ground → Tree → Program
ground_done (Lone h) v = home_done (home_with h (Where v))
ground_done (Inner h es) v = home_done (home_with h (Braces (WithExpr es v)))
ground_done (GoalOf p m) v = With p (Goal m v)

-- the least program with a tree in the hole
abbrev pub close : List Frame → Ground → Tree → Program
close [] p v = ground_done p v
close (InRight o l ∷ fs) p v = close fs p (Two o l v)
close (InUnder s ∷ fs) p v = close fs p (Under s v)
close (InRound ∷ fs) p v = close fs p (Round v)
close (InOver k w ∷ fs) p v = close fs p (opened (Head k w v) hole)
close (InFilter h ∷ fs) p v = close fs p (opened (HeadIf h v) hole)
close (InFirst h ∷ fs) p v = close fs p (filled (First h v))
close (InSingle h ∷ fs) p v = close fs p (Single h v)
close (InThen b ∷ fs) p v = close fs p (filled (Then b v))

abbrev pub corner_done : Corner → Program
corner_done (HomeAt h) = home_done h
corner_done (Enums p w vs) = With p (Enum w vs)
corner_done (ClassHead p a w) = With p (Class a w None NoMember)
corner_done (ShapeAt h w) = home_done (home_with h (Var w Int))
corner_done (HighAt h w low) = home_done (home_with h (Var w (Range low (EndOf false 0))))
corner_done (CountAt h w r v) = home_done (home_with h (Var w (Named r v)))
corner_done (WhereAt h) = home_done (home_with h (Braces NoExpr))
corner_done (BracesAt h es) = home_done (home_with h (Braces es))

-- the least program that begins with what was read
abbrev pub completed : State → Program
completed (At c) = corner_done c
completed (Row ws read l) = corner_done (arrive l (read ++ leasts ws))
completed (Need p fs) = close fs p hole
completed (Have p fs v) = close fs p v
completed (Dotted p fs v) = close fs p (Dot v word)
completed (VarAt p fs k) = close fs p (opened (Head k word hole) hole)
completed (NamedAt p fs k w) = close fs p (opened (Head k w hole) hole)
completed (Next p fs b) = close fs p (filled b)

pub data Outcome : Type 0 where
  Whole : Program → Outcome
  Wrong : List Token → Outcome
  Deep : List Token → Outcome

abbrev pub home_ended : Home → Outcome
home_ended (Outside p) = Whole p
home_ended (InClass p a w o ms) = Wrong []

abbrev pub ended : State → Outcome
ended (At (HomeAt h)) = home_ended h
ended _ = Wrong []

abbrev pub onward : ℕ → Option State → List Token → (State → Outcome) → Outcome
onward most None tokens go = Wrong tokens
onward most (Some s) tokens go = cond (nat_le (nesting (completed s)) most) (go s) (Deep tokens)

abbrev pub reading : List Token → ℕ → State → Outcome
reading [] most s = ended s
reading (token ∷ rest) most s =
    onward most (step s token) (token ∷ rest) (λ s'. reading rest most s')

-- where the tokens lead, whatever the nesting
abbrev pub onto : Option State → (State → Option State) → Option State
onto None go = None
onto (Some s) go = go s

abbrev pub run : List Token → State → Option State
run [] s = Some s
run (token ∷ rest) s = onto (step s token) (λ s'. run rest s')

abbrev pub start : State
start = At (HomeAt (Outside Empty))
