-- Plain trees: the trees of models with neither pointers nor places. Their tokens, their grammar
-- and their nesting are those of Trees.antt, said once more for trees of any size; `Views` says
-- which plain tree a tree of the program is.
use Rattle.std.specs.Prelude.{◌≡◌, ◌≤◌, ◌+◌, ◌*◌, ◌-◌, ℕ, max, nat_le, Bool, true, false, ◌==◌, List, [], ◌∷◌, ◌++◌, Option, None, Some}
use Rattle.conf_syntax.specs.declared.token.Key.TheVariants as key
use Rattle.conf_syntax.specs.declared.token.Mark.TheVariants as mark
use Rattle.conf_syntax.specs.declared.token.Token.{Token}
use Rattle.conf_syntax.specs.declared.token.Token.TheVariants.{Word, Number, Key, Mark}
use Rattle.conf_syntax.specs.declared.tree.Op.{Op}
use Rattle.conf_syntax.specs.declared.tree.Op.TheVariants as op
use Rattle.conf_syntax.specs.declared.tree.QuantKind.{QuantKind}
use Rattle.conf_syntax.specs.declared.tree.QuantKind.TheVariants as kind
use Rattle.conf_syntax.specs.OnlyIf.{only_if}
use Rattle.conf_syntax.specs.Trees.{op_token, kind_token, count_tokens, goal_key, op_level, left_level, may_filter}

-- Expressions

-- an operator before its operand
pub data Sign : Type 0 where
  Negative : Sign
  Negation : Sign

-- Expressions, and the parts of a quantifier, each of which holds the part before it: its head, the
-- head with its filter, and so many bodies with their semicolons. `Many` closes bodies, `Single` is
-- a quantifier whose one body has no semicolon.
pub data Tree : Type 0 where
  Leaf : Token → Tree
  Round : Tree → Tree
  Dot : Tree → List ℕ → Tree
  Under : Sign → Tree → Tree
  Two : Op → Tree → Tree → Tree
  Many : Tree → Tree
  Single : Tree → Tree → Tree
  Head : QuantKind → List ℕ → Tree → Tree
  HeadIf : Tree → Tree → Tree
  First : Tree → Tree → Tree
  Then : Tree → Tree → Tree

-- how a token begins an operand
pub data Begin : Type 0 where
  ALeaf : Begin
  ASign : Sign → Begin
  AParen : Begin
  AQuant : QuantKind → Begin
  NoBegin : Begin

abbrev pub begin_by : Token → Begin
begin_by (Number n) = ALeaf
begin_by (Word w) = ALeaf
begin_by (Key key.True) = ALeaf
begin_by (Key key.False) = ALeaf
begin_by (Key key.This) = ALeaf
begin_by (Mark mark.Minus) = ASign Negative
begin_by (Key key.Not) = ASign Negation
begin_by (Mark mark.OpenParen) = AParen
begin_by (Key key.Forall) = AQuant kind.Forall
begin_by (Key key.Exists) = AQuant kind.Exists
begin_by (Key key.Sum) = AQuant kind.Sum
begin_by (Key key.Count) = AQuant kind.Count
begin_by (Key key.AllDifferent) = AQuant kind.AllDifferent
begin_by (Key key.Pack) = AQuant kind.Pack
begin_by _ = NoBegin

abbrev pub sign_token : Sign → Token
sign_token Negative = Mark mark.Minus
sign_token Negation = Key key.Not

abbrev pub sign_level : Sign → ℕ
sign_level Negative = 8
sign_level Negation = 4

-- the least level of the right operand; a path has level 11
abbrev pub right_level : Op → ℕ
right_level op.Implies = 1
right_level op.Or = 3
right_level op.And = 4
right_level op.In = 11
right_level op.Add = 7
right_level op.Sub = 7
right_level op.Mul = 8
right_level other = 6

-- `this` and words begin paths
abbrev pub leaf_level : Token → ℕ
leaf_level (Word w) = 11
leaf_level (Key key.This) = 11
leaf_level _ = 10

-- a path goes on as a path, all else as `.name`
abbrev pub dotted : ℕ → ℕ
dotted n = 9 + 2 * (n - 10)

abbrev pub level : Tree → ℕ
level (Leaf t) = leaf_level t
level (Dot e w) = dotted (level e)
level (Under s e) = sign_level s
level (Two o l r) = op_level o
level other = 10

-- 0 for an expression, 1 and 2 for a head, 3 for bodies
abbrev pub part : Tree → ℕ
part (Head k w v) = 1
part (HeadIf h f) = 2
part (First h e) = 3
part (Then b e) = 3
part other = 0

-- the kind of the quantifier of a part
abbrev pub quant : Tree → QuantKind
quant (Head k w v) = k
quant (HeadIf h f) = quant h
quant (First h e) = quant h
quant (Then b e) = quant b
quant other = kind.Forall

-- how many bodies there are
abbrev pub bodies : Tree → ℕ
bodies (Then b e) = 1 + bodies b
bodies (First h e) = 1
bodies other = 0

-- whether bodies end with semicolons
abbrev pub semicolons : QuantKind → Bool
semicolons kind.Sum = false
semicolons kind.Count = false
semicolons kind.AllDifferent = false
semicolons other = true

-- whether one more body may follow so many
abbrev pub may_more : QuantKind → ℕ → Bool
may_more kind.Pack n = nat_le n 2
may_more kind.Forall n = true
may_more kind.Exists n = true
may_more other n = false

-- whether so many bodies, at least one, are enough
abbrev pub may_end : QuantKind → ℕ → Bool
may_end kind.Pack n = n == 3
may_end other n = true

abbrev pub tokens_of : Tree → List Token
tokens_of (Leaf t) = t ∷ []
tokens_of (Round e) = Mark mark.OpenParen ∷ (tokens_of e ++ (Mark mark.CloseParen ∷ []))
tokens_of (Dot e w) = tokens_of e ++ (Mark mark.Dot ∷ Word w ∷ [])
tokens_of (Under s e) = sign_token s ∷ tokens_of e
tokens_of (Two o l r) = tokens_of l ++ (op_token o ∷ tokens_of r)
tokens_of (Many b) = tokens_of b ++ (Mark mark.CloseBrace ∷ [])
tokens_of (Single h e) =
    tokens_of h ++ (Mark mark.OpenBrace ∷ (tokens_of e ++ (Mark mark.CloseBrace ∷ [])))
tokens_of (Head k w v) = kind_token k ∷ Word w ∷ Key key.In ∷ tokens_of v
tokens_of (HeadIf h f) = tokens_of h ++ (Key key.Where ∷ tokens_of f)
tokens_of (First h e) =
    tokens_of h ++ (Mark mark.OpenBrace ∷ (tokens_of e ++ (Mark mark.Semicolon ∷ [])))
tokens_of (Then b e) = tokens_of b ++ (tokens_of e ++ (Mark mark.Semicolon ∷ []))

-- an expression of at least a level
abbrev pub IsAt : ℕ → Tree → Type 0
IsAt n e = (part e ≡ 0) × (n ≤ level e)

-- the head of a quantifier, with or without a filter
abbrev pub IsHead : Tree → Type 0
IsHead h = (1 ≤ part h) × (part h ≤ 2)

-- the grammar
abbrev pub IsGood : Tree → Type 0
IsGood (Leaf t) = begin_by t ≡ ALeaf
IsGood (Round e) = IsGood e × IsAt 1 e
IsGood (Dot e w) = IsGood e × IsAt 9 e
IsGood (Under s e) = IsGood e × IsAt (sign_level s) e
IsGood (Two o l r) = IsGood l × IsGood r × IsAt (left_level o) l × IsAt (right_level o) r
IsGood (Many b) = IsGood b × (part b ≡ 3) × (may_end (quant b) (bodies b) ≡ true)
IsGood (Single h e) = IsGood h × IsGood e × IsHead h × IsAt 1 e × (semicolons (quant h) ≡ false)
IsGood (Head k w v) = IsGood v × IsAt 11 v
IsGood (HeadIf h f) = IsGood h × IsGood f × (part h ≡ 1) × IsAt 1 f × (may_filter (quant h) ≡ true)
IsGood (First h e) = IsGood h × IsGood e × IsHead h × IsAt 1 e × (semicolons (quant h) ≡ true)
IsGood (Then b e) =
    IsGood b × IsGood e × (part b ≡ 3) × IsAt 1 e × (may_more (quant b) (bodies b) ≡ true)

-- a leaf is 1, each node above it adds 1
abbrev pub nest : Tree → ℕ
nest (Leaf t) = 1
nest (Round e) = 1 + nest e
nest (Dot e w) = 1 + nest e
nest (Under s e) = 1 + nest e
nest (Two o l r) = 1 + max (nest l) (nest r)
nest (Many b) = 1 + nest b
nest (Single h e) = 1 + max (nest h) (nest e)
nest (Head k w v) = nest v
nest (HeadIf h f) = max (nest h) (nest f)
nest (First h e) = max (nest h) (nest e)
nest (Then b e) = max (nest b) (nest e)

-- Declarations; each list holds the list before its last element

-- an end of a range
pub data End : Type 0 where
  EndOf : Bool → ℕ → End

pub data Shape : Type 0 where
  Range : End → End → Shape
  Int : Shape
  Truth : Shape
  Named : Bool → List ℕ → Shape
  Counted : Bool → List ℕ → ℕ → Shape

pub data Values : Type 0 where
  OneValue : List ℕ → Values
  WithValue : Values → List ℕ → Values

pub data Exprs : Type 0 where
  NoExpr : Exprs
  WithExpr : Exprs → Tree → Exprs

pub data Member : Type 0 where
  Var : List ℕ → Shape → Member
  Where : Tree → Member
  Braces : Exprs → Member

pub data Members : Type 0 where
  NoMember : Members
  WithMember : Members → Member → Members

pub data Item : Type 0 where
  Enum : List ℕ → Values → Item
  Class : Bool → List ℕ → Option (List ℕ) → Members → Item
  Alone : Member → Item
  Goal : Bool → Tree → Item

pub data Program : Type 0 where
  Empty : Program
  With : Program → Item → Program

abbrev pub end_tokens : End → List Token
end_tokens (EndOf m n) = only_if m (Mark mark.Minus) ++ (Number n ∷ [])

abbrev pub ref_tokens : Bool → List Token
ref_tokens true = Key key.Ref ∷ []
ref_tokens false = []

abbrev pub shape_tokens : Shape → List Token
shape_tokens (Range low high) = end_tokens low ++ (Mark mark.DotDot ∷ end_tokens high)
shape_tokens Int = Key key.Int ∷ []
shape_tokens Truth = Key key.Bool ∷ []
shape_tokens (Named r w) = ref_tokens r ++ (Word w ∷ [])
shape_tokens (Counted r w n) = ref_tokens r ++ (Word w ∷ count_tokens n)

abbrev pub values_tokens : Values → List Token
values_tokens (OneValue w) = Word w ∷ []
values_tokens (WithValue vs w) = values_tokens vs ++ (Mark mark.Comma ∷ Word w ∷ [])

abbrev pub exprs_tokens : Exprs → List Token
exprs_tokens NoExpr = []
exprs_tokens (WithExpr es e) = exprs_tokens es ++ (tokens_of e ++ (Mark mark.Semicolon ∷ []))

abbrev pub member_tokens : Member → List Token
member_tokens (Var w s) =
    Key key.Var ∷ Word w ∷ Key key.As ∷ (shape_tokens s ++ (Mark mark.Semicolon ∷ []))
member_tokens (Where e) = Key key.Where ∷ (tokens_of e ++ (Mark mark.Semicolon ∷ []))
member_tokens (Braces es) =
    Key key.Where ∷ Mark mark.OpenBrace ∷ (exprs_tokens es ++ (Mark mark.CloseBrace ∷ []))

abbrev pub members_tokens : Members → List Token
members_tokens NoMember = []
members_tokens (WithMember ms m) = members_tokens ms ++ member_tokens m

abbrev pub parent_tokens : Option (List ℕ) → List Token
parent_tokens None = []
parent_tokens (Some w) = Key key.Extends ∷ Word w ∷ []

-- a class up to its opening brace
abbrev pub class_tokens : Bool → List ℕ → Option (List ℕ) → List Token
class_tokens a w o =
    only_if a (Key key.Abstract)
    ++ (Key key.Class ∷ Word w ∷ (parent_tokens o ++ (Mark mark.OpenBrace ∷ [])))

abbrev pub item_tokens : Item → List Token
item_tokens (Enum w vs) =
    Key key.Enum ∷ Word w ∷ Mark mark.OpenBrace ∷ (values_tokens vs ++ (Mark mark.CloseBrace ∷ []))
item_tokens (Class a w o ms) =
    class_tokens a w o ++ (members_tokens ms ++ (Mark mark.CloseBrace ∷ []))
item_tokens (Alone m) = member_tokens m
item_tokens (Goal m e) = goal_key m ∷ (tokens_of e ++ (Mark mark.Semicolon ∷ []))

abbrev pub program_tokens : Program → List Token
program_tokens Empty = []
program_tokens (With p i) = program_tokens p ++ item_tokens i

abbrev pub IsExpr : Tree → Type 0
IsExpr e = IsGood e × IsAt 1 e

abbrev pub AreExprs : Exprs → Type 0
AreExprs NoExpr = Unit {0}
AreExprs (WithExpr es e) = AreExprs es × IsExpr e

abbrev pub IsMember : Member → Type 0
IsMember (Var w s) = Unit {0}
IsMember (Where e) = IsExpr e
IsMember (Braces es) = AreExprs es

abbrev pub AreMembers : Members → Type 0
AreMembers NoMember = Unit {0}
AreMembers (WithMember ms m) = AreMembers ms × IsMember m

abbrev pub IsItem : Item → Type 0
IsItem (Enum w vs) = Unit {0}
IsItem (Class a w o ms) = AreMembers ms
IsItem (Alone m) = IsMember m
IsItem (Goal m e) = IsExpr e

abbrev pub IsProgram : Program → Type 0
IsProgram Empty = Unit {0}
IsProgram (With p i) = IsProgram p × IsItem i

abbrev pub exprs_nest : Exprs → ℕ
exprs_nest NoExpr = 0
exprs_nest (WithExpr es e) = max (exprs_nest es) (nest e)

abbrev pub member_nest : Member → ℕ
member_nest (Var w s) = 0
member_nest (Where e) = nest e
member_nest (Braces es) = exprs_nest es

abbrev pub members_nest : Members → ℕ
members_nest NoMember = 0
members_nest (WithMember ms m) = max (members_nest ms) (member_nest m)

abbrev pub item_nest : Item → ℕ
item_nest (Enum w vs) = 0
item_nest (Class a w o ms) = members_nest ms
item_nest (Alone m) = member_nest m
item_nest (Goal m e) = nest e

-- the depth of the deepest expression
abbrev pub nesting : Program → ℕ
nesting Empty = 0
nesting (With p i) = max (nesting p) (item_nest i)
