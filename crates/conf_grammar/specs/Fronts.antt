-- What was read in a state of the machine, what completes it, and what fits together in it.
use Rattle.std.specs.Prelude.{◌≡◌, ◌≤◌, ◌+◌, ℕ, zero, suc, List, [], ◌∷◌, ◌++◌, Bool, true, false, Option, None, Some}
use Rattle.conf_syntax.specs.declared.token.Key.TheVariants as key
use Rattle.conf_syntax.specs.declared.token.Mark.TheVariants as mark
use Rattle.conf_syntax.specs.declared.token.Token.{Token}
use Rattle.conf_syntax.specs.declared.token.Token.TheVariants.{Word, Number, Key, Mark}
use Rattle.conf_syntax.specs.declared.tree.QuantKind.{QuantKind}
use Rattle.conf_syntax.specs.Trees.{op_token, kind_token, goal_key, op_level, left_level, may_filter}
use Rattle.conf_syntax.specs.Plain.{sign_token, sign_level, dotted, level, part, quant, bodies, semicolons, may_more, tokens_of, IsAt, IsHead, IsGood, end_tokens, ref_tokens, shape_tokens, values_tokens, exprs_tokens, members_tokens, class_tokens, Program, program_tokens, AreExprs, AreMembers, IsProgram, nesting}
use Rattle.conf_syntax.specs.Begun.{IsBegunIn, IsRefused, IsTooDeep, IsProgramIn}
use Rattle.conf_syntax.specs.OnlyIf.{only_if}
use Rattle.conf_grammar.specs.declared.piece.Piece.{Piece}
use Rattle.conf_grammar.specs.Machine.{Home, Outside, InClass, Ground, Lone, Inner, GoalOf, Corner, HomeAt, Enums, ClassHead, ShapeAt, HighAt, CountAt, WhereAt, BracesAt, Line, EnumLine, ValueLine, AbstractLine, ClassLine, ParentLine, VarLine, LowLine, DotsLine, HighLine, EndLine, RefLine, CountLine, Frame, InRight, InUnder, InRound, InOver, InFilter, InFirst, InSingle, InThen, State, At, Row, Need, Have, Dotted, VarAt, NamedAt, Next, takes_all, word, leasts, arrive, slots, home_done, missing, corner_done, completed, Outcome, Whole, Wrong, Deep}

abbrev pub home_front : Home → List Token
home_front (Outside p) = program_tokens p
home_front (InClass p a w o ms) = program_tokens p ++ (class_tokens a w o ++ members_tokens ms)

abbrev pub home_back : Home → List Token
home_back (Outside p) = []
home_back (InClass p a w o ms) = Mark mark.CloseBrace ∷ []

abbrev pub IsHome : Home → Type 0
IsHome (Outside p) = IsProgram p
IsHome (InClass p a w o ms) = IsProgram p × AreMembers ms

abbrev pub ground_front : Ground → List Token
ground_front (Lone h) = home_front h ++ (Key key.Where ∷ [])
ground_front (Inner h es) = home_front h ++ (Key key.Where ∷ Mark mark.OpenBrace ∷ exprs_tokens es)
ground_front (GoalOf p m) = program_tokens p ++ (goal_key m ∷ [])

abbrev pub ground_back : Ground → List Token
ground_back (Lone h) = Mark mark.Semicolon ∷ home_back h
ground_back (Inner h es) = Mark mark.Semicolon ∷ Mark mark.CloseBrace ∷ home_back h
ground_back (GoalOf p m) = Mark mark.Semicolon ∷ []

abbrev pub IsGround : Ground → Type 0
IsGround (Lone h) = IsHome h
IsGround (Inner h es) = IsHome h × AreExprs es
IsGround (GoalOf p m) = IsProgram p

abbrev pub corner_front : Corner → List Token
corner_front (HomeAt h) = home_front h
corner_front (Enums p w vs) =
    program_tokens p ++ (Key key.Enum ∷ Word w ∷ Mark mark.OpenBrace ∷ values_tokens vs)
corner_front (ClassHead p a w) =
    program_tokens p ++ (only_if a (Key key.Abstract) ++ (Key key.Class ∷ Word w ∷ []))
corner_front (ShapeAt h w) = home_front h ++ (Key key.Var ∷ Word w ∷ Key key.As ∷ [])
corner_front (HighAt h w low) =
    home_front h ++ (Key key.Var ∷ Word w ∷ Key key.As ∷ (end_tokens low
    ++ (Mark mark.DotDot ∷ [])))
corner_front (CountAt h w r v) =
    home_front h ++ (Key key.Var ∷ Word w ∷ Key key.As ∷ (ref_tokens r ++ (Word v ∷ [])))
corner_front (WhereAt h) = home_front h ++ (Key key.Where ∷ [])
corner_front (BracesAt h es) =
    home_front h ++ (Key key.Where ∷ Mark mark.OpenBrace ∷ exprs_tokens es)

abbrev pub corner_back : Corner → List Token
corner_back (HomeAt h) = home_back h
corner_back (Enums p w vs) = Mark mark.CloseBrace ∷ []
corner_back (ClassHead p a w) = Mark mark.OpenBrace ∷ Mark mark.CloseBrace ∷ []
corner_back (ShapeAt h w) = Key key.Int ∷ Mark mark.Semicolon ∷ home_back h
corner_back (HighAt h w low) = Number 0 ∷ Mark mark.Semicolon ∷ home_back h
corner_back (CountAt h w r v) = Mark mark.Semicolon ∷ home_back h
corner_back (WhereAt h) = Mark mark.OpenBrace ∷ Mark mark.CloseBrace ∷ home_back h
corner_back (BracesAt h es) = Mark mark.CloseBrace ∷ home_back h

abbrev pub IsCorner : Corner → Type 0
IsCorner (HomeAt h) = IsHome h
IsCorner (Enums p w vs) = IsProgram p
IsCorner (ClassHead p a w) = IsProgram p
IsCorner (ShapeAt h w) = IsHome h
IsCorner (HighAt h w low) = IsHome h
IsCorner (CountAt h w r v) = IsHome h
IsCorner (WhereAt h) = IsHome h
IsCorner (BracesAt h es) = IsHome h × AreExprs es

-- what stands before a row
abbrev pub line_front : Line → List Token
line_front (EnumLine p) = program_tokens p ++ (Key key.Enum ∷ [])
line_front (ValueLine p w vs) =
    program_tokens p ++ (Key key.Enum ∷ Word w ∷ Mark mark.OpenBrace ∷ (values_tokens vs
    ++ (Mark mark.Comma ∷ [])))
line_front (AbstractLine p) = program_tokens p ++ (Key key.Abstract ∷ [])
line_front (ClassLine p) = program_tokens p ++ (Key key.Class ∷ [])
line_front (ParentLine p a w) =
    program_tokens p ++ (only_if a (Key key.Abstract)
    ++ (Key key.Class ∷ Word w ∷ Key key.Extends ∷ []))
line_front (VarLine h) = home_front h ++ (Key key.Var ∷ [])
line_front (LowLine h w) =
    home_front h ++ (Key key.Var ∷ Word w ∷ Key key.As ∷ Mark mark.Minus ∷ [])
line_front (DotsLine h w n) = home_front h ++ (Key key.Var ∷ Word w ∷ Key key.As ∷ Number n ∷ [])
line_front (HighLine h w low) =
    home_front h ++ (Key key.Var ∷ Word w ∷ Key key.As ∷ (end_tokens low
    ++ (Mark mark.DotDot ∷ Mark mark.Minus ∷ [])))
line_front (EndLine h w s) = home_front h ++ (Key key.Var ∷ Word w ∷ Key key.As ∷ shape_tokens s)
line_front (RefLine h w) = home_front h ++ (Key key.Var ∷ Word w ∷ Key key.As ∷ Key key.Ref ∷ [])
line_front (CountLine h w r v) =
    home_front h ++ (Key key.Var ∷ Word w ∷ Key key.As ∷ (ref_tokens r
    ++ (Word v ∷ Mark mark.OpenBracket ∷ [])))

-- the program that stands around a row
abbrev pub line_done : Line → Program
line_done (EnumLine p) = p
line_done (ValueLine p w vs) = p
line_done (AbstractLine p) = p
line_done (ClassLine p) = p
line_done (ParentLine p a w) = p
line_done (VarLine h) = home_done h
line_done (LowLine h w) = home_done h
line_done (DotsLine h w n) = home_done h
line_done (HighLine h w low) = home_done h
line_done (EndLine h w s) = home_done h
line_done (RefLine h w) = home_done h
line_done (CountLine h w r v) = home_done h

-- a corner that a row of tokens leads to
abbrev pub IsArrival : List Token → ℕ → Corner → Type 0
IsArrival tokens n c = (corner_front c ≡ tokens) × (nesting (corner_done c) ≡ n) × IsCorner c

-- whatever the wanted pieces are, the row leads to its corner
abbrev pub IsRow : List Piece → List Token → Line → Type 0
IsRow ws read l =
    (ts : List Token) → takes_all ws ts ≡ true → IsArrival (line_front l ++ (read ++ ts))
    (nesting (line_done l)) (arrive l (read ++ ts))

-- the tokens that were read before the hole
abbrev pub front_of : Frame → List Token
front_of (InRight o l) = tokens_of l ++ (op_token o ∷ [])
front_of (InUnder s) = sign_token s ∷ []
front_of InRound = Mark mark.OpenParen ∷ []
front_of (InOver k w) = kind_token k ∷ Word w ∷ Key key.In ∷ []
front_of (InFilter h) = tokens_of h ++ (Key key.Where ∷ [])
front_of (InFirst h) = tokens_of h ++ (Mark mark.OpenBrace ∷ [])
front_of (InSingle h) = tokens_of h ++ (Mark mark.OpenBrace ∷ [])
front_of (InThen b) = tokens_of b

abbrev pub before : List Frame → Ground → List Token
before [] p = ground_front p
before (f ∷ fs) p = before fs p ++ front_of f

abbrev pub front : State → List Token
front (At c) = corner_front c
front (Row ws read l) = line_front l ++ read
front (Need p fs) = before fs p
front (Have p fs v) = before fs p ++ tokens_of v
front (Dotted p fs v) = before fs p ++ (tokens_of v ++ (Mark mark.Dot ∷ []))
front (VarAt p fs k) = before fs p ++ (kind_token k ∷ [])
front (NamedAt p fs k w) = before fs p ++ (kind_token k ∷ Word w ∷ [])
front (Next p fs b) = before fs p ++ tokens_of b

-- the level of a frame's tree
abbrev pub result : Frame → ℕ
result (InRight o l) = op_level o
result (InUnder s) = sign_level s
result InRound = 10
result (InOver k w) = 10
result (InFilter h) = 10
result (InFirst h) = 10
result (InSingle h) = 10
result (InThen b) = 10

abbrev pub IsFrame : Frame → Type 0
IsFrame (InRight o l) = IsGood l × IsAt (left_level o) l
IsFrame (InUnder s) = Unit {0}
IsFrame InRound = Unit {0}
IsFrame (InOver k w) = Unit {0}
IsFrame (InFilter h) = IsGood h × (part h ≡ 1) × (may_filter (quant h) ≡ true)
IsFrame (InFirst h) = IsGood h × IsHead h × (semicolons (quant h) ≡ true)
IsFrame (InSingle h) = IsGood h × IsHead h × (semicolons (quant h) ≡ false)
IsFrame (InThen b) = IsGood b × (part b ≡ 3) × (may_more (quant b) (bodies b) ≡ true)

abbrev pub AreFrames : List Frame → Ground → Type 0
AreFrames [] p = IsGround p
AreFrames (f ∷ fs) p = AreFrames fs p × (slots fs ≤ result f) × IsFrame f

abbrev pub IsState : State → Type 0
IsState (At c) = IsCorner c
IsState (Row ws read l) = IsRow ws read l
IsState (Need p fs) = AreFrames fs p
IsState (Have p fs v) = AreFrames fs p × IsGood v × IsAt (slots fs) v
IsState (Dotted p fs v) = AreFrames fs p × IsGood v × IsAt 9 v × (slots fs ≤ dotted (level v))
IsState (VarAt p fs k) = AreFrames fs p × (slots fs ≤ 10)
IsState (NamedAt p fs k w) = AreFrames fs p × (slots fs ≤ 10)
IsState (Next p fs b) = AreFrames fs p × (slots fs ≤ 10) × IsGood b × (part b ≡ 3)

-- the tokens that complete what was read

abbrev pub fills : ℕ → List Token
fills zero = []
fills (suc n) = Word word ∷ Mark mark.Semicolon ∷ fills n

-- behind so many bodies
abbrev pub closing_of : QuantKind → ℕ → List Token
closing_of k n = fills (missing k n) ++ (Mark mark.CloseBrace ∷ [])

abbrev pub opened_back_by : Bool → QuantKind → List Token
opened_back_by true k = Mark mark.Semicolon ∷ closing_of k 1
opened_back_by false k = Mark mark.CloseBrace ∷ []

-- behind a first body
abbrev pub opened_back : QuantKind → List Token
opened_back k = opened_back_by (semicolons k) k

abbrev pub after_of : Frame → List Token
after_of (InRight o l) = []
after_of (InUnder s) = []
after_of InRound = Mark mark.CloseParen ∷ []
after_of (InOver k w) = Mark mark.OpenBrace ∷ Word word ∷ opened_back k
after_of (InFilter h) = Mark mark.OpenBrace ∷ Word word ∷ opened_back (quant h)
after_of (InFirst h) = Mark mark.Semicolon ∷ closing_of (quant h) 1
after_of (InSingle h) = Mark mark.CloseBrace ∷ []
after_of (InThen b) = Mark mark.Semicolon ∷ closing_of (quant b) (1 + bodies b)

abbrev pub after : List Frame → Ground → List Token
after [] p = ground_back p
after (f ∷ fs) p = after_of f ++ after fs p

abbrev pub back : State → List Token
back (At c) = corner_back c
back (Row ws read l) = leasts ws ++ corner_back (arrive l (read ++ leasts ws))
back (Need p fs) = Word word ∷ after fs p
back (Have p fs v) = after fs p
back (Dotted p fs v) = Word word ∷ after fs p
back (VarAt p fs k) =
    Word word ∷ Key key.In ∷ Word word ∷ Mark mark.OpenBrace ∷ Word word ∷ (opened_back k
    ++ after fs p)
back (NamedAt p fs k w) =
    Key key.In ∷ Word word ∷ Mark mark.OpenBrace ∷ Word word ∷ (opened_back k ++ after fs p)
back (Next p fs b) = closing_of (quant b) (bodies b) ++ after fs p

-- a state that a token leads to: one token more, nothing less
abbrev pub GoesOn : List Token → ℕ → Option State → Type 0
GoesOn tokens n None = Unit {0}
GoesOn tokens n (Some s) = (front s ≡ tokens) × (n ≤ nesting (completed s)) × IsState s

-- what an outcome says of the tokens
abbrev pub IsReading : ℕ → List Token → Outcome → Type 0
IsReading most tokens (Whole p) = IsProgramIn most tokens p
IsReading most tokens (Wrong rest) =
    (front : List Token) × (tokens ≡ front ++ rest) × IsBegunIn most front × IsRefused front rest
IsReading most tokens (Deep rest) =
    (front : List Token) × (tokens ≡ front ++ rest) × IsBegunIn most front
    × IsTooDeep most front rest
