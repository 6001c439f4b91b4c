-- What completes a state of the machine is short: at most ten tokens for each that was read, and
-- seventeen.
use Rattle.std.proofs.Common.{◌≡◌, ◌≤◌, ◌+◌, ◌*◌, ℕ, zero, suc, Bool, true, false, refl, sym, ap, ◌∙◌, arith, List, [], ◌∷◌, ◌++◌, length, length-append, ◌⊎◌, inl, inr}
use Rattle.conf_syntax.specs.declared.token.Key.TheVariants as key
use Rattle.conf_syntax.specs.declared.token.Mark.TheVariants as mark
use Rattle.conf_syntax.specs.declared.token.Token.{Token}
use Rattle.conf_syntax.specs.declared.token.Token.TheVariants.{Word, Number, Key, Mark}
use Rattle.conf_syntax.specs.declared.tree.QuantKind.{QuantKind}
use Rattle.conf_syntax.specs.declared.tree.QuantKind.TheVariants as kind
use Rattle.conf_syntax.specs.Trees.{op_token, kind_token}
use Rattle.conf_syntax.specs.Plain.{Tree, Leaf, Round, Dot, Under, Two, Many, Single, Head, HeadIf, First, Then, quant, bodies, semicolons, tokens_of}
use Rattle.conf_grammar.specs.declared.piece.Piece.{Piece}
use Rattle.conf_grammar.specs.Machine.{Home, Outside, InClass, Ground, Lone, Inner, GoalOf, Corner, HomeAt, Enums, ClassHead, ShapeAt, HighAt, CountAt, WhereAt, BracesAt, Line, EnumLine, ValueLine, AbstractLine, ClassLine, ParentLine, VarLine, LowLine, DotsLine, HighLine, EndLine, RefLine, CountLine, Frame, InRight, InUnder, InRound, InOver, InFilter, InFirst, InSingle, InThen, State, At, Row, Need, Have, Dotted, VarAt, NamedAt, Next, leasts, arrive, missing}
use Rattle.conf_grammar.specs.Fronts.{home_back, ground_back, corner_front, corner_back, line_front, front_of, before, front, fills, closing_of, opened_back_by, opened_back, after_of, after, back, IsState}
use Rattle.conf_grammar.proofs.Complete.{takes_leasts}

-- Behind bodies

missing_few : (k : QuantKind) (n : ℕ) → missing k n ≤ 3
missing_few kind.Pack n = omega arith
missing_few kind.Forall n = omega arith
missing_few kind.Exists n = omega arith
missing_few kind.Sum n = omega arith
missing_few kind.Count n = omega arith
missing_few kind.AllDifferent n = omega arith

fills_size : (n : ℕ) → length (fills n) ≡ 2 * n
fills_size zero = refl
fills_size (suc n) = omega (arith, fills_size n)

closing_size : (k : QuantKind) (n : ℕ) → length (closing_of k n) ≤ 7
closing_size k n = omega (arith, length-append (fills (missing k n)) (Mark mark.CloseBrace ∷ []), fills_size (missing k n), missing_few k n)

opened_size_by : (b : Bool) (k : QuantKind) → length (opened_back_by b k) ≤ 8
opened_size_by true k = omega (arith, closing_size k 1)
opened_size_by false k = omega arith

opened_size : (k : QuantKind) → length (opened_back k) ≤ 8
opened_size k = opened_size_by (semicolons k) k

-- Frames

after_of_size : (f : Frame) → length (after_of f) ≤ 10
after_of_size (InRight o l) = omega arith
after_of_size (InUnder s) = omega arith
after_of_size InRound = omega arith
after_of_size (InOver k w) = omega (arith, opened_size k)
after_of_size (InFilter h) = omega (arith, opened_size (quant h))
after_of_size (InFirst h) = omega (arith, closing_size (quant h) 1)
after_of_size (InSingle h) = omega arith
after_of_size (InThen b) = omega (arith, closing_size (quant b) (1 + bodies b))

some_tokens : (t : Tree) → 1 ≤ length (tokens_of t)
some_tokens (Leaf t) = omega arith
some_tokens (Round e) = omega arith
some_tokens (Dot e w) = omega (arith, length-append (tokens_of e) (Mark mark.Dot ∷ Word w ∷ []))
some_tokens (Under s e) = omega arith
some_tokens (Two o l r) = omega (arith, length-append (tokens_of l) (op_token o ∷ tokens_of r))
some_tokens (Many b) = omega (arith, length-append (tokens_of b) (Mark mark.CloseBrace ∷ []))
some_tokens (Single h e) = omega (arith, length-append (tokens_of h) (Mark mark.OpenBrace ∷ (tokens_of e ++ (Mark mark.CloseBrace ∷ []))))
some_tokens (Head k w v) = omega arith
some_tokens (HeadIf h f) = omega (arith, length-append (tokens_of h) (Key key.Where ∷ tokens_of f))
some_tokens (First h e) = omega (arith, length-append (tokens_of h) (Mark mark.OpenBrace ∷ (tokens_of e ++ (Mark mark.Semicolon ∷ []))))
some_tokens (Then b e) = omega (arith, some_tokens b, length-append (tokens_of b) (tokens_of e ++ (Mark mark.Semicolon ∷ [])))

front_of_size : (f : Frame) → 1 ≤ length (front_of f)
front_of_size (InRight o l) = omega (arith, length-append (tokens_of l) (op_token o ∷ []))
front_of_size (InUnder s) = omega arith
front_of_size InRound = omega arith
front_of_size (InOver k w) = omega arith
front_of_size (InFilter h) = omega (arith, length-append (tokens_of h) (Key key.Where ∷ []))
front_of_size (InFirst h) = omega (arith, length-append (tokens_of h) (Mark mark.OpenBrace ∷ []))
front_of_size (InSingle h) = omega (arith, length-append (tokens_of h) (Mark mark.OpenBrace ∷ []))
front_of_size (InThen b) = some_tokens b

home_back_size : (h : Home) → length (home_back h) ≤ 1
home_back_size (Outside p) = omega arith
home_back_size (InClass p a w o ms) = omega arith

ground_back_size : (p : Ground) → length (ground_back p) ≤ 3
ground_back_size (Lone h) = omega (arith, home_back_size h)
ground_back_size (Inner h es) = omega (arith, home_back_size h)
ground_back_size (GoalOf p m) = omega arith

after_size : (fs : List Frame) (p : Ground) → length (after fs p) ≤ 10 * length (before fs p) + 3
after_size [] p = omega (arith, ground_back_size p)
after_size (f ∷ fs) p = omega (arith, length-append (after_of f) (after fs p), length-append (before fs p) (front_of f), after_of_size f, front_of_size f, after_size fs p)

-- Rows of tokens: none that leads anywhere has more than three

corner_back_size : (c : Corner) → length (corner_back c) ≤ 3
corner_back_size (HomeAt h) = omega (arith, home_back_size h)
corner_back_size (Enums p w vs) = omega arith
corner_back_size (ClassHead p a w) = omega arith
corner_back_size (ShapeAt h w) = omega (arith, home_back_size h)
corner_back_size (HighAt h w low) = omega (arith, home_back_size h)
corner_back_size (CountAt h w r v) = omega (arith, home_back_size h)
corner_back_size (WhereAt h) = omega (arith, home_back_size h)
corner_back_size (BracesAt h es) = omega (arith, home_back_size h)

long_nowhere : (l : Line) (a b c d : Token) (xs : List Token) → corner_front (arrive l (a ∷ b ∷ c ∷ d ∷ xs)) ≡ []
long_nowhere (EnumLine p) (Word w) b (Word v) d xs = refl
long_nowhere (EnumLine p) (Word w) b _ d xs = refl
long_nowhere (EnumLine p) _ b c d xs = refl
long_nowhere (ValueLine p w vs) (Word v) b c d xs = refl
long_nowhere (ValueLine p w vs) _ b c d xs = refl
long_nowhere (AbstractLine p) a (Word w) c d xs = refl
long_nowhere (AbstractLine p) a _ c d xs = refl
long_nowhere (ClassLine p) (Word w) b c d xs = refl
long_nowhere (ClassLine p) _ b c d xs = refl
long_nowhere (ParentLine p a w) (Word v) b c d xs = refl
long_nowhere (ParentLine p a w) _ b c d xs = refl
long_nowhere (VarLine h) (Word w) b c d xs = refl
long_nowhere (VarLine h) _ b c d xs = refl
long_nowhere (LowLine h w) (Number n) b c d xs = refl
long_nowhere (LowLine h w) _ b c d xs = refl
long_nowhere (DotsLine h w n) a b c d xs = refl
long_nowhere (HighLine h w low) (Number n) b c d xs = refl
long_nowhere (HighLine h w low) _ b c d xs = refl
long_nowhere (EndLine h w s) a b c d xs = refl
long_nowhere (RefLine h w) (Word v) b c d xs = refl
long_nowhere (RefLine h w) _ b c d xs = refl
long_nowhere (CountLine h w r v) (Number n) b c d xs = refl
long_nowhere (CountLine h w r v) _ b c d xs = refl

row_leads : (l : Line) (ts : List Token) → (length ts ≤ 3) ⊎ (corner_front (arrive l ts) ≡ [])
row_leads l [] = inl (omega arith)
row_leads l (a ∷ []) = inl (omega arith)
row_leads l (a ∷ b ∷ []) = inl (omega arith)
row_leads l (a ∷ b ∷ c ∷ []) = inl (omega arith)
row_leads l (a ∷ b ∷ c ∷ d ∷ ts) = inr (long_nowhere l a b c d ts)

row_size : (l : Line) (read ts : List Token) → corner_front (arrive l (read ++ ts)) ≡ line_front l ++ (read ++ ts) → (length (read ++ ts) ≤ 3) ⊎ (corner_front (arrive l (read ++ ts)) ≡ []) → length ts ≤ 3
row_size l read ts e (inl few) = omega (arith, length-append read ts)
row_size l read ts e (inr none) = omega (arith, ap length (sym none ∙ e), length-append (line_front l) (read ++ ts), length-append read ts)

pub back_size : (s : State) → IsState s → length (back s) ≤ 10 * length (front s) + 17
back_size (At c) i = omega (arith, corner_back_size c)
back_size (Row ws read l) i =
    let ends = arrive l (read ++ leasts ws) in
    let few = row_size l read (leasts ws) (i (leasts ws) (takes_leasts ws)).0 (row_leads l (read ++ leasts ws)) in
    omega (arith, length-append (leasts ws) (corner_back ends), corner_back_size ends, few)
back_size (Need p fs) i = omega (arith, after_size fs p)
back_size (Have p fs v) i = omega (arith, after_size fs p, length-append (before fs p) (tokens_of v))
back_size (Dotted p fs v) i = omega (arith, after_size fs p, length-append (before fs p) (tokens_of v ++ (Mark mark.Dot ∷ [])))
back_size (VarAt p fs k) i = omega (arith, after_size fs p, length-append (before fs p) (kind_token k ∷ []), length-append (opened_back k) (after fs p), opened_size k)
back_size (NamedAt p fs k w) i = omega (arith, after_size fs p, length-append (before fs p) (kind_token k ∷ Word w ∷ []), length-append (opened_back k) (after fs p), opened_size k)
back_size (Next p fs b) i = omega (arith, after_size fs p, length-append (before fs p) (tokens_of b), length-append (closing_of (quant b) (bodies b)) (after fs p), closing_size (quant b) (bodies b))
