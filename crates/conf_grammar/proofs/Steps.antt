-- A step reads its token: what stands before the hole is one token longer, all fits together, and nothing gets less nested.
use Rattle.std.proofs.Common.{◌≡◌, ◌≤◌, ℕ, true, false, Bool, cond, List, [], ◌∷◌, ◌++◌, refl, sym, ◌∙◌, ap, subst, append_assoc, append-nil, arith, Option, None, Some, nat_le, ◌&&◌}
use Rattle.std.proofs.lemmas.Bool.{and_parts, leb-true, cond_both}
use Rattle.conf_syntax.specs.declared.token.Key.TheVariants as key
use Rattle.conf_syntax.specs.declared.token.Mark.TheVariants as mark
use Rattle.conf_syntax.specs.declared.token.Token.{Token}
use Rattle.conf_syntax.specs.declared.token.Token.TheVariants.{Word, Number, Key, Mark}
use Rattle.conf_syntax.specs.declared.tree.Op.{Op}
use Rattle.conf_syntax.specs.declared.tree.Op.TheVariants as op
use Rattle.conf_syntax.specs.declared.tree.QuantKind.{QuantKind}
use Rattle.conf_syntax.specs.declared.tree.QuantKind.TheVariants as kind
use Rattle.conf_syntax.specs.Trees.{op_token, kind_token, goal_key, op_level, left_level, may_filter}
use Rattle.conf_syntax.specs.Plain.{Sign, Negative, Negation, Tree, Leaf, Round, Dot, Under, Two, Many, Single, Head, HeadIf, First, Then, Begin, ALeaf, ASign, AParen, AQuant, NoBegin, begin_by, sign_token, sign_level, leaf_level, dotted, level, part, quant, bodies, semicolons, may_more, may_end, tokens_of, IsAt, IsHead, IsGood, End, Values, EndOf, Var, Where, Braces, Named, Range, Int, Truth, NoExpr, Exprs, Enum, Program, With, program_tokens, exprs_tokens, AreExprs, IsProgram, nesting}
use Rattle.conf_grammar.specs.declared.piece.Piece.{Piece}
use Rattle.conf_grammar.specs.Machine.{Home, Outside, InClass, Ground, Lone, Inner, GoalOf, Corner, HomeAt, Enums, ClassHead, ShapeAt, HighAt, CountAt, WhereAt, BracesAt, Line, EnumLine, ValueLine, AbstractLine, ClassLine, ParentLine, VarLine, LowLine, DotsLine, HighLine, EndLine, RefLine, CountLine, Frame, InRight, InUnder, InRound, InOver, InFilter, InFirst, InSingle, InThen, State, At, Row, Need, Have, Dotted, VarAt, NamedAt, Next, takes, takes_all, leasts, word, pieces_of, arrive, line, settle, row_step, slot, slots, Going, AnOp, ADot, NoGoing, going, left_of, made_of, goes_by, goes, gone_by, gone, ground_ends, ends, closes, only_if, body_frame, body, over, filters, next, single, have, where_room, need_by, need, dot_name, var_name, in_path, Closing, Closes, Other, closing, again_by, home_with, home_done, top_step, class_step, home_step, enum_step, head_step, shape_step, high_step, count_step, where_step, braces_by, corner_step, step, hole, filled, opened_by, opened, close, ground_done, corner_done, completed}
use Rattle.conf_grammar.specs.Leads.{ground_base}
use Rattle.conf_grammar.specs.Fronts.{home_front, home_back, IsHome, ground_front, IsGround, corner_front, IsCorner, line_front, line_done, IsArrival, IsRow, front_of, before, front, result, IsFrame, AreFrames, IsState, GoesOn}
use Rattle.conf_grammar.proofs.Homes.{with_front, with_nest, with_good, home_good, home_tokens, ground_nest}
use Rattle.conf_grammar.proofs.Complete.{nest_some, takes_leasts, filled_nest, opened_nest, close_grows, slots_most}
use Rattle.conf_grammar.proofs.Lines.{IsLine, line_row}

dotted_most : (n : ℕ) → n ≤ 11 → dotted n ≤ 11
dotted_most n h = omega arith

op_most : (o : Op) → op_level o ≤ 8
op_most op.Implies = omega arith
op_most op.Or = omega arith
op_most op.And = omega arith
op_most op.Eq = omega arith
op_most op.Ne = omega arith
op_most op.Lt = omega arith
op_most op.Le = omega arith
op_most op.Gt = omega arith
op_most op.Ge = omega arith
op_most op.In = omega arith
op_most op.Add = omega arith
op_most op.Sub = omega arith
op_most op.Mul = omega arith

leaf_most : (t : Token) → leaf_level t ≤ 11
leaf_most (Word w) = omega arith
leaf_most (Key key.This) = omega arith
leaf_most _ = omega arith

sign_most : (s : Sign) → sign_level s ≤ 8
sign_most Negative = omega arith
sign_most Negation = omega arith

pub level_most : (v : Tree) → level v ≤ 11
level_most (Leaf t) = leaf_most t
level_most (Round e) = omega arith
level_most (Dot e w) = dotted_most (level e) (level_most e)
level_most (Under s e) = let m = sign_most s in omega arith
level_most (Two o l r) = let m = op_most o in omega arith
level_most (Many b) = omega arith
level_most (Single h e) = omega arith
level_most (Head k w p) = omega arith
level_most (HeadIf h f) = omega arith
level_most (First h e) = omega arith
level_most (Then b e) = omega arith

pub goes_parts : (s n : ℕ) (g : Going) → goes_by s n g ≡ true → (s ≤ made_of n g) × (left_of g ≤ n)
goes_parts s n g h =
    let e = and_parts (nat_le s (made_of n g)) (nat_le (left_of g) n) h in
    (leb-true s (made_of n g) e.0, leb-true (left_of g) n e.1)

any_op : (o p : Op) → AnOp o ≡ AnOp p → o ≡ p
any_op o p e = cc

-- the token of an operator
pub op_is : (token : Token) (o : Op) → going token ≡ AnOp o → token ≡ op_token o
op_is (Mark mark.Arrow) o e = ap op_token (any_op op.Implies o e)
op_is (Key key.Or) o e = ap op_token (any_op op.Or o e)
op_is (Key key.And) o e = ap op_token (any_op op.And o e)
op_is (Mark mark.Equal) o e = ap op_token (any_op op.Eq o e)
op_is (Mark mark.NotEqual) o e = ap op_token (any_op op.Ne o e)
op_is (Mark mark.Less) o e = ap op_token (any_op op.Lt o e)
op_is (Mark mark.AtMost) o e = ap op_token (any_op op.Le o e)
op_is (Mark mark.Greater) o e = ap op_token (any_op op.Gt o e)
op_is (Mark mark.AtLeast) o e = ap op_token (any_op op.Ge o e)
op_is (Key key.In) o e = ap op_token (any_op op.In o e)
op_is (Mark mark.Plus) o e = ap op_token (any_op op.Add o e)
op_is (Mark mark.Minus) o e = ap op_token (any_op op.Sub o e)
op_is (Mark mark.Star) o e = ap op_token (any_op op.Mul o e)
op_is _ o e = absurd cc

pub dot_is : (token : Token) → going token ≡ ADot → token ≡ Mark mark.Dot
dot_is (Mark mark.Dot) e = refl
dot_is (Key key.Or) e = absurd cc
dot_is _ e = absurd cc

a_sign : (s u : Sign) → ASign s ≡ ASign u → s ≡ u
a_sign s u e = cc

pub sign_is : (token : Token) (s : Sign) → begin_by token ≡ ASign s → token ≡ sign_token s
sign_is (Mark mark.Minus) s e = ap sign_token (a_sign Negative s e)
sign_is (Key key.Not) s e = ap sign_token (a_sign Negation s e)
sign_is _ s e = absurd cc

pub paren_is : (token : Token) → begin_by token ≡ AParen → token ≡ Mark mark.OpenParen
paren_is (Mark mark.OpenParen) e = refl
paren_is (Key key.True) e = absurd cc
paren_is _ e = absurd cc

a_quant : (k q : QuantKind) → AQuant k ≡ AQuant q → k ≡ q
a_quant k q e = cc

pub quant_is : (token : Token) (k : QuantKind) → begin_by token ≡ AQuant k → token ≡ kind_token k
quant_is (Key key.Forall) k e = ap kind_token (a_quant kind.Forall k e)
quant_is (Key key.Exists) k e = ap kind_token (a_quant kind.Exists k e)
quant_is (Key key.Sum) k e = ap kind_token (a_quant kind.Sum k e)
quant_is (Key key.Count) k e = ap kind_token (a_quant kind.Count k e)
quant_is (Key key.AllDifferent) k e = ap kind_token (a_quant kind.AllDifferent k e)
quant_is (Key key.Pack) k e = ap kind_token (a_quant kind.Pack k e)
quant_is (Mark mark.Minus) k e = absurd cc
quant_is _ k e = absurd cc

pub closing_is : (token : Token) → closing token ≡ Closes → token ≡ Mark mark.CloseBrace
closing_is (Mark mark.CloseBrace) e = refl
closing_is _ e = absurd cc

along : (a b : List Token) (n : ℕ) (o : Option State) → a ≡ b → GoesOn a n o → GoesOn b n o
along a b n o e g = subst (λ (x : List Token). GoesOn x n o) e g

-- the token is another name of what was read
along_token : (a : List Token) (t u : Token) (n : ℕ) (o : Option State) → u ≡ t → GoesOn (a ++ (t ∷ [])) n o → GoesOn (a ++ (u ∷ [])) n o
along_token a t u n o e g = subst (λ (x : Token). GoesOn (a ++ (x ∷ [])) n o) (sym e) g

lower : (tokens : List Token) (m n : ℕ) (o : Option State) → m ≤ n → GoesOn tokens n o → GoesOn tokens m o
lower tokens m n None h g = tt
lower tokens m n (Some s) h g = (g.0, omega (arith, g.1), g.2)

if_right : (b : Bool) (tokens : List Token) (n : ℕ) (s : State) → (b ≡ true → GoesOn tokens n (Some s)) → GoesOn tokens n (only_if b s)
if_right b tokens n s h = cond_both b (Some s) None (GoesOn tokens n) h (λ e. tt)

room_right : (least most : ℕ) (tokens : List Token) (n : ℕ) (s : State) → (least ≤ most → GoesOn tokens n (Some s)) → GoesOn tokens n (where_room least most s)
room_right least most tokens n s h = if_right (nat_le least most) tokens n s (λ e. h (leb-true least most e))

-- Expressions

module _ (fs : List Frame) (p : Ground) (v : Tree) (frames : AreFrames fs p) (good : IsGood v) (plain : part v ≡ 0) where
  wider : (o : Op) → (slots fs ≤ op_level o) → left_level o ≤ level v → GoesOn (before fs p ++ (tokens_of v ++ (op_token o ∷ []))) (nesting (close fs p v)) (Some (Need p (InRight o v ∷ fs)))
  wider o s l = (refl, close_grows fs p v (Two o v hole) (omega arith), (frames, s, (good, (plain, l))))

  gone_right : (token : Token) (g : Going) → going token ≡ g → (slots fs ≤ made_of (level v) g) → left_of g ≤ level v → GoesOn (before fs p ++ (tokens_of v ++ (token ∷ []))) (nesting (close fs p v)) (Some (gone_by p fs v g))
  gone_right token (AnOp o) e s l = subst (λ (x : Token). GoesOn (before fs p ++ (tokens_of v ++ (x ∷ []))) (nesting (close fs p v)) (Some (Need p (InRight o v ∷ fs)))) (sym (op_is token o e)) (wider o s l)
  gone_right token ADot e s l = subst (λ (x : Token). GoesOn (before fs p ++ (tokens_of v ++ (x ∷ []))) (nesting (close fs p v)) (Some (Dotted p fs v))) (sym (dot_is token e)) (refl, close_grows fs p v (Dot v word) (omega arith), (frames, good, (plain, l), s))
  gone_right token NoGoing e s l = absurd (let m = level_most v in omega arith)

  goes_right : (token : Token) (other : Option State) → GoesOn (before fs p ++ (tokens_of v ++ (token ∷ []))) (nesting (close fs p v)) other → GoesOn (before fs p ++ (tokens_of v ++ (token ∷ []))) (nesting (close fs p v)) (cond (goes (slots fs) (level v) token) (Some (gone p fs v token)) other)
  goes_right token other h =
      cond_both (goes (slots fs) (level v) token) (Some (gone p fs v token)) other (GoesOn (before fs p ++ (tokens_of v ++ (token ∷ []))) (nesting (close fs p v)))
      (λ e. let k = goes_parts (slots fs) (level v) (going token) e in gone_right token (going token) refl k.0 k.1) (λ e. h)

where_end : (a v : List Token) → a ++ (Key key.Where ∷ (v ++ (Mark mark.Semicolon ∷ []))) ≡ (a ++ (Key key.Where ∷ [])) ++ (v ++ (Mark mark.Semicolon ∷ []))
where_end a v = simp append_assoc

inner_end : (a es v : List Token) → a ++ (Key key.Where ∷ Mark mark.OpenBrace ∷ (es ++ (v ++ (Mark mark.Semicolon ∷ [])))) ≡ (a ++ (Key key.Where ∷ Mark mark.OpenBrace ∷ es)) ++ (v ++ (Mark mark.Semicolon ∷ []))
inner_end a es v = simp append_assoc

goal_end : (a : List Token) (t : Token) (v : List Token) → a ++ (t ∷ (v ++ (Mark mark.Semicolon ∷ []))) ≡ (a ++ (t ∷ [])) ++ (v ++ (Mark mark.Semicolon ∷ []))
goal_end a t v = simp append_assoc

ground_right : (p : Ground) (v : Tree) → IsGround p → IsGood v → IsAt 1 v → GoesOn (ground_front p ++ (tokens_of v ++ (Mark mark.Semicolon ∷ []))) (nesting (ground_done p v)) (Some (At (ground_ends p v)))
ground_right (Lone h) v i g a = (with_front h (Where v) ∙ where_end (home_front h) (tokens_of v), omega arith, with_good h (Where v) i (g, a))
ground_right (Inner h es) v i g a = (inner_end (home_front h) (exprs_tokens es) (tokens_of v), omega arith, (i.0, (i.1, (g, a))))
ground_right (GoalOf p m) v i g a = (goal_end (program_tokens p) (goal_key m) (tokens_of v), omega arith, (i, (g, a)))

ends_right : (p : Ground) (v : Tree) (token : Token) → IsGround p → IsGood v → IsAt 1 v → GoesOn (ground_front p ++ (tokens_of v ++ (token ∷ []))) (nesting (ground_done p v)) (ends p v token)
ends_right p v (Mark mark.Semicolon) h g a = ground_right p v h g a
ends_right p v _ h g a = tt

closes_right : (fs : List Frame) (p : Ground) (v : Tree) (token : Token) → AreFrames (InRound ∷ fs) p → IsGood v → IsAt 1 v → GoesOn (before (InRound ∷ fs) p ++ (tokens_of v ++ (token ∷ []))) (nesting (close (InRound ∷ fs) p v)) (closes p fs v token)
closes_right fs p v (Mark mark.CloseParen) h g a = (simp append_assoc, omega arith, (h.0, (g, a), (refl, h.1)))
closes_right fs p v _ h g a = tt

body_front : (b : Bool) (h : Tree) → front_of (body_frame b h) ≡ tokens_of h ++ (Mark mark.OpenBrace ∷ [])
body_front true h = refl
body_front false h = refl

body_good : (b : Bool) (h : Tree) → semicolons (quant h) ≡ b → IsGood h → IsHead h → IsFrame (body_frame b h)
body_good true h e g i = (g, i, e)
body_good false h e g i = (g, i, e)

body_slot : (b : Bool) (h : Tree) → (result (body_frame b h) ≡ 10) × (slot (body_frame b h) ≡ 1)
body_slot true h = (refl, refl)
body_slot false h = (refl, refl)

body_nest : (b : Bool) (fs : List Frame) (p : Ground) (h : Tree) → semicolons (quant h) ≡ b → close (body_frame b h ∷ fs) p hole ≡ close fs p (opened h hole)
body_nest true fs p h e = ap (λ (x : Bool). close fs p (opened_by x h hole)) (sym e)
body_nest false fs p h e = ap (λ (x : Bool). close fs p (opened_by x h hole)) (sym e)

-- a brace behind a head
brace_right : (fs : List Frame) (p : Ground) (h : Tree) (n : ℕ) → AreFrames fs p → slots fs ≤ 10 → IsGood h → IsHead h → n ≤ nesting (close fs p (opened h hole)) → GoesOn (before fs p ++ (tokens_of h ++ (Mark mark.OpenBrace ∷ []))) n (Some (Need p (body h ∷ fs)))
brace_right fs p h n i s g k m = (
  ap (λ (x : List Token). before fs p ++ x) (body_front (semicolons (quant h)) h),
  (let e = ap nesting (body_nest (semicolons (quant h)) fs p h refl) in omega (arith, e)),
  (i, (let r = (body_slot (semicolons (quant h)) h).0 in omega (arith, r)), body_good (semicolons (quant h)) h refl g k),
)

over_front : (a : List Token) (s t u : Token) (v x : List Token) → a ++ ((s ∷ t ∷ u ∷ v) ++ x) ≡ (a ++ (s ∷ t ∷ u ∷ [])) ++ (v ++ x)
over_front a s t u v x = simp append_assoc

filter_begins : (a h v z : List Token) → a ++ ((h ++ (Key key.Where ∷ v)) ++ z) ≡ (a ++ (h ++ (Key key.Where ∷ []))) ++ (v ++ z)
filter_begins a h v z = simp append_assoc

over_right : (fs : List Frame) (p : Ground) (k : QuantKind) (w : List ℕ) (v : Tree) (token : Token) → AreFrames (InOver k w ∷ fs) p → IsGood v → IsAt 11 v → GoesOn (before (InOver k w ∷ fs) p ++ (tokens_of v ++ (token ∷ []))) (nesting (close (InOver k w ∷ fs) p v)) (over p fs k w v token)
over_right fs p k w v (Key key.Where) h g a =
    if_right (may_filter k) (before (InOver k w ∷ fs) p ++ (tokens_of v ++ (Key key.Where ∷ []))) (nesting (close (InOver k w ∷ fs) p v)) (Need p (InFilter (Head k w v) ∷ fs))
    (λ e. (
      over_front (before fs p) (kind_token k) (Word w) (Key key.In) (tokens_of v) (Key key.Where ∷ []),
      close_grows fs p (opened (Head k w v) hole) (opened (HeadIf (Head k w v) hole) hole) (omega (arith, opened_nest (Head k w v) hole, opened_nest (HeadIf (Head k w v) hole) hole)),
      (h.0, h.1, ((g, a), refl, e)),
    ))
over_right fs p k w v (Mark mark.OpenBrace) h g a =
    along (before fs p ++ (tokens_of (Head k w v) ++ (Mark mark.OpenBrace ∷ []))) (before (InOver k w ∷ fs) p ++ (tokens_of v ++ (Mark mark.OpenBrace ∷ []))) (nesting (close (InOver k w ∷ fs) p v)) (Some (Need p (body (Head k w v) ∷ fs)))
    (over_front (before fs p) (kind_token k) (Word w) (Key key.In) (tokens_of v) (Mark mark.OpenBrace ∷ []))
    (brace_right fs p (Head k w v) (nesting (close (InOver k w ∷ fs) p v)) h.0 h.1 (g, a) (omega arith, omega arith) (omega arith))
over_right fs p k w v _ h g a = tt

filters_right : (fs : List Frame) (p : Ground) (q : Tree) (v : Tree) (token : Token) → AreFrames (InFilter q ∷ fs) p → IsGood v → IsAt 1 v → GoesOn (before (InFilter q ∷ fs) p ++ (tokens_of v ++ (token ∷ []))) (nesting (close (InFilter q ∷ fs) p v)) (filters p fs q v token)
filters_right fs p q v (Mark mark.OpenBrace) h g a =
    along (before fs p ++ (tokens_of (HeadIf q v) ++ (Mark mark.OpenBrace ∷ []))) (before (InFilter q ∷ fs) p ++ (tokens_of v ++ (Mark mark.OpenBrace ∷ []))) (nesting (close (InFilter q ∷ fs) p v)) (Some (Need p (body (HeadIf q v) ∷ fs)))
    (filter_begins (before fs p) (tokens_of q) (tokens_of v) (Mark mark.OpenBrace ∷ []))
    (brace_right fs p (HeadIf q v) (nesting (close (InFilter q ∷ fs) p v)) h.0 h.1 (h.2.0, g, h.2.1, a, h.2.2) (omega arith, omega arith) (omega arith))
filters_right fs p q v _ h g a = tt

next_right : (fs : List Frame) (p : Ground) (b : Tree) (token : Token) (tokens : List Token) → AreFrames fs p → slots fs ≤ 10 → IsGood b → part b ≡ 3 → before fs p ++ tokens_of b ≡ tokens ++ (Mark mark.Semicolon ∷ []) → GoesOn (tokens ++ (token ∷ [])) (nesting (close fs p (filled b))) (next p fs b token)
next_right fs p b (Mark mark.Semicolon) tokens h s g k e = (e, omega arith, (h, s, g, k))
next_right fs p b _ tokens h s g k e = tt

single_right : (fs : List Frame) (p : Ground) (q : Tree) (v : Tree) (token : Token) → AreFrames (InSingle q ∷ fs) p → IsGood v → IsAt 1 v → GoesOn (before (InSingle q ∷ fs) p ++ (tokens_of v ++ (token ∷ []))) (nesting (close (InSingle q ∷ fs) p v)) (single p fs q v token)
single_right fs p q v (Mark mark.CloseBrace) h g a = (simp append_assoc, omega arith, (h.0, (h.2.0, g, h.2.1, a, h.2.2), (refl, h.1)))
single_right fs p q v _ h g a = tt

opened_row : (a h v : List Token) → a ++ (h ++ (Mark mark.OpenBrace ∷ (v ++ (Mark mark.Semicolon ∷ [])))) ≡ ((a ++ (h ++ (Mark mark.OpenBrace ∷ []))) ++ v) ++ (Mark mark.Semicolon ∷ [])
opened_row a h v = simp append_assoc

again_row : (a h v : List Token) → a ++ (h ++ (v ++ (Mark mark.Semicolon ∷ []))) ≡ ((a ++ h) ++ v) ++ (Mark mark.Semicolon ∷ [])
again_row a h v = simp append_assoc

two_row : (a l v : List Token) (m : Token) (z : List Token) → a ++ ((l ++ (m ∷ v)) ++ z) ≡ (a ++ (l ++ (m ∷ []))) ++ (v ++ z)
two_row a l v m z = simp append_assoc

sign_row : (a : List Token) (t : Token) (v z : List Token) → a ++ ((t ∷ v) ++ z) ≡ (a ++ (t ∷ [])) ++ (v ++ z)
sign_row a t v z = simp append_assoc

pub have_right : (fs : List Frame) (p : Ground) (v : Tree) (token : Token) → AreFrames fs p → IsGood v → IsAt (slots fs) v → GoesOn (before fs p ++ (tokens_of v ++ (token ∷ []))) (nesting (close fs p v)) (have fs p v token)
have_right [] p v token h g a = goes_right [] p v h g a.0 token (ends p v token) (ends_right p v token h g a)
have_right (InRight o l ∷ fs) p v token h g a =
    goes_right (InRight o l ∷ fs) p v h g a.0 token (have fs p (Two o l v) token)
    (along (before fs p ++ (tokens_of (Two o l v) ++ (token ∷ []))) (before (InRight o l ∷ fs) p ++ (tokens_of v ++ (token ∷ []))) (nesting (close fs p (Two o l v))) (have fs p (Two o l v) token)
    (two_row (before fs p) (tokens_of l) (tokens_of v) (op_token o) (token ∷ []))
    (have_right fs p (Two o l v) token h.0 (h.2.0, g, h.2.1, a) (refl, h.1)))
have_right (InUnder s ∷ fs) p v token h g a =
    goes_right (InUnder s ∷ fs) p v h g a.0 token (have fs p (Under s v) token)
    (along (before fs p ++ (tokens_of (Under s v) ++ (token ∷ []))) (before (InUnder s ∷ fs) p ++ (tokens_of v ++ (token ∷ []))) (nesting (close fs p (Under s v))) (have fs p (Under s v) token)
    (sign_row (before fs p) (sign_token s) (tokens_of v) (token ∷ []))
    (have_right fs p (Under s v) token h.0 (g, a) (refl, h.1)))
have_right (InRound ∷ fs) p v token h g a = goes_right (InRound ∷ fs) p v h g a.0 token (closes p fs v token) (closes_right fs p v token h g a)
have_right (InOver k w ∷ fs) p v token h g a = goes_right (InOver k w ∷ fs) p v h g a.0 token (over p fs k w v token) (over_right fs p k w v token h g a)
have_right (InFilter q ∷ fs) p v token h g a = goes_right (InFilter q ∷ fs) p v h g a.0 token (filters p fs q v token) (filters_right fs p q v token h g a)
have_right (InFirst q ∷ fs) p v token h g a =
    goes_right (InFirst q ∷ fs) p v h g a.0 token (next p fs (First q v) token)
    (along ((before (InFirst q ∷ fs) p ++ tokens_of v) ++ (token ∷ [])) (before (InFirst q ∷ fs) p ++ (tokens_of v ++ (token ∷ []))) (nesting (close (InFirst q ∷ fs) p v)) (next p fs (First q v) token)
    (append_assoc (before (InFirst q ∷ fs) p) (tokens_of v) (token ∷ []))
    (next_right fs p (First q v) token (before (InFirst q ∷ fs) p ++ tokens_of v) h.0 h.1 (h.2.0, g, h.2.1, a, h.2.2) refl (opened_row (before fs p) (tokens_of q) (tokens_of v))))
have_right (InSingle q ∷ fs) p v token h g a = goes_right (InSingle q ∷ fs) p v h g a.0 token (single p fs q v token) (single_right fs p q v token h g a)
have_right (InThen b ∷ fs) p v token h g a =
    goes_right (InThen b ∷ fs) p v h g a.0 token (next p fs (Then b v) token)
    (along ((before (InThen b ∷ fs) p ++ tokens_of v) ++ (token ∷ [])) (before (InThen b ∷ fs) p ++ (tokens_of v ++ (token ∷ []))) (nesting (close (InThen b ∷ fs) p v)) (next p fs (Then b v) token)
    (append_assoc (before (InThen b ∷ fs) p) (tokens_of v) (token ∷ []))
    (next_right fs p (Then b v) token (before (InThen b ∷ fs) p ++ tokens_of v) h.0 h.1 (h.2.0, g, h.2.1, a, h.2.2) refl (again_row (before fs p) (tokens_of b) (tokens_of v))))

need_by_right : (fs : List Frame) (p : Ground) (token : Token) (b : Begin) → begin_by token ≡ b → AreFrames fs p → slots fs ≤ 11 → GoesOn (before fs p ++ (token ∷ [])) (nesting (close fs p hole)) (need_by p fs token b)
need_by_right fs p token ALeaf e h m = room_right (slots fs) (leaf_level token) (before fs p ++ (token ∷ [])) (nesting (close fs p hole)) (Have p fs (Leaf token)) (λ s. (refl, close_grows fs p hole (Leaf token) (omega arith), (h, e, (refl, s))))
need_by_right fs p token (ASign s) e h m =
    along_token (before fs p) (sign_token s) token (nesting (close fs p hole)) (where_room (slots fs) (sign_level s) (Need p (InUnder s ∷ fs))) (sign_is token s e)
    (room_right (slots fs) (sign_level s) (before fs p ++ (sign_token s ∷ [])) (nesting (close fs p hole)) (Need p (InUnder s ∷ fs)) (λ k. (refl, close_grows fs p hole (Under s hole) (omega arith), (h, k, tt))))
need_by_right fs p token AParen e h m =
    along_token (before fs p) (Mark mark.OpenParen) token (nesting (close fs p hole)) (where_room (slots fs) 10 (Need p (InRound ∷ fs))) (paren_is token e)
    (room_right (slots fs) 10 (before fs p ++ (Mark mark.OpenParen ∷ [])) (nesting (close fs p hole)) (Need p (InRound ∷ fs)) (λ s. (refl, close_grows fs p hole (Round hole) (omega arith), (h, s, tt))))
need_by_right fs p token (AQuant k) e h m =
    along_token (before fs p) (kind_token k) token (nesting (close fs p hole)) (where_room (slots fs) 10 (VarAt p fs k)) (quant_is token k e)
    (room_right (slots fs) 10 (before fs p ++ (kind_token k ∷ [])) (nesting (close fs p hole)) (VarAt p fs k) (λ s. (refl, close_grows fs p hole (opened (Head k word hole) hole) (omega (arith, opened_nest (Head k word hole) hole)), (h, s))))
need_by_right fs p token NoBegin e h m = tt

pub need_right : (fs : List Frame) (p : Ground) (token : Token) → AreFrames fs p → GoesOn (before fs p ++ (token ∷ [])) (nesting (close fs p hole)) (need p fs token)
need_right fs p token h = need_by_right fs p token (begin_by token) refl h (slots_most fs)

dot_right : (fs : List Frame) (p : Ground) (v : Tree) (token : Token) → IsState (Dotted p fs v) → GoesOn (front (Dotted p fs v) ++ (token ∷ [])) (nesting (completed (Dotted p fs v))) (dot_name p fs v token)
dot_right fs p v (Word w) h = (simp append_assoc, close_grows fs p (Dot v word) (Dot v w) (omega arith), (h.0, (h.1, h.2), (refl, h.3)))
dot_right fs p v _ h = tt

var_right : (fs : List Frame) (p : Ground) (k : QuantKind) (token : Token) → IsState (VarAt p fs k) → GoesOn (front (VarAt p fs k) ++ (token ∷ [])) (nesting (completed (VarAt p fs k))) (var_name p fs k token)
var_right fs p k (Word w) h = (simp append_assoc, close_grows fs p (opened (Head k word hole) hole) (opened (Head k w hole) hole) (omega (arith, opened_nest (Head k word hole) hole, opened_nest (Head k w hole) hole)), (h.0, h.1))
var_right fs p k _ h = tt

in_right : (fs : List Frame) (p : Ground) (k : QuantKind) (w : List ℕ) (token : Token) → IsState (NamedAt p fs k w) → GoesOn (front (NamedAt p fs k w) ++ (token ∷ [])) (nesting (completed (NamedAt p fs k w))) (in_path p fs k w token)
in_right fs p k w (Key key.In) h = (simp append_assoc, omega arith, (h.0, h.1, tt))
in_right fs p k w _ h = tt

more_closes : (fs : List Frame) (p : Ground) (b : Tree) → nesting (close fs p (filled b)) ≤ nesting (close (InThen b ∷ fs) p hole)
more_closes fs p b = close_grows fs p (filled b) (filled (Then b hole)) (let n = nest_some b in omega (arith, filled_nest b, filled_nest (Then b hole)))

many_closes : (fs : List Frame) (p : Ground) (b : Tree) → nesting (close fs p (filled b)) ≤ nesting (close fs p (Many b))
many_closes fs p b = close_grows fs p (filled b) (Many b) (omega (arith, filled_nest b))

again_by_right : (fs : List Frame) (p : Ground) (b : Tree) (token : Token) (c : Closing) → closing token ≡ c → IsState (Next p fs b) → GoesOn ((before fs p ++ tokens_of b) ++ (token ∷ [])) (nesting (close fs p (filled b))) (again_by p fs b token c)
again_by_right fs p b token Closes e h =
    along_token (before fs p ++ tokens_of b) (Mark mark.CloseBrace) token (nesting (close fs p (filled b))) (only_if (may_end (quant b) (bodies b)) (Have p fs (Many b))) (closing_is token e)
    (if_right (may_end (quant b) (bodies b)) ((before fs p ++ tokens_of b) ++ (Mark mark.CloseBrace ∷ [])) (nesting (close fs p (filled b))) (Have p fs (Many b))
    (λ k. (simp append_assoc, many_closes fs p b, (h.0, (h.2, h.3, k), (refl, h.1)))))
again_by_right fs p b token Other e h =
    cond_both (may_more (quant b) (bodies b)) (need p (InThen b ∷ fs) token) None (GoesOn ((before fs p ++ tokens_of b) ++ (token ∷ [])) (nesting (close fs p (filled b))))
    (λ k. lower ((before fs p ++ tokens_of b) ++ (token ∷ [])) (nesting (close fs p (filled b))) (nesting (close (InThen b ∷ fs) p hole)) (need p (InThen b ∷ fs) token) (more_closes fs p b) (need_right (InThen b ∷ fs) p token (h.0, h.1, (h.2, h.3, k)))) (λ k. tt)

-- Declarations

line_right : (l : Line) (tokens : List Token) (n : ℕ) → IsLine l → line_front l ≡ tokens → n ≤ nesting (line_done l) → GoesOn tokens n (Some (line l))
line_right l tokens n i e m =
    let r = line_row l i in
    (append-nil (line_front l) ∙ e, (let k = (r (leasts (pieces_of l)) (takes_leasts (pieces_of l))).1 in omega (arith, k)), r)

settle_right : (ws : List Piece) (read : List Token) (l : Line) → IsRow ws read l → GoesOn (line_front l ++ read) (nesting (line_done l)) (Some (settle ws read l))
settle_right [] read l r =
    let e : read ++ [] ≡ read = append-nil read in
    let a : IsArrival (line_front l ++ read) (nesting (line_done l)) (arrive l read) = subst (λ (x : List Token). IsArrival (line_front l ++ x) (nesting (line_done l)) (arrive l x)) e (r [] refl) in
    (a.0, omega (arith, a.1), a.2)
settle_right (w ∷ ws) read l r = (refl, (let k = (r (leasts (w ∷ ws)) (takes_leasts (w ∷ ws))).1 in omega (arith, k)), r)

row_on : (w : Piece) (ws : List Piece) (read : List Token) (l : Line) (token : Token) → takes w token ≡ true → IsRow (w ∷ ws) read l → IsRow ws (read ++ (token ∷ [])) l
row_on w ws read l token e r = λ ts h. subst (λ (x : List Token). IsArrival (line_front l ++ x) (nesting (line_done l)) (arrive l x)) (sym (append_assoc read (token ∷ []) ts)) (r (token ∷ ts) (ap (λ (x : Bool). x && takes_all ws ts) e ∙ h))

row_right : (ws : List Piece) (read : List Token) (l : Line) (token : Token) → IsRow ws read l → GoesOn ((line_front l ++ read) ++ (token ∷ [])) (nesting (completed (Row ws read l))) (row_step ws read l token)
row_right [] read l token r = tt
row_right (w ∷ ws) read l token r =
    cond_both (takes w token) (Some (settle ws (read ++ (token ∷ [])) l)) None (GoesOn ((line_front l ++ read) ++ (token ∷ [])) (nesting (completed (Row (w ∷ ws) read l))))
    (λ e. lower ((line_front l ++ read) ++ (token ∷ [])) (nesting (completed (Row (w ∷ ws) read l))) (nesting (line_done l)) (Some (settle ws (read ++ (token ∷ [])) l))
    (let k = (r (leasts (w ∷ ws)) (takes_leasts (w ∷ ws))).1 in omega (arith, k))
    (along (line_front l ++ (read ++ (token ∷ []))) ((line_front l ++ read) ++ (token ∷ [])) (nesting (line_done l)) (Some (settle ws (read ++ (token ∷ [])) l)) (sym (append_assoc (line_front l) read (token ∷ [])))
    (settle_right ws (read ++ (token ∷ [])) l (row_on w ws read l token e r))))
    (λ e. tt)

top_right : (p : Program) (token : Token) → IsProgram p → GoesOn (program_tokens p ++ (token ∷ [])) (nesting p) (top_step p token)
top_right p (Key key.Enum) i = line_right (EnumLine p) (program_tokens p ++ (Key key.Enum ∷ [])) (nesting p) i refl (omega arith)
top_right p (Key key.Abstract) i = line_right (AbstractLine p) (program_tokens p ++ (Key key.Abstract ∷ [])) (nesting p) i refl (omega arith)
top_right p (Key key.Class) i = line_right (ClassLine p) (program_tokens p ++ (Key key.Class ∷ [])) (nesting p) i refl (omega arith)
top_right p (Key key.Var) i = line_right (VarLine (Outside p)) (program_tokens p ++ (Key key.Var ∷ [])) (nesting p) i refl (omega arith)
top_right p (Key key.Where) i = (refl, omega arith, i)
top_right p (Key key.Maximize) i = (refl, omega arith, i)
top_right p (Key key.Minimize) i = (refl, omega arith, i)
top_right p _ i = tt

class_right : (h : Home) (token : Token) → home_back h ≡ Mark mark.CloseBrace ∷ [] → IsHome h → GoesOn (home_front h ++ (token ∷ [])) (nesting (home_done h)) (class_step h token)
class_right h (Key key.Var) e i = line_right (VarLine h) (home_front h ++ (Key key.Var ∷ [])) (nesting (home_done h)) i refl (omega arith)
class_right h (Key key.Where) e i = (refl, (let n = with_nest h (Braces NoExpr) in omega arith), i)
class_right h (Mark mark.CloseBrace) e i = (home_tokens h ∙ ap (λ (x : List Token). home_front h ++ x) e, omega arith, home_good h i)
class_right h _ e i = tt

home_right : (h : Home) (token : Token) → IsHome h → GoesOn (home_front h ++ (token ∷ [])) (nesting (home_done h)) (home_step h token)
home_right (Outside p) token i = top_right p token i
home_right (InClass p a w o ms) token i = class_right (InClass p a w o ms) token refl i

enum_right : (p : Program) (w : List ℕ) (vs : Values) (token : Token) → IsProgram p → GoesOn (corner_front (Enums p w vs) ++ (token ∷ [])) (nesting (With p (Enum w vs))) (enum_step p w vs token)
enum_right p w vs (Mark mark.Comma) i = line_right (ValueLine p w vs) (corner_front (Enums p w vs) ++ (Mark mark.Comma ∷ [])) (nesting (With p (Enum w vs))) i (simp append_assoc) (omega arith)
enum_right p w vs (Mark mark.CloseBrace) i = (simp append_assoc, omega arith, (i, tt))
enum_right p w vs _ i = tt

head_right : (p : Program) (a : Bool) (w : List ℕ) (token : Token) → IsProgram p → GoesOn (corner_front (ClassHead p a w) ++ (token ∷ [])) (nesting (corner_done (ClassHead p a w))) (head_step p a w token)
head_right p a w (Key key.Extends) i = line_right (ParentLine p a w) (corner_front (ClassHead p a w) ++ (Key key.Extends ∷ [])) (nesting (corner_done (ClassHead p a w))) i (simp append_assoc) (omega arith)
head_right p a w (Mark mark.OpenBrace) i = (simp (append_assoc, append-nil), omega arith, (i, tt))
head_right p a w _ i = tt

shape_right : (h : Home) (w : List ℕ) (token : Token) → IsHome h → GoesOn (corner_front (ShapeAt h w) ++ (token ∷ [])) (nesting (corner_done (ShapeAt h w))) (shape_step h w token)
shape_right h w (Number n) i = line_right (DotsLine h w n) (corner_front (ShapeAt h w) ++ (Number n ∷ [])) (nesting (corner_done (ShapeAt h w))) i (simp append_assoc) (let n = with_nest h (Var w Int) in omega arith)
shape_right h w (Mark mark.Minus) i = line_right (LowLine h w) (corner_front (ShapeAt h w) ++ (Mark mark.Minus ∷ [])) (nesting (corner_done (ShapeAt h w))) i (simp append_assoc) (let n = with_nest h (Var w Int) in omega arith)
shape_right h w (Key key.Int) i = line_right (EndLine h w Int) (corner_front (ShapeAt h w) ++ (Key key.Int ∷ [])) (nesting (corner_done (ShapeAt h w))) i (simp append_assoc) (let n = with_nest h (Var w Int) in omega arith)
shape_right h w (Key key.Bool) i = line_right (EndLine h w Truth) (corner_front (ShapeAt h w) ++ (Key key.Bool ∷ [])) (nesting (corner_done (ShapeAt h w))) i (simp append_assoc) (let n = with_nest h (Var w Int) in omega arith)
shape_right h w (Word v) i = (simp append_assoc, (let n = with_nest h (Var w Int) in let m = with_nest h (Var w (Named false v)) in omega arith), i)
shape_right h w (Key key.Ref) i = line_right (RefLine h w) (corner_front (ShapeAt h w) ++ (Key key.Ref ∷ [])) (nesting (corner_done (ShapeAt h w))) i (simp append_assoc) (let n = with_nest h (Var w Int) in omega arith)
shape_right h w _ i = tt

high_right : (h : Home) (w : List ℕ) (low : End) (token : Token) → IsHome h → GoesOn (corner_front (HighAt h w low) ++ (token ∷ [])) (nesting (corner_done (HighAt h w low))) (high_step h w low token)
high_right h w low (Number n) i = line_right (EndLine h w (Range low (EndOf false n))) (corner_front (HighAt h w low) ++ (Number n ∷ [])) (nesting (corner_done (HighAt h w low))) i (simp append_assoc) (let n = with_nest h (Var w (Range low (EndOf false 0))) in omega arith)
high_right h w low (Mark mark.Minus) i = line_right (HighLine h w low) (corner_front (HighAt h w low) ++ (Mark mark.Minus ∷ [])) (nesting (corner_done (HighAt h w low))) i (simp append_assoc) (let n = with_nest h (Var w (Range low (EndOf false 0))) in omega arith)
high_right h w low _ i = tt

count_right : (h : Home) (w : List ℕ) (r : Bool) (v : List ℕ) (token : Token) → IsHome h → GoesOn (corner_front (CountAt h w r v) ++ (token ∷ [])) (nesting (corner_done (CountAt h w r v))) (count_step h w r v token)
count_right h w r v (Mark mark.Semicolon) i = (with_front h (Var w (Named r v)) ∙ simp append_assoc, omega arith, with_good h (Var w (Named r v)) i tt)
count_right h w r v (Mark mark.OpenBracket) i = line_right (CountLine h w r v) (corner_front (CountAt h w r v) ++ (Mark mark.OpenBracket ∷ [])) (nesting (corner_done (CountAt h w r v))) i (simp append_assoc) (let n = with_nest h (Var w (Named r v)) in omega arith)
count_right h w r v _ i = tt

-- an operand in a ground
ground_need : (p : Ground) (tokens : List Token) (n : ℕ) (token : Token) → IsGround p → ground_front p ≡ tokens → n ≤ ground_base p → GoesOn (tokens ++ (token ∷ [])) n (need p [] token)
ground_need p tokens n token i e m = subst (λ (x : List Token). GoesOn (x ++ (token ∷ [])) n (need p [] token)) e (lower (ground_front p ++ (token ∷ [])) n (nesting (ground_done p hole)) (need p [] token) (let k = ground_nest p hole in omega arith) (need_right [] p token i))

where_right : (h : Home) (token : Token) → IsHome h → GoesOn (corner_front (WhereAt h) ++ (token ∷ [])) (nesting (corner_done (WhereAt h))) (where_step h token)
where_right h (Mark mark.OpenBrace) i = (simp append_assoc, omega arith, (i, tt))
where_right h token i = ground_need (Lone h) (corner_front (WhereAt h)) (nesting (corner_done (WhereAt h))) token i refl (let n = with_nest h (Braces NoExpr) in omega arith)

braces_row : (a es : List Token) → a ++ (Key key.Where ∷ Mark mark.OpenBrace ∷ (es ++ (Mark mark.CloseBrace ∷ []))) ≡ (a ++ (Key key.Where ∷ Mark mark.OpenBrace ∷ es)) ++ (Mark mark.CloseBrace ∷ [])
braces_row a es = simp append_assoc

braces_right : (h : Home) (es : Exprs) (token : Token) (c : Closing) → closing token ≡ c → IsHome h → AreExprs es → GoesOn (corner_front (BracesAt h es) ++ (token ∷ [])) (nesting (corner_done (BracesAt h es))) (braces_by h es token c)
braces_right h es token Closes e i j =
    along_token (corner_front (BracesAt h es)) (Mark mark.CloseBrace) token (nesting (corner_done (BracesAt h es))) (Some (At (HomeAt (home_with h (Braces es))))) (closing_is token e)
    (with_front h (Braces es) ∙ braces_row (home_front h) (exprs_tokens es), omega arith, with_good h (Braces es) i j)
braces_right h es token Other e i j = ground_need (Inner h es) (corner_front (BracesAt h es)) (nesting (corner_done (BracesAt h es))) token (i, j) refl (let n = with_nest h (Braces es) in omega arith)

corner_right : (c : Corner) (token : Token) → IsCorner c → GoesOn (corner_front c ++ (token ∷ [])) (nesting (corner_done c)) (corner_step c token)
corner_right (HomeAt h) token i = home_right h token i
corner_right (Enums p w vs) token i = enum_right p w vs token i
corner_right (ClassHead p a w) token i = head_right p a w token i
corner_right (ShapeAt h w) token i = shape_right h w token i
corner_right (HighAt h w low) token i = high_right h w low token i
corner_right (CountAt h w r v) token i = count_right h w r v token i
corner_right (WhereAt h) token i = where_right h token i
corner_right (BracesAt h es) token i = braces_right h es token (closing token) refl i.0 i.1

pub step_right : (s : State) (token : Token) → IsState s → GoesOn (front s ++ (token ∷ [])) (nesting (completed s)) (step s token)
step_right (At c) token h = corner_right c token h
step_right (Row ws read l) token h = row_right ws read l token h
step_right (Need p fs) token h = need_right fs p token h
step_right (Have p fs v) token h = along (before fs p ++ (tokens_of v ++ (token ∷ []))) (front (Have p fs v) ++ (token ∷ [])) (nesting (close fs p v)) (have fs p v token) (sym (append_assoc (before fs p) (tokens_of v) (token ∷ []))) (have_right fs p v token h.0 h.1 h.2)
step_right (Dotted p fs v) token h = dot_right fs p v token h
step_right (VarAt p fs k) token h = var_right fs p k token h
step_right (NamedAt p fs k w) token h = in_right fs p k w token h
step_right (Next p fs b) token h = again_by_right fs p b token (closing token) refl h
