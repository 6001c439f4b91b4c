-- What is spelled so is read so, whatever follows it.
use Rattle.std.proofs.Common.{◌≡◌, ◌≤◌, ◌<◌, ℕ, true, false, Bool, List, [], ◌∷◌, ◌++◌, refl, sym, ◌∙◌, ap, subst, append_assoc, arith, Option, None, Some, nat_le}
use Rattle.std.proofs.lemmas.Bool.{and_from, and_left, and_right, le-leb, lt-leb, cond-true, cond-false}
use Rattle.conf_syntax.specs.declared.token.Key.TheVariants as key
use Rattle.conf_syntax.specs.declared.token.Mark.TheVariants as mark
use Rattle.conf_syntax.specs.declared.token.Token.{Token}
use Rattle.conf_syntax.specs.declared.token.Token.TheVariants.{Word, Key, Mark}
use Rattle.conf_syntax.specs.declared.tree.Op.{Op}
use Rattle.conf_syntax.specs.declared.tree.Op.TheVariants as op
use Rattle.conf_syntax.specs.declared.tree.QuantKind.{QuantKind}
use Rattle.conf_syntax.specs.declared.tree.QuantKind.TheVariants as kind
use Rattle.conf_syntax.specs.Trees.{op_token, kind_token, op_level, left_level, may_filter}
use Rattle.conf_syntax.specs.Plain.{Sign, Negative, Negation, Tree, Leaf, Round, Dot, Under, Two, Many, Single, Head, HeadIf, First, Then, Begin, ALeaf, ASign, AQuant, begin_by, sign_token, sign_level, right_level, leaf_level, level, part, quant, bodies, semicolons, may_more, may_end, tokens_of, IsAt, IsGood}
use Rattle.conf_grammar.specs.Machine.{Home, Ground, Lone, Frame, InRight, InUnder, InRound, InOver, InFilter, InFirst, InSingle, InThen, State, At, Need, Have, Dotted, VarAt, Next, slots, Going, AnOp, ADot, NoGoing, going, left_of, made_of, goes_by, goes, gone_by, gone, ends, closes, only_if, body_frame, body, over, filters, next, single, have, where_room, need_by, need, Closing, Other, closing, again_by, where_step, ground_ends, step, onto, run}
use Rattle.conf_grammar.proofs.Steps.{level_most}

goes_true : (s n : ℕ) (g : Going) → s ≤ made_of n g → left_of g ≤ n → goes_by s n g ≡ true
goes_true s n g a b = and_from (nat_le s (made_of n g)) (nat_le (left_of g) n) (le-leb s (made_of n g) a) (le-leb (left_of g) n b)

goes_low : (s n : ℕ) (g : Going) → made_of n g < s → goes_by s n g ≡ false
goes_low s n g a = and_left (nat_le s (made_of n g)) (nat_le (left_of g) n) (lt-leb s (made_of n g) a)

goes_high : (s n : ℕ) (g : Going) → n < left_of g → goes_by s n g ≡ false
goes_high s n g a = and_right (nat_le s (made_of n g)) (nat_le (left_of g) n) (lt-leb (left_of g) n a)

-- no operand at the right edge goes on with the token
abbrev IsShut : Tree → Going → Type 0
IsShut (Two o l r) g = (goes_by (right_level o) (level r) g ≡ false) × IsShut r g
IsShut (Under s e) g = (goes_by (sign_level s) (level e) g ≡ false) × IsShut e g
IsShut (HeadIf h f) g = IsShut f g
IsShut (Leaf t) g = Unit {0}
IsShut (Round e) g = Unit {0}
IsShut (Dot e w) g = Unit {0}
IsShut (Many b) g = Unit {0}
IsShut (Single h e) g = Unit {0}
IsShut (Head k w v) g = Unit {0}
IsShut (First h e) g = Unit {0}
IsShut (Then b e) g = Unit {0}

shut_still : (v : Tree) (g : Going) → 12 ≤ left_of g → IsShut v g
shut_still (Two o l r) g h = (goes_high (right_level o) (level r) g (let m = level_most r in omega arith), shut_still r g h)
shut_still (Under s e) g h = (goes_high (sign_level s) (level e) g (let m = level_most e in omega arith), shut_still e g h)
shut_still (HeadIf k f) g h = shut_still f g h
shut_still (Leaf t) g h = tt
shut_still (Round e) g h = tt
shut_still (Dot e w) g h = tt
shut_still (Many b) g h = tt
shut_still (Single k e) g h = tt
shut_still (Head k w v) g h = tt
shut_still (First k e) g h = tt
shut_still (Then b e) g h = tt

pub record OpFacts (o : Op) : Type 0 where
  pub low : op_level o ≤ left_level o
  pub right : op_level o ≤ right_level o
  pub most : op_level o ≤ 8
  pub one : 2 ≤ op_level o → op_level o < right_level o
  pub left : left_level o ≤ 7
  pub not : left_level o ≤ 4 → op_level o < 4
  pub less : op_level o ≤ 1 → op_level o < left_level o
  pub going_is : going (op_token o) ≡ AnOp o

pub op_facts : (o : Op) → OpFacts o
op_facts op.Implies = record { low = omega arith; right = omega arith; most = omega arith; one = λ h. omega arith; left = omega arith; not = λ h. omega arith; less = λ h. omega arith; going_is = refl }
op_facts op.Or = record { low = omega arith; right = omega arith; most = omega arith; one = λ h. omega arith; left = omega arith; not = λ h. omega arith; less = λ h. omega arith; going_is = refl }
op_facts op.And = record { low = omega arith; right = omega arith; most = omega arith; one = λ h. omega arith; left = omega arith; not = λ h. omega arith; less = λ h. omega arith; going_is = refl }
op_facts op.Eq = record { low = omega arith; right = omega arith; most = omega arith; one = λ h. omega arith; left = omega arith; not = λ h. omega arith; less = λ h. omega arith; going_is = refl }
op_facts op.Ne = record { low = omega arith; right = omega arith; most = omega arith; one = λ h. omega arith; left = omega arith; not = λ h. omega arith; less = λ h. omega arith; going_is = refl }
op_facts op.Lt = record { low = omega arith; right = omega arith; most = omega arith; one = λ h. omega arith; left = omega arith; not = λ h. omega arith; less = λ h. omega arith; going_is = refl }
op_facts op.Le = record { low = omega arith; right = omega arith; most = omega arith; one = λ h. omega arith; left = omega arith; not = λ h. omega arith; less = λ h. omega arith; going_is = refl }
op_facts op.Gt = record { low = omega arith; right = omega arith; most = omega arith; one = λ h. omega arith; left = omega arith; not = λ h. omega arith; less = λ h. omega arith; going_is = refl }
op_facts op.Ge = record { low = omega arith; right = omega arith; most = omega arith; one = λ h. omega arith; left = omega arith; not = λ h. omega arith; less = λ h. omega arith; going_is = refl }
op_facts op.In = record { low = omega arith; right = omega arith; most = omega arith; one = λ h. omega arith; left = omega arith; not = λ h. omega arith; less = λ h. omega arith; going_is = refl }
op_facts op.Add = record { low = omega arith; right = omega arith; most = omega arith; one = λ h. omega arith; left = omega arith; not = λ h. omega arith; less = λ h. omega arith; going_is = refl }
op_facts op.Sub = record { low = omega arith; right = omega arith; most = omega arith; one = λ h. omega arith; left = omega arith; not = λ h. omega arith; less = λ h. omega arith; going_is = refl }
op_facts op.Mul = record { low = omega arith; right = omega arith; most = omega arith; one = λ h. omega arith; left = omega arith; not = λ h. omega arith; less = λ h. omega arith; going_is = refl }

record GoingFacts (n : ℕ) (g : Going) : Type 0 where
  low : left_of g ≤ 8 → made_of n g ≤ left_of g
  one : left_of g ≤ 8 → made_of n g ≤ 1 → made_of n g < left_of g
  not : left_of g ≤ 4 → made_of n g < 4
  minus : left_of g ≤ 8 → made_of n g < 8

minus_op : (o : Op) → op_level o < 8
minus_op op.Implies = omega arith
minus_op op.Or = omega arith
minus_op op.And = omega arith
minus_op op.Eq = omega arith
minus_op op.Ne = omega arith
minus_op op.Lt = omega arith
minus_op op.Le = omega arith
minus_op op.Gt = omega arith
minus_op op.Ge = omega arith
minus_op op.In = omega arith
minus_op op.Add = omega arith
minus_op op.Sub = omega arith
minus_op op.Mul = omega arith

going_facts : (n : ℕ) (g : Going) → GoingFacts n g
going_facts n (AnOp o) = let f = op_facts o in record { low = λ h. f.low; one = λ h k. f.less k; not = f.not; minus = λ h. minus_op o }
going_facts n ADot = record { low = λ h. absurd (omega arith); one = λ h k. absurd (omega arith); not = λ h. absurd (omega arith); minus = λ h. absurd (omega arith) }
going_facts n NoGoing = record { low = λ h. absurd (omega arith); one = λ h k. absurd (omega arith); not = λ h. absurd (omega arith); minus = λ h. absurd (omega arith) }

edge : (a m b r : ℕ) → a ≤ b → b ≤ 8 → b ≤ r → (a ≤ 8 → m ≤ a) → (a ≤ 8 → m ≤ 1 → m < a) → (2 ≤ b → b < r) → m < r
edge a m b r h most right low one two = grind arith

sign_edge : (s : Sign) (n : ℕ) (g : Going) → left_of g ≤ sign_level s → made_of n g < sign_level s
sign_edge Negative n g h = (going_facts n g).minus h
sign_edge Negation n g h = (going_facts n g).not h

-- what stands left of an operator goes on with it only as a whole
shut_left : (v : Tree) (g : Going) → IsGood v → part v ≡ 0 → left_of g ≤ level v → IsShut v g
shut_left (Two o l r) g i k h =
    let f = op_facts o in
    let e = going_facts (level r) g in
    let below : made_of (level r) g < right_level o = edge (left_of g) (made_of (level r) g) (op_level o) (right_level o) h f.most f.right e.low e.one f.one in
    (goes_low (right_level o) (level r) g below, shut_left r g i.1 i.3.0 (let a = f.right in let b = i.3.1 in omega arith))
shut_left (Under s x) g i k h = (goes_low (sign_level s) (level x) g (sign_edge s (level x) g h), shut_left x g i.0 i.1.0 (let b = i.1.1 in omega arith))
shut_left (HeadIf q f) g i k h = absurd (omega arith)
shut_left (Leaf t) g i k h = tt
shut_left (Round e) g i k h = tt
shut_left (Dot e w) g i k h = tt
shut_left (Many b) g i k h = tt
shut_left (Single q e) g i k h = tt
shut_left (Head q w v) g i k h = tt
shut_left (First q e) g i k h = tt
shut_left (Then b e) g i k h = tt

sign_most : (s : Sign) → sign_level s ≤ 8
sign_most Negative = omega arith
sign_most Negation = omega arith

shut_path : (v : Tree) (g : Going) → 11 ≤ level v → IsShut v g
shut_path (Two o l r) g h = absurd (let f = op_facts o in let m = f.most in omega arith)
shut_path (Under s x) g h = absurd (let m = sign_most s in omega arith)
shut_path (HeadIf q f) g h = absurd (omega arith)
shut_path (Leaf t) g h = tt
shut_path (Round e) g h = tt
shut_path (Dot e w) g h = tt
shut_path (Many b) g h = tt
shut_path (Single q e) g h = tt
shut_path (Head q w v) g h = tt
shut_path (First q e) g h = tt
shut_path (Then b e) g h = tt

shut_bodies : (v : Tree) (g : Going) → part v ≡ 3 → IsShut v g
shut_bodies (First q e) g h = tt
shut_bodies (Then b e) g h = tt
shut_bodies (Leaf t) g h = tt
shut_bodies (Round e) g h = tt
shut_bodies (Dot e w) g h = tt
shut_bodies (Many b) g h = tt
shut_bodies (Single q e) g h = tt
shut_bodies (Head q w v) g h = tt
shut_bodies (HeadIf q f) g h = absurd (omega arith)
shut_bodies (Two o l r) g h = absurd (omega arith)
shut_bodies (Under s x) g h = absurd (omega arith)

-- the state behind a tree, or behind a part of a quantifier
abbrev landed : Tree → Ground → List Frame → State
landed (Head k w q) p fs = Have p (InOver k w ∷ fs) q
landed (HeadIf h f) p fs = Have p (InFilter h ∷ fs) f
landed (First h e) p fs = Next p fs (First h e)
landed (Then b e) p fs = Next p fs (Then b e)
landed (Leaf t) p fs = Have p fs (Leaf t)
landed (Round e) p fs = Have p fs (Round e)
landed (Dot e w) p fs = Have p fs (Dot e w)
landed (Under s e) p fs = Have p fs (Under s e)
landed (Two o l r) p fs = Have p fs (Two o l r)
landed (Many b) p fs = Have p fs (Many b)
landed (Single h e) p fs = Have p fs (Single h e)

landed_plain : (v : Tree) (p : Ground) (fs : List Frame) → part v ≡ 0 → landed v p fs ≡ Have p fs v
landed_plain (Head k w q) p fs h = absurd (omega arith)
landed_plain (HeadIf k f) p fs h = absurd (omega arith)
landed_plain (First k e) p fs h = absurd (omega arith)
landed_plain (Then b e) p fs h = absurd (omega arith)
landed_plain (Leaf t) p fs h = refl
landed_plain (Round e) p fs h = refl
landed_plain (Dot e w) p fs h = refl
landed_plain (Under s e) p fs h = refl
landed_plain (Two o l r) p fs h = refl
landed_plain (Many b) p fs h = refl
landed_plain (Single q e) p fs h = refl

landed_bodies : (v : Tree) (p : Ground) (fs : List Frame) → part v ≡ 3 → landed v p fs ≡ Next p fs v
landed_bodies (First k e) p fs h = refl
landed_bodies (Then b e) p fs h = refl
landed_bodies _ p fs h = absurd (omega arith)

pub if_is : (b : Bool) (s : State) → b ≡ true → only_if b s ≡ Some s
if_is b s h = cond-true b (Some s) None h

landed_where : (v : Tree) (p : Ground) (fs : List Frame) → part v ≡ 1 → may_filter (quant v) ≡ true → step (landed v p fs) (Key key.Where) ≡ Some (Need p (InFilter v ∷ fs))
landed_where (Head k w q) p fs h e = if_is (may_filter k) (Need p (InFilter (Head k w q) ∷ fs)) e
landed_where _ p fs h e = absurd (omega arith)

landed_begin : (v : Tree) (p : Ground) (fs : List Frame) → 1 ≤ part v → part v ≤ 2 → step (landed v p fs) (Mark mark.OpenBrace) ≡ Some (Need p (body v ∷ fs))
landed_begin (Head k w q) p fs h i = refl
landed_begin (HeadIf q f) p fs h i = refl
landed_begin _ p fs h i = absurd (omega arith)

level_part : (v : Tree) → 1 ≤ part v → level v ≡ 10
level_part (Head k w q) h = refl
level_part (HeadIf q f) h = refl
level_part (First q e) h = refl
level_part (Then b e) h = refl
level_part _ h = absurd (omega arith)

-- the first token of a tree begins an operand
pub record Begins (tokens : List Token) : Type 0 where
  pub token : Token
  pub rest : List Token
  pub is : tokens ≡ token ∷ rest
  pub other : closing token ≡ Other
  pub where_is : (h : Home) → where_step h token ≡ need (Lone h) [] token

begins_more : (a b : List Token) → Begins a → Begins (a ++ b)
begins_more a b h = record { token = h.token; rest = h.rest ++ b; is = ap (λ (x : List Token). x ++ b) h.is; other = h.other; where_is = h.where_is }

leaf_other : (t : Token) → begin_by t ≡ ALeaf → closing t ≡ Other
leaf_other (Mark mark.CloseBrace) e = absurd cc
leaf_other _ e = refl

leaf_where : (t : Token) → begin_by t ≡ ALeaf → (h : Home) → where_step h t ≡ need (Lone h) [] t
leaf_where (Mark mark.OpenBrace) e = absurd cc
leaf_where _ e = λ h. refl

sign_other : (s : Sign) (rest : List Token) → Begins (sign_token s ∷ rest)
sign_other Negative rest = record { token = Mark mark.Minus; rest = rest; is = refl; other = refl; where_is = λ h. refl }
sign_other Negation rest = record { token = Key key.Not; rest = rest; is = refl; other = refl; where_is = λ h. refl }

kind_other : (k : QuantKind) (rest : List Token) → Begins (kind_token k ∷ rest)
kind_other kind.Forall rest = record { token = Key key.Forall; rest = rest; is = refl; other = refl; where_is = λ h. refl }
kind_other kind.Exists rest = record { token = Key key.Exists; rest = rest; is = refl; other = refl; where_is = λ h. refl }
kind_other kind.Sum rest = record { token = Key key.Sum; rest = rest; is = refl; other = refl; where_is = λ h. refl }
kind_other kind.Count rest = record { token = Key key.Count; rest = rest; is = refl; other = refl; where_is = λ h. refl }
kind_other kind.AllDifferent rest = record { token = Key key.AllDifferent; rest = rest; is = refl; other = refl; where_is = λ h. refl }
kind_other kind.Pack rest = record { token = Key key.Pack; rest = rest; is = refl; other = refl; where_is = λ h. refl }

pub begins : (v : Tree) → IsGood v → Begins (tokens_of v)
begins (Leaf t) g = record { token = t; rest = []; is = refl; other = leaf_other t g; where_is = leaf_where t g }
begins (Round e) g = record { token = Mark mark.OpenParen; rest = tokens_of e ++ (Mark mark.CloseParen ∷ []); is = refl; other = refl; where_is = λ h. refl }
begins (Dot e w) g = begins_more (tokens_of e) (Mark mark.Dot ∷ Word w ∷ []) (begins e g.0)
begins (Under s e) g = sign_other s (tokens_of e)
begins (Two o l r) g = begins_more (tokens_of l) (op_token o ∷ tokens_of r) (begins l g.0)
begins (Many b) g = begins_more (tokens_of b) (Mark mark.CloseBrace ∷ []) (begins b g.0)
begins (Single h e) g = begins_more (tokens_of h) (Mark mark.OpenBrace ∷ (tokens_of e ++ (Mark mark.CloseBrace ∷ []))) (begins h g.0)
begins (Head k w q) g = kind_other k (Word w ∷ Key key.In ∷ tokens_of q)
begins (HeadIf h f) g = begins_more (tokens_of h) (Key key.Where ∷ tokens_of f) (begins h g.0)
begins (First h e) g = begins_more (tokens_of h) (Mark mark.OpenBrace ∷ (tokens_of e ++ (Mark mark.Semicolon ∷ []))) (begins h g.0)
begins (Then b e) g = begins_more (tokens_of b) (tokens_of e ++ (Mark mark.Semicolon ∷ [])) (begins b g.0)

pub have_goes : (fs : List Frame) (p : Ground) (v : Tree) (token : Token) → goes (slots fs) (level v) token ≡ true → have fs p v token ≡ Some (gone p fs v token)
have_goes [] p v token e = cond-true (goes 1 (level v) token) (Some (gone p [] v token)) (ends p v token) e
have_goes (InRight o l ∷ fs) p v token e = cond-true (goes (right_level o) (level v) token) (Some (gone p (InRight o l ∷ fs) v token)) (have fs p (Two o l v) token) e
have_goes (InUnder s ∷ fs) p v token e = cond-true (goes (sign_level s) (level v) token) (Some (gone p (InUnder s ∷ fs) v token)) (have fs p (Under s v) token) e
have_goes (InRound ∷ fs) p v token e = cond-true (goes 1 (level v) token) (Some (gone p (InRound ∷ fs) v token)) (closes p fs v token) e
have_goes (InOver k w ∷ fs) p v token e = cond-true (goes 11 (level v) token) (Some (gone p (InOver k w ∷ fs) v token)) (over p fs k w v token) e
have_goes (InFilter h ∷ fs) p v token e = cond-true (goes 1 (level v) token) (Some (gone p (InFilter h ∷ fs) v token)) (filters p fs h v token) e
have_goes (InFirst h ∷ fs) p v token e = cond-true (goes 1 (level v) token) (Some (gone p (InFirst h ∷ fs) v token)) (next p fs (First h v) token) e
have_goes (InSingle h ∷ fs) p v token e = cond-true (goes 1 (level v) token) (Some (gone p (InSingle h ∷ fs) v token)) (single p fs h v token) e
have_goes (InThen b ∷ fs) p v token e = cond-true (goes 1 (level v) token) (Some (gone p (InThen b ∷ fs) v token)) (next p fs (Then b v) token) e

pub room_is : (least most : ℕ) (s : State) → least ≤ most → where_room least most s ≡ Some s
room_is least most s h = if_is (nat_le least most) s (le-leb least most h)

-- one step more
pub stepped : (token : Token) (rest : List Token) (s s' : State) → step s token ≡ Some s' → run (token ∷ rest) s ≡ run rest s'
stepped token rest s s' e = ap (λ (x : Option State). onto x (λ y. run rest y)) e

leaf_need : (p : Ground) (fs : List Frame) (t : Token) → begin_by t ≡ ALeaf → slots fs ≤ leaf_level t → need p fs t ≡ Some (Have p fs (Leaf t))
leaf_need p fs t e h = ap (λ (x : Begin). need_by p fs t x) e ∙ room_is (slots fs) (leaf_level t) (Have p fs (Leaf t)) h

pub sign_begin : (s : Sign) → begin_by (sign_token s) ≡ ASign s
sign_begin Negative = refl
sign_begin Negation = refl

pub kind_begin : (k : QuantKind) → begin_by (kind_token k) ≡ AQuant k
kind_begin kind.Forall = refl
kind_begin kind.Exists = refl
kind_begin kind.Sum = refl
kind_begin kind.Count = refl
kind_begin kind.AllDifferent = refl
kind_begin kind.Pack = refl

pub sign_need : (p : Ground) (fs : List Frame) (s : Sign) → slots fs ≤ sign_level s → need p fs (sign_token s) ≡ Some (Need p (InUnder s ∷ fs))
sign_need p fs s h = ap (λ (x : Begin). need_by p fs (sign_token s) x) (sign_begin s) ∙ room_is (slots fs) (sign_level s) (Need p (InUnder s ∷ fs)) h

pub kind_need : (p : Ground) (fs : List Frame) (k : QuantKind) → slots fs ≤ 10 → need p fs (kind_token k) ≡ Some (VarAt p fs k)
kind_need p fs k h = ap (λ (x : Begin). need_by p fs (kind_token k) x) (kind_begin k) ∙ room_is (slots fs) 10 (VarAt p fs k) h

pub op_goes : (fs : List Frame) (p : Ground) (l : Tree) (o : Op) → slots fs ≤ op_level o → left_level o ≤ level l → have fs p l (op_token o) ≡ Some (Need p (InRight o l ∷ fs))
op_goes fs p l o s h =
    let f = op_facts o in
    have_goes fs p l (op_token o) (ap (λ (x : Going). goes_by (slots fs) (level l) x) f.going_is ∙ goes_true (slots fs) (level l) (AnOp o) s h)
    ∙ ap (λ (x : Going). Some (gone_by p fs l x)) f.going_is

then_row : (a e z : List Token) → (a ++ (e ++ (Mark mark.Semicolon ∷ []))) ++ z ≡ a ++ (e ++ (Mark mark.Semicolon ∷ z))
then_row a e z = simp append_assoc

again_other : (p : Ground) (fs : List Frame) (b : Tree) (token : Token) → closing token ≡ Other → may_more (quant b) (bodies b) ≡ true → step (Next p fs b) token ≡ need p (InThen b ∷ fs) token
again_other p fs b token e m = ap (λ (x : Closing). again_by p fs b token x) e ∙ cond-true (may_more (quant b) (bodies b)) (need p (InThen b ∷ fs) token) None m

body_is : (b : Bool) (h : Tree) → semicolons (quant h) ≡ b → body h ≡ body_frame b h
body_is b h e = ap (λ (x : Bool). body_frame x h) e

pub read_back : (v : Tree) (fs : List Frame) (p : Ground) (token : Token) (rest : List Token) → IsGood v → slots fs ≤ level v → IsShut v (going token) → run (tokens_of v ++ (token ∷ rest)) (Need p fs) ≡ run (token ∷ rest) (landed v p fs)
read_back (Leaf t) fs p token rest g h c = stepped t (token ∷ rest) (Need p fs) (Have p fs (Leaf t)) (leaf_need p fs t g h)
read_back (Round e) fs p token rest g h c =
    stepped (Mark mark.OpenParen) ((tokens_of e ++ (Mark mark.CloseParen ∷ [])) ++ (token ∷ rest)) (Need p fs) (Need p (InRound ∷ fs)) (room_is (slots fs) 10 (Need p (InRound ∷ fs)) h)
    ∙ ap (λ (x : List Token). run x (Need p (InRound ∷ fs))) (append_assoc (tokens_of e) (Mark mark.CloseParen ∷ []) (token ∷ rest))
    ∙ read_back e (InRound ∷ fs) p (Mark mark.CloseParen) (token ∷ rest) g.0 g.1.1 (shut_still e NoGoing (omega arith))
    ∙ ap (λ (x : State). run (Mark mark.CloseParen ∷ token ∷ rest) x) (landed_plain e p (InRound ∷ fs) g.1.0)
read_back (Dot e w) fs p token rest g h c =
    let m = level_most e in
    let b = g.1.1 in
    ap (λ (x : List Token). run x (Need p fs)) (append_assoc (tokens_of e) (Mark mark.Dot ∷ Word w ∷ []) (token ∷ rest))
    ∙ read_back e fs p (Mark mark.Dot) (Word w ∷ token ∷ rest) g.0 (omega arith) (shut_left e ADot g.0 g.1.0 b)
    ∙ ap (λ (x : State). run (Mark mark.Dot ∷ Word w ∷ token ∷ rest) x) (landed_plain e p fs g.1.0)
    ∙ stepped (Mark mark.Dot) (Word w ∷ token ∷ rest) (Have p fs e) (Dotted p fs e) (have_goes fs p e (Mark mark.Dot) (goes_true (slots fs) (level e) ADot h b))
read_back (Under s e) fs p token rest g h c =
    stepped (sign_token s) (tokens_of e ++ (token ∷ rest)) (Need p fs) (Need p (InUnder s ∷ fs)) (sign_need p fs s h)
    ∙ read_back e (InUnder s ∷ fs) p token rest g.0 g.1.1 c.1
    ∙ ap (λ (x : State). run (token ∷ rest) x) (landed_plain e p (InUnder s ∷ fs) g.1.0)
    ∙ ap (λ (x : Option State). onto x (λ y. run rest y)) (cond-false (goes (sign_level s) (level e) token) (Some (gone p (InUnder s ∷ fs) e token)) (have fs p (Under s e) token) c.0)
read_back (Two o l r) fs p token rest g h c =
    let f = op_facts o in
    let a = f.low in
    let b = g.2.1 in
    ap (λ (x : List Token). run x (Need p fs)) (append_assoc (tokens_of l) (op_token o ∷ tokens_of r) (token ∷ rest))
    ∙ read_back l fs p (op_token o) (tokens_of r ++ (token ∷ rest)) g.0 (omega arith) (subst (λ (x : Going). IsShut l x) (sym f.going_is) (shut_left l (AnOp o) g.0 g.2.0 b))
    ∙ ap (λ (x : State). run (op_token o ∷ (tokens_of r ++ (token ∷ rest))) x) (landed_plain l p fs g.2.0)
    ∙ stepped (op_token o) (tokens_of r ++ (token ∷ rest)) (Have p fs l) (Need p (InRight o l ∷ fs)) (op_goes fs p l o h b)
    ∙ read_back r (InRight o l ∷ fs) p token rest g.1 g.3.1 c.1
    ∙ ap (λ (x : State). run (token ∷ rest) x) (landed_plain r p (InRight o l ∷ fs) g.3.0)
    ∙ ap (λ (x : Option State). onto x (λ y. run rest y)) (cond-false (goes (right_level o) (level r) token) (Some (gone p (InRight o l ∷ fs) r token)) (have fs p (Two o l r) token) c.0)
read_back (Many b) fs p token rest g h c =
    let l = level_part b (omega (arith, g.1)) in
    ap (λ (x : List Token). run x (Need p fs)) (append_assoc (tokens_of b) (Mark mark.CloseBrace ∷ []) (token ∷ rest))
    ∙ read_back b fs p (Mark mark.CloseBrace) (token ∷ rest) g.0 (omega arith) (shut_still b NoGoing (omega arith))
    ∙ ap (λ (x : State). run (Mark mark.CloseBrace ∷ token ∷ rest) x) (landed_bodies b p fs g.1)
    ∙ stepped (Mark mark.CloseBrace) (token ∷ rest) (Next p fs b) (Have p fs (Many b)) (if_is (may_end (quant b) (bodies b)) (Have p fs (Many b)) g.2)
read_back (Single q e) fs p token rest g h c =
    let l = level_part q g.2.0 in
    let f = body_is false q g.4 in
    ap (λ (x : List Token). run x (Need p fs)) (append_assoc (tokens_of q) (Mark mark.OpenBrace ∷ (tokens_of e ++ (Mark mark.CloseBrace ∷ []))) (token ∷ rest))
    ∙ read_back q fs p (Mark mark.OpenBrace) ((tokens_of e ++ (Mark mark.CloseBrace ∷ [])) ++ (token ∷ rest)) g.0 (omega arith) (shut_still q NoGoing (omega arith))
    ∙ stepped (Mark mark.OpenBrace) ((tokens_of e ++ (Mark mark.CloseBrace ∷ [])) ++ (token ∷ rest)) (landed q p fs) (Need p (InSingle q ∷ fs)) (landed_begin q p fs g.2.0 g.2.1 ∙ ap (λ (x : Frame). Some (Need p (x ∷ fs))) f)
    ∙ ap (λ (x : List Token). run x (Need p (InSingle q ∷ fs))) (append_assoc (tokens_of e) (Mark mark.CloseBrace ∷ []) (token ∷ rest))
    ∙ read_back e (InSingle q ∷ fs) p (Mark mark.CloseBrace) (token ∷ rest) g.1 g.3.1 (shut_still e NoGoing (omega arith))
    ∙ ap (λ (x : State). run (Mark mark.CloseBrace ∷ token ∷ rest) x) (landed_plain e p (InSingle q ∷ fs) g.3.0)
read_back (Head k w q) fs p token rest g h c =
    stepped (kind_token k) (Word w ∷ Key key.In ∷ (tokens_of q ++ (token ∷ rest))) (Need p fs) (VarAt p fs k) (kind_need p fs k h)
    ∙ read_back q (InOver k w ∷ fs) p token rest g.0 g.1.1 (shut_path q (going token) g.1.1)
    ∙ ap (λ (x : State). run (token ∷ rest) x) (landed_plain q p (InOver k w ∷ fs) g.1.0)
read_back (HeadIf q f) fs p token rest g h c =
    let l = level_part q (omega (arith, g.2)) in
    ap (λ (x : List Token). run x (Need p fs)) (append_assoc (tokens_of q) (Key key.Where ∷ tokens_of f) (token ∷ rest))
    ∙ read_back q fs p (Key key.Where) (tokens_of f ++ (token ∷ rest)) g.0 (omega arith) (shut_still q NoGoing (omega arith))
    ∙ stepped (Key key.Where) (tokens_of f ++ (token ∷ rest)) (landed q p fs) (Need p (InFilter q ∷ fs)) (landed_where q p fs g.2 g.4)
    ∙ read_back f (InFilter q ∷ fs) p token rest g.1 g.3.1 c
    ∙ ap (λ (x : State). run (token ∷ rest) x) (landed_plain f p (InFilter q ∷ fs) g.3.0)
read_back (First q e) fs p token rest g h c =
    let l = level_part q g.2.0 in
    let f = body_is true q g.4 in
    ap (λ (x : List Token). run x (Need p fs)) (append_assoc (tokens_of q) (Mark mark.OpenBrace ∷ (tokens_of e ++ (Mark mark.Semicolon ∷ []))) (token ∷ rest))
    ∙ read_back q fs p (Mark mark.OpenBrace) ((tokens_of e ++ (Mark mark.Semicolon ∷ [])) ++ (token ∷ rest)) g.0 (omega arith) (shut_still q NoGoing (omega arith))
    ∙ stepped (Mark mark.OpenBrace) ((tokens_of e ++ (Mark mark.Semicolon ∷ [])) ++ (token ∷ rest)) (landed q p fs) (Need p (InFirst q ∷ fs)) (landed_begin q p fs g.2.0 g.2.1 ∙ ap (λ (x : Frame). Some (Need p (x ∷ fs))) f)
    ∙ ap (λ (x : List Token). run x (Need p (InFirst q ∷ fs))) (append_assoc (tokens_of e) (Mark mark.Semicolon ∷ []) (token ∷ rest))
    ∙ read_back e (InFirst q ∷ fs) p (Mark mark.Semicolon) (token ∷ rest) g.1 g.3.1 (shut_still e NoGoing (omega arith))
    ∙ ap (λ (x : State). run (Mark mark.Semicolon ∷ token ∷ rest) x) (landed_plain e p (InFirst q ∷ fs) g.3.0)
read_back (Then b e) fs p token rest g h c =
    let l = level_part b (omega (arith, g.2)) in
    let n = begins e g.1 in
    ap (λ (x : List Token). run x (Need p fs)) (then_row (tokens_of b) (tokens_of e) (token ∷ rest) ∙ ap (λ (x : List Token). tokens_of b ++ (x ++ (Mark mark.Semicolon ∷ token ∷ rest))) n.is)
    ∙ read_back b fs p n.token (n.rest ++ (Mark mark.Semicolon ∷ token ∷ rest)) g.0 (omega arith) (shut_bodies b (going n.token) g.2)
    ∙ ap (λ (x : State). run (n.token ∷ (n.rest ++ (Mark mark.Semicolon ∷ token ∷ rest))) x) (landed_bodies b p fs g.2)
    ∙ ap (λ (x : Option State). onto x (λ y. run (n.rest ++ (Mark mark.Semicolon ∷ token ∷ rest)) y)) (again_other p fs b n.token n.other g.4)
    ∙ sym (ap (λ (x : List Token). run (x ++ (Mark mark.Semicolon ∷ token ∷ rest)) (Need p (InThen b ∷ fs))) n.is)
    ∙ read_back e (InThen b ∷ fs) p (Mark mark.Semicolon) (token ∷ rest) g.1 g.3.1 (shut_still e NoGoing (omega arith))
    ∙ ap (λ (x : State). run (Mark mark.Semicolon ∷ token ∷ rest) x) (landed_plain e p (InThen b ∷ fs) g.3.0)

-- an expression with its semicolon
pub expr_back : (e : Tree) (p : Ground) (rest : List Token) → IsGood e → IsAt 1 e → run (tokens_of e ++ (Mark mark.Semicolon ∷ rest)) (Need p []) ≡ run rest (At (ground_ends p e))
expr_back e p rest g a =
    read_back e [] p (Mark mark.Semicolon) rest g a.1 (shut_still e NoGoing (omega arith))
    ∙ ap (λ (x : State). run (Mark mark.Semicolon ∷ rest) x) (landed_plain e p [] a.0)
