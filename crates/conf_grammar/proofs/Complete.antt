-- Each state has a program that begins with what was read.
use Rattle.std.proofs.Common.{◌≡◌, ◌≤◌, ◌+◌, ℕ, zero, suc, true, false, Bool, List, [], ◌∷◌, ◌++◌, refl, sym, ◌∙◌, ap, append_assoc, append-nil, arith, max}
use Rattle.std.proofs.lemmas.Bool.{le-leb, leb-true}
use Rattle.conf_syntax.specs.declared.token.Key.TheVariants as key
use Rattle.conf_syntax.specs.declared.token.Mark.TheVariants as mark
use Rattle.conf_syntax.specs.declared.token.Token.{Token}
use Rattle.conf_syntax.specs.declared.token.Token.TheVariants.{Word, Key, Mark}
use Rattle.conf_syntax.specs.declared.tree.Op.TheVariants as op
use Rattle.conf_syntax.specs.declared.tree.QuantKind.{QuantKind}
use Rattle.conf_syntax.specs.declared.tree.QuantKind.TheVariants as kind
use Rattle.conf_syntax.specs.Trees.{kind_token}
use Rattle.conf_grammar.specs.declared.piece.Piece.{Piece}
use Rattle.conf_grammar.specs.declared.piece.Piece.TheVariants as piece
use Rattle.conf_syntax.specs.Plain.{Negative, Negation, Tree, Leaf, Round, Dot, Under, Two, Many, Single, Head, HeadIf, First, Then, part, quant, bodies, semicolons, may_more, may_end, tokens_of, program_tokens, IsAt, IsHead, IsGood, IsProgram, nest, nesting}
use Rattle.conf_grammar.specs.Machine.{Ground, Frame, InRight, InUnder, InRound, InOver, InFilter, InFirst, InSingle, InThen, State, At, Row, Need, Have, Dotted, VarAt, NamedAt, Next, slots, takes_all, word, leasts, hole, missing, fill, filled, opened_by, opened, close, completed, arrive}
use Rattle.conf_grammar.specs.Fronts.{before, front, AreFrames, IsState, fills, closing_of, opened_back_by, opened_back, after, back, line_front, corner_front, corner_back}
use Rattle.conf_grammar.proofs.Homes.{ground_tokens, ground_good, ground_nest, corner_tokens, corner_good}

pub nest_some : (v : Tree) → 1 ≤ nest v
nest_some (Leaf t) = omega arith
nest_some (Round e) = omega arith
nest_some (Dot e w) = omega arith
nest_some (Under s e) = omega arith
nest_some (Two o l r) = omega arith
nest_some (Many b) = omega arith
nest_some (Single h e) = omega arith
nest_some (Head k w v) = nest_some v
nest_some (HeadIf h f) = let e = nest_some h in omega arith
nest_some (First h e) = let k = nest_some h in omega arith
nest_some (Then b e) = let k = nest_some b in omega arith

-- Bodies that are missing

pub fill_nest : (n : ℕ) (b : Tree) → nest (fill n b) ≡ nest b
fill_nest zero b = refl
fill_nest (suc n) b = fill_nest n (Then b hole) ∙ (let e = nest_some b in omega arith)

pub filled_nest : (b : Tree) → nest (filled b) ≡ 1 + nest b
filled_nest b = ap (λ (x : ℕ). 1 + x) (fill_nest (missing (quant b) (bodies b)) b)

body_row : (b x : List Token) → (b ++ (Word word ∷ Mark mark.Semicolon ∷ [])) ++ x ≡ b ++ (Word word ∷ Mark mark.Semicolon ∷ x)
body_row b x = simp append_assoc

pub fill_tokens : (n : ℕ) (b : Tree) → tokens_of (fill n b) ≡ tokens_of b ++ fills n
fill_tokens zero b = sym (append-nil (tokens_of b))
fill_tokens (suc n) b = fill_tokens n (Then b hole) ∙ body_row (tokens_of b) (fills n)

pub filled_tokens : (b : Tree) → tokens_of (filled b) ≡ tokens_of b ++ closing_of (quant b) (bodies b)
filled_tokens b = ap (λ (x : List Token). x ++ (Mark mark.CloseBrace ∷ [])) (fill_tokens (missing (quant b) (bodies b)) b) ∙ append_assoc (tokens_of b) (fills (missing (quant b) (bodies b))) (Mark mark.CloseBrace ∷ [])

-- no more bodies than there may be
abbrev IsFew : QuantKind → ℕ → Type 0
IsFew kind.Pack n = n ≤ 3
IsFew _ n = Unit {0}

few_one : (k : QuantKind) → IsFew k 1
few_one kind.Pack = omega arith
few_one _ = tt

few_more : (k : QuantKind) (n : ℕ) → may_more k n ≡ true → IsFew k (1 + n)
few_more kind.Pack n e = let l = leb-true n 2 e in omega arith
few_more kind.Forall n e = tt
few_more kind.Exists n e = tt
few_more kind.Sum n e = tt
few_more kind.Count n e = tt
few_more kind.AllDifferent n e = tt

pub few : (b : Tree) → IsGood b → part b ≡ 3 → IsFew (quant b) (bodies b)
few (First h e) g k = few_one (quant h)
few (Then b e) g k = few_more (quant b) (bodies b) g.4
few (Leaf t) g k = absurd (omega arith)
few (Round e) g k = absurd (omega arith)
few (Dot e w) g k = absurd (omega arith)
few (Under s e) g k = absurd (omega arith)
few (Two o l r) g k = absurd (omega arith)
few (Many b) g k = absurd (omega arith)
few (Single h e) g k = absurd (omega arith)
few (Head q w v) g k = absurd (omega arith)
few (HeadIf h f) g k = absurd (omega arith)

three_ends : (n : ℕ) → n ≡ 3 → may_end kind.Pack n ≡ true
three_ends n e = ap (λ (x : ℕ). may_end kind.Pack x) e

pub end_of : (k : QuantKind) (n : ℕ) → IsFew k n → 0 ≡ missing k n → may_end k n ≡ true
end_of kind.Pack n f e = three_ends n (omega arith)
end_of kind.Forall n f e = refl
end_of kind.Exists n f e = refl
end_of kind.Sum n f e = refl
end_of kind.Count n f e = refl
end_of kind.AllDifferent n f e = refl

pub more_of : (k : QuantKind) (n m : ℕ) → 1 + m ≡ missing k n → (may_more k n ≡ true) × (m ≡ missing k (1 + n))
more_of kind.Pack n m e = (le-leb n 2 (omega arith), omega arith)
more_of kind.Forall n m e = absurd (omega arith)
more_of kind.Exists n m e = absurd (omega arith)
more_of kind.Sum n m e = absurd (omega arith)
more_of kind.Count n m e = absurd (omega arith)
more_of kind.AllDifferent n m e = absurd (omega arith)

fill_good : (n : ℕ) (b : Tree) → IsGood b → part b ≡ 3 → n ≡ missing (quant b) (bodies b) → IsGood (Many (fill n b))
fill_good zero b g k e = (g, k, end_of (quant b) (bodies b) (few b g k) e)
fill_good (suc n) b g k e = let m = more_of (quant b) (bodies b) n (omega (arith, e)) in fill_good n (Then b hole) (g, refl, k, (refl, omega arith), m.0) refl m.1

pub filled_good : (b : Tree) → IsGood b → part b ≡ 3 → IsGood (filled b)
filled_good b g k = fill_good (missing (quant b) (bodies b)) b g k refl

-- A head with a first body

opened_nest_by : (b : Bool) (h v : Tree) → nest (opened_by b h v) ≡ 1 + max (nest h) (nest v)
opened_nest_by true h v = filled_nest (First h v)
opened_nest_by false h v = refl

pub opened_nest : (h v : Tree) → nest (opened h v) ≡ 1 + max (nest h) (nest v)
opened_nest h v = opened_nest_by (semicolons (quant h)) h v

first_row : (h v x : List Token) → (h ++ (Mark mark.OpenBrace ∷ (v ++ (Mark mark.Semicolon ∷ [])))) ++ x ≡ h ++ (Mark mark.OpenBrace ∷ (v ++ (Mark mark.Semicolon ∷ x)))
first_row h v x = simp append_assoc

opened_tokens_by : (b : Bool) (h v : Tree) → tokens_of (opened_by b h v) ≡ tokens_of h ++ (Mark mark.OpenBrace ∷ (tokens_of v ++ opened_back_by b (quant h)))
opened_tokens_by true h v = filled_tokens (First h v) ∙ first_row (tokens_of h) (tokens_of v) (closing_of (quant h) 1)
opened_tokens_by false h v = refl

pub opened_tokens : (h v : Tree) → tokens_of (opened h v) ≡ tokens_of h ++ (Mark mark.OpenBrace ∷ (tokens_of v ++ opened_back (quant h)))
opened_tokens h v = opened_tokens_by (semicolons (quant h)) h v

opened_good_by : (b : Bool) (h v : Tree) → semicolons (quant h) ≡ b → IsGood h → IsHead h → IsGood v → IsAt 1 v → IsGood (opened_by b h v) × IsAt 10 (opened_by b h v)
opened_good_by true h v e g i k a = (filled_good (First h v) (g, k, i, a, e) refl, (refl, omega arith))
opened_good_by false h v e g i k a = ((g, k, i, a, e), (refl, omega arith))

pub opened_good : (h v : Tree) → IsGood h → IsHead h → IsGood v → IsAt 1 v → IsGood (opened h v) × IsAt 10 (opened h v)
opened_good h v g i k a = opened_good_by (semicolons (quant h)) h v refl g i k a

-- What is closed round a tree

filter_row : (a h v x z : List Token) → a ++ (((h ++ (Key key.Where ∷ v)) ++ x) ++ z) ≡ (a ++ (h ++ (Key key.Where ∷ []))) ++ (v ++ (x ++ z))
filter_row a h v x z = simp append_assoc

over_row : (a : List Token) (s t u : Token) (v x z : List Token) → a ++ (((s ∷ t ∷ u ∷ v) ++ x) ++ z) ≡ (a ++ (s ∷ t ∷ u ∷ [])) ++ (v ++ (x ++ z))
over_row a s t u v x z = simp append_assoc

first_close : (a h v x z : List Token) → a ++ (((h ++ (Mark mark.OpenBrace ∷ (v ++ (Mark mark.Semicolon ∷ [])))) ++ x) ++ z) ≡ (a ++ (h ++ (Mark mark.OpenBrace ∷ []))) ++ (v ++ ((Mark mark.Semicolon ∷ x) ++ z))
first_close a h v x z = simp append_assoc

then_close : (a b v x z : List Token) → a ++ (((b ++ (v ++ (Mark mark.Semicolon ∷ []))) ++ x) ++ z) ≡ (a ++ b) ++ (v ++ ((Mark mark.Semicolon ∷ x) ++ z))
then_close a b v x z = simp append_assoc

-- a tree between what stands before and behind it
abbrev between : List Frame → Ground → List Token → List Token
between fs p x = before fs p ++ (x ++ after fs p)

pub close_tokens : (fs : List Frame) (p : Ground) (v : Tree) → program_tokens (close fs p v) ≡ before fs p ++ (tokens_of v ++ after fs p)
close_tokens [] p v = ground_tokens p v
close_tokens (InRight o l ∷ fs) p v = close_tokens fs p (Two o l v) ∙ simp append_assoc
close_tokens (InUnder s ∷ fs) p v = close_tokens fs p (Under s v) ∙ simp append_assoc
close_tokens (InRound ∷ fs) p v = close_tokens fs p (Round v) ∙ simp append_assoc
close_tokens (InOver k w ∷ fs) p v = close_tokens fs p (opened (Head k w v) hole) ∙ ap (λ (x : List Token). between fs p x) (opened_tokens (Head k w v) hole) ∙ over_row (before fs p) (kind_token k) (Word w) (Key key.In) (tokens_of v) (Mark mark.OpenBrace ∷ Word word ∷ opened_back k) (after fs p)
close_tokens (InFilter h ∷ fs) p v = close_tokens fs p (opened (HeadIf h v) hole) ∙ ap (λ (x : List Token). between fs p x) (opened_tokens (HeadIf h v) hole) ∙ filter_row (before fs p) (tokens_of h) (tokens_of v) (Mark mark.OpenBrace ∷ Word word ∷ opened_back (quant h)) (after fs p)
close_tokens (InFirst h ∷ fs) p v = close_tokens fs p (filled (First h v)) ∙ ap (λ (x : List Token). between fs p x) (filled_tokens (First h v)) ∙ first_close (before fs p) (tokens_of h) (tokens_of v) (closing_of (quant h) 1) (after fs p)
close_tokens (InSingle h ∷ fs) p v = close_tokens fs p (Single h v) ∙ simp append_assoc
close_tokens (InThen b ∷ fs) p v = close_tokens fs p (filled (Then b v)) ∙ ap (λ (x : List Token). between fs p x) (filled_tokens (Then b v)) ∙ then_close (before fs p) (tokens_of b) (tokens_of v) (closing_of (quant b) (1 + bodies b)) (after fs p)

var_row : (a : List Token) (k w i : Token) (x z : List Token) → a ++ ((k ∷ w ∷ i ∷ Word word ∷ Mark mark.OpenBrace ∷ Word word ∷ x) ++ z) ≡ (a ++ (k ∷ [])) ++ (w ∷ i ∷ Word word ∷ Mark mark.OpenBrace ∷ Word word ∷ (x ++ z))
var_row a k w i x z = simp append_assoc

named_row : (a : List Token) (k w i : Token) (x z : List Token) → a ++ ((k ∷ w ∷ i ∷ Word word ∷ Mark mark.OpenBrace ∷ Word word ∷ x) ++ z) ≡ (a ++ (k ∷ w ∷ [])) ++ (i ∷ Word word ∷ Mark mark.OpenBrace ∷ Word word ∷ (x ++ z))
named_row a k w i x z = simp append_assoc

pub takes_leasts : (ws : List Piece) → takes_all ws (leasts ws) ≡ true
takes_leasts [] = refl
takes_leasts (piece.Word ∷ ws) = takes_leasts ws
takes_leasts (piece.Number ∷ ws) = takes_leasts ws
takes_leasts (piece.OpenBrace ∷ ws) = takes_leasts ws
takes_leasts (piece.CloseBracket ∷ ws) = takes_leasts ws
takes_leasts (piece.Semicolon ∷ ws) = takes_leasts ws
takes_leasts (piece.DotDot ∷ ws) = takes_leasts ws
takes_leasts (piece.As ∷ ws) = takes_leasts ws
takes_leasts (piece.Class ∷ ws) = takes_leasts ws

leasts_row : (a b c d : List Token) → d ≡ a ++ (b ++ c) → (x : List Token) → d ++ x ≡ (a ++ b) ++ (c ++ x)
leasts_row a b c d e x = ap (λ (y : List Token). y ++ x) e ∙ simp append_assoc

pub completed_tokens : (s : State) → IsState s → program_tokens (completed s) ≡ front s ++ back s
completed_tokens (At c) i = corner_tokens c
completed_tokens (Row ws read l) i =
    corner_tokens (arrive l (read ++ leasts ws))
    ∙ leasts_row (line_front l) read (leasts ws) (corner_front (arrive l (read ++ leasts ws))) (i (leasts ws) (takes_leasts ws)).0 (corner_back (arrive l (read ++ leasts ws)))
completed_tokens (Need p fs) i = close_tokens fs p hole
completed_tokens (Have p fs v) i = close_tokens fs p v ∙ simp append_assoc
completed_tokens (Dotted p fs v) i = close_tokens fs p (Dot v word) ∙ simp append_assoc
completed_tokens (VarAt p fs k) i = close_tokens fs p (opened (Head k word hole) hole) ∙ ap (λ (x : List Token). between fs p x) (opened_tokens (Head k word hole) hole) ∙ var_row (before fs p) (kind_token k) (Word word) (Key key.In) (opened_back k) (after fs p)
completed_tokens (NamedAt p fs k w) i = close_tokens fs p (opened (Head k w hole) hole) ∙ ap (λ (x : List Token). between fs p x) (opened_tokens (Head k w hole) hole) ∙ named_row (before fs p) (kind_token k) (Word w) (Key key.In) (opened_back k) (after fs p)
completed_tokens (Next p fs b) i = close_tokens fs p (filled b) ∙ ap (λ (x : List Token). between fs p x) (filled_tokens b) ∙ simp append_assoc

-- more in the hole is more round it
pub close_grows : (fs : List Frame) (p : Ground) (u v : Tree) → nest u ≤ nest v → nesting (close fs p u) ≤ nesting (close fs p v)
close_grows [] p u v h = let a = ground_nest p u in let b = ground_nest p v in omega arith
close_grows (InRight o l ∷ fs) p u v h = close_grows fs p (Two o l u) (Two o l v) (omega arith)
close_grows (InUnder s ∷ fs) p u v h = close_grows fs p (Under s u) (Under s v) (omega arith)
close_grows (InRound ∷ fs) p u v h = close_grows fs p (Round u) (Round v) (omega arith)
close_grows (InOver k w ∷ fs) p u v h = close_grows fs p (opened (Head k w u) hole) (opened (Head k w v) hole) (omega (arith, opened_nest (Head k w u) hole, opened_nest (Head k w v) hole))
close_grows (InFilter q ∷ fs) p u v h = close_grows fs p (opened (HeadIf q u) hole) (opened (HeadIf q v) hole) (omega (arith, opened_nest (HeadIf q u) hole, opened_nest (HeadIf q v) hole))
close_grows (InFirst q ∷ fs) p u v h = close_grows fs p (filled (First q u)) (filled (First q v)) (omega (arith, filled_nest (First q u), filled_nest (First q v)))
close_grows (InSingle q ∷ fs) p u v h = close_grows fs p (Single q u) (Single q v) (omega arith)
close_grows (InThen b ∷ fs) p u v h = close_grows fs p (filled (Then b u)) (filled (Then b v)) (omega (arith, filled_nest (Then b u), filled_nest (Then b v)))

pub hole_good : IsGood hole
hole_good = refl

at_less : (n m : ℕ) (v : Tree) → n ≤ m → IsAt m v → IsAt n v
at_less n m v h a = (a.0, (let b = a.1 in omega arith))

pub close_good : (fs : List Frame) (p : Ground) (v : Tree) → AreFrames fs p → IsGood v → IsAt (slots fs) v → IsProgram (close fs p v)
close_good [] p v h g a = ground_good p v h g a
close_good (InRight o l ∷ fs) p v h g a = close_good fs p (Two o l v) h.0 (h.2.0, g, h.2.1, a) (refl, h.1)
close_good (InUnder s ∷ fs) p v h g a = close_good fs p (Under s v) h.0 (g, a) (refl, h.1)
close_good (InRound ∷ fs) p v h g a = close_good fs p (Round v) h.0 (g, a) (refl, h.1)
close_good (InOver k w ∷ fs) p v h g a = let o = opened_good (Head k w v) hole (g, a) (omega arith, omega arith) refl (refl, omega arith) in close_good fs p (opened (Head k w v) hole) h.0 o.0 (at_less (slots fs) 10 (opened (Head k w v) hole) h.1 o.1)
close_good (InFilter q ∷ fs) p v h g a = let o = opened_good (HeadIf q v) hole (h.2.0, g, h.2.1, a, h.2.2) (omega arith, omega arith) refl (refl, omega arith) in close_good fs p (opened (HeadIf q v) hole) h.0 o.0 (at_less (slots fs) 10 (opened (HeadIf q v) hole) h.1 o.1)
close_good (InFirst q ∷ fs) p v h g a = close_good fs p (filled (First q v)) h.0 (filled_good (First q v) (h.2.0, g, h.2.1, a, h.2.2) refl) (refl, h.1)
close_good (InSingle q ∷ fs) p v h g a = close_good fs p (Single q v) h.0 (h.2.0, g, h.2.1, a, h.2.2) (refl, h.1)
close_good (InThen b ∷ fs) p v h g a = close_good fs p (filled (Then b v)) h.0 (filled_good (Then b v) (h.2.0, g, h.2.1, a, h.2.2) refl) (refl, h.1)

pub slots_most : (fs : List Frame) → slots fs ≤ 11
slots_most [] = omega arith
slots_most (InRight op.Implies l ∷ fs) = omega arith
slots_most (InRight op.Or l ∷ fs) = omega arith
slots_most (InRight op.And l ∷ fs) = omega arith
slots_most (InRight op.Eq l ∷ fs) = omega arith
slots_most (InRight op.Ne l ∷ fs) = omega arith
slots_most (InRight op.Lt l ∷ fs) = omega arith
slots_most (InRight op.Le l ∷ fs) = omega arith
slots_most (InRight op.Gt l ∷ fs) = omega arith
slots_most (InRight op.Ge l ∷ fs) = omega arith
slots_most (InRight op.In l ∷ fs) = omega arith
slots_most (InRight op.Add l ∷ fs) = omega arith
slots_most (InRight op.Sub l ∷ fs) = omega arith
slots_most (InRight op.Mul l ∷ fs) = omega arith
slots_most (InUnder Negative ∷ fs) = omega arith
slots_most (InUnder Negation ∷ fs) = omega arith
slots_most (InRound ∷ fs) = omega arith
slots_most (InOver k w ∷ fs) = omega arith
slots_most (InFilter h ∷ fs) = omega arith
slots_most (InFirst h ∷ fs) = omega arith
slots_most (InSingle h ∷ fs) = omega arith
slots_most (InThen b ∷ fs) = omega arith

head_closes : (fs : List Frame) (p : Ground) (k : QuantKind) (w : List ℕ) → AreFrames fs p → slots fs ≤ 10 → IsProgram (close fs p (opened (Head k w hole) hole))
head_closes fs p k w h s = let o = opened_good (Head k w hole) hole (refl, (refl, omega arith)) (omega arith, omega arith) refl (refl, omega arith) in close_good fs p (opened (Head k w hole) hole) h o.0 (at_less (slots fs) 10 (opened (Head k w hole) hole) s o.1)

pub completed_good : (s : State) → IsState s → IsProgram (completed s)
completed_good (At c) h = corner_good c h
completed_good (Row ws read l) h = corner_good (arrive l (read ++ leasts ws)) (h (leasts ws) (takes_leasts ws)).2
completed_good (Need p fs) h = close_good fs p hole h refl (refl, slots_most fs)
completed_good (Have p fs v) h = close_good fs p v h.0 h.1 h.2
completed_good (Dotted p fs v) h = close_good fs p (Dot v word) h.0 (h.1, h.2) (refl, h.3)
completed_good (VarAt p fs k) h = head_closes fs p k word h.0 h.1
completed_good (NamedAt p fs k w) h = head_closes fs p k w h.0 h.1
completed_good (Next p fs b) h = close_good fs p (filled b) h.0 (filled_good b h.2 h.3) (refl, h.1)
