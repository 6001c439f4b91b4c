-- How readers of parts are put together.
use Rattle.std.proofs.Common.{◌≡◌, ◌≤◌, ◌<◌, ◌+◌, ◌-◌, ℕ, true, false, cond, List, [], ◌∷◌, refl, sym, ◌∙◌, ap, subst, arith, max, Option, None, Some, nat_le, length}
use Rattle.std.proofs.lemmas.Bool.{cond-true, cond-false, le-leb, lt-leb}
use Rattle.model_limits.specs.Limits.{most_nesting}
use Rattle.conf_syntax.specs.declared.token.Mark.TheVariants as mark
use Rattle.conf_syntax.specs.declared.token.Token.{Token}
use Rattle.conf_syntax.specs.declared.token.Token.TheVariants.{Word, Mark}
use Rattle.conf_syntax.specs.declared.tree.Op.{Op}
use Rattle.conf_syntax.specs.Trees.{op_token}
use Rattle.conf_syntax.specs.Plain.{Sign, Tree, Leaf, Round, Dot, Under, Two, Single, Head, HeadIf, First, Then, Begin, ALeaf, ASign, AParen, NoBegin, begin_by, sign_level, leaf_level, level, right_level, nest, nesting}
use Rattle.conf_grammar.specs.Machine.{Ground, Frame, InRight, InUnder, InRound, InOver, InFilter, InFirst, InSingle, InThen, State, Need, Have, Dotted, slot, slots, Going, AnOp, ADot, NoGoing, going, left_of, goes, gone_by, gone, closes, have, where_room, need_by, need, dot_name, step, word, completed, ended, hole, filled, opened, close, Wrong, Deep, onward, reading}
use Rattle.conf_grammar.specs.Leads.{side, base, Fits, Place, at, Leads, Shown, WrongAt, DeepAt, shown, Refuses, goes_on, IsNot, IsNotWord}
use Rattle.conf_grammar.proofs.Homes.{ground_nest}
use Rattle.conf_grammar.proofs.Complete.{nest_some, filled_nest, opened_nest}
use Rattle.conf_grammar.proofs.Steps.{goes_parts, level_most, op_is, dot_is}
use Rattle.conf_grammar.proofs.Again.{have_goes, room_is, op_facts}

pub close_nest : (fs : List Frame) (p : Ground) (v : Tree) → nesting (close fs p v) ≡ max (base fs p) (length fs + nest v)
close_nest [] p v = ground_nest p v ∙ omega arith
close_nest (InRight o l ∷ fs) p v = close_nest fs p (Two o l v) ∙ omega arith
close_nest (InUnder s ∷ fs) p v = close_nest fs p (Under s v) ∙ omega arith
close_nest (InRound ∷ fs) p v = close_nest fs p (Round v) ∙ omega arith
close_nest (InOver k w ∷ fs) p v = close_nest fs p (opened (Head k w v) hole) ∙ omega (arith, opened_nest (Head k w v) hole)
close_nest (InFilter h ∷ fs) p v = close_nest fs p (opened (HeadIf h v) hole) ∙ omega (arith, opened_nest (HeadIf h v) hole)
close_nest (InFirst h ∷ fs) p v = close_nest fs p (filled (First h v)) ∙ omega (arith, filled_nest (First h v))
close_nest (InSingle h ∷ fs) p v = close_nest fs p (Single h v) ∙ omega arith
close_nest (InThen b ∷ fs) p v = close_nest fs p (filled (Then b v)) ∙ omega (arith, filled_nest (Then b v))

-- one step of reading
pub moves : (token : Token) (rest : List Token) (s s' : State) → step s token ≡ Some s' → nesting (completed s') ≤ most_nesting → reading (token ∷ rest) most_nesting s ≡ reading rest most_nesting s'
moves token rest s s' e n =
    ap (λ (o : Option State). onward most_nesting o (token ∷ rest) (λ y. reading rest most_nesting y)) e
    ∙ cond-true (nat_le (nesting (completed s')) most_nesting) (reading rest most_nesting s') (Deep (token ∷ rest)) (le-leb (nesting (completed s')) most_nesting n)

pub sinks : (token : Token) (rest : List Token) (s s' : State) → step s token ≡ Some s' → most_nesting < nesting (completed s') → reading (token ∷ rest) most_nesting s ≡ Deep (token ∷ rest)
sinks token rest s s' e n =
    ap (λ (o : Option State). onward most_nesting o (token ∷ rest) (λ y. reading rest most_nesting y)) e
    ∙ cond-false (nat_le (nesting (completed s')) most_nesting) (reading rest most_nesting s') (Deep (token ∷ rest)) (lt-leb (nesting (completed s')) most_nesting n)

pub halts : (token : Token) (rest : List Token) (s : State) → step s token ≡ None → reading (token ∷ rest) most_nesting s ≡ Wrong (token ∷ rest)
halts token rest s e = ap (λ (o : Option State). onward most_nesting o (token ∷ rest) (λ y. reading rest most_nesting y)) e

-- where a token leads, two states are as good as one another
pub same_step : (tokens : List Token) (s s' : State) → ended s ≡ ended s' → ((token : Token) (rest : List Token) → tokens ≡ token ∷ rest → step s token ≡ step s' token) → reading tokens most_nesting s ≡ reading tokens most_nesting s'
same_step [] s s' e h = e
same_step (token ∷ rest) s s' e h = ap (λ (o : Option State). onward most_nesting o (token ∷ rest) (λ y. reading rest most_nesting y)) (h token rest refl)

module _ (p : Ground) (fs : List Frame) (least room : ℕ) (f : Fits p fs least room) where
  pub holds : (v : Tree) → nest v ≤ room → nesting (close fs p v) ≤ most_nesting
  holds v h = let a = f.deep in let b = f.low in rw (close_nest fs p v) (omega arith)

  pub bursts : (v : Tree) → room < nest v → most_nesting < nesting (close fs p v)
  bursts v h = let a = f.deep in let b = f.low in rw (close_nest fs p v) (omega arith)

  pub inside : (x : Frame) → 1 + side x ≤ room → Fits p (x ∷ fs) (slot x) (room - 1)
  inside x h = let a = f.deep in let b = f.low in record { slot_is = refl; deep = omega arith; low = omega arith }

pub leads_on : {least room : ℕ} {s s' s'' : Place} {a b c : List Token} → Leads least room s a s' b → Leads least room s' b s'' c → Leads least room s a s'' c
leads_on h k = record { is = λ p fs f. h.is p fs f ∙ k.is p fs f }

pub leads_refuses : {least room : ℕ} {s s' : Place} {a b : List Token} {out : Shown} → Leads least room s a s' b → Refuses least room s' b out → Refuses least room s a out
leads_refuses h k = record { is = λ p fs f. ap shown (h.is p fs f) ∙ k.is p fs f }

-- what goes on within a frame
pub under_leads : {s s' : Place} {a b : List Token} (least room : ℕ) (x : Frame) → 1 + side x ≤ room → Leads (slot x) (room - 1) s a s' b → Leads least room (λ p fs. s p (x ∷ fs)) a (λ p fs. s' p (x ∷ fs)) b
under_leads least room x h k = record { is = λ p fs f. k.is p (x ∷ fs) (inside p fs least room f x h) }

pub under_refuses : {s : Place} {a : List Token} {out : Shown} (least room : ℕ) (x : Frame) → 1 + side x ≤ room → Refuses (slot x) (room - 1) s a out → Refuses least room (λ p fs. s p (x ∷ fs)) a out
under_refuses least room x h k = record { is = λ p fs f. k.is p (x ∷ fs) (inside p fs least room f x h) }

-- a token that opens a frame
pub opens : (least room : ℕ) (s : Place) (token : Token) (rest : List Token) (x : Frame) → ((p : Ground) (fs : List Frame) → slots fs ≡ least → step (s p fs) token ≡ Some (Need p (x ∷ fs))) → 1 + side x ≤ room → 2 ≤ room → Leads least room s (token ∷ rest) (λ p fs. Need p (x ∷ fs)) rest
opens least room s token rest x e h k = record { is = λ p fs f. moves token rest (s p fs) (Need p (x ∷ fs)) (e p fs f.slot_is) (holds p (x ∷ fs) (slot x) (room - 1) (inside p fs least room f x h) hole (omega arith)) }

-- a token that ends a tree
pub makes : (least room : ℕ) (s : Place) (token : Token) (rest : List Token) (v : Tree) → ((p : Ground) (fs : List Frame) → slots fs ≡ least → step (s p fs) token ≡ Some (Have p fs v)) → nest v ≤ room → Leads least room s (token ∷ rest) (at v) rest
makes least room s token rest v e h = record { is = λ p fs f. moves token rest (s p fs) (Have p fs v) (e p fs f.slot_is) (holds p fs least room f v h) }

pub refuses_token : (least room : ℕ) (s : Place) (token : Token) (rest : List Token) → ((p : Ground) (fs : List Frame) → slots fs ≡ least → step (s p fs) token ≡ None) → Refuses least room s (token ∷ rest) (WrongAt (length (token ∷ rest)))
refuses_token least room s token rest e = record { is = λ p fs f. ap shown (halts token rest (s p fs) (e p fs f.slot_is)) }

pub no_room : (least most : ℕ) (s : State) → most < least → where_room least most s ≡ None
no_room least most s h = cond-false (nat_le least most) (Some s) None (lt-leb least most h)

pub need_is : (p : Ground) (fs : List Frame) (token : Token) (b : Begin) → begin_by token ≡ b → need p fs token ≡ need_by p fs token b
need_is p fs token b e = ap (λ (x : Begin). need_by p fs token x) e

-- the first tokens
pub leaf_leads : (least room : ℕ) (token : Token) (rest : List Token) → begin_by token ≡ ALeaf → least ≤ leaf_level token → 1 ≤ room → Leads least room Need (token ∷ rest) (at (Leaf token)) rest
leaf_leads least room token rest b h k = makes least room Need token rest (Leaf token) (λ p fs e. need_is p fs token ALeaf b ∙ room_is (slots fs) (leaf_level token) (Have p fs (Leaf token)) (omega arith)) k

pub leaf_refuses : (least room : ℕ) (token : Token) (rest : List Token) → begin_by token ≡ ALeaf → leaf_level token < least → Refuses least room Need (token ∷ rest) (WrongAt (length (token ∷ rest)))
leaf_refuses least room token rest b h = refuses_token least room Need token rest (λ p fs e. need_is p fs token ALeaf b ∙ no_room (slots fs) (leaf_level token) (Have p fs (Leaf token)) (omega arith))

pub open_refuses : (least room : ℕ) (token : Token) (rest : List Token) → begin_by token ≡ AParen → 10 < least → Refuses least room Need (token ∷ rest) (WrongAt (length (token ∷ rest)))
open_refuses least room token rest b h = refuses_token least room Need token rest (λ p fs e. need_is p fs token AParen b ∙ no_room (slots fs) 10 (Need p (InRound ∷ fs)) (omega arith))

pub sign_refuses : (least room : ℕ) (s : Sign) (token : Token) (rest : List Token) → begin_by token ≡ ASign s → sign_level s < least → Refuses least room Need (token ∷ rest) (WrongAt (length (token ∷ rest)))
sign_refuses least room s token rest b h = refuses_token least room Need token rest (λ p fs e. need_is p fs token (ASign s) b ∙ no_room (slots fs) (sign_level s) (Need p (InUnder s ∷ fs)) (omega arith))

pub none_refuses : (least room : ℕ) (token : Token) (rest : List Token) → begin_by token ≡ NoBegin → Refuses least room Need (token ∷ rest) (WrongAt (length (token ∷ rest)))
none_refuses least room token rest b = refuses_token least room Need token rest (λ p fs e. need_is p fs token NoBegin b)

pub open_deep : (least room : ℕ) (token : Token) (rest : List Token) → begin_by token ≡ AParen → least ≤ 10 → room < 2 → Refuses least room Need (token ∷ rest) (DeepAt (length (token ∷ rest)))
open_deep least room token rest b h k = record { is = λ p fs f. ap shown (sinks token rest (Need p fs) (Need p (InRound ∷ fs)) (need_is p fs token AParen b ∙ room_is (slots fs) 10 (Need p (InRound ∷ fs)) (let e = f.slot_is in omega arith)) (bursts p fs least room f (Round hole) k)) }

pub sign_deep : (least room : ℕ) (s : Sign) (token : Token) (rest : List Token) → begin_by token ≡ ASign s → least ≤ sign_level s → room < 2 → Refuses least room Need (token ∷ rest) (DeepAt (length (token ∷ rest)))
sign_deep least room s token rest b h k = record { is = λ p fs f. ap shown (sinks token rest (Need p fs) (Need p (InUnder s ∷ fs)) (need_is p fs token (ASign s) b ∙ room_is (slots fs) (sign_level s) (Need p (InUnder s ∷ fs)) (let e = f.slot_is in omega arith)) (bursts p fs least room f (Under s hole) k)) }

pub open_opens : (least room : ℕ) (token : Token) (rest : List Token) → begin_by token ≡ AParen → least ≤ 10 → 2 ≤ room → Leads least room Need (token ∷ rest) (λ p fs. Need p (InRound ∷ fs)) rest
open_opens least room token rest b h k = opens least room Need token rest InRound (λ p fs e. need_is p fs token AParen b ∙ room_is (slots fs) 10 (Need p (InRound ∷ fs)) (omega arith)) (omega arith) k

pub sign_opens : (least room : ℕ) (s : Sign) (token : Token) (rest : List Token) → begin_by token ≡ ASign s → least ≤ sign_level s → 2 ≤ room → Leads least room Need (token ∷ rest) (λ p fs. Need p (InUnder s ∷ fs)) rest
sign_opens least room s token rest b h k = opens least room Need token rest (InUnder s) (λ p fs e. need_is p fs token (ASign s) b ∙ room_is (slots fs) (sign_level s) (Need p (InUnder s ∷ fs)) (omega arith)) (omega arith) k

-- parentheses
pub paren_leads : (least room : ℕ) (v : Tree) (token : Token) (after rest : List Token) → begin_by token ≡ AParen → least ≤ 10 → 2 ≤ room → nest v ≤ room - 1 → Leads 1 (room - 1) Need after (at v) (Mark mark.CloseParen ∷ rest) → Leads least room Need (token ∷ after) (at (Round v)) rest
paren_leads least room v token after rest b h k n i =
    leads_on (open_opens least room token after b h k)
    (leads_on (under_leads least room InRound (omega arith) i)
    (makes least room (λ p fs. Have p (InRound ∷ fs) v) (Mark mark.CloseParen) rest (Round v) (λ p fs e. refl) (omega arith)))

pub paren_refuses : (least room : ℕ) (token : Token) (after : List Token) (out : Shown) → begin_by token ≡ AParen → least ≤ 10 → 2 ≤ room → Refuses 1 (room - 1) Need after out → Refuses least room Need (token ∷ after) out
paren_refuses least room token after out b h k i = leads_refuses (open_opens least room token after b h k) (under_refuses least room InRound (omega arith) i)

closes_none : (p : Ground) (fs : List Frame) (v : Tree) (token : Token) (rest : List Token) → IsNot (Mark mark.CloseParen) (token ∷ rest) → closes p fs v token ≡ None
closes_none p fs v (Mark mark.CloseParen) rest h = absurd (h refl)
closes_none p fs v _ rest h = refl

-- a token that neither goes on with a tree nor ends what is around it
pub stays : (least room : ℕ) (x : Frame) (v : Tree) (tokens : List Token) (other : Ground → List Frame → Token → Option State) → ((p : Ground) (fs : List Frame) (token : Token) → have (x ∷ fs) p v token ≡ cond (goes (slot x) (level v) token) (Some (gone p (x ∷ fs) v token)) (other p fs token)) → goes_on (slot x) (level v) tokens ≡ false → ((p : Ground) (fs : List Frame) (token : Token) (rest : List Token) → tokens ≡ token ∷ rest → other p fs token ≡ None) → Refuses least room (λ p fs. Have p (x ∷ fs) v) tokens (WrongAt (length tokens))
stays least room x v [] other e g n = record { is = λ p fs f. refl }
stays least room x v (token ∷ rest) other e g n = refuses_token least room (λ p fs. Have p (x ∷ fs) v) token rest (λ p fs k. e p fs token ∙ cond-false (goes (slot x) (level v) token) (Some (gone p (x ∷ fs) v token)) (other p fs token) g ∙ n p fs token rest refl)

pub not_along : (token x : Token) (tokens rest : List Token) → tokens ≡ x ∷ rest → IsNot token tokens → IsNot token (x ∷ rest)
not_along token x tokens rest e h = subst (λ (y : List Token). IsNot token y) e h

pub unclosed : (least room : ℕ) (v : Tree) (tokens : List Token) → goes_on 1 (level v) tokens ≡ false → IsNot (Mark mark.CloseParen) tokens → Refuses least room (λ p fs. Have p (InRound ∷ fs) v) tokens (WrongAt (length tokens))
unclosed least room v tokens g c = stays least room InRound v tokens (λ p fs token. closes p fs v token) (λ p fs token. refl) g (λ p fs token rest e. closes_none p fs v token rest (not_along (Mark mark.CloseParen) token tokens rest e c))

pub paren_unclosed : (least room : ℕ) (v : Tree) (token : Token) (after rest : List Token) → begin_by token ≡ AParen → least ≤ 10 → 2 ≤ room → Leads 1 (room - 1) Need after (at v) rest → goes_on 1 (level v) rest ≡ false → IsNot (Mark mark.CloseParen) rest → Refuses least room Need (token ∷ after) (WrongAt (length rest))
paren_unclosed least room v token after rest b h k i g c =
    leads_refuses (open_opens least room token after b h k)
    (leads_refuses (under_leads least room InRound (omega arith) i) (unclosed least room v rest g c))

-- signs
drops : (least room : ℕ) (x : Frame) (v w : Tree) (tokens : List Token) → ((p : Ground) (fs : List Frame) (token : Token) → have (x ∷ fs) p v token ≡ cond (goes (slot x) (level v) token) (Some (gone p (x ∷ fs) v token)) (have fs p w token)) → goes_on (slot x) (level v) tokens ≡ false → Leads least room (λ p fs. Have p (x ∷ fs) v) tokens (at w) tokens
drops least room x v w [] e g = record { is = λ p fs f. refl }
drops least room x v w (token ∷ rest) e g = record { is = λ p fs f. ap (λ (o : Option State). onward most_nesting o (token ∷ rest) (λ y. reading rest most_nesting y)) (e p fs token ∙ cond-false (goes (slot x) (level v) token) (Some (gone p (x ∷ fs) v token)) (have fs p w token) g) }

pub sign_leads : (least room : ℕ) (s : Sign) (v : Tree) (token : Token) (after rest : List Token) → begin_by token ≡ ASign s → least ≤ sign_level s → 2 ≤ room → Leads (sign_level s) (room - 1) Need after (at v) rest → goes_on (sign_level s) (level v) rest ≡ false → Leads least room Need (token ∷ after) (at (Under s v)) rest
sign_leads least room s v token after rest b h k i g =
    leads_on (sign_opens least room s token after b h k) (leads_on (under_leads least room (InUnder s) (omega arith) i) (drops least room (InUnder s) v (Under s v) rest (λ p fs t. refl) g))

pub sign_refuses_in : (least room : ℕ) (s : Sign) (token : Token) (after : List Token) (out : Shown) → begin_by token ≡ ASign s → least ≤ sign_level s → 2 ≤ room → Refuses (sign_level s) (room - 1) Need after out → Refuses least room Need (token ∷ after) out
sign_refuses_in least room s token after out b h k i = leads_refuses (sign_opens least room s token after b h k) (under_refuses least room (InUnder s) (omega arith) i)

-- operators
op_opens : (least room : ℕ) (o : Op) (l : Tree) (rest : List Token) → goes least (level l) (op_token o) ≡ true → 1 + nest l ≤ room → Leads least room (at l) (op_token o ∷ rest) (λ p fs. Need p (InRight o l ∷ fs)) rest
op_opens least room o l rest g h =
    let n = nest_some l in
    opens least room (at l) (op_token o) rest (InRight o l) (λ p fs e. have_goes fs p l (op_token o) (subst (λ (x : ℕ). goes x (level l) (op_token o) ≡ true) (sym e) g) ∙ ap (λ (x : Going). Some (gone_by p fs l x)) ((op_facts o).going_is)) h (omega arith)

pub pair_leads : (least room : ℕ) (o : Op) (token : Token) (l v : Tree) (after rest : List Token) → going token ≡ AnOp o → goes least (level l) token ≡ true → 1 + nest l ≤ room → Leads (right_level o) (room - 1) Need after (at v) rest → goes_on (right_level o) (level v) rest ≡ false → Leads least room (at l) (token ∷ after) (at (Two o l v)) rest
pair_leads least room o token l v after rest is g h i s =
    let e : token ≡ op_token o = op_is token o is in
    let k : goes least (level l) (op_token o) ≡ true = subst (λ (x : Token). goes least (level l) x ≡ true) e g in
    subst (λ (x : Token). Leads least room (at l) (x ∷ after) (at (Two o l v)) rest) (sym e)
    (leads_on (op_opens least room o l after k h) (leads_on (under_leads least room (InRight o l) h i) (drops least room (InRight o l) v (Two o l v) rest (λ p fs t. refl) s)))

pub pair_refuses : (least room : ℕ) (o : Op) (token : Token) (l : Tree) (after : List Token) (out : Shown) → going token ≡ AnOp o → goes least (level l) token ≡ true → 1 + nest l ≤ room → Refuses (right_level o) (room - 1) Need after out → Refuses least room (at l) (token ∷ after) out
pair_refuses least room o token l after out is g h i =
    let e : token ≡ op_token o = op_is token o is in
    let k : goes least (level l) (op_token o) ≡ true = subst (λ (x : Token). goes least (level l) x ≡ true) e g in
    subst (λ (x : Token). Refuses least room (at l) (x ∷ after) out) (sym e)
    (leads_refuses (op_opens least room o l after k h) (under_refuses least room (InRight o l) h i))

pub dots : (least room : ℕ) (v : Tree) (rest : List Token) → goes least (level v) (Mark mark.Dot) ≡ true → 1 + nest v ≤ room → Leads least room (at v) (Mark mark.Dot ∷ rest) (λ p fs. Dotted p fs v) rest
dots least room v rest g h = record { is = λ p fs f. moves (Mark mark.Dot) rest (Have p fs v) (Dotted p fs v) (have_goes fs p v (Mark mark.Dot) (subst (λ (x : ℕ). goes x (level v) (Mark mark.Dot) ≡ true) (sym f.slot_is) g)) (holds p fs least room f (Dot v word) h) }

pub dot_leads : (least room : ℕ) (token : Token) (v : Tree) (w : List ℕ) (rest : List Token) → going token ≡ ADot → goes least (level v) token ≡ true → 1 + nest v ≤ room → Leads least room (at v) (token ∷ Word w ∷ rest) (at (Dot v w)) rest
dot_leads least room token v w rest is g h =
    let e : token ≡ Mark mark.Dot = dot_is token is in
    subst (λ (x : Token). Leads least room (at v) (x ∷ Word w ∷ rest) (at (Dot v w)) rest) (sym e)
    (leads_on (dots least room v (Word w ∷ rest) (subst (λ (x : Token). goes least (level v) x ≡ true) e g) h)
    (makes least room (λ p fs. Dotted p fs v) (Word w) rest (Dot v w) (λ p fs e. refl) h))

name_none : (p : Ground) (fs : List Frame) (v : Tree) (token : Token) (rest : List Token) → IsNotWord (token ∷ rest) → dot_name p fs v token ≡ None
name_none p fs v (Word w) rest h = absurd h
name_none p fs v _ rest h = refl

unnamed : (least room : ℕ) (v : Tree) (tokens : List Token) → IsNotWord tokens → Refuses least room (λ p fs. Dotted p fs v) tokens (WrongAt (length tokens))
unnamed least room v [] h = record { is = λ p fs f. refl }
unnamed least room v (token ∷ rest) h = refuses_token least room (λ p fs. Dotted p fs v) token rest (λ p fs e. name_none p fs v token rest h)

pub dot_refuses : (least room : ℕ) (token : Token) (v : Tree) (rest : List Token) → going token ≡ ADot → goes least (level v) token ≡ true → 1 + nest v ≤ room → IsNotWord rest → Refuses least room (at v) (token ∷ rest) (WrongAt (length rest))
dot_refuses least room token v rest is g h k =
    let e : token ≡ Mark mark.Dot = dot_is token is in
    subst (λ (x : Token). Refuses least room (at v) (x ∷ rest) (WrongAt (length rest))) (sym e)
    (leads_refuses (dots least room v rest (subst (λ (x : Token). goes least (level v) x ≡ true) e g) h) (unnamed least room v rest k))

-- a token that goes on is an operator's or a dot
pub never_goes : (s n : ℕ) (token : Token) → n ≤ 11 → going token ≡ NoGoing → goes s n token ≡ true → ⊥
never_goes s n token h k g = let e = goes_parts s n (going token) g in let l = ap left_of k in omega (arith, e.1, l)

-- an operator or a dot with no room
deeper : (least room : ℕ) (v : Tree) (token : Token) (rest : List Token) (w : Going) → going token ≡ w → goes least (level v) token ≡ true → room < 1 + nest v → Refuses least room (at v) (token ∷ rest) (DeepAt (length (token ∷ rest)))
deeper least room v token rest (AnOp o) e g h = record {
  is = λ p fs f. ap shown (sinks token rest (Have p fs v) (Need p (InRight o v ∷ fs))
      (have_goes fs p v token (subst (λ (y : ℕ). goes y (level v) token ≡ true) (sym f.slot_is) g) ∙ ap (λ (y : Going). Some (gone_by p fs v y)) e)
      (bursts p fs least room f (Two o v hole) (omega arith)));
}
deeper least room v token rest ADot e g h = record {
  is = λ p fs f. ap shown (sinks token rest (Have p fs v) (Dotted p fs v)
      (have_goes fs p v token (subst (λ (y : ℕ). goes y (level v) token ≡ true) (sym f.slot_is) g) ∙ ap (λ (y : Going). Some (gone_by p fs v y)) e)
      (bursts p fs least room f (Dot v word) h));
}
deeper least room v token rest NoGoing e g h = absurd (never_goes least (level v) token (level_most v) e g)

pub grow_deep : (least room : ℕ) (v : Tree) (token : Token) (rest : List Token) → goes least (level v) token ≡ true → room < 1 + nest v → Refuses least room (at v) (token ∷ rest) (DeepAt (length (token ∷ rest)))
grow_deep least room v token rest g h = deeper least room v token rest (going token) refl g h
