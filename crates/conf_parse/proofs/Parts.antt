-- The laws of parts in the words of the readers.
use Rattle.std.proofs.Common.{◌≡◌, ◌≤◌, ◌<◌, ◌-◌, ℕ, true, false, List, [], ◌∷◌, refl, sym, ◌∙◌, ap, subst, arith, length}
use Rattle.conf_syntax.specs.declared.token.Mark.TheVariants as mark
use Rattle.conf_syntax.specs.declared.token.Placed.{Placed}
use Rattle.conf_syntax.specs.declared.token.Token.{Token}
use Rattle.conf_syntax.specs.declared.token.Token.TheVariants.{Word, Mark}
use Rattle.conf_syntax.specs.declared.tree.Op.{Op}
use Rattle.conf_syntax.specs.Places.{bare}
use Rattle.conf_syntax.specs.Plain.{Sign, Tree, Leaf, Round, Dot, Under, Two, ALeaf, ASign, AParen, NoBegin, begin_by, leaf_level, sign_level, right_level, level, nest}
use Rattle.conf_grammar.specs.Machine.{AnOp, ADot, going, goes, Need}
use Rattle.conf_grammar.specs.Leads.{Place, at, Leads, Shown, WrongAt, DeepAt, Refuses, IsNot, IsNotWord, goes_on}
use Rattle.conf_grammar.proofs.Leading as l
use Rattle.conf_grammar.proofs.Steps.{level_most}
use Rattle.conf_parse.specs.declared.stop.Stop.{Stop}
use Rattle.conf_parse.specs.declared.stop.Stop.TheVariants.{Syntax, TooDeep, Memory}
use Rattle.conf_parse.specs.Cursor.{Splits, Takes, Names}
use Rattle.conf_parse.specs.Parts.{Errs}

pub bare_length : (xs : List Placed) → length (bare xs) ≡ length xs
bare_length [] = refl
bare_length (x ∷ xs) = omega (arith, bare_length xs)

pub along : (least room : ℕ) (s : Place) (a b : List Token) (v : Tree) (rest : List Token) → a ≡ b → Leads least room s b (at v) rest → Leads least room s a (at v) rest
along least room s a b v rest e h = subst (λ (x : List Token). Leads least room s x (at v) rest) (sym e) h

-- the number of tokens that are left, with and without their places
pub wrong_is : (least room : ℕ) (s : Place) (a : List Token) (rest : List Placed) → Refuses least room s a (WrongAt (length (bare rest))) → Errs least room s a (Syntax (length rest))
wrong_is least room s a rest h = record { is = subst (λ (x : ℕ). Refuses least room s a (WrongAt x)) (bare_length rest) h }

pub deep_is : (least room : ℕ) (s : Place) (a : List Token) (rest : List Placed) → Refuses least room s a (DeepAt (length (bare rest))) → Errs least room s a (TooDeep (length rest))
deep_is least room s a rest h = record { is = subst (λ (x : ℕ). Refuses least room s a (DeepAt x)) (bare_length rest) h }

pub wrong_along : (least room : ℕ) (s : Place) (a : List Placed) (b : List Token) → bare a ≡ b → Refuses least room s b (WrongAt (length b)) → Errs least room s (bare a) (Syntax (length a))
wrong_along least room s a b e h = wrong_is least room s (bare a) a (subst (λ (x : List Token). Refuses least room s x (WrongAt (length x))) (sym e) h)

pub deep_along : (least room : ℕ) (s : Place) (a : List Placed) (b : List Token) → bare a ≡ b → Refuses least room s b (DeepAt (length b)) → Errs least room s (bare a) (TooDeep (length a))
deep_along least room s a b e h = deep_is least room s (bare a) a (subst (λ (x : List Token). Refuses least room s x (DeepAt (length x))) (sym e) h)

-- an error within is the error of the whole
pub errs_by : (least room inner : ℕ) (r : ℕ) (s s' : Place) (a b : List Token) (e : Stop) → ((out : Shown) → Refuses inner r s' b out → Refuses least room s a out) → Errs inner r s' b e → Errs least room s a e
errs_by least room inner r s s' a b (Syntax k) f h = record { is = f (WrongAt k) h.is }
errs_by least room inner r s s' a b (TooDeep k) f h = record { is = f (DeepAt k) h.is }
errs_by least room inner r s s' a b Memory f h = record { is = tt }

pub errs_along : (least room : ℕ) (s : Place) (a b : List Token) (e : Stop) → a ≡ b → Errs least room s b e → Errs least room s a e
errs_along least room s a b e i h = subst (λ (x : List Token). Errs least room s x e) (sym i) h

pub memory_error : (least room : ℕ) (s : Place) (a : List Token) (e : Stop) → e ≡ Memory → Errs least room s a e
memory_error least room s a e i = subst (λ (x : Stop). Errs least room s a x) (sym i) (record { is = tt })

pub leaf_part : (least room : ℕ) (tokens : List Placed) (token : Placed) (after : List Placed) (v : Tree) (n : ℕ) → Splits tokens token after → begin_by token.token ≡ ALeaf → v ≡ Leaf token.token → n ≡ leaf_level token.token → least ≤ n → 1 ≤ room → Leads least room Need (bare tokens) (at v) (bare after)
leaf_part least room tokens token after v n s b e k h i =
    subst (λ (x : Tree). Leads least room Need (bare tokens) (at x) (bare after)) (sym e)
    (along least room Need (bare tokens) (token.token ∷ bare after) (Leaf token.token) (bare after) s.bare_is (l.leaf_leads least room token.token (bare after) b (omega (arith, k)) i))

pub leaf_wrong : (least room : ℕ) (tokens : List Placed) (token : Placed) (after : List Placed) (n : ℕ) → Splits tokens token after → begin_by token.token ≡ ALeaf → n ≡ leaf_level token.token → n < least → Errs least room Need (bare tokens) (Syntax (length tokens))
leaf_wrong least room tokens token after n s b k h = wrong_along least room Need tokens (token.token ∷ bare after) s.bare_is (l.leaf_refuses least room token.token (bare after) b (omega (arith, k)))

pub leaf_top : (v : Tree) (t : Token) (n : ℕ) → v ≡ Leaf t → n ≡ leaf_level t → (n ≡ level v) × (nest v ≡ 1) × (n ≤ 11)
leaf_top v t n e k = (k ∙ sym (ap level e), ap nest e, (let m = level_most (Leaf t) in omega (arith, k)))

pub first_nothing : (least room : ℕ) (tokens : List Placed) → bare tokens ≡ [] → Errs least room Need (bare tokens) (Syntax (length tokens))
first_nothing least room tokens e = wrong_along least room Need tokens [] e (record { is = λ p fs f. refl })

pub first_wrong : (least room : ℕ) (tokens : List Placed) (token : Placed) (after : List Placed) → Splits tokens token after → begin_by token.token ≡ NoBegin → Errs least room Need (bare tokens) (Syntax (length tokens))
first_wrong least room tokens token after s b = wrong_along least room Need tokens (token.token ∷ bare after) s.bare_is (l.none_refuses least room token.token (bare after) b)

pub paren_wrong : (least room : ℕ) (tokens : List Placed) (token : Placed) (after : List Placed) → Splits tokens token after → begin_by token.token ≡ AParen → 10 < least → Errs least room Need (bare tokens) (Syntax (length tokens))
paren_wrong least room tokens token after s b h = wrong_along least room Need tokens (token.token ∷ bare after) s.bare_is (l.open_refuses least room token.token (bare after) b h)

pub paren_deep : (least room : ℕ) (tokens : List Placed) (token : Placed) (after : List Placed) → Splits tokens token after → begin_by token.token ≡ AParen → least ≤ 10 → room < 2 → Errs least room Need (bare tokens) (TooDeep (length tokens))
paren_deep least room tokens token after s b h k = deep_along least room Need tokens (token.token ∷ bare after) s.bare_is (l.open_deep least room token.token (bare after) b h k)

pub paren_part : (least room : ℕ) (tokens : List Placed) (token : Placed) (after : List Placed) (v : Tree) (rest behind : List Placed) → Splits tokens token after → begin_by token.token ≡ AParen → least ≤ 10 → 2 ≤ room → nest v ≤ room - 1 → Leads 1 (room - 1) Need (bare after) (at v) (bare rest) → Takes rest (Mark mark.CloseParen) behind → Leads least room Need (bare tokens) (at (Round v)) (bare behind)
paren_part least room tokens token after v rest behind s b h k n i c =
    along least room Need (bare tokens) (token.token ∷ bare after) (Round v) (bare behind) s.bare_is
    (l.paren_leads least room v token.token (bare after) (bare behind) b h k n (subst (λ (x : List Token). Leads 1 (room - 1) Need (bare after) (at v) x) c.bare_is i))

pub paren_open : (least room : ℕ) (tokens : List Placed) (token : Placed) (after : List Placed) (v : Tree) (m : ℕ) (rest : List Placed) → Splits tokens token after → begin_by token.token ≡ AParen → least ≤ 10 → 2 ≤ room → Leads 1 (room - 1) Need (bare after) (at v) (bare rest) → m ≡ level v → goes_on 1 m (bare rest) ≡ false → IsNot (Mark mark.CloseParen) (bare rest) → Errs least room Need (bare tokens) (Syntax (length rest))
paren_open least room tokens token after v m rest s b h k i q g c =
    errs_along least room Need (bare tokens) (token.token ∷ bare after) (Syntax (length rest)) s.bare_is
    (wrong_is least room Need (token.token ∷ bare after) rest (l.paren_unclosed least room v token.token (bare after) (bare rest) b h k i (subst (λ (x : ℕ). goes_on 1 x (bare rest) ≡ false) q g) c))

pub paren_error : (least room : ℕ) (tokens : List Placed) (token : Placed) (after : List Placed) (e : Stop) → Splits tokens token after → begin_by token.token ≡ AParen → least ≤ 10 → 2 ≤ room → Errs 1 (room - 1) Need (bare after) e → Errs least room Need (bare tokens) e
paren_error least room tokens token after e s b h k r = errs_along least room Need (bare tokens) (token.token ∷ bare after) e s.bare_is (errs_by least room 1 (room - 1) Need Need (token.token ∷ bare after) (bare after) e (λ out x. l.paren_refuses least room token.token (bare after) out b h k x) r)

pub sign_wrong : (least room : ℕ) (g : Sign) (n : ℕ) (tokens : List Placed) (token : Placed) (after : List Placed) → Splits tokens token after → begin_by token.token ≡ ASign g → n ≡ sign_level g → n < least → Errs least room Need (bare tokens) (Syntax (length tokens))
sign_wrong least room g n tokens token after s b e h = wrong_along least room Need tokens (token.token ∷ bare after) s.bare_is (l.sign_refuses least room g token.token (bare after) b (omega (arith, e)))

pub sign_deeper : (least room : ℕ) (g : Sign) (n : ℕ) (tokens : List Placed) (token : Placed) (after : List Placed) → Splits tokens token after → begin_by token.token ≡ ASign g → n ≡ sign_level g → least ≤ n → room < 2 → Errs least room Need (bare tokens) (TooDeep (length tokens))
sign_deeper least room g n tokens token after s b e h k = deep_along least room Need tokens (token.token ∷ bare after) s.bare_is (l.sign_deep least room g token.token (bare after) b (omega (arith, e)) k)

pub sign_part : (least room : ℕ) (g : Sign) (n : ℕ) (tokens : List Placed) (token : Placed) (after : List Placed) (u v : Tree) (m : ℕ) (rest : List Placed) → Splits tokens token after → begin_by token.token ≡ ASign g → n ≡ sign_level g → least ≤ n → 2 ≤ room → Leads n (room - 1) Need (bare after) (at v) (bare rest) → m ≡ level v → goes_on n m (bare rest) ≡ false → u ≡ Under g v → Leads least room Need (bare tokens) (at u) (bare rest)
sign_part least room g n tokens token after u v m rest s b e h k i q c t =
    subst (λ (x : Tree). Leads least room Need (bare tokens) (at x) (bare rest)) (sym t)
    (along least room Need (bare tokens) (token.token ∷ bare after) (Under g v) (bare rest) s.bare_is
    (l.sign_leads least room g v token.token (bare after) (bare rest) b (omega (arith, e)) k
    (subst (λ (x : ℕ). Leads x (room - 1) Need (bare after) (at v) (bare rest)) e i)
    (subst (λ (x : ℕ). goes_on (sign_level g) x (bare rest) ≡ false) q (subst (λ (x : ℕ). goes_on x m (bare rest) ≡ false) e c))))

pub sign_error : (least room : ℕ) (g : Sign) (n : ℕ) (tokens : List Placed) (token : Placed) (after : List Placed) (e : Stop) → Splits tokens token after → begin_by token.token ≡ ASign g → n ≡ sign_level g → least ≤ n → 2 ≤ room → Errs n (room - 1) Need (bare after) e → Errs least room Need (bare tokens) e
sign_error least room g n tokens token after e s b i h k r =
    errs_along least room Need (bare tokens) (token.token ∷ bare after) e s.bare_is
    (errs_by least room (sign_level g) (room - 1) Need Need (token.token ∷ bare after) (bare after) e (λ out x. l.sign_refuses_in least room g token.token (bare after) out b (omega (arith, i)) k x)
    (subst (λ (x : ℕ). Errs x (room - 1) Need (bare after) e) i r))

pub same_place : (least room : ℕ) (s : Place) (tokens : List Token) → Leads least room s tokens s tokens
same_place least room s tokens = record { is = λ p fs f. refl }

pub grow_stops : (least n : ℕ) (tokens : List Placed) (token : Placed) (after : List Placed) → Splits tokens token after → goes least n token.token ≡ false → goes_on least n (bare tokens) ≡ false
grow_stops least n tokens token after s h = subst (λ (x : List Token). goes_on least n x ≡ false) (sym s.bare_is) h

pub grow_ends : (least n : ℕ) (tokens : List Placed) → bare tokens ≡ [] → goes_on least n (bare tokens) ≡ false
grow_ends least n tokens e = ap (λ (x : List Token). goes_on least n x) e

pub grow_deeper : (least room : ℕ) (tokens : List Placed) (token : Placed) (after : List Placed) (v : Tree) (n : ℕ) → Splits tokens token after → n ≡ level v → goes least n token.token ≡ true → room ≤ nest v → Errs least room (at v) (bare tokens) (TooDeep (length tokens))
grow_deeper least room tokens token after v n s k g h = deep_along least room (at v) tokens (token.token ∷ bare after) s.bare_is (l.grow_deep least room v token.token (bare after) (subst (λ (x : ℕ). goes least x token.token ≡ true) k g) (omega arith))

pub dot_part : (least room : ℕ) (tokens : List Placed) (token : Placed) (after : List Placed) (v : Tree) (n : ℕ) (w : List ℕ) (i : ℕ) (rest : List Placed) → Splits tokens token after → Names after w i rest → going token.token ≡ ADot → n ≡ level v → goes least n token.token ≡ true → nest v < room → Leads least room (at v) (bare tokens) (at (Dot v w)) (bare rest)
dot_part least room tokens token after v n w i rest s f o k g h =
    along least room (at v) (bare tokens) (token.token ∷ Word w ∷ bare rest) (Dot v w) (bare rest) (s.bare_is ∙ ap (λ (x : List Token). token.token ∷ x) f.bare_is)
    (l.dot_leads least room token.token v w (bare rest) o (subst (λ (x : ℕ). goes least x token.token ≡ true) k g) (omega arith))

pub dot_wrong : (least room : ℕ) (tokens : List Placed) (token : Placed) (after : List Placed) (v : Tree) (n : ℕ) → Splits tokens token after → IsNotWord (bare after) → going token.token ≡ ADot → n ≡ level v → goes least n token.token ≡ true → nest v < room → Errs least room (at v) (bare tokens) (Syntax (length after))
dot_wrong least room tokens token after v n s f o k g h =
    errs_along least room (at v) (bare tokens) (token.token ∷ bare after) (Syntax (length after)) s.bare_is
    (wrong_is least room (at v) (token.token ∷ bare after) after (l.dot_refuses least room token.token v (bare after) o (subst (λ (x : ℕ). goes least x token.token ≡ true) k g) (omega arith) f))

pub pair_part : (least room : ℕ) (tokens : List Placed) (token : Placed) (op : Op) (after : List Placed) (u v : Tree) (n m : ℕ) (rest : List Placed) → Splits tokens token after → going token.token ≡ AnOp op → n ≡ level u → goes least n token.token ≡ true → nest u < room → Leads (right_level op) (room - 1) Need (bare after) (at v) (bare rest) → m ≡ level v → goes_on (right_level op) m (bare rest) ≡ false → Leads least room (at u) (bare tokens) (at (Two op u v)) (bare rest)
pair_part least room tokens token op after u v n m rest s o k g h i j c =
    along least room (at u) (bare tokens) (token.token ∷ bare after) (Two op u v) (bare rest) s.bare_is
    (l.pair_leads least room op token.token u v (bare after) (bare rest) o (subst (λ (x : ℕ). goes least x token.token ≡ true) k g) (omega arith) i (subst (λ (x : ℕ). goes_on (right_level op) x (bare rest) ≡ false) j c))

pub pair_error : (least room : ℕ) (tokens : List Placed) (token : Placed) (op : Op) (after : List Placed) (u : Tree) (n : ℕ) (e : Stop) → Splits tokens token after → going token.token ≡ AnOp op → n ≡ level u → goes least n token.token ≡ true → nest u < room → Errs (right_level op) (room - 1) Need (bare after) e → Errs least room (at u) (bare tokens) e
pair_error least room tokens token op after u n e s o k g h r =
    errs_along least room (at u) (bare tokens) (token.token ∷ bare after) e s.bare_is
    (errs_by least room (right_level op) (room - 1) (at u) Need (token.token ∷ bare after) (bare after) e (λ out x. l.pair_refuses least room op token.token u (bare after) out o (subst (λ (y : ℕ). goes least y token.token ≡ true) k g) (omega arith) x) r)
