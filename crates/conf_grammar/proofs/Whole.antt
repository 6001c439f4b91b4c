-- The tokens of a model are read as that model.
use Rattle.std.proofs.Common.{◌≡◌, ℕ, true, false, Bool, List, [], ◌∷◌, ◌++◌, refl, sym, ◌∙◌, ap, append_assoc, append-nil, Option, None, Some}
use Rattle.conf_syntax.specs.declared.token.Key.TheVariants as key
use Rattle.conf_syntax.specs.declared.token.Mark.TheVariants as mark
use Rattle.conf_syntax.specs.declared.token.Token.{Token}
use Rattle.conf_syntax.specs.declared.token.Token.TheVariants.{Word, Key, Mark}
use Rattle.conf_syntax.specs.Plain.{Tree, tokens_of, IsExpr, EndOf, Shape, Range, Int, Truth, Named, Counted, Values, OneValue, WithValue, Exprs, NoExpr, WithExpr, Member, Var, Where, Braces, Members, NoMember, WithMember, Item, Enum, Class, Alone, Goal, Program, Empty, With, shape_tokens, values_tokens, exprs_tokens, member_tokens, members_tokens, class_tokens, item_tokens, program_tokens, AreExprs, IsMember, AreMembers, IsItem, IsProgram}
use Rattle.conf_grammar.specs.declared.piece.Piece.TheVariants as piece
use Rattle.conf_grammar.specs.Machine.{Home, Outside, InClass, Lone, Inner, GoalOf, HomeAt, Enums, ShapeAt, WhereAt, BracesAt, EnumLine, VarLine, State, At, Row, Need, line, Closing, braces_by, home_with, home_step, step, onto, run, start}
use Rattle.conf_grammar.proofs.Again.{begins, expr_back, stepped}

onto_both : (x : Option State) (f g h : State → Option State) → ((s : State) → f s ≡ onto (g s) h) → onto x f ≡ onto (onto x g) h
onto_both None f g h e = refl
onto_both (Some s) f g h e = e s

pub run_append : (a b : List Token) (s : State) → run (a ++ b) s ≡ onto (run a s) (λ y. run b y)
run_append [] b s = refl
run_append (token ∷ a) b s = onto_both (step s token) (λ y. run (a ++ b) y) (λ y. run a y) (λ y. run b y) (λ y. run_append a b y)

pub home_var : (h : Home) → home_step h (Key key.Var) ≡ Some (line (VarLine h))
home_var (Outside p) = refl
home_var (InClass p a w o ms) = refl

pub home_where : (h : Home) → home_step h (Key key.Where) ≡ Some (At (WhereAt h))
home_where (Outside p) = refl
home_where (InClass p a w o ms) = refl

shape_back : (h : Home) (w : List ℕ) (s : Shape) (rest : List Token) → run (shape_tokens s ++ (Mark mark.Semicolon ∷ rest)) (At (ShapeAt h w)) ≡ run rest (At (HomeAt (home_with h (Var w s))))
shape_back h w (Range (EndOf true m) (EndOf true n)) rest = refl
shape_back h w (Range (EndOf true m) (EndOf false n)) rest = refl
shape_back h w (Range (EndOf false m) (EndOf true n)) rest = refl
shape_back h w (Range (EndOf false m) (EndOf false n)) rest = refl
shape_back h w Int rest = refl
shape_back h w Truth rest = refl
shape_back h w (Named true v) rest = refl
shape_back h w (Named false v) rest = refl
shape_back h w (Counted true v n) rest = refl
shape_back h w (Counted false v n) rest = refl

expr_row : (a v z : List Token) → (a ++ (v ++ (Mark mark.Semicolon ∷ []))) ++ z ≡ a ++ (v ++ (Mark mark.Semicolon ∷ z))
expr_row a v z = simp append_assoc

inner_back : (h : Home) (es : Exprs) (e : Tree) (rest : List Token) → IsExpr e → run (tokens_of e ++ (Mark mark.Semicolon ∷ rest)) (At (BracesAt h es)) ≡ run rest (At (BracesAt h (WithExpr es e)))
inner_back h es e rest g =
    let n = begins e g.0 in
    ap (λ (x : List Token). run (x ++ (Mark mark.Semicolon ∷ rest)) (At (BracesAt h es))) n.is
    ∙ ap (λ (x : Closing). onto (braces_by h es n.token x) (λ y. run (n.rest ++ (Mark mark.Semicolon ∷ rest)) y)) n.other
    ∙ sym (ap (λ (x : List Token). run (x ++ (Mark mark.Semicolon ∷ rest)) (Need (Inner h es) [])) n.is)
    ∙ expr_back e (Inner h es) rest g.0 g.1

lone_back : (h : Home) (e : Tree) (rest : List Token) → IsExpr e → run (tokens_of e ++ (Mark mark.Semicolon ∷ rest)) (At (WhereAt h)) ≡ run rest (At (HomeAt (home_with h (Where e))))
lone_back h e rest g =
    let n = begins e g.0 in
    ap (λ (x : List Token). run (x ++ (Mark mark.Semicolon ∷ rest)) (At (WhereAt h))) n.is
    ∙ ap (λ (x : Option State). onto x (λ y. run (n.rest ++ (Mark mark.Semicolon ∷ rest)) y)) (n.where_is h)
    ∙ sym (ap (λ (x : List Token). run (x ++ (Mark mark.Semicolon ∷ rest)) (Need (Lone h) [])) n.is)
    ∙ expr_back e (Lone h) rest g.0 g.1

exprs_back : (h : Home) (es : Exprs) (rest : List Token) → AreExprs es → run (exprs_tokens es ++ rest) (At (BracesAt h NoExpr)) ≡ run rest (At (BracesAt h es))
exprs_back h NoExpr rest g = refl
exprs_back h (WithExpr es e) rest g =
    ap (λ (x : List Token). run x (At (BracesAt h NoExpr))) (expr_row (exprs_tokens es) (tokens_of e) rest)
    ∙ exprs_back h es (tokens_of e ++ (Mark mark.Semicolon ∷ rest)) g.0
    ∙ inner_back h es e rest g.1

pub member_back : (h : Home) (m : Member) (rest : List Token) → IsMember m → run (member_tokens m ++ rest) (At (HomeAt h)) ≡ run rest (At (HomeAt (home_with h m)))
member_back h (Var w s) rest g =
    stepped (Key key.Var) (Word w ∷ Key key.As ∷ ((shape_tokens s ++ (Mark mark.Semicolon ∷ [])) ++ rest)) (At (HomeAt h)) (line (VarLine h)) (home_var h)
    ∙ ap (λ (x : List Token). run x (At (ShapeAt h w))) (append_assoc (shape_tokens s) (Mark mark.Semicolon ∷ []) rest)
    ∙ shape_back h w s rest
member_back h (Where e) rest g =
    stepped (Key key.Where) ((tokens_of e ++ (Mark mark.Semicolon ∷ [])) ++ rest) (At (HomeAt h)) (At (WhereAt h)) (home_where h)
    ∙ ap (λ (x : List Token). run x (At (WhereAt h))) (append_assoc (tokens_of e) (Mark mark.Semicolon ∷ []) rest)
    ∙ lone_back h e rest g
member_back h (Braces es) rest g =
    stepped (Key key.Where) (Mark mark.OpenBrace ∷ ((exprs_tokens es ++ (Mark mark.CloseBrace ∷ [])) ++ rest)) (At (HomeAt h)) (At (WhereAt h)) (home_where h)
    ∙ ap (λ (x : List Token). run x (At (BracesAt h NoExpr))) (append_assoc (exprs_tokens es) (Mark mark.CloseBrace ∷ []) rest)
    ∙ exprs_back h es (Mark mark.CloseBrace ∷ rest) g

members_back : (p : Program) (a : Bool) (w : List ℕ) (o : Option (List ℕ)) (ms : Members) (rest : List Token) → AreMembers ms → run (members_tokens ms ++ rest) (At (HomeAt (InClass p a w o NoMember))) ≡ run rest (At (HomeAt (InClass p a w o ms)))
members_back p a w o NoMember rest g = refl
members_back p a w o (WithMember ms m) rest g =
    ap (λ (x : List Token). run x (At (HomeAt (InClass p a w o NoMember)))) (append_assoc (members_tokens ms) (member_tokens m) rest)
    ∙ members_back p a w o ms (member_tokens m ++ rest) g.0
    ∙ member_back (InClass p a w o ms) m rest g.1

values_back : (p : Program) (w : List ℕ) (vs : Values) (rest : List Token) → run (values_tokens vs ++ rest) (Row (piece.Word ∷ []) (Word w ∷ Mark mark.OpenBrace ∷ []) (EnumLine p)) ≡ run rest (At (Enums p w vs))
values_back p w (OneValue v) rest = refl
values_back p w (WithValue vs v) rest =
    ap (λ (x : List Token). run x (Row (piece.Word ∷ []) (Word w ∷ Mark mark.OpenBrace ∷ []) (EnumLine p))) (append_assoc (values_tokens vs) (Mark mark.Comma ∷ Word v ∷ []) rest)
    ∙ values_back p w vs (Mark mark.Comma ∷ Word v ∷ rest)

class_back : (p : Program) (a : Bool) (w : List ℕ) (o : Option (List ℕ)) (rest : List Token) → run (class_tokens a w o ++ rest) (At (HomeAt (Outside p))) ≡ run rest (At (HomeAt (InClass p a w o NoMember)))
class_back p true w None rest = refl
class_back p true w (Some v) rest = refl
class_back p false w None rest = refl
class_back p false w (Some v) rest = refl

item_back : (p : Program) (i : Item) (rest : List Token) → IsItem i → run (item_tokens i ++ rest) (At (HomeAt (Outside p))) ≡ run rest (At (HomeAt (Outside (With p i))))
item_back p (Enum w vs) rest g =
    ap (λ (x : List Token). run x (Row (piece.Word ∷ []) (Word w ∷ Mark mark.OpenBrace ∷ []) (EnumLine p))) (append_assoc (values_tokens vs) (Mark mark.CloseBrace ∷ []) rest)
    ∙ values_back p w vs (Mark mark.CloseBrace ∷ rest)
item_back p (Class a w o ms) rest g =
    ap (λ (x : List Token). run x (At (HomeAt (Outside p)))) (append_assoc (class_tokens a w o) (members_tokens ms ++ (Mark mark.CloseBrace ∷ [])) rest)
    ∙ class_back p a w o ((members_tokens ms ++ (Mark mark.CloseBrace ∷ [])) ++ rest)
    ∙ ap (λ (x : List Token). run x (At (HomeAt (InClass p a w o NoMember)))) (append_assoc (members_tokens ms) (Mark mark.CloseBrace ∷ []) rest)
    ∙ members_back p a w o ms (Mark mark.CloseBrace ∷ rest) g
item_back p (Alone m) rest g = member_back (Outside p) m rest g
item_back p (Goal true e) rest g =
    ap (λ (x : List Token). run x (Need (GoalOf p true) [])) (append_assoc (tokens_of e) (Mark mark.Semicolon ∷ []) rest)
    ∙ expr_back e (GoalOf p true) rest g.0 g.1
item_back p (Goal false e) rest g =
    ap (λ (x : List Token). run x (Need (GoalOf p false) [])) (append_assoc (tokens_of e) (Mark mark.Semicolon ∷ []) rest)
    ∙ expr_back e (GoalOf p false) rest g.0 g.1

program_back_by : (p : Program) (rest : List Token) → IsProgram p → run (program_tokens p ++ rest) start ≡ run rest (At (HomeAt (Outside p)))
program_back_by Empty rest g = refl
program_back_by (With p i) rest g =
    ap (λ (x : List Token). run x start) (append_assoc (program_tokens p) (item_tokens i) rest)
    ∙ program_back_by p (item_tokens i ++ rest) g.0
    ∙ item_back p i rest g.1

pub program_back : (p : Program) → IsProgram p → run (program_tokens p) start ≡ Some (At (HomeAt (Outside p)))
program_back p g = sym (ap (λ (x : List Token). run x start) (append-nil (program_tokens p))) ∙ program_back_by p [] g
