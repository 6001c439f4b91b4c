-- Declarations that are under way: what stands before them, what completes them.
use Rattle.std.proofs.Common.{◌≡◌, false, List, [], ◌∷◌, ◌++◌, refl, sym, ◌∙◌, ap, append_assoc, append-nil, arith, max}
use Rattle.conf_syntax.specs.declared.token.Key.TheVariants as key
use Rattle.conf_syntax.specs.declared.token.Mark.TheVariants as mark
use Rattle.conf_syntax.specs.declared.token.Token.{Token}
use Rattle.conf_syntax.specs.declared.token.Token.TheVariants.{Key, Mark}
use Rattle.conf_syntax.specs.Plain.{Tree, Range, Int, EndOf, Named, Member, Var, Where, Braces, NoExpr, WithExpr, tokens_of, program_tokens, members_tokens, class_tokens, exprs_tokens, member_tokens, member_nest, IsMember, IsProgram, nesting, IsGood, IsAt, nest}
use Rattle.conf_grammar.specs.Machine.{Home, Outside, InClass, Ground, Lone, Inner, GoalOf, Corner, HomeAt, Enums, ClassHead, ShapeAt, HighAt, CountAt, WhereAt, BracesAt, home_with, home_done, ground_done, corner_done}
use Rattle.conf_grammar.specs.Leads.{ground_base}
use Rattle.conf_grammar.specs.Fronts.{home_front, home_back, IsHome, ground_front, ground_back, IsGround, corner_front, corner_back, IsCorner}

pub home_tokens : (h : Home) → program_tokens (home_done h) ≡ home_front h ++ home_back h
home_tokens (Outside p) = sym (append-nil (program_tokens p))
home_tokens (InClass p a w o ms) = sym (append_assoc (program_tokens p) (class_tokens a w o ++ members_tokens ms) (Mark mark.CloseBrace ∷ []) ∙ ap (λ (x : List Token). program_tokens p ++ x) (append_assoc (class_tokens a w o) (members_tokens ms) (Mark mark.CloseBrace ∷ [])))

pub with_front : (h : Home) (m : Member) → home_front (home_with h m) ≡ home_front h ++ member_tokens m
with_front (Outside p) m = refl
with_front (InClass p a w o ms) m = sym (append_assoc (program_tokens p) (class_tokens a w o ++ members_tokens ms) (member_tokens m) ∙ ap (λ (x : List Token). program_tokens p ++ x) (append_assoc (class_tokens a w o) (members_tokens ms) (member_tokens m)))

pub with_back : (h : Home) (m : Member) → home_back (home_with h m) ≡ home_back h
with_back (Outside p) m = refl
with_back (InClass p a w o ms) m = refl

pub with_tokens : (h : Home) (m : Member) → program_tokens (home_done (home_with h m)) ≡ home_front h ++ (member_tokens m ++ home_back h)
with_tokens h m = home_tokens (home_with h m) ∙ ap (λ (x : List Token). x ++ home_back (home_with h m)) (with_front h m) ∙ ap (λ (x : List Token). (home_front h ++ member_tokens m) ++ x) (with_back h m) ∙ append_assoc (home_front h) (member_tokens m) (home_back h)

pub with_nest : (h : Home) (m : Member) → nesting (home_done (home_with h m)) ≡ max (nesting (home_done h)) (member_nest m)
with_nest (Outside p) m = refl
with_nest (InClass p a w o ms) m = omega arith

pub home_good : (h : Home) → IsHome h → IsProgram (home_done h)
home_good (Outside p) i = i
home_good (InClass p a w o ms) i = i

pub with_good : (h : Home) (m : Member) → IsHome h → IsMember m → IsHome (home_with h m)
with_good (Outside p) m i j = (i, j)
with_good (InClass p a w o ms) m i j = (i.0, (i.1, j))

-- grounds
row : (a b c d : List Token) → a ++ (b ++ (c ++ d)) ≡ (a ++ b) ++ (c ++ d)
row a b c d = simp append_assoc

braces_row : (a v : List Token) (h es : List Token) → h ++ ((Key key.Where ∷ Mark mark.OpenBrace ∷ ((es ++ (v ++ (Mark mark.Semicolon ∷ []))) ++ (Mark mark.CloseBrace ∷ []))) ++ a) ≡ (h ++ (Key key.Where ∷ Mark mark.OpenBrace ∷ es)) ++ (v ++ (Mark mark.Semicolon ∷ Mark mark.CloseBrace ∷ a))
braces_row a v h es = simp append_assoc

where_row : (a v h : List Token) → h ++ ((Key key.Where ∷ (v ++ (Mark mark.Semicolon ∷ []))) ++ a) ≡ (h ++ (Key key.Where ∷ [])) ++ (v ++ (Mark mark.Semicolon ∷ a))
where_row a v h = simp append_assoc

pub ground_tokens : (g : Ground) (v : Tree) → program_tokens (ground_done g v) ≡ ground_front g ++ (tokens_of v ++ ground_back g)
ground_tokens (Lone h) v = with_tokens h (Where v) ∙ where_row (home_back h) (tokens_of v) (home_front h)
ground_tokens (Inner h es) v = with_tokens h (Braces (WithExpr es v)) ∙ braces_row (home_back h) (tokens_of v) (home_front h) (exprs_tokens es)
ground_tokens (GoalOf p m) v = simp append_assoc

pub ground_good : (g : Ground) (v : Tree) → IsGround g → IsGood v → IsAt 1 v → IsProgram (ground_done g v)
ground_good (Lone h) v i k a = home_good (home_with h (Where v)) (with_good h (Where v) i (k, a))
ground_good (Inner h es) v i k a = home_good (home_with h (Braces (WithExpr es v))) (with_good h (Braces (WithExpr es v)) i.0 (i.1, (k, a)))
ground_good (GoalOf p m) v i k a = (i, (k, a))

pub ground_nest : (g : Ground) (v : Tree) → nesting (ground_done g v) ≡ max (ground_base g) (nest v)
ground_nest (Lone h) v = with_nest h (Where v)
ground_nest (Inner h es) v = with_nest h (Braces (WithExpr es v)) ∙ omega arith
ground_nest (GoalOf p m) v = refl

-- corners
pub corner_tokens : (c : Corner) → program_tokens (corner_done c) ≡ corner_front c ++ corner_back c
corner_tokens (HomeAt h) = home_tokens h
corner_tokens (Enums p w vs) = simp append_assoc
corner_tokens (ClassHead p a w) = simp append_assoc
corner_tokens (ShapeAt h w) = with_tokens h (Var w Int) ∙ simp append_assoc
corner_tokens (HighAt h w low) = with_tokens h (Var w (Range low (EndOf false 0))) ∙ simp append_assoc
corner_tokens (CountAt h w r v) = with_tokens h (Var w (Named r v)) ∙ simp append_assoc
corner_tokens (WhereAt h) = with_tokens h (Braces NoExpr) ∙ simp append_assoc
corner_tokens (BracesAt h es) = with_tokens h (Braces es) ∙ simp append_assoc

pub corner_good : (c : Corner) → IsCorner c → IsProgram (corner_done c)
corner_good (HomeAt h) i = home_good h i
corner_good (Enums p w vs) i = (i, tt)
corner_good (ClassHead p a w) i = (i, tt)
corner_good (ShapeAt h w) i = home_good (home_with h (Var w Int)) (with_good h (Var w Int) i tt)
corner_good (HighAt h w low) i = home_good (home_with h (Var w (Range low (EndOf false 0)))) (with_good h (Var w (Range low (EndOf false 0))) i tt)
corner_good (CountAt h w r v) i = home_good (home_with h (Var w (Named r v))) (with_good h (Var w (Named r v)) i tt)
corner_good (WhereAt h) i = home_good (home_with h (Braces NoExpr)) (with_good h (Braces NoExpr) i tt)
corner_good (BracesAt h es) i = home_good (home_with h (Braces es)) (with_good h (Braces es) i.0 i.1)
