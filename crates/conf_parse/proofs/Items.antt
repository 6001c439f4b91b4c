-- Enumerations, classes, and the whole.
use Rattle.std.proofs.Common.{◌≡◌, ◌≤◌, ℕ, true, false, Bool, cond, List, [], ◌∷◌, ◌++◌, refl, sym, ◌∙◌, ap, subst, arith, Option, None, Some, length, length-append}
use Rattle.std.proofs.lemmas.List.{nil_from_length}
use Rattle.model_limits.specs.Limits.{most_nesting}
use Rattle.conf_syntax.specs.declared.token.Ident.{Ident}
use Rattle.conf_syntax.specs.declared.token.Key.TheVariants as key
use Rattle.conf_syntax.specs.declared.token.Mark.TheVariants as mark
use Rattle.conf_syntax.specs.declared.token.Placed.{Placed}
use Rattle.conf_syntax.specs.declared.token.Token.{Token}
use Rattle.conf_syntax.specs.declared.token.Token.TheVariants.{Word, Key, Mark}
use Rattle.conf_syntax.specs.declared.tree.Item as items
use Rattle.conf_syntax.specs.declared.tree.Member as members
use Rattle.conf_syntax.specs.Places.{bare}
use Rattle.conf_syntax.specs.Plain.{Values, OneValue, WithValue, Member, Members, NoMember, WithMember, Item, Enum, Class, Alone, Program, Empty, With, member_nest, members_nest, item_nest, nesting}
use Rattle.conf_syntax.specs.Views.{values_from, enum_of, members_from, member_of, item_of, program_from, program_of}
use Rattle.conf_grammar.specs.declared.piece.Piece.{Piece}
use Rattle.conf_grammar.specs.declared.piece.Piece.TheVariants as piece
use Rattle.conf_grammar.specs.Machine.{Home, Outside, InClass, HomeAt, Enums, ClassHead, EnumLine, ValueLine, AbstractLine, ClassLine, ParentLine, State, At, takes, leasts, enum_step, head_step, class_step, top_step, Whole, reading, start}
use Rattle.conf_grammar.specs.Leads.{Turns, Fails, WrongAt, shown, IsNot, missed, home_low}
use Rattle.conf_grammar.proofs.Turning as t
use Rattle.conf_parse.specs.declared.stop.Stop.{Stop}
use Rattle.conf_parse.specs.declared.stop.Stop.TheVariants.{Syntax, TooDeep, Memory}
use Rattle.conf_parse.specs.Cursor.{Takes, Follows, NamesThen}
use Rattle.conf_parse.specs.Turnings.{TurnErrs, IsFault, home_at, home_and, program_at, program_and, enums_at, class_at, in_class}
use Rattle.conf_parse.proofs.Shapes.{turn_errs, turn_errs_on, fails_along, fails_end, fails_here, turned, not_at}
use Rattle.conf_parse.proofs.Parts.{bare_length}

-- enumerations

missed_by : (b : Bool) (ws vs : List Piece) (x : Token) (rest : List Token) (k : ℕ) → cond b (missed ws rest) (Some (length (x ∷ rest))) ≡ Some k → (missed ws rest ≡ Some k → missed (ws ++ vs) rest ≡ Some k) → cond b (missed (ws ++ vs) rest) (Some (length (x ∷ rest))) ≡ Some k
missed_by true ws vs x rest k e f = f e
missed_by false ws vs x rest k e f = e

-- a row is missed where its front is
missed_front : (ws vs : List Piece) (tokens : List Token) (k : ℕ) → missed ws tokens ≡ Some k → missed (ws ++ vs) tokens ≡ Some k
missed_front [] vs tokens k e = absurd cc
missed_front (w ∷ ws) vs [] k e = e
missed_front (w ∷ ws) vs (x ∷ rest) k e = missed_by (takes w x) ws vs x rest k e (λ i. missed_front ws vs rest k i)

pub enum_miss : (k : ℕ) (tokens after : List Placed) → Takes tokens (Key key.Enum) after → missed (piece.Word ∷ piece.OpenBrace ∷ []) (bare after) ≡ Some k → TurnErrs nesting program_at (bare tokens) (Syntax k)
enum_miss k tokens after j m = fails_along nesting program_at tokens (Key key.Enum ∷ bare after) k j.bare_is (t.fails_line nesting (λ p. HomeAt (Outside p)) (λ p. EnumLine p) (Key key.Enum) (bare after) k (λ a. refl) (λ a. missed_front (piece.Word ∷ piece.OpenBrace ∷ []) (piece.Word ∷ []) (bare after) k m) (λ a n. n))

pub enum_first_miss : (w : List ℕ) (i k : ℕ) (tokens after mid : List Placed) → Takes tokens (Key key.Enum) after → NamesThen after w i (leasts (piece.OpenBrace ∷ [])) mid → missed (piece.Word ∷ []) (bare mid) ≡ Some k → TurnErrs nesting program_at (bare tokens) (Syntax k)
enum_first_miss w i k tokens after mid j f m = fails_along nesting program_at tokens (Key key.Enum ∷ Word w ∷ Mark mark.OpenBrace ∷ bare mid) k (j.bare_is ∙ ap (λ (x : List Token). Key key.Enum ∷ x) f.bare_is) (t.fails_line nesting (λ p. HomeAt (Outside p)) (λ p. EnumLine p) (Key key.Enum) (Word w ∷ Mark mark.OpenBrace ∷ bare mid) k (λ a. refl) (λ a. m) (λ a n. n))

-- the name and the first value
pub enum_start : (w : List ℕ) (i : ℕ) (v : List ℕ) (q : ℕ) (tokens after mid rest : List Placed) → Takes tokens (Key key.Enum) after → NamesThen after w i (leasts (piece.OpenBrace ∷ [])) mid → NamesThen mid v q (leasts []) rest → Turns nesting program_at (bare tokens) (enums_at w (OneValue v)) (bare rest)
enum_start w i v q tokens after mid rest j f g =
    turned tokens (Key key.Enum ∷ Word w ∷ Mark mark.OpenBrace ∷ Word v ∷ bare rest) (bare rest) (j.bare_is ∙ ap (λ (x : List Token). Key key.Enum ∷ x) (f.bare_is ∙ ap (λ (x : List Token). Word w ∷ Mark mark.OpenBrace ∷ x) g.bare_is))
    (t.turns_line nesting (λ p. HomeAt (Outside p)) (λ p. EnumLine p) (Key key.Enum) (Word w ∷ Mark mark.OpenBrace ∷ Word v ∷ []) (bare rest) (λ a. refl) (λ a. refl) (λ a n. n))

-- the values so far
abbrev pub values_at : List ℕ → List Ident → Program → State
values_at w [] p = At (HomeAt (Outside p))
values_at w (x ∷ xs) p = At (Enums p w (values_from (OneValue x.name) xs))

pub values_more : (vs : Values) (xs : List Ident) (x : Ident) → values_from vs (xs ++ (x ∷ [])) ≡ WithValue (values_from vs xs) x.name
values_more vs [] x = refl
values_more vs (y ∷ ys) x = values_more (WithValue vs y.name) ys x

pub value_part : (w : List ℕ) (v : Values) (xs ys : List Ident) (x : Ident) (u : List ℕ) (i : ℕ) (tokens rest after behind : List Placed) → Turns nesting program_at (bare tokens) (enums_at w (values_from v xs)) (bare rest) → Takes rest (Mark mark.Comma) after → NamesThen after u i (leasts []) behind → x.name ≡ u → ys ≡ xs ++ (x ∷ []) → Turns nesting program_at (bare tokens) (enums_at w (values_from v ys)) (bare behind)
value_part w v xs ys x u i tokens rest after behind h j f e q =
    subst (λ (y : Values). Turns nesting program_at (bare tokens) (enums_at w y) (bare behind)) (sym (ap (λ (z : List Ident). values_from v z) q ∙ values_more v xs x ∙ ap (λ (z : List ℕ). WithValue (values_from v xs) z) e))
    (t.turns_on h (turned rest (Mark mark.Comma ∷ Word u ∷ bare behind) (bare behind) (j.bare_is ∙ ap (λ (z : List Token). Mark mark.Comma ∷ z) f.bare_is)
    (t.turns_line nesting (λ p. Enums p w (values_from v xs)) (λ p. ValueLine p w (values_from v xs)) (Mark mark.Comma) (Word u ∷ []) (bare behind) (λ a. refl) (λ a. refl) (λ a n. n))))

pub value_miss : (w : List ℕ) (vs : Values) (k : ℕ) (tokens rest after : List Placed) → Turns nesting program_at (bare tokens) (enums_at w vs) (bare rest) → Takes rest (Mark mark.Comma) after → missed (piece.Word ∷ []) (bare after) ≡ Some k → TurnErrs nesting program_at (bare tokens) (Syntax k)
value_miss w vs k tokens rest after h j m =
    turn_errs_on nesting program_at (enums_at w vs) (bare tokens) (bare rest) (Syntax k) h
    (fails_along nesting (enums_at w vs) rest (Mark mark.Comma ∷ bare after) k j.bare_is (t.fails_line nesting (λ p. Enums p w vs) (λ p. ValueLine p w vs) (Mark mark.Comma) (bare after) k (λ a. refl) (λ a. m) (λ a n. n)))

enum_other : (p : Program) (w : List ℕ) (vs : Values) (x : Token) → (x ≡ Mark mark.Comma → ⊥) → (x ≡ Mark mark.CloseBrace → ⊥) → enum_step p w vs x ≡ None
enum_other p w vs (Mark mark.Comma) a b = absurd (a refl)
enum_other p w vs (Mark mark.CloseBrace) a b = absurd (b refl)
enum_other p w vs _ a b = refl

pub values_none : (w : List ℕ) (vs : Values) (tokens rest : List Placed) → Turns nesting program_at (bare tokens) (enums_at w vs) (bare rest) → IsNot (Mark mark.Comma) (bare rest) → IsNot (Mark mark.CloseBrace) (bare rest) → TurnErrs nesting program_at (bare tokens) (Syntax (length rest))
values_none w vs tokens rest h n m =
    turn_errs_on nesting program_at (enums_at w vs) (bare tokens) (bare rest) (Syntax (length rest)) h
    (fails_here nesting (enums_at w vs) rest (fails_end nesting (enums_at w vs) (bare rest) (λ a x more e. enum_other a w vs x (not_at (Mark mark.Comma) (bare rest) x more e n) (not_at (Mark mark.CloseBrace) (bare rest) x more e m)) (λ a. refl)))

pub enum_end : (w : List ℕ) (vs : Values) (tokens rest behind : List Placed) → Turns nesting program_at (bare tokens) (enums_at w vs) (bare rest) → Takes rest (Mark mark.CloseBrace) behind → Turns nesting program_at (bare tokens) (program_and (Enum w vs)) (bare behind)
enum_end w vs tokens rest behind h j =
    t.turns_on h (turned rest (Mark mark.CloseBrace ∷ bare behind) (bare behind) j.bare_is (t.turns_token nesting (enums_at w vs) (program_and (Enum w vs)) (Mark mark.CloseBrace) (bare behind) (λ a. refl) (λ a n. omega arith)))

-- in the reader's words: the values so far are those of a list
pub enum_begun : (w u : List ℕ) (i : ℕ) (v : List ℕ) (q : ℕ) (tokens after mid rest : List Placed) (xs ys : List Ident) (x : Ident) → Takes tokens (Key key.Enum) after → NamesThen after u i (leasts (piece.OpenBrace ∷ [])) mid → NamesThen mid v q (leasts []) rest → w ≡ u → x.name ≡ v → xs ≡ [] → ys ≡ xs ++ (x ∷ []) → Turns nesting program_at (bare tokens) (values_at w ys) (bare rest)
enum_begun w u i v q tokens after mid rest xs ys x j f g a b c d =
    subst (λ (y : List Ident). Turns nesting program_at (bare tokens) (values_at w y) (bare rest)) (sym (d ∙ ap (λ (y : List Ident). y ++ (x ∷ [])) c))
    (subst (λ (y : List ℕ). Turns nesting program_at (bare tokens) (enums_at y (OneValue x.name)) (bare rest)) (sym a)
    (subst (λ (y : List ℕ). Turns nesting program_at (bare tokens) (enums_at u (OneValue y)) (bare rest)) (sym b)
    (enum_start u i v q tokens after mid rest j f g)))

value_on : (w : List ℕ) (xs ys : List Ident) (x : Ident) (u : List ℕ) (i : ℕ) (tokens rest after behind : List Placed) → 1 ≤ length xs → Turns nesting program_at (bare tokens) (values_at w xs) (bare rest) → Takes rest (Mark mark.Comma) after → NamesThen after u i (leasts []) behind → x.name ≡ u → ys ≡ xs ++ (x ∷ []) → Turns nesting program_at (bare tokens) (values_at w ys) (bare behind)
value_on w [] ys x u i tokens rest after behind n h j f e q = absurd (omega arith)
value_on w (z ∷ zs) ys x u i tokens rest after behind n h j f e q =
    subst (λ (y : List Ident). Turns nesting program_at (bare tokens) (values_at w y) (bare behind)) (sym q)
    (value_part w (OneValue z.name) zs (zs ++ (x ∷ [])) x u i tokens rest after behind h j f e refl)

pub value_next : (w : List ℕ) (xs ys : List Ident) (x : Ident) (u : List ℕ) (i : ℕ) (tokens rest after behind : List Placed) → 1 ≤ length xs → Turns nesting program_at (bare tokens) (values_at w xs) (bare rest) → Takes rest (Mark mark.Comma) after → NamesThen after u i (leasts []) behind → x.name ≡ u → ys ≡ xs ++ (x ∷ []) → Turns nesting program_at (bare tokens) (values_at w ys) (bare behind)
value_next w xs ys x u i tokens rest after behind n h j f e q = value_on w xs ys x u i tokens rest after behind n h j f e q

pub value_missed : (w : List ℕ) (xs : List Ident) (k : ℕ) (tokens rest after : List Placed) → 1 ≤ length xs → Turns nesting program_at (bare tokens) (values_at w xs) (bare rest) → Takes rest (Mark mark.Comma) after → missed (piece.Word ∷ []) (bare after) ≡ Some k → TurnErrs nesting program_at (bare tokens) (Syntax k)
value_missed w [] k tokens rest after n h j m = absurd (omega arith)
value_missed w (z ∷ zs) k tokens rest after n h j m = value_miss w (values_from (OneValue z.name) zs) k tokens rest after h j m

pub values_other : (w : List ℕ) (xs : List Ident) (tokens rest : List Placed) → 1 ≤ length xs → Turns nesting program_at (bare tokens) (values_at w xs) (bare rest) → IsNot (Mark mark.Comma) (bare rest) → IsNot (Mark mark.CloseBrace) (bare rest) → TurnErrs nesting program_at (bare tokens) (Syntax (length rest))
values_other w [] tokens rest n h j m = absurd (omega arith)
values_other w (z ∷ zs) tokens rest n h j m = values_none w (values_from (OneValue z.name) zs) tokens rest h j m

pub enum_ended : (w : List ℕ) (xs : List Ident) (tokens rest behind : List Placed) → 1 ≤ length xs → Turns nesting program_at (bare tokens) (values_at w xs) (bare rest) → Takes rest (Mark mark.CloseBrace) behind → Turns nesting program_at (bare tokens) (program_and (enum_of w xs)) (bare behind)
enum_ended w [] tokens rest behind n h j = absurd (omega arith)
enum_ended w (z ∷ zs) tokens rest behind n h j = enum_end w (values_from (OneValue z.name) zs) tokens rest behind h j

pub push_some : (xs ys : List Ident) (x : Ident) → ys ≡ xs ++ (x ∷ []) → 1 ≤ length ys
push_some xs ys x e = omega (arith, ap length e, length-append xs (x ∷ []))

-- classes

pub class_miss : (k : ℕ) (tokens after : List Placed) → Takes tokens (Key key.Class) after → missed (piece.Word ∷ []) (bare after) ≡ Some k → TurnErrs nesting program_at (bare tokens) (Syntax k)
class_miss k tokens after j m = fails_along nesting program_at tokens (Key key.Class ∷ bare after) k j.bare_is (t.fails_line nesting (λ p. HomeAt (Outside p)) (λ p. ClassLine p) (Key key.Class) (bare after) k (λ a. refl) (λ a. m) (λ a n. n))

pub class_named : (w : List ℕ) (i : ℕ) (tokens after rest : List Placed) → Takes tokens (Key key.Class) after → NamesThen after w i (leasts []) rest → Turns nesting program_at (bare tokens) (class_at false w) (bare rest)
class_named w i tokens after rest j f =
    turned tokens (Key key.Class ∷ Word w ∷ bare rest) (bare rest) (j.bare_is ∙ ap (λ (x : List Token). Key key.Class ∷ x) f.bare_is)
    (t.turns_line nesting (λ p. HomeAt (Outside p)) (λ p. ClassLine p) (Key key.Class) (Word w ∷ []) (bare rest) (λ a. refl) (λ a. refl) (λ a n. n))

pub abstract_miss : (k : ℕ) (tokens after : List Placed) → Takes tokens (Key key.Abstract) after → missed (piece.Class ∷ []) (bare after) ≡ Some k → TurnErrs nesting program_at (bare tokens) (Syntax k)
abstract_miss k tokens after j m = fails_along nesting program_at tokens (Key key.Abstract ∷ bare after) k j.bare_is (t.fails_line nesting (λ p. HomeAt (Outside p)) (λ p. AbstractLine p) (Key key.Abstract) (bare after) k (λ a. refl) (λ a. missed_front (piece.Class ∷ []) (piece.Word ∷ []) (bare after) k m) (λ a n. n))

pub abstract_name_miss : (k : ℕ) (tokens after mid : List Placed) → Takes tokens (Key key.Abstract) after → Follows after (leasts (piece.Class ∷ [])) mid → missed (piece.Word ∷ []) (bare mid) ≡ Some k → TurnErrs nesting program_at (bare tokens) (Syntax k)
abstract_name_miss k tokens after mid j f m = fails_along nesting program_at tokens (Key key.Abstract ∷ Key key.Class ∷ bare mid) k (j.bare_is ∙ ap (λ (x : List Token). Key key.Abstract ∷ x) f.bare_is) (t.fails_line nesting (λ p. HomeAt (Outside p)) (λ p. AbstractLine p) (Key key.Abstract) (Key key.Class ∷ bare mid) k (λ a. refl) (λ a. m) (λ a n. n))

pub abstract_named : (w : List ℕ) (i : ℕ) (tokens after mid rest : List Placed) → Takes tokens (Key key.Abstract) after → Follows after (leasts (piece.Class ∷ [])) mid → NamesThen mid w i (leasts []) rest → Turns nesting program_at (bare tokens) (class_at true w) (bare rest)
abstract_named w i tokens after mid rest j f g =
    turned tokens (Key key.Abstract ∷ Key key.Class ∷ Word w ∷ bare rest) (bare rest) (j.bare_is ∙ ap (λ (x : List Token). Key key.Abstract ∷ x) (f.bare_is ∙ ap (λ (x : List Token). Key key.Class ∷ x) g.bare_is))
    (t.turns_line nesting (λ p. HomeAt (Outside p)) (λ p. AbstractLine p) (Key key.Abstract) (Key key.Class ∷ Word w ∷ []) (bare rest) (λ a. refl) (λ a. refl) (λ a n. n))

pub parent_part : (a : Bool) (w v u : List ℕ) (i : ℕ) (tokens after rest : List Placed) → Takes tokens (Key key.Extends) after → NamesThen after v i (leasts (piece.OpenBrace ∷ [])) rest → u ≡ v → Turns nesting (class_at a w) (bare tokens) (in_class a w (Some u) NoMember) (bare rest)
parent_part a w v u i tokens after rest j f e =
    subst (λ (x : List ℕ). Turns nesting (class_at a w) (bare tokens) (in_class a w (Some x) NoMember) (bare rest)) (sym e)
    (turned tokens (Key key.Extends ∷ Word v ∷ Mark mark.OpenBrace ∷ bare rest) (bare rest) (j.bare_is ∙ ap (λ (x : List Token). Key key.Extends ∷ x) f.bare_is)
    (t.turns_line nesting (λ p. ClassHead p a w) (λ p. ParentLine p a w) (Key key.Extends) (Word v ∷ Mark mark.OpenBrace ∷ []) (bare rest) (λ a. refl) (λ a. refl) (λ a n. n)))

pub parent_miss : (a : Bool) (w : List ℕ) (k : ℕ) (tokens after : List Placed) → Takes tokens (Key key.Extends) after → missed (piece.Word ∷ piece.OpenBrace ∷ []) (bare after) ≡ Some k → TurnErrs nesting (class_at a w) (bare tokens) (Syntax k)
parent_miss a w k tokens after j m = fails_along nesting (class_at a w) tokens (Key key.Extends ∷ bare after) k j.bare_is (t.fails_line nesting (λ p. ClassHead p a w) (λ p. ParentLine p a w) (Key key.Extends) (bare after) k (λ a. refl) (λ a. m) (λ a n. n))

pub orphan_part : (a : Bool) (w : List ℕ) (tokens rest : List Placed) → Takes tokens (Mark mark.OpenBrace) rest → Turns nesting (class_at a w) (bare tokens) (in_class a w None NoMember) (bare rest)
orphan_part a w tokens rest j = turned tokens (Mark mark.OpenBrace ∷ bare rest) (bare rest) j.bare_is (t.turns_token nesting (class_at a w) (in_class a w None NoMember) (Mark mark.OpenBrace) (bare rest) (λ a. refl) (λ a n. omega arith))

head_other : (p : Program) (a : Bool) (w : List ℕ) (x : Token) → (x ≡ Key key.Extends → ⊥) → (x ≡ Mark mark.OpenBrace → ⊥) → head_step p a w x ≡ None
head_other p a w (Key key.Extends) m n = absurd (m refl)
head_other p a w (Mark mark.OpenBrace) m n = absurd (n refl)
head_other p a w _ m n = refl

pub orphan_none : (a : Bool) (w : List ℕ) (tokens : List Placed) → IsNot (Key key.Extends) (bare tokens) → IsNot (Mark mark.OpenBrace) (bare tokens) → TurnErrs nesting (class_at a w) (bare tokens) (Syntax (length tokens))
orphan_none a w tokens m n = fails_here nesting (class_at a w) tokens (fails_end nesting (class_at a w) (bare tokens) (λ p x rest e. head_other p a w x (not_at (Key key.Extends) (bare tokens) x rest e m) (not_at (Mark mark.OpenBrace) (bare tokens) x rest e n)) (λ p. refl))

-- members

pub members_more : (ms : Members) (xs : List members.Member) (x : members.Member) → members_from ms (xs ++ (x ∷ [])) ≡ WithMember (members_from ms xs) (member_of x)
members_more ms [] x = refl
members_more ms (y ∷ ys) x = members_more (WithMember ms (member_of y)) ys x

in_low : (p : Program) (a : Bool) (w : List ℕ) (o : Option (List ℕ)) (ms : Members) → nesting p ≤ most_nesting → members_nest ms ≤ most_nesting → home_low (InClass p a w o ms) ≤ most_nesting
in_low p a w o ms n m = omega arith

module _ (a : Bool) (w : List ℕ) (o : Option (List ℕ)) (tokens rest : List Placed) (xs : List members.Member) (i : Turns nesting (class_at a w) (bare tokens) (in_class a w o (members_from NoMember xs)) (bare rest)) (m : members_nest (members_from NoMember xs) ≤ most_nesting) where
  pub member_part : (behind : List Placed) (ys : List members.Member) (x : members.Member) → Turns home_low home_at (bare rest) (home_and (member_of x)) (bare behind) → ys ≡ xs ++ (x ∷ []) → Turns nesting (class_at a w) (bare tokens) (in_class a w o (members_from NoMember ys)) (bare behind)
  member_part behind ys x j q =
      subst (λ (y : Members). Turns nesting (class_at a w) (bare tokens) (in_class a w o y) (bare behind)) (sym (ap (λ (y : List members.Member). members_from NoMember y) q ∙ members_more NoMember xs x))
      (t.turns_on i (record { is = λ p n. j.is (InClass p a w o (members_from NoMember xs)) (in_low p a w o (members_from NoMember xs) n m) }))

  pub member_error : (e : Stop) → TurnErrs home_low home_at (bare rest) e → TurnErrs nesting (class_at a w) (bare tokens) e
  member_error e r =
      turn_errs nesting home_low (class_at a w) home_at (bare tokens) (bare rest) e
      (λ out x. t.turns_fail i (record { is = λ p n. x.is (InClass p a w o (members_from NoMember xs)) (in_low p a w o (members_from NoMember xs) n m) })) r

  pub class_end : (behind : List Placed) → Takes rest (Mark mark.CloseBrace) behind → Turns nesting (class_at a w) (bare tokens) (program_and (Class a w o (members_from NoMember xs))) (bare behind)
  class_end behind k =
      t.turns_on i (turned rest (Mark mark.CloseBrace ∷ bare behind) (bare behind) k.bare_is
      (t.turns_token nesting (in_class a w o (members_from NoMember xs)) (program_and (Class a w o (members_from NoMember xs))) (Mark mark.CloseBrace) (bare behind) (λ p. refl) (λ p n. omega arith)))

pub member_nests : (xs ys : List members.Member) (x : members.Member) → members_nest (members_from NoMember xs) ≤ most_nesting → ys ≡ xs ++ (x ∷ []) → member_nest (member_of x) ≤ most_nesting → members_nest (members_from NoMember ys) ≤ most_nesting
member_nests xs ys x m q k = let a = ap members_nest (ap (λ (y : List members.Member). members_from NoMember y) q ∙ members_more NoMember xs x) in omega (arith, a)

pub members_none : (xs : List members.Member) → xs ≡ [] → members_nest (members_from NoMember xs) ≤ most_nesting
members_none xs e = omega (arith, ap (λ (x : List members.Member). members_nest (members_from NoMember x)) e)

class_other : (h : Home) (x : Token) → (x ≡ Key key.Var → ⊥) → (x ≡ Key key.Where → ⊥) → (x ≡ Mark mark.CloseBrace → ⊥) → class_step h x ≡ None
class_other h (Key key.Var) m n k = absurd (m refl)
class_other h (Key key.Where) m n k = absurd (n refl)
class_other h (Mark mark.CloseBrace) m n k = absurd (k refl)
class_other h _ m n k = refl

-- what stands in a class where no member begins
pub member_none : (a : Bool) (w : List ℕ) (o : Option (List ℕ)) (ms : Members) (tokens rest : List Placed) → Turns nesting (class_at a w) (bare tokens) (in_class a w o ms) (bare rest) → IsNot (Key key.Var) (bare rest) → IsNot (Key key.Where) (bare rest) → IsNot (Mark mark.CloseBrace) (bare rest) → TurnErrs nesting (class_at a w) (bare tokens) (Syntax (length rest))
member_none a w o ms tokens rest i m n k =
    turn_errs_on nesting (class_at a w) (in_class a w o ms) (bare tokens) (bare rest) (Syntax (length rest)) i
    (fails_here nesting (in_class a w o ms) rest (fails_end nesting (in_class a w o ms) (bare rest) (λ p x more e. class_other (InClass p a w o ms) x (not_at (Key key.Var) (bare rest) x more e m) (not_at (Key key.Where) (bare rest) x more e n) (not_at (Mark mark.CloseBrace) (bare rest) x more e k)) (λ p. refl)))

pub class_part : (a : Bool) (w u : List ℕ) (s : Item) (tokens mid rest : List Placed) → Turns nesting program_at (bare tokens) (class_at a w) (bare mid) → u ≡ w → Turns nesting (class_at a u) (bare mid) (program_and s) (bare rest) → Turns nesting program_at (bare tokens) (program_and s) (bare rest)
class_part a w u s tokens mid rest i e h = t.turns_on i (subst (λ (x : List ℕ). Turns nesting (class_at a x) (bare mid) (program_and s) (bare rest)) e h)

pub class_error : (a : Bool) (w u : List ℕ) (e : Stop) (tokens mid : List Placed) → Turns nesting program_at (bare tokens) (class_at a w) (bare mid) → u ≡ w → TurnErrs nesting (class_at a u) (bare mid) e → TurnErrs nesting program_at (bare tokens) e
class_error a w u e tokens mid i q h = turn_errs_on nesting program_at (class_at a w) (bare tokens) (bare mid) e i (subst (λ (x : List ℕ). TurnErrs nesting (class_at a x) (bare mid) e) q h)

-- items

-- a member at the top level
pub alone_part : (m : Member) (tokens rest : List Placed) → Turns home_low home_at (bare tokens) (home_and m) (bare rest) → Turns nesting program_at (bare tokens) (program_and (Alone m)) (bare rest)
alone_part m tokens rest i = record { is = λ p n. i.is (Outside p) n }

pub alone_error : (tokens : List Placed) (e : Stop) → TurnErrs home_low home_at (bare tokens) e → TurnErrs nesting program_at (bare tokens) e
alone_error tokens e r = turn_errs nesting home_low program_at home_at (bare tokens) (bare tokens) e (λ out x. record { is = λ p n. x.is (Outside p) n }) r

top_other : (p : Program) (x : Token) → (x ≡ Key key.Enum → ⊥) → (x ≡ Key key.Abstract → ⊥) → (x ≡ Key key.Class → ⊥) → (x ≡ Key key.Var → ⊥) → (x ≡ Key key.Where → ⊥) → (x ≡ Key key.Maximize → ⊥) → (x ≡ Key key.Minimize → ⊥) → top_step p x ≡ None
top_other p (Key key.Enum) a b c d e f g = absurd (a refl)
top_other p (Key key.Abstract) a b c d e f g = absurd (b refl)
top_other p (Key key.Class) a b c d e f g = absurd (c refl)
top_other p (Key key.Var) a b c d e f g = absurd (d refl)
top_other p (Key key.Where) a b c d e f g = absurd (e refl)
top_other p (Key key.Maximize) a b c d e f g = absurd (f refl)
top_other p (Key key.Minimize) a b c d e f g = absurd (g refl)
top_other p _ a b c d e f g = refl

top_none : (tokens : List Token) → length tokens ≡ 0 → tokens ≡ []
top_none tokens e = nil_from_length tokens e

top_wrong : (tokens : List Token) → (length tokens ≡ 0 → ⊥) → IsNot (Key key.Enum) tokens → IsNot (Key key.Abstract) tokens → IsNot (Key key.Class) tokens → IsNot (Key key.Var) tokens → IsNot (Key key.Where) tokens → IsNot (Key key.Maximize) tokens → IsNot (Key key.Minimize) tokens → Fails nesting program_at tokens (WrongAt (length tokens))
top_wrong [] h a b c d e f g = absurd (h refl)
top_wrong (x ∷ rest) h a b c d e f g = t.fails_token nesting program_at x rest (λ p. top_other p x a b c d e f g)

pub item_none : (tokens : List Placed) → (length tokens ≡ 0 → ⊥) → IsNot (Key key.Enum) (bare tokens) → IsNot (Key key.Abstract) (bare tokens) → IsNot (Key key.Class) (bare tokens) → IsNot (Key key.Var) (bare tokens) → IsNot (Key key.Where) (bare tokens) → IsNot (Key key.Maximize) (bare tokens) → IsNot (Key key.Minimize) (bare tokens) → TurnErrs nesting program_at (bare tokens) (Syntax (length tokens))
item_none tokens h a b c d e f g = fails_here nesting program_at tokens (top_wrong (bare tokens) (λ n. h (sym (bare_length tokens) ∙ n)) a b c d e f g)

-- the items so far

pub items_more : (p : Program) (xs : List items.Item) (x : items.Item) → program_from p (xs ++ (x ∷ [])) ≡ With (program_from p xs) (item_of x)
items_more p [] x = refl
items_more p (y ∷ ys) x = items_more (With p (item_of y)) ys x

pub all_more : (tokens rest behind : List Placed) (xs ys : List items.Item) (x : items.Item) → reading (bare tokens) most_nesting start ≡ reading (bare rest) most_nesting (program_at (program_of xs)) → nesting (program_of xs) ≤ most_nesting → Turns nesting program_at (bare rest) (program_and (item_of x)) (bare behind) → ys ≡ xs ++ (x ∷ []) → reading (bare tokens) most_nesting start ≡ reading (bare behind) most_nesting (program_at (program_of ys))
all_more tokens rest behind xs ys x e n i q = e ∙ i.is (program_of xs) n ∙ ap (λ (y : Program). reading (bare behind) most_nesting (program_at y)) (sym (ap program_of q ∙ items_more Empty xs x))

pub all_nest : (xs ys : List items.Item) (x : items.Item) → nesting (program_of xs) ≤ most_nesting → ys ≡ xs ++ (x ∷ []) → item_nest (item_of x) ≤ most_nesting → nesting (program_of ys) ≤ most_nesting
all_nest xs ys x n q k = let a = ap nesting (ap program_of q ∙ items_more Empty xs x) in omega (arith, a)

pub all_start : (tokens : List Placed) (xs : List items.Item) → xs ≡ [] → reading (bare tokens) most_nesting start ≡ reading (bare tokens) most_nesting (program_at (program_of xs))
all_start tokens xs e = ap (λ (x : List items.Item). reading (bare tokens) most_nesting (program_at (program_of x))) (sym e)

pub none_nest : (xs : List items.Item) → xs ≡ [] → nesting (program_of xs) ≤ most_nesting
none_nest xs e = omega (arith, ap (λ (x : List items.Item). nesting (program_of x)) e)

bare_nil : (rest : List Placed) → length rest ≡ 0 → bare rest ≡ []
bare_nil [] e = refl
bare_nil (x ∷ xs) e = absurd (omega arith)

pub all_end : (tokens rest : List Placed) (xs : List items.Item) → reading (bare tokens) most_nesting start ≡ reading (bare rest) most_nesting (program_at (program_of xs)) → length rest ≡ 0 → reading (bare tokens) most_nesting start ≡ Whole (program_of xs)
all_end tokens rest xs e h = e ∙ ap (λ (x : List Token). reading x most_nesting (program_at (program_of xs))) (bare_nil rest h)

fault_by : (tokens rest : List Token) (p : Program) (e : Stop) → reading tokens most_nesting start ≡ reading rest most_nesting (program_at p) → nesting p ≤ most_nesting → TurnErrs nesting program_at rest e → IsFault tokens e
fault_by tokens rest p (Syntax k) i n h = record { is = ap shown i ∙ (h.is).is p n }
fault_by tokens rest p (TooDeep k) i n h = record { is = ap shown i ∙ (h.is).is p n }
fault_by tokens rest p Memory i n h = record { is = tt }

pub all_error : (tokens rest : List Placed) (xs : List items.Item) (e : Stop) → reading (bare tokens) most_nesting start ≡ reading (bare rest) most_nesting (program_at (program_of xs)) → nesting (program_of xs) ≤ most_nesting → TurnErrs nesting program_at (bare rest) e → IsFault (bare tokens) e
all_error tokens rest xs e i n r = fault_by (bare tokens) (bare rest) (program_of xs) e i n r
