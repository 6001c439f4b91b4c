-- Quantifiers, in the words of their readers.
use Rattle.std.proofs.Common.{◌≡◌, ◌≤◌, ◌<◌, ◌-◌, ℕ, true, false, Bool, List, [], ◌∷◌, ◌++◌, refl, sym, ◌∙◌, ap, subst, arith, Option, None, Some, length}
use Rattle.std.proofs.lemmas.Bool.{cond-false, cond-true}
use Rattle.model_limits.specs.Limits.{most_nesting}
use Rattle.conf_syntax.specs.declared.token.Key.TheVariants as key
use Rattle.conf_syntax.specs.declared.token.Mark.TheVariants as mark
use Rattle.conf_syntax.specs.declared.token.Placed.{Placed}
use Rattle.conf_syntax.specs.declared.token.Token.{Token}
use Rattle.conf_syntax.specs.declared.token.Token.TheVariants.{Word, Key, Mark}
use Rattle.conf_syntax.specs.declared.tree.Expr.{Expr}
use Rattle.conf_syntax.specs.declared.tree.QuantKind.{QuantKind}
use Rattle.conf_syntax.specs.Places.{bare}
use Rattle.conf_syntax.specs.Trees.{may_filter}
use Rattle.conf_syntax.specs.Plain.{Tree, Many, Single, Head, HeadIf, First, Then, AQuant, begin_by, level, part, quant, bodies, semicolons, may_more, may_end, nest}
use Rattle.conf_syntax.specs.Views.{tree_of, chain, filtered, grown, closed}
use Rattle.conf_syntax.proofs.Tied.{grown_first, grown_then}
use Rattle.conf_grammar.specs.Machine.{Ground, Frame, InOver, InFilter, InFirst, InSingle, InThen, State, Need, Have, VarAt, NamedAt, Next, Closing, Other, closing, slots, slot, have, over, filters, next, single, need, again_by, var_name, in_path, body_frame, body, word, hole, opened, filled, onward, reading, where_room}
use Rattle.conf_grammar.specs.Leads.{side, Place, at, Leads, WrongAt, DeepAt, shown, Refuses, IsNot, IsNotWord, need_in, have_in, next_at, goes_on}
use Rattle.conf_grammar.proofs.Complete.{opened_nest, filled_nest}
use Rattle.conf_grammar.proofs.Again.{room_is, if_is}
use Rattle.conf_grammar.proofs.Leading as l
use Rattle.conf_parse.specs.declared.stop.Stop.{Stop}
use Rattle.conf_parse.specs.declared.stop.Stop.TheVariants.{Syntax, TooDeep}
use Rattle.conf_parse.specs.Cursor.{Splits, Takes, Names}
use Rattle.conf_parse.specs.Parts.{Errs, IsItem, ItemErrs}
use Rattle.conf_parse.proofs.Parts.{errs_by, errs_along, wrong_along, wrong_is, deep_along}

start_along : (least room : ℕ) (s s' : Place) (a b rest : List Token) → a ≡ b → Leads least room s b s' rest → Leads least room s a s' rest
start_along least room s s' a b rest e h = subst (λ (x : List Token). Leads least room s x s' rest) (sym e) h

-- the head
module _ (least room : ℕ) (k : QuantKind) (token : Token) (b : begin_by token ≡ AQuant k) where
  var_need : (p : Ground) (fs : List Frame) → need p fs token ≡ where_room (slots fs) 10 (VarAt p fs k)
  var_need p fs = l.need_is p fs token (AQuant k) b

  var_leads : (after : List Token) → least ≤ 10 → 2 ≤ room → Leads least room Need (token ∷ after) (λ p fs. VarAt p fs k) after
  var_leads after h i = record { is = λ p fs f. l.moves token after (Need p fs) (VarAt p fs k) (var_need p fs ∙ room_is (slots fs) 10 (VarAt p fs k) (let e = f.slot_is in omega arith)) (l.holds p fs least room f (opened (Head k word hole) hole) (omega (arith, opened_nest (Head k word hole) hole))) }

  var_wrong : (after : List Token) → 10 < least → Refuses least room Need (token ∷ after) (WrongAt (length (token ∷ after)))
  var_wrong after h = l.refuses_token least room Need token after (λ p fs i. var_need p fs ∙ l.no_room (slots fs) 10 (VarAt p fs k) (omega arith))

  var_deep : (after : List Token) → least ≤ 10 → room < 2 → Refuses least room Need (token ∷ after) (DeepAt (length (token ∷ after)))
  var_deep after h i = record { is = λ p fs f. ap shown (l.sinks token after (Need p fs) (VarAt p fs k) (var_need p fs ∙ room_is (slots fs) 10 (VarAt p fs k) (let e = f.slot_is in omega arith)) (l.bursts p fs least room f (opened (Head k word hole) hole) (omega (arith, opened_nest (Head k word hole) hole)))) }

named_leads : (least room : ℕ) (k : QuantKind) (w : List ℕ) (b : List Token) → 2 ≤ room → Leads least room (λ p fs. VarAt p fs k) (Word w ∷ b) (λ p fs. NamedAt p fs k w) b
named_leads least room k w b i = record { is = λ p fs f. l.moves (Word w) b (VarAt p fs k) (NamedAt p fs k w) refl (l.holds p fs least room f (opened (Head k w hole) hole) (omega (arith, opened_nest (Head k w hole) hole))) }

over_leads : (least room : ℕ) (k : QuantKind) (w : List ℕ) (path : List Token) → 2 ≤ room → Leads least room (λ p fs. NamedAt p fs k w) (Key key.In ∷ path) (need_in (InOver k w)) path
over_leads least room k w path i = l.opens least room (λ p fs. NamedAt p fs k w) (Key key.In) path (InOver k w) (λ p fs e. refl) i i

var_none : (p : Ground) (fs : List Frame) (k : QuantKind) (token : Token) (rest : List Token) → IsNotWord (token ∷ rest) → var_name p fs k token ≡ None
var_none p fs k (Word w) rest h = absurd h
var_none p fs k _ rest h = refl

name_wrong : (least room : ℕ) (k : QuantKind) (tokens : List Token) → IsNotWord tokens → Refuses least room (λ p fs. VarAt p fs k) tokens (WrongAt (length tokens))
name_wrong least room k [] h = record { is = λ p fs f. refl }
name_wrong least room k (token ∷ rest) h = l.refuses_token least room (λ p fs. VarAt p fs k) token rest (λ p fs e. var_none p fs k token rest h)

in_none : (p : Ground) (fs : List Frame) (k : QuantKind) (w : List ℕ) (token : Token) (rest : List Token) → IsNot (Key key.In) (token ∷ rest) → in_path p fs k w token ≡ None
in_none p fs k w (Key key.In) rest h = absurd (h refl)
in_none p fs k w _ rest h = refl

in_wrong : (least room : ℕ) (k : QuantKind) (w : List ℕ) (tokens : List Token) → IsNot (Key key.In) tokens → Refuses least room (λ p fs. NamedAt p fs k w) tokens (WrongAt (length tokens))
in_wrong least room k w [] h = record { is = λ p fs f. refl }
in_wrong least room k w (token ∷ rest) h = l.refuses_token least room (λ p fs. NamedAt p fs k w) token rest (λ p fs e. in_none p fs k w token rest h)

module _ (least room : ℕ) (k : QuantKind) (tokens : List Placed) (token : Placed) (after : List Placed) (s : Splits tokens token after) (b : begin_by token.token ≡ AQuant k) where
  to_path : (w : List ℕ) (i : ℕ) (mid path : List Placed) → Names after w i mid → Takes mid (Key key.In) path → least ≤ 10 → 2 ≤ room → Leads least room Need (bare tokens) (need_in (InOver k w)) (bare path)
  to_path w i mid path f g h r =
      start_along least room Need (need_in (InOver k w)) (bare tokens) (token.token ∷ bare after) (bare path) s.bare_is (l.leads_on (var_leads least room k token.token b (bare after) h r)
      (start_along least room (λ p fs. VarAt p fs k) (need_in (InOver k w)) (bare after) (Word w ∷ bare mid) (bare path) f.bare_is (l.leads_on (named_leads least room k w (bare mid) r)
      (start_along least room (λ p fs. NamedAt p fs k w) (need_in (InOver k w)) (bare mid) (Key key.In ∷ bare path) (bare path) g.bare_is (over_leads least room k w (bare path) r)))))

  pub head_part : (w : List ℕ) (i : ℕ) (mid path : List Placed) (v : Tree) (rest : List Placed) → Names after w i mid → Takes mid (Key key.In) path → least ≤ 10 → 2 ≤ room → Leads 11 (room - 1) Need (bare path) (at v) (bare rest) → Leads least room Need (bare tokens) (have_in (InOver k w) v) (bare rest)
  head_part w i mid path v rest f g h r j = l.leads_on (to_path w i mid path f g h r) (l.under_leads least room (InOver k w) r j)

  pub head_error : (w : List ℕ) (i : ℕ) (mid path : List Placed) (e : Stop) → Names after w i mid → Takes mid (Key key.In) path → least ≤ 10 → 2 ≤ room → Errs 11 (room - 1) Need (bare path) e → Errs least room Need (bare tokens) e
  head_error w i mid path e f g h r j = errs_by least room 11 (room - 1) Need Need (bare tokens) (bare path) e (λ out x. l.leads_refuses (to_path w i mid path f g h r) (l.under_refuses least room (InOver k w) r x)) j

  pub head_wrong : 10 < least → Errs least room Need (bare tokens) (Syntax (length tokens))
  head_wrong h = wrong_along least room Need tokens (token.token ∷ bare after) s.bare_is (var_wrong least room k token.token b (bare after) h)

  pub head_deep : least ≤ 10 → room < 2 → Errs least room Need (bare tokens) (TooDeep (length tokens))
  head_deep h r = deep_along least room Need tokens (token.token ∷ bare after) s.bare_is (var_deep least room k token.token b (bare after) h r)

  pub head_unnamed : IsNotWord (bare after) → least ≤ 10 → 2 ≤ room → Errs least room Need (bare tokens) (Syntax (length after))
  head_unnamed n h r = errs_along least room Need (bare tokens) (token.token ∷ bare after) (Syntax (length after)) s.bare_is (wrong_is least room Need (token.token ∷ bare after) after (l.leads_refuses (var_leads least room k token.token b (bare after) h r) (name_wrong least room k (bare after) n)))

  pub head_bare : (w : List ℕ) (i : ℕ) (mid : List Placed) → Names after w i mid → IsNot (Key key.In) (bare mid) → least ≤ 10 → 2 ≤ room → Errs least room Need (bare tokens) (Syntax (length mid))
  head_bare w i mid f n h r =
      errs_along least room Need (bare tokens) (token.token ∷ Word w ∷ bare mid) (Syntax (length mid)) (s.bare_is ∙ ap (λ (x : List Token). token.token ∷ x) f.bare_is)
      (wrong_is least room Need (token.token ∷ Word w ∷ bare mid) mid (l.leads_refuses (var_leads least room k token.token b (Word w ∷ bare mid) h r) (l.leads_refuses (named_leads least room k w (bare mid) r) (in_wrong least room k w (bare mid) n))))

-- the filter
body_slot : (b : Bool) (h : Tree) → slot (body_frame b h) ≡ 1
body_slot true h = refl
body_slot false h = refl

body_side : (b : Bool) (h : Tree) → side (body_frame b h) ≡ nest h
body_side true h = refl
body_side false h = refl

first_is : (token : Token) (rest : List Token) {inner : List Token} {t : Token} → token ∷ rest ≡ t ∷ inner → token ≡ t
first_is token rest e = cc

filter_opens : (least room : ℕ) (k : QuantKind) (w : List ℕ) (v : Tree) (inner : List Token) → may_filter k ≡ true → 2 ≤ room → nest v < room → Leads least room (have_in (InOver k w) v) (Key key.Where ∷ inner) (need_in (InFilter (Head k w v))) inner
filter_opens least room k w v inner m r n = l.opens least room (have_in (InOver k w) v) (Key key.Where) inner (InFilter (Head k w v)) (λ p fs e. if_is (may_filter k) (Need p (InFilter (Head k w v) ∷ fs)) m) (omega arith) r

begin_filter : (least room : ℕ) (h v : Tree) (b : List Token) → 2 ≤ room → nest h < room → nest v < room → Leads least room (have_in (InFilter h) v) (Mark mark.OpenBrace ∷ b) (need_in (body (HeadIf h v))) b
begin_filter least room h v b r n m = l.opens least room (have_in (InFilter h) v) (Mark mark.OpenBrace) b (body (HeadIf h v)) (λ p fs e. refl) (omega (arith, body_side (semicolons (quant h)) (HeadIf h v))) r

begin_plain : (least room : ℕ) (k : QuantKind) (w : List ℕ) (v : Tree) (b : List Token) → 2 ≤ room → nest v < room → Leads least room (have_in (InOver k w) v) (Mark mark.OpenBrace ∷ b) (need_in (body (Head k w v))) b
begin_plain least room k w v b r n = l.opens least room (have_in (InOver k w) v) (Mark mark.OpenBrace) b (body (Head k w v)) (λ p fs e. refl) (omega (arith, body_side (semicolons k) (Head k w v))) r

over_none : (p : Ground) (fs : List Frame) (k : QuantKind) (w : List ℕ) (v : Tree) (token : Token) (rest : List Token) → IsNot (Key key.Where) (token ∷ rest) → IsNot (Mark mark.OpenBrace) (token ∷ rest) → over p fs k w v token ≡ None
over_none p fs k w v (Key key.Where) rest h i = absurd (h refl)
over_none p fs k w v (Mark mark.OpenBrace) rest h i = absurd (i refl)
over_none p fs k w v _ rest h i = refl

filters_none : (p : Ground) (fs : List Frame) (h v : Tree) (token : Token) (rest : List Token) → IsNot (Mark mark.OpenBrace) (token ∷ rest) → filters p fs h v token ≡ None
filters_none p fs h v (Mark mark.OpenBrace) rest k = absurd (k refl)
filters_none p fs h v _ rest k = refl

over_wrong : (least room : ℕ) (k : QuantKind) (w : List ℕ) (v : Tree) (tokens : List Token) → goes_on 11 (level v) tokens ≡ false → IsNot (Key key.Where) tokens → IsNot (Mark mark.OpenBrace) tokens → Refuses least room (have_in (InOver k w) v) tokens (WrongAt (length tokens))
over_wrong least room k w v tokens g n i = l.stays least room (InOver k w) v tokens (λ p fs token. over p fs k w v token) (λ p fs token. refl) g (λ p fs token rest e. over_none p fs k w v token rest (l.not_along (Key key.Where) token tokens rest e n) (l.not_along (Mark mark.OpenBrace) token tokens rest e i))

-- no filter may stand there
unfiltered : (least room : ℕ) (k : QuantKind) (w : List ℕ) (v : Tree) (tokens inner : List Token) → goes_on 11 (level v) tokens ≡ false → tokens ≡ Key key.Where ∷ inner → may_filter k ≡ false → Refuses least room (have_in (InOver k w) v) tokens (WrongAt (length tokens))
unfiltered least room k w v tokens inner g e m = l.stays least room (InOver k w) v tokens (λ p fs token. over p fs k w v token) (λ p fs token. refl) g (λ p fs token rest i. ap (λ (x : Token). over p fs k w v x) (first_is token rest (sym i ∙ e)) ∙ cond-false (may_filter k) (Some (Need p (InFilter (Head k w v) ∷ fs))) None m)

filter_wrong : (least room : ℕ) (h v : Tree) (tokens : List Token) → goes_on 1 (level v) tokens ≡ false → IsNot (Mark mark.OpenBrace) tokens → Refuses least room (have_in (InFilter h) v) tokens (WrongAt (length tokens))
filter_wrong least room h v tokens g n = l.stays least room (InFilter h) v tokens (λ p fs token. filters p fs h v token) (λ p fs token. refl) g (λ p fs token rest e. filters_none p fs h v token rest (l.not_along (Mark mark.OpenBrace) token tokens rest e n))

module _ (least room : ℕ) (k : QuantKind) (w : List ℕ) (v : Tree) (tokens rest : List Placed) (i : Leads least room Need (bare tokens) (have_in (InOver k w) v) (bare rest)) where
  to_filter : (inner : List Placed) → Takes rest (Key key.Where) inner → may_filter k ≡ true → 2 ≤ room → nest v < room → Leads least room Need (bare tokens) (need_in (InFilter (Head k w v))) (bare inner)
  to_filter inner e m r n = l.leads_on i (start_along least room (have_in (InOver k w) v) (need_in (InFilter (Head k w v))) (bare rest) (Key key.Where ∷ bare inner) (bare inner) e.bare_is (filter_opens least room k w v (bare inner) m r n))

  pub filter_part : (f : Tree) (inner behind b : List Placed) → Takes rest (Key key.Where) inner → may_filter k ≡ true → 2 ≤ room → nest v < room → Leads 1 (room - 1) Need (bare inner) (at f) (bare behind) → nest f < room → Takes behind (Mark mark.OpenBrace) b → Leads least room Need (bare tokens) (need_in (body (HeadIf (Head k w v) f))) (bare b)
  filter_part f inner behind b e m r n j q g =
      l.leads_on (to_filter inner e m r n)
      (l.leads_on (l.under_leads least room (InFilter (Head k w v)) (omega arith) j)
      (start_along least room (have_in (InFilter (Head k w v)) f) (need_in (body (HeadIf (Head k w v) f))) (bare behind) (Mark mark.OpenBrace ∷ bare b) (bare b) g.bare_is (begin_filter least room (Head k w v) f (bare b) r n q)))

  pub filter_error : (inner : List Placed) (e : Stop) → Takes rest (Key key.Where) inner → may_filter k ≡ true → 2 ≤ room → nest v < room → Errs 1 (room - 1) Need (bare inner) e → Errs least room Need (bare tokens) e
  filter_error inner e g m r n j = errs_by least room 1 (room - 1) Need Need (bare tokens) (bare inner) e (λ out x. l.leads_refuses (to_filter inner g m r n) (l.under_refuses least room (InFilter (Head k w v)) (omega arith) x)) j

  pub filter_open : (f : Tree) (m : ℕ) (inner behind : List Placed) → Takes rest (Key key.Where) inner → may_filter k ≡ true → 2 ≤ room → nest v < room → Leads 1 (room - 1) Need (bare inner) (at f) (bare behind) → m ≡ level f → goes_on 1 m (bare behind) ≡ false → IsNot (Mark mark.OpenBrace) (bare behind) → Errs least room Need (bare tokens) (Syntax (length behind))
  filter_open f m inner behind e y r n j q g c = wrong_is least room Need (bare tokens) behind (l.leads_refuses (to_filter inner e y r n) (l.leads_refuses (l.under_leads least room (InFilter (Head k w v)) (omega arith) j) (filter_wrong least room (Head k w v) f (bare behind) (subst (λ (x : ℕ). goes_on 1 x (bare behind) ≡ false) q g) c)))

  pub filter_never : (m : ℕ) (inner : List Placed) → Takes rest (Key key.Where) inner → may_filter k ≡ false → m ≡ level v → goes_on 11 m (bare rest) ≡ false → Errs least room Need (bare tokens) (Syntax (length rest))
  filter_never m inner e y q g = wrong_is least room Need (bare tokens) rest (l.leads_refuses i (unfiltered least room k w v (bare rest) (bare inner) (subst (λ (x : ℕ). goes_on 11 x (bare rest) ≡ false) q g) e.bare_is y))

  pub plain_part : (b : List Placed) → Takes rest (Mark mark.OpenBrace) b → 2 ≤ room → nest v < room → Leads least room Need (bare tokens) (need_in (body (Head k w v))) (bare b)
  plain_part b e r n = l.leads_on i (start_along least room (have_in (InOver k w) v) (need_in (body (Head k w v))) (bare rest) (Mark mark.OpenBrace ∷ bare b) (bare b) e.bare_is (begin_plain least room k w v (bare b) r n))

  pub plain_wrong : (m : ℕ) → m ≡ level v → goes_on 11 m (bare rest) ≡ false → IsNot (Key key.Where) (bare rest) → IsNot (Mark mark.OpenBrace) (bare rest) → Errs least room Need (bare tokens) (Syntax (length rest))
  plain_wrong m q g n y = wrong_is least room Need (bare tokens) rest (l.leads_refuses i (over_wrong least room k w v (bare rest) (subst (λ (x : ℕ). goes_on 11 x (bare rest) ≡ false) q g) n y))

-- a body with its semicolon
item_ends : (least room : ℕ) (f : Frame) (b v : Tree) (rest : List Token) → ((p : Ground) (fs : List Frame) → have (f ∷ fs) p v (Mark mark.Semicolon) ≡ Some (Next p fs b)) → nest b < room → Leads least room (have_in f v) (Mark mark.Semicolon ∷ rest) (next_at b) rest
item_ends least room f b v rest e n = record { is = λ p fs i. l.moves (Mark mark.Semicolon) rest (Have p (f ∷ fs) v) (Next p fs b) (e p fs) (l.holds p fs least room i (filled b) (omega (arith, filled_nest b))) }

pub item_part : (room : ℕ) (tokens behind rest : List Placed) (v : Tree) → Leads 1 (room - 1) Need (bare tokens) (at v) (bare behind) → Takes behind (Mark mark.Semicolon) rest → nest v < room → IsItem room (bare tokens) v (bare rest)
item_part room tokens behind rest v i e n = record {
  opened = λ least h k. l.leads_on (l.under_leads least room (InFirst h) k i) (start_along least room (have_in (InFirst h) v) (next_at (First h v)) (bare behind) (Mark mark.Semicolon ∷ bare rest) (bare rest) e.bare_is (item_ends least room (InFirst h) (First h v) v (bare rest) (λ p fs. refl) (omega arith)));
  again = λ least b k. l.leads_on (l.under_leads least room (InThen b) k i) (start_along least room (have_in (InThen b) v) (next_at (Then b v)) (bare behind) (Mark mark.Semicolon ∷ bare rest) (bare rest) e.bare_is (item_ends least room (InThen b) (Then b v) v (bare rest) (λ p fs. refl) (omega arith)));
}

pub item_error : (room : ℕ) (tokens : List Token) (e : Stop) → Errs 1 (room - 1) Need tokens e → ItemErrs room tokens e
item_error room tokens e r = record {
  opened = λ least h k. errs_by least room 1 (room - 1) (need_in (InFirst h)) Need tokens tokens e (λ out x. l.under_refuses least room (InFirst h) k x) r;
  again = λ least b k. errs_by least room 1 (room - 1) (need_in (InThen b)) Need tokens tokens e (λ out x. l.under_refuses least room (InThen b) k x) r;
}

next_none : (p : Ground) (fs : List Frame) (b : Tree) (token : Token) (rest : List Token) → IsNot (Mark mark.Semicolon) (token ∷ rest) → next p fs b token ≡ None
next_none p fs b (Mark mark.Semicolon) rest h = absurd (h refl)
next_none p fs b _ rest h = refl

first_wrong : (least room : ℕ) (h v : Tree) (tokens : List Token) → goes_on 1 (level v) tokens ≡ false → IsNot (Mark mark.Semicolon) tokens → Refuses least room (have_in (InFirst h) v) tokens (WrongAt (length tokens))
first_wrong least room h v tokens g n = l.stays least room (InFirst h) v tokens (λ p fs token. next p fs (First h v) token) (λ p fs token. refl) g (λ p fs token rest e. next_none p fs (First h v) token rest (l.not_along (Mark mark.Semicolon) token tokens rest e n))

then_wrong : (least room : ℕ) (b v : Tree) (tokens : List Token) → goes_on 1 (level v) tokens ≡ false → IsNot (Mark mark.Semicolon) tokens → Refuses least room (have_in (InThen b) v) tokens (WrongAt (length tokens))
then_wrong least room b v tokens g n = l.stays least room (InThen b) v tokens (λ p fs token. next p fs (Then b v) token) (λ p fs token. refl) g (λ p fs token rest e. next_none p fs (Then b v) token rest (l.not_along (Mark mark.Semicolon) token tokens rest e n))

pub item_open : (room : ℕ) (tokens behind : List Placed) (v : Tree) (m : ℕ) → Leads 1 (room - 1) Need (bare tokens) (at v) (bare behind) → m ≡ level v → goes_on 1 m (bare behind) ≡ false → IsNot (Mark mark.Semicolon) (bare behind) → ItemErrs room (bare tokens) (Syntax (length behind))
item_open room tokens behind v m i q g n =
    let s : goes_on 1 (level v) (bare behind) ≡ false = subst (λ (x : ℕ). goes_on 1 x (bare behind) ≡ false) q g in
    record {
      opened = λ least h k. wrong_is least room (need_in (InFirst h)) (bare tokens) behind (l.leads_refuses (l.under_leads least room (InFirst h) k i) (first_wrong least room h v (bare behind) s n));
      again = λ least b k. wrong_is least room (need_in (InThen b)) (bare tokens) behind (l.leads_refuses (l.under_leads least room (InThen b) k i) (then_wrong least room b v (bare behind) s n));
    }

-- the bodies
pub chain_more : (h : Tree) (xs : List Expr) (x : Expr) → chain h (xs ++ (x ∷ [])) ≡ grown (chain h xs) (tree_of x.node)
chain_more h [] x = refl
chain_more h (y ∷ ys) x = chain_more (grown h (tree_of y.node)) ys x

pub chain_one : (h : Tree) (xs ys : List Expr) (x : Expr) → xs ≡ [] → ys ≡ xs ++ (x ∷ []) → part h ≤ 2 → chain h ys ≡ First h (tree_of x.node)
chain_one h xs ys x e f k = ap (λ (z : List Expr). chain h z) (f ∙ ap (λ (z : List Expr). z ++ (x ∷ [])) e) ∙ grown_first h (tree_of x.node) k

pub chain_then : (h : Tree) (xs ys : List Expr) (x : Expr) → part (chain h xs) ≡ 3 → ys ≡ xs ++ (x ∷ []) → chain h ys ≡ Then (chain h xs) (tree_of x.node)
chain_then h xs ys x k f = ap (λ (z : List Expr). chain h z) f ∙ chain_more h xs x ∙ grown_then (chain h xs) (tree_of x.node) k

place_along : (least room : ℕ) (s : Place) (a b : List Token) (u v : Tree) → u ≡ v → Leads least room s a (next_at v) b → Leads least room s a (next_at u) b
place_along least room s a b u v e h = subst (λ (x : Tree). Leads least room s a (next_at x) b) (sym e) h

single_none : (p : Ground) (fs : List Frame) (h v : Tree) (token : Token) (rest : List Token) → IsNot (Mark mark.CloseBrace) (token ∷ rest) → single p fs h v token ≡ None
single_none p fs h v (Mark mark.CloseBrace) rest k = absurd (k refl)
single_none p fs h v _ rest k = refl

single_wrong : (least room : ℕ) (h v : Tree) (tokens : List Token) → goes_on 1 (level v) tokens ≡ false → IsNot (Mark mark.CloseBrace) tokens → Refuses least room (have_in (InSingle h) v) tokens (WrongAt (length tokens))
single_wrong least room h v tokens g n = l.stays least room (InSingle h) v tokens (λ p fs token. single p fs h v token) (λ p fs token. refl) g (λ p fs token rest e. single_none p fs h v token rest (l.not_along (Mark mark.CloseBrace) token tokens rest e n))

errs_on : (least room : ℕ) (s s' : Place) (a b : List Token) (e : Stop) → Leads least room s a s' b → Errs least room s' b e → Errs least room s a e
errs_on least room s s' a b e i r = errs_by least room least room s s' a b e (λ out x. l.leads_refuses i x) r

closing_other : (token : Token) (rest : List Token) → IsNot (Mark mark.CloseBrace) (token ∷ rest) → closing token ≡ Other
closing_other (Mark mark.CloseBrace) rest h = absurd (h refl)
closing_other _ rest h = refl

to_again : (least room : ℕ) (b : Tree) (rest : List Token) → IsNot (Mark mark.CloseBrace) rest → may_more (quant b) (bodies b) ≡ true → Leads least room (next_at b) rest (need_in (InThen b)) rest
to_again least room b [] h m = record { is = λ p fs f. refl }
to_again least room b (token ∷ rest) h m = record { is = λ p fs f. ap (λ (o : Option State). onward most_nesting o (token ∷ rest) (λ y. reading rest most_nesting y)) (ap (λ (x : Closing). again_by p fs b token x) (closing_other token rest h) ∙ cond-true (may_more (quant b) (bodies b)) (need p (InThen b ∷ fs) token) None m) }

no_more : (least room : ℕ) (b : Tree) (rest : List Token) → IsNot (Mark mark.CloseBrace) rest → may_more (quant b) (bodies b) ≡ false → Refuses least room (next_at b) rest (WrongAt (length rest))
no_more least room b [] h m = record { is = λ p fs f. refl }
no_more least room b (token ∷ rest) h m = l.refuses_token least room (next_at b) token rest (λ p fs k. ap (λ (x : Closing). again_by p fs b token x) (closing_other token rest h) ∙ cond-false (may_more (quant b) (bodies b)) (need p (InThen b ∷ fs) token) None m)

no_end : (least room : ℕ) (b : Tree) (rest behind : List Token) → rest ≡ Mark mark.CloseBrace ∷ behind → may_end (quant b) (bodies b) ≡ false → Refuses least room (next_at b) rest (WrongAt (length rest))
no_end least room b rest behind e m =
    subst (λ (x : List Token). Refuses least room (next_at b) x (WrongAt (length x))) (sym e)
    (l.refuses_token least room (next_at b) (Mark mark.CloseBrace) behind (λ p fs k. cond-false (may_end (quant b) (bodies b)) (Some (Have p fs (Many b))) None m))

-- with the frame of the kind
to_first : (least room : ℕ) (a b : List Token) (c : Bool) (h : Tree) → Leads least room Need a (need_in (body h)) b → semicolons (quant h) ≡ c → Leads least room Need a (need_in (body_frame c h)) b
to_first least room a b c h i e = subst (λ (x : Bool). Leads least room Need a (need_in (body_frame x h)) b) e i

module _ (least room : ℕ) (tokens inside : List Placed) (h : Tree) (i : Leads least room Need (bare tokens) (need_in (body h)) (bare inside)) (m : nest h < room) (k : part h ≤ 2) where
  pub first_item : (behind : List Placed) (xs ys : List Expr) (x : Expr) → semicolons (quant h) ≡ true → IsItem room (bare inside) (tree_of x.node) (bare behind) → xs ≡ [] → ys ≡ xs ++ (x ∷ []) → Leads least room Need (bare tokens) (next_at (chain h ys)) (bare behind)
  first_item behind xs ys x s j e f = place_along least room Need (bare tokens) (bare behind) (chain h ys) (First h (tree_of x.node)) (chain_one h xs ys x e f k) (l.leads_on (to_first least room (bare tokens) (bare inside) true h i s) (j.opened least h (omega arith)))

  pub first_error : (e : Stop) → semicolons (quant h) ≡ true → ItemErrs room (bare inside) e → Errs least room Need (bare tokens) e
  first_error e s r = errs_on least room Need (need_in (InFirst h)) (bare tokens) (bare inside) e (to_first least room (bare tokens) (bare inside) true h i s) (r.opened least h (omega arith))

  pub single_part : (v u : Tree) (xs ys : List Expr) (x : Expr) (rest behind : List Placed) → semicolons (quant h) ≡ false → Leads 1 (room - 1) Need (bare inside) (at (tree_of x.node)) (bare rest) → nest (tree_of x.node) < room → Takes rest (Mark mark.CloseBrace) behind → xs ≡ [] → ys ≡ xs ++ (x ∷ []) → u ≡ closed false (chain h ys) → Leads least room Need (bare tokens) (at u) (bare behind)
  single_part v u xs ys x rest behind s j n c e f t =
      subst (λ (y : Tree). Leads least room Need (bare tokens) (at y) (bare behind)) (sym (t ∙ ap (λ (y : Tree). closed false y) (chain_one h xs ys x e f k)))
      (l.leads_on (to_first least room (bare tokens) (bare inside) false h i s)
      (l.leads_on (l.under_leads least room (InSingle h) (omega arith) j)
      (start_along least room (have_in (InSingle h) (tree_of x.node)) (at (Single h (tree_of x.node))) (bare rest) (Mark mark.CloseBrace ∷ bare behind) (bare behind) c.bare_is
      (l.makes least room (have_in (InSingle h) (tree_of x.node)) (Mark mark.CloseBrace) (bare behind) (Single h (tree_of x.node)) (λ p fs e. refl) (omega arith)))))

  pub single_error : (e : Stop) → semicolons (quant h) ≡ false → Errs 1 (room - 1) Need (bare inside) e → Errs least room Need (bare tokens) e
  single_error e s r = errs_by least room 1 (room - 1) Need Need (bare tokens) (bare inside) e (λ out x. l.leads_refuses (to_first least room (bare tokens) (bare inside) false h i s) (l.under_refuses least room (InSingle h) (omega arith) x)) r

  pub single_open : (v : Tree) (q : ℕ) (rest : List Placed) → semicolons (quant h) ≡ false → Leads 1 (room - 1) Need (bare inside) (at v) (bare rest) → q ≡ level v → goes_on 1 q (bare rest) ≡ false → IsNot (Mark mark.CloseBrace) (bare rest) → Errs least room Need (bare tokens) (Syntax (length rest))
  single_open v q rest s j e g n = wrong_is least room Need (bare tokens) rest (l.leads_refuses (to_first least room (bare tokens) (bare inside) false h i s) (l.leads_refuses (l.under_leads least room (InSingle h) (omega arith) j) (single_wrong least room h v (bare rest) (subst (λ (x : ℕ). goes_on 1 x (bare rest) ≡ false) e g) n)))

module _ (least room : ℕ) (tokens rest : List Placed) (h : Tree) (xs : List Expr) (i : Leads least room Need (bare tokens) (next_at (chain h xs)) (bare rest)) where
  pub next_item : (behind : List Placed) (ys : List Expr) (x : Expr) → IsNot (Mark mark.CloseBrace) (bare rest) → may_more (quant (chain h xs)) (bodies (chain h xs)) ≡ true → IsItem room (bare rest) (tree_of x.node) (bare behind) → nest (chain h xs) < room → part (chain h xs) ≡ 3 → ys ≡ xs ++ (x ∷ []) → Leads least room Need (bare tokens) (next_at (chain h ys)) (bare behind)
  next_item behind ys x c m j n k f = place_along least room Need (bare tokens) (bare behind) (chain h ys) (Then (chain h xs) (tree_of x.node)) (chain_then h xs ys x k f) (l.leads_on i (l.leads_on (to_again least room (chain h xs) (bare rest) c m) (j.again least (chain h xs) (omega arith))))

  pub next_error : (e : Stop) → IsNot (Mark mark.CloseBrace) (bare rest) → may_more (quant (chain h xs)) (bodies (chain h xs)) ≡ true → ItemErrs room (bare rest) e → nest (chain h xs) < room → Errs least room Need (bare tokens) e
  next_error e c m r n = errs_on least room Need (next_at (chain h xs)) (bare tokens) (bare rest) e i (errs_on least room (next_at (chain h xs)) (need_in (InThen (chain h xs))) (bare rest) (bare rest) e (to_again least room (chain h xs) (bare rest) c m) (r.again least (chain h xs) (omega arith)))

  pub next_wrong : IsNot (Mark mark.CloseBrace) (bare rest) → may_more (quant (chain h xs)) (bodies (chain h xs)) ≡ false → Errs least room Need (bare tokens) (Syntax (length rest))
  next_wrong c m = wrong_is least room Need (bare tokens) rest (l.leads_refuses i (no_more least room (chain h xs) (bare rest) c m))

  pub end_wrong : (behind : List Placed) → Takes rest (Mark mark.CloseBrace) behind → may_end (quant (chain h xs)) (bodies (chain h xs)) ≡ false → Errs least room Need (bare tokens) (Syntax (length rest))
  end_wrong behind c m = wrong_is least room Need (bare tokens) rest (l.leads_refuses i (no_end least room (chain h xs) (bare rest) (bare behind) c.bare_is m))

  pub body_end : (behind : List Placed) (v : Tree) → Takes rest (Mark mark.CloseBrace) behind → may_end (quant (chain h xs)) (bodies (chain h xs)) ≡ true → nest (chain h xs) < room → v ≡ Many (chain h xs) → Leads least room Need (bare tokens) (at v) (bare behind)
  body_end behind v c m n f =
      subst (λ (x : Tree). Leads least room Need (bare tokens) (at x) (bare behind)) (sym f)
      (l.leads_on i (start_along least room (next_at (chain h xs)) (at (Many (chain h xs))) (bare rest) (Mark mark.CloseBrace ∷ bare behind) (bare behind) c.bare_is (l.makes least room (next_at (chain h xs)) (Mark mark.CloseBrace) (bare behind) (Many (chain h xs)) (λ p fs k. if_is (may_end (quant (chain h xs)) (bodies (chain h xs))) (Have p fs (Many (chain h xs))) m) (omega arith))))

-- the head with its filter
pub opening_head : (f : Option Expr) (k : QuantKind) (w : List ℕ) (v : Tree) → (part (filtered f (Head k w v)) ≤ 2) × (quant (filtered f (Head k w v)) ≡ k)
opening_head None k w v = (omega arith, refl)
opening_head (Some f) k w v = (omega arith, refl)
