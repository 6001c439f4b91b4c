-- The places of expressions.
use Rattle.std.proofs.Common.{◌≡◌, ◌+◌, ℕ, true, false, Bool, List, [], ◌∷◌, ◌++◌, refl, sym, ◌∙◌, ap, subst, arith, Option, None, Some, length, drop, length-append, rules, Box, Global}
use Rattle.std.proofs.lemmas.List.{drop-drop}
use Rattle.conf_syntax.specs.declared.token.Ident.{Ident}
use Rattle.conf_syntax.specs.declared.token.Key.TheVariants as key
use Rattle.conf_syntax.specs.declared.token.Mark.TheVariants as mark
use Rattle.conf_syntax.specs.declared.token.Placed.{Placed}
use Rattle.conf_syntax.specs.declared.token.Token.{Token}
use Rattle.conf_syntax.specs.declared.token.Token.TheVariants.{Word, Key, Mark}
use Rattle.conf_syntax.specs.declared.tree.Expr.{Expr}
use Rattle.conf_syntax.specs.declared.tree.Node as node
use Rattle.conf_syntax.specs.declared.tree.Node.TheVariants as v
use Rattle.conf_syntax.specs.declared.tree.Op.{Op}
use Rattle.conf_syntax.specs.declared.tree.Quant as quant
use Rattle.conf_syntax.specs.declared.tree.QuantKind.{QuantKind}
use Rattle.conf_syntax.specs.declared.tree.QuantKind.TheVariants as kind
use Rattle.conf_syntax.specs.Places.{first_at, at_index, size, Stands, QuantStands, BodyStands}
use Rattle.conf_syntax.specs.Plain.{Tree, Leaf, Head, First, semicolons}
use Rattle.conf_syntax.specs.Trees.{tokens_of, quant_tokens, filter_tokens, body_tokens, body_end, op_token}
use Rattle.conf_syntax.specs.Views.{tree_of, quant_of, filter_of, bodies_of, closed}
use Rattle.conf_parse.specs.Cursor.{Splits, Takes, Names}
use Rattle.conf_parse.specs.declared.quantifier.Opening.{Opening}
use Rattle.conf_parse.specs.Reads.{Reads, SignReads, QuantReads, ItemReads, HeadReads, OpeningReads, FilterReads, filter_size, list_size, ListStands}

-- what is behind what is behind
pub drops : (m n : ℕ) (a b c : List Placed) → b ≡ drop m a → c ≡ drop n b → c ≡ drop (m + n) a
drops m n a b c e f = f ∙ ap (λ (x : List Placed). drop n x) e ∙ drop-drop n m a

pub same_drop : (m n : ℕ) (a b : List Placed) → m ≡ n → b ≡ drop m a → b ≡ drop n a
same_drop m n a b e h = h ∙ ap (λ (x : ℕ). drop x a) e

moved : (a b : List Placed) (i : ℕ) (e : node.Node) → a ≡ b → Stands a i e → Stands b i e
moved a b i e p h = subst (λ (x : List Placed). Stands x i e) p h

-- leaves
abbrev is_leaf : Tree → Bool
is_leaf (Leaf t) = true
is_leaf _ = false

closed_no_leaf : (b : Bool) (t : Tree) → is_leaf (closed b t) ≡ false
closed_no_leaf true t = refl
closed_no_leaf false (First h e) = refl
closed_no_leaf false _ = refl

quant_no_leaf : (q : quant.Quant) → is_leaf (quant_of q) ≡ false
quant_no_leaf (quant.Quant' k var at over filter shape body) = closed_no_leaf (semicolons k) (bodies_of body (filter_of filter (Head k var.name (tree_of over))))

leaf_stands : (tokens : List Placed) (i : ℕ) (e : node.Node) → is_leaf (tree_of e) ≡ true → i ≡ first_at tokens → Stands tokens i e × (size e ≡ 1)
leaf_stands tokens i (node.Number n) l h = (h, refl)
leaf_stands tokens i (node.Truth b) l h = (h, refl)
leaf_stands tokens i node.This l h = (h, refl)
leaf_stands tokens i (node.Named w) l h = (h, refl)
leaf_stands tokens i (node.Paren' p at e) l h = absurd cc
leaf_stands tokens i (node.Dot' p at e w) l h = absurd cc
leaf_stands tokens i (node.Minus' p at e) l h = absurd cc
leaf_stands tokens i (node.Not' p at e) l h = absurd cc
leaf_stands tokens i (node.Pair' o p at x q at' r) l h = absurd cc
leaf_stands tokens i (node.Quant' p q) l h = let e : true ≡ false = sym l ∙ quant_no_leaf q in absurd cc

pub leaf_reads : (tokens : List Placed) (token : Placed) (after : List Placed) (e : node.Node) (t : Token) → Splits tokens token after → tree_of e ≡ Leaf t → Reads tokens (record { at = token.at; node = e }) after
leaf_reads tokens token after e t s h =
    let l = leaf_stands tokens token.at e (ap is_leaf h) s.at_is in
    record { rest_is = same_drop 1 (size e) tokens after (sym l.1) s.after_is; stands = l.0 }

-- parentheses
pub paren_reads : (tokens : List Placed) (token : Placed) (after mid rest : List Placed) (inner : Expr) (x : Box Expr Global) → Splits tokens token after → Reads after inner mid → Takes mid (Mark mark.CloseParen) rest → x.value ≡ inner → Reads tokens (record { at = token.at; node = v.Paren x }) rest
paren_reads tokens token after mid rest inner x s r c e =
    let q : Reads after x.value mid = subst (λ (y : Expr). Reads after y mid) (sym e) r in
    record {
      rest_is = same_drop (1 + size x.value.node + 1) (size (v.Paren x)) tokens rest (omega (arith, length-append (tokens_of x.value.node) (Mark mark.CloseParen ∷ []))) (drops (1 + size x.value.node) 1 tokens mid rest (drops 1 (size x.value.node) tokens after mid s.after_is q.rest_is) c.after_is);
      stands = (s.at_is, moved after (drop 1 tokens) x.value.at x.value.node s.after_is q.stands);
    }

-- signs

pub minus_reads : (place : ℕ) (inner : Expr) (x : Box Expr Global) → x.value ≡ inner → SignReads place inner (record { at = place; node = v.Minus x })
minus_reads place inner x e = record {
  at_is = refl;
  size_is = omega (arith, ap (λ (y : Expr). size y.node) e);
  stands = λ tokens h k. (h, subst (λ (y : Expr). Stands (drop 1 tokens) y.at y.node) (sym e) k);
}

pub not_reads : (place : ℕ) (inner : Expr) (x : Box Expr Global) → x.value ≡ inner → SignReads place inner (record { at = place; node = v.Not x })
not_reads place inner x e = record {
  at_is = refl;
  size_is = omega (arith, ap (λ (y : Expr). size y.node) e);
  stands = λ tokens h k. (h, subst (λ (y : Expr). Stands (drop 1 tokens) y.at y.node) (sym e) k);
}

at_place : (tokens : List Placed) (i j : ℕ) (e : node.Node) → i ≡ j → Stands tokens j e → Stands tokens i e
at_place tokens i j e h k = subst (λ (x : ℕ). Stands tokens x e) (sym h) k

pub sign_reads : (tokens : List Placed) (token : Placed) (after rest : List Placed) (inner e : Expr) → Splits tokens token after → Reads after inner rest → SignReads token.at inner e → Reads tokens e rest
sign_reads tokens token after rest inner e s r q = record {
  rest_is = same_drop (1 + size inner.node) (size e.node) tokens rest (sym q.size_is) (drops 1 (size inner.node) tokens after rest s.after_is r.rest_is);
  stands = at_place tokens e.at token.at e.node q.at_is (q.stands tokens s.at_is (moved after (drop 1 tokens) inner.at inner.node s.after_is r.stands));
}

-- names behind points
dot_left : (start : List Placed) (place i : ℕ) (l : Expr) (x : Box Expr Global) {rest : List Placed} → x.value ≡ l → place ≡ first_at start → Reads start l rest → Stands start x.value.at x.value.node
dot_left start place i l x e h r = subst (λ (y : Expr). Stands start y.at y.node) (sym e) r.stands

pub dot_reads : (start tokens : List Placed) (token : Placed) (after rest : List Placed) (l : Expr) (w name : List ℕ) (i place : ℕ) (x : Box Expr Global) → Splits tokens token after → Reads start l tokens → Names after w i rest → x.value ≡ l → place ≡ first_at start → Reads start (record { at = place; node = v.Dot x (record { name = name; at = i }) }) rest
dot_reads start tokens token after rest l w name i place x s r n e h =
    let q : Reads start x.value tokens = subst (λ (y : Expr). Reads start y tokens) (sym e) r in
    let a : after ≡ drop (size x.value.node + 1) start = drops (size x.value.node) 1 start tokens after q.rest_is s.after_is in
    record {
      rest_is = same_drop (size x.value.node + 1 + 1) (size (v.Dot x (record { name = name; at = i }))) start rest (omega (arith, length-append (tokens_of x.value.node) (Mark mark.Dot ∷ Word name ∷ []))) (drops (size x.value.node + 1) 1 start after rest a n.after_is);
      stands = (h, dot_left start place i l x e h r, n.at_is ∙ ap first_at a);
    }

-- operators
pub pair_reads : (start tokens : List Placed) (token : Placed) (after rest : List Placed) (o : Op) (l r : Expr) (x y : Box Expr Global) → Splits tokens token after → Reads start l tokens → Reads after r rest → x.value ≡ l → y.value ≡ r → Reads start (record { at = token.at; node = v.Pair o x y }) rest
pair_reads start tokens token after rest o l r x y s p q e f =
    let p' : Reads start x.value tokens = subst (λ (z : Expr). Reads start z tokens) (sym e) p in
    let q' : Reads after y.value rest = subst (λ (z : Expr). Reads after z rest) (sym f) q in
    let a : after ≡ drop (size x.value.node + 1) start = drops (size x.value.node) 1 start tokens after p'.rest_is s.after_is in
    record {
      rest_is = same_drop (size x.value.node + 1 + size y.value.node) (size (v.Pair o x y)) start rest (omega (arith, length-append (tokens_of x.value.node) (op_token o ∷ tokens_of y.value.node))) (drops (size x.value.node + 1) (size y.value.node) start after rest a q'.rest_is);
      stands = (s.at_is ∙ ap first_at p'.rest_is, p'.stands, moved after (drop (size x.value.node + 1) start) y.value.at y.value.node a q'.stands);
    }

-- quantifiers
pub head_reads : (tokens : List Placed) (token : Placed) (after behind path rest : List Placed) (w name : List ℕ) (i : ℕ) (over : Expr) → Splits tokens token after → Names after w i behind → Takes behind (Key key.In) path → Reads path over rest → HeadReads tokens (record { name = name; at = i }) over rest
head_reads tokens token after behind path rest w name i over s n t r =
    let a : path ≡ drop 3 tokens = drops 2 1 tokens behind path (drops 1 1 tokens after behind s.after_is n.after_is) t.after_is in
    record {
      var_at = n.at_is ∙ ap first_at s.after_is;
      stands = moved path (drop 3 tokens) over.at over.node a r.stands;
      rest_is = r.rest_is ∙ ap (λ (x : List Placed). drop (size over.node) x) a;
    }

module _ (tokens : List Placed) (var : Ident) (over : Expr) (rest : List Placed) (h : HeadReads tokens var over rest) where
  pub filter_opens : (k : QuantKind) (f : Expr) (n : ℕ) (inner behind inside : List Placed) → Takes rest (Key key.Where) inner → Reads inner f behind → Takes behind (Mark mark.OpenBrace) inside → OpeningReads tokens (record { kind = k; var = var; over = over; filter = Some f; nest = n }) inside
  filter_opens k f n inner behind inside t r b = record {
    var_at = h.var_at;
    stands = h.stands;
    filter = moved inner (drop 1 (drop (size over.node) (drop 3 tokens))) f.at f.node (t.after_is ∙ ap (λ (x : List Placed). drop 1 x) h.rest_is) r.stands;
    inside_is = drops (1 + size f.node) 1 (drop (size over.node) (drop 3 tokens)) behind inside (drops 1 (size f.node) (drop (size over.node) (drop 3 tokens)) inner behind (t.after_is ∙ ap (λ (x : List Placed). drop 1 x) h.rest_is) r.rest_is) b.after_is;
  }

  pub plain_opens : (k : QuantKind) (n : ℕ) (inside : List Placed) → Takes rest (Mark mark.OpenBrace) inside → OpeningReads tokens (record { kind = k; var = var; over = over; filter = None; nest = n }) inside
  plain_opens k n inside b = record {
    var_at = h.var_at;
    stands = h.stands;
    filter = tt;
    inside_is = b.after_is ∙ ap (λ (x : List Placed). drop 1 x) h.rest_is;
  }

pub item_reads : (tokens behind rest : List Placed) (e : Expr) → Reads tokens e behind → Takes behind (Mark mark.Semicolon) rest → ItemReads tokens e rest
item_reads tokens behind rest e r t = record { rest_is = drops (size e.node) 1 tokens behind rest r.rest_is t.after_is; stands = r.stands }

-- bodies
list_more : (k : QuantKind) (xs : List Expr) (x : Expr) → list_size k (xs ++ (x ∷ [])) ≡ list_size k xs + (size x.node + length (body_end k))
list_more k [] x = omega arith
list_more k (y ∷ ys) x = omega (arith, list_more k ys x)

list_stands : (tokens : List Placed) (k : QuantKind) (xs : List Expr) (x : Expr) → ListStands tokens k xs → Stands (drop (list_size k xs) tokens) x.at x.node → ListStands tokens k (xs ++ (x ∷ []))
list_stands tokens k [] x h s = (s, tt)
list_stands tokens k (y ∷ ys) x h s = (h.0, list_stands (drop (size y.node + length (body_end k)) tokens) k ys x h.1 (moved (drop (list_size k (y ∷ ys)) tokens) (drop (list_size k ys) (drop (size y.node + length (body_end k)) tokens)) x.at x.node (sym (drop-drop (list_size k ys) (size y.node + length (body_end k)) tokens)) s))

semicolon_size : (k : QuantKind) → semicolons k ≡ true → length (body_end k) ≡ 1
semicolon_size kind.Forall e = refl
semicolon_size kind.Exists e = refl
semicolon_size kind.Pack e = refl
semicolon_size kind.Sum e = absurd cc
semicolon_size kind.Count e = absurd cc
semicolon_size kind.AllDifferent e = absurd cc

single_size : (k : QuantKind) → semicolons k ≡ false → length (body_end k) ≡ 0
single_size kind.Forall e = absurd cc
single_size kind.Exists e = absurd cc
single_size kind.Pack e = absurd cc
single_size kind.Sum e = refl
single_size kind.Count e = refl
single_size kind.AllDifferent e = refl

-- the bodies so far, and what is behind them
pub record BodiesRead (inside : List Placed) (k : QuantKind) (xs : List Expr) (rest : List Placed) : Type 0 where
  pub stands : ListStands inside k xs
  pub rest_is : rest ≡ drop (list_size k xs) inside

pub no_bodies : (inside : List Placed) (k : QuantKind) (xs : List Expr) → xs ≡ [] → BodiesRead inside k xs inside
no_bodies inside k xs e = subst (λ (x : List Expr). BodiesRead inside k x inside) (sym e) (record { stands = tt; rest_is = search rules })

pub more_bodies : (inside : List Placed) (k : QuantKind) (xs ys : List Expr) (x : Expr) (rest behind : List Placed) → BodiesRead inside k xs rest → ItemReads rest x behind → semicolons k ≡ true → ys ≡ xs ++ (x ∷ []) → BodiesRead inside k ys behind
more_bodies inside k xs ys x rest behind b i s e =
    subst (λ (y : List Expr). BodiesRead inside k y behind) (sym e) (record {
      stands = list_stands inside k xs x b.stands (moved rest (drop (list_size k xs) inside) x.at x.node b.rest_is i.stands);
      rest_is = same_drop (list_size k xs + (size x.node + 1)) (list_size k (xs ++ (x ∷ []))) inside behind (omega (arith, list_more k xs x, semicolon_size k s)) (drops (list_size k xs) (size x.node + 1) inside rest behind b.rest_is i.rest_is);
    })

pub one_body : (inside : List Placed) (k : QuantKind) (xs ys : List Expr) (x : Expr) (rest : List Placed) → Reads inside x rest → semicolons k ≡ false → xs ≡ [] → ys ≡ xs ++ (x ∷ []) → BodiesRead inside k ys rest
one_body inside k xs ys x rest r s e f =
    subst (λ (y : List Expr). BodiesRead inside k y rest) (sym (f ∙ ap (λ (y : List Expr). y ++ (x ∷ [])) e)) (record {
      stands = (r.stands, tt);
      rest_is = same_drop (size x.node) (list_size k (x ∷ [])) inside rest (omega (arith, single_size k s)) r.rest_is;
    })

-- the whole
pub quant_reads : (tokens inside mid rest : List Placed) (place : ℕ) (o : Opening) (xs : List Expr) (e : Expr) → place ≡ first_at tokens → OpeningReads tokens o inside → BodiesRead inside o.kind xs mid → Takes mid (Mark mark.CloseBrace) rest → QuantReads place o xs e → Reads tokens e rest
quant_reads tokens inside mid rest place o xs e s p b c q =
    let a : inside ≡ drop (3 + size o.over.node + (filter_size o.filter + 1)) tokens = drops (3 + size o.over.node) (filter_size o.filter + 1) tokens (drop (3 + size o.over.node) tokens) inside refl (p.inside_is ∙ ap (λ (x : List Placed). drop (filter_size o.filter + 1) x) (drop-drop (size o.over.node) 3 tokens)) in
    record {
      rest_is = same_drop (3 + size o.over.node + (filter_size o.filter + 1) + list_size o.kind xs + 1) (size e.node) tokens rest (omega (arith, q.size_is)) (drops (3 + size o.over.node + (filter_size o.filter + 1) + list_size o.kind xs) 1 tokens mid rest (drops (3 + size o.over.node + (filter_size o.filter + 1)) (list_size o.kind xs) tokens inside mid a b.rest_is) c.after_is);
      stands = at_place tokens e.at place e.node q.at_is (q.stands tokens inside s p b.stands);
    }

-- a quantifier's own places, from lists to rows
rows_stand : (m : _) (row : quant.Row_of-Expr m) (tokens : List Placed) (k : QuantKind) → ListStands tokens k (quant.items-the_row-Expr m row) → BodyStands tokens k row
rows_stand m quant.end_of-Expr tokens k h = tt
rows_stand m (quant.more_of-Expr at e rest) tokens k h = (h.0, rows_stand _ rest (drop (size e + length (body_end k)) tokens) k h.1)

rows_size : (m : _) (row : quant.Row_of-Expr m) (k : QuantKind) → length (body_tokens row k) ≡ list_size k (quant.items-the_row-Expr m row)
rows_size m quant.end_of-Expr k = refl
rows_size m (quant.more_of-Expr at e rest) k = omega (arith, length-append (tokens_of e ++ body_end k) (body_tokens rest k), length-append (tokens_of e) (body_end k), rows_size _ rest k)

abbrev nothing : List Token
nothing = []

-- the parts of a quantifier, as the reader has them and as the row has them
record IsMadeOf (k k' : QuantKind) (var var' : Ident) (over over' : Expr) (filter filter' : Option Expr) (xs xs' : List Expr) : Type 0 where
  kind_is : k' ≡ k
  var_is : var' ≡ var
  over_is : over' ≡ over
  filter_is : filter' ≡ filter
  items_are : xs' ≡ xs

abbrev HasPlaces : List Placed → QuantKind → Ident → Expr → Option Expr → List Expr → Type 0
HasPlaces tokens k var over filter xs = (var.at ≡ at_index 1 tokens) × Stands (drop 3 tokens) over.at over.node × FilterReads (drop (size over.node) (drop 3 tokens)) filter × ListStands (drop (filter_size filter + 1) (drop (size over.node) (drop 3 tokens))) k xs

places_of : (tokens : List Placed) (k k' : QuantKind) (var var' : Ident) (over over' : Expr) (filter filter' : Option Expr) (xs xs' : List Expr) → IsMadeOf k k' var var' over over' filter filter' xs xs' → HasPlaces tokens k' var' over' filter' xs' → HasPlaces tokens k var over filter xs
places_of tokens k k' var var' over over' filter filter' xs xs' m h =
    subst (λ (x : QuantKind). HasPlaces tokens x var over filter xs) m.kind_is
    (subst (λ (x : Ident). HasPlaces tokens k' x over filter xs) m.var_is
    (subst (λ (x : Expr). HasPlaces tokens k' var' x filter xs) m.over_is
    (subst (λ (x : Option Expr). HasPlaces tokens k' var' over' x xs) m.filter_is
    (subst (λ (x : List Expr). HasPlaces tokens k' var' over' filter' x) m.items_are h))))

abbrev size_of : QuantKind → Expr → Option Expr → List Expr → ℕ
size_of k over filter xs = 3 + size over.node + filter_size filter + 1 + list_size k xs + 1

sizes_of : (k k' : QuantKind) (var var' : Ident) (over over' : Expr) (filter filter' : Option Expr) (xs xs' : List Expr) → IsMadeOf k k' var var' over over' filter filter' xs xs' → size_of k' over' filter' xs' ≡ size_of k over filter xs
sizes_of k k' var var' over over' filter filter' xs xs' m =
    ap (λ (x : QuantKind). size_of x over' filter' xs') m.kind_is ∙ ap (λ (x : Expr). size_of k x filter' xs') m.over_is
    ∙ ap (λ (x : Option Expr). size_of k over x xs') m.filter_is ∙ ap (λ (x : List Expr). size_of k over filter x) m.items_are

plain_made : (k : QuantKind) (var : Ident) (at : ℕ) (over : node.Node) (shape : _) (body : _) → IsMadeOf k (quant.out-Quant (quant.Quant' k var at over quant.None' shape body)).kind var (quant.out-Quant (quant.Quant' k var at over quant.None' shape body)).var (record { at = at; node = over }) (quant.out-Quant (quant.Quant' k var at over quant.None' shape body)).over None (quant.out-Quant (quant.Quant' k var at over quant.None' shape body)).filter (quant.items-the_row-Expr _ body) (quant.out-Quant (quant.Quant' k var at over quant.None' shape body)).body.items
plain_made k var at over shape body = record {
  kind_is = search (rules, quant.the_lemmas);
  var_is = search (rules, quant.the_lemmas);
  over_is = search (rules, quant.the_lemmas);
  filter_is = search (rules, quant.the_lemmas);
  items_are = search (rules, quant.the_lemmas);
}

filter_made : (k : QuantKind) (var : Ident) (at : ℕ) (over : node.Node) (i : ℕ) (f : node.Node) (shape : _) (body : _) → IsMadeOf k (quant.out-Quant (quant.Quant' k var at over (quant.Some' i f) shape body)).kind var (quant.out-Quant (quant.Quant' k var at over (quant.Some' i f) shape body)).var (record { at = at; node = over }) (quant.out-Quant (quant.Quant' k var at over (quant.Some' i f) shape body)).over (Some (record { at = i; node = f })) (quant.out-Quant (quant.Quant' k var at over (quant.Some' i f) shape body)).filter (quant.items-the_row-Expr _ body) (quant.out-Quant (quant.Quant' k var at over (quant.Some' i f) shape body)).body.items
filter_made k var at over i f shape body = record {
  kind_is = search (rules, quant.the_lemmas);
  var_is = search (rules, quant.the_lemmas);
  over_is = search (rules, quant.the_lemmas);
  filter_is = search (rules, quant.the_lemmas);
  items_are = search (rules, quant.the_lemmas);
}

body_stands : (m : _) (row : quant.Row_of-Expr m) (a b : ℕ) (tokens : List Placed) (k : QuantKind) → a ≡ b → ListStands (drop a tokens) k (quant.items-the_row-Expr m row) → BodyStands (drop b tokens) k row
body_stands m row a b tokens k e h = rows_stand m row (drop b tokens) k (subst (λ (n : ℕ). ListStands (drop n tokens) k (quant.items-the_row-Expr m row)) e h)

quant_stands : (q : quant.Quant) (tokens : List Placed) → HasPlaces tokens (quant.out-Quant q).kind (quant.out-Quant q).var (quant.out-Quant q).over (quant.out-Quant q).filter (quant.out-Quant q).body.items → QuantStands tokens q
quant_stands (quant.Quant' k var at over quant.None' shape body) tokens h =
    let q = quant.out-Quant (quant.Quant' k var at over quant.None' shape body) in
    let p = places_of tokens k q.kind var q.var (record { at = at; node = over }) q.over None q.filter (quant.items-the_row-Expr _ body) q.body.items (plain_made k var at over shape body) h in
    (p.0, p.1, tt, body_stands _ body (0 + 1) (length (filter_tokens quant.None') + 1) (drop (size over) (drop 3 tokens)) k (omega arith) p.3)
quant_stands (quant.Quant' k var at over (quant.Some' i f) shape body) tokens h =
    let q = quant.out-Quant (quant.Quant' k var at over (quant.Some' i f) shape body) in
    let p = places_of tokens k q.kind var q.var (record { at = at; node = over }) q.over (Some (record { at = i; node = f })) q.filter (quant.items-the_row-Expr _ body) q.body.items (filter_made k var at over i f shape body) h in
    (p.0, p.1, p.2, body_stands _ body (1 + size f + 1) (length (filter_tokens (quant.Some' i f)) + 1) (drop (size over) (drop 3 tokens)) k (omega arith) p.3)

quant_size : (q : quant.Quant) → length (quant_tokens q) ≡ size_of (quant.out-Quant q).kind (quant.out-Quant q).over (quant.out-Quant q).filter (quant.out-Quant q).body.items
quant_size (quant.Quant' k var at over quant.None' shape body) =
    let q = quant.out-Quant (quant.Quant' k var at over quant.None' shape body) in
    let e = sizes_of k q.kind var q.var (record { at = at; node = over }) q.over None q.filter (quant.items-the_row-Expr _ body) q.body.items (plain_made k var at over shape body) in
    omega (arith, e, rows_size _ body k, length-append (tokens_of over ++ nothing) (Mark mark.OpenBrace ∷ (body_tokens body k ++ (Mark mark.CloseBrace ∷ []))), length-append (tokens_of over) nothing, length-append (body_tokens body k) (Mark mark.CloseBrace ∷ []))
quant_size (quant.Quant' k var at over (quant.Some' i f) shape body) =
    let q = quant.out-Quant (quant.Quant' k var at over (quant.Some' i f) shape body) in
    let e = sizes_of k q.kind var q.var (record { at = at; node = over }) q.over (Some (record { at = i; node = f })) q.filter (quant.items-the_row-Expr _ body) q.body.items (filter_made k var at over i f shape body) in
    omega (arith, e, rows_size _ body k, length-append (tokens_of over ++ (Key key.Where ∷ tokens_of f)) (Mark mark.OpenBrace ∷ (body_tokens body k ++ (Mark mark.CloseBrace ∷ []))), length-append (tokens_of over) (Key key.Where ∷ tokens_of f), length-append (body_tokens body k) (Mark mark.CloseBrace ∷ []))

-- a quantifier made of its parts
pub made_reads : (place : ℕ) (o : Opening) (xs : List Expr) (x : Box quant.Quant Global) → (quant.out-Quant x.value).kind ≡ o.kind → (quant.out-Quant x.value).var ≡ o.var → (quant.out-Quant x.value).over ≡ o.over → (quant.out-Quant x.value).filter ≡ o.filter → (quant.out-Quant x.value).body.items ≡ xs → QuantReads place o xs (record { at = place; node = v.Quant x })
made_reads place o xs x a b c d e =
    let q = quant.out-Quant x.value in
    record {
      at_is = refl;
      size_is = quant_size x.value ∙ sizes_of o.kind q.kind o.var q.var o.over q.over o.filter q.filter xs q.body.items (record { kind_is = a; var_is = b; over_is = c; filter_is = d; items_are = e });
      stands = λ tokens inside h p l. (
        h,
        quant_stands x.value tokens
            (places_of tokens q.kind o.kind q.var o.var q.over o.over q.filter o.filter q.body.items xs (record { kind_is = sym a; var_is = sym b; over_is = sym c; filter_is = sym d; items_are = sym e })
            (p.var_at, p.stands, p.filter, subst (λ (y : List Placed). ListStands y o.kind xs) p.inside_is l)),
      );
    }
