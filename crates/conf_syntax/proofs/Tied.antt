-- A tree and its plain tree: same nesting, same tokens, same grammar.
use Rattle.std.proofs.Common.{◌≡◌, ◌≤◌, ◌+◌, ℕ, true, false, Bool, ◌&&◌, List, [], ◌∷◌, ◌++◌, refl, sym, ◌∙◌, ap, subst, append_assoc, append-nil, arith, max, nat_le}
use Rattle.std.proofs.lemmas.Bool.{and_from, le-leb}
use Rattle.conf_syntax.specs.declared.token.Key.TheVariants as key
use Rattle.conf_syntax.specs.declared.token.Mark.TheVariants as mark
use Rattle.conf_syntax.specs.declared.token.Token.{Token}
use Rattle.conf_syntax.specs.declared.token.Token.TheVariants.{Word, Key, Mark}
use Rattle.conf_syntax.specs.declared.tree.Node as node
use Rattle.conf_syntax.specs.declared.tree.Op.{Op}
use Rattle.conf_syntax.specs.declared.tree.Op.TheVariants as op
use Rattle.conf_syntax.specs.declared.tree.Quant as quant
use Rattle.conf_syntax.specs.declared.tree.QuantKind.{QuantKind}
use Rattle.conf_syntax.specs.declared.tree.QuantKind.TheVariants as kind
use Rattle.conf_syntax.specs.Trees as trees
use Rattle.conf_syntax.specs.Plain as plain
use Rattle.conf_syntax.specs.Plain.{Tree, Leaf, Round, Dot, Under, Two, Many, Single, Head, HeadIf, First, Then, part, bodies, semicolons, may_end, IsGood, IsHead, nest}
use Rattle.conf_syntax.specs.Views.{grown, closed, tree_of, quant_of, filter_of, bodies_of}

-- Nesting

closed_nest : (b : Bool) (t : Tree) → nest (closed b t) ≡ 1 + nest t
closed_nest true t = refl
closed_nest false (First h e) = refl
closed_nest false _ = refl

grown_nest : (h e : Tree) → nest (grown h e) ≡ max (nest h) (nest e)
grown_nest (First h d) e = refl
grown_nest (Then b d) e = refl
grown_nest _ e = refl

mutual
  pub nest_is : (e : node.Node) → nest (tree_of e) ≡ trees.depth e
  nest_is (node.Number n) = refl
  nest_is (node.Truth b) = refl
  nest_is node.This = refl
  nest_is (node.Named w) = refl
  nest_is (node.Paren' p at e) = ap (λ (x : ℕ). 1 + x) (nest_is e)
  nest_is (node.Dot' p at e i) = ap (λ (x : ℕ). 1 + x) (nest_is e)
  nest_is (node.Minus' p at e) = ap (λ (x : ℕ). 1 + x) (nest_is e)
  nest_is (node.Not' p at e) = ap (λ (x : ℕ). 1 + x) (nest_is e)
  nest_is (node.Pair' o p at l q at' r) = omega (arith, nest_is l, nest_is r)
  nest_is (node.Quant' p q) = quant_nest q

  quant_nest : (q : quant.Quant) → nest (quant_of q) ≡ 1 + trees.quant_depth q
  quant_nest (quant.Quant' k var at over filter shape body) =
      let h = filter_of filter (Head k var.name (tree_of over)) in
      let a = closed_nest (semicolons k) (bodies_of body h) in
      let b = bodies_nest _ body h in
      let c = filter_nest filter (Head k var.name (tree_of over)) in
      let d = nest_is over in
      omega (arith, a, b, c, d)

  filter_nest : (f : quant.Held-Quant-filter) (h : Tree) → nest (filter_of f h) ≡ max (nest h) (trees.filter_depth f)
  filter_nest quant.None' h = omega arith
  filter_nest (quant.Some' at e) h = omega (arith, nest_is e)

  bodies_nest : (m : _) (row : quant.Row_of-Expr m) (h : Tree) → nest (bodies_of row h) ≡ max (nest h) (trees.body_depth row)
  bodies_nest m quant.end_of-Expr h = omega arith
  bodies_nest m (quant.more_of-Expr at e rest) h = omega (arith, bodies_nest _ rest (grown h (tree_of e)), grown_nest h (tree_of e), nest_is e)

-- Levels

pub op_most : (o : Op) → trees.op_level o ≤ 8
op_most op.Implies = omega arith
op_most op.Or = omega arith
op_most op.And = omega arith
op_most op.Eq = omega arith
op_most op.Ne = omega arith
op_most op.Lt = omega arith
op_most op.Le = omega arith
op_most op.Gt = omega arith
op_most op.Ge = omega arith
op_most op.In = omega arith
op_most op.Add = omega arith
op_most op.Sub = omega arith
op_most op.Mul = omega arith

closed_level : (b : Bool) (t : Tree) → plain.level (closed b t) ≡ 10
closed_level true t = refl
closed_level false (First h e) = refl
closed_level false _ = refl

pub closed_part : (b : Bool) (t : Tree) → part (closed b t) ≡ 0
closed_part true t = refl
closed_part false (First h e) = refl
closed_part false _ = refl

pub quant_level : (q : quant.Quant) → plain.level (quant_of q) ≡ 10
quant_level (quant.Quant' k var at over filter shape body) = closed_level (semicolons k) (bodies_of body (filter_of filter (Head k var.name (tree_of over))))

-- the least level that an operand must have, path aside
level_low : (e : node.Node) (n : ℕ) → n ≤ 9 → n ≤ plain.level (tree_of e) → nat_le n (trees.level e) ≡ true
level_low (node.Number m) n h k = le-leb n 10 (omega arith)
level_low (node.Truth b) n h k = le-leb n 10 (omega arith)
level_low node.This n h k = le-leb n 10 (omega arith)
level_low (node.Named w) n h k = le-leb n 10 (omega arith)
level_low (node.Paren' p at e) n h k = le-leb n 10 (omega arith)
level_low (node.Dot' p at e i) n h k = le-leb n 9 h
level_low (node.Minus' p at e) n h k = le-leb n 8 k
level_low (node.Not' p at e) n h k = le-leb n 4 k
level_low (node.Pair' o p at l q at' r) n h k = le-leb n (trees.op_level o) k
level_low (node.Quant' p q) n h k = le-leb n 10 (omega arith)

pub truth_level : (b : Bool) → plain.leaf_level (trees.truth_token b) ≡ 10
truth_level true = refl
truth_level false = refl

path_is : (e : node.Node) → 11 ≤ plain.level (tree_of e) → trees.is_path e ≡ true
path_is (node.Number m) h = absurd (omega arith)
path_is (node.Truth b) h = absurd (omega (arith, truth_level b))
path_is node.This h = refl
path_is (node.Named w) h = refl
path_is (node.Paren' p at e) h = absurd (omega arith)
path_is (node.Dot' p at e i) h = path_is e (omega arith)
path_is (node.Minus' p at e) h = absurd (omega arith)
path_is (node.Not' p at e) h = absurd (omega arith)
path_is (node.Pair' o p at l q at' r) h = absurd (omega (arith, op_most o))
path_is (node.Quant' p q) h = absurd (omega (arith, quant_level q))

right_good : (o : Op) (e : node.Node) → plain.right_level o ≤ plain.level (tree_of e) → trees.right_fits o e ≡ true
right_good op.Implies e h = level_low e 1 (omega arith) h
right_good op.Or e h = level_low e 3 (omega arith) h
right_good op.And e h = level_low e 4 (omega arith) h
right_good op.Eq e h = level_low e 6 (omega arith) h
right_good op.Ne e h = level_low e 6 (omega arith) h
right_good op.Lt e h = level_low e 6 (omega arith) h
right_good op.Le e h = level_low e 6 (omega arith) h
right_good op.Gt e h = level_low e 6 (omega arith) h
right_good op.Ge e h = level_low e 6 (omega arith) h
right_good op.In e h = path_is e h
right_good op.Add e h = level_low e 7 (omega arith) h
right_good op.Sub e h = level_low e 7 (omega arith) h
right_good op.Mul e h = level_low e 8 (omega arith) h

left_most : (o : Op) → trees.left_level o ≤ 9
left_most op.Implies = omega arith
left_most op.Or = omega arith
left_most op.And = omega arith
left_most op.Eq = omega arith
left_most op.Ne = omega arith
left_most op.Lt = omega arith
left_most op.Le = omega arith
left_most op.Gt = omega arith
left_most op.Ge = omega arith
left_most op.In = omega arith
left_most op.Add = omega arith
left_most op.Sub = omega arith
left_most op.Mul = omega arith

-- Bodies

pub grown_quant : (h e : Tree) → plain.quant (grown h e) ≡ plain.quant h
grown_quant (First h d) e = refl
grown_quant (Then b d) e = refl
grown_quant _ e = refl

pub bodies_quant : (m : _) (row : quant.Row_of-Expr m) (h : Tree) → plain.quant (bodies_of row h) ≡ plain.quant h
bodies_quant m quant.end_of-Expr h = refl
bodies_quant m (quant.more_of-Expr at e rest) h = bodies_quant _ rest (grown h (tree_of e)) ∙ grown_quant h (tree_of e)

pub grown_bodies : (h e : Tree) → bodies (grown h e) ≡ 1 + bodies h
grown_bodies (First h d) e = refl
grown_bodies (Then b d) e = refl
grown_bodies (Leaf t) e = refl
grown_bodies (Round x) e = refl
grown_bodies (Dot x w) e = refl
grown_bodies (Under s x) e = refl
grown_bodies (Two o l r) e = refl
grown_bodies (Many b) e = refl
grown_bodies (Single h d) e = refl
grown_bodies (Head k w v) e = refl
grown_bodies (HeadIf h f) e = refl

pub bodies_count : (m : _) (row : quant.Row_of-Expr m) (h : Tree) → bodies (bodies_of row h) ≡ bodies h + trees.row_length row
bodies_count m quant.end_of-Expr h = omega arith
bodies_count m (quant.more_of-Expr at e rest) h = omega (arith, bodies_count _ rest (grown h (tree_of e)), grown_bodies h (tree_of e))

pub grown_first : (h e : Tree) → part h ≤ 2 → grown h e ≡ First h e
grown_first (First h d) e k = absurd (omega arith)
grown_first (Then b d) e k = absurd (omega arith)
grown_first (Leaf t) e k = refl
grown_first (Round x) e k = refl
grown_first (Dot x w) e k = refl
grown_first (Under s x) e k = refl
grown_first (Two o l r) e k = refl
grown_first (Many b) e k = refl
grown_first (Single h d) e k = refl
grown_first (Head q w v) e k = refl
grown_first (HeadIf h f) e k = refl

pub grown_then : (b e : Tree) → part b ≡ 3 → grown b e ≡ Then b e
grown_then (First h d) e k = refl
grown_then (Then b d) e k = refl
grown_then _ e k = absurd (omega arith)

pub head_bodies : (h : Tree) → part h ≤ 2 → bodies h ≡ 0
head_bodies (First h d) k = absurd (omega arith)
head_bodies (Then b d) k = absurd (omega arith)
head_bodies (Leaf t) k = refl
head_bodies (Round x) k = refl
head_bodies (Dot x w) k = refl
head_bodies (Under s x) k = refl
head_bodies (Two o l r) k = refl
head_bodies (Many b) k = refl
head_bodies (Single h d) k = refl
head_bodies (Head q w v) k = refl
head_bodies (HeadIf h f) k = refl

pub filter_head : (f : quant.Held-Quant-filter) (k : QuantKind) (w : List ℕ) (v : Tree) → IsHead (filter_of f (Head k w v)) × (plain.quant (filter_of f (Head k w v)) ≡ k)
filter_head quant.None' k w v = ((omega arith, omega arith), refl)
filter_head (quant.Some' at e) k w v = ((omega arith, omega arith), refl)

filter_good : (f : quant.Held-Quant-filter) (h : Tree) → IsGood (filter_of f h) → IsGood h
filter_good quant.None' h g = g
filter_good (quant.Some' at e) h g = g.0

grown_good : (h e : Tree) → IsGood (grown h e) → IsGood h × IsGood e
grown_good (First h d) e g = (g.0, g.1)
grown_good (Then b d) e g = (g.0, g.1)
grown_good (Leaf t) e g = (g.0, g.1)
grown_good (Round x) e g = (g.0, g.1)
grown_good (Dot x w) e g = (g.0, g.1)
grown_good (Under s x) e g = (g.0, g.1)
grown_good (Two o l r) e g = (g.0, g.1)
grown_good (Many b) e g = (g.0, g.1)
grown_good (Single h d) e g = (g.0, g.1)
grown_good (Head q w v) e g = (g.0, g.1)
grown_good (HeadIf h f) e g = (g.0, g.1)

-- the bodies so far are good where all are
rows_good : (m : _) (row : quant.Row_of-Expr m) (h : Tree) → IsGood (bodies_of row h) → IsGood h
rows_good m quant.end_of-Expr h g = g
rows_good m (quant.more_of-Expr at e rest) h g = (grown_good h (tree_of e) (rows_good _ rest (grown h (tree_of e)) g)).0

-- two bodies and more are closed as many
closed_then : (m : _) (row : quant.Row_of-Expr m) (b e : Tree) → closed false (bodies_of row (Then b e)) ≡ Many (bodies_of row (Then b e))
closed_then m quant.end_of-Expr b e = refl
closed_then m (quant.more_of-Expr at x rest) b e = closed_then _ rest (Then b e) (tree_of x)

-- what is closed without semicolons has one body
no_many : (h e x : Tree) (m : _) (row : quant.Row_of-Expr m) → part h ≤ 2 → semicolons (plain.quant h) ≡ false → IsGood (closed false (bodies_of row (grown (grown h e) x))) → ⊥
no_many h e x m row k s g =
    let f : IsGood (closed false (bodies_of row (Then (First h e) x))) = subst (λ (y : Tree). IsGood (closed false (bodies_of row (grown y x)))) (grown_first h e k) g in
    let i : IsGood (Many (bodies_of row (Then (First h e) x))) = subst (λ (y : Tree). IsGood y) (closed_then m row (First h e) x) f in
    let j : IsGood (Then (First h e) x) = rows_good m row (Then (First h e) x) i.0 in
    let y : true ≡ false = sym j.0.4 ∙ s in absurd cc

no_head : (h : Tree) → part h ≤ 2 → IsGood (closed false h) → part h ≡ 3
no_head (First h d) k g = refl
no_head (Then b d) k g = refl
no_head (Leaf t) k g = g.1
no_head (Round x) k g = g.1
no_head (Dot x w) k g = g.1
no_head (Under s x) k g = g.1
no_head (Two o l r) k g = g.1
no_head (Many b) k g = g.1
no_head (Single h d) k g = g.1
no_head (Head q w v) k g = g.1
no_head (HeadIf h f) k g = g.1

one_good : (h e : Tree) → part h ≤ 2 → IsGood (closed false (grown h e)) → IsGood (Single h e)
one_good h e k g = subst (λ (y : Tree). IsGood (closed false y)) (grown_first h e k) g

-- Tokens

-- a quantifier's bodies and their end
abbrev ending : {m : _} → QuantKind → Tree → quant.Row_of-Expr m → List Token
ending k h row = plain.tokens_of h ++ (Mark mark.OpenBrace ∷ (trees.body_tokens row k ++ (Mark mark.CloseBrace ∷ [])))

semicolon_end : (k : QuantKind) → semicolons k ≡ true → trees.body_end k ≡ Mark mark.Semicolon ∷ []
semicolon_end kind.Forall e = refl
semicolon_end kind.Exists e = refl
semicolon_end kind.Pack e = refl
semicolon_end kind.Sum e = absurd cc
semicolon_end kind.Count e = absurd cc
semicolon_end kind.AllDifferent e = absurd cc

plain_end : (k : QuantKind) → semicolons k ≡ false → trees.body_end k ≡ []
plain_end kind.Forall e = absurd cc
plain_end kind.Exists e = absurd cc
plain_end kind.Pack e = absurd cc
plain_end kind.Sum e = refl
plain_end kind.Count e = refl
plain_end kind.AllDifferent e = refl

then_row : (b e s z : List Token) → (b ++ (e ++ s)) ++ z ≡ b ++ ((e ++ s) ++ z)
then_row b e s z = simp append_assoc

first_row : (h e s z y : List Token) → ((h ++ (Mark mark.OpenBrace ∷ (e ++ s))) ++ z) ++ y ≡ h ++ (Mark mark.OpenBrace ∷ (((e ++ s) ++ z) ++ y))
first_row h e s z y = simp append_assoc

single_row : (h e : List Token) → h ++ (Mark mark.OpenBrace ∷ (e ++ (Mark mark.CloseBrace ∷ []))) ≡ h ++ (Mark mark.OpenBrace ∷ (((e ++ []) ++ []) ++ (Mark mark.CloseBrace ∷ [])))
single_row h e = simp (append_assoc, append-nil)

filter_row : (k w i : Token) (v f z : List Token) → (k ∷ w ∷ i ∷ v ++ (Key key.Where ∷ f)) ++ z ≡ k ∷ w ∷ i ∷ ((v ++ (Key key.Where ∷ f)) ++ z)
filter_row k w i v f z = simp append_assoc

pub part_grown : (b e : Tree) → part (grown b e) ≡ 3
part_grown (First h d) e = refl
part_grown (Then b d) e = refl
part_grown _ e = refl

-- the head of a quantifier that is good is good
head_good : (b : Bool) (m : _) (row : quant.Row_of-Expr m) (h : Tree) → semicolons (plain.quant h) ≡ b → part h ≤ 2 → IsGood (closed b (bodies_of row h)) → IsGood h
head_good true m row h s k g = rows_good m row h g.0
head_good false m quant.end_of-Expr h s k g = absurd (omega (arith, no_head h k g))
head_good false m (quant.more_of-Expr at e quant.end_of-Expr) h s k g = (one_good h (tree_of e) k g).0
head_good false m (quant.more_of-Expr at e (quant.more_of-Expr at' x rest)) h s k g = absurd (no_many h (tree_of e) (tree_of x) _ rest k s g)

grown_tokens : (b e : Tree) → part b ≡ 3 → plain.tokens_of (grown b e) ≡ plain.tokens_of b ++ (plain.tokens_of e ++ (Mark mark.Semicolon ∷ []))
grown_tokens b e k = ap plain.tokens_of (grown_then b e k)

first_tokens : (h e : Tree) → part h ≤ 2 → plain.tokens_of (grown h e) ≡ plain.tokens_of h ++ (Mark mark.OpenBrace ∷ (plain.tokens_of e ++ (Mark mark.Semicolon ∷ [])))
first_tokens h e k = ap plain.tokens_of (grown_first h e k)

one_tokens : (h e : Tree) → part h ≤ 2 → plain.tokens_of (closed false (grown h e)) ≡ plain.tokens_of h ++ (Mark mark.OpenBrace ∷ (plain.tokens_of e ++ (Mark mark.CloseBrace ∷ [])))
one_tokens h e k = ap (λ (y : Tree). plain.tokens_of (closed false y)) (grown_first h e k)

mutual
  pub tokens_is : (e : node.Node) → IsGood (tree_of e) → plain.tokens_of (tree_of e) ≡ trees.tokens_of e
  tokens_is (node.Number n) g = refl
  tokens_is (node.Truth b) g = refl
  tokens_is node.This g = refl
  tokens_is (node.Named w) g = refl
  tokens_is (node.Paren' p at e) g = ap (λ (x : List Token). Mark mark.OpenParen ∷ (x ++ (Mark mark.CloseParen ∷ []))) (tokens_is e g.0)
  tokens_is (node.Dot' p at e i) g = ap (λ (x : List Token). x ++ (Mark mark.Dot ∷ Word i.name ∷ [])) (tokens_is e g.0)
  tokens_is (node.Minus' p at e) g = ap (λ (x : List Token). Mark mark.Minus ∷ x) (tokens_is e g.0)
  tokens_is (node.Not' p at e) g = ap (λ (x : List Token). Key key.Not ∷ x) (tokens_is e g.0)
  tokens_is (node.Pair' o p at l q at' r) g = ap (λ (x : List Token). x ++ (trees.op_token o ∷ plain.tokens_of (tree_of r))) (tokens_is l g.0) ∙ ap (λ (x : List Token). trees.tokens_of l ++ (trees.op_token o ∷ x)) (tokens_is r g.1)
  tokens_is (node.Quant' p q) g = quant_tokens q g

  quant_tokens : (q : quant.Quant) → IsGood (quant_of q) → plain.tokens_of (quant_of q) ≡ trees.quant_tokens q
  quant_tokens (quant.Quant' kind.Forall var at over filter shape body) g =
      let f = filter_head filter kind.Forall var.name (tree_of over) in
      many_tokens _ body (filter_of filter (Head kind.Forall var.name (tree_of over))) kind.Forall f.0 refl g
      ∙ head_tokens filter kind.Forall var.name over (Mark mark.OpenBrace ∷ (trees.body_tokens body kind.Forall ++ (Mark mark.CloseBrace ∷ []))) (tokens_is over (filter_good filter (Head kind.Forall var.name (tree_of over)) (rows_good _ body (filter_of filter (Head kind.Forall var.name (tree_of over))) g.0)).0) (rows_good _ body (filter_of filter (Head kind.Forall var.name (tree_of over))) g.0)
  quant_tokens (quant.Quant' kind.Exists var at over filter shape body) g =
      let f = filter_head filter kind.Exists var.name (tree_of over) in
      many_tokens _ body (filter_of filter (Head kind.Exists var.name (tree_of over))) kind.Exists f.0 refl g
      ∙ head_tokens filter kind.Exists var.name over (Mark mark.OpenBrace ∷ (trees.body_tokens body kind.Exists ++ (Mark mark.CloseBrace ∷ []))) (tokens_is over (filter_good filter (Head kind.Exists var.name (tree_of over)) (rows_good _ body (filter_of filter (Head kind.Exists var.name (tree_of over))) g.0)).0) (rows_good _ body (filter_of filter (Head kind.Exists var.name (tree_of over))) g.0)
  quant_tokens (quant.Quant' kind.Pack var at over filter shape body) g =
      let f = filter_head filter kind.Pack var.name (tree_of over) in
      many_tokens _ body (filter_of filter (Head kind.Pack var.name (tree_of over))) kind.Pack f.0 refl g
      ∙ head_tokens filter kind.Pack var.name over (Mark mark.OpenBrace ∷ (trees.body_tokens body kind.Pack ++ (Mark mark.CloseBrace ∷ []))) (tokens_is over (filter_good filter (Head kind.Pack var.name (tree_of over)) (rows_good _ body (filter_of filter (Head kind.Pack var.name (tree_of over))) g.0)).0) (rows_good _ body (filter_of filter (Head kind.Pack var.name (tree_of over))) g.0)
  quant_tokens (quant.Quant' kind.Sum var at over filter shape body) g =
      let f = filter_head filter kind.Sum var.name (tree_of over) in
      single_tokens _ body (filter_of filter (Head kind.Sum var.name (tree_of over))) kind.Sum f.0 (ap semicolons f.1) refl g
      ∙ head_tokens filter kind.Sum var.name over (Mark mark.OpenBrace ∷ (trees.body_tokens body kind.Sum ++ (Mark mark.CloseBrace ∷ []))) (tokens_is over (filter_good filter (Head kind.Sum var.name (tree_of over)) (head_good false _ body (filter_of filter (Head kind.Sum var.name (tree_of over))) (ap semicolons f.1) f.0.1 g)).0) (head_good false _ body (filter_of filter (Head kind.Sum var.name (tree_of over))) (ap semicolons f.1) f.0.1 g)
  quant_tokens (quant.Quant' kind.Count var at over filter shape body) g =
      let f = filter_head filter kind.Count var.name (tree_of over) in
      single_tokens _ body (filter_of filter (Head kind.Count var.name (tree_of over))) kind.Count f.0 (ap semicolons f.1) refl g
      ∙ head_tokens filter kind.Count var.name over (Mark mark.OpenBrace ∷ (trees.body_tokens body kind.Count ++ (Mark mark.CloseBrace ∷ []))) (tokens_is over (filter_good filter (Head kind.Count var.name (tree_of over)) (head_good false _ body (filter_of filter (Head kind.Count var.name (tree_of over))) (ap semicolons f.1) f.0.1 g)).0) (head_good false _ body (filter_of filter (Head kind.Count var.name (tree_of over))) (ap semicolons f.1) f.0.1 g)
  quant_tokens (quant.Quant' kind.AllDifferent var at over filter shape body) g =
      let f = filter_head filter kind.AllDifferent var.name (tree_of over) in
      single_tokens _ body (filter_of filter (Head kind.AllDifferent var.name (tree_of over))) kind.AllDifferent f.0 (ap semicolons f.1) refl g
      ∙ head_tokens filter kind.AllDifferent var.name over (Mark mark.OpenBrace ∷ (trees.body_tokens body kind.AllDifferent ++ (Mark mark.CloseBrace ∷ []))) (tokens_is over (filter_good filter (Head kind.AllDifferent var.name (tree_of over)) (head_good false _ body (filter_of filter (Head kind.AllDifferent var.name (tree_of over))) (ap semicolons f.1) f.0.1 g)).0) (head_good false _ body (filter_of filter (Head kind.AllDifferent var.name (tree_of over))) (ap semicolons f.1) f.0.1 g)

  head_tokens : (f : quant.Held-Quant-filter) (k : QuantKind) (w : List ℕ) (over : node.Node) (z : List Token) → plain.tokens_of (tree_of over) ≡ trees.tokens_of over → IsGood (filter_of f (Head k w (tree_of over))) → plain.tokens_of (filter_of f (Head k w (tree_of over))) ++ z ≡ trees.kind_token k ∷ Word w ∷ Key key.In ∷ ((trees.tokens_of over ++ trees.filter_tokens f) ++ z)
  head_tokens quant.None' k w over z i g = ap (λ (x : List Token). trees.kind_token k ∷ Word w ∷ Key key.In ∷ (x ++ z)) (sym (append-nil (plain.tokens_of (tree_of over))) ∙ ap (λ (x : List Token). x ++ []) i)
  head_tokens (quant.Some' at e) k w over z i g =
      filter_row (trees.kind_token k) (Word w) (Key key.In) (plain.tokens_of (tree_of over)) (plain.tokens_of (tree_of e)) z
      ∙ ap (λ (x : List Token). trees.kind_token k ∷ Word w ∷ Key key.In ∷ ((x ++ (Key key.Where ∷ plain.tokens_of (tree_of e))) ++ z)) i
      ∙ ap (λ (x : List Token). trees.kind_token k ∷ Word w ∷ Key key.In ∷ ((trees.tokens_of over ++ (Key key.Where ∷ x)) ++ z)) (tokens_is e g.1)

  bodies_tokens : (m : _) (row : quant.Row_of-Expr m) (b : Tree) (k : QuantKind) → part b ≡ 3 → trees.body_end k ≡ Mark mark.Semicolon ∷ [] → IsGood (bodies_of row b) → plain.tokens_of (bodies_of row b) ≡ plain.tokens_of b ++ trees.body_tokens row k
  bodies_tokens m quant.end_of-Expr b k h s g = sym (append-nil (plain.tokens_of b))
  bodies_tokens m (quant.more_of-Expr at e rest) b k h s g =
      bodies_tokens _ rest (grown b (tree_of e)) k (part_grown b (tree_of e)) s g
      ∙ ap (λ (x : List Token). x ++ trees.body_tokens rest k) (grown_tokens b (tree_of e) h)
      ∙ then_row (plain.tokens_of b) (plain.tokens_of (tree_of e)) (Mark mark.Semicolon ∷ []) (trees.body_tokens rest k)
      ∙ ap (λ (x : List Token). plain.tokens_of b ++ ((x ++ (Mark mark.Semicolon ∷ [])) ++ trees.body_tokens rest k)) (tokens_is e (grown_good b (tree_of e) (rows_good _ rest (grown b (tree_of e)) g)).1)
      ∙ ap (λ (x : List Token). plain.tokens_of b ++ ((trees.tokens_of e ++ x) ++ trees.body_tokens rest k)) (sym s)

  many_tokens : (m : _) (row : quant.Row_of-Expr m) (h : Tree) (k : QuantKind) → IsHead h → trees.body_end k ≡ Mark mark.Semicolon ∷ [] → IsGood (Many (bodies_of row h)) → plain.tokens_of (Many (bodies_of row h)) ≡ ending k h row
  many_tokens m quant.end_of-Expr h k i s g = absurd (let a = g.1 in let b = i.1 in omega arith)
  many_tokens m (quant.more_of-Expr at e rest) h k i s g =
      ap (λ (x : List Token). x ++ (Mark mark.CloseBrace ∷ [])) (bodies_tokens _ rest (grown h (tree_of e)) k (part_grown h (tree_of e)) s g.0)
      ∙ ap (λ (x : List Token). (x ++ trees.body_tokens rest k) ++ (Mark mark.CloseBrace ∷ [])) (first_tokens h (tree_of e) i.1)
      ∙ first_row (plain.tokens_of h) (plain.tokens_of (tree_of e)) (Mark mark.Semicolon ∷ []) (trees.body_tokens rest k) (Mark mark.CloseBrace ∷ [])
      ∙ ap (λ (x : List Token). plain.tokens_of h ++ (Mark mark.OpenBrace ∷ (((x ++ (Mark mark.Semicolon ∷ [])) ++ trees.body_tokens rest k) ++ (Mark mark.CloseBrace ∷ [])))) (tokens_is e (grown_good h (tree_of e) (rows_good _ rest (grown h (tree_of e)) g.0)).1)
      ∙ ap (λ (x : List Token). plain.tokens_of h ++ (Mark mark.OpenBrace ∷ (((trees.tokens_of e ++ x) ++ trees.body_tokens rest k) ++ (Mark mark.CloseBrace ∷ [])))) (sym s)

  single_tokens : (m : _) (row : quant.Row_of-Expr m) (h : Tree) (k : QuantKind) → IsHead h → semicolons (plain.quant h) ≡ false → trees.body_end k ≡ [] → IsGood (closed false (bodies_of row h)) → plain.tokens_of (closed false (bodies_of row h)) ≡ ending k h row
  single_tokens m quant.end_of-Expr h k i n s g = absurd (let b = i.1 in omega (arith, no_head h i.1 g))
  single_tokens m (quant.more_of-Expr at e quant.end_of-Expr) h k i n s g =
      one_tokens h (tree_of e) i.1
      ∙ ap (λ (x : List Token). plain.tokens_of h ++ (Mark mark.OpenBrace ∷ (x ++ (Mark mark.CloseBrace ∷ [])))) (tokens_is e (one_good h (tree_of e) i.1 g).1)
      ∙ single_row (plain.tokens_of h) (trees.tokens_of e)
      ∙ ap (λ (x : List Token). plain.tokens_of h ++ (Mark mark.OpenBrace ∷ (((trees.tokens_of e ++ x) ++ []) ++ (Mark mark.CloseBrace ∷ [])))) (sym s)
  single_tokens m (quant.more_of-Expr at e (quant.more_of-Expr at' x rest)) h k i n s g = absurd (no_many h (tree_of e) (tree_of x) _ rest i.1 n g)

-- The grammar

many_count : (k : QuantKind) (n : ℕ) → semicolons k ≡ true → 1 ≤ n → may_end k n ≡ true → trees.body_count_fits k n ≡ true
many_count kind.Forall n s h e = le-leb 1 n h
many_count kind.Exists n s h e = le-leb 1 n h
many_count kind.Pack n s h e = e
many_count kind.Sum n s h e = absurd cc
many_count kind.Count n s h e = absurd cc
many_count kind.AllDifferent n s h e = absurd cc

single_count : (k : QuantKind) → semicolons k ≡ false → trees.body_count_fits k (1 + 0) ≡ true
single_count kind.Forall s = absurd cc
single_count kind.Exists s = absurd cc
single_count kind.Pack s = absurd cc
single_count kind.Sum s = refl
single_count kind.Count s = refl
single_count kind.AllDifferent s = refl

bodies_part : (m : _) (row : quant.Row_of-Expr m) (h : Tree) → part h ≤ 2 → part (bodies_of row h) ≡ 3 → 1 ≤ trees.row_length row
bodies_part m quant.end_of-Expr h k e = absurd (omega arith)
bodies_part m (quant.more_of-Expr at e rest) h k i = omega arith

-- how many bodies the whole has
count_fits : (b : Bool) (k : QuantKind) (m : _) (row : quant.Row_of-Expr m) (h : Tree) → semicolons k ≡ b → IsHead h → plain.quant h ≡ k → IsGood (closed b (bodies_of row h)) → trees.body_count_fits k (trees.row_length row) ≡ true
count_fits true k m row h s i q g =
    let n : bodies (bodies_of row h) ≡ trees.row_length row = omega (arith, bodies_count m row h, head_bodies h i.1) in
    let e : may_end k (trees.row_length row) ≡ true = sym (ap (λ (x : QuantKind). may_end x (bodies (bodies_of row h))) (bodies_quant m row h ∙ q) ∙ ap (λ (x : ℕ). may_end k x) n) ∙ g.2 in
    many_count k (trees.row_length row) s (bodies_part m row h i.1 g.1) e
count_fits false k m quant.end_of-Expr h s i q g = absurd (let b = i.1 in omega (arith, no_head h i.1 g))
count_fits false k m (quant.more_of-Expr at e quant.end_of-Expr) h s i q g = single_count k s
count_fits false k m (quant.more_of-Expr at e (quant.more_of-Expr at' x rest)) h s i q g = absurd (no_many h (tree_of e) (tree_of x) _ rest i.1 (ap semicolons q ∙ s) g)

mutual
  pub good_fits : (e : node.Node) → IsGood (tree_of e) → trees.well_formed e ≡ true
  good_fits (node.Number n) g = refl
  good_fits (node.Truth b) g = refl
  good_fits node.This g = refl
  good_fits (node.Named w) g = refl
  good_fits (node.Paren' p at e) g = good_fits e g.0
  good_fits (node.Dot' p at e i) g = and_from (trees.well_formed e) (nat_le 9 (trees.level e)) (good_fits e g.0) (level_low e 9 (omega arith) g.1.1)
  good_fits (node.Minus' p at e) g = and_from (trees.well_formed e) (nat_le 8 (trees.level e)) (good_fits e g.0) (level_low e 8 (omega arith) g.1.1)
  good_fits (node.Not' p at e) g = and_from (trees.well_formed e) (nat_le 4 (trees.level e)) (good_fits e g.0) (level_low e 4 (omega arith) g.1.1)
  good_fits (node.Pair' o p at l q at' r) g =
      and_from (trees.well_formed l) (trees.well_formed r && (nat_le (trees.left_level o) (trees.level l) && trees.right_fits o r)) (good_fits l g.0)
      (and_from (trees.well_formed r) (nat_le (trees.left_level o) (trees.level l) && trees.right_fits o r) (good_fits r g.1)
      (and_from (nat_le (trees.left_level o) (trees.level l)) (trees.right_fits o r) (level_low l (trees.left_level o) (left_most o) g.2.1) (right_good o r g.3.1)))
  good_fits (node.Quant' p q) g = quant_fits q g

  quant_fits : (q : quant.Quant) → IsGood (quant_of q) → trees.quant_fits q ≡ true
  quant_fits (quant.Quant' kind.Forall var at over filter shape body) g =
      let f = filter_head filter kind.Forall var.name (tree_of over) in
      let i = (rows_good _ body (filter_of filter (Head kind.Forall var.name (tree_of over))) g.0) in
      let o = filter_good filter (Head kind.Forall var.name (tree_of over)) i in
      and_from (trees.well_formed over) (trees.is_path over && (trees.filter_fits filter kind.Forall && (trees.body_fits body && trees.body_count_fits kind.Forall (trees.row_length body)))) (good_fits over o.0)
      (and_from (trees.is_path over) (trees.filter_fits filter kind.Forall && (trees.body_fits body && trees.body_count_fits kind.Forall (trees.row_length body))) (path_is over o.1.1)
      (and_from (trees.filter_fits filter kind.Forall) (trees.body_fits body && trees.body_count_fits kind.Forall (trees.row_length body)) (head_fits filter kind.Forall var.name (tree_of over) i)
      (and_from (trees.body_fits body) (trees.body_count_fits kind.Forall (trees.row_length body)) (rows_fit _ body (filter_of filter (Head kind.Forall var.name (tree_of over))) g.0) (count_fits true kind.Forall _ body (filter_of filter (Head kind.Forall var.name (tree_of over))) refl f.0 f.1 g))))
  quant_fits (quant.Quant' kind.Exists var at over filter shape body) g =
      let f = filter_head filter kind.Exists var.name (tree_of over) in
      let i = (rows_good _ body (filter_of filter (Head kind.Exists var.name (tree_of over))) g.0) in
      let o = filter_good filter (Head kind.Exists var.name (tree_of over)) i in
      and_from (trees.well_formed over) (trees.is_path over && (trees.filter_fits filter kind.Exists && (trees.body_fits body && trees.body_count_fits kind.Exists (trees.row_length body)))) (good_fits over o.0)
      (and_from (trees.is_path over) (trees.filter_fits filter kind.Exists && (trees.body_fits body && trees.body_count_fits kind.Exists (trees.row_length body))) (path_is over o.1.1)
      (and_from (trees.filter_fits filter kind.Exists) (trees.body_fits body && trees.body_count_fits kind.Exists (trees.row_length body)) (head_fits filter kind.Exists var.name (tree_of over) i)
      (and_from (trees.body_fits body) (trees.body_count_fits kind.Exists (trees.row_length body)) (rows_fit _ body (filter_of filter (Head kind.Exists var.name (tree_of over))) g.0) (count_fits true kind.Exists _ body (filter_of filter (Head kind.Exists var.name (tree_of over))) refl f.0 f.1 g))))
  quant_fits (quant.Quant' kind.Pack var at over filter shape body) g =
      let f = filter_head filter kind.Pack var.name (tree_of over) in
      let i = (rows_good _ body (filter_of filter (Head kind.Pack var.name (tree_of over))) g.0) in
      let o = filter_good filter (Head kind.Pack var.name (tree_of over)) i in
      and_from (trees.well_formed over) (trees.is_path over && (trees.filter_fits filter kind.Pack && (trees.body_fits body && trees.body_count_fits kind.Pack (trees.row_length body)))) (good_fits over o.0)
      (and_from (trees.is_path over) (trees.filter_fits filter kind.Pack && (trees.body_fits body && trees.body_count_fits kind.Pack (trees.row_length body))) (path_is over o.1.1)
      (and_from (trees.filter_fits filter kind.Pack) (trees.body_fits body && trees.body_count_fits kind.Pack (trees.row_length body)) (head_fits filter kind.Pack var.name (tree_of over) i)
      (and_from (trees.body_fits body) (trees.body_count_fits kind.Pack (trees.row_length body)) (rows_fit _ body (filter_of filter (Head kind.Pack var.name (tree_of over))) g.0) (count_fits true kind.Pack _ body (filter_of filter (Head kind.Pack var.name (tree_of over))) refl f.0 f.1 g))))
  quant_fits (quant.Quant' kind.Sum var at over filter shape body) g =
      let f = filter_head filter kind.Sum var.name (tree_of over) in
      let i = (head_good false _ body (filter_of filter (Head kind.Sum var.name (tree_of over))) (ap semicolons f.1) f.0.1 g) in
      let o = filter_good filter (Head kind.Sum var.name (tree_of over)) i in
      and_from (trees.well_formed over) (trees.is_path over && (trees.filter_fits filter kind.Sum && (trees.body_fits body && trees.body_count_fits kind.Sum (trees.row_length body)))) (good_fits over o.0)
      (and_from (trees.is_path over) (trees.filter_fits filter kind.Sum && (trees.body_fits body && trees.body_count_fits kind.Sum (trees.row_length body))) (path_is over o.1.1)
      (and_from (trees.filter_fits filter kind.Sum) (trees.body_fits body && trees.body_count_fits kind.Sum (trees.row_length body)) (head_fits filter kind.Sum var.name (tree_of over) i)
      (and_from (trees.body_fits body) (trees.body_count_fits kind.Sum (trees.row_length body)) (row_fits _ body (filter_of filter (Head kind.Sum var.name (tree_of over))) f.0.1 (ap semicolons f.1) g) (count_fits false kind.Sum _ body (filter_of filter (Head kind.Sum var.name (tree_of over))) refl f.0 f.1 g))))
  quant_fits (quant.Quant' kind.Count var at over filter shape body) g =
      let f = filter_head filter kind.Count var.name (tree_of over) in
      let i = (head_good false _ body (filter_of filter (Head kind.Count var.name (tree_of over))) (ap semicolons f.1) f.0.1 g) in
      let o = filter_good filter (Head kind.Count var.name (tree_of over)) i in
      and_from (trees.well_formed over) (trees.is_path over && (trees.filter_fits filter kind.Count && (trees.body_fits body && trees.body_count_fits kind.Count (trees.row_length body)))) (good_fits over o.0)
      (and_from (trees.is_path over) (trees.filter_fits filter kind.Count && (trees.body_fits body && trees.body_count_fits kind.Count (trees.row_length body))) (path_is over o.1.1)
      (and_from (trees.filter_fits filter kind.Count) (trees.body_fits body && trees.body_count_fits kind.Count (trees.row_length body)) (head_fits filter kind.Count var.name (tree_of over) i)
      (and_from (trees.body_fits body) (trees.body_count_fits kind.Count (trees.row_length body)) (row_fits _ body (filter_of filter (Head kind.Count var.name (tree_of over))) f.0.1 (ap semicolons f.1) g) (count_fits false kind.Count _ body (filter_of filter (Head kind.Count var.name (tree_of over))) refl f.0 f.1 g))))
  quant_fits (quant.Quant' kind.AllDifferent var at over filter shape body) g =
      let f = filter_head filter kind.AllDifferent var.name (tree_of over) in
      let i = (head_good false _ body (filter_of filter (Head kind.AllDifferent var.name (tree_of over))) (ap semicolons f.1) f.0.1 g) in
      let o = filter_good filter (Head kind.AllDifferent var.name (tree_of over)) i in
      and_from (trees.well_formed over) (trees.is_path over && (trees.filter_fits filter kind.AllDifferent && (trees.body_fits body && trees.body_count_fits kind.AllDifferent (trees.row_length body)))) (good_fits over o.0)
      (and_from (trees.is_path over) (trees.filter_fits filter kind.AllDifferent && (trees.body_fits body && trees.body_count_fits kind.AllDifferent (trees.row_length body))) (path_is over o.1.1)
      (and_from (trees.filter_fits filter kind.AllDifferent) (trees.body_fits body && trees.body_count_fits kind.AllDifferent (trees.row_length body)) (head_fits filter kind.AllDifferent var.name (tree_of over) i)
      (and_from (trees.body_fits body) (trees.body_count_fits kind.AllDifferent (trees.row_length body)) (row_fits _ body (filter_of filter (Head kind.AllDifferent var.name (tree_of over))) f.0.1 (ap semicolons f.1) g) (count_fits false kind.AllDifferent _ body (filter_of filter (Head kind.AllDifferent var.name (tree_of over))) refl f.0 f.1 g))))

  head_fits : (f : quant.Held-Quant-filter) (k : QuantKind) (w : List ℕ) (v : Tree) → IsGood (filter_of f (Head k w v)) → trees.filter_fits f k ≡ true
  head_fits quant.None' k w v g = refl
  head_fits (quant.Some' at e) k w v g = and_from (trees.may_filter k) (trees.well_formed e) g.4 (good_fits e g.1)

  rows_fit : (m : _) (row : quant.Row_of-Expr m) (h : Tree) → IsGood (bodies_of row h) → trees.body_fits row ≡ true
  rows_fit m quant.end_of-Expr h g = refl
  rows_fit m (quant.more_of-Expr at e rest) h g = and_from (trees.well_formed e) (trees.body_fits rest) (good_fits e (grown_good h (tree_of e) (rows_good _ rest (grown h (tree_of e)) g)).1) (rows_fit _ rest (grown h (tree_of e)) g)

  row_fits : (m : _) (row : quant.Row_of-Expr m) (h : Tree) → part h ≤ 2 → semicolons (plain.quant h) ≡ false → IsGood (closed false (bodies_of row h)) → trees.body_fits row ≡ true
  row_fits m quant.end_of-Expr h k s g = refl
  row_fits m (quant.more_of-Expr at e quant.end_of-Expr) h k s g = and_from (trees.well_formed e) true (good_fits e (one_good h (tree_of e) k g).1) refl
  row_fits m (quant.more_of-Expr at e (quant.more_of-Expr at' x rest)) h k s g = absurd (no_many h (tree_of e) (tree_of x) _ rest k s g)
