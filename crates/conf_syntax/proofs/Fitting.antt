-- What the grammar has, its plain tree has too.
use Rattle.std.proofs.Common.{◌≡◌, ◌≤◌, ◌+◌, ◌-◌, ℕ, true, false, Bool, ◌&&◌, ◌||◌, ◌==◌, List, [], ◌∷◌, refl, sym, ◌∙◌, ap, subst, arith, nat_le, length}
use Rattle.std.specs.List.{list_all}
use Rattle.std.proofs.lemmas.Bool.{and_parts, leb-true, le-leb, eqb-true}
use Rattle.conf_syntax.specs.declared.token.Ident.{Ident}
use Rattle.conf_syntax.specs.declared.tree.Expr.{Expr}
use Rattle.conf_syntax.specs.declared.tree.Item as items
use Rattle.conf_syntax.specs.declared.tree.Item.TheVariants as item
use Rattle.conf_syntax.specs.declared.tree.Member as members
use Rattle.conf_syntax.specs.declared.tree.Member.TheVariants as member
use Rattle.conf_syntax.specs.declared.tree.Node as node
use Rattle.conf_syntax.specs.declared.tree.Op.{Op}
use Rattle.conf_syntax.specs.declared.tree.Op.TheVariants as op
use Rattle.conf_syntax.specs.declared.tree.Quant as quant
use Rattle.conf_syntax.specs.declared.tree.QuantKind.{QuantKind}
use Rattle.conf_syntax.specs.declared.tree.QuantKind.TheVariants as kind
use Rattle.conf_syntax.specs.Trees as trees
use Rattle.conf_syntax.specs.Plain as plain
use Rattle.conf_syntax.specs.Plain.{Tree, Many, Single, Head, HeadIf, First, Then, part, bodies, semicolons, may_more, may_end, IsGood, IsAt, IsExpr, IsHead, Exprs, NoExpr, WithExpr, Member, Members, NoMember, WithMember, Program, Empty, With, AreExprs, IsMember, AreMembers, IsItem, IsProgram}
use Rattle.conf_syntax.specs.Views.{grown, closed, tree_of, quant_of, filter_of, bodies_of, exprs_from, where_of, member_of, members_from, enum_of, item_of, program_from, program_of}
use Rattle.conf_syntax.proofs.Tied.{closed_part, grown_first, grown_then, quant_level, truth_level, bodies_quant, bodies_count, grown_bodies, head_bodies, filter_head, grown_quant, part_grown}

-- levels

one_op : (o : Op) → 1 ≤ trees.op_level o
one_op op.Implies = omega arith
one_op op.Or = omega arith
one_op op.And = omega arith
one_op op.Eq = omega arith
one_op op.Ne = omega arith
one_op op.Lt = omega arith
one_op op.Le = omega arith
one_op op.Gt = omega arith
one_op op.Ge = omega arith
one_op op.In = omega arith
one_op op.Add = omega arith
one_op op.Sub = omega arith
one_op op.Mul = omega arith

one_level : (e : node.Node) → 1 ≤ plain.level (tree_of e)
one_level (node.Number m) = omega arith
one_level (node.Truth b) = omega (arith, truth_level b)
one_level node.This = omega arith
one_level (node.Named w) = omega arith
one_level (node.Paren' p at e) = omega arith
one_level (node.Dot' p at e i) = omega arith
one_level (node.Minus' p at e) = omega arith
one_level (node.Not' p at e) = omega arith
one_level (node.Pair' o p at l q at' r) = one_op o
one_level (node.Quant' p q) = omega (arith, quant_level q)

level_high : (e : node.Node) (n : ℕ) → n ≤ 9 → nat_le n (trees.level e) ≡ true → n ≤ plain.level (tree_of e)
level_high (node.Number m) n h k = omega arith
level_high (node.Truth b) n h k = omega (arith, truth_level b)
level_high node.This n h k = omega arith
level_high (node.Named w) n h k = omega arith
level_high (node.Paren' p at e) n h k = omega arith
level_high (node.Dot' p at e i) n h k = omega arith
level_high (node.Minus' p at e) n h k = leb-true n 8 k
level_high (node.Not' p at e) n h k = leb-true n 4 k
level_high (node.Pair' o p at l q at' r) n h k = leb-true n (trees.op_level o) k
level_high (node.Quant' p q) n h k = omega (arith, quant_level q)

path_high : (e : node.Node) → trees.is_path e ≡ true → 11 ≤ plain.level (tree_of e)
path_high node.This h = omega arith
path_high (node.Named w) h = omega arith
path_high (node.Dot' p at e i) h = let k = path_high e h in omega arith
path_high _ h = absurd cc

right_high : (o : Op) (e : node.Node) → trees.right_fits o e ≡ true → plain.right_level o ≤ plain.level (tree_of e)
right_high op.Implies e h = level_high e 1 (omega arith) h
right_high op.Or e h = level_high e 3 (omega arith) h
right_high op.And e h = level_high e 4 (omega arith) h
right_high op.Eq e h = level_high e 6 (omega arith) h
right_high op.Ne e h = level_high e 6 (omega arith) h
right_high op.Lt e h = level_high e 6 (omega arith) h
right_high op.Le e h = level_high e 6 (omega arith) h
right_high op.Gt e h = level_high e 6 (omega arith) h
right_high op.Ge e h = level_high e 6 (omega arith) h
right_high op.In e h = path_high e h
right_high op.Add e h = level_high e 7 (omega arith) h
right_high op.Sub e h = level_high e 7 (omega arith) h
right_high op.Mul e h = level_high e 8 (omega arith) h

left_nine : (o : Op) → trees.left_level o ≤ 9
left_nine op.Implies = omega arith
left_nine op.Or = omega arith
left_nine op.And = omega arith
left_nine op.Eq = omega arith
left_nine op.Ne = omega arith
left_nine op.Lt = omega arith
left_nine op.Le = omega arith
left_nine op.Gt = omega arith
left_nine op.Ge = omega arith
left_nine op.In = omega arith
left_nine op.Add = omega arith
left_nine op.Sub = omega arith
left_nine op.Mul = omega arith

quant_part : (q : quant.Quant) → part (quant_of q) ≡ 0
quant_part (quant.Quant' k var at over filter shape body) = closed_part (semicolons k) (bodies_of body (filter_of filter (Head k var.name (tree_of over))))

tree_part : (e : node.Node) → part (tree_of e) ≡ 0
tree_part (node.Number m) = refl
tree_part (node.Truth b) = refl
tree_part node.This = refl
tree_part (node.Named w) = refl
tree_part (node.Paren' p at e) = refl
tree_part (node.Dot' p at e i) = refl
tree_part (node.Minus' p at e) = refl
tree_part (node.Not' p at e) = refl
tree_part (node.Pair' o p at l q at' r) = refl
tree_part (node.Quant' p q) = quant_part q

at_one : (e : node.Node) → IsAt 1 (tree_of e)
at_one e = (tree_part e, one_level e)

-- bodies

-- so many more may follow
abbrev MayFill : QuantKind → ℕ → ℕ → Type 0
MayFill kind.Pack n m = n + m ≤ 3
MayFill kind.Forall n m = Unit {0}
MayFill kind.Exists n m = Unit {0}
MayFill kind.Sum n m = m ≡ 0
MayFill kind.Count n m = m ≡ 0
MayFill kind.AllDifferent n m = m ≡ 0

fill_more : (k : QuantKind) (n m : ℕ) → MayFill k n (1 + m) → semicolons k ≡ true → (may_more k n ≡ true) × MayFill k (1 + n) m
fill_more kind.Pack n m h s = (le-leb n 2 (omega arith), omega arith)
fill_more kind.Forall n m h s = (refl, tt)
fill_more kind.Exists n m h s = (refl, tt)
fill_more kind.Sum n m h s = absurd cc
fill_more kind.Count n m h s = absurd cc
fill_more kind.AllDifferent n m h s = absurd cc

more_good : (b : Tree) (e : node.Node) (k : QuantKind) → IsGood b → part b ≡ 3 → plain.quant b ≡ k → IsGood (tree_of e) → may_more k (bodies b) ≡ true → IsGood (grown b (tree_of e))
more_good b e k g p q h m = subst (λ (x : Tree). IsGood x) (sym (grown_then b (tree_of e) p)) (g, h, p, at_one e, ap (λ (x : QuantKind). may_more x (bodies b)) q ∙ m)

grown_count : (b e : Tree) → part b ≡ 3 → bodies (grown b e) ≡ 1 + bodies b
grown_count b e p = grown_bodies b e

three : (n : ℕ) → n ≡ 3 → may_end kind.Pack n ≡ true
three n e = ap (λ (x : ℕ). may_end kind.Pack x) e

filled_end : (k : QuantKind) (n : ℕ) → semicolons k ≡ true → trees.body_count_fits k n ≡ true → (may_end k n ≡ true) × (1 ≤ n) × MayFill k 1 (n - 1)
filled_end kind.Forall n s e = (refl, leb-true 1 n e, tt)
filled_end kind.Exists n s e = (refl, leb-true 1 n e, tt)
filled_end kind.Pack n s e = let i = eqb-true n 3 e in (e, omega arith, omega arith)
filled_end kind.Sum n s e = absurd cc
filled_end kind.Count n s e = absurd cc
filled_end kind.AllDifferent n s e = absurd cc

single_count : (k : QuantKind) (n : ℕ) → semicolons k ≡ false → trees.body_count_fits k n ≡ true → n ≡ 1
single_count kind.Forall n s e = absurd cc
single_count kind.Exists n s e = absurd cc
single_count kind.Pack n s e = absurd cc
single_count kind.Sum n s e = eqb-true n 1 e
single_count kind.Count n s e = eqb-true n 1 e
single_count kind.AllDifferent n s e = eqb-true n 1 e

fill_from : (k : QuantKind) (n m : ℕ) → n ≡ 1 → MayFill k 1 (1 + m - 1) → MayFill k n m
fill_from kind.Pack n m e f = omega arith
fill_from kind.Forall n m e f = tt
fill_from kind.Exists n m e f = tt
fill_from kind.Sum n m e f = omega arith
fill_from kind.Count n m e f = omega arith
fill_from kind.AllDifferent n m e f = omega arith

first_good : (h : Tree) (e : node.Node) → IsGood h → IsHead h → semicolons (plain.quant h) ≡ true → IsGood (tree_of e) → IsGood (grown h (tree_of e))
first_good h e g i s k = subst (λ (x : Tree). IsGood x) (sym (grown_first h (tree_of e) i.1)) (g, k, i, at_one e, s)

mutual
  pub fits_good : (e : node.Node) → trees.well_formed e ≡ true → IsGood (tree_of e)
  fits_good (node.Number n) h = refl
  fits_good (node.Truth true) h = refl
  fits_good (node.Truth false) h = refl
  fits_good node.This h = refl
  fits_good (node.Named w) h = refl
  fits_good (node.Paren' p at e) h = (fits_good e h, at_one e)
  fits_good (node.Dot' p at e i) h = let a = and_parts (trees.well_formed e) (nat_le 9 (trees.level e)) h in (fits_good e a.0, (tree_part e, level_high e 9 (omega arith) a.1))
  fits_good (node.Minus' p at e) h = let a = and_parts (trees.well_formed e) (nat_le 8 (trees.level e)) h in (fits_good e a.0, (tree_part e, level_high e 8 (omega arith) a.1))
  fits_good (node.Not' p at e) h = let a = and_parts (trees.well_formed e) (nat_le 4 (trees.level e)) h in (fits_good e a.0, (tree_part e, level_high e 4 (omega arith) a.1))
  fits_good (node.Pair' o p at l q at' r) h =
      let a = and_parts (trees.well_formed l) (trees.well_formed r && (nat_le (trees.left_level o) (trees.level l) && trees.right_fits o r)) h in
      let b = and_parts (trees.well_formed r) (nat_le (trees.left_level o) (trees.level l) && trees.right_fits o r) a.1 in
      let c = and_parts (nat_le (trees.left_level o) (trees.level l)) (trees.right_fits o r) b.1 in
      (fits_good l a.0, fits_good r b.0, (tree_part l, level_high l (trees.left_level o) (left_nine o) c.0), (tree_part r, right_high o r c.1))
  fits_good (node.Quant' p q) h = quant_good q h

  quant_good : (q : quant.Quant) → trees.quant_fits q ≡ true → IsGood (quant_of q)
  quant_good (quant.Quant' kind.Forall var at over filter shape body) h =
      let a = and_parts (trees.well_formed over) (trees.is_path over && (trees.filter_fits filter kind.Forall && (trees.body_fits body && trees.body_count_fits kind.Forall (trees.row_length body)))) h in
      let b = and_parts (trees.is_path over) (trees.filter_fits filter kind.Forall && (trees.body_fits body && trees.body_count_fits kind.Forall (trees.row_length body))) a.1 in
      let c = and_parts (trees.filter_fits filter kind.Forall) (trees.body_fits body && trees.body_count_fits kind.Forall (trees.row_length body)) b.1 in
      let d = and_parts (trees.body_fits body) (trees.body_count_fits kind.Forall (trees.row_length body)) c.1 in
      let f = filter_head filter kind.Forall var.name (tree_of over) in
      let g = filter_good filter kind.Forall var.name (tree_of over) (fits_good over a.0) (tree_part over, path_high over b.0) c.0 in
      many_good _ body (filter_of filter (Head kind.Forall var.name (tree_of over))) kind.Forall g f.0 f.1 refl d.0 d.1
  quant_good (quant.Quant' kind.Exists var at over filter shape body) h =
      let a = and_parts (trees.well_formed over) (trees.is_path over && (trees.filter_fits filter kind.Exists && (trees.body_fits body && trees.body_count_fits kind.Exists (trees.row_length body)))) h in
      let b = and_parts (trees.is_path over) (trees.filter_fits filter kind.Exists && (trees.body_fits body && trees.body_count_fits kind.Exists (trees.row_length body))) a.1 in
      let c = and_parts (trees.filter_fits filter kind.Exists) (trees.body_fits body && trees.body_count_fits kind.Exists (trees.row_length body)) b.1 in
      let d = and_parts (trees.body_fits body) (trees.body_count_fits kind.Exists (trees.row_length body)) c.1 in
      let f = filter_head filter kind.Exists var.name (tree_of over) in
      let g = filter_good filter kind.Exists var.name (tree_of over) (fits_good over a.0) (tree_part over, path_high over b.0) c.0 in
      many_good _ body (filter_of filter (Head kind.Exists var.name (tree_of over))) kind.Exists g f.0 f.1 refl d.0 d.1
  quant_good (quant.Quant' kind.Pack var at over filter shape body) h =
      let a = and_parts (trees.well_formed over) (trees.is_path over && (trees.filter_fits filter kind.Pack && (trees.body_fits body && trees.body_count_fits kind.Pack (trees.row_length body)))) h in
      let b = and_parts (trees.is_path over) (trees.filter_fits filter kind.Pack && (trees.body_fits body && trees.body_count_fits kind.Pack (trees.row_length body))) a.1 in
      let c = and_parts (trees.filter_fits filter kind.Pack) (trees.body_fits body && trees.body_count_fits kind.Pack (trees.row_length body)) b.1 in
      let d = and_parts (trees.body_fits body) (trees.body_count_fits kind.Pack (trees.row_length body)) c.1 in
      let f = filter_head filter kind.Pack var.name (tree_of over) in
      let g = filter_good filter kind.Pack var.name (tree_of over) (fits_good over a.0) (tree_part over, path_high over b.0) c.0 in
      many_good _ body (filter_of filter (Head kind.Pack var.name (tree_of over))) kind.Pack g f.0 f.1 refl d.0 d.1
  quant_good (quant.Quant' kind.Sum var at over filter shape body) h =
      let a = and_parts (trees.well_formed over) (trees.is_path over && (trees.filter_fits filter kind.Sum && (trees.body_fits body && trees.body_count_fits kind.Sum (trees.row_length body)))) h in
      let b = and_parts (trees.is_path over) (trees.filter_fits filter kind.Sum && (trees.body_fits body && trees.body_count_fits kind.Sum (trees.row_length body))) a.1 in
      let c = and_parts (trees.filter_fits filter kind.Sum) (trees.body_fits body && trees.body_count_fits kind.Sum (trees.row_length body)) b.1 in
      let d = and_parts (trees.body_fits body) (trees.body_count_fits kind.Sum (trees.row_length body)) c.1 in
      let f = filter_head filter kind.Sum var.name (tree_of over) in
      let g = filter_good filter kind.Sum var.name (tree_of over) (fits_good over a.0) (tree_part over, path_high over b.0) c.0 in
      single_good _ body (filter_of filter (Head kind.Sum var.name (tree_of over))) kind.Sum g f.0 f.1 refl d.0 (single_count kind.Sum (trees.row_length body) refl d.1)
  quant_good (quant.Quant' kind.Count var at over filter shape body) h =
      let a = and_parts (trees.well_formed over) (trees.is_path over && (trees.filter_fits filter kind.Count && (trees.body_fits body && trees.body_count_fits kind.Count (trees.row_length body)))) h in
      let b = and_parts (trees.is_path over) (trees.filter_fits filter kind.Count && (trees.body_fits body && trees.body_count_fits kind.Count (trees.row_length body))) a.1 in
      let c = and_parts (trees.filter_fits filter kind.Count) (trees.body_fits body && trees.body_count_fits kind.Count (trees.row_length body)) b.1 in
      let d = and_parts (trees.body_fits body) (trees.body_count_fits kind.Count (trees.row_length body)) c.1 in
      let f = filter_head filter kind.Count var.name (tree_of over) in
      let g = filter_good filter kind.Count var.name (tree_of over) (fits_good over a.0) (tree_part over, path_high over b.0) c.0 in
      single_good _ body (filter_of filter (Head kind.Count var.name (tree_of over))) kind.Count g f.0 f.1 refl d.0 (single_count kind.Count (trees.row_length body) refl d.1)
  quant_good (quant.Quant' kind.AllDifferent var at over filter shape body) h =
      let a = and_parts (trees.well_formed over) (trees.is_path over && (trees.filter_fits filter kind.AllDifferent && (trees.body_fits body && trees.body_count_fits kind.AllDifferent (trees.row_length body)))) h in
      let b = and_parts (trees.is_path over) (trees.filter_fits filter kind.AllDifferent && (trees.body_fits body && trees.body_count_fits kind.AllDifferent (trees.row_length body))) a.1 in
      let c = and_parts (trees.filter_fits filter kind.AllDifferent) (trees.body_fits body && trees.body_count_fits kind.AllDifferent (trees.row_length body)) b.1 in
      let d = and_parts (trees.body_fits body) (trees.body_count_fits kind.AllDifferent (trees.row_length body)) c.1 in
      let f = filter_head filter kind.AllDifferent var.name (tree_of over) in
      let g = filter_good filter kind.AllDifferent var.name (tree_of over) (fits_good over a.0) (tree_part over, path_high over b.0) c.0 in
      single_good _ body (filter_of filter (Head kind.AllDifferent var.name (tree_of over))) kind.AllDifferent g f.0 f.1 refl d.0 (single_count kind.AllDifferent (trees.row_length body) refl d.1)

  filter_good : (f : quant.Held-Quant-filter) (k : QuantKind) (w : List ℕ) (v : Tree) → IsGood v → IsAt 11 v → trees.filter_fits f k ≡ true → IsGood (filter_of f (Head k w v))
  filter_good quant.None' k w v g a h = (g, a)
  filter_good (quant.Some' at e) k w v g a h = let b = and_parts (trees.may_filter k) (trees.well_formed e) h in ((g, a), fits_good e b.1, refl, at_one e, b.0)

  rows_fill : (m : _) (row : quant.Row_of-Expr m) (b : Tree) (k : QuantKind) → IsGood b → part b ≡ 3 → plain.quant b ≡ k → semicolons k ≡ true → trees.body_fits row ≡ true → MayFill k (bodies b) (trees.row_length row) → IsGood (bodies_of row b) × (part (bodies_of row b) ≡ 3)
  rows_fill m quant.end_of-Expr b k g p q s h f = (g, p)
  rows_fill m (quant.more_of-Expr at e rest) b k g p q s h f =
      let a = and_parts (trees.well_formed e) (trees.body_fits rest) h in
      let c = fill_more k (bodies b) (trees.row_length rest) f s in
      rows_fill _ rest (grown b (tree_of e)) k (more_good b e k g p q (fits_good e a.0) c.0) (part_grown b (tree_of e)) (grown_quant b (tree_of e) ∙ q) s a.1
      (subst (λ (n : ℕ). MayFill k n (trees.row_length rest)) (sym (grown_count b (tree_of e) p)) c.1)

  many_good : (m : _) (row : quant.Row_of-Expr m) (h : Tree) (k : QuantKind) → IsGood h → IsHead h → plain.quant h ≡ k → semicolons k ≡ true → trees.body_fits row ≡ true → trees.body_count_fits k (trees.row_length row) ≡ true → IsGood (Many (bodies_of row h))
  many_good m quant.end_of-Expr h k g i q s f c = absurd (let e = (filled_end k 0 s c).1 in omega arith)
  many_good m (quant.more_of-Expr at e rest) h k g i q s f c =
      let a = and_parts (trees.well_formed e) (trees.body_fits rest) f in
      let d = filled_end k (1 + trees.row_length rest) s c in
      let o = head_bodies h i.1 in
      let n : bodies (grown h (tree_of e)) ≡ 1 = grown_bodies h (tree_of e) ∙ omega (arith, o) in
      let r = rows_fill _ rest (grown h (tree_of e)) k (first_good h e g i (ap semicolons q ∙ s) (fits_good e a.0)) (part_grown h (tree_of e)) (grown_quant h (tree_of e) ∙ q) s a.1 (fill_from k (bodies (grown h (tree_of e))) (trees.row_length rest) n d.2) in
      (r.0, r.1, ap (λ (x : QuantKind). may_end x (bodies (bodies_of rest (grown h (tree_of e))))) (bodies_quant _ rest (grown h (tree_of e)) ∙ grown_quant h (tree_of e) ∙ q) ∙ ap (λ (x : ℕ). may_end k x) (omega (arith, bodies_count _ rest (grown h (tree_of e)), n)) ∙ d.0)

  single_good : (m : _) (row : quant.Row_of-Expr m) (h : Tree) (k : QuantKind) → IsGood h → IsHead h → plain.quant h ≡ k → semicolons k ≡ false → trees.body_fits row ≡ true → trees.row_length row ≡ 1 → IsGood (closed false (bodies_of row h))
  single_good m quant.end_of-Expr h k g i q s f c = absurd (omega arith)
  single_good m (quant.more_of-Expr at e quant.end_of-Expr) h k g i q s f c =
      let a = and_parts (trees.well_formed e) true f in
      subst (λ (x : Tree). IsGood (closed false x)) (sym (grown_first h (tree_of e) i.1)) (g, fits_good e a.0, i, at_one e, ap semicolons q ∙ s)
  single_good m (quant.more_of-Expr at e (quant.more_of-Expr at' x rest)) h k g i q s f c = absurd (omega arith)

-- declarations

exprs_good : (es : Exprs) (xs : List Expr) → AreExprs es → list_all trees.expr_fits xs ≡ true → AreExprs (exprs_from es xs)
exprs_good es [] g h = g
exprs_good es (x ∷ xs) g h = let a = and_parts (trees.expr_fits x) (list_all trees.expr_fits xs) h in exprs_good (WithExpr es (tree_of x.node)) xs (g, (fits_good x.node a.0, at_one x.node)) a.1

where_good : (b : Bool) (xs : List Expr) → list_all trees.expr_fits xs && (b || length xs == 1) ≡ true → IsMember (where_of b xs)
where_good true xs h = exprs_good NoExpr xs tt (and_parts (list_all trees.expr_fits xs) true h).0
where_good false [] h = absurd cc
where_good false (e ∷ []) h = let a = and_parts (list_all trees.expr_fits (e ∷ [])) true h in (fits_good e.node (and_parts (trees.expr_fits e) true a.0).0, at_one e.node)
where_good false (e ∷ f ∷ xs) h = let a = and_parts (list_all trees.expr_fits (e ∷ f ∷ xs)) (length (e ∷ f ∷ xs) == 1) h in absurd (let n = eqb-true (length (e ∷ f ∷ xs)) 1 a.1 in omega arith)

member_good : (m : members.Member) → trees.member_fits m ≡ true → IsMember (member_of m)
member_good (member.Var v) h = tt
member_good (member.Where w) h = where_good w.braces w.list h

members_good : (ms : Members) (xs : List members.Member) → AreMembers ms → list_all trees.member_fits xs ≡ true → AreMembers (members_from ms xs)
members_good ms [] g h = g
members_good ms (x ∷ xs) g h = let a = and_parts (trees.member_fits x) (list_all trees.member_fits xs) h in members_good (WithMember ms (member_of x)) xs (g, member_good x a.0) a.1

enum_good : (w : List ℕ) (xs : List Ident) → nat_le 1 (length xs) ≡ true → IsItem (enum_of w xs)
enum_good w [] h = absurd (let n = leb-true 1 0 h in omega arith)
enum_good w (x ∷ xs) h = tt

item_good : (i : items.Item) → trees.item_fits i ≡ true → IsItem (item_of i)
item_good (item.Enum e) h = enum_good e.name.name e.values h
item_good (item.Class c) h = members_good NoMember c.members tt h
item_good (item.Var v) h = tt
item_good (item.Where w) h = where_good w.braces w.list h
item_good (item.Goal g) h = (fits_good g.expr.node h, at_one g.expr.node)

items_good : (p : Program) (xs : List items.Item) → IsProgram p → list_all trees.item_fits xs ≡ true → IsProgram (program_from p xs)
items_good p [] g h = g
items_good p (x ∷ xs) g h = let a = and_parts (trees.item_fits x) (list_all trees.item_fits xs) h in items_good (With p (item_of x)) xs (g, item_good x a.0) a.1

-- what the grammar has is good as a plain tree
pub all_good : (xs : List items.Item) → list_all trees.item_fits xs ≡ true → IsProgram (program_of xs)
all_good xs h = items_good Empty xs tt h
