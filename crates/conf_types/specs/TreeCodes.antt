-- How the logic stores resolved expressions, constraints and objectives, which a type's model asks
-- for: as numbers and pairs, one to one. Nothing here has to be believed.
use Rattle.std.specs.Prelude.{◌≡◌, ℕ, Bool, Option, refl}
use Rattle.std.proofs.Common.{ap, arith}
use Rattle.std.specs.Coded.{Coded, code_by, coded×, coded_ℕ, coded_bool, coded_option}
use base.Stored.{Gv, gnil, gnum, gcons, num}
use Rattle.class_table.specs.contracts.table.Resolved as shape
use Rattle.conf_syntax.specs.contracts.tree.Op as op
use Rattle.conf_syntax.specs.contracts.tree.QuantKind as kind
use Rattle.conf_types.specs.Resolved.{ResolvedConstraint, ResolvedGoal}
use Rattle.conf_types.specs.Trees.{Tree, Filter, NoFilter, Where, Bodies, NoBody, Body}
use Rattle.conf_types.specs.Trees.{Number, Truth, This, Paren, Minus, Not, Pair, Local, Own, Root, Value, Class, Dot, Quant, Missing}

-- which kind of tree a code is that of
abbrev tag : Gv → ℕ
tag gnil = 0
tag (gnum n) = 0
tag (gcons a b) = num a

abbrev tagged : ℕ → ℕ → Gv → Gv
tagged n at rest = gcons (gnum n) (gcons (gnum at) rest)

abbrev mutual
  pub tree_code : Tree → Gv
  tree_code (Number i n) = tagged 0 i (gnum n)
  tree_code (Truth i b) = tagged 1 i (coded_bool.code b)
  tree_code (This i) = tagged 2 i gnil
  tree_code (Paren i t) = tagged 3 i (tree_code t)
  tree_code (Minus i t) = tagged 4 i (tree_code t)
  tree_code (Not i t) = tagged 5 i (tree_code t)
  tree_code (Pair i o l r) = tagged 6 i (gcons (op.the_row.coded.code o)
      (gcons (tree_code l) (tree_code r)))
  tree_code (Local i k) = tagged 7 i (gnum k)
  tree_code (Own i k s) = tagged 8 i (gcons (gnum k) (shape.the_row.coded.code s))
  tree_code (Root i k s) = tagged 9 i (gcons (gnum k) (shape.the_row.coded.code s))
  tree_code (Value i e k) = tagged 10 i (gcons (gnum e) (gnum k))
  tree_code (Class i c) = tagged 11 i (gnum c)
  tree_code (Dot i t k s) = tagged 12 i
      (gcons (tree_code t) (gcons (gnum k) (shape.the_row.coded.code s)))
  tree_code (Quant i q t f bs) = tagged 13 i (gcons (kind.the_row.coded.code q)
      (gcons (tree_code t) (gcons (filter_code f) (bodies_code bs))))
  tree_code (Missing i) = tagged 14 i gnil

  pub filter_code : Filter → Gv
  filter_code NoFilter = gnil
  filter_code (Where t) = gcons gnil (tree_code t)

  pub bodies_code : Bodies → Gv
  bodies_code NoBody = gnil
  bodies_code (Body t bs) = gcons (tree_code t) (bodies_code bs)

mutual
  pub tree_inj : (x y : Tree) → tree_code x ≡ tree_code y → x ≡ y
  tree_inj (Number i n) (Number j m) p = cc
  tree_inj (Truth i b) (Truth j d) p =
      let code : coded_bool.code b ≡ coded_bool.code d = cc in
      let same : b ≡ d = coded_bool.inj b d code in
      cc
  tree_inj (This i) (This j) p = cc
  tree_inj (Paren i t) (Paren j u) p =
      let code : tree_code t ≡ tree_code u = cc in
      let same : t ≡ u = tree_inj t u code in
      cc
  tree_inj (Minus i t) (Minus j u) p =
      let code : tree_code t ≡ tree_code u = cc in
      let same : t ≡ u = tree_inj t u code in
      cc
  tree_inj (Not i t) (Not j u) p =
      let code : tree_code t ≡ tree_code u = cc in
      let same : t ≡ u = tree_inj t u code in
      cc
  tree_inj (Pair i o l r) (Pair j q m s) p =
      let code : op.the_row.coded.code o ≡ op.the_row.coded.code q = cc in
      let left_code : tree_code l ≡ tree_code m = cc in
      let right_code : tree_code r ≡ tree_code s = cc in
      let same : o ≡ q = op.the_row.coded.inj o q code in
      let left : l ≡ m = tree_inj l m left_code in
      let right : r ≡ s = tree_inj r s right_code in
      cc
  tree_inj (Local i k) (Local j l) p = cc
  tree_inj (Own i k s) (Own j l z) p =
      let code : shape.the_row.coded.code s ≡ shape.the_row.coded.code z = cc in
      let same : s ≡ z = shape.the_row.coded.inj s z code in
      cc
  tree_inj (Root i k s) (Root j l z) p =
      let code : shape.the_row.coded.code s ≡ shape.the_row.coded.code z = cc in
      let same : s ≡ z = shape.the_row.coded.inj s z code in
      cc
  tree_inj (Value i e k) (Value j d l) p = cc
  tree_inj (Class i c) (Class j d) p = cc
  tree_inj (Dot i t k s) (Dot j u l z) p =
      let code : shape.the_row.coded.code s ≡ shape.the_row.coded.code z = cc in
      let owner_code : tree_code t ≡ tree_code u = cc in
      let same : s ≡ z = shape.the_row.coded.inj s z code in
      let owner : t ≡ u = tree_inj t u owner_code in
      cc
  tree_inj (Quant i q t f bs) (Quant j k u g cs) p =
      let code : kind.the_row.coded.code q ≡ kind.the_row.coded.code k = cc in
      let over_code : tree_code t ≡ tree_code u = cc in
      let filter_codes : filter_code f ≡ filter_code g = cc in
      let bodies_codes : bodies_code bs ≡ bodies_code cs = cc in
      let same : q ≡ k = kind.the_row.coded.inj q k code in
      let over : t ≡ u = tree_inj t u over_code in
      let filter : f ≡ g = filter_inj f g filter_codes in
      let bodies : bs ≡ cs = bodies_inj bs cs bodies_codes in
      cc
  tree_inj (Missing i) (Missing j) p = cc
  tree_inj x y p =
      let tags : tag (tree_code x) ≡ tag (tree_code y) = ap tag p in
      absurd (omega (arith, tags))

  pub filter_inj : (f g : Filter) → filter_code f ≡ filter_code g → f ≡ g
  filter_inj NoFilter NoFilter p = refl
  filter_inj (Where t) (Where u) p =
      let code : tree_code t ≡ tree_code u = cc in
      let same : t ≡ u = tree_inj t u code in
      cc
  filter_inj f g p = absurd (cc)

  pub bodies_inj : (bs cs : Bodies) → bodies_code bs ≡ bodies_code cs → bs ≡ cs
  bodies_inj NoBody NoBody p = refl
  bodies_inj (Body t bs) (Body u cs) p =
      let code : tree_code t ≡ tree_code u = cc in
      let codes : bodies_code bs ≡ bodies_code cs = cc in
      let same : t ≡ u = tree_inj t u code in
      let rest : bs ≡ cs = bodies_inj bs cs codes in
      cc
  bodies_inj bs cs p = absurd (cc)

abbrev pub coded_tree : Coded Tree
coded_tree = record { code = tree_code; inj = tree_inj }

abbrev pub coded_constraint : Coded ResolvedConstraint
coded_constraint =
    code_by (Option ℕ × (ℕ × Tree)) (coded× (coded_option coded_ℕ) (coded× coded_ℕ coded_tree))
    (λ k. (k.class, (k.place, k.tree)))
    (λ p. record { class = p.0; place = p.1.0; tree = p.1.1 }) (λ _. refl)

abbrev pub coded_goal : Coded ResolvedGoal
coded_goal =
    code_by (Bool × Tree) (coded× coded_bool coded_tree) (λ g. (g.max, g.tree))
    (λ p. record { max = p.0; tree = p.1 }) (λ _. refl)
