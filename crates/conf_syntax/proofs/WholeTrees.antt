-- Expressions with their places and without pointers, and how a plain tree and a list of places give one back.
use Rattle.std.proofs.Common.{◌≡◌, ℕ, true, false, Bool, List, [], ◌∷◌, ◌++◌, refl, sym, ◌∙◌, ap, append_assoc}
use Rattle.conf_syntax.specs.declared.token.Key.TheVariants as key
use Rattle.conf_syntax.specs.declared.token.Token.{Token}
use Rattle.conf_syntax.specs.declared.token.Token.TheVariants.{Word, Number, Key}
use Rattle.conf_syntax.specs.declared.tree.Node as node
use Rattle.conf_syntax.specs.declared.tree.Op.{Op}
use Rattle.conf_syntax.specs.declared.tree.Quant as quant
use Rattle.conf_syntax.specs.declared.tree.QuantKind.{QuantKind}
use Rattle.conf_syntax.specs.declared.tree.QuantKind.TheVariants as kind
use Rattle.conf_syntax.specs.AllPlaces.{node_places, quant_places, filter_places, row_places}
use Rattle.conf_syntax.specs.Plain.{Tree, Leaf, Round, Dot, Under, Two, Many, Single, Head, HeadIf, First, Then, Negative, Negation, semicolons}
use Rattle.conf_syntax.specs.Trees.{truth_token}
use Rattle.conf_syntax.specs.Views.{grown, closed, tree_of, quant_of, filter_of, bodies_of}

-- what an expression says, with the place of each of its parts
mutual
  pub data Whole : Type 0 where
    ANumber : ℕ → ℕ → Whole
    ATruth : ℕ → Bool → Whole
    AThis : ℕ → Whole
    AWord : ℕ → List ℕ → Whole
    AParen : ℕ → Whole → Whole
    ADot : ℕ → Whole → List ℕ → ℕ → Whole
    AMinus : ℕ → Whole → Whole
    ANot : ℕ → Whole → Whole
    APair : ℕ → Op → Whole → Whole → Whole
    AQuant : ℕ → QuantKind → List ℕ → ℕ → Whole → WholeFilter → Wholes → Whole

  pub data WholeFilter : Type 0 where
    NoFilter : WholeFilter
    AFilter : Whole → WholeFilter

  pub data Wholes : Type 0 where
    NoMore : Wholes
    OneMore : Whole → Wholes → Wholes

abbrev mutual
  pub whole_of : ℕ → node.Node → Whole
  whole_of at (node.Number n) = ANumber at n
  whole_of at (node.Truth b) = ATruth at b
  whole_of at node.This = AThis at
  whole_of at (node.Named w) = AWord at w
  whole_of at (node.Paren' p i e) = AParen at (whole_of i e)
  whole_of at (node.Dot' p i e w) = ADot at (whole_of i e) w.name w.at
  whole_of at (node.Minus' p i e) = AMinus at (whole_of i e)
  whole_of at (node.Not' p i e) = ANot at (whole_of i e)
  whole_of at (node.Pair' o p i l q j r) = APair at o (whole_of i l) (whole_of j r)
  whole_of at (node.Quant' p q) = whole_quant at q

  pub whole_quant : ℕ → quant.Quant → Whole
  whole_quant at (quant.Quant' k var i over filter shape body) = AQuant at k var.name var.at (whole_of i over) (whole_filter filter) (whole_row body)

  pub whole_filter : quant.Held-Quant-filter → WholeFilter
  whole_filter quant.None' = NoFilter
  whole_filter (quant.Some' i e) = AFilter (whole_of i e)

  pub whole_row : {m : _} → quant.Row_of-Expr m → Wholes
  whole_row quant.end_of-Expr = NoMore
  whole_row (quant.more_of-Expr i e rest) = OneMore (whole_of i e) (whole_row rest)

-- the parts of a quantifier that were taken so far
record Parts : Type 0 where
  kind : QuantKind
  var : List ℕ
  var_at : ℕ
  over : Whole
  filter : WholeFilter
  bodies : Wholes

abbrev joined : Wholes → Wholes → Wholes
joined NoMore xs = xs
joined (OneMore y ys) xs = OneMore y (joined ys xs)

abbrev with_filter : WholeFilter → Parts → Parts
with_filter f x = record { kind = x.kind; var = x.var; var_at = x.var_at; over = x.over; filter = f; bodies = x.bodies }

abbrev with_bodies : Wholes → Parts → Parts
with_bodies bs x = record { kind = x.kind; var = x.var; var_at = x.var_at; over = x.over; filter = x.filter; bodies = joined x.bodies bs }

abbrev quantifier : ℕ → Parts → Whole
quantifier at x = AQuant at x.kind x.var x.var_at x.over x.filter x.bodies

abbrev no_whole : Whole
no_whole = AThis 0

abbrev pub head_place : List ℕ → ℕ
head_place [] = 0
head_place (x ∷ xs) = x

abbrev pub more_places : List ℕ → List ℕ
more_places [] = []
more_places (x ∷ xs) = xs

abbrev leaf : ℕ → Token → Whole
leaf at (Number n) = ANumber at n
leaf at (Word w) = AWord at w
leaf at (Key key.True) = ATruth at true
leaf at (Key key.False) = ATruth at false
leaf at (Key key.This) = AThis at
leaf at _ = no_whole

-- a quantifier's head alone
abbrev started : QuantKind → List ℕ → ℕ → Whole → Parts
started k w at over = record { kind = k; var = w; var_at = at; over = over; filter = NoFilter; bodies = NoMore }

abbrev no_part : List ℕ → Parts × List ℕ
no_part ps = (started kind.Forall [] 0 no_whole, ps)

-- a tree with the places that stand in front of a list, and what is left of the list
abbrev mutual
  pub taken : Tree → List ℕ → Whole × List ℕ
  taken (Leaf t) ps = (leaf (head_place ps) t, more_places ps)
  taken (Round e) ps = (AParen (head_place ps) (taken e (more_places ps)).0, (taken e (more_places ps)).1)
  taken (Dot e w) ps = (ADot (head_place ps) (taken e (more_places ps)).0 w (head_place (taken e (more_places ps)).1), more_places (taken e (more_places ps)).1)
  taken (Under Negative e) ps = (AMinus (head_place ps) (taken e (more_places ps)).0, (taken e (more_places ps)).1)
  taken (Under Negation e) ps = (ANot (head_place ps) (taken e (more_places ps)).0, (taken e (more_places ps)).1)
  taken (Two o l r) ps =
      (APair (head_place ps) o (taken l (more_places ps)).0 (taken r (taken l (more_places ps)).1).0, (taken r (taken l (more_places ps)).1).1)
  taken (Many b) ps = (quantifier (head_place ps) (part b (more_places ps)).0, (part b (more_places ps)).1)
  taken (Single h e) ps =
      (quantifier (head_place ps) (with_bodies (OneMore (taken e (part h (more_places ps)).1).0 NoMore) (part h (more_places ps)).0), (taken e (part h (more_places ps)).1).1)
  taken (Head k w v) ps = (no_whole, ps)
  taken (HeadIf h f) ps = (no_whole, ps)
  taken (First h e) ps = (no_whole, ps)
  taken (Then b e) ps = (no_whole, ps)

  part : Tree → List ℕ → Parts × List ℕ
  part (Head k w v) ps =
      (started k w (head_place ps) (taken v (more_places ps)).0, (taken v (more_places ps)).1)
  part (HeadIf h f) ps = (with_filter (AFilter (taken f (part h ps).1).0) (part h ps).0, (taken f (part h ps).1).1)
  part (First h e) ps = (with_bodies (OneMore (taken e (part h ps).1).0 NoMore) (part h ps).0, (taken e (part h ps).1).1)
  part (Then b e) ps = (with_bodies (OneMore (taken e (part b ps).1).0 NoMore) (part b ps).0, (taken e (part b ps).1).1)
  part (Leaf t) ps = no_part ps
  part (Round e) ps = no_part ps
  part (Dot e w) ps = no_part ps
  part (Under s e) ps = no_part ps
  part (Two o l r) ps = no_part ps
  part (Many b) ps = no_part ps
  part (Single h e) ps = no_part ps

joined_none : (xs : Wholes) → joined xs NoMore ≡ xs
joined_none NoMore = refl
joined_none (OneMore x xs) = ap (OneMore x) (joined_none xs)

joined_one : (xs : Wholes) (y : Whole) (ys : Wholes) → joined (joined xs (OneMore y NoMore)) ys ≡ joined xs (OneMore y ys)
joined_one NoMore y ys = refl
joined_one (OneMore x xs) y ys = ap (OneMore x) (joined_one xs y ys)

truth_leaf : (at : ℕ) (b : Bool) → leaf at (truth_token b) ≡ ATruth at b
truth_leaf at true = refl
truth_leaf at false = refl

closed_taken : (s : Bool) (b : Tree) (at : ℕ) (ps : List ℕ) → taken (closed s b) (at ∷ ps) ≡ (quantifier at (part b ps).0, (part b ps).1)
closed_taken true b at ps = refl
closed_taken false (First h e) at ps = refl
closed_taken false _ at ps = refl

grown_part : (b e : Tree) (ps : List ℕ) → part (grown b e) ps ≡ (with_bodies (OneMore (taken e (part b ps).1).0 NoMore) (part b ps).0, (taken e (part b ps).1).1)
grown_part (First h d) e ps = refl
grown_part (Then b d) e ps = refl
grown_part _ e ps = refl

mutual
  pub taken_is : (at : ℕ) (e : node.Node) (rest : List ℕ) → taken (tree_of e) (node_places at e ++ rest) ≡ (whole_of at e, rest)
  taken_is at (node.Number n) rest = refl
  taken_is at (node.Truth b) rest = ap (λ (x : Whole). (x, rest)) (truth_leaf at b)
  taken_is at node.This rest = refl
  taken_is at (node.Named w) rest = refl
  taken_is at (node.Paren' p i e) rest = ap (λ (x : Whole × List ℕ). (AParen at x.0, x.1)) (taken_is i e rest)
  taken_is at (node.Dot' p i e w) rest =
      ap (λ (ps : List ℕ). taken (Dot (tree_of e) w.name) (at ∷ ps)) (append_assoc (node_places i e) (w.at ∷ []) rest)
      ∙ ap (λ (x : Whole × List ℕ). (ADot at x.0 w.name (head_place x.1), more_places x.1)) (taken_is i e (w.at ∷ rest))
  taken_is at (node.Minus' p i e) rest = ap (λ (x : Whole × List ℕ). (AMinus at x.0, x.1)) (taken_is i e rest)
  taken_is at (node.Not' p i e) rest = ap (λ (x : Whole × List ℕ). (ANot at x.0, x.1)) (taken_is i e rest)
  taken_is at (node.Pair' o p i l q j r) rest =
      ap (λ (ps : List ℕ). taken (Two o (tree_of l) (tree_of r)) (at ∷ ps)) (append_assoc (node_places i l) (node_places j r) rest)
      ∙ ap (λ (x : Whole × List ℕ). (APair at o x.0 (taken (tree_of r) x.1).0, (taken (tree_of r) x.1).1)) (taken_is i l (node_places j r ++ rest))
      ∙ ap (λ (x : Whole × List ℕ). (APair at o (whole_of i l) x.0, x.1)) (taken_is j r rest)
  taken_is at (node.Quant' p q) rest = quant_is at q rest

  quant_is : (at : ℕ) (q : quant.Quant) (rest : List ℕ) → taken (quant_of q) (at ∷ (quant_places q ++ rest)) ≡ (whole_quant at q, rest)
  quant_is at (quant.Quant' k var i over filter shape body) rest =
      let h = filter_of filter (Head k var.name (tree_of over)) in
      let behind = row_places body ++ rest in
      let begun = started k var.name var.at (whole_of i over) in
      ap (λ (ps : List ℕ). taken (closed (semicolons k) (bodies_of body h)) (at ∷ var.at ∷ ps))
      (append_assoc (node_places i over) (filter_places filter ++ row_places body) rest ∙ ap (λ (ps : List ℕ). node_places i over ++ ps) (append_assoc (filter_places filter) (row_places body) rest))
      ∙ closed_taken (semicolons k) (bodies_of body h) at (var.at ∷ (node_places i over ++ (filter_places filter ++ behind)))
      ∙ ap (λ (x : Parts × List ℕ). (quantifier at x.0, x.1))
      (row_is _ body h (var.at ∷ (node_places i over ++ (filter_places filter ++ behind))) (with_filter (whole_filter filter) begun) rest
      (filter_is filter k var.name var.at (tree_of over) (whole_of i over) (node_places i over ++ (filter_places filter ++ behind)) behind (taken_is i over (filter_places filter ++ behind))))

  filter_is : (f : quant.Held-Quant-filter) (k : QuantKind) (w : List ℕ) (at : ℕ) (over : Tree) (x : Whole) (ps rest : List ℕ) → taken over ps ≡ (x, filter_places f ++ rest) → part (filter_of f (Head k w over)) (at ∷ ps) ≡ (with_filter (whole_filter f) (started k w at x), rest)
  filter_is quant.None' k w at over x ps rest e = ap (λ (y : Whole × List ℕ). (started k w at y.0, y.1)) e
  filter_is (quant.Some' i g) k w at over x ps rest e =
      ap (λ (y : Whole × List ℕ). (with_filter (AFilter (taken (tree_of g) y.1).0) (started k w at y.0), (taken (tree_of g) y.1).1)) e
      ∙ ap (λ (y : Whole × List ℕ). (with_filter (AFilter y.0) (started k w at x), y.1)) (taken_is i g rest)

  row_is : (m : _) (row : quant.Row_of-Expr m) (b : Tree) (ps : List ℕ) (x : Parts) (rest : List ℕ) → part b ps ≡ (x, row_places row ++ rest) → part (bodies_of row b) ps ≡ (with_bodies (whole_row row) x, rest)
  row_is m quant.end_of-Expr b ps x rest e =
      e ∙ ap (λ (bs : Wholes). (record { kind = x.kind; var = x.var; var_at = x.var_at; over = x.over; filter = x.filter; bodies = bs }, rest)) (sym (joined_none x.bodies))
  row_is m (quant.more_of-Expr i e more) b ps x rest h =
      let next : part (grown b (tree_of e)) ps ≡ (with_bodies (OneMore (whole_of i e) NoMore) x, row_places more ++ rest) =
      grown_part b (tree_of e) ps
      ∙ ap (λ (y : Parts × List ℕ). (with_bodies (OneMore (taken (tree_of e) y.1).0 NoMore) y.0, (taken (tree_of e) y.1).1)) h
      ∙ ap (λ (qs : List ℕ). (with_bodies (OneMore (taken (tree_of e) qs).0 NoMore) x, (taken (tree_of e) qs).1)) (append_assoc (node_places i e) (row_places more) rest)
      ∙ ap (λ (y : Whole × List ℕ). (with_bodies (OneMore y.0 NoMore) x, y.1)) (taken_is i e (row_places more ++ rest)) in
      row_is _ more (grown b (tree_of e)) ps (with_bodies (OneMore (whole_of i e) NoMore) x) rest next
      ∙ ap (λ (bs : Wholes). (record { kind = x.kind; var = x.var; var_at = x.var_at; over = x.over; filter = x.filter; bodies = bs }, rest)) (joined_one x.bodies (whole_of i e) (whole_row more))
