-- The places of an expression follow from its plain tree and its tokens.
use Rattle.std.proofs.Common.{◌≡◌, ◌≤◌, ◌+◌, ℕ, true, false, Bool, List, [], ◌∷◌, ◌++◌, refl, sym, ◌∙◌, ap, subst, append_assoc, append-nil, arith, length, drop, length-append}
use Rattle.std.proofs.lemmas.List.{drop-drop}
use Rattle.conf_syntax.specs.declared.token.Mark.TheVariants as mark
use Rattle.conf_syntax.specs.declared.token.Placed.{Placed}
use Rattle.conf_syntax.specs.declared.token.Token.TheVariants.{Word, Mark}
use Rattle.conf_syntax.specs.declared.tree.Node as node
use Rattle.conf_syntax.specs.declared.tree.Quant as quant
use Rattle.conf_syntax.specs.declared.tree.QuantKind.{QuantKind}
use Rattle.conf_syntax.specs.declared.tree.QuantKind.TheVariants as kind
use Rattle.conf_syntax.specs.AllPlaces.{node_places, quant_places, filter_places, row_places}
use Rattle.conf_syntax.specs.Places.{first_at, at_index, size, Stands, QuantStands, FilterStands, BodyStands}
use Rattle.conf_syntax.specs.Plain as plain
use Rattle.conf_syntax.specs.Plain.{Tree, Leaf, Round, Dot, Under, Two, Many, Single, Head, HeadIf, First, Then, part, semicolons}
use Rattle.conf_syntax.specs.Trees.{tokens_of, quant_tokens, filter_tokens, body_tokens, body_end, op_token}
use Rattle.conf_syntax.specs.Views.{grown, closed, tree_of, quant_of, filter_of, bodies_of}
use Rattle.conf_syntax.proofs.Tied.{grown_first, grown_then, filter_head}

-- how many tokens a plain tree has, whether or not the grammar has it

-- a body's end
abbrev end_size : QuantKind → ℕ
end_size k = length (body_end k)

-- the braces that are missing
abbrev open_braces : Tree → ℕ
open_braces (First h e) = 1
open_braces (Then b e) = 1
open_braces _ = 2

abbrev pub tree_size : Tree → ℕ
tree_size (Leaf t) = 1
tree_size (Round e) = 1 + tree_size e + 1
tree_size (Dot e w) = tree_size e + 2
tree_size (Under s e) = 1 + tree_size e
tree_size (Two o l r) = tree_size l + 1 + tree_size r
tree_size (Many b) = tree_size b + open_braces b
tree_size (Single h e) = tree_size h + 1 + tree_size e + 1
tree_size (Head k w v) = 3 + tree_size v
tree_size (HeadIf h f) = tree_size h + 1 + tree_size f
tree_size (First h e) = tree_size h + 1 + tree_size e + end_size (plain.quant h)
tree_size (Then b e) = tree_size b + tree_size e + end_size (plain.quant b)

-- where the nodes of a plain tree stand
abbrev pub tree_places : List Placed → Tree → List ℕ
tree_places tokens (Leaf t) = first_at tokens ∷ []
tree_places tokens (Round e) = first_at tokens ∷ tree_places (drop 1 tokens) e
tree_places tokens (Dot e w) = first_at tokens ∷ (tree_places tokens e ++ (at_index (tree_size e + 1) tokens ∷ []))
tree_places tokens (Under s e) = first_at tokens ∷ tree_places (drop 1 tokens) e
tree_places tokens (Two o l r) = at_index (tree_size l) tokens ∷ (tree_places tokens l ++ tree_places (drop (tree_size l + 1) tokens) r)
tree_places tokens (Many b) = first_at tokens ∷ tree_places tokens b
tree_places tokens (Single h e) = first_at tokens ∷ (tree_places tokens h ++ tree_places (drop (tree_size h + 1) tokens) e)
tree_places tokens (Head k w v) = at_index 1 tokens ∷ tree_places (drop 3 tokens) v
tree_places tokens (HeadIf h f) = tree_places tokens h ++ tree_places (drop (tree_size h + 1) tokens) f
tree_places tokens (First h e) = tree_places tokens h ++ tree_places (drop (tree_size h + 1) tokens) e
tree_places tokens (Then b e) = tree_places tokens b ++ tree_places (drop (tree_size b) tokens) e

closed_places : (tokens : List Placed) (s : Bool) (b : Tree) → tree_places tokens (closed s b) ≡ first_at tokens ∷ tree_places tokens b
closed_places tokens true b = refl
closed_places tokens false (First h e) = refl
closed_places tokens false _ = refl

plain_end : (k : QuantKind) → semicolons k ≡ false → end_size k ≡ 0
plain_end kind.Forall e = absurd cc
plain_end kind.Exists e = absurd cc
plain_end kind.Pack e = absurd cc
plain_end kind.Sum e = refl
plain_end kind.Count e = refl
plain_end kind.AllDifferent e = refl

closed_size : (s : Bool) (b : Tree) → semicolons (plain.quant b) ≡ s → tree_size (closed s b) ≡ tree_size b + open_braces b
closed_size true b e = refl
closed_size false (First h d) e = omega (arith, plain_end (plain.quant h) e)
closed_size false _ e = refl

grown_quant : (b e : Tree) → plain.quant (grown b e) ≡ plain.quant b
grown_quant (First h d) e = refl
grown_quant (Then b d) e = refl
grown_quant _ e = refl

grown_size : (b e : Tree) → tree_size (grown b e) + 1 ≡ tree_size b + open_braces b + tree_size e + end_size (plain.quant b)
grown_size (First h d) e = omega arith
grown_size (Then b d) e = omega arith
grown_size _ e = omega arith

grown_open : (b e : Tree) → open_braces (grown b e) ≡ 1
grown_open (First h d) e = refl
grown_open (Then b d) e = refl
grown_open _ e = refl

head_open : (f : quant.Held-Quant-filter) (k : QuantKind) (w : List ℕ) (over : node.Node) → open_braces (filter_of f (Head k w (tree_of over))) ≡ 2
head_open quant.None' k w over = refl
head_open (quant.Some' i e) k w over = refl

rows_quant : (m : _) (row : quant.Row_of-Expr m) (b : Tree) → plain.quant (bodies_of row b) ≡ plain.quant b
rows_quant m quant.end_of-Expr b = refl
rows_quant m (quant.more_of-Expr i e rest) b = rows_quant _ rest (grown b (tree_of e)) ∙ grown_quant b (tree_of e)

mutual
  pub size_is : (e : node.Node) → tree_size (tree_of e) ≡ size e
  size_is (node.Number n) = refl
  size_is (node.Truth b) = refl
  size_is node.This = refl
  size_is (node.Named w) = refl
  size_is (node.Paren' p i e) = omega (arith, size_is e, length-append (tokens_of e) (Mark mark.CloseParen ∷ []))
  size_is (node.Dot' p i e w) = omega (arith, size_is e, length-append (tokens_of e) (Mark mark.Dot ∷ Word w.name ∷ []))
  size_is (node.Minus' p i e) = omega (arith, size_is e)
  size_is (node.Not' p i e) = omega (arith, size_is e)
  size_is (node.Pair' o p i l q j r) = omega (arith, size_is l, size_is r, length-append (tokens_of l) (op_token o ∷ tokens_of r))
  size_is (node.Quant' p q) = quant_size q

  quant_size : (q : quant.Quant) → tree_size (quant_of q) ≡ length (quant_tokens q)
  quant_size (quant.Quant' k var i over filter shape body) =
      let h = filter_of filter (Head k var.name (tree_of over)) in
      let f = filter_head filter k var.name (tree_of over) in
      let a = rows_size _ body h k f.1 in
      let b = head_size filter k var.name over (size_is over) in
      let c = closed_size (semicolons k) (bodies_of body h) (ap semicolons (rows_quant _ body h ∙ f.1)) in
      omega (arith, a, b, c, length-append (tokens_of over ++ filter_tokens filter) (Mark mark.OpenBrace ∷ (body_tokens body k ++ (Mark mark.CloseBrace ∷ []))), length-append (tokens_of over) (filter_tokens filter), length-append (body_tokens body k) (Mark mark.CloseBrace ∷ []), head_open filter k var.name over)

  head_size : (f : quant.Held-Quant-filter) (k : QuantKind) (w : List ℕ) (over : node.Node) → tree_size (tree_of over) ≡ size over → tree_size (filter_of f (Head k w (tree_of over))) ≡ 3 + size over + length (filter_tokens f)
  head_size quant.None' k w over o = omega (arith, o)
  head_size (quant.Some' i e) k w over o = omega (arith, o, size_is e)

  rows_size : (m : _) (row : quant.Row_of-Expr m) (b : Tree) (k : QuantKind) → plain.quant b ≡ k → tree_size (bodies_of row b) + open_braces (bodies_of row b) ≡ tree_size b + open_braces b + length (body_tokens row k)
  rows_size m quant.end_of-Expr b k q = omega arith
  rows_size m (quant.more_of-Expr i e rest) b k q =
      omega (arith, rows_size _ rest (grown b (tree_of e)) k (grown_quant b (tree_of e) ∙ q), grown_size b (tree_of e), grown_open b (tree_of e), size_is e, ap end_size q, length-append (tokens_of e ++ body_end k) (body_tokens rest k), length-append (tokens_of e) (body_end k))

-- the same tokens behind so many
pub behind : (m n k : ℕ) (tokens : List Placed) → m + n ≡ k → drop n (drop m tokens) ≡ drop k tokens
behind m n k tokens e = drop-drop n m tokens ∙ ap (λ (x : ℕ). drop x tokens) e

mutual
  pub places_are : (tokens : List Placed) (i : ℕ) (e : node.Node) → Stands tokens i e → node_places i e ≡ tree_places tokens (tree_of e)
  places_are tokens i (node.Number n) s = ap (λ (x : ℕ). x ∷ []) s
  places_are tokens i (node.Truth b) s = ap (λ (x : ℕ). x ∷ []) s
  places_are tokens i node.This s = ap (λ (x : ℕ). x ∷ []) s
  places_are tokens i (node.Named w) s = ap (λ (x : ℕ). x ∷ []) s
  places_are tokens i (node.Paren' p j e) s = ap (λ (x : ℕ). x ∷ node_places j e) s.0 ∙ ap (λ (x : List ℕ). first_at tokens ∷ x) (places_are (drop 1 tokens) j e s.1)
  places_are tokens i (node.Dot' p j e w) s =
      ap (λ (x : ℕ). x ∷ (node_places j e ++ (w.at ∷ []))) s.0
      ∙ ap (λ (x : List ℕ). first_at tokens ∷ (x ++ (w.at ∷ []))) (places_are tokens j e s.1)
      ∙ ap (λ (x : ℕ). first_at tokens ∷ (tree_places tokens (tree_of e) ++ (x ∷ []))) (s.2 ∙ ap (λ (x : ℕ). at_index (x + 1) tokens) (sym (size_is e)))
  places_are tokens i (node.Minus' p j e) s = ap (λ (x : ℕ). x ∷ node_places j e) s.0 ∙ ap (λ (x : List ℕ). first_at tokens ∷ x) (places_are (drop 1 tokens) j e s.1)
  places_are tokens i (node.Not' p j e) s = ap (λ (x : ℕ). x ∷ node_places j e) s.0 ∙ ap (λ (x : List ℕ). first_at tokens ∷ x) (places_are (drop 1 tokens) j e s.1)
  places_are tokens i (node.Pair' o p j l q k r) s =
      ap (λ (x : ℕ). x ∷ (node_places j l ++ node_places k r)) (s.0 ∙ ap (λ (x : ℕ). at_index x tokens) (sym (size_is l)))
      ∙ ap (λ (x : List ℕ). at_index (tree_size (tree_of l)) tokens ∷ (x ++ node_places k r)) (places_are tokens j l s.1)
      ∙ ap (λ (x : List ℕ). at_index (tree_size (tree_of l)) tokens ∷ (tree_places tokens (tree_of l) ++ x)) (places_are (drop (size l + 1) tokens) k r s.2 ∙ ap (λ (x : ℕ). tree_places (drop (x + 1) tokens) (tree_of r)) (sym (size_is l)))
  places_are tokens i (node.Quant' p q) s = ap (λ (x : ℕ). x ∷ quant_places q) s.0 ∙ quant_are tokens q s.1

  quant_are : (tokens : List Placed) (q : quant.Quant) → QuantStands tokens q → first_at tokens ∷ quant_places q ≡ tree_places tokens (quant_of q)
  quant_are tokens (quant.Quant' k var i over filter shape body) s =
      let h = filter_of filter (Head k var.name (tree_of over)) in
      let f = filter_head filter k var.name (tree_of over) in
      let a = head_are tokens filter k var.name over i var.at s.0 (places_are (drop 3 tokens) i over s.1) s.2 in
      let d : drop (length (filter_tokens filter) + 1) (drop (size over) (drop 3 tokens)) ≡ drop (tree_size h + 1) tokens =
      ap (λ (x : List Placed). drop (length (filter_tokens filter) + 1) x) (drop-drop (size over) 3 tokens)
      ∙ behind (3 + size over) (length (filter_tokens filter) + 1) (tree_size h + 1) tokens (omega (arith, head_size filter k var.name over (size_is over))) in
      let b = first_are _ body h tokens k f.0.1 f.1 (subst (λ (x : List Placed). BodyStands x k body) d s.3) in
      ap (λ (x : List ℕ). first_at tokens ∷ x)
      (ap (λ (x : List ℕ). var.at ∷ x) (sym (append_assoc (node_places i over) (filter_places filter) (row_places body)))
      ∙ ap (λ (x : List ℕ). x ++ row_places body) a ∙ sym b)
      ∙ sym (closed_places tokens (semicolons k) (bodies_of body h))

  head_are : (tokens : List Placed) (f : quant.Held-Quant-filter) (k : QuantKind) (w : List ℕ) (over : node.Node) (i at : ℕ) → at ≡ at_index 1 tokens → node_places i over ≡ tree_places (drop 3 tokens) (tree_of over) → FilterStands (drop (size over) (drop 3 tokens)) f → at ∷ (node_places i over ++ filter_places f) ≡ tree_places tokens (filter_of f (Head k w (tree_of over)))
  head_are tokens quant.None' k w over i at e s t =
      ap (λ (x : ℕ). x ∷ (node_places i over ++ [])) e
      ∙ ap (λ (x : List ℕ). at_index 1 tokens ∷ x) (append-nil (node_places i over) ∙ s)
  head_are tokens (quant.Some' j g) k w over i at e s t =
      let d : drop 1 (drop (size over) (drop 3 tokens)) ≡ drop (3 + tree_size (tree_of over) + 1) tokens =
      ap (λ (x : List Placed). drop 1 x) (drop-drop (size over) 3 tokens) ∙ behind (3 + size over) 1 (3 + tree_size (tree_of over) + 1) tokens (omega (arith, size_is over)) in
      ap (λ (x : ℕ). x ∷ (node_places i over ++ node_places j g)) e
      ∙ ap (λ (x : List ℕ). at_index 1 tokens ∷ (x ++ node_places j g)) s
      ∙ ap (λ (x : List ℕ). at_index 1 tokens ∷ (tree_places (drop 3 tokens) (tree_of over) ++ x)) (places_are (drop 1 (drop (size over) (drop 3 tokens))) j g t ∙ ap (λ (x : List Placed). tree_places x (tree_of g)) d)

  first_are : (m : _) (row : quant.Row_of-Expr m) (h : Tree) (tokens : List Placed) (k : QuantKind) → part h ≤ 2 → plain.quant h ≡ k → BodyStands (drop (tree_size h + 1) tokens) k row → tree_places tokens (bodies_of row h) ≡ tree_places tokens h ++ row_places row
  first_are m quant.end_of-Expr h tokens k p q s = sym (append-nil (tree_places tokens h))
  first_are m (quant.more_of-Expr i e rest) h tokens k p q s =
      let d : drop (size e + length (body_end k)) (drop (tree_size h + 1) tokens) ≡ drop (tree_size (First h (tree_of e))) tokens =
      behind (tree_size h + 1) (size e + length (body_end k)) (tree_size (First h (tree_of e))) tokens (omega (arith, size_is e, ap end_size q)) in
      ap (λ (x : Tree). tree_places tokens (bodies_of rest x)) (grown_first h (tree_of e) p)
      ∙ rows_are _ rest (First h (tree_of e)) tokens k refl q (subst (λ (x : List Placed). BodyStands x k rest) d s.1)
      ∙ append_assoc (tree_places tokens h) (tree_places (drop (tree_size h + 1) tokens) (tree_of e)) (row_places rest)
      ∙ ap (λ (x : List ℕ). tree_places tokens h ++ (x ++ row_places rest)) (sym (places_are (drop (tree_size h + 1) tokens) i e s.0))

  rows_are : (m : _) (row : quant.Row_of-Expr m) (b : Tree) (tokens : List Placed) (k : QuantKind) → part b ≡ 3 → plain.quant b ≡ k → BodyStands (drop (tree_size b) tokens) k row → tree_places tokens (bodies_of row b) ≡ tree_places tokens b ++ row_places row
  rows_are m quant.end_of-Expr b tokens k p q s = sym (append-nil (tree_places tokens b))
  rows_are m (quant.more_of-Expr i e rest) b tokens k p q s =
      let d : drop (size e + length (body_end k)) (drop (tree_size b) tokens) ≡ drop (tree_size (Then b (tree_of e))) tokens =
      behind (tree_size b) (size e + length (body_end k)) (tree_size (Then b (tree_of e))) tokens (omega (arith, size_is e, ap end_size q)) in
      ap (λ (x : Tree). tree_places tokens (bodies_of rest x)) (grown_then b (tree_of e) p)
      ∙ rows_are _ rest (Then b (tree_of e)) tokens k refl q (subst (λ (x : List Placed). BodyStands x k rest) d s.1)
      ∙ append_assoc (tree_places tokens b) (tree_places (drop (tree_size b) tokens) (tree_of e)) (row_places rest)
      ∙ ap (λ (x : List ℕ). tree_places tokens b ++ (x ++ row_places rest)) (sym (places_are (drop (tree_size b) tokens) i e s.0))
