-- What an expression is read as doesn't depend on pointers: it is read off what the tree says.
use Rattle.std.proofs.Common.{◌≡◌, ℕ, List, [], ◌∷◌, refl, ◌∙◌, ap, Option, None, Some}
use Rattle.class_table.specs.Outline.{Outline}
use Rattle.conf_syntax.specs.declared.tree.Node as node
use Rattle.conf_syntax.specs.declared.tree.Quant as quant
use Rattle.conf_syntax.proofs.WholeTrees.{Whole, WholeFilter, Wholes, ANumber, ATruth, AThis, AWord, AParen, ADot, AMinus, ANot, APair, AQuant, NoFilter, AFilter, NoMore, OneMore, whole_of, whole_quant, whole_filter, whole_row}
use Rattle.conf_types.specs.Readings.{Reading, number_reading, truth_reading, this_reading, word_reading, over_reading, paren_reading, minus_reading, not_reading, dot_reading, pair_reading, right_reading, quantifier_reading, list_class, alone, reading, quant_reading, held_reading, row_readings}
use Rattle.conf_types.specs.Scopes.{Scope, within, Sense, Nothing, sense}

-- the place of the whole
abbrev pub whole_place : Whole → ℕ
whole_place (ANumber at n) = at
whole_place (ATruth at b) = at
whole_place (AThis at) = at
whole_place (AWord at w) = at
whole_place (AParen at e) = at
whole_place (ADot at e w i) = at
whole_place (AMinus at e) = at
whole_place (ANot at e) = at
whole_place (APair at o l r) = at
whole_place (AQuant at k w i over f bs) = at

abbrev whole_alone : Outline → Whole → Scope → Sense
whole_alone o (AWord at w) s = sense o s w
whole_alone o (ANumber at n) s = Nothing
whole_alone o (ATruth at b) s = Nothing
whole_alone o (AThis at) s = Nothing
whole_alone o (AParen at e) s = Nothing
whole_alone o (ADot at e w i) s = Nothing
whole_alone o (AMinus at e) s = Nothing
whole_alone o (ANot at e) s = Nothing
whole_alone o (APair at op l r) s = Nothing
whole_alone o (AQuant at k w i over f bs) s = Nothing

abbrev over : Outline → Whole → Reading → Scope → Reading
over o e r s = over_reading (whole_place e) (whole_alone o e s) r

abbrev inside : List ℕ → Reading → Scope → Scope
inside w r s = within s w (list_class r.type)

abbrev mutual
  pub whole_reading : Outline → Whole → Scope → Reading
  whole_reading o (ANumber at n) s = number_reading at n
  whole_reading o (ATruth at b) s = truth_reading at b
  whole_reading o (AThis at) s = this_reading at s.class
  whole_reading o (AWord at w) s = word_reading at (sense o s w)
  whole_reading o (AParen at e) s = paren_reading at (whole_reading o e s)
  whole_reading o (ADot at e w i) s = dot_reading o at (whole_alone o e s) (whole_reading o e s) (record { name = w; at = i })
  whole_reading o (AMinus at e) s = minus_reading at (whole_reading o e s)
  whole_reading o (ANot at e) s = not_reading at (whole_reading o e s)
  whole_reading o (APair at op l r) s = pair_reading at op (whole_reading o l s) (right_reading op (whole_place r) (whole_alone o r s) (whole_reading o r s))
  whole_reading o (AQuant at k w i e f bs) s =
      quantifier_reading at k i (sense o s w) (over o e (whole_reading o e s) s) (whole_held o f (inside w (over o e (whole_reading o e s) s) s)) (whole_rows o bs (inside w (over o e (whole_reading o e s) s) s))

  whole_held : Outline → WholeFilter → Scope → Option Reading
  whole_held o NoFilter s = None
  whole_held o (AFilter e) s = Some (whole_reading o e s)

  whole_rows : Outline → Wholes → Scope → List Reading
  whole_rows o NoMore s = []
  whole_rows o (OneMore e rest) s = whole_reading o e s ∷ whole_rows o rest s

place_is : (at : ℕ) (e : node.Node) → whole_place (whole_of at e) ≡ at
place_is at (node.Number n) = refl
place_is at (node.Truth b) = refl
place_is at node.This = refl
place_is at (node.Named w) = refl
place_is at (node.Paren' p i e) = refl
place_is at (node.Dot' p i e w) = refl
place_is at (node.Minus' p i e) = refl
place_is at (node.Not' p i e) = refl
place_is at (node.Pair' o p i l q j r) = refl
place_is at (node.Quant' p (quant.Quant' k var i over filter shape body)) = refl

alone_is : (o : Outline) (at : ℕ) (e : node.Node) (s : Scope) → whole_alone o (whole_of at e) s ≡ alone o e s
alone_is o at (node.Number n) s = refl
alone_is o at (node.Truth b) s = refl
alone_is o at node.This s = refl
alone_is o at (node.Named w) s = refl
alone_is o at (node.Paren' p i e) s = refl
alone_is o at (node.Dot' p i e w) s = refl
alone_is o at (node.Minus' p i e) s = refl
alone_is o at (node.Not' p i e) s = refl
alone_is o at (node.Pair' op p i l q j r) s = refl
alone_is o at (node.Quant' p (quant.Quant' k var i over filter shape body)) s = refl

mutual
  pub reading_is : (o : Outline) (e : node.Node) (at : ℕ) (s : Scope) → whole_reading o (whole_of at e) s ≡ reading o e at s
  reading_is o (node.Number n) at s = refl
  reading_is o (node.Truth b) at s = refl
  reading_is o node.This at s = refl
  reading_is o (node.Named w) at s = refl
  reading_is o (node.Paren' p i e) at s = ap (paren_reading at) (reading_is o e i s)
  reading_is o (node.Dot' p i e w) at s = λ t. dot_reading o at (alone_is o i e s t) (reading_is o e i s t) w
  reading_is o (node.Minus' p i e) at s = ap (minus_reading at) (reading_is o e i s)
  reading_is o (node.Not' p i e) at s = ap (not_reading at) (reading_is o e i s)
  reading_is o (node.Pair' op p i l q j r) at s = λ t. pair_reading at op (reading_is o l i s t) (right_reading op (place_is j r t) (alone_is o j r s t) (reading_is o r j s t))
  reading_is o (node.Quant' p q) at s = quant_is o q at s

  quant_is : (o : Outline) (q : quant.Quant) (at : ℕ) (s : Scope) → whole_reading o (whole_quant at q) s ≡ quant_reading o q at s
  quant_is o (quant.Quant' k var i e filter shape body) at s =
      let there = over_reading i (alone o e s) (reading o e i s) in
      let overs : over o (whole_of i e) (whole_reading o (whole_of i e) s) s ≡ there = λ t. over_reading (place_is i e t) (alone_is o i e s t) (reading_is o e i s t) in
      ap (λ (x : Reading). quantifier_reading at k var.at (sense o s var.name) x (whole_held o (whole_filter filter) (inside var.name x s)) (whole_rows o (whole_row body) (inside var.name x s))) overs
      ∙ (λ t. quantifier_reading at k var.at (sense o s var.name) there (held_is o filter (inside var.name there s) t) (rows_are o _ body (inside var.name there s) t))

  held_is : (o : Outline) (f : quant.Held-Quant-filter) (s : Scope) → whole_held o (whole_filter f) s ≡ held_reading o f s
  held_is o quant.None' s = refl
  held_is o (quant.Some' i e) s = ap Some (reading_is o e i s)

  rows_are : (o : Outline) (m : _) (row : quant.Row_of-Expr m) (s : Scope) → whole_rows o (whole_row row) s ≡ row_readings o row s
  rows_are o m quant.end_of-Expr s = refl
  rows_are o m (quant.more_of-Expr i e rest) s = λ t. reading_is o e i s t ∷ rows_are o _ rest s t
