-- The type of a resolved tree is the type of the expression: by one induction over expressions.
use Rattle.std.proofs.Common.{◌≡◌, ℕ, suc, ◌&&◌, Option, Some, refl, ap, ◌∙◌, sym, add-one}
use Rattle.class_table.specs.Outline.{Outline}
use Rattle.class_table.specs.Tables.{IsClosed}
use Rattle.conf_syntax.specs.declared.tree.Node as node
use Rattle.conf_syntax.specs.declared.tree.Quant as quant
use Rattle.conf_syntax.specs.declared.tree.QuantKind.{QuantKind}
use Rattle.conf_types.specs.declared.types.Need.TheVariants as need
use Rattle.conf_types.specs.Readings.{reading, quant_reading, held_reading, row_readings, alone, over_reading, right_reading, filter_holds, filter_tree, bodies_hold, bodies_tree, list_class, has}
use Rattle.conf_types.specs.Scopes.{Scope, sense}
use Rattle.conf_types.specs.Scopes as scope
use Rattle.conf_types.specs.Types.{body_need}
use Rattle.conf_types.specs.Typing.{Place, inside, within, filter_fits, bodies_fit, quantifier_type}
use Rattle.conf_types.proofs.TypingLaws.{IsTyped, IsPlace, Holds, place_within, sense_holds, number_typed, truth_typed, this_typed, word_typed, over_typed, right_typed, paren_typed, minus_typed, not_typed, dot_typed, pair_typed, quantifier_typed}

alone_holds : (o : Outline) (e : node.Node) (s : Scope) (p : Place) → IsClosed o → IsPlace s p → Holds o p (alone o e s)
alone_holds o (node.Named w) s p closed h = sense_holds o s p w closed h
alone_holds o (node.Number n) s p closed h = tt
alone_holds o (node.Truth b) s p closed h = tt
alone_holds o node.This s p closed h = tt
alone_holds o (node.Paren' q i e) s p closed h = tt
alone_holds o (node.Dot' q i e w) s p closed h = tt
alone_holds o (node.Minus' q i e) s p closed h = tt
alone_holds o (node.Not' q i e) s p closed h = tt
alone_holds o (node.Pair' op q i l q' j r) s p closed h = tt
alone_holds o (node.Quant' q' q) s p closed h = tt

mutual
  pub node_typed : (o : Outline) (closed : IsClosed o) (e : node.Node) (at : ℕ) (s : Scope) (p : Place) → IsPlace s p → IsTyped o (reading o e at s) p
  node_typed o closed (node.Number n) at s p h = number_typed o p at n
  node_typed o closed (node.Truth b) at s p h = truth_typed o p at b
  node_typed o closed node.This at s p h = this_typed o p at s.class (sym h.class)
  node_typed o closed (node.Named w) at s p h = word_typed o p at (sense o s w) (sense_holds o s p w closed h)
  node_typed o closed (node.Paren' q i e) at s p h = paren_typed o p at (reading o e i s) (node_typed o closed e i s p h)
  node_typed o closed (node.Dot' q i e w) at s p h = dot_typed o p at (alone o e s) (reading o e i s) w (node_typed o closed e i s p h)
  node_typed o closed (node.Minus' q i e) at s p h = minus_typed o p at (reading o e i s) (node_typed o closed e i s p h)
  node_typed o closed (node.Not' q i e) at s p h = not_typed o p at (reading o e i s) (node_typed o closed e i s p h)
  node_typed o closed (node.Pair' op q i l q' j r) at s p h =
      pair_typed o p at op (reading o l i s) (right_reading op j (alone o r s) (reading o r j s)) (node_typed o closed l i s p h)
      (right_typed o p op j (alone o r s) (reading o r j s) (alone_holds o r s p closed h) (node_typed o closed r j s p h))
  node_typed o closed (node.Quant' q' q) at s p h = quant_typed o closed q at s p h

  quant_typed : (o : Outline) (closed : IsClosed o) (q : quant.Quant) (at : ℕ) (s : Scope) (p : Place) → IsPlace s p → IsTyped o (quant_reading o q at s) p
  quant_typed o closed (quant.Quant' k var i over filter shape body) at s p h =
      let r = over_reading i (alone o over s) (reading o over i s) in
      let t = over_typed o p i (alone o over s) (reading o over i s) (alone_holds o over s p closed h) (node_typed o closed over i s p h) in
      let held = λ (c : Option ℕ). held_reading o filter (scope.within s var.name c) in
      let rows = λ (c : Option ℕ). row_readings o body (scope.within s var.name c) in
      let tree = filter_tree (held (list_class r.type)) in
      let trees = bodies_tree (rows (list_class r.type)) in
      record {
        type =
            ap (λ x. quantifier_type k (list_class x) (filter_fits o tree (within p (list_class x)) && bodies_fit o k trees 0 (within p (list_class x)))) t.type
            ∙ quantifier_typed k
            (λ c. filter_fits o (filter_tree (held c)) (within p c) && bodies_fit o k (bodies_tree (rows c)) 0 (within p c))
            (λ c. filter_holds (held c) && bodies_hold k (rows c) 0) r.type
            (λ c. both (held_typed o closed filter (scope.within s var.name (Some c)) (inside p c) (place_within s p var.name c h)) (rows_typed o closed _ body k 0 (scope.within s var.name (Some c)) (inside p c) (place_within s p var.name c h)));
        literal = refl;
      }
    where
      both : {a b c d : _} → a ≡ b → c ≡ d → (a && c) ≡ (b && d)
      both e f = rw e (rw f refl)

  held_typed : (o : Outline) (closed : IsClosed o) (f : quant.Held-Quant-filter) (s : Scope) (p : Place) → IsPlace s p → filter_fits o (filter_tree (held_reading o f s)) p ≡ filter_holds (held_reading o f s)
  held_typed o closed quant.None' s p h = refl
  held_typed o closed (quant.Some' i e) s p h = ap (has need.Truth) (node_typed o closed e i s p h).type

  rows_typed : (o : Outline) (closed : IsClosed o) (m : _) (row : quant.Row_of-Expr m) (k : QuantKind) (n : ℕ) (s : Scope) (p : Place) → IsPlace s p → bodies_fit o k (bodies_tree (row_readings o row s)) n p ≡ bodies_hold k (row_readings o row s) n
  rows_typed o closed m quant.end_of-Expr k n s p h = refl
  rows_typed o closed m (quant.more_of-Expr i e rest) k n s p h =
      let trees = bodies_tree (row_readings o rest s) in
      ap (λ t. has (body_need k n) t && bodies_fit o k trees (suc n) p) (node_typed o closed e i s p h).type
      ∙ ap (λ b. has (body_need k n) (reading o e i s).type && b) (rows_typed o closed _ rest k (suc n) s p h ∙ ap (λ (j : ℕ). bodies_hold k (row_readings o rest s) j) (sym (add-one n)))
