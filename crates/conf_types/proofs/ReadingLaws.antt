-- Readings of parts, and of what is made of them.
use Rattle.std.proofs.Common.{◌≡◌, ℕ, max, ◌∷◌, Some, refl, ap, ◌∙◌, rules}
use Rattle.class_table.specs.Outline.{Outline}
use Rattle.conf_syntax.specs.declared.token.Ident.{Ident}
use Rattle.conf_syntax.specs.declared.tree.Quant as quant
use Rattle.conf_syntax.specs.Trees.{depth, quant_depth, body_depth, deepest, expr_depth}
use Rattle.conf_types.specs.declared.scope.Found.{Found}
use Rattle.conf_types.specs.declared.types.ExprType.{ExprType}
use Rattle.conf_types.specs.declared.types.ExprType.TheVariants.{Object}
use Rattle.conf_types.specs.Checked.{readings, quantifier_at, optional_depth}
use Rattle.conf_types.specs.Readings.{Reading, read, attribute_reading, found_reading, quant_reading, row_readings}
use Rattle.conf_types.specs.Scopes.{Scope, attribute_named}

pub attribute_is : (o : Outline) (at : ℕ) (r : Reading) (i : Ident) (t : ExprType) (c : ℕ) (f : Found) → r.type ≡ Some t → t ≡ Object c → attribute_named o c i.name ≡ Some f → attribute_reading o at r i r.type ≡ found_reading at r i (Some f)
attribute_is o at r i t c f e is found = ap (attribute_reading o at r i) (e ∙ ap (λ x. Some x) is) ∙ ap (found_reading at r i) found

-- Quantifiers, by their parts

rows_are : (m : _) (row : quant.Row_of-Expr m) (o : Outline) (s : Scope) → row_readings o row s ≡ readings o s (quant.items-the_row-Expr m row)
rows_are m quant.end_of-Expr o s = refl
rows_are m (quant.more_of-Expr at e rest) o s = ap (λ rs. read o s (record { at = at; node = e }) ∷ rs) (rows_are _ rest o s)

pub quant_is : (q : quant.Quant) (o : Outline) (at : ℕ) (s : Scope) → quant_reading o q at s ≡ quantifier_at o at s q
quant_is (quant.Quant' k var at over quant.None' shape body) o place s = search (rules, quant.the_lemmas, rows_are)
quant_is (quant.Quant' k var at over (quant.Some' at' e) shape body) o place s = search (rules, quant.the_lemmas, rows_are)

rows_depth : (m : _) (row : quant.Row_of-Expr m) → body_depth row ≡ deepest expr_depth (quant.items-the_row-Expr m row)
rows_depth m quant.end_of-Expr = refl
rows_depth m (quant.more_of-Expr at e rest) = ap (λ n. max (depth e) n) (rows_depth _ rest)

pub quant_depth_is : (q : quant.Quant) → quant_depth q ≡ max (depth (quant.out-Quant q).over.node) (max (optional_depth (quant.out-Quant q).filter) (deepest expr_depth (quant.out-Quant q).body.items))
quant_depth_is (quant.Quant' k var at over quant.None' shape body) = search (rules, quant.the_lemmas, rows_depth)
quant_depth_is (quant.Quant' k var at over (quant.Some' at' e) shape body) = search (rules, quant.the_lemmas, rows_depth)
