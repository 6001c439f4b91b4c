-- Bodies as lists.
use Rattle.std.proofs.Common.{◌≡◌, refl, rules}
use Rattle.conf_syntax.specs.declared.tree.Quant as quant
use Rattle.conf_syntax.specs.Plain.{Tree, Head, semicolons}
use Rattle.conf_syntax.specs.Views.{tree_of, quant_of, bodies_of, filtered, chain, grown, closed}

pub body_is : (m : _) (row : quant.Row_of-Expr m) (h : Tree) → bodies_of row h ≡ chain h (quant.items-the_row-Expr m row)
body_is m quant.end_of-Expr h = refl
body_is m (quant.more_of-Expr at e rest) h = body_is _ rest (grown h (tree_of e))

pub quant_is : (q : quant.Quant) → quant_of q ≡ closed (semicolons (quant.out-Quant q).kind) (chain (filtered (quant.out-Quant q).filter (Head (quant.out-Quant q).kind (quant.out-Quant q).var.name (tree_of (quant.out-Quant q).over.node))) (quant.out-Quant q).body.items)
quant_is (quant.Quant' k var at over quant.None' shape body) = search (rules, quant.the_lemmas, body_is)
quant_is (quant.Quant' k var at over (quant.Some' at' e) shape body) = search (rules, quant.the_lemmas, body_is)
