use Rattle.std.proofs.Common.{rules, arith, ◌≡◌, List, ℕ, sym, subst}
use Rattle.conf_syntax.specs.declared.tree.Expr.{Expr}
use Rattle.conf_syntax.specs.Places.{bare}
use Rattle.conf_syntax.specs.Plain.{Dot}
use Rattle.conf_syntax.specs.Views.{tree_of}
use Rattle.conf_grammar.specs.Leads.{Leads, at}
use Rattle.conf_parse.specs.Cursor.{Names}
use Rattle.conf_parse.proofs.Parts.{dot_part}
use Rattle.conf_parse.proofs.Placing.{dot_reads}
use Rattle.conf_parse.proofs.growth.named.Goals as goal

pub returns-clause-read : goal.returns-clause-read
returns-clause-read c =
    let n : c.in_ok-name.name ≡ c.in-Some.name.now = search rules in
    subst (λ (x : Expr). Leads c.args.bounds.least c.args.bounds.room (at (tree_of c.args.left.tree.node)) (bare c.args.next.tokens.now) (at (Dot (tree_of x.node) c.in_ok-name.name)) (bare c.in-Some.rest.now)) (sym c.in_ok-new.ensures.ok)
    (dot_part c.args.bounds.least c.args.bounds.room c.args.next.tokens.now c.args.next.token.now c.args.next.after.now (tree_of c.args.left.tree.node) c.args.left.level c.in_ok-name.name c.in-Some.at c.in-Some.rest.now c.requires.tokens
    (subst (λ (x : List ℕ). Names c.args.next.after.now x c.in-Some.at c.in-Some.rest.now) (sym n) c.in-Some.ensures) c.requires.dot c.requires.left.level_is c.requires.goes (let e = c.requires.left.nest_is in let k = c.requires.nest in omega arith))

pub returns-clause-places : goal.returns-clause-places
returns-clause-places c = dot_reads c.args.start.now c.args.next.tokens.now c.args.next.token.now c.args.next.after.now c.in-Some.rest.now c.args.left.tree c.in-Some.name.now c.in_ok-name.name c.in-Some.at c.first_at.result c.in_ok-new.field-0 c.requires.tokens c.requires.places c.in-Some.ensures c.in_ok-new.ensures.ok c.first_at.ensures
