use Rattle.std.proofs.Common.{rules, arith, ◌≡◌, ◌-◌, ◌<◌, sym, subst, ap, ◌∙◌, List, [], ◌∷◌, ℕ, Bool, true, false, length, length-append}
use Rattle.conf_parse.specs.Cursor.{Names}
use Rattle.conf_grammar.specs.Operators.{sign_of}
use Rattle.conf_syntax.specs.Plain.{Then, nest, semicolons, part, quant, bodies, may_more, may_end}
use Rattle.conf_syntax.specs.Trees.{may_filter}
use Rattle.conf_syntax.specs.Views.{tree_of, chain, closed}
use Rattle.conf_parse.specs.Parts.{Errs, opening_tree}
use Rattle.conf_parse.proofs.Quants.{head_wrong, head_deep, head_unnamed, head_bare, head_error, head_part, opening_head, filter_never, filter_error, filter_open, filter_part, plain_wrong, plain_part, item_part, item_error, item_open, single_open, single_part, single_error, first_error, next_item, next_error, next_wrong, end_wrong, body_end, chain_then}
use Rattle.conf_parse.proofs.Placing.{filter_opens, head_reads, item_reads, pair_reads, paren_reads, sign_reads, quant_reads, one_body, more_bodies}
use Rattle.conf_syntax.specs.declared.tree.QuantKind.{QuantKind}
use Rattle.conf_parse.proofs.Parts.{first_nothing, grow_deeper, grow_ends, grow_stops, memory_error, same_place, paren_wrong, paren_deep, paren_error, paren_open, pair_error, sign_wrong, sign_deeper, sign_error, sign_part}
use Rattle.conf_syntax.specs.Places.{bare}
use Rattle.conf_grammar.specs.Machine.{Need, goes}
use Rattle.conf_grammar.specs.Leads.{at}
use Rattle.conf_parse.proofs.+read.Goals as goal

pub quantifier::head-returns-then-bounds-gt10-clause-read : goal.quantifier::head-returns-then-bounds-gt10-clause-read
quantifier::head-returns-then-bounds-gt10-clause-read t c = head_wrong c.args.bounds.least c.args.bounds.room c.args.kind c.args.next.tokens.now c.args.next.token.now c.args.next.after.now c.requires.tokens c.requires.begin (omega arith)

pub quantifier::head-returns-then-bounds-lt2-clause-read : goal.quantifier::head-returns-then-bounds-lt2-clause-read
quantifier::head-returns-then-bounds-lt2-clause-read t c = head_deep c.args.bounds.least c.args.bounds.room c.args.kind c.args.next.tokens.now c.args.next.token.now c.args.next.after.now c.requires.tokens c.requires.begin (omega arith) (omega arith)

pub quantifier::head-returns-in_default-clause-read : goal.quantifier::head-returns-in_default-clause-read
quantifier::head-returns-in_default-clause-read t c = head_unnamed c.args.bounds.least c.args.bounds.room c.args.kind c.args.next.tokens.now c.args.next.token.now c.args.next.after.now c.requires.tokens c.requires.begin c.in_default.ensures (omega arith) (omega arith)

pub quantifier::head-returns-in_default-after_key-clause-read : goal.quantifier::head-returns-in_default-after_key-clause-read
quantifier::head-returns-in_default-after_key-clause-read t c = head_bare c.args.bounds.least c.args.bounds.room c.args.kind c.args.next.tokens.now c.args.next.token.now c.args.next.after.now c.requires.tokens c.requires.begin c.in-Some.name.now c.in-Some.at c.in-Some.behind.now c.in-Some.ensures c.in_default-after_key.ensures (omega arith) (omega arith)

pub quantifier::head-returns-in-Err-clause-read : goal.quantifier::head-returns-in-Err-clause-read
quantifier::head-returns-in-Err-clause-read t c = head_error c.args.bounds.least c.args.bounds.room c.args.kind c.args.next.tokens.now c.args.next.token.now c.args.next.after.now c.requires.tokens c.requires.begin c.in-Some.name.now c.in-Some.at c.in-Some.behind.now c.in-Some-after_key.path.now c.in-Err.e c.in-Some.ensures c.in-Some-after_key.ensures (omega arith) (omega arith) c.in-Err.ensures.read

pub quantifier::head-returns-clause-read : goal.quantifier::head-returns-clause-read
quantifier::head-returns-clause-read u c =
    let e : c.in_ok-name.name ≡ c.in-Some.name.now = search rules in
    head_part c.args.bounds.least c.args.bounds.room c.args.kind c.args.next.tokens.now c.args.next.token.now c.args.next.after.now c.requires.tokens c.requires.begin c.in_ok-name.name c.in-Some.at c.in-Some.behind.now c.in-Some-after_key.path.now (tree_of c.in-Ok.found.0.tree.node) c.in-Ok.found.1.now
    (subst (λ (x : List ℕ). Names c.args.next.after.now x c.in-Some.at c.in-Some.behind.now) (sym e) c.in-Some.ensures) c.in-Some-after_key.ensures (omega arith) (omega arith) c.in-Ok.ensures.read

pub prefix::signed-returns-then-bounds-level-clause-read : goal.prefix::signed-returns-then-bounds-level-clause-read
prefix::signed-returns-then-bounds-level-clause-read t c = sign_wrong c.args.bounds.least c.args.bounds.room (sign_of c.args.sign) c.sign_level-level.result c.args.next.tokens.now c.args.next.token.now c.args.next.after.now c.requires.tokens c.requires.begin c.sign_level-level.ensures (omega arith)

pub prefix::signed-returns-then-bounds-lt2-clause-read : goal.prefix::signed-returns-then-bounds-lt2-clause-read
prefix::signed-returns-then-bounds-lt2-clause-read t c = sign_deeper c.args.bounds.least c.args.bounds.room (sign_of c.args.sign) c.sign_level-level.result c.args.next.tokens.now c.args.next.token.now c.args.next.after.now c.requires.tokens c.requires.begin c.sign_level-level.ensures (omega arith) (omega arith)

pub prefix::signed-returns-in-Err-clause-read : goal.prefix::signed-returns-in-Err-clause-read
prefix::signed-returns-in-Err-clause-read t c = sign_error c.args.bounds.least c.args.bounds.room (sign_of c.args.sign) c.sign_level-level.result c.args.next.tokens.now c.args.next.token.now c.args.next.after.now c.in-Err.e c.requires.tokens c.requires.begin c.sign_level-level.ensures (omega arith) (omega arith) c.in-Err.ensures.read

pub prefix::signed-returns-clause-read : goal.prefix::signed-returns-clause-read
prefix::signed-returns-clause-read t c = sign_part c.args.bounds.least c.args.bounds.room (sign_of c.args.sign) c.sign_level-level.result c.args.next.tokens.now c.args.next.token.now c.args.next.after.now (tree_of c.in_ok-tree.tree.node) (tree_of c.in-Ok.found.0.tree.node) c.in-Ok.found.0.level c.in-Ok.found.1.now c.requires.tokens c.requires.begin c.sign_level-level.ensures (omega arith) (omega arith) c.in-Ok.ensures.read c.in-Ok.ensures.operand.level_is c.in-Ok.ensures.stops c.in_ok-tree.ensures.tree

pub quantifier::single-returns-in_default-clause-read : goal.quantifier::single-returns-in_default-clause-read
quantifier::single-returns-in_default-clause-read t c =
    let o = opening_head c.args.start.filter c.args.start.kind c.args.start.var.name (tree_of c.args.start.over.node) in
    let n : nest (opening_tree c.args.start) < c.args.bounds.room = omega (arith, c.requires.nest, c.requires.nested) in
    single_open c.args.bounds.least c.args.bounds.room c.args.next.tokens.now c.args.inside.now (opening_tree c.args.start) c.requires.read n o.0 (tree_of c.in-Ok.found.0.tree.node) c.in-Ok.found.0.level c.in-Ok.found.1.now (ap semicolons o.1 ∙ c.requires.kind) c.in-Ok.ensures.read c.in-Ok.ensures.operand.level_is c.in-Ok.ensures.stops c.in_default.ensures

pub quantifier::single-returns-clause-read : goal.quantifier::single-returns-clause-read
quantifier::single-returns-clause-read t c =
    let o = opening_head c.args.start.filter c.args.start.kind c.args.start.var.name (tree_of c.args.start.over.node) in
    let n : nest (opening_tree c.args.start) < c.args.bounds.room = omega (arith, c.requires.nest, c.requires.nested) in
    let m : nest (tree_of c.in-Ok.found.0.tree.node) < c.args.bounds.room = let p = c.in-Ok.ensures.operand in omega (arith, p.nest_is, p.nested) in
    single_part c.args.bounds.least c.args.bounds.room c.args.next.tokens.now c.args.inside.now (opening_tree c.args.start) c.requires.read n o.0 (opening_tree c.args.start) (tree_of c.in_ok-tree.tree.node) c.new-body.result.items c.push.new.self.items c.in-Ok.found.0.tree c.in-Ok.found.1.now c.in-Some.behind.now (ap semicolons o.1 ∙ c.requires.kind) c.in-Ok.ensures.read m c.in-Some.ensures c.new-body.ensures.items c.in_ok-push.ensures.items
    (c.in_ok-tree.ensures.tree ∙ ap (λ (b : Bool). closed b (chain (opening_tree c.args.start) c.push.new.self.items)) c.requires.kind)

pub quantifier::before_body-returns-in-Some-clause-places : goal.quantifier::before_body-returns-in-Some-clause-places
quantifier::before_body-returns-in-Some-clause-places t c = filter_opens c.args.next.tokens.now c.in-Ok.found.0 c.in-Ok.found.1.tree c.in-Ok.found.2.now c.in-Ok.ensures.places c.args.kind c.in-Ok-operand.found.0.tree c.max-nest.result c.in-Some.inner.now c.in-Ok-operand.found.1.now c.in-Some-after_mark.inside.now c.in-Some.ensures c.in-Ok-operand.ensures.places c.in-Some-after_mark.ensures

pub growth::pair-returns-clause-places : goal.growth::pair-returns-clause-places
growth::pair-returns-clause-places t c = pair_reads c.args.start.now c.args.next.tokens.now c.args.next.token.now c.args.next.after.now c.in-Ok.found.1.now c.args.op c.args.left.tree c.in-Ok.found.0.tree c.in_ok-left.left c.in_ok-right.right c.requires.tokens c.requires.places c.in-Ok.ensures.places c.in_ok-left.ensures.ok c.in_ok-right.ensures.ok

pub prefix::paren-returns-clause-places : goal.prefix::paren-returns-clause-places
prefix::paren-returns-clause-places t c = paren_reads c.args.next.tokens.now c.args.next.token.now c.args.next.after.now c.in-Ok.found.1.now c.in-Some.behind.now c.in-Ok.found.0.tree c.in_ok-new.field-0 c.requires.tokens c.in-Ok.ensures.places c.in-Some.ensures c.in_ok-new.ensures.ok

pub prefix::signed-returns-clause-places : goal.prefix::signed-returns-clause-places
prefix::signed-returns-clause-places t c = sign_reads c.args.next.tokens.now c.args.next.token.now c.args.next.after.now c.in-Ok.found.1.now c.in-Ok.found.0.tree c.in_ok-tree.tree c.requires.tokens c.in-Ok.ensures.places c.in_ok-tree.ensures.places

pub quantifier::single-returns-clause-places : goal.quantifier::single-returns-clause-places
quantifier::single-returns-clause-places t c =
    quant_reads c.args.next.tokens.now c.args.inside.now c.in-Ok.found.1.now c.in-Some.behind.now c.args.next.token.now.at c.args.start c.push.new.self.items c.in_ok-tree.tree c.requires.place c.requires.places
    (one_body c.args.inside.now c.args.start.kind c.new-body.result.items c.push.new.self.items c.in-Ok.found.0.tree c.in-Ok.found.1.now c.in-Ok.ensures.places c.requires.kind c.new-body.ensures.items c.in_ok-push.ensures.items) c.in-Some.ensures c.in_ok-tree.ensures.places

pub quantifier::many-body-preserved : goal.quantifier::many-body-preserved
quantifier::many-body-preserved t c =
    let h = opening_tree c.args.start in
    let xs = c.body.body.items in
    let ys = c.push-in-body.new.self.items in
    let x = c.in-Ok-item.found.0.tree in
    let i = c.body.invariant in
    let f = c.in_ok-push-2.ensures.items in
    let e : chain (opening_tree c.args.start) c.push-in-body.new.self.items ≡ Then (chain (opening_tree c.args.start) c.body.body.items) (tree_of c.in-Ok-item.found.0.tree.node) = chain_then h xs ys x i.whole f in
    let m : may_more c.args.start.kind (length c.body.body.items) ≡ true = search rules in
    let n : nest (chain (opening_tree c.args.start) c.body.body.items) < c.args.bounds.room = omega (arith, i.nest_is, i.nested) in
    let o = c.in-Ok-item.ensures.operand in
    record {
      leads = next_item c.args.bounds.least c.args.bounds.room c.args.next.tokens.now c.body.rest.now h xs i.leads c.in-Ok-item.found.1.now ys x c.in_default.ensures (ap (λ (k : QuantKind). may_more k (bodies (chain h xs))) i.kind ∙ ap (λ (j : ℕ). may_more c.args.start.kind j) i.count ∙ m) c.in-Ok-item.ensures.read n i.whole f;
      whole = ap part e;
      kind = ap quant e ∙ i.kind;
      count = omega (arith, ap bodies e, i.count, ap length f, length-append xs (x ∷ []));
      nest_is = omega (arith, ap nest e, i.nest_is, c.max-nest-in-body.ensures, o.nest_is);
      nested = omega (arith, i.nested, c.max-nest-in-body.ensures, o.nested);
      least = i.least;
      places = more_bodies c.args.inside.now c.args.start.kind xs ys x c.body.rest.now c.in-Ok-item.found.1.now i.places c.in-Ok-item.ensures.places c.requires.kind f;
      shorter = (let a = c.in-Ok-item.ensures.shorter in let b = i.shorter in omega arith);
    }

pub prefix::first-returns-in_default-clause-read : goal.prefix::first-returns-in_default-clause-read
prefix::first-returns-in_default-clause-read t c = first_nothing c.args.bounds.least c.args.bounds.room c.args.tokens.now c.in_default.ensures

pub prefix::first-returns-in-Err-clause-read : goal.prefix::first-returns-in-Err-clause-read
prefix::first-returns-in-Err-clause-read t c = memory_error c.args.bounds.least c.args.bounds.room Need (bare c.args.tokens.now) c.in-Err.e c.in-Err.ensures.memory

pub prefix::paren-returns-then-bounds-gt10-clause-read : goal.prefix::paren-returns-then-bounds-gt10-clause-read
prefix::paren-returns-then-bounds-gt10-clause-read t c = paren_wrong c.args.bounds.least c.args.bounds.room c.args.next.tokens.now c.args.next.token.now c.args.next.after.now c.requires.tokens c.requires.begin (omega arith)

pub prefix::paren-returns-then-bounds-lt2-clause-read : goal.prefix::paren-returns-then-bounds-lt2-clause-read
prefix::paren-returns-then-bounds-lt2-clause-read t c = paren_deep c.args.bounds.least c.args.bounds.room c.args.next.tokens.now c.args.next.token.now c.args.next.after.now c.requires.tokens c.requires.begin (omega arith) (omega arith)

pub prefix::paren-returns-in-Err-clause-read : goal.prefix::paren-returns-in-Err-clause-read
prefix::paren-returns-in-Err-clause-read t c = paren_error c.args.bounds.least c.args.bounds.room c.args.next.tokens.now c.args.next.token.now c.args.next.after.now c.in-Err.e c.requires.tokens c.requires.begin (omega arith) (omega arith) c.in-Err.ensures.read

pub prefix::paren-returns-in_default-clause-read : goal.prefix::paren-returns-in_default-clause-read
prefix::paren-returns-in_default-clause-read t c = paren_open c.args.bounds.least c.args.bounds.room c.args.next.tokens.now c.args.next.token.now c.args.next.after.now (tree_of c.in-Ok.found.0.tree.node) c.in-Ok.found.0.level c.in-Ok.found.1.now c.requires.tokens c.requires.begin (omega arith) (omega arith) c.in-Ok.ensures.read c.in-Ok.ensures.operand.level_is c.in-Ok.ensures.stops c.in_default.ensures

pub growth::grow-returns-in_default-clause-read : goal.growth::grow-returns-in_default-clause-read
growth::grow-returns-in_default-clause-read t c = same_place c.args.bounds.least c.args.bounds.room (at (tree_of c.args.left.tree.node)) (bare c.args.tokens.now)

pub growth::grow-returns-then-not-goes-clause-read : goal.growth::grow-returns-then-not-goes-clause-read
growth::grow-returns-then-not-goes-clause-read t c = same_place c.args.bounds.least c.args.bounds.room (at (tree_of c.args.left.tree.node)) (bare c.args.tokens.now)

pub growth::grow-returns-in-Nothing-clause-read : goal.growth::grow-returns-in-Nothing-clause-read
growth::grow-returns-in-Nothing-clause-read t c = same_place c.args.bounds.least c.args.bounds.room (at (tree_of c.args.left.tree.node)) (bare c.args.tokens.now)

pub growth::pair-returns-in-Err-clause-read : goal.growth::pair-returns-in-Err-clause-read
growth::pair-returns-in-Err-clause-read t c = pair_error c.args.bounds.least c.args.bounds.room c.args.next.tokens.now c.args.next.token.now c.args.op c.args.next.after.now (tree_of c.args.left.tree.node) c.args.left.level c.in-Err.e c.requires.tokens c.requires.op c.requires.left.level_is c.requires.goes (let p = c.requires.left in omega (arith, p.nest_is, c.requires.nest)) (subst (λ (n : ℕ). Errs n (c.args.bounds.room - 1) Need (bare c.args.next.after.now) c.in-Err.e) c.right_level.ensures c.in-Err.ensures.read)

pub quantifier::before_body-returns-then-not-may_filter-clause-read : goal.quantifier::before_body-returns-then-not-may_filter-clause-read
quantifier::before_body-returns-then-not-may_filter-clause-read t c =
    let m : may_filter c.args.kind ≡ false = search rules in
    filter_never c.args.bounds.least c.args.bounds.room c.args.kind c.in-Ok.found.0.name (tree_of c.in-Ok.found.1.tree.node) c.args.next.tokens.now c.in-Ok.found.2.now c.in-Ok.ensures.read c.in-Ok.found.1.level c.in-Some.inner.now c.in-Some.ensures m c.in-Ok.ensures.operand.level_is c.in-Ok.ensures.stops

pub quantifier::before_body-returns-in-Err-operand-clause-read : goal.quantifier::before_body-returns-in-Err-operand-clause-read
quantifier::before_body-returns-in-Err-operand-clause-read t c =
    let m : may_filter c.args.kind ≡ true = search rules in
    let n : nest (tree_of c.in-Ok.found.1.tree.node) < c.args.bounds.room = let p = c.in-Ok.ensures.operand in let r = c.in-Ok.ensures.fits.1 in omega (arith, p.nest_is, p.nested, r) in
    filter_error c.args.bounds.least c.args.bounds.room c.args.kind c.in-Ok.found.0.name (tree_of c.in-Ok.found.1.tree.node) c.args.next.tokens.now c.in-Ok.found.2.now c.in-Ok.ensures.read c.in-Some.inner.now c.in-Err-operand.e c.in-Some.ensures m c.in-Ok.ensures.fits.1 n c.in-Err-operand.ensures.read

pub quantifier::before_body-returns-in_default-after_mark-clause-read : goal.quantifier::before_body-returns-in_default-after_mark-clause-read
quantifier::before_body-returns-in_default-after_mark-clause-read t c =
    let m : may_filter c.args.kind ≡ true = search rules in
    let n : nest (tree_of c.in-Ok.found.1.tree.node) < c.args.bounds.room = let p = c.in-Ok.ensures.operand in let r = c.in-Ok.ensures.fits.1 in omega (arith, p.nest_is, p.nested, r) in
    filter_open c.args.bounds.least c.args.bounds.room c.args.kind c.in-Ok.found.0.name (tree_of c.in-Ok.found.1.tree.node) c.args.next.tokens.now c.in-Ok.found.2.now c.in-Ok.ensures.read (tree_of c.in-Ok-operand.found.0.tree.node) c.in-Ok-operand.found.0.level c.in-Some.inner.now c.in-Ok-operand.found.1.now c.in-Some.ensures m c.in-Ok.ensures.fits.1 n c.in-Ok-operand.ensures.read c.in-Ok-operand.ensures.operand.level_is c.in-Ok-operand.ensures.stops c.in_default-after_mark.ensures

pub quantifier::before_body-returns-in-Some-clause-read : goal.quantifier::before_body-returns-in-Some-clause-read
quantifier::before_body-returns-in-Some-clause-read t c =
    let m : may_filter c.args.kind ≡ true = search rules in
    let n : nest (tree_of c.in-Ok.found.1.tree.node) < c.args.bounds.room = let p = c.in-Ok.ensures.operand in let r = c.in-Ok.ensures.fits.1 in omega (arith, p.nest_is, p.nested, r) in
    let q : nest (tree_of c.in-Ok-operand.found.0.tree.node) < c.args.bounds.room = let p = c.in-Ok-operand.ensures.operand in let r = c.in-Ok.ensures.fits.1 in omega (arith, p.nest_is, p.nested, r) in
    filter_part c.args.bounds.least c.args.bounds.room c.args.kind c.in-Ok.found.0.name (tree_of c.in-Ok.found.1.tree.node) c.args.next.tokens.now c.in-Ok.found.2.now c.in-Ok.ensures.read (tree_of c.in-Ok-operand.found.0.tree.node) c.in-Some.inner.now c.in-Ok-operand.found.1.now c.in-Some-after_mark.inside.now c.in-Some.ensures m c.in-Ok.ensures.fits.1 n c.in-Ok-operand.ensures.read q c.in-Some-after_mark.ensures

pub quantifier::before_body-returns-in_default-after_mark-2-clause-read : goal.quantifier::before_body-returns-in_default-after_mark-2-clause-read
quantifier::before_body-returns-in_default-after_mark-2-clause-read t c = plain_wrong c.args.bounds.least c.args.bounds.room c.args.kind c.in-Ok.found.0.name (tree_of c.in-Ok.found.1.tree.node) c.args.next.tokens.now c.in-Ok.found.2.now c.in-Ok.ensures.read c.in-Ok.found.1.level c.in-Ok.ensures.operand.level_is c.in-Ok.ensures.stops c.in_default.ensures c.in_default-after_mark-2.ensures

pub quantifier::before_body-returns-clause-read : goal.quantifier::before_body-returns-clause-read
quantifier::before_body-returns-clause-read t c =
    let n : nest (tree_of c.in-Ok.found.1.tree.node) < c.args.bounds.room = let p = c.in-Ok.ensures.operand in let r = c.in-Ok.ensures.fits.1 in omega (arith, p.nest_is, p.nested, r) in
    plain_part c.args.bounds.least c.args.bounds.room c.args.kind c.in-Ok.found.0.name (tree_of c.in-Ok.found.1.tree.node) c.args.next.tokens.now c.in-Ok.found.2.now c.in-Ok.ensures.read c.in-Some-after_mark-2.inside.now c.in-Some-after_mark-2.ensures c.in-Ok.ensures.fits.1 n

pub quantifier::item-returns-in-Err-clause-read : goal.quantifier::item-returns-in-Err-clause-read
quantifier::item-returns-in-Err-clause-read t c = item_error c.args.room (bare c.args.tokens.now) c.in-Err.e c.in-Err.ensures.read

pub quantifier::item-returns-in_default-clause-read : goal.quantifier::item-returns-in_default-clause-read
quantifier::item-returns-in_default-clause-read t c = item_open c.args.room c.args.tokens.now c.in-Ok.found.1.now (tree_of c.in-Ok.found.0.tree.node) c.in-Ok.found.0.level c.in-Ok.ensures.read c.in-Ok.ensures.operand.level_is c.in-Ok.ensures.stops c.in_default.ensures

pub quantifier::item-returns-clause-read : goal.quantifier::item-returns-clause-read
quantifier::item-returns-clause-read t c =
    let n : nest (tree_of c.in-Ok.found.0.tree.node) < c.args.room = let p = c.in-Ok.ensures.operand in let r = c.requires.room in omega (arith, p.nest_is, p.nested, r) in
    item_part c.args.room c.args.tokens.now c.in-Ok.found.1.now c.in-Some.rest.now (tree_of c.in-Ok.found.0.tree.node) c.in-Ok.ensures.read c.in-Some.ensures n

pub quantifier::item-returns-clause-places : goal.quantifier::item-returns-clause-places
quantifier::item-returns-clause-places t c = item_reads c.args.tokens.now c.in-Ok.found.1.now c.in-Some.rest.now c.in-Ok.found.0.tree c.in-Ok.ensures.places c.in-Some.ensures

pub quantifier::single-returns-in-Err-clause-read : goal.quantifier::single-returns-in-Err-clause-read
quantifier::single-returns-in-Err-clause-read t c =
    let o = opening_head c.args.start.filter c.args.start.kind c.args.start.var.name (tree_of c.args.start.over.node) in
    let n : nest (opening_tree c.args.start) < c.args.bounds.room = omega (arith, c.requires.nest, c.requires.nested) in
    single_error c.args.bounds.least c.args.bounds.room c.args.next.tokens.now c.args.inside.now (opening_tree c.args.start) c.requires.read n o.0 c.in-Err.e (ap semicolons o.1 ∙ c.requires.kind) c.in-Err.ensures.read

pub quantifier::many-returns-in-Err-clause-read : goal.quantifier::many-returns-in-Err-clause-read
quantifier::many-returns-in-Err-clause-read t c =
    let o = opening_head c.args.start.filter c.args.start.kind c.args.start.var.name (tree_of c.args.start.over.node) in
    let n : nest (opening_tree c.args.start) < c.args.bounds.room = omega (arith, c.requires.nest, c.requires.nested) in
    first_error c.args.bounds.least c.args.bounds.room c.args.next.tokens.now c.args.inside.now (opening_tree c.args.start) c.requires.read n o.0 c.in-Err.e (ap semicolons o.1 ∙ c.requires.kind) c.in-Err.ensures.read

pub quantifier::many-returns-in-Err-item-clause-read : goal.quantifier::many-returns-in-Err-item-clause-read
quantifier::many-returns-in-Err-item-clause-read t c =
    let h = opening_tree c.args.start in
    let xs = c.body.body.items in
    let i = c.body.invariant in
    let m : may_more c.args.start.kind (length c.body.body.items) ≡ true = search rules in
    let n : nest (chain (opening_tree c.args.start) c.body.body.items) < c.args.bounds.room = omega (arith, i.nest_is, i.nested) in
    next_error c.args.bounds.least c.args.bounds.room c.args.next.tokens.now c.body.rest.now h xs i.leads c.in-Err-item.e c.in_default.ensures (ap (λ (k : QuantKind). may_more k (bodies (chain h xs))) i.kind ∙ ap (λ (j : ℕ). may_more c.args.start.kind j) i.count ∙ m) c.in-Err-item.ensures.read n

pub quantifier::many-returns-then-not-may_more-clause-read : goal.quantifier::many-returns-then-not-may_more-clause-read
quantifier::many-returns-then-not-may_more-clause-read t c =
    let h = opening_tree c.args.start in
    let xs = c.body.body.items in
    let i = c.body.invariant in
    let m : may_more c.args.start.kind (length c.body.body.items) ≡ false = search rules in
    next_wrong c.args.bounds.least c.args.bounds.room c.args.next.tokens.now c.body.rest.now h xs i.leads c.in_default.ensures (ap (λ (k : QuantKind). may_more k (bodies (chain h xs))) i.kind ∙ ap (λ (j : ℕ). may_more c.args.start.kind j) i.count ∙ m)

pub quantifier::many-returns-then-not-may_end-clause-read : goal.quantifier::many-returns-then-not-may_end-clause-read
quantifier::many-returns-then-not-may_end-clause-read t c =
    let h = opening_tree c.args.start in
    let xs = c.body.body.items in
    let i = c.body.invariant in
    let m : may_end c.args.start.kind (length c.body.body.items) ≡ false = search rules in
    end_wrong c.args.bounds.least c.args.bounds.room c.args.next.tokens.now c.body.rest.now h xs i.leads c.in-Some.behind.now c.in-Some.ensures (ap (λ (k : QuantKind). may_end k (bodies (chain h xs))) i.kind ∙ ap (λ (j : ℕ). may_end c.args.start.kind j) i.count ∙ m)

pub quantifier::many-returns-in-Some-clause-read : goal.quantifier::many-returns-in-Some-clause-read
quantifier::many-returns-in-Some-clause-read t c =
    let h = opening_tree c.args.start in
    let xs = c.body.body.items in
    let i = c.body.invariant in
    let m : may_end c.args.start.kind (length c.body.body.items) ≡ true = search rules in
    let n : nest (chain (opening_tree c.args.start) c.body.body.items) < c.args.bounds.room = omega (arith, i.nest_is, i.nested) in
    body_end c.args.bounds.least c.args.bounds.room c.args.next.tokens.now c.body.rest.now h xs i.leads c.in-Some.behind.now (tree_of c.in_ok-tree.tree.node) c.in-Some.ensures (ap (λ (k : QuantKind). may_end k (bodies (chain h xs))) i.kind ∙ ap (λ (j : ℕ). may_end c.args.start.kind j) i.count ∙ m) n (c.in_ok-tree.ensures.tree ∙ ap (λ (b : Bool). closed b (chain (opening_tree c.args.start) c.body.body.items)) c.requires.kind)

pub quantifier::many-returns-in-Some-clause-places : goal.quantifier::many-returns-in-Some-clause-places
quantifier::many-returns-in-Some-clause-places t c = quant_reads c.args.next.tokens.now c.args.inside.now c.body.rest.now c.in-Some.behind.now c.args.next.token.now.at c.args.start c.body.body.items c.in_ok-tree.tree c.requires.place c.requires.places c.body.invariant.places c.in-Some.ensures c.in_ok-tree.ensures.places

pub quantifier::head-returns-clause-places : goal.quantifier::head-returns-clause-places
quantifier::head-returns-clause-places t c = head_reads c.args.next.tokens.now c.args.next.token.now c.args.next.after.now c.in-Some.behind.now c.in-Some-after_key.path.now c.in-Ok.found.1.now c.in-Some.name.now c.in_ok-name.name c.in-Some.at c.in-Ok.found.0.tree c.requires.tokens c.in-Some.ensures c.in-Some-after_key.ensures c.in-Ok.ensures.places

pub growth::grow-returns-then-left-bounds-clause-read : goal.growth::grow-returns-then-left-bounds-clause-read
growth::grow-returns-then-left-bounds-clause-read t c =
    let g : goes c.args.bounds.least c.args.left.level c.in-Some.token.now.token ≡ true = search rules in
    let p = c.requires.left in
    grow_deeper c.args.bounds.least c.args.bounds.room c.args.tokens.now c.in-Some.token.now c.in-Some.after.now (tree_of c.args.left.tree.node) c.args.left.level c.in-Some.ensures p.level_is g (omega (arith, p.nest_is))

pub growth::grow-returns-then-not-goes-clause-stops : goal.growth::grow-returns-then-not-goes-clause-stops
growth::grow-returns-then-not-goes-clause-stops t c =
    let g : goes c.args.bounds.least c.args.left.level c.in-Some.token.now.token ≡ false = search rules in
    λ e. grow_stops c.args.bounds.least c.args.left.level c.args.tokens.now c.in-Some.token.now c.in-Some.after.now c.in-Some.ensures g

pub growth::grow-returns-in_default-clause-stops : goal.growth::grow-returns-in_default-clause-stops
growth::grow-returns-in_default-clause-stops t c = λ e. grow_ends c.args.bounds.least c.args.left.level c.args.tokens.now c.in_default.ensures
