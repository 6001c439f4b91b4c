use Rattle.std.proofs.Common.{◌∙◌, sym, subst, arith}
use Rattle.signed_clause.specs.Clauses.{IsClause}
use Rattle.form_truths.proofs.Inserting.{inserted_at, joined_at, with_literal_form}
use Rattle.form_truths.proofs.disjunction.add.Goals as goal

pub returns-in_ok-joined-clause-added : goal.returns-in_ok-joined-clause-added
returns-in_ok-joined-clause-added c =
    joined_at c.args.x c.place_of-i.result c.args.set c.in_ok-joined.joined c.args.literals.now.items c.deref-2.result.now c.index.result.now c.deref-2.ensures.value c.requires.form
    (c.stands_at.ensures.there c.if-stands_at.true) (λ e. c.stands_at.ensures.yes e c.if-stands_at.true) c.index.ensures c.in_ok-joined.ensures.list

pub returns-in_ok-joined-clause-form : goal.returns-in_ok-joined-clause-form
returns-in_ok-joined-clause-form c = subst IsClause (sym (returns-in_ok-joined-clause-added c)) (with_literal_form c.args.x 0 c.args.set c.args.literals.now.items (omega arith) c.requires.some c.ranges-2.ensures.valid c.requires.form)

pub returns-in_ok-insert-clause-added : goal.returns-in_ok-insert-clause-added
returns-in_ok-insert-clause-added c =
    c.in_ok-insert.ensures.items
    ∙ inserted_at c.args.x c.place_of-i.result c.args.set c.args.literals.now.items c.deref.result.now c.deref-2.result.now c.deref.ensures.value c.deref-2.ensures.value c.requires.form
    c.place_of-i.ensures.within c.place_of-i.ensures.above (λ d lt. c.stands_at.ensures.no_more d c.if-stands_at.false lt) c.place_of-i.ensures.below

pub returns-in_ok-insert-clause-form : goal.returns-in_ok-insert-clause-form
returns-in_ok-insert-clause-form c = subst IsClause (sym (returns-in_ok-insert-clause-added c)) (with_literal_form c.args.x 0 c.args.set c.args.literals.now.items (omega arith) c.requires.some c.ranges-2.ensures.valid c.requires.form)
