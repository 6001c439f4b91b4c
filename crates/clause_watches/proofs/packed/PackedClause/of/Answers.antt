use Rattle.std.proofs.Common.{◌+◌, ◌<◌, ℕ, ℤ, List, length, sym, subst}
use Rattle.clause_watches.specs.declared.packed.PackedLiteral.{PackedLiteral}
use Rattle.clause_watches.proofs.PackLaws.{IsPackedTo, packed_one}
use Rattle.clause_watches.proofs.packed.PackedClause.of.Goals as goal

pub loop-l-preserved : goal.loop-l-preserved
loop-l-preserved c =
    subst (λ (ps : List PackedLiteral). IsPackedTo c.args.leasts.now c.args.lits.now ps
    (c.loop-l.l-index + 1)) (sym c.in_ok-push.ensures.items)
    (packed_one c.args.leasts.now c.args.lits.now c.loop-l.literals.items c.loop-l.l-index
    c.l-item.result c.l-item.result c.pack_literal.result c.loop-l-test.true c.l-item.is
    c.pack_literal.ensures c.loop-l.invariant)

pub pack_literal-requires : goal.pack_literal-requires
pack_literal-requires c =
    subst (λ (q : ℕ × List (ℤ × ℤ)). q.0 < length c.args.leasts.now) (sym c.l-item.is)
    (c.requires c.loop-l.l-index c.l-item.result c.loop-l-test.true)
