use Rattle.std.proofs.Common.{ℕ, ◌<◌, Bool, List, [], length, take, sym, subst}
use Rattle.signed_clause.specs.Clauses.{Literal, Literals}
use Rattle.form_build.proofs.Growth.{adds_nothing, defines_more, few_none, few_more}
use Rattle.form_truths.specs.Parts.{ArePartsOf}
use Rattle.form_truths.proofs.PartLaws.{no_parts, take_more, exist_kept}
use Rattle.form_truths.proofs.flags.parts_of.Goals as goal

pub loop-l-init : goal.loop-l-init
loop-l-init c = record {
  parts = subst (λ (z : List (ℕ × Bool)). ArePartsOf c.args.m.now z []) (sym c.new-parts.ensures.items) (no_parts c.args.m.now);
  adds = adds_nothing [] c.args.m.now;
  few = few_none 0 c.args.m.now;
  exist = c.requires.exist;
}

pub push_part-requires-clause-exists : goal.push_part-requires-clause-exists
push_part-requires-clause-exists c = subst (λ (l : Literal). l.0 < length c.loop-l.m.domains) (sym c.l-item.is) (c.loop-l.invariant.exist c.loop-l.l-index c.l-item.result c.loop-l-test.true)

pub loop-l-preserved : goal.loop-l-preserved
loop-l-preserved c =
    let there = c.loop-l.invariant in
    let more = c.in_ok-push_part.ensures in
    record {
      parts = subst (λ (z : Literals). ArePartsOf c.push_part.new.m c.push_part.new.parts.items z) (take_more c.loop-l.l-index c.args.literals.now c.l-item.result c.loop-l-test.true c.l-item.is) (more.parts (take c.loop-l.l-index c.args.literals.now) there.parts);
      adds = defines_more c.args.m.now c.loop-l.m c.push_part.new.m there.adds more.adds;
      few = few_more c.loop-l.l-index 1 c.args.m.now c.loop-l.m c.push_part.new.m there.few more.few;
      exist = exist_kept c.loop-l.m c.push_part.new.m c.args.literals.now more.adds.grows there.exist;
    }
