use Rattle.std.proofs.Common.{[], List, sym, subst}
use Rattle.form_build.proofs.Growth.{adds_nothing, defines_more}
use Rattle.pairwise_forms.specs.declared.members.Keyed.{Keyed}
use Rattle.pairwise_forms.specs.Clashing.{AreKeyed}
use Rattle.pairwise_forms.proofs.KeptParts.{key_parts_kept, no_members, members_more, members_all}
use Rattle.pairwise_forms.proofs.clashes.keyed.Goals as goal

pub loop-p-init : goal.loop-p-init
loop-p-init c = record {
  keyed = subst (λ (es : List Keyed). AreKeyed c.args.maker.now [] es) (sym c.new-members.ensures.items) (no_members c.args.maker.now);
  parts = c.requires.parts;
  adds = adds_nothing [] c.args.maker.now;
}

pub loop-p-preserved : goal.loop-p-preserved
loop-p-preserved c =
    let there = c.loop-p.invariant in
    let more = c.in_ok-member.ensures in
    record {
      keyed =
          members_more c.loop-p.maker c.keyed_part.new.maker c.args.parts.now c.loop-p.p-index c.p-item.result c.loop-p.members.items c.push.new.self.items c.in_ok-member.member
          more.adds.grows c.loop-p-test.true c.p-item.is c.in_ok-push.ensures.items more.keyed there.keyed;
      parts = key_parts_kept c.loop-p.maker c.keyed_part.new.maker c.args.parts.now more.adds.grows there.parts;
      adds = defines_more c.args.maker.now c.loop-p.maker c.keyed_part.new.maker there.adds more.adds;
    }

pub returns-clause-keyed : goal.returns-clause-keyed
returns-clause-keyed c = members_all c.loop-p.maker c.args.parts.now c.loop-p.p-index c.loop-p.members.items c.loop-p-test.false c.loop-p.invariant.keyed
