use Rattle.std.proofs.Common.{ℕ, Bool, List, [], ◌∷◌, ◌++◌, sym, subst}
use Rattle.form_truths.specs.Parts.{ArePartsOf}
use Rattle.form_truths.proofs.PartLaws.{parts_kept, parts_more}
use Rattle.form_truths.proofs.flags.push_part.Goals as goal

pub returns-clause-parts : goal.returns-clause-parts
returns-clause-parts c ls h =
    let kept = parts_kept c.args.m.now c.part_of.new.m c.args.parts.now.items ls c.in_ok-flag.ensures.adds.grows h in
    subst (λ (z : List (ℕ × Bool)). ArePartsOf c.part_of.new.m z (ls ++ c.args.l.now ∷ [])) (sym c.in_ok-push.ensures.items)
    (parts_more c.part_of.new.m c.args.parts.now.items ls (c.in_ok-flag.flag, c.in_ok-flag.want) c.args.l.now c.domains-domains.ensures.well_made.domains kept c.in_ok-flag.ensures.part)
