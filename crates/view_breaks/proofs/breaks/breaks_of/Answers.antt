use Rattle.std.proofs.Common.{rules, ◌≡◌, sym, subst}
use Rattle.std.specs.Prelude.{All}
use Rattle.conf_eval.proofs.LawsStated.{model_evaluable}
use Rattle.conf_eval.specs.Finding.{IsStated}
use Rattle.view_breaks.proofs.BreakLaws.{breaks_there}
use Rattle.view_breaks.specs.Breaks.{breaks, AreThere}
use Rattle.view_breaks.proofs.breaks.breaks_of.Goals as goal

pub push_all-requires-clause-stated : goal.push_all-requires-clause-stated
push_all-requires-clause-stated c =
    let o = c.args.objects.now in
    let vs = c.args.config.now in
    let all = model_evaluable o vs c.args.model.now.constraints c.args.model.now.goals c.requires.typed c.requires.narrow in
    subst (All (IsStated o vs)) (sym c.constraints.ensures.constraints) all.constraints

pub returns-clause-there : goal.returns-clause-there
returns-clause-there c =
    let o = c.args.objects.now in
    let ks = c.args.model.now.constraints in
    let same : c.push_all.new.found.items ≡ breaks o c.args.config.now ks = search rules in
    subst (AreThere o) (sym same) (breaks_there o c.args.config.now ks)
