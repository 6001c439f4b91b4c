use Rattle.std.proofs.Common.{ℕ, List, subst, sym, ◌∙◌}
use Rattle.ground_form.specs.Meaning.{vars_of}
use Rattle.rule_law.specs.Repeats.{AreRepeated}
use Rattle.rule_law.proofs.Repeated.{kept_repeated, open_differ, all_differ}
use Rattle.rule_law.proofs.repeats.Repeats.open_have_no_repeat.Goals as goal

pub returns-then-do_ascend : goal.returns-then-do_ascend
returns-then-do_ascend c = sym (all_differ (vars_of c.args.con.now) c.args.boxes.now (c.do_ascend.ensures c.if-do_ascend.true))

pub returns : goal.returns
returns c =
    c.are_all_one.ensures
    ∙ open_differ c.repeated.result.now (vars_of c.args.con.now) c.args.boxes.now
    (kept_repeated c.find.new.self.known.items c.in_ok-i.i c.index.result.now (vars_of c.args.con.now) c.repeated.result.now c.in_ok-i.ensures (subst (λ (k : List ℕ × List ℕ). AreRepeated c.repeated.result.now k.0) c.index.ensures c.repeated.ensures))
