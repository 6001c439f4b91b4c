use Rattle.ground_form.specs.Meaning.{vars_of}
use Rattle.rule_law.proofs.Repeated.{never_repeated, both_once}
use Rattle.rule_law.proofs.repeats.Repeats.occur_once.Goals as goal

pub returns-then-do_ascend-clause-first : goal.returns-then-do_ascend-clause-first
returns-then-do_ascend-clause-first c h = never_repeated c.args.x (vars_of c.args.con.now) (c.do_ascend.ensures c.if-do_ascend.true)

pub returns-then-do_ascend-clause-second : goal.returns-then-do_ascend-clause-second
returns-then-do_ascend-clause-second c h = never_repeated c.args.y (vars_of c.args.con.now) (c.do_ascend.ensures c.if-do_ascend.true)

pub returns-then-do_ascend-clause-exact : goal.returns-then-do_ascend-clause-exact
returns-then-do_ascend-clause-exact c = both_once c.args.x c.args.y (vars_of c.args.con.now) (c.do_ascend.ensures c.if-do_ascend.true)
