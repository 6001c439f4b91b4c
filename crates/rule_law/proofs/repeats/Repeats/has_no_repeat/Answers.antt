use Rattle.std.proofs.Common.{ℕ, List, subst, arith}
use Rattle.ground_form.specs.Meaning.{vars_of}
use Rattle.rule_law.specs.Repeats.{AreRepeated}
use Rattle.rule_law.proofs.Repeated.{kept_repeated, none_listed}
use Rattle.rule_law.proofs.repeats.Repeats.has_no_repeat.Goals as goal

pub returns : goal.returns
returns c =
    let repeated =
    kept_repeated c.find.new.self.known.items c.in_ok-i.i c.index.result.now (vars_of c.args.con.now) c.repeated.result.now c.in_ok-i.ensures
    (subst (λ (k : List ℕ × List ℕ). AreRepeated c.repeated.result.now k.0) c.index.ensures c.repeated.ensures) in
    let empty = c.is_empty.ensures in
    none_listed c.repeated.result.now (vars_of c.args.con.now) _ repeated (λ t. grind arith) (λ n. grind arith)
