use Rattle.std.proofs.Common.{ℕ, [], ◌∷◌, ◌++◌, arith, ap, ◌∙◌}
use Rattle.signed_clause.specs.SetAlgebra.{less}
use Rattle.signed_clause.specs.Clauses.{Literals, box_of}
use Rattle.rule_law.specs.Reasons.{kept_one}
use Rattle.all_different_pruner.specs.Within.{within, outside}
use Rattle.all_different_pruner.proofs.Taking.{full_size, full_is}
use Rattle.all_different_pruner.proofs.DiffExplained.{IsGround}
use Rattle.all_different_pruner.proofs.explain.explain_full.Goals as goal

pub size_of-requires-clause-few : goal.size_of-requires-clause-few
size_of-requires-clause-few c = let size = full_size c.args.a.value c.args.b.value c.args.x c.args.vars.now c.args.subject.boxes.now c.requires.intruder in grind arith

pub pruning-requires : goal.pruning-requires
pruning-requires c =
    let a = c.args.a.value in let b = c.args.b.value in
    let ground : IsGround c.args.subject.domains.now c.args.subject.boxes.now c.args.vars.now a b = record { boxes_within = c.requires.boxes; domain_sets = c.requires.sets; named = c.requires.named; once = c.requires.once; span = c.span_of-span.ensures.valid } in
    record {
      reason = full_is c.args.subject.con.now c.args.subject.domains.now c.args.subject.boxes.now c.args.vars.now a b c.args.x c.keep_outside.new.literals.items c.collect.new.literals.items c.requires.con ground c.requires.intruder
          (c.in_ok-keep_outside.ensures ∙ ap (λ (z : Literals). z ++ kept_one c.args.x (less (box_of c.args.subject.domains.now c.args.x) ((a, b) ∷ [])) []) c.new-literals.ensures.items)
          (c.in_ok-collect.ensures ∙ ap (λ (n : ℕ). c.keep_outside.new.literals.items ++ outside a b (within n a b c.args.vars.now c.args.subject.boxes.now) c.args.subject.domains.now) c.size_of.ensures);
    }
