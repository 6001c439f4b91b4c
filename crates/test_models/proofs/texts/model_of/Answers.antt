use Rattle.std.proofs.Common.{length, subst, arith}
use Rattle.conf_syntax.specs.Models.{IsProgramOf}
use Rattle.conf_syntax.specs.Words.{AreWords}
use Rattle.test_models.proofs.TextLaws.{few_tokens}
use Rattle.test_models.proofs.texts.model_of.Goals as goal

pub returns-in-Ok-parse : goal.returns-in-Ok-parse
returns-in-Ok-parse c =
    let is = subst (λ ts. IsProgramOf ts c.in-Ok-parse.program) c.deref.ensures.value c.in-Ok-parse.ensures.ok in
    record {
      tokens = few_tokens c.in-Ok.tokens.items c.in-Ok-parse.program (length c.args.text.now) is c.in-Ok.ensures.few (omega (arith, c.if-text-gt1000000.false));
      nesting = is.tree.nested;
      words = subst AreWords is.tree.tokens_are c.in-Ok.ensures.words;
    }
