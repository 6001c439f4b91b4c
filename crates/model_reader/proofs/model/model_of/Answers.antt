use Rattle.std.proofs.Common.{◌≤◌, ◌∙◌, sym, subst, length}
use Rattle.model_reader.proofs.TextLaws.{syntax_without, nesting_without, syntax_with, nesting_with, few_tokens, model_words}
use Rattle.model_reader.proofs.model.model_of.Goals as goal

pub returns-in-Err-clause-syntax : goal.returns-in-Err-clause-syntax
returns-in-Err-clause-syntax c = syntax_without c.args.text.now c.in-Err.e c.in-Err.ensures.only c.in-Err.ensures.bad_byte

pub returns-in-Err-clause-nesting : goal.returns-in-Err-clause-nesting
returns-in-Err-clause-nesting c = nesting_without c.args.text.now c.in-Err.e c.in-Err.ensures.only

pub returns-clause-syntax : goal.returns-clause-syntax
returns-clause-syntax c =
    syntax_with c.args.text.now c.deref.result.now c.tree_of.result (λ tokens spelled. c.deref.ensures.value ∙ c.in-Ok.ensures.only tokens spelled) c.in-Ok.ensures.bad_byte c.tree_of.ensures.syntax

pub returns-clause-literal : goal.returns-clause-literal
returns-clause-literal c = λ at stuck. absurd (c.in-Ok.ensures.too_large at stuck)

pub returns-clause-nesting : goal.returns-clause-nesting
returns-clause-nesting c =
    nesting_with c.args.text.now c.deref.result.now c.tree_of.result (λ tokens spelled. c.deref.ensures.value ∙ c.in-Ok.ensures.only tokens spelled) c.tree_of.ensures.nesting

pub returns-clause-few : goal.returns-clause-few
returns-clause-few c =
    few_tokens c.deref.result.now c.args.text.now c.tree_of.result (subst (λ tokens. length tokens ≤ length c.args.text.now) (sym c.deref.ensures.value) c.in-Ok.ensures.few) c.requires c.tree_of.ensures.tree

pub returns-clause-words : goal.returns-clause-words
returns-clause-words c = model_words c.in-Ok.tokens.items c.deref.result.now c.tree_of.result c.deref.ensures.value c.in-Ok.ensures.words c.tree_of.ensures.tree
