-- From the error of a text to the status that refuses it.
use Rattle.std.proofs.Common.{inl, inr, List, Some, ap, refl, ℕ}
use Rattle.conf_syntax.specs.Spelling.{IsStuckAtNumber}
use Rattle.run_status.specs.declared.status.LimitKind.TheVariants as kind
use Rattle.run_status.specs.declared.status.Status.{Status}
use Rattle.run_status.specs.declared.status.Status.TheVariants as status
use Rattle.model_reader.specs.ModelRefusal.{IsSyntaxAt, IsNestingAt, IsTextRefused}
use Rattle.model_reader.specs.Refusing.{refusal_of}
use Rattle.run_status.specs.Stages.{Denied, IsUnless}
use Rattle.model_reader.specs.TextErrors.{IsTextError, IsSameOrMemory}
use Rattle.model_reader.specs.declared.model.TextError.{TextError}
use Rattle.model_reader.specs.declared.model.TextError.TheVariants as error

-- a text that has a model is no other text
pub no_refusal : (text : List ℕ) → ((place : ℕ) → IsSyntaxAt text place → ⊥) → ((place : ℕ) → IsStuckAtNumber text place → ⊥) → ((place : ℕ) → IsNestingAt text place → ⊥) → (s : Status) → IsTextRefused text s → ⊥
no_refusal text syntax literal nesting (status.Syntax place) h = syntax place h
no_refusal text syntax literal nesting (status.Limit kind.Literal (Some place)) h = literal place h
no_refusal text syntax literal nesting (status.Limit kind.Nesting (Some place)) h = nesting place h
no_refusal text syntax literal nesting s h = h

unless : (wanted e : TextError) → IsSameOrMemory wanted e → IsUnless (refusal_of wanted) (refusal_of e)
unless wanted error.Memory h = inr (inl refl)
unless wanted (error.Syntax k) h = inl (ap refusal_of h)
unless wanted (error.Literal k) h = inl (ap refusal_of h)
unless wanted (error.Nesting k) h = inl (ap refusal_of h)

-- a refusal that stands in it is the one that comes
pub refused_as : (text : List ℕ) (e : TextError) → ((place : ℕ) → IsSyntaxAt text place → IsSameOrMemory (error.Syntax place) e) → ((place : ℕ) → IsStuckAtNumber text place → IsSameOrMemory (error.Literal place) e) → ((place : ℕ) → IsNestingAt text place → IsSameOrMemory (error.Nesting place) e) → (s : Status) → IsTextRefused text s → IsUnless s (refusal_of e)
refused_as text e syntax literal nesting (status.Syntax place) h = unless (error.Syntax place) e (syntax place h)
refused_as text e syntax literal nesting (status.Limit kind.Literal (Some place)) h = unless (error.Literal place) e (literal place h)
refused_as text e syntax literal nesting (status.Limit kind.Nesting (Some place)) h = unless (error.Nesting place) e (nesting place h)
refused_as text e syntax literal nesting s h = absurd h

-- there was no memory, or the text is refused so
pub text_denied : (text : List ℕ) (e : TextError) → IsTextError text e → Denied (refusal_of e) (IsTextRefused text (refusal_of e))
text_denied text (error.Syntax place) h = inr (refl, h)
text_denied text (error.Literal place) h = inr (refl, h)
text_denied text (error.Nesting place) h = inr (refl, h)
text_denied text error.Memory h = inl refl
