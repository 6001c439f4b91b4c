-- A model's tokens are not more than its text's bytes.
use Rattle.std.proofs.Common.{◌≡◌, ℕ, suc, ◌≤◌, List, [], ◌∷◌, length, refl, ap, arith}
use Rattle.model_limits.specs.Limits.{model_bytes}
use Rattle.conf_syntax.specs.declared.token.Placed.{Placed}
use Rattle.conf_syntax.specs.declared.tree.Program.{Program}
use Rattle.conf_syntax.specs.Models.{IsProgramOf}
use Rattle.conf_syntax.specs.Places.{bare}
use Rattle.conf_syntax.specs.Trees.{program_tokens}

bare_length : (ts : List Placed) → length (bare ts) ≡ length ts
bare_length [] = refl
bare_length (t ∷ ts) = ap suc (bare_length ts)

pub few_tokens : (ts : List Placed) (p : Program) (n : ℕ) → IsProgramOf ts p → length ts ≤ n → n ≤ model_bytes → length (program_tokens p) ≤ model_bytes
few_tokens ts p n is few small = omega (arith, few, small, bare_length ts, ap length is.tree.tokens_are)
