use Rattle.std.proofs.Common.{◌∷◌, map, decimal, codes, arith}
use Rattle.std.proofs.lemmas.Grind.{common_steps}
use Rattle.proof_log.specs.Spelling.{literal_text, step_text}
use Rattle.proof_log.proofs.Separated.{behind-append}
use Rattle.proof_log.proofs.writing.push_line.Goals as goal

pub returns-in_ok-extend_from_slice-in-Chain-2 : goal.returns-in_ok-extend_from_slice-in-Chain-2
returns-in_ok-extend_from_slice-in-Chain-2 c =
    let chain = c.in-Chain.chain in
    let clause = c.in-Chain.clause in
    let e = behind-append 32 (decimal chain.first ∷ map step_text chain.steps) (codes "=" ∷ map literal_text clause) in
    grind (arith, common_steps, e)
