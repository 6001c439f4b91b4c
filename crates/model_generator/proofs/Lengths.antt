-- How long the text of a generated model is.
use Rattle.std.proofs.Common.{◌≡◌, ◌+◌, ◌*◌, ◌≤◌, ◌++◌, ℕ, List, length, decimal, codes}
use Rattle.std.proofs.Common.{arith, length-append}
use Rattle.std.proofs.lemmas.Fmt.{length-decimal-le}
use Rattle.model_limits.specs.Limits.{model_bytes}
use Rattle.model_generator.specs.Generated.{generated, ended, sized, goal_line}
use Rattle.model_generator.specs.Generated.{host_line, machine_line, small_line, large_line}

-- ten lines, three of them with the number n
ten_lines : (a b c d e e' f g h h' i i' j : List ℕ) (n : ℕ) →
    length (ended a ++ ended b ++ ended c ++ ended d ++ ended (sized e n e') ++ ended f ++ ended g
    ++ ended (sized h n h') ++ ended (sized i n i') ++ ended j)
    ≡ (length a + length b + length c + length d + length e + length e' + length f + length g
    + length h + length h' + length i + length i' + length j + 10) + 3 * length (decimal n)
ten_lines a b c d e e' f g h h' i i' j n = simp length-append (omega arith)

pub generated_length : (n : ℕ) → length (generated n) ≡ 402 + 3 * length (decimal n)
unfolding generated
generated_length n =
    ten_lines host_line machine_line small_line large_line
    (codes "class Site { var hosts as Host[") (codes "]; }")
    (codes "var home as Site;") (codes "var away as Site;")
    (codes "var small as Small[") (codes "];")
    (codes "var large as Large[") (codes "];")
    goal_line n

pub generated_short : (n : ℕ) → n ≤ 100 → length (generated n) ≤ model_bytes
generated_short n few =
    let digits : length (decimal n) ≤ 3 =
    length-decimal-le 3 n (omega arith) (omega arith) (omega arith) in
    omega (arith, generated_length n)

pub ruleset length_laws = (generated_length, generated_short)
