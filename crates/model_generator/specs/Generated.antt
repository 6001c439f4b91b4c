-- The text of a model of any size. What a reader believes after this file: it is these ten lines,
-- three of which have the number n, and each is ended by one line feed.
use Rattle.std.specs.Prelude.{ℕ, List, [], ◌++◌, ◌∷◌, codes, decimal}

abbrev pub ended : List ℕ → List ℕ
ended line = line ++ 10 ∷ []

-- a line with a number in it
abbrev pub sized : List ℕ → ℕ → List ℕ → List ℕ
sized front n back = front ++ (decimal n ++ back)

abbrev pub host_line : List ℕ
host_line = codes
    "class Host { var cap as 8..8; where sum v in Vm where v.host = this { v.size } <= cap; }"

abbrev pub machine_line : List ℕ
machine_line = codes "abstract class Vm { var size as 1..4; var host as ref Host; }"

abbrev pub small_line : List ℕ
small_line = codes "class Small extends Vm { where size = 1; }"

abbrev pub large_line : List ℕ
large_line = codes "class Large extends Vm { where size = 3; }"

abbrev pub site_line : ℕ → List ℕ
site_line n = sized (codes "class Site { var hosts as Host[") n (codes "]; }")

abbrev pub small_machines_line : ℕ → List ℕ
small_machines_line n = sized (codes "var small as Small[") n (codes "];")

abbrev pub large_machines_line : ℕ → List ℕ
large_machines_line n = sized (codes "var large as Large[") n (codes "];")

abbrev pub goal_line : List ℕ
goal_line = codes "maximize count v in Vm { v.host in home.hosts };"

unfoldable pub generated : ℕ → List ℕ
generated n =
    ended host_line
    ++ ended machine_line
    ++ ended small_line
    ++ ended large_line
    ++ ended (site_line n)
    ++ ended (codes "var home as Site;")
    ++ ended (codes "var away as Site;")
    ++ ended (small_machines_line n)
    ++ ended (large_machines_line n)
    ++ ended goal_line
