-- Which constraints give a goal rows.
use Rattle.std.specs.Prelude.{Bool, true, false}
use Rattle.ground_form.specs.declared.con.Con.{Con}
use Rattle.ground_form.specs.declared.con.Con.TheVariants.{LinLe, Pack}

-- a row or a packing
abbrev pub gives_rows : Con → Bool
gives_rows (LinLe terms bound) = true
gives_rows (Pack items) = true
gives_rows other = false
