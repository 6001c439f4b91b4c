-- What follows from the value of a variable. What a reader believes after this file: which values
-- variables have then, and which they don't have.
use Rattle.std.specs.Prelude.{◌≡◌, ℕ, ◌<◌, Bool, true, false, List, ℤ, pos, ◌<ℤ◌, ◌≤ℤ◌, length}
use Rattle.std.specs.List.{All}
use Rattle.std.specs.Ordering.{int_eq}
use Rattle.signed_clause.specs.Clauses.{Boxes, box_of}
use Rattle.ground_form.specs.declared.ground.Ground.{Ground}
use Rattle.ground_form.specs.Meaning.{value_of}
use Rattle.ground_form.specs.Bounds.{low_of}
use Rattle.form_build.specs.Worlds.{IsWorld, AllHold, AreKnown}
use Rattle.stated_facts.specs.declared.claims.Claims.{Claims}

-- the term's variable is never below 0, and its factor has this sign
pub record IsLoad (boxes : Boxes) (rises : Bool) (t : ℤ × ℕ) : Type 0 where
  pub exists : t.1 < length boxes
  pub some : pos 0 ≤ℤ low_of (box_of boxes t.1)
  pub up : rises ≡ true → pos 0 <ℤ t.0
  pub down : rises ≡ false → t.0 <ℤ pos 0

-- each term's variable is 0
abbrev pub AreZero : List (ℤ × ℕ) → List ℤ → Type 0
AreZero ts a = All (λ t. value_of a t.1 ≡ pos 0) ts

-- the variables have the values that they are said to have, and don't have those that they are said
-- not to have
pub record Hold (c : Claims) (a : List ℤ) : Type 0 where
  pub values : AreKnown c.values.items a
  pub others : All (λ q. int_eq (value_of a q.0) (pos q.1) ≡ false) c.others.items

-- where the variable has the value, what was claimed leads to what is claimed
abbrev pub Leads : Ground → ℕ × ℤ → Claims → Claims → Type 0
Leads g k old new =
    (a : List ℤ) → IsWorld g a → AllHold g a → value_of a k.0 ≡ k.1 → Hold old a → Hold new a
