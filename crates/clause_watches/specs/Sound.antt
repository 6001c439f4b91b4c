-- What watches keep. What a reader believes after this file: every clause is a clause over the
-- variables, every variable that a rest names has the clause in its row, the variable that holds a
-- clause has it in its list, and what a watch says of its clause is true.
use Rattle.std.specs.Prelude.{◌≡◌, ℕ, ◌<◌, Bool, true, false, cond, ◌==◌, List, [], ℤ, pos, length, map, slice_index_or}
use Rattle.std.specs.List.{All, list_any}
use Rattle.signed_clause.specs.Ranges.{IsValid}
use Rattle.signed_clause.specs.Clauses.{Boxes, Literals, set_of, IsClause}
use Rattle.clause_watches.specs.declared.rest.Rest.{Rest}
use Rattle.clause_watches.specs.declared.watch.Watch.{Watch}
use Rattle.clause_watches.specs.declared.packed.PackedLiteral.{PackedLiteral}
use Rattle.clause_watches.specs.declared.table.Table.{Table}
use Rattle.clause_watches.specs.Watching.{Watching, clause_of, rest_of, holds, IsKnown}
use Rattle.clause_watches.specs.Marks.{is_marked}
use Rattle.clause_watches.specs.Rows.{names, differ, seen, has_watch, AreBelow, AreRight, IsMaskOf, IsWholeMaskOf}

-- the row of a variable
abbrev pub row_of : List (List Watch) → ℕ → List Watch
row_of rows x = slice_index_or rows x []

-- the clauses that came to rest by its literal alone
abbrev pub held_of : List (List ℕ) → ℕ → List ℕ
held_of held x = slice_index_or held x []

-- the number stands in the list
abbrev pub stands : ℕ → List ℕ → Bool
stands i list = list_any (λ j. j == i) list

-- the least value of its domain
abbrev pub least_at : List ℤ → ℕ → ℤ
least_at leasts x = slice_index_or leasts x (pos 0)

-- for each clause its set for the variable
abbrev pub sets_at : List (ℕ × Literals) → ℕ → ℕ → List (ℤ × ℤ)
sets_at added x i = set_of (clause_of added i) x

-- the clauses are clauses over n variables
pub record AreClauses (n : ℕ) (added : List (ℕ × Literals)) : Type 0 where
  pub forms : All (λ a. IsClause a.1) added
  pub within : All (λ a. All (λ l. l.0 < n) a.1) added

-- rests, rows and lists fit together
pub record AreLinked (added : List (ℕ × Literals)) (rests : List Rest) (rows : List (List Watch))
    (leasts : List ℤ) (held : List (List ℕ)) : Type 0 where
  pub size : length rests ≡ length added
  pub apart : (i : ℕ) → differ (rest_of rests i) ≡ true
  pub linked : (i x : ℕ) → names (rest_of rests i) x ≡ true → has_watch i (row_of rows x) ≡ true
  pub below : (x : ℕ) → AreBelow (length rests) (row_of rows x)
  pub right : (x : ℕ) → AreRight (least_at leasts x) (sets_at added x) (row_of rows x)
  pub held_listed : (i x : ℕ) → holds (rest_of rests i) x ≡ true →
      stands i (held_of held x) ≡ true

-- the packed literal is the literal: its variable, and of the 64 values from the least one of the
-- domain on exactly those of the set
pub record IsCopy (leasts : List ℤ) (l : ℕ × List (ℤ × ℤ)) (p : PackedLiteral) : Type 0 where
  pub variable : p.variable ≡ l.0
  pub valid : IsValid l.1
  pub bits : IsMaskOf (least_at leasts l.0) l.1 p.bits
  pub whole : IsWholeMaskOf (least_at leasts l.0) l.1 p.bits

-- the packed literals are those of the clause, one by one
pub record IsPacked (leasts : List ℤ) (c : Literals) (ps : List PackedLiteral) : Type 0 where
  pub size : length ps ≡ length c
  pub each : (k : ℕ) → k < length c → (d : ℕ × List (ℤ × ℤ)) (e : PackedLiteral) →
      IsCopy leasts (slice_index_or c k d) (slice_index_or ps k e)

-- the packed literals of clause i
abbrev pub packed_of : List (List PackedLiteral) → ℕ → List PackedLiteral
packed_of packed i = slice_index_or packed i []

-- each clause has its packed literals
pub record ArePacked (leasts : List ℤ) (added : List (ℕ × Literals))
    (packed : List (List PackedLiteral)) : Type 0 where
  pub size : length packed ≡ length added
  pub each : (i : ℕ) → i < length added →
      IsPacked leasts (clause_of added i) (packed_of packed i)

-- all of it
pub record IsSound (t : Table) : Type 0 where
  pub leasts_size : length t.leasts.items ≡ length t.rows.items
  pub held_size : length t.held.items ≡ length t.rows.items
  pub changed_size : length t.changed ≡ length t.rows.items
  pub clauses : AreClauses (length t.rows.items) t.added.items
  pub packed : ArePacked t.leasts.items t.added.items t.packed.items
  pub fit : AreLinked t.added.items t.rests t.rows.items t.leasts.items t.held.items

-- what is known of each clause is true in the boxes, where those of the marked variables may have
-- become narrower
abbrev pub AreKnown : Boxes → List (ℕ × Literals) → List Rest → List Bool → Type 0
AreKnown boxes added rests changed =
    (i : ℕ) → IsKnown boxes (clause_of added i) (seen changed (rest_of rests i))

-- x isn't marked any longer, the others are as before
abbrev pub IsUnmarked : ℕ → List Bool → List Bool → Type 0
IsUnmarked x before after = (y : ℕ) → is_marked after y ≡ cond (x == y) false (is_marked before y)

-- what contracts see of it
abbrev pub watching_of : Table → Watching
watching_of t = record {
  variables = length t.rows.items;
  added = t.added.items;
  rests = map (seen t.changed) t.rests;
}
