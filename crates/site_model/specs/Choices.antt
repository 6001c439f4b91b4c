-- Which hosts a service may have, by a label: one of its values, or none of them.
use Rattle.std.specs.Prelude.{ℕ, ◌==◌, if◌then◌else◌, List, [], ◌∷◌, ◌++◌, codes, length}
use Rattle.std.specs.List.{slice_split}
use Rattle.site_names.specs.Words.{word_of}
use Rattle.site_model.specs.Lines.{joined, remark, values_word}
use Rattle.site_model.specs.declared.choosing.Choice.{Choice}

-- of which service and which label it is, how its values are asked for, what stands between two
pub record LabelChoice : Type 0 where
  pub name : List ℕ
  pub column : List ℕ
  pub sign : List ℕ
  pub between : List ℕ

abbrev pub choice_seen : Choice → LabelChoice
choice_seen c = record {
  name = c.name.now;
  column = c.column.now;
  sign = c.sign.now;
  between = c.between.now;
}

abbrev pub within : List ℕ → List ℕ → LabelChoice
within name column = record {
  name = name;
  column = column;
  sign = codes " = ";
  between = codes " or ";
}

abbrev pub without : List ℕ → List ℕ → LabelChoice
without name column = record {
  name = name;
  column = column;
  sign = codes " != ";
  between = codes " and ";
}

abbrev pub one_choice : LabelChoice → List ℕ → List ℕ → List ℕ
one_choice how before v =
    joined (before ∷ word_of how.name ∷ codes ".host." ∷ word_of how.column ∷ how.sign
    ∷ values_word how.column ∷ codes "." ∷ word_of v ∷ [])

abbrev pub choices : LabelChoice → List ℕ → List (List ℕ) → List ℕ
choices how before [] = []
choices how before (v ∷ vs) = one_choice how before v ++ choices how how.between vs

-- the values that are asked for stand between bars; nothing is asked where there are none
abbrev pub choice_fact : LabelChoice → List ℕ → List ℕ
choice_fact how t =
    if length t == 0 then []
    else choices how (codes "where ") (slice_split (λ b. b == 124) t) ++ joined (remark how.name)
