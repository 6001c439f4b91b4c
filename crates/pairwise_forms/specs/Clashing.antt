-- Members that have one value. What a reader believes after this file: when two members clash, and
-- what is kept of a part to find that out.
use Rattle.std.specs.Prelude.{◌≡◌, ℕ, ◌<◌, Bool, false, ◌&&◌, ◌||◌, List, [], ◌∷◌, ℤ, length, map}
use Rattle.std.specs.List.{All, list_any}
use Rattle.std.specs.Ordering.{int_eq}
use Rattle.signed_clause.specs.Clauses.{Boxes}
use Rattle.ground_form.specs.declared.ground.Ground.{Ground}
use Rattle.ground_form.specs.Meaning.{value_of}
use Rattle.form_build.specs.Forms.{truth_at, HasVariable}
use Rattle.form_build.specs.Worlds.{IsWorld}
use Rattle.conf_eval.specs.Meaning.{first_of}
use Rattle.quantifier_forms.specs.declared.part.Part.{Part}
use Rattle.quantifier_forms.specs.PartValues.{body_values}
use Rattle.pairwise_forms.specs.declared.members.Keyed.{Keyed}
use Rattle.pairwise_forms.specs.AlikeParts.{first_form}
use Rattle.pairwise_forms.specs.KeyValues.{key, HasKey}

-- both are kept, and have one value
abbrev pub clash_at : Keyed → Keyed → List ℤ → Bool
clash_at e f a =
    (truth_at e.kept a && truth_at f.kept a) && int_eq (value_of a e.key) (value_of a f.key)

-- some two of them do
abbrev pub some_clash : List Keyed → List ℤ → Bool
some_clash [] a = false
some_clash (e ∷ es) a = list_any (λ f. clash_at e f a) es || some_clash es a

-- its variables are among the first n
pub record IsKeyed (n : ℕ) (e : Keyed) : Type 0 where
  pub kept : HasVariable n e.kept
  pub exists : e.key < n

-- whether a member is kept, and the number that stands for its value
abbrev pub kept_key : Keyed → List ℤ → Bool × ℤ
kept_key e a = (truth_at e.kept a, value_of a e.key)

abbrev pub part_key : Part → List ℤ → Bool × ℤ
part_key p a = (truth_at p.kept a, key (first_of (body_values p a)))

-- the part's variables exist, and a variable can stand for its first body
pub record HasKeyPart (boxes : Boxes) (p : Part) : Type 0 where
  pub kept : HasVariable (length boxes) p.kept
  pub first : HasKey boxes (first_form p.bodies.items)

-- the members of the parts in every world, in order
pub record AreKeyed (g : Ground) (ps : List Part) (es : List Keyed) : Type 0 where
  pub exist : All (IsKeyed (length g.domains)) es
  pub kept : map (λ (e : Keyed). e.kept) es ≡ map (λ (p : Part). p.kept) ps
  pub seen : (a : List ℤ) → IsWorld g a → map (λ (e : Keyed). kept_key e a) es
      ≡ map (λ (p : Part). part_key p a) ps
