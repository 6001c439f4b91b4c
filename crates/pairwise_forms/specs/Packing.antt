-- Items that are packed. What a reader believes after this file: how much counts at an item's
-- place, and when that is more than its room.
use Rattle.std.specs.Prelude.{◌≡◌, ◌<◌, ◌^◌, Bool, true, not, ◌&&◌, cond, List, ℤ, pos, length, map, int_le, slice_index_or}
use Rattle.std.specs.List.{All, list_any}
use Rattle.std.specs.Ordering.{int_eq}
use Rattle.conf_limits.specs.declared.interval.Interval.{Interval}
use Rattle.conf_limits.specs.Measures.{many, is_narrow}
use Rattle.signed_clause.specs.Clauses.{Boxes}
use Rattle.ground_form.specs.declared.ground.Ground.{Ground}
use Rattle.ground_form.specs.Meaning.{value_of}
use Rattle.form_build.specs.Forms.{linear_at, truth_at, HasVariable}
use Rattle.form_build.specs.Sums.{IsLinear, IsSum}
use Rattle.form_build.specs.Worlds.{IsWorld}
use Rattle.conf_eval.specs.declared.value.Value.TheVariants.{Int}
use Rattle.conf_eval.specs.Meaning.{int_of, first_of, total}
use Rattle.quantifier_forms.specs.declared.part.Part.{Part}
use Rattle.quantifier_forms.specs.PartValues.{body_values}
use Rattle.pairwise_forms.specs.declared.members.Packed.{Packed}
use Rattle.pairwise_forms.specs.AlikeParts.{first_form, second_number, third_number}
use Rattle.pairwise_forms.specs.KeyValues.{key, HasKey}

-- the second item counts at the place of the first
abbrev pub counts_at : Packed → Packed → List ℤ → Bool
counts_at e f a = truth_at f.kept a && int_eq (value_of a e.place) (value_of a f.place)

-- what the second item adds there
abbrev pub size_there : Packed → Packed → List ℤ → ℤ
size_there e f a = cond (counts_at e f a) (linear_at f.size a) (pos 0)

-- what all of the items add there
abbrev pub load_there : Packed → List Packed → List ℤ → ℤ
load_there e es a = total (map (λ (f : Packed). size_there e f a) es)

-- the item is kept, and what counts at its place is more than its room
abbrev pub is_overfull : List Packed → Packed → List ℤ → Bool
is_overfull es e a = truth_at e.kept a && not (int_le (load_there e es a) (linear_at e.room a))

-- some item's place is overfull
abbrev pub some_overfull : List Packed → List ℤ → Bool
some_overfull es a = list_any (λ e. is_overfull es e a) es

-- its variables are among those of the boxes, and its numbers are in good order
pub record IsPacked (boxes : Boxes) (e : Packed) : Type 0 where
  pub kept : HasVariable (length boxes) e.kept
  pub exists : e.place < length boxes
  pub size : IsLinear (2 ^ 58) boxes e.size
  pub room : IsLinear (2 ^ 58) boxes e.room

-- what is seen of an item: whether it is kept, its place, its size and its room
pub record Seen : Type 0 where
  pub kept : Bool
  pub place : ℤ
  pub size : ℤ
  pub room : ℤ

abbrev pub seen_item : Packed → List ℤ → Seen
seen_item e a =
    record {
      kept = truth_at e.kept a;
      place = value_of a e.place;
      size = linear_at e.size a;
      room
          = linear_at e.room a;
    }

abbrev pub seen_part : Part → List ℤ → Seen
seen_part p a = record {
  kept = truth_at p.kept a;
  place = key (first_of (body_values p a));
  size = int_of (slice_index_or (body_values p a) 1 (Int (pos 0)));
  room = int_of (slice_index_or (body_values p a) 2 (Int (pos 0)));
}

-- the part's variables exist, its first body can be a place, and its numbers are in good order
pub record HasItemPart (boxes : Boxes) (p : Part) : Type 0 where
  pub kept : HasVariable (length boxes) p.kept
  pub first : HasKey boxes (first_form p.bodies.items)
  pub size : IsLinear (2 ^ 58) boxes (second_number p.bodies.items)
  pub room : IsLinear (2 ^ 58) boxes (third_number p.bodies.items)

-- the items of the parts in every world, in order
pub record AreItems (g : Ground) (ps : List Part) (es : List Packed) : Type 0 where
  pub exist : All (IsPacked g.domains) es
  pub kept : map (λ (e : Packed). e.kept) es ≡ map (λ (p : Part). p.kept) ps
  pub sizes : map (λ (e : Packed). e.size) es ≡ map (λ (p : Part). second_number p.bodies.items) ps
  pub seen : (a : List ℤ) → IsWorld g a → map (λ (e : Packed). seen_item e a) es
      ≡ map (λ (p : Part). seen_part p a) ps

-- the items' sizes lie in one interval, and so many times the interval is narrow
pub record AreNarrow (boxes : Boxes) (es : List Packed) : Type 0 where
  pub second : Interval
  pub sizes : All (λ e. IsSum boxes second.low second.high e.size) es
  pub narrow : is_narrow (many (length es) second) ≡ true
