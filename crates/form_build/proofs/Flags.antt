-- Flags that are defined, whoever made them.
use Rattle.std.proofs.Common.{◌≡◌, ℕ, zero, suc, Bool, false, List, [], ◌∷◌, ◌++◌, ℤ, pos, All, sym, ◌∙◌, subst, arith}
use Rattle.std.specs.Ordering.{int_eq}
use Rattle.std.proofs.lemmas.Bool.Decides.{Decides-int_eq}
use Rattle.std.proofs.lemmas.List.Elements.{All-contains}
use Rattle.signed_clause.specs.Ranges.{Ranges, is_nil}
use Rattle.signed_clause.specs.Clauses.{Boxes, box_of}
use Rattle.ground_form.specs.declared.con.Con.{Con}
use Rattle.ground_form.specs.declared.ground.Ground.{Ground}
use Rattle.ground_form.specs.Meaning.{value_of, bit, con_true}
use Rattle.ground_form.specs.Bounds.{LiesWithin}
use Rattle.ground_form.specs.WellMade.{flags_of, IsWellMadeCon, IsWellMade}
use Rattle.ground_build.specs.Growing.{IsDefined}
use Rattle.form_build.specs.Worlds.{Grows, HasDefinition, IsFlagOf, AreSome}
use Rattle.form_build.proofs.Growth.{no_less, box_kept, world_before, definition_holds}

-- a definition that stands is well made
pub well_made_there : (g : Ground) (x : ℕ) (con : Con) → IsWellMade g → HasDefinition g x con → IsWellMadeCon g.domains con
well_made_there g x con made h = All-contains (λ c. IsWellMadeCon g.domains c) g.cons con made.constraints h.has

first_flag : (ds : Boxes) (f : ℕ) (fs gs : List ℕ) → gs ≡ f ∷ fs → All (λ x. LiesWithin (pos 0) (pos 1) (box_of ds x)) gs → LiesWithin (pos 0) (pos 1) (box_of ds f)
first_flag ds f fs gs e h = subst (λ (z : List ℕ). All (λ x. LiesWithin (pos 0) (pos 1) (box_of ds x)) z) e h 0 f (omega arith)

-- the flag that a definition is
pub flag_there : (g : Ground) (f : ℕ) (con : Con) (rest : List ℕ) (says : List ℤ → Bool) → flags_of con ≡ f ∷ rest → ((a : List ℤ) → con_true con a ≡ int_eq (value_of a f) (bit (says a))) → IsWellMade g → HasDefinition g f con → IsFlagOf g f says
flag_there g f con rest says e means made h = record {
  exists = h.exists;
  flag = first_flag g.domains f rest (flags_of con) e (well_made_there g f con made h).flags;
  value = λ a w. (Decides-int_eq (value_of a f) (bit (says a))).0 (sym (means a) ∙ definition_holds g f con a h w);
}

-- a flag stays one
pub flag_kept : (old new : Ground) (f : ℕ) (says : List ℤ → Bool) → Grows old new → IsFlagOf old f says → IsFlagOf new f says
flag_kept old new f says g h = record {
  exists = let more = no_less old new g in omega (arith, more, h.exists);
  flag = subst (λ (z : Ranges). LiesWithin (pos 0) (pos 1) z) (sym (box_kept old new f g h.exists)) h.flag;
  value = λ a w. h.value a (world_before old new a g w);
}

-- ---- no box is empty

some_last : (ds : Boxes) (d : Ranges) → AreSome ds → is_nil d ≡ false → AreSome (ds ++ d ∷ [])
some_last [] d h e zero b lt = e
some_last [] d h e (suc k) b lt = absurd (omega (arith, lt))
some_last (c ∷ ds) d h e zero b lt = h 0 b (omega arith)
some_last (c ∷ ds) d h e (suc k) b lt = some_last ds d (λ j f l. h (suc j) f (omega (arith, l))) e k b (omega (arith, lt))

pub defined_some : (old new : Ground) (x : ℕ) (domain : Ranges) (con : Con) → is_nil domain ≡ false → IsDefined old new x domain con → AreSome old.domains → AreSome new.domains
defined_some old new x domain con e d h = subst (λ (g : Ground). AreSome g.domains) (sym d.grown) (some_last old.domains domain h e)
