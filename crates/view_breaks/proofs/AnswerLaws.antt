-- An object that gives each leaf a value is a configuration.
use Rattle.std.proofs.Common.{inl, inr, ◌≡◌, ◌∙◌, List, [], ◌∷◌, Option, Some, true, is_some, map, sym, ap, subst, refl, ℕ, ℤ}
use Rattle.std.specs.Prelude.{length, slice_index_or}
use Rattle.std.specs.List.{list_all}
use Rattle.class_table.specs.Outline.{Outline}
use Rattle.config_json.specs.Whole.{IsWhole}
use Rattle.conf_eval.specs.Meaning.{attribute_value, objects_of}
use Rattle.conf_eval.specs.Satisfying.{IsFull}
use Rattle.object_alloc.specs.Configurations.{IsConfiguration}
use Rattle.object_alloc.specs.declared.object.Leaf.{Leaf}
use Rattle.object_alloc.specs.Members.{HasItsSize}
use Rattle.object_alloc.specs.Walk.{walk, leaves_in}
use Rattle.conf_syntax.specs.declared.tree.Program.{Program}
use Rattle.conf_types.specs.Programs.{ResolvedConstraint, ResolvedGoal}
use Rattle.model_reader.specs.Building.{IsResolved}
use Rattle.model_reader.specs.ModelRefusal.{IsRefusedFor, IsTextRefused}
use Rattle.model_reader.specs.Models.{IsWithin, outline_of}
use Rattle.model_reader.specs.TextModel.{IsModelOf}
use Rattle.run_status.specs.Stages.{Denied}
use Rattle.run_status.specs.declared.status.Status.{Status}
use Rattle.view_breaks.specs.Answer.{HasFullSets, IsConfigOf, IsUnread, IsTold, IsToldFor, IsAnswer, IsDeniedFor, IsDenied}
use Rattle.view_breaks.specs.Breaks.{breaks}
use Rattle.view_breaks.specs.declared.breaks.Break.{Break}
use Rattle.view_breaks.specs.Text.{breaks_text}

given : (ts : List ℤ) → list_all is_some (map Some ts) ≡ true
given [] = refl
given (t ∷ ts) = given ts

same_values : (ts us : List ℤ) → map Some ts ≡ map Some us → ts ≡ us
same_values [] [] e = refl
same_values [] (u ∷ us) e = absurd cc
same_values (t ∷ ts) [] e = absurd cc
same_values (t ∷ ts) (u ∷ us) e =
    let first : t ≡ u = cc in
    let rest : map Some ts ≡ map Some us = cc in
    let more = same_values ts us rest in
    cc

full : (o : Outline) (values : List ℤ) (l : Leaf) → HasItsSize o values l → IsFull o values l
full o values l h = λ c n is. subst (λ s. length (objects_of (attribute_value o values l.owner l.attribute s)) ≡ n) (sym is) (h c n is)

module _ (o : Outline) (hs : List (Option ℤ)) (w : IsWhole o hs) where
  pub all_given : list_all is_some hs ≡ true
  all_given = ap (list_all is_some) w.all ∙ given w.values

  pub is_configuration : (ts : List ℤ) → hs ≡ map Some ts → IsConfiguration o ts
  is_configuration ts e = subst (IsConfiguration o) (same_values w.values ts (sym w.all ∙ e)) w.configuration

  pub sets_full : (ts : List ℤ) → hs ≡ map Some ts → HasFullSets o ts
  sets_full ts e =
      subst (HasFullSets o) (same_values w.values ts (sym w.all ∙ e))
      (λ k d h. full o w.values (slice_index_or (leaves_in (walk o)) k d) (w.sets k d h))

-- what is told of a model's parts

pub is_told : (o table : Outline) (ks : List ResolvedConstraint) (source bytes text : List ℕ) (count : ℕ) (t : List ℤ) (bs : List Break) → o ≡ table → IsConfigOf table bytes t → HasFullSets table t → bs ≡ breaks o t ks → text ≡ breaks_text source o bs → count ≡ length bs → IsTold table ks source bytes text count
is_told o table ks source bytes text count t bs one is sets all told counted =
    record {
      config = t;
      is = is;
      sets = sets;
      text_is = told ∙ (ap (breaks_text source o) all ∙ ap (λ x. breaks_text source x (breaks x t ks)) one);
      count_is = counted ∙ (ap length all ∙ ap (λ x. length (breaks x t ks)) one);
    }

module _ (p : Program) (table : Outline) (ks : List ResolvedConstraint) (gs : List ResolvedGoal) (r : IsResolved p table ks gs) (within : (q : Program) → IsResolved q table ks gs → IsWithin q) where
  pub told_for : (source bytes text : List ℕ) (count : ℕ) → IsTold table ks source bytes text count → IsToldFor bytes text count source p
  told_for source bytes text count h =
      (within p r, subst (λ x. IsTold (outline_of p) x source bytes text count) r.constraints_are (subst (λ (x : Outline). IsTold x ks source bytes text count) r.table_is h))

  pub unread_for : (bytes : List ℕ) (s : Status) → Denied s (IsUnread table bytes s) → Denied s (IsDeniedFor bytes s p)
  unread_for bytes s (inl lost) = inl lost
  unread_for bytes s (inr h) = inr (h.0, inr (within p r, subst (λ (x : Outline). IsUnread x bytes s) r.table_is h.1))

pub refused_for : (bytes : List ℕ) (s : Status) (p : Program) → Denied s (IsRefusedFor s p) → Denied s (IsDeniedFor bytes s p)
refused_for bytes s p (inl lost) = inl lost
refused_for bytes s p (inr h) = inr (h.0, inl h.1)

-- and of the text

pub answered : (source bytes text : List ℕ) (count : ℕ) (p : Program) → IsModelOf source p → IsToldFor bytes text count source p → IsAnswer source bytes text count
answered source bytes text count p model h = (p, model, h)

pub text_denied : (source bytes : List ℕ) (s : Status) → Denied s (IsTextRefused source s) → Denied s (IsDenied source bytes s)
text_denied source bytes s (inl lost) = inl lost
text_denied source bytes s (inr h) = inr (h.0, inl (inl h.1))

pub model_denied : (source bytes : List ℕ) (s : Status) (p : Program) → IsModelOf source p → Denied s (IsDeniedFor bytes s p) → Denied s (IsDenied source bytes s)
model_denied source bytes s p model (inl lost) = inl lost
model_denied source bytes s p model (inr h) = inr (h.0, by h.1)
  where
    by : IsDeniedFor bytes s p → IsDenied source bytes s
    by (inl refused) = inl (inr (p, model, refused))
    by (inr unread) = inr (p, model, unread)
