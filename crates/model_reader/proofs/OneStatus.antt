-- What a refusal says of some tree of a text it says of every tree of it.
use Rattle.std.proofs.Common.{◌≡◌, inl, inr, ◌≤◌, ◌<◌, false, List, None, Some, All, Contains, subst, ℕ}
use Rattle.std.proofs.lemmas.List.Elements.{All-contains}
use native.Mathlib.Omega.{arith}
use Rattle.conf_limits.specs.Measures.{model_weight, model_narrow}
use Rattle.conf_syntax.specs.declared.tree.Program.{Program}
use Rattle.object_alloc.specs.Limits as limits
use Rattle.object_alloc.specs.Limits.{IsWithinLimits}
use Rattle.object_alloc.specs.Walk.{objects}
use Rattle.object_alloc.specs.declared.object.Object.{Object}
use Rattle.object_alloc.specs.declared.fault.AllocFault.TheVariants as alloc
use Rattle.model_limits.specs.Limits.{most_weight}
use Rattle.model_reader.specs.Models.{IsWithin, outline_of}
use Rattle.model_reader.specs.ModelRefusal.{IsAllocated, IsRefusedFor, IsRefusedAs, IsTextRefused}
use Rattle.model_reader.specs.TextModel.{IsModelOf, HasModel}
use Rattle.run_status.specs.declared.status.LimitKind.TheVariants as kind
use Rattle.run_status.specs.declared.status.Status.{Status}
use Rattle.run_status.specs.declared.status.Status.TheVariants as status
use Rattle.model_reader.proofs.OneModel.{Said, said, AreOne, both, said_one, fault_one, typed_one, within_one, no_syntax, no_number, no_nesting}

-- Refusals of a model

allocated_one : (p q : Program) → AreOne p q → IsAllocated p → IsAllocated q
allocated_one p q h a = (typed_one p q h a.0, subst (λ (m : Said). IsWithinLimits m.outline) (said_one p q h.there) a.1)

refused_one : (p q : Program) (s : Status) → AreOne p q → IsRefusedFor s p → IsRefusedFor s q
refused_one p q (status.Meaning f place) h c = fault_one p q f place h.there c
refused_one p q (status.Limit kind.Objects None) h c = (typed_one p q h c.0, subst (λ (m : Said). limits.IsRefused m.outline alloc.TooManyObjects) (said_one p q h.there) c.1)
refused_one p q (status.Limit kind.Depth None) h c = (typed_one p q h c.0, subst (λ (m : Said). limits.IsRefused m.outline alloc.TooDeep) (said_one p q h.there) c.1)
refused_one p q (status.Limit kind.Cells None) h c = (typed_one p q h c.0, subst (λ (m : Said). limits.IsRefused m.outline alloc.TooManyCells) (said_one p q h.there) c.1)
refused_one p q (status.Limit kind.Weight None) h c =
    (allocated_one p q h c.0, subst (λ (m : Said). most_weight < model_weight m.outline m.constraints m.goals) (said_one p q h.there) c.1)
refused_one p q (status.Limit kind.Width None) h c =
    (allocated_one p q h c.0, subst (λ (m : Said). model_weight m.outline m.constraints m.goals ≤ most_weight) (said_one p q h.there) c.1, subst (λ (m : Said). model_narrow m.outline m.constraints m.goals ≡ false) (said_one p q h.there) c.2)
refused_one p q s h c = absurd c

-- What looks at what the model says, and at nothing else of it

abbrev pub WithSaid : (Said → Type 0) → Program → Type 0
WithSaid P p = IsWithin p × P (said p)

with_one : (P : Said → Type 0) (p q : Program) → AreOne p q → WithSaid P p → WithSaid P q
with_one P p q h c = (within_one p q h c.0, subst P (said_one p q h.there) c.1)

pub with_of : (P : Said → Type 0) (text : List ℕ) (p : Program) → IsModelOf text p → HasModel text (WithSaid P) → WithSaid P p
with_of P text p h r = with_one P r.0 p (both text r.0 p r.1 h) r.2

-- From some tree of a text to a given one

no_text_refusal : (text : List ℕ) (p : Program) (s : Status) → IsModelOf text p → IsTextRefused text s → ⊥
no_text_refusal text p (status.Syntax place) h r = no_syntax text p place h r
no_text_refusal text p (status.Limit kind.Literal (Some place)) h r = no_number text p place h r
no_text_refusal text p (status.Limit kind.Nesting (Some place)) h r = no_nesting text p place h r
no_text_refusal text p s h r = r

pub refused_of : (text : List ℕ) (p : Program) (s : Status) → IsModelOf text p → IsRefusedAs s text → IsRefusedFor s p
refused_of text p s h (inl r) = absurd (no_text_refusal text p s h r)
refused_of text p s h (inr r) = refused_one r.0 p s (both text r.0 p r.1 h) r.2

-- A model within the limits isn't refused for its text

too_deep : (most : ℕ) (xs : List Object) (x : Object) → All (λ (y : Object). y.depth ≤ most) xs → Contains xs x → most < x.depth → ⊥
too_deep most xs x all has deep = let less = All-contains (λ (y : Object). y.depth ≤ most) xs x all has in absurd (omega (arith, less, deep))

not_deep : (p : Program) → IsWithin p → limits.IsRefused (outline_of p) alloc.TooDeep → ⊥
not_deep p w r = too_deep _ (objects (outline_of p)) r.1.deep w.objects.depths r.1.has r.1.depth

within_unrefused : (p : Program) → IsWithin p → (s : Status) → IsRefusedFor s p → ⊥
within_unrefused p w (status.Meaning f place) c = w.typed f place c
within_unrefused p w (status.Limit kind.Objects None) c = absurd (omega (arith, w.objects.objects, c.1))
within_unrefused p w (status.Limit kind.Depth None) c = not_deep p w c.1
within_unrefused p w (status.Limit kind.Cells None) c = absurd (omega (arith, w.objects.cells, c.1.2))
within_unrefused p w (status.Limit kind.Weight None) c = absurd (omega (arith, w.light, c.1))
within_unrefused p w (status.Limit kind.Width None) c = let yes = w.narrow in let no = c.2 in cc
within_unrefused p w s c = c

pub within_text : (text : List ℕ) (p : Program) → IsModelOf text p → IsWithin p → (s : Status) → IsRefusedAs s text → ⊥
within_text text p h w s r = within_unrefused p w s (refused_of text p s h r)
