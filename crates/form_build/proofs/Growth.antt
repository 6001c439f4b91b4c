-- What was said of every world of a problem is said of every world of one that it grows to, and
-- steps one after the other are one.
use Rattle.std.proofs.Common.{◌≡◌, ℕ, ◌+◌, ◌<◌, ◌≤◌, true, List, [], ◌++◌, ℤ, All, arith, length, length-append, append_assoc, append-nil, Bool, ◌&&◌, refl, sym, ap, ◌∙◌, subst}
use Rattle.std.proofs.lemmas.Bool.{and_parts}
use Rattle.std.proofs.lemmas.List.Elements.{All-contains}
use Rattle.signed_clause.specs.Ranges.{Ranges, has}
use Rattle.signed_clause.specs.Clauses.{Boxes, box_of}
use Rattle.ground_form.specs.declared.con.Con.{Con}
use Rattle.ground_form.specs.declared.ground.Ground.{Ground}
use Rattle.ground_form.specs.Meaning.{value_of, con_true}
use Rattle.ground_form.specs.StandsFor.{IsDefinition}
use Rattle.ground_build.specs.Growing.{IsOnlyExtension}
use Rattle.form_build.specs.Worlds.{IsInBoxes, IsWorld, AllHold, AreKnown, Grows, Adds, Defines, HasDefinition, IsFew, HasRoomFor}
use Rattle.form_build.proofs.Lists.{front_part, box_front}

-- ---- boxes and worlds before

-- no variable is lost
pub no_less : (old new : Ground) → Grows old new → length old.domains ≤ length new.domains
no_less old new g =
    let e = ap (λ (z : Boxes). length z) g.domains in
    omega (arith, e, length-append old.domains g.more)

-- a variable keeps its box
pub box_kept : (old new : Ground) (x : ℕ) → Grows old new → x < length old.domains → box_of new.domains x ≡ box_of old.domains x
box_kept old new x g lt =
    ap (λ (z : Boxes). box_of z x) g.domains ∙ box_front old.domains g.more x lt

in_front : (ds e : Boxes) (a : List ℤ) → IsInBoxes (ds ++ e) a → IsInBoxes ds a
in_front ds e a h x lt =
    subst (λ (z : Ranges). has z (value_of a x) ≡ true) (box_front ds e x lt)
    (h x (omega (arith, length-append ds e, lt)))

-- the definitions from n on are true
abbrev AreDefinedFrom : ℕ → List ℤ → List Con → Type 0
AreDefinedFrom n a cs = All (λ con. IsDefinition n con → con_true con a ≡ true) cs

-- a world of the new problem is one of the old
pub world_before : (old new : Ground) (a : List ℤ) → Grows old new → IsWorld new a → IsWorld old a
world_before old new a g w =
    let boxes = subst (λ (z : Boxes). IsInBoxes z a) g.domains w.within in
    let said = subst (λ (z : List Con). AreDefinedFrom new.search a z) g.cons w.defined in
    let front = front_part (λ con. IsDefinition new.search con → con_true con a ≡ true) old.cons g.added said in
    record {
      long = subst (λ (n : ℕ). n ≤ length a) g.search w.long;
      within = in_front old.domains g.more a boxes;
      defined = subst (λ (n : ℕ). AreDefinedFrom n a old.cons) g.search front;
    }

-- what holds of the new problem's constraints holds of the old one's
pub all_before : (old new : Ground) (a : List ℤ) → Grows old new → AllHold new a → AllHold old a
all_before old new a g all =
    front_part (λ c. con_true c a ≡ true) old.cons g.added
    (subst (λ (z : List Con). All (λ c. con_true c a ≡ true) z) g.cons all)

-- a definition that stands in a problem is true in each of its worlds, whoever made it
pub definition_holds : (g : Ground) (x : ℕ) (con : Con) (a : List ℤ) → HasDefinition g x con → IsWorld g a → con_true con a ≡ true
definition_holds g x con a h w =
    All-contains (λ c. IsDefinition g.search c → con_true c a ≡ true) g.cons con w.defined h.has h.definition

-- ---- growing is a preorder

only_same : (g : Ground) (t a : List ℤ) → IsOnlyExtension g t a → IsOnlyExtension g t (a ++ [])
only_same g t a h = subst (λ (z : List ℤ). IsOnlyExtension g t z) (sym (append-nil a)) h

pub grows_none : (g : Ground) → Grows g g
grows_none g = record {
  search = refl;
  more = [];
  domains = sym (append-nil g.domains);
  added = [];
  cons = sym (append-nil g.cons);
  keeps = λ t a h. ([], only_same g t a h);
}

pub grows_more : (f g h : Ground) → Grows f g → Grows g h → Grows f h
grows_more f g h one two = record {
  search = two.search ∙ one.search;
  more = one.more ++ two.more;
  domains = two.domains ∙ ap (λ (z : Boxes). z ++ two.more) one.domains ∙ append_assoc f.domains one.more two.more;
  added = one.added ++ two.added;
  cons = two.cons ∙ ap (λ (z : List Con). z ++ two.added) one.cons ∙ append_assoc f.cons one.added two.added;
  keeps = λ t a w.
      let p = one.keeps t a w in
      let q = two.keeps t (a ++ p.0) p.1 in
      (p.0 ++ q.0, subst (λ (z : List ℤ). IsOnlyExtension h t z) (append_assoc a p.0 q.0) q.1);
}

-- ---- what steps say

and_both : (p q : Bool) → p ≡ true → q ≡ true → (p && q) ≡ true
and_both p q e f = grind arith

-- no step says nothing
pub adds_nothing : (known : List (ℕ × ℤ)) (g : Ground) → Adds known g g (λ a. true)
adds_nothing known g = record {
  grows = grows_none g;
  holds = λ a w kn. ((λ all. (all, refl)), (λ z. z.0));
}

-- two steps, one after the other, say what both do
pub adds_more : (known : List (ℕ × ℤ)) (f g h : Ground) (p q : List ℤ → Bool) → Adds known f g p → Adds known g h q → Adds known f h (λ a. p a && q a)
adds_more known f g h p q one two = record {
  grows = grows_more f g h one.grows two.grows;
  holds = λ a w kn.
      let w1 = world_before g h a two.grows w in
      let there = two.holds a w kn in
      let here = one.holds a w1 kn in (
        (λ all. let x = there.0 all in let y = here.0 x.0 in (y.0, and_both (p a) (q a) y.1 x.1)),
        (λ z. let b = and_parts (p a) (q a) z.1 in there.1 (here.1 (z.0, b.0), b.1)),
      );
}

-- what is the same in the new problem's worlds may be said instead
pub adds_same : (known : List (ℕ × ℤ)) (old new : Ground) (p q : List ℤ → Bool) → ((a : List ℤ) → IsWorld new a → AreKnown known a → p a ≡ q a) → Adds known old new p → Adds known old new q
adds_same known old new p q same added = record {
  grows = added.grows;
  holds = λ a w kn.
      let h = added.holds a w kn in
      let e = same a w kn in
      ((λ all. let x = h.0 all in (x.0, sym e ∙ x.1)), (λ z. h.1 (z.0, e ∙ z.1)));
}

no_known : (a : List ℤ) → AreKnown [] a
no_known a k d lt = absurd (omega (arith, lt))

-- what is said of all worlds is said of those in which the known variables have their values
pub adds_fewer : (known : List (ℕ × ℤ)) (old new : Ground) (says : List ℤ → Bool) → Adds [] old new says → Adds known old new says
adds_fewer known old new says added = record {
  grows = added.grows;
  holds = λ a w kn. added.holds a w (no_known a);
}

-- what is said where the known variables have their values is said of all worlds, where the
-- constraints before fix those values
pub adds_known : (known : List (ℕ × ℤ)) (old new : Ground) (says : List ℤ → Bool) → ((a : List ℤ) → IsWorld new a → AllHold old a → AreKnown known a) → Adds known old new says → Adds [] old new says
adds_known known old new says fixed added = record {
  grows = added.grows;
  holds = λ a w none. (
    (λ all. (added.holds a w (fixed a w (all_before old new a added.grows all))).0 all),
    (λ z. (added.holds a w (fixed a w z.0)).1 z),
  );
}

-- definitions, and then definitions
pub defines_more : (f g h : Ground) → Defines f g → Defines g h → Defines f h
defines_more f g h one two = adds_more [] f g h (λ a. true) (λ a. true) one two

-- ---- how much is added

pub few_none : (n : ℕ) (g : Ground) → IsFew n g g
few_none n g = record { variables = omega arith; constraints = omega arith }

pub few_more : (m n : ℕ) (f g h : Ground) → IsFew m f g → IsFew n g h → IsFew (m + n) f h
few_more m n f g h one two = record {
  variables = omega (arith, one.variables, two.variables);
  constraints = omega (arith, one.constraints, two.constraints);
}

-- what is left of the room
pub room_left : (m n : ℕ) (old new : Ground) → HasRoomFor (m + n) old → IsFew m old new → HasRoomFor n new
room_left m n old new room few = record {
  variables = omega (arith, room.variables, few.variables);
  constraints = omega (arith, room.constraints, few.constraints);
}
