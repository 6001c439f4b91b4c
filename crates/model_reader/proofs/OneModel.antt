-- A text has one model: what holds of some tree of it holds of every tree of it.
use Rattle.std.proofs.Common.{◌≡◌, inl, inr, ◌≤◌, true, List, Contains, ◌∙◌, ap, subst, length, map, ℕ}
use Rattle.class_table.specs.Outline.{Outline}
use Rattle.class_table.specs.Worded.{HasWords}
use Rattle.class_table.proofs.WordOutline.{outline_worded}
use Rattle.class_table.proofs.BareFaults.{one_outline, one_faults}
use Rattle.conf_limits.specs.Measures.{model_weight, model_narrow}
use Rattle.conf_parse.specs.Means.{IsSyntax, IsDeep}
use Rattle.conf_parse.proofs.Ends.{one_model}
use Rattle.conf_parse.proofs.OnePlace.{syntax_or_model, deep_or_model}
use Rattle.conf_parse.proofs.OneReading.{read_one_way}
use Rattle.conf_syntax.specs.declared.token.Placed.{Placed}
use Rattle.conf_syntax.specs.declared.tree.Program.{Program}
use Rattle.conf_syntax.specs.Models.{IsProgramOf}
use Rattle.conf_syntax.specs.OneModel.{AreOneModel}
use Rattle.conf_syntax.specs.Spelling.{Spells, IsStuckAtByte, IsStuckAtNumber, Reading, Whole, BadByteAt, TooLargeAt}
use Rattle.conf_syntax.specs.Words.{AreWords}
use Rattle.conf_syntax.proofs.SpelledWords.{spelled_words}
use Rattle.conf_types.specs.declared.fault.TypeFault.{TypeFault}
use Rattle.conf_types.specs.Programs.{ResolvedConstraint, ResolvedGoal, resolved_constraint, resolved_goal, constraints, goals, faults}
use Rattle.conf_types.proofs.WholePrograms.{one_constraints, one_goals, one_type_faults}
use Rattle.object_alloc.specs.Limits.{IsWithinLimits}
use Rattle.model_reader.specs.Meaning.{InExpression, IsFaultOf, IsTyped}
use Rattle.model_limits.specs.Limits.{most_weight}
use Rattle.model_reader.specs.Models.{IsWithin, outline_of, constraints_of, goals_of}
use Rattle.model_reader.specs.ModelRefusal.{IsSyntaxAt, IsNestingAt}
use Rattle.model_reader.specs.TextModel.{IsModelOf}
use Rattle.run_status.specs.declared.status.Fault.{Fault}
use Rattle.run_status.specs.declared.status.Fault.TheVariants as fault

-- One list of tokens

abbrev whole_or : List Placed → Reading → List Placed
whole_or other (Whole tokens) = tokens
whole_or other (BadByteAt at) = other
whole_or other (TooLargeAt at) = other

tokens_one : (text : List ℕ) (a b : List Placed) → Spells text a → Spells text b → a ≡ b
tokens_one text a b s t = ap (whole_or a) (read_one_way text (Whole a) (Whole b) s t)

-- the tokens of one tree of the text are those of the other
other_tree : (text : List ℕ) (p q : Program) (h : IsModelOf text p) → IsModelOf text q → IsProgramOf h.0 q
other_tree text p q h i = subst (λ (tokens : List Placed). IsProgramOf tokens q) (tokens_one text i.0 h.0 i.1 h.1) i.2

pub are_one : (text : List ℕ) (p q : Program) → IsModelOf text p → IsModelOf text q → AreOneModel p q
are_one text p q h i =
    let one = one_model h.0 p q h.2 (other_tree text p q h i) in
    record { fits = h.2.tree.fits; plain = one.0; places = one.1 }

-- Such a text isn't refused

pub no_byte : (text : List ℕ) (p : Program) (at : ℕ) → IsModelOf text p → IsStuckAtByte text at → ⊥
no_byte text p at h stuck = let e : Whole h.0 ≡ BadByteAt at = read_one_way text (Whole h.0) (BadByteAt at) h.1 stuck in cc

pub no_number : (text : List ℕ) (p : Program) (at : ℕ) → IsModelOf text p → IsStuckAtNumber text at → ⊥
no_number text p at h stuck = let e : Whole h.0 ≡ TooLargeAt at = read_one_way text (Whole h.0) (TooLargeAt at) h.1 stuck in cc

pub no_syntax : (text : List ℕ) (p : Program) (at : ℕ) → IsModelOf text p → IsSyntaxAt text at → ⊥
no_syntax text p at h (inl stuck) = no_byte text p at h stuck
no_syntax text p at h (inr refused) =
    syntax_or_model h.0 (length text) at p h.2.tree
    (subst (λ (tokens : List Placed). IsSyntax tokens (length text) at) (tokens_one text refused.0 h.0 refused.1 h.1) refused.2)

pub no_nesting : (text : List ℕ) (p : Program) (at : ℕ) → IsModelOf text p → IsNestingAt text at → ⊥
no_nesting text p at h deep =
    deep_or_model h.0 (length text) at p h.2.tree
    (subst (λ (tokens : List Placed). IsDeep tokens (length text) at) (tokens_one text deep.0 h.0 deep.1 h.1) deep.2)

-- What the model says

-- its outline, constraints and objectives
pub record Said : Type 0 where
  pub outline : Outline
  pub constraints : List ResolvedConstraint
  pub goals : List ResolvedGoal

abbrev pub said : Program → Said
said p = record { outline = outline_of p; constraints = constraints_of p; goals = goals_of p }

constraints_one : (p q : Program) → AreOneModel p q → constraints_of p ≡ constraints_of q
constraints_one p q h = ap (λ (o : Outline). map (resolved_constraint o) (constraints p.items)) (one_outline p q h) ∙ one_constraints p q h (outline_of q)

goals_one : (p q : Program) → AreOneModel p q → goals_of p ≡ goals_of q
goals_one p q h = ap (λ (o : Outline). map (resolved_goal o) (goals p.items)) (one_outline p q h) ∙ one_goals p q h (outline_of q)

pub said_one : (p q : Program) → AreOneModel p q → said p ≡ said q
said_one p q h = λ t. record { outline = one_outline p q h t; constraints = constraints_one p q h t; goals = goals_one p q h t }

expression_one : (p q : Program) (f : TypeFault) → AreOneModel p q → InExpression p f → InExpression q f
expression_one p q f h c =
    subst (λ (fs : List TypeFault). Contains fs f) (ap (λ (o : Outline). faults o p.items) (one_outline p q h) ∙ one_type_faults p q h (outline_of q)) c

pub fault_one : (p q : Program) (f : Fault) (place : ℕ) → AreOneModel p q → IsFaultOf p f place → IsFaultOf q f place
fault_one p q fault.Duplicate place h c = (one_faults p q h _).0 c
fault_one p q fault.Unknown place h (inl c) = inl ((one_faults p q h _).0 c)
fault_one p q fault.Unknown place h (inr c) = inr (expression_one p q _ h c)
fault_one p q fault.NotAClass place h c = (one_faults p q h _).0 c
fault_one p q fault.InheritCycle place h c = (one_faults p q h _).0 c
fault_one p q fault.ContainCycle place h c = (one_faults p q h _).0 c
fault_one p q fault.AbstractObject place h c = (one_faults p q h _).0 c
fault_one p q fault.EmptyRange place h c = (one_faults p q h _).0 c
fault_one p q fault.WrongType place h c = expression_one p q _ h c
fault_one p q fault.NonLinear place h c = expression_one p q _ h c
fault_one p q fault.Shadow place h c = expression_one p q _ h c

-- two trees of a text, in both orders
pub record AreOne (p q : Program) : Type 0 where
  pub there : AreOneModel p q
  pub back : AreOneModel q p

pub both : (text : List ℕ) (p q : Program) → IsModelOf text p → IsModelOf text q → AreOne p q
both text p q h i = record { there = are_one text p q h i; back = are_one text q p i h }

pub typed_one : (p q : Program) → AreOne p q → IsTyped p → IsTyped q
typed_one p q h typed = λ f place c. typed f place (fault_one q p f place h.back c)

pub within_one : (p q : Program) → AreOne p q → IsWithin p → IsWithin q
within_one p q h w =
    let e = said_one p q h.there in
    record {
      typed = typed_one p q h w.typed;
      objects = subst (λ (m : Said). IsWithinLimits m.outline) e w.objects;
      light = subst (λ (m : Said). model_weight m.outline m.constraints m.goals ≤ most_weight) e w.light;
      narrow = subst (λ (m : Said). model_narrow m.outline m.constraints m.goals ≡ true) e w.narrow;
    }

-- Its names are words

pub names_of : (text : List ℕ) (p : Program) → IsModelOf text p → IsTyped p → HasWords (outline_of p)
names_of text p h typed =
    outline_worded p (subst AreWords h.2.tree.tokens_are (spelled_words text h.0 h.1)) (λ at c. typed fault.Duplicate at c)
