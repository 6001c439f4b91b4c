-- From what the calls are given to what the evaluator asks for.
use Rattle.std.proofs.Common.{◌≡◌, ℕ, ◌<◌, List, [], ◌∷◌, Option, ℤ, ap, sym, ◌∙◌, subst, map, length, get_or, ◌++◌, ◌+◌, drop, append_assoc}
use Rattle.class_table.proofs.ListLaws.{drop_next}
use Rattle.std.specs.Prelude.{All}
use Rattle.class_table.specs.Outline.{Outline}
use Rattle.conf_types.specs.Trees.{Tree}
use Rattle.conf_eval.specs.Fitting.{IsEvaluable}
use Rattle.conf_eval.specs.Meaning.{Setting, value}

abbrev pub standing : Outline → Option ℕ → List ℤ → List ℕ → Setting
standing o this vs xs = record { outline = o; values = vs; this = this; vars = xs }

module _ (o : Outline) (this : Option ℕ) (t : Tree) (vs ws : List ℤ) (xs ys : List ℕ) (i : ws ≡ vs) (j : ys ≡ xs) where
  pub evaluable_there : IsEvaluable o vs t (standing o this vs xs) → IsEvaluable o ws t (standing o this ws ys)
  evaluable_there h = subst (λ zs. IsEvaluable o ws t (standing o this ws zs)) (sym j) (subst (λ us. IsEvaluable o us t (standing o this us xs)) (sym i) h)

  pub value_there : value t (standing o this ws ys) ≡ value t (standing o this vs xs)
  value_there = ap (λ us. value t (standing o this us ys)) i ∙ ap (λ zs. value t (standing o this vs zs)) j

pub nth_of_all : {X : Type 0} (P : X → Type 0) (xs : List X) (i : ℕ) (x : X) → i < length xs → x ≡ get_or xs i x → All P xs → P x
nth_of_all P xs i x lt is h = subst P (sym is) (h i x lt)

pub push_rest : {X Y : Type 0} (h : X → Y) (xs : List X) (i : ℕ) (x : X) (done next all : List Y) (y : Y) → i < length xs → x ≡ get_or xs i x → y ≡ h x → next ≡ done ++ y ∷ [] → done ++ map h (drop i xs) ≡ all → next ++ map h (drop (i + 1) xs) ≡ all
push_rest h xs i x done next all y lt is value_is pushed before =
    ap (λ ys. ys ++ map h (drop (i + 1) xs)) pushed
    ∙ append_assoc done (y ∷ []) (map h (drop (i + 1) xs))
    ∙ ap (λ z. done ++ z ∷ map h (drop (i + 1) xs)) value_is
    ∙ sym (ap (λ ys. done ++ map h ys) (drop_next xs i x lt is))
    ∙ before
