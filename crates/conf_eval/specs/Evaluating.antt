-- What the code that evaluates is given.
use Rattle.std.specs.Prelude.{◌≡◌, ℕ, zero, suc, ◌*◌, ◌<◌, ◌≤◌, ◌^◌, max, Bool, cond, List, [], ◌∷◌, ◌++◌, Option, None, Some, ℤ, pos, neg_ℤ, ◌≤ℤ◌, All, length, slice_index_or}
use Rattle.model_limits.specs.Limits.{most_width}
use Rattle.class_table.specs.Outline.{Outline}
use Rattle.class_table.specs.Sound.{IsSound}
use Rattle.class_table.specs.Tables.{IsFew}
use Rattle.conf_types.specs.declared.tree.RExpr.{RExpr}
use Rattle.conf_types.specs.Trees.{Tree, Filter, NoFilter, Where, Bodies, NoBody, Body}
use Rattle.conf_types.specs.TreeOf.{tree_of}
use Rattle.conf_types.specs.Trees as tree
use Rattle.object_alloc.specs.Configurations.{IsConfiguration}
use Rattle.object_alloc.specs.Limits.{IsWithinLimits}
use Rattle.conf_eval.specs.declared.scene.Scene.{Scene}
use Rattle.conf_eval.specs.declared.value.Env.{Env}
use Rattle.conf_eval.specs.declared.value.Value.TheVariants.{Int}
use Rattle.conf_eval.specs.Fitting.{IsEvaluable, IsEvaluableFilter}
use Rattle.conf_eval.specs.Meaning.{Setting, bind, keeps, values_of, all_true, first_of, int_of}

-- inside of quantifiers with these objects as their variables
abbrev pub setting_at : Scene → List ℕ → Setting
setting_at scene vars =
    record {
      outline = scene.objects.now;
      values = scene.values.now;
      this = scene.this;
      vars
          = vars;
    }

-- a configuration of a model's objects
pub record IsGiven (o : Outline) (values : List ℤ) : Type 0 where
  pub sound : IsSound o
  pub few_values : All IsFew o.enumerations
  pub limits : IsWithinLimits o
  pub config : IsConfiguration o values

-- how deep a tree is
abbrev mutual
  pub height : Tree → ℕ
  height (tree.Number at n) = 0
  height (tree.Truth at b) = 0
  height (tree.This at) = 0
  height (tree.Local at k) = 0
  height (tree.Own at k s) = 0
  height (tree.Root at k s) = 0
  height (tree.Value at e k) = 0
  height (tree.Class at c) = 0
  height (tree.Missing at) = 0
  height (tree.Paren at e) = suc (height e)
  height (tree.Minus at e) = suc (height e)
  height (tree.Not at e) = suc (height e)
  height (tree.Dot at e k s) = suc (height e)
  height (tree.Pair at op l r) = suc (max (height l) (height r))
  height (tree.Quant at q over f bs) = suc
      (max (height over) (max (filter_height f) (bodies_height bs)))

  pub filter_height : Filter → ℕ
  filter_height NoFilter = 0
  filter_height (Where e) = height e

  pub bodies_height : Bodies → ℕ
  bodies_height NoBody = 0
  bodies_height (Body e bs) = max (height e) (bodies_height bs)

-- Quantifiers

-- each body may be evaluated
abbrev pub AllEvaluable : Outline → List ℤ → Bodies → Setting → Type 0
AllEvaluable o vs NoBody s = Unit {0}
AllEvaluable o vs (Body e bs) s = IsEvaluable o vs e s × AllEvaluable o vs bs s

-- for each of these members the filter and the bodies may be evaluated
pub record IsInner (o : Outline) (vs : List ℤ) (f : Filter) (bs : Bodies) (s : Setting) : Type 0 where
  pub filter : IsEvaluableFilter o vs f s
  pub bodies : AllEvaluable o vs bs s

abbrev pub AreInner : Outline → List ℤ → Filter → Bodies → Setting → List ℕ → Type 0
AreInner o vs f bs s xs = All (λ x. IsInner o vs f bs (bind s x)) xs

-- the variables outside, and one more
pub record IsRoom (outer xs : List ℕ) : Type 0 where
  pub last : ℕ
  pub is : xs ≡ outer ++ last ∷ []

-- whether the filter keeps the member and the bodies are true; `otherwise` where the filter leaves
-- it out
abbrev pub holds : Filter → Bodies → Bool → Setting → Bool
holds f bs otherwise s = cond (keeps f s) (all_true (values_of bs s)) otherwise

-- the number of body n; 0 where there is none
abbrev pub number_of : Bodies → ℕ → Setting → ℤ
number_of bs n s = int_of (slice_index_or (values_of bs s) n (Int (pos 0)))

abbrev pub term_of : Filter → Bodies → Setting → ℤ
term_of f bs s = cond (keeps f s) (int_of (first_of (values_of bs s))) (pos 0)

-- the number is no further from 0 than twice the limit on width
pub record IsSmall (v : ℤ) : Type 0 where
  pub low : neg_ℤ (pos (2 * most_width)) ≤ℤ v
  pub high : v ≤ℤ pos (2 * most_width)

-- where an expression is evaluated that stands in these objects' scope
abbrev pub env_setting : Outline → List ℤ → Env → Setting
env_setting o values env =
    record { outline = o; values = values; this = env.this_object; vars = env.vars }
