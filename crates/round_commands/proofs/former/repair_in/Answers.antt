use Rattle.std.proofs.Common.{◌≡◌, ◌∙◌, Option, None, Some, ap, refl, sym, subst, ℕ}
use Rattle.class_table.specs.Outline.{Outline}
use Rattle.config_json.specs.Former.{hints}
use Rattle.config_json.specs.Reading.{json_of}
use Rattle.object_alloc.specs.Hints.{AreHints}
use Rattle.reconfigure.specs.Failing.{unknown_word}
use Rattle.round_commands.proofs.former.repair_in.Goals as goal

no_word : (found : Option ℕ) → ((n : ℕ) → found ≡ Some n → ⊥) → found ≡ None
no_word None h = refl
no_word (Some n) h = absurd (h n refl)

pub returns-clause-repair : goal.returns-clause-repair
returns-clause-repair c =
    let json = json_of c.in_ok-read.read in
    record {
      short = c.requires.short;
      json = json;
      read = c.in_ok-read.ensures.read;
      object = c.in_ok-read.ensures.object;
      former = c.in_ok-former.ensures.hints ∙ ap (λ (o : Outline). hints o json) (sym c.requires.ready.one);
      failed = c.in_ok-failed.ensures;
      named = sym c.unknown_word.ensures ∙ no_word c.unknown_word.result c.in_default.not-Some;
    }

pub returns-clause-understood : goal.returns-clause-understood
returns-clause-understood c =
    record {
      former = subst (λ (o : Outline). AreHints o c.in_ok-former.former) (sym c.requires.ready.one) c.in_ok-former.ensures.form;
      failed = ap (unknown_word c.args.built.objects.now) c.in_ok-failed.ensures ∙ (sym c.unknown_word.ensures ∙ no_word c.unknown_word.result c.in_default.not-Some);
    }
