use Rattle.std.proofs.Common.{List, ℕ, ◌++◌, sym, ap, ◌∙◌}
use Rattle.std.specs.Option.{option_to_list}
use Rattle.object_alloc.specs.Paths.{object_named}
use Rattle.reconfigure.proofs.NamingLaws.{named_next}
use Rattle.reconfigure.proofs.failed.objects_named.Goals as goal

pub loop-word-preserved : goal.loop-word-preserved
loop-word-preserved c =
    let o = c.args.objects.now in
    let w = c.word-item.result in
    record {
      numbers =
          c.in_ok-push_object.ensures.numbers
          ∙ ap (λ (ns : List ℕ). ns ++ option_to_list (object_named o w)) c.loop-word.invariant.numbers
          ∙ sym (named_next o c.args.words.now c.loop-word.word-index w c.loop-word-test.true c.word-item.is);
      there = c.in_ok-push_object.ensures.there c.loop-word.invariant.there;
    }
