use Rattle.std.proofs.Common.{subst, sym}
use Rattle.std.specs.List.{flat_map}
use Rattle.conf_syntax.specs.Trees.{item_tokens}
use Rattle.conf_syntax.specs.Words.{AreWords}
use Rattle.class_table.specs.Faults.{IsSmall}
use Rattle.class_table.proofs.Sizes.{small}
use Rattle.class_table.proofs.class_table.ClassTable.build.Goals as goal

pub of_items-requires : goal.of_items-requires
of_items-requires c =
    record {
      small = subst IsSmall (sym c.items-items.ensures.items) (small c.args.program.now.items c.requires.tokens);
      words = subst (λ items. AreWords (flat_map item_tokens items)) (sym c.items-items.ensures.items) c.requires.words;
    }
