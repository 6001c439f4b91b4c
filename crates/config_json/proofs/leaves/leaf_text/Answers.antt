use Rattle.object_alloc.specs.Variables.{variables_of}
use Rattle.config_json.proofs.Known.{item_within}
use Rattle.config_json.proofs.leaves.leaf_text.Goals as goal

pub variable_of-variable-requires-clause-attribute :
    goal.variable_of-variable-requires-clause-attribute
variable_of-variable-requires-clause-attribute c =
    item_within (variables_of c.args.objects.now c.args.leaf.owner) c.args.leaf.attribute
    c.requires.leaf.variable c.requires.leaf.has
