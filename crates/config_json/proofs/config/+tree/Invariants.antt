use Rattle.std.proofs.Common.{◌≡◌, ℕ, ◌+◌, ◌-◌, ◌*◌, Option, length, drop}
use Rattle.std.specs.Option.{option_map_or}
use Rattle.class_table.specs.Outline.{Outline}
use Rattle.object_alloc.specs.Variables.{variables_of}
use Rattle.object_alloc.specs.Walk.{objects}
use Rattle.serde_json.specs.View.{items_view, members_view}
use Rattle.config_json.specs.Growing.{items_append}
use Rattle.config_json.specs.Tree.{all_data, object_data, with_variables}
use Rattle.config_json.proofs.config.+tree.Given as goal

-- how many objects may stand below an owner
abbrev below : Outline → Option ℕ → ℕ
below o owner = option_map_or (λ n. length (objects o) - n) owner (length (objects o) + 1)

abbrev pub decreases-object_value : goal.decreases-object_value
decreases-object_value l = 4 * (length (objects l.objects.now) - l.n) + 3

abbrev pub decreases-with_variables : goal.decreases-with_variables
decreases-with_variables l = 4 * below l.objects.now l.owner + 2

abbrev pub decreases-attribute_value : goal.decreases-attribute_value
decreases-attribute_value l = 4 * below l.objects.now l.owner + 1

abbrev pub decreases-first_value : goal.decreases-first_value
decreases-first_value l = 4 * below l.objects.now l.owner

abbrev pub decreases-object_values : goal.decreases-object_values
decreases-object_values l = 4 * below l.objects.now l.owner

-- with the variables that are left they are the keys for all
abbrev pub invariant-with_variables-loop-k : goal.invariant-with_variables-loop-k
invariant-with_variables-loop-k l =
    with_variables (object_data l.objects l.values) l.objects l.values l.owner l.k
    (drop l.k (variables_of l.objects l.owner)) (members_view l.members.entries)
    ≡ with_variables (object_data l.objects l.values) l.objects l.values l.owner 0
    (variables_of l.objects l.owner) (members_view l.initial.members.entries)

-- with the objects that are left they are all
abbrev pub invariant-object_values-loop-n : goal.invariant-object_values-loop-n
invariant-object_values-loop-n l =
    items_append (items_view l.items.items)
    (all_data (object_data l.objects l.values) (drop l.n-index l.parts))
    ≡ all_data (object_data l.objects l.values) l.parts
