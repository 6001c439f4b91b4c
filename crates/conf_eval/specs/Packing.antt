-- What a member packs, as the code keeps it.
use Rattle.std.specs.Prelude.{cond, ℤ, pos}
use Rattle.conf_eval.specs.declared.packing.Item.{Item as Packed}
use Rattle.conf_eval.specs.declared.value.Value.{Value}
use Rattle.conf_eval.specs.Meaning.{Item, same_value}

abbrev pub item_view : Packed → Item
item_view x = record { bin = x.bin; size = x.size.value; room = x.room.value }

-- the size where the item is at this bin, or 0
abbrev pub size_at : Value → Item → ℤ
size_at bin x = cond (same_value bin x.bin) x.size (pos 0)
