-- Arrays that grow.
use Rattle.serde_json.specs.Data.{Items, no_items, item}

-- the items, one list after another
abbrev pub items_append : Items → Items → Items
items_append no_items es = es
items_append (item d ds) es = item d (items_append ds es)
