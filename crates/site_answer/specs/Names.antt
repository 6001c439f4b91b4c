-- The names of hosts, by their words.
use Rattle.std.specs.Prelude.{ℕ, List, Option, None, map}
use Rattle.site_names.specs.Words.{word_of}
use Rattle.site_tables.specs.Grid.{GridRow, behind, name_of}
use Rattle.site_texts.specs.Pairs.{NamedText, last_under, under}

-- the name of each word that is one of a host
abbrev pub HostNames : Type 0
HostNames = List ℕ → Option (List ℕ)

abbrev pub names_in : List NamedText → HostNames
names_in texts word = under word texts

abbrev pub worded_host : GridRow → NamedText
worded_host r = (word_of (name_of r), name_of r)

-- those of the hosts of a table; their words differ
abbrev pub host_names : List GridRow → HostNames
host_names hosts word = last_under word None (map worded_host (behind hosts))
