-- A former text: an object of JSON on a line, with a key for the word of each service that stands
-- somewhere today, and under it the word of its host.
use Rattle.std.specs.Prelude.{ℕ, List, [], ◌∷◌, ◌++◌, codes}
use Rattle.serde_json.specs.Data.{Data, string, object, Members, no_members, put}
use Rattle.serde_json.specs.Written.{compact_text}
use Rattle.site_names.specs.Words.{word_of}
use Rattle.site_tables.specs.Grid.{GridRow}
use Rattle.site_texts.specs.Pairs.{NamedText}
use Rattle.site_today.specs.Standing.{standings}

-- what stands of a service that is on this host: nothing but the host's word
abbrev pub host_data : List ℕ → Data
host_data host = object (put (codes "host") (string (word_of host)) no_members)

-- the keys so far, with one for each of these services and its host
abbrev pub with_hosts : List NamedText → Members → Members
with_hosts [] found = found
with_hosts (p ∷ ps) found = with_hosts ps (put (word_of p.0) (host_data p.1) found)

abbrev pub former_data : List GridRow → Data
former_data today = object (with_hosts (standings today) no_members)

-- the line without its end: no spaces, keys in byte order
abbrev pub former_line : List GridRow → List ℕ
former_line today = compact_text (former_data today)

abbrev pub former_text : List GridRow → List ℕ
former_text today = former_line today ++ 10 ∷ []

-- the word of a service, and the name of its host
abbrev pub worded : NamedText → NamedText
worded p = (word_of p.0, p.1)
