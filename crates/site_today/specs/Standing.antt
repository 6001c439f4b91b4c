-- Where each service stands today.
use Rattle.std.specs.Prelude.{ℕ, List, Option, None, map}
use Rattle.site_tables.specs.Grid.{GridRow, behind, header, name_of, text_at}
use Rattle.site_texts.specs.Pairs.{NamedText, last_under, under}
use Rattle.site_today.specs.Header.{today_columns}
use Rattle.site_today.specs.declared.header.TodayColumns.{TodayColumns}

-- the service of a row, and its host
abbrev pub standing : TodayColumns → GridRow → NamedText
standing columns r = (text_at columns.service r, text_at columns.host r)

-- the services of a table, with their hosts
abbrev pub standings : List GridRow → List NamedText
standings today = map (standing (today_columns (header today))) (behind today)

-- the host of a service, if it has one
abbrev pub host_today : List GridRow → List ℕ → Option (List ℕ)
host_today today service = last_under service None (standings today)

abbrev pub hosts_of : List NamedText → List GridRow → List (Option (List ℕ))
hosts_of texts services = map (λ s. under (name_of s) texts) services

-- the host of each service, in the order of their rows
abbrev pub hosts_today : List GridRow → List GridRow → List (Option (List ℕ))
hosts_today services today = map (λ s. host_today today (name_of s)) (behind services)
