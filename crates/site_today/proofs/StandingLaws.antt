-- The hosts of services, by what is under their names.
use Rattle.std.proofs.Common.{◌≡◌, ℕ, List, [], ◌∷◌, Option, None, map, refl, ap, ◌∙◌}
use Rattle.site_tables.specs.Grid.{GridCell, GridRow, behind, header, name_of}
use Rattle.site_texts.specs.Pairs.{NamedText, last_under, under}
use Rattle.site_today.specs.Header.{today_columns}
use Rattle.site_today.specs.Standing.{host_today, hosts_of, hosts_today, standing}
use Rattle.site_today.specs.declared.header.TodayColumns.{TodayColumns}

hosts_same : (texts : List NamedText) (f : List ℕ → Option (List ℕ))
    → ((q : List ℕ) → under q texts ≡ f q) → (services : List GridRow)
    → hosts_of texts services ≡ map (λ s. f (name_of s)) services
hosts_same texts f each [] = refl
hosts_same texts f each (s ∷ services) =
    ap (λ h. h ∷ hosts_of texts services) (each (name_of s))
    ∙ ap (λ hs. f (name_of s) ∷ hs) (hosts_same texts f each services)

-- of the rows of two tables, by what each call says
pub hosts_found : (texts : List NamedText) (services today : List GridRow) (cells : List GridCell)
    (columns : TodayColumns) (rows own : List GridRow) (hosts : List (Option (List ℕ)))
    → cells ≡ header today → columns ≡ today_columns cells → rows ≡ behind today
    → ((q : List ℕ) → under q texts ≡ last_under q None (map (standing columns) rows))
    → own ≡ behind services → hosts ≡ hosts_of texts own → hosts ≡ hosts_today services today
hosts_found texts services today cells columns rows own hosts head by tail each mine is =
    let col : columns ≡ today_columns (header today) = by ∙ ap today_columns head in
    is ∙ hosts_same texts (host_today today)
    (λ q. each q ∙ ap (λ k. last_under q None (map (standing k) rows)) col
    ∙ ap (λ rs. last_under q None (map (standing (today_columns (header today))) rs)) tail) own
    ∙ ap (λ ss. map (λ s. host_today today (name_of s)) ss) mine
