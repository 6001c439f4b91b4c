-- Tables by what each call says of the names of hosts.
use Rattle.std.proofs.Common.{◌≡◌, ℕ, List, Option, None, map, ap, sym, ◌∙◌}
use Rattle.std.proofs.Math.Path.{fun_ext}
use Rattle.serde_json.specs.Data.{Data}
use Rattle.site_tables.specs.Grid.{GridRow, behind}
use Rattle.site_tables.specs.declared.fault.Place.{Place}
use Rattle.site_texts.specs.Pairs.{NamedText, last_under, under}
use Rattle.site_answer.specs.Names.{host_names, names_in, worded_host}
use Rattle.site_answer.specs.Rows.{rows_text, unplaced}
use Rattle.site_answer.specs.Table.{table_text, unplaced_in}

-- names that were found are those of the table
names_same : (texts : List NamedText) (hosts rows : List GridRow) → rows ≡ behind hosts
    → ((q : List ℕ) → under q texts ≡ last_under q None (map worded_host rows))
    → names_in texts ≡ host_names hosts
names_same texts hosts rows is each =
    fun_ext (λ q. each q ∙ ap (λ rs. last_under q None (map worded_host rs)) is)

pub unplaced_is : (texts : List NamedText) (hosts services rows own : List GridRow) (answer : Data)
    (o : Option Place) → rows ≡ behind hosts
    → ((q : List ℕ) → under q texts ≡ last_under q None (map worded_host rows))
    → own ≡ behind services → o ≡ unplaced (names_in texts) answer own
    → unplaced_in hosts services answer ≡ o
unplaced_is texts hosts services rows own answer o is each mine said =
    sym (said ∙ ap (λ names. unplaced names answer own) (names_same texts hosts rows is each)
    ∙ ap (λ ss. unplaced (host_names hosts) answer ss) mine)

pub text_is : (texts : List NamedText) (hosts services rows own : List GridRow) (answer : Data)
    (former : Option Data) (text : List ℕ) → rows ≡ behind hosts
    → ((q : List ℕ) → under q texts ≡ last_under q None (map worded_host rows))
    → own ≡ behind services → text ≡ rows_text (names_in texts) answer former own
    → text ≡ table_text hosts services answer former
text_is texts hosts services rows own answer former text is each mine said =
    said ∙ ap (λ names. rows_text names answer former own) (names_same texts hosts rows is each)
    ∙ ap (λ ss. rows_text (host_names hosts) answer former ss) mine
