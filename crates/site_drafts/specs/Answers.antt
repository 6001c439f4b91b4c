-- What is printed of the texts of all files, and why nothing is.
use Rattle.std.specs.Prelude.{ℕ, ◌≡◌, List, None, Some}
use Rattle.site_faults.specs.Faults.{site_fault}
use Rattle.site_tables.specs.Grid.{GridRow}
use Rattle.site_tables.specs.declared.fault.Fault.{Fault}
use Rattle.site_tables.specs.declared.fault.TableName.TheVariants.{Hosts, Services}
use Rattle.site_drafts.specs.Drafts.{IsDraft, IsUndrafted, IsMeasured, IsUnmeasured}
use Rattle.site_drafts.specs.Tables.{HasRows, IsNoText}
use Rattle.site_words.specs.Words.{Job}
use Rattle.site_drafts.specs.declared.making.Texts.{Texts}
use Rattle.site_drafts.specs.declared.refusal.Refusal.{Refusal}
use Rattle.site_drafts.specs.declared.refusal.Refusal.TheVariants.{Faulty, Memory}

-- the texts of all files; nothing of one that isn't asked for
pub record Given : Type 0 where
  pub hosts : List ℕ
  pub services : List ℕ
  pub state : List ℕ
  pub beside : List ℕ

abbrev pub given : List ℕ → List ℕ → List ℕ → List ℕ → Given
given hosts services state beside = record {
  hosts = hosts;
  services = services;
  state = state;
  beside = beside;
}

abbrev pub texts_seen : Texts → Given
texts_seen t = given t.hosts.items t.services.items t.state.items t.beside.items

-- this was made of the tables of a site, and was measured
pub record IsMade (job : Job) (hosts services : List GridRow) (state beside text : List ℕ)
    : Type 0 where
  pub draft : IsDraft job hosts services state beside text
  pub measured : IsMeasured job text

pub data IsUnmade : Job → List GridRow → List GridRow → List ℕ → List ℕ → Refusal → Type 0 where
  undrafted : {job : Job} {hosts services : List GridRow} {state beside : List ℕ} {r : Refusal}
      → IsUndrafted job hosts services state beside r
      → IsUnmade job hosts services state beside r
  unmeasured : {job : Job} {hosts services : List GridRow} {state beside : List ℕ} {r : Refusal}
      (text : List ℕ) → IsDraft job hosts services state beside text → IsUnmeasured job text r
      → IsUnmade job hosts services state beside r

-- the tables are those of a site: of all faults there is none
pub record IsSiteMade (job : Job) (hosts services : List GridRow) (state beside text : List ℕ)
    : Type 0 where
  pub sound : site_fault hosts services ≡ None
  pub made : IsMade job hosts services state beside text

pub data IsSiteUnmade : Job → List GridRow → List GridRow → List ℕ → List ℕ → Refusal
    → Type 0 where
  lacking : {job : Job} {hosts services : List GridRow} {state beside : List ℕ}
      → IsSiteUnmade job hosts services state beside Memory
  -- of all faults this is the first
  faulty : {job : Job} {hosts services : List GridRow} {state beside : List ℕ} {f : Fault}
      → site_fault hosts services ≡ Some f
      → IsSiteUnmade job hosts services state beside (Faulty f)
  sound : {job : Job} {hosts services : List GridRow} {state beside : List ℕ} {r : Refusal}
      → site_fault hosts services ≡ None → IsUnmade job hosts services state beside r
      → IsSiteUnmade job hosts services state beside r

-- what is printed of all texts
pub record IsAnswer (job : Job) (g : Given) (text : List ℕ) : Type 0 where
  pub hosts : List GridRow
  pub services : List GridRow
  pub hosts_read : HasRows g.hosts hosts
  pub services_read : HasRows g.services services
  pub made : IsSiteMade job hosts services g.state g.beside text

-- why nothing is
pub data IsUnanswered : Job → Given → Refusal → Type 0 where
  no_hosts : {job : Job} {g : Given} {r : Refusal} → IsNoText Hosts g.hosts r
      → IsUnanswered job g r
  no_services : {job : Job} {g : Given} {r : Refusal} → IsNoText Services g.services r
      → IsUnanswered job g r
  unmade : {job : Job} {g : Given} {r : Refusal} (hosts services : List GridRow)
      → HasRows g.hosts hosts → HasRows g.services services
      → IsSiteUnmade job hosts services g.state g.beside r
      → IsUnanswered job g r
