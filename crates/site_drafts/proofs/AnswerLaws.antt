-- From the steps of an answer to what is printed, or why nothing is.
use Rattle.std.proofs.Common.{◌≡◌, ℕ, List, None, Some}
use Rattle.site_faults.specs.Faults.{site_fault}
use Rattle.site_tables.specs.Grid.{GridRow}
use Rattle.site_tables.specs.declared.fault.Fault.{Fault}
use Rattle.site_tables.specs.declared.fault.TableName.TheVariants.{Hosts, Services}
use Rattle.site_drafts.specs.Answers.{Given, IsMade, IsUnmade, undrafted, unmeasured, IsSiteMade, IsSiteUnmade, lacking, faulty, sound, IsAnswer, IsUnanswered, no_hosts, no_services, unmade}
use Rattle.site_drafts.specs.Drafts.{IsDraft, IsUndrafted, IsMeasured, IsUnmeasured}
use Rattle.site_drafts.specs.Tables.{HasRows, IsNoText}
use Rattle.site_words.specs.Words.{Job}
use Rattle.site_drafts.specs.declared.refusal.Refusal.{Refusal}
use Rattle.site_drafts.specs.declared.refusal.Refusal.TheVariants.{Faulty, Memory}

pub is_made : (job : Job) (hosts services : List GridRow) (state beside text : List ℕ)
    → IsDraft job hosts services state beside text → IsMeasured job text
    → IsMade job hosts services state beside text
is_made job hosts services state beside text draft measured = record {
  draft = draft;
  measured = measured;
}

pub undrafted_unmade : (job : Job) (hosts services : List GridRow) (state beside : List ℕ)
    (r : Refusal) → IsUndrafted job hosts services state beside r
    → IsUnmade job hosts services state beside r
undrafted_unmade job hosts services state beside r h = undrafted h

pub unmeasured_unmade : (job : Job) (hosts services : List GridRow) (state beside text : List ℕ)
    (r : Refusal) → IsDraft job hosts services state beside text → IsUnmeasured job text r
    → IsUnmade job hosts services state beside r
unmeasured_unmade job hosts services state beside text r draft h = unmeasured text draft h

pub is_site_made : (job : Job) (hosts services : List GridRow) (state beside text : List ℕ)
    → site_fault hosts services ≡ None → IsMade job hosts services state beside text
    → IsSiteMade job hosts services state beside text
is_site_made job hosts services state beside text none made = record {
  sound = none;
  made = made;
}

pub lack_unmade : (job : Job) (hosts services : List GridRow) (state beside : List ℕ)
    → IsSiteUnmade job hosts services state beside Memory
lack_unmade job hosts services state beside = lacking

pub faulty_unmade : (job : Job) (hosts services : List GridRow) (state beside : List ℕ)
    (f : Fault) → site_fault hosts services ≡ Some f
    → IsSiteUnmade job hosts services state beside (Faulty f)
faulty_unmade job hosts services state beside f h = faulty h

pub sound_unmade : (job : Job) (hosts services : List GridRow) (state beside : List ℕ)
    (r : Refusal) → site_fault hosts services ≡ None
    → IsUnmade job hosts services state beside r → IsSiteUnmade job hosts services state beside r
sound_unmade job hosts services state beside r none h = sound none h

pub is_answer : (job : Job) (given : Given) (hosts services : List GridRow) (text : List ℕ)
    → HasRows given.hosts hosts → HasRows given.services services
    → IsSiteMade job hosts services given.state given.beside text → IsAnswer job given text
is_answer job given hosts services text hosts_read services_read made = record {
  hosts = hosts;
  services = services;
  hosts_read = hosts_read;
  services_read = services_read;
  made = made;
}

pub hosts_unanswered : (job : Job) (given : Given) (r : Refusal) → IsNoText Hosts given.hosts r
    → IsUnanswered job given r
hosts_unanswered job given r h = no_hosts h

pub services_unanswered : (job : Job) (given : Given) (r : Refusal)
    → IsNoText Services given.services r → IsUnanswered job given r
services_unanswered job given r h = no_services h

pub unmade_unanswered : (job : Job) (given : Given) (r : Refusal) (hosts services : List GridRow)
    → HasRows given.hosts hosts → HasRows given.services services
    → IsSiteUnmade job hosts services given.state given.beside r → IsUnanswered job given r
unmade_unanswered job given r hosts services hosts_read services_read h =
    unmade hosts services hosts_read services_read h
