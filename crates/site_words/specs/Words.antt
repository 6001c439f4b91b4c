-- What words ask for.
use Rattle.std.specs.Prelude.{ℕ, Bool, not, ◌&&◌, ◌||◌, if◌then◌else◌, nat_eq, List, [], ◌∷◌, Option, None, Some, is_some, codes, bytes_eq, option_map, option_and_then}
use Rattle.std.specs.List.{starts_with}
use Rattle.site_tables.specs.Columns.{prefixed}
use Rattle.site_words.specs.declared.options.Found.{Found}
use Rattle.site_words.specs.declared.request.Request.{Request}
use Rattle.site_words.specs.declared.request.Task.{Task}
use Rattle.site_words.specs.declared.request.Task.TheVariants as task

-- what is printed: a model, with nothing that is best, few hosts in use, an even load of a resource
-- or few moves from today; today as a former text; an answer as a table, and with what has changed
pub data Job : Type 0 where
  Plain : Job
  Fewest : Job
  Spread : List ℕ → Job
  Keep : Job
  Former : Job
  Table : Job
  Changes : Job

abbrev pub job_of : Task → Job
job_of task.Plain = Plain
job_of task.Fewest = Fewest
job_of (task.Spread resource) = Spread resource.now
job_of task.Keep = Keep
job_of task.Former = Former
job_of task.Table = Table
job_of task.Changes = Changes

-- what is printed and the files that it is made of: those of two tables, maybe one of what runs
-- where (a table or an answer), and one beside it (constraints or a former text)
pub record Asked : Type 0 where
  pub job : Job
  pub hosts : List ℕ
  pub services : List ℕ
  pub state : Option (List ℕ)
  pub beside : Option (List ℕ)

abbrev pub request_seen : Request → Asked
request_seen r = record {
  job = job_of r.task;
  hosts = r.hosts.now;
  services = r.services.now;
  state = option_map (λ w. w.now) r.state;
  beside = option_map (λ w. w.now) r.beside;
}

-- a word that begins with a dash; such a file is named as `./-name`
abbrev pub is_option : List ℕ → Bool
is_option word = starts_with nat_eq word (codes "-")

-- what stands behind `--goal`, `--extra` and `--from`
pub record Options : Type 0 where
  pub goal : Option (List ℕ)
  pub extra : Option (List ℕ)
  pub from : Option (List ℕ)

abbrev pub options_seen : Found → Options
options_seen f = record {
  goal = option_map (λ w. w.now) f.goal;
  extra = option_map (λ w. w.now) f.extra;
  from = option_map (λ w. w.now) f.from;
}

abbrev pub no_options : Options
no_options = record { goal = None; extra = None; from = None }

-- each stands once, and no file is an option
abbrev pub with_goal : Options → List ℕ → Option Options
with_goal o v =
    if is_some o.goal then None
    else Some (record { goal = Some v; extra = o.extra; from = o.from })

abbrev pub with_extra : Options → List ℕ → Option Options
with_extra o v =
    if is_some o.extra || is_option v then None
    else Some (record { goal = o.goal; extra = Some v; from = o.from })

abbrev pub with_from : Options → List ℕ → Option Options
with_from o v =
    if is_some o.from || is_option v then None
    else Some (record { goal = o.goal; extra = o.extra; from = Some v })

abbrev pub with_option : Options → List ℕ → List ℕ → Option Options
with_option o w v =
    if bytes_eq w (codes "--goal") then with_goal o v
    else if bytes_eq w (codes "--extra") then with_extra o v
    else if bytes_eq w (codes "--from") then with_from o v else None

-- options with what stands behind each, in any order
unfoldable pub options : Option Options → List (List ℕ) → Option Options
options None ws = None
options (Some o) [] = Some o
options (Some o) (w ∷ []) = None
options (Some o) (w ∷ v ∷ ws) = options (with_option o w v) ws

-- a third file stands before the options
abbrev pub state_in : List (List ℕ) → Option (List ℕ)
state_in [] = None
state_in (w ∷ ws) = if is_option w then None else Some w

abbrev pub options_in : List (List ℕ) → List (List ℕ)
options_in [] = []
options_in (w ∷ ws) = if is_option w then w ∷ ws else ws

-- a goal of two tables alone
abbrev pub spread_named : List ℕ → Option Job
spread_named word = option_map Spread (prefixed (codes "spread:") word)

abbrev pub goal_named : List ℕ → Option Job
goal_named word =
    if bytes_eq word (codes "none") then Some Plain
    else if bytes_eq word (codes "fewest") then Some Fewest else spread_named word

-- the goal of two tables and of today
abbrev pub keep_named : List ℕ → Option Job
keep_named word = if bytes_eq word (codes "keep") then Some Keep else None

abbrev pub plain_job : Option (List ℕ) → Option Job
plain_job None = Some Plain
plain_job (Some goal) = goal_named goal

abbrev pub model_by : Option (List ℕ) → Option (List ℕ) → Option Job
model_by None goal = plain_job goal
model_by (Some state) goal = option_and_then keep_named goal

-- `model HOSTS SERVICES`, with any option but `--from`, and with TODAY where the goal is `keep`
abbrev pub model_job : Option (List ℕ) → Options → Option Job
model_job state o = if is_some o.from then None else model_by state o.goal

-- `former HOSTS SERVICES TODAY`
abbrev pub former_job : Option (List ℕ) → Options → Option Job
former_job state o =
    if is_some state && not (is_some o.goal || is_some o.extra || is_some o.from)
    then Some Former else None

-- `table HOSTS SERVICES ANSWER`, maybe with `--from FORMER`
abbrev pub table_job : Option (List ℕ) → Options → Option Job
table_job state o =
    if is_some state && not (is_some o.goal || is_some o.extra)
    then Some (if is_some o.from then Changes else Table) else None

abbrev pub command_job : List ℕ → Option (List ℕ) → Options → Option Job
command_job command state o =
    if bytes_eq command (codes "model") then model_job state o
    else if bytes_eq command (codes "former") then former_job state o
    else if bytes_eq command (codes "table") then table_job state o else None

-- the file of `--extra`, or of `--from`
abbrev pub beside_of : Options → Option (List ℕ)
beside_of o = if is_some o.extra then o.extra else o.from

abbrev pub asked_for : List ℕ → List ℕ → Option (List ℕ) → Options → Job → Asked
asked_for hosts services state o job = record {
  job = job;
  hosts = hosts;
  services = services;
  state = state;
  beside = beside_of o;
}

abbrev pub asked_by : List ℕ → List ℕ → List ℕ → Option (List ℕ) → Option Options → Option Asked
asked_by command hosts services state None = None
asked_by command hosts services state (Some o) =
    option_map (asked_for hosts services state o) (command_job command state o)

-- a command, the files of two tables, maybe a third file, and options
abbrev pub asked : List (List ℕ) → Option Asked
asked [] = None
asked (c ∷ []) = None
asked (c ∷ h ∷ []) = None
asked (c ∷ h ∷ s ∷ ws) =
    if is_option h || is_option s then None
    else asked_by c h s (state_in ws) (options (Some no_options) (options_in ws))
