-- What a script comes to that is run on threads: each client submits its own batches, whatever the others do.
use Rattle.std.specs.Prelude.{◌≡◌, ◌==◌, ℕ, ◌+◌, zero, suc, Bool, List, [], ◌∷◌, ◌++◌, Option, Some, None, IfSome, Ok, filter, fold, length, map, max}
use Rattle.cdc_actors.specs.Connector.{first_origin}
use Rattle.cdc_laws.specs.Connectors.{held_start, held_timestamp}
use Rattle.cdc_progress.specs.Records.{Saved}
use Rattle.cdc_progress.specs.Stores.{Risks}
use Rattle.cdc_run.specs.Counts.{MayCount}
use Rattle.cdc_run.specs.Made.{AreCloses, plan_of}
use Rattle.cdc_run.specs.Ran.{RanFrom}
use Rattle.cdc_run.specs.Reports.{AreSubscribed, HasRun, replies_of}
use Rattle.cdc_run.specs.declared.configs.Config.{Config}
use Rattle.cdc_run.specs.declared.reports.Report.{Report}
use Rattle.cdc_script.specs.Scripts.{script_of}
use Rattle.cdc_script.specs.declared.scripts.ClientBatch.{ClientBatch}
use Rattle.cdc_script.specs.declared.scripts.Script.{Script}
use Rattle.cdc_subscriber.specs.SubscriberState.{SubscriberState}
use Rattle.cdc_subscriber.specs.Lines.{subscriber_text}
use Rattle.cdc_traffic.specs.declared.requests.Reply.{Reply}
use Rattle.cdc_types.specs.declared.batches.Batch.{Batch}
use Rattle.cdc_commands.specs.Report.{batch_line}
use Rattle.cdc_commands.specs.declared.endings.Ending.{Ending}
use Rattle.cdc_commands.specs.declared.endings.Ending.TheVariants.{Done}
use Rattle.cdc_plans.specs.declared.run_plans.RunPlan.{RunPlan}
use Rattle.cdc_run_command.specs.declared.reports.Ran.{Ran}

-- how many clients a run of these batches has: the greatest of their numbers, or 1
abbrev pub client_count : List ClientBatch → ℕ
client_count batches = fold (λ n b. max n b.client) 1 batches

-- the client that submits each batch
abbrev pub owners_of : List ClientBatch → List ℕ
owners_of batches = map (λ b. b.client) batches

-- the batches, each with the number of its client
abbrev pub entries_of : List ClientBatch → List (ℕ × Batch)
entries_of batches = map (λ b. (b.client, b.batch)) batches

-- a client's own of such entries, in their order
abbrev pub own_of : {X : Type 0} → ℕ → List (ℕ × X) → List X
own_of client entries = map (λ e. e.1) (filter (λ e. e.0 == client) entries)

-- what is each client's own, of so many clients from this number on
abbrev pub shares_from : {X : Type 0} → ℕ → ℕ → List (ℕ × X) → List (List X)
shares_from client zero entries = []
shares_from client (suc n) entries = own_of client entries ∷ shares_from (client + 1) n entries

-- what each client of a script submits, in its order
abbrev pub scripts_of : Script → List (List Batch)
scripts_of script = shares_from 1 (client_count script.batches) (entries_of script.batches)

-- entries whose clients come in this order, and of which these lists are each client's own
pub record AreMerged {X : Type 0} (order : List ℕ) (shares : List (List X)) (entries : List (ℕ × X)) : Type 0 where
  pub owners : map (λ e. e.0) entries ≡ order
  pub own : shares_from 1 (length shares) entries ≡ shares

-- the lines of replies, the first of which is that to the batch of this number
abbrev pub reply_lines : ℕ → List (ℕ × Reply) → List ℕ
reply_lines n [] = []
reply_lines n (entry ∷ rest) = batch_line n entry.1.answer ++ reply_lines (n + 1) rest

-- the lines of subscribers that keep this, the first of which has this number
abbrev pub kept_text : ℕ → List SubscriberState → List ℕ
kept_text n [] = []
kept_text n (kept ∷ rest) = subscriber_text n kept ++ kept_text (n + 1) rest

-- this is printed of a report: the replies to all batches, each client's in its own order and the clients in this
-- order, and then what each subscriber holds
pub record PrintsReport (order : List ℕ) (report : Report) (printed : List ℕ) : Type 0 where
  pub replies : List (ℕ × Reply)
  pub merged : AreMerged order (replies_of report) replies
  pub prints : printed ≡ reply_lines 1 replies ++ kept_text 1 report.subscribers.items

-- a script, which is that of these bytes if they are known, is one of which this is printed
abbrev pub StatesScript : (Script → List ℕ → Type 0) → Option (List ℕ) → List ℕ → Type 0
StatesScript Prints bytes printed =
    (script : Script) × (IfSome bytes (λ all. script_of all ≡ Ok script) × Prints script printed)

-- if a run of the script of these bytes came to a report, this is printed of it, if reports are printed so
abbrev pub IsPrintedOf : (Script → List ℕ → Report → List ℕ → Type 0) → Option (List ℕ) → Option Ran → List ℕ → Type 0
IsPrintedOf Prints bytes None printed = Unit {0}
IsPrintedOf Prints bytes (Some ran) printed =
    StatesScript (λ script. Prints script ran.owners.items ran.report) bytes printed

-- what a run is given besides its script: its plan, what its store holds, whether that is honest, and why it may refuse
pub record Setting : Type 0 where
  pub plan : RunPlan
  pub held : Option Saved
  pub honest : Bool
  pub risks : Risks

-- what a run of this plan is given over a store that holds this, is honest or not, and may refuse for these reasons
abbrev pub setting_of : RunPlan → Option Saved → Bool → Risks → Setting
setting_of plan held honest risks = record { plan = plan; held = held; honest = honest; risks = risks }

-- the actors of a run of this script by this plan are made of this: the script's bindings, its clients, and the plan's
-- window, prefetch and start
pub record IsConfigOf (plan : RunPlan) (script : Script) (config : Config) : Type 0 where
  pub bindings : config.bindings.items ≡ script.bindings
  pub clients : config.clients ≡ client_count script.batches
  pub window : config.window ≡ plan.window
  pub prefetch : config.prefetch ≡ plan.prefetch
  pub start : config.start ≡ plan.start

-- the report is of a run that was made so, by the plan's faults
pub record RanBy (setting : Setting) (script : Script) (report : Report) : Type 0 where
  pub config : Config
  pub is_config : IsConfigOf setting.plan script config
  pub ran : RanFrom config setting.plan.faults setting.held setting.honest setting.risks (scripts_of script) report

-- a run of this script may come to this report. One order of all batches, each client's in its own order, gives the
-- ledger and the replies. The run was made as it was asked for, and the counts are those of a run with this plan. Over
-- a store that holds nothing, or a timestamp that is its start, each subscriber has come to what it may rely on after
-- the start: the one that is held, or else the timestamp that was given, or 0
pub record MayComeTo (setting : Setting) (script : Script) (report : Report) : Type 0 where
  pub run : HasRun (scripts_of script) report
  pub ran : RanBy setting script report
  pub counts : MayCount (plan_of setting.plan.faults) script.bindings report.counts
  pub subscribers : held_timestamp setting.held ≡ held_start setting.held
      → (closes : List (Option ℕ)) × (AreCloses 1 setting.plan.faults.close.items closes
      × AreSubscribed report.ledger (first_origin setting.plan.start setting.held).start script.bindings closes
      report.subscribers.items)

-- a run of this script came to this: the client of each of its batches, its lines, and a report that it may come to
pub record IsRunOf (setting : Setting) (script : Script) (ran : Ran) : Type 0 where
  pub owners : ran.owners.items ≡ owners_of script.batches
  pub lines : ran.lines ≡ script.lines
  pub comes : MayComeTo setting script ran.report

-- a run of the script that a text writes, whose bytes are known or not, came to this; if there is none, the command
-- didn't end well
abbrev pub HasRunOf : Setting → Option (List ℕ) → Ending → Option Ran → Type 0
HasRunOf setting bytes ending None = ending ≡ Done → ⊥
HasRunOf setting bytes ending (Some ran) =
    IfSome bytes (λ all. (script : Script) × ((script_of all ≡ Ok script) × IsRunOf setting script ran))

-- a run of this script prints this, for some report that it may come to, if reports are printed so
pub record RunsTo (Prints : List ℕ → Report → List ℕ → Type 0) (setting : Setting) (script : Script)
    (printed : List ℕ) : Type 0 where
  pub report : Report
  pub comes : MayComeTo setting script report
  pub prints : Prints (owners_of script.batches) report printed
