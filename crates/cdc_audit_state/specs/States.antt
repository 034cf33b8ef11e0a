-- The text of an audit's state: a heading, the lines that a subscriber of the accepted events prints, and a line for
-- each further thing that the auditor knows.
use Rattle.std.specs.Prelude.{ℕ, nat_lt, if◌then◌else◌, List, [], ◌∷◌, ◌++◌, Option, Some, None, map, codes}
use Rattle.std.specs.List.{flat_map}
use Rattle.cdc_types.specs.declared.events.Event.{Event}
use Rattle.cdc_message.specs.Bodies.{body}
use Rattle.cdc_codec.specs.Texts.{flagged, spaced, yes_or_no}
use Rattle.cdc_subscriber.specs.Lines.{account_line, subscriber_text}
use Rattle.cdc_audit.specs.declared.checks.Stored.{Stored}
use Rattle.cdc_audit.specs.declared.checks.Stored.TheVariants.{Plain, Pending, Settled}
use Rattle.cdc_audit.specs.declared.fields.FixedFields.{FixedFields}
use Rattle.cdc_audit.specs.Standing.{AuditorState}
use Rattle.cdc_audit_state.specs.declared.rows.Row.{Row}
use Rattle.cdc_audit_state.specs.declared.rows.Row.TheVariants.{Account, Expired, Transfer, Open, Fields, Time}

-- the line of a stored transfer: its id, and the amount of one that is or was pending
abbrev pub transfer_line : ℕ → Stored → List ℕ
transfer_line id Plain = codes "plain" ++ (spaced id ++ codes "\n")
transfer_line id (Pending amount) = codes "held" ++ (spaced id ++ (spaced amount ++ codes "\n"))
transfer_line id (Settled amount) = codes "settled" ++ (spaced id ++ (spaced amount ++ codes "\n"))

-- the line of an account's fields that never change
abbrev pub fields_line : ℕ → FixedFields → List ℕ
fields_line id fields =
    codes "fields" ++ (spaced id ++ (spaced fields.user_data_128 ++ (spaced fields.user_data_64
    ++ (spaced fields.user_data_32 ++ (spaced fields.ledger ++ (spaced fields.code ++ (spaced fields.flags
    ++ (spaced fields.timestamp ++ codes "\n"))))))))

-- the line of an event's timestamp
abbrev pub time_line : ℕ → List ℕ
time_line timestamp = codes "time" ++ (spaced timestamp ++ codes "\n")

-- the line of an event, by its body
abbrev pub event_line : List ℕ → Event → List ℕ
event_line name e = name ++ (body e ++ codes "\n")

unfoldable pub row_line : Row → List ℕ
row_line (Account entry) = account_line entry
row_line (Expired e) = event_line (codes "expired ") e
row_line (Transfer id stored) = transfer_line id stored
row_line (Open e) = event_line (codes "open ") e
row_line (Fields id fields) = fields_line id fields
row_line (Time timestamp) = time_line timestamp

-- the lines, one after another
abbrev pub rows_text : List Row → List ℕ
rows_text rows = flat_map row_line rows

-- the last expiry, if there is one
abbrev pub expiry_rows : Option Event → List Row
expiry_rows None = []
expiry_rows (Some e) = Expired e ∷ []

abbrev pub transfer_rows : List (ℕ × Stored) → List Row
transfer_rows transfers = map (λ (t : ℕ × Stored). Transfer t.0 t.1) transfers

abbrev pub open_rows : List (ℕ × Event) → List Row
open_rows events = map (λ (o : ℕ × Event). Open o.1) events

abbrev pub fields_rows : List (ℕ × FixedFields) → List Row
fields_rows fields = map (λ (f : ℕ × FixedFields). Fields f.0 f.1) fields

abbrev pub time_rows : List ℕ → List Row
time_rows times = map Time times

-- what an auditor knows besides what its subscriber keeps
abbrev pub known_rows : AuditorState → List Row
known_rows auditor =
    expiry_rows auditor.expired
    ++ (transfer_rows auditor.transfers
    ++ (open_rows auditor.open_ones ++ (fields_rows auditor.fields ++ time_rows auditor.times)))

-- whether the events end with linked transfers, and how many they are if they are more than one: earlier versions
-- didn't count them
abbrev pub chain_text : ℕ → List ℕ
chain_text chain = yes_or_no (nat_lt 0 chain) ++ (if nat_lt 1 chain then spaced chain else [])

-- the version of the text, a flag, and the chain
abbrev pub heading : AuditorState → List ℕ
heading auditor =
    flagged (codes "audit-state 1 foreign") auditor.foreign
    ++ (codes " linked" ++ (chain_text auditor.chain ++ codes "\n"))

-- the whole text
unfoldable pub state_text : AuditorState → List ℕ
state_text auditor = heading auditor ++ (subscriber_text 1 auditor.kept ++ rows_text (known_rows auditor))
