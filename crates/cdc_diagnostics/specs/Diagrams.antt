-- The diagram of a simulation, in Mermaid's text: the actors, and a line for each step.
use Rattle.std.specs.Prelude.{ℕ, zero, suc, ◌+◌, List, [], ◌∷◌, ◌++◌, codes, decimal, if◌then◌else◌, Option, None, Some}
use Rattle.cdc_types.specs.declared.steps.Step.{Step}
use Rattle.cdc_types.specs.declared.steps.Step.TheVariants.{Arrive, Answer, Send, Rewind, Break, Take, Ack, Close}
use Rattle.cdc_world.specs.declared.moved.Moved.{Moved}
use Rattle.cdc_world.specs.declared.moved.Moved.TheVariants.{EventsOffered, PacketSent, PacketTaken, ProgressSaved, DeliverySent, FlightLost, DeliveryTaken}
use Rattle.cdc_world.specs.declared.steps.Did.{Did}
use Rattle.cdc_commands.specs.Seen.{Seen}
use Rattle.cdc_diagnostics.specs.Traces.{did_text, has_counted, money_text, packet_text, taken_with}

-- ---- the actors: the ledger is L, the connector C, the broker B, and subscriber i is Si

-- a subscriber
abbrev pub participant : ℕ → List ℕ
participant i = codes "    participant S" ++ decimal i ++ codes " as subscriber " ++ decimal i ++ codes "\n"

-- the subscribers up to this number
abbrev pub participants : ℕ → List ℕ
participants zero = []
participants (suc i) = participants i ++ participant (i + 1)

-- the head of a diagram with so many subscribers
abbrev pub diagram_head : ℕ → List ℕ
diagram_head subscribers =
    codes "sequenceDiagram\n" ++ codes "    participant L as ledger\n" ++ codes "    participant C as connector\n"
    ++ codes "    participant B as broker\n" ++ participants subscribers

-- ---- arrows and notes

-- a step that moved nothing is a note
abbrev pub still_arrow : Step → List ℕ
still_arrow (Close i) = codes "Note over S" ++ decimal i ++ codes ": "
still_arrow _ = codes "Note over L: "

-- the queue that a step is about
abbrev pub queue_of : Step → Option ℕ
queue_of (Send i) = Some i
queue_of (Rewind i) = Some i
queue_of (Break i) = Some i
queue_of (Take i) = Some i
queue_of (Ack i k) = Some i
queue_of _ = None

-- a delivery goes from the broker to the subscriber, or is lost on the way; other moves are notes
abbrev pub delivery_arrow : ℕ → Moved → List ℕ
delivery_arrow i (DeliverySent position item) = codes "B-)S" ++ decimal i ++ codes ": "
delivery_arrow i (FlightLost count acked) = codes "B--xS" ++ decimal i ++ codes ": "
delivery_arrow i (DeliveryTaken position item) =
    codes "Note over S" ++ decimal i ++ codes ": position " ++ decimal position ++ codes ", "
delivery_arrow i _ = codes "Note over B: queue " ++ decimal i ++ codes " "

-- an acknowledgement goes from the subscriber to the broker
abbrev pub queue_arrow : ℕ → Step → Moved → List ℕ
queue_arrow i (Ack j k) moved =
    codes "S" ++ decimal i ++ codes "-->>B: acknowledgement " ++ decimal k ++ codes ", "
queue_arrow i _ moved = delivery_arrow i moved

-- a packet that the broker ignored, and a confirm; other moves are notes over the connector
abbrev pub answer_arrow : Step → Did → List ℕ
answer_arrow (Arrive k) did = codes "C-xB: packet " ++ decimal k ++ codes ", "
answer_arrow (Answer k) did =
    if has_counted did then codes "B-->>C: confirm " ++ decimal k ++ codes ", "
    else codes "B--xC: confirm " ++ decimal k ++ codes ", "
answer_arrow _ did = codes "Note over C: "

-- events go from the ledger to the connector, packets from the connector to the broker
abbrev pub connector_arrow : Step → Did → Moved → List ℕ
connector_arrow step did (PacketSent number packet) = codes "Note over C: sent: "
connector_arrow step did (ProgressSaved session timestamp) = codes "Note over C: saved: "
connector_arrow step did (EventsOffered count first last complete) = codes "L->>C: "
connector_arrow step did (PacketTaken packet) = codes "C->>B: "
connector_arrow step did _ = answer_arrow step did

abbrev pub arrow_at : Option ℕ → Step → Did → Moved → List ℕ
arrow_at None step did moved = connector_arrow step did moved
arrow_at (Some i) step did moved = queue_arrow i step moved

abbrev pub arrow_of : Step → Did → Option Moved → List ℕ
arrow_of step did None = still_arrow step
arrow_of step did (Some moved) = arrow_at (queue_of step) step did moved

-- the arrow or the note of a step
abbrev pub arrow_text : Seen → List ℕ
arrow_text seen = arrow_of seen.step seen.did seen.moved

-- ---- lines

-- a packet that arrived: what it is, if the broker took it
abbrev pub arrival_label : ℕ → List ℕ → Option Moved → List ℕ
arrival_label k did None = did
arrival_label k did (Some (PacketTaken packet)) = packet_text k packet
arrival_label k did (Some _) = did

abbrev pub label_of : Step → List ℕ → Option Moved → List ℕ
label_of (Arrive k) did moved = arrival_label k did moved
label_of _ did moved = did

-- what a step did, or the packet that it took
abbrev pub label_text : ℕ → Seen → List ℕ
label_text n seen = label_of seen.step (did_text n seen) seen.moved

-- the line of a step; the ledger has taken n batches, with this one
abbrev pub diagram_line : ℕ → Seen → List ℕ
diagram_line n seen = codes "    " ++ arrow_text seen ++ label_text n seen ++ money_text seen ++ codes "\n"

-- the lines of steps; the ledger took n batches before them
abbrev pub diagram_after : ℕ → List Seen → List ℕ
diagram_after n [] = []
diagram_after n (seen ∷ rest) =
    diagram_line (taken_with n seen.step) seen ++ diagram_after (taken_with n seen.step) rest

-- the diagram of steps from the first one on, with so many subscribers
abbrev pub diagram_text : ℕ → List Seen → List ℕ
diagram_text subscribers seen = diagram_head subscribers ++ diagram_after 0 seen
