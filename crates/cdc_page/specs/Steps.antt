-- A step and its answer in the data of a page.
use Rattle.std.specs.Prelude.{ℕ, List, ◌++◌, codes, decimal, true, false}
use Rattle.cdc_subscriber.specs.declared.subscriber.Taking.{Taking}
use Rattle.cdc_subscriber.specs.declared.subscriber.Taking.TheVariants.{Applied, Repeat, Ended, AfterClose}
use Rattle.cdc_types.specs.declared.steps.Step.{Step}
use Rattle.cdc_types.specs.declared.steps.Step.TheVariants.{Submit, CloseLedger, Start, StartAt, Crash, Poll, Publish, Arrive, Answer, Save, Send, Rewind, Break, Take, Ack, Close}
use Rattle.cdc_world.specs.declared.steps.Did.{Did}
use Rattle.cdc_world.specs.declared.steps.Did.TheVariants as did

-- a name and a number, as an array of JSON
abbrev pub named : List ℕ → ℕ → List ℕ
named name n = codes "[\"" ++ name ++ codes "\",\"" ++ decimal n ++ codes "\"]"

-- a step as an array: its name, then its numbers
abbrev pub step_json : Step → List ℕ
step_json (Submit batch) = codes "[\"batch\"]"
step_json CloseLedger = codes "[\"close_ledger\"]"
step_json Start = codes "[\"start\"]"
step_json (StartAt timestamp) = named (codes "start_at") timestamp
step_json Crash = codes "[\"crash\"]"
step_json Poll = codes "[\"poll\"]"
step_json Publish = codes "[\"publish\"]"
step_json (Arrive k) = named (codes "arrive") k
step_json (Answer k) = named (codes "answer") k
step_json Save = codes "[\"save\"]"
step_json (Send i) = named (codes "send") i
step_json (Rewind i) = named (codes "rewind") i
step_json (Break i) = named (codes "break") i
step_json (Take i) = named (codes "take") i
step_json (Ack i k) = codes "[\"ack\",\"" ++ decimal i ++ codes "\",\"" ++ decimal k ++ codes "\"]"
step_json (Close i) = named (codes "close") i

-- what a subscriber did with a delivery
abbrev pub taking_name : Taking → List ℕ
taking_name Applied = codes "applied"
taking_name Repeat = codes "duplicate"
taking_name Ended = codes "ended"
taking_name AfterClose = codes "closed"

-- the answer to a step
abbrev pub did_name : Did → List ℕ
did_name (did.Submitted results) = codes "submitted"
did_name (did.Arrived true) = codes "taken"
did_name (did.Arrived false) = codes "ignored"
did_name (did.Counted true) = codes "counted"
did_name (did.Counted false) = codes "not_counted"
did_name (did.Took taking) = taking_name taking
did_name did.Done = codes "done"
