-- Steps as texts.
use Rattle.std.specs.Prelude.{ℕ, List, ◌++◌, codes, decimal}
use Rattle.cdc_types.specs.declared.steps.Step.{Step}
use Rattle.cdc_types.specs.declared.steps.Step.TheVariants.{Submit, CloseLedger, Start, StartAt, Crash, Poll, Publish, Arrive, Answer, Save, Send, Rewind, Break, Take, Ack, Close}

-- the line of a step file for this step
abbrev pub step_line : Step → List ℕ
step_line (Submit batch) = codes "batch"
step_line CloseLedger = codes "close_ledger"
step_line Start = codes "start"
step_line (StartAt timestamp) = codes "start at " ++ decimal timestamp
step_line Crash = codes "crash"
step_line Poll = codes "poll"
step_line Publish = codes "publish"
step_line (Arrive k) = codes "arrive " ++ decimal k
step_line (Answer k) = codes "answer " ++ decimal k
step_line Save = codes "save"
step_line (Send i) = codes "send " ++ decimal i
step_line (Rewind i) = codes "rewind " ++ decimal i
step_line (Break i) = codes "break " ++ decimal i
step_line (Take i) = codes "take " ++ decimal i
step_line (Ack i k) = codes "ack " ++ decimal i ++ codes " " ++ decimal k
step_line (Close i) = codes "close " ++ decimal i
