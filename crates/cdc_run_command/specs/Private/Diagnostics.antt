-- Replies as JSON lines, in their order.
use Rattle.std.specs.Prelude.{ℕ, ◌+◌, List, [], ◌∷◌}
use Rattle.serde_json.specs.Data.{Data}
use Rattle.cdc_commands.specs.JsonValues.{batch_value}
use Rattle.cdc_traffic.specs.declared.requests.Reply.{Reply}

-- the values of replies, the first of which is that to the batch of this number
abbrev pub numbered_values : ℕ → List Reply → List Data
numbered_values n [] = []
numbered_values n (reply ∷ rest) = batch_value n reply.answer ∷ numbered_values (n + 1) rest
