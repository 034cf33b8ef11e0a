-- The replies to clients, while they are put into the order of the script.
use Rattle.std.specs.Prelude.{◌≡◌, ℕ, ◌+◌, ◌-◌, ◌<◌, ◌≤◌, List, [], ◌∷◌, ◌++◌, Some, length, slice_get, slice_set}
use Rattle.cdc_traffic.specs.declared.requests.Reply.{Reply}
use Rattle.cdc_commands.specs.Report.{batch_line}

module _ {X : Type 0} where
  -- a client has one of its own left, of which so many of each client are taken
  pub record HasNext (shares : List (List X)) (taken : List ℕ) (client : ℕ) : Type 0 where
    pub share : List X
    pub count : ℕ
    pub from_one : 1 ≤ client
    pub share_is : slice_get shares (client - 1) ≡ Some share
    pub count_is : slice_get taken (client - 1) ≡ Some count
    pub left : count < length share

  -- the next one of a client is taken
  pub record TakesNext (shares : List (List X)) (old : List ℕ) (client : ℕ) (next : X) (new : List ℕ) : Type 0 where
    pub share : List X
    pub count : ℕ
    pub share_is : slice_get shares (client - 1) ≡ Some share
    pub count_is : slice_get old (client - 1) ≡ Some count
    pub next_is : slice_get share count ≡ Some next
    pub new_is : new ≡ slice_set old (client - 1) (count + 1)

-- the lines of replies, the first of which is that to the batch of this number
abbrev pub numbered_lines : ℕ → List Reply → List ℕ
numbered_lines n [] = []
numbered_lines n (reply ∷ rest) = batch_line n reply.answer ++ numbered_lines (n + 1) rest
