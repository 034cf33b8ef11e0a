-- The statement of one line of a script, given the lines above it.
use Rattle.std.specs.Prelude.{ℕ, ◌+◌, ◌==◌, ◌||◌, nat_le, nat_lt, not, List, [], ◌∷◌, ◌++◌, map, find, Option, Some, None, Result, Ok, Err, codes, unwrap_or, if◌then◌else◌}
use Rattle.std.specs.List.{take_while}
use Rattle.std.specs.Option.{option_map}
use Rattle.std.specs.Result.{is_ok}
use Rattle.std.specs.Str.{bytes_eq}
use Rattle.cdc_types.specs.declared.bounds.TheConstants.Limits.{CLIENTS, SUBSCRIBERS}
use Rattle.cdc_types.specs.Lines.{first_line}
use Rattle.cdc_types.specs.Widths.{max_64}
use Rattle.cdc_match.specs.declared.errors.BindError.{BindError}
use Rattle.cdc_match.specs.Arguments.{Arguments}
use Rattle.cdc_match.specs.Parsing.{arguments_of}
use Rattle.cdc_script.specs.declared.faults.Detail.{Detail}
use Rattle.cdc_script.specs.declared.faults.BatchEnd.{BatchEnd}
use Rattle.cdc_script.specs.declared.faults.BatchEnd.TheVariants as end
use Rattle.cdc_script.specs.declared.faults.Detail.TheVariants.{Plain, BatchBegan, BatchEnded, NoBinding}
use Rattle.cdc_script.specs.declared.faults.FaultKind.{FaultKind}
use Rattle.cdc_script.specs.declared.faults.FaultKind.TheVariants.{UnknownWord, WrongCount, NoOpenBatch, BadBinding, TooManySubscribers, BadClient}
use Rattle.cdc_script.specs.declared.faults.LineFault.{LineFault}
use Rattle.cdc_script.specs.declared.fields.ItemKind.{ItemKind}
use Rattle.cdc_script.specs.declared.fields.ItemKind.TheVariants as item
use Rattle.cdc_script.specs.declared.statements.Context.{Context}
use Rattle.cdc_script.specs.declared.statements.Statement.{Statement}
use Rattle.cdc_script.specs.declared.statements.Statement.TheVariants as states
use Rattle.cdc_script.specs.Fields.{fields_of, account_of}
use Rattle.cdc_script.specs.Numbers.{number_of}
use Rattle.cdc_script.specs.Faults.{◌>>=◌, bad_text, checked, in_word, missing, span_of, wrong}
use Rattle.cdc_script.specs.Words.{Placed, is_clear, spoken}

-- the line ends here; if there is another word, it is at fault
abbrev pub ended : {A : Type 0} → FaultKind → A → List Placed → Result A LineFault
ended fault stated [] = Ok stated
ended fault stated (word ∷ rest) = checked word (Err (wrong fault word))

-- a number of 64 bits, and the words after it
abbrev pub number_word : List Placed → Result (ℕ × List Placed) LineFault
number_word [] = Err (missing WrongCount)
number_word (word ∷ rest) = checked word (in_word word (number_of max_64 word.bytes) >>= λ n. Ok (n, rest))

-- the word at fault if the words aren't a binding: the first one with which the words up to it aren't a binding
abbrev pub refused_word : List (List ℕ) → List Placed → Option Placed
refused_word before [] = None
refused_word before (word ∷ rest) =
    if is_ok (arguments_of (before ++ word.bytes ∷ [])) then refused_word (before ++ word.bytes ∷ []) rest
    else Some word

-- the words are no binding
abbrev pub no_binding : List Placed → BindError → LineFault
no_binding words why =
    record { word = option_map span_of (refused_word [] words); kind = BadBinding; detail = NoBinding why }

-- all errors of a binding become the same kind of fault
abbrev pub readable : List Placed → Result Arguments BindError → Result Arguments LineFault
readable words (Ok binding) = Ok binding
readable words (Err why) = Err (no_binding words why)

-- the binding that the words represent
abbrev pub binding_of : List Placed → Result Arguments LineFault
binding_of words = readable words (arguments_of (map (λ word. word.bytes) words))

-- printable words, and the next one, if that isn't printable: it is at fault if those before it are a binding or none
abbrev pub subscriber_stated : List Placed → Option Placed → Result Statement LineFault
subscriber_stated leading None = binding_of leading >>= λ binding. Ok (states.Subscriber binding)
subscriber_stated [] (Some bad) = Err (bad_text bad)
subscriber_stated (word ∷ rest) (Some bad) = binding_of (word ∷ rest) >>= λ binding. Err (bad_text bad)

-- the binding of a subscriber, or the first fault from the left
abbrev pub binding_line : List Placed → Result Statement LineFault
binding_line rest = subscriber_stated (take_while is_clear rest) (find (λ word. not (is_clear word)) rest)

-- a subscriber line; if there are as many subscribers as allowed, its binding isn't read
abbrev pub subscriber_line : ℕ → Placed → List Placed → Result Statement LineFault
subscriber_line subscribers first rest = if nat_le SUBSCRIBERS subscribers then Err (wrong TooManySubscribers first)
    else binding_line rest

-- what is wrong with the number of a client
abbrev pub bad_client : List Placed → LineFault
bad_client [] = missing BadClient
bad_client (word ∷ rest) = wrong BadClient word

-- the client of the batches that follow
abbrev pub client_line : List Placed → Result Statement LineFault
client_line rest = do
  number ← number_word rest
  if (number.0 == 0) || nat_lt CLIENTS number.0 then Err (bad_client rest)
      else (ended WrongCount number.0 number.1 >>= λ n. Ok (states.Client n))

-- a number of 64 bits alone
abbrev pub lone_number : List Placed → Result ℕ LineFault
lone_number rest = do
  number ← number_word rest
  ended WrongCount number.0 number.1

-- what became of the batch above an item that no batch takes: one of the other kind began, or it ended
abbrev pub batch_detail : Option ItemKind → ℕ → Option BatchEnd → Detail
batch_detail (Some kind) line ended_by = BatchBegan line
batch_detail None line None = Plain
batch_detail None line (Some end) = BatchEnded line end

-- no batch takes the item whose line begins with this word
abbrev pub no_batch : Context → Placed → LineFault
no_batch context first = record {
  word = Some (span_of first);
  kind = NoOpenBatch;
  detail = batch_detail context.open_batch context.batch_line context.ended_by;
}

-- an account of the open batch, which has to be one of accounts
abbrev pub account_line : Option ItemKind → LineFault → List Placed → Result Statement LineFault
account_line (Some item.Account) fault rest =
    fields_of item.Account rest >>= λ fields. Ok (states.Account (account_of fields))
account_line _ fault rest = Err fault

-- a transfer of the open batch, which has to be one of transfers
abbrev pub transfer_line : Option ItemKind → LineFault → List Placed → Result Statement LineFault
transfer_line (Some item.Transfer) fault rest = fields_of item.Transfer rest >>= λ fields. Ok (states.Transfer fields)
transfer_line _ fault rest = Err fault

-- the first word decides what the words after it mean
abbrev pub meaning : Context → Placed → List Placed → Result Statement LineFault
meaning context first rest = checked first (unwrap_or (first_line (
    (bytes_eq first.bytes (codes "subscriber"), subscriber_line context.subscribers first rest) ∷
    (bytes_eq first.bytes (codes "client"), client_line rest) ∷
    (bytes_eq first.bytes (codes "accounts"), (lone_number rest >>= λ now. Ok (states.Accounts now))) ∷
    (bytes_eq first.bytes (codes "transfers"), (lone_number rest >>= λ now. Ok (states.Transfers now))) ∷
    (bytes_eq first.bytes (codes "pulse"), (lone_number rest >>= λ now. Ok (states.Pulse now))) ∷
    (bytes_eq first.bytes (codes "account"), account_line context.open_batch (no_batch context first) rest) ∷
    (bytes_eq first.bytes (codes "transfer"), transfer_line context.open_batch (no_batch context first) rest) ∷
    [])) (Err (wrong UnknownWord first)))

-- the statement of the words, or nothing if there are none
abbrev pub words_state : Context → List Placed → Result (Option Statement) LineFault
words_state context [] = Ok None
words_state context (first ∷ rest) = meaning context first rest >>= λ stated. Ok (Some stated)

-- the statement of a line, or nothing if it is blank or a comment
abbrev pub line_states : Context → Placed → Result (Option Statement) LineFault
line_states context line = words_state context (spoken line)

-- what is known of the line that ended the last batch, or began the open one: this is known where the open batch ends
abbrev pub ended_in : {A : Type 0} → A → Option ItemKind → A → A
ended_in now (Some kind) before = now
ended_in now None before = before

-- what a line that ends a batch, and begins none of items, leaves for those below it
abbrev pub after_end : ℕ → BatchEnd → Context → ℕ → Context
after_end n end context subscribers = record {
  open_batch = None;
  subscribers = subscribers;
  batch_line = ended_in n context.open_batch context.batch_line;
  ended_by = ended_in (Some end) context.open_batch context.ended_by;
}

-- what the statement of this line leaves for the lines below it: a batch is open after its line and after its items
abbrev pub after : ℕ → Context → Statement → Context
after n context (states.Subscriber binding) = after_end n end.Subscriber context (context.subscribers + 1)
after n context (states.Accounts now) =
    record { open_batch = Some item.Account; subscribers = context.subscribers; batch_line = n; ended_by = None }
after n context (states.Transfers now) =
    record { open_batch = Some item.Transfer; subscribers = context.subscribers; batch_line = n; ended_by = None }
after n context (states.Account a) = record context { open_batch = Some item.Account }
after n context (states.Transfer t) = record context { open_batch = Some item.Transfer }
after n context (states.Client client) = after_end n end.Client context context.subscribers
after n context (states.Pulse now) = after_end n end.Pulse context context.subscribers
