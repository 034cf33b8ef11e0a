-- What holds of every script: it has a subscriber, and no more of them and no other clients than there may be.
use Rattle.cdc_run_command.proofs.Words.{Bool, CLIENTS, ClientBatch, Err, IsClient, IsRunnable, List, None, Numbered, Ok, Option, Result, SUBSCRIBERS, Script, Some, [], after_line, ap, arith, at_top, batches_of, bindings_of, codes, cons_option, false, find, if◌then◌else◌, length, lines_of, max_bytes, nat_le, nat_lt, nat_tests, not, numbered, refl, script_of, script_of_lines, script_stated, script_with, slice_get, statements, statements_from, subst, suc, take_while, true, unwrap_or, zero, ℕ, ◌+◌, ◌<◌, ◌==◌, ◌||◌, ◌∷◌, ◌≡◌, ◌≤◌}
use Rattle.std.specs.Str.{bytes_eq}
use Rattle.cdc_types.specs.Lines.{first_line}
use Rattle.cdc_script.specs.Faults.{◌>>=◌, bad_text, in_line, wrong}
use Rattle.cdc_script.specs.Fields.{account_of, fields_of}
use Rattle.cdc_script.specs.Statements.{account_line, after, bad_client, binding_line, binding_of, client_line, ended, line_states, lone_number, meaning, no_batch, number_word, subscriber_line, subscriber_stated, transfer_line, words_state}
use Rattle.cdc_script.specs.Words.{Placed, is_clear, is_printable, lines, spoken}
use Rattle.cdc_script.specs.declared.faults.FaultKind.TheVariants as kind
use Rattle.cdc_script.specs.declared.faults.LineFault.{LineFault}
use Rattle.cdc_script.specs.declared.fields.ItemKind.{ItemKind}
use Rattle.cdc_script.specs.declared.fields.ItemKind.TheVariants as item
use Rattle.cdc_script.specs.declared.scripts.ScriptLines.{ScriptLines}
use Rattle.cdc_script.specs.declared.statements.Context.{Context}
use Rattle.cdc_script.specs.declared.statements.Statement.{Statement}
use Rattle.cdc_script.specs.declared.statements.Statement.TheVariants as states

-- a statement names only clients that may exist, and is a subscriber's only if there are fewer above it than there
-- may be
abbrev IsLawful : ℕ → Statement → Type 0
IsLawful above (states.Client n) = IsClient n
IsLawful above (states.Subscriber binding) = above < SUBSCRIBERS
IsLawful above (states.Accounts now) = Unit {0}
IsLawful above (states.Transfers now) = Unit {0}
IsLawful above (states.Account a) = Unit {0}
IsLawful above (states.Transfer t) = Unit {0}
IsLawful above (states.Pulse now) = Unit {0}

-- whatever is read is such a statement
abbrev Reads : Context → Result Statement LineFault → Type 0
Reads context r = (s : Statement) → r ≡ Ok s → IsLawful context.subscribers s

reads_fault : (context : Context) (fault : LineFault) → Reads context (Err fault)
reads_fault context fault s is = cc

reads : (context : Context) (stated : Statement) → IsLawful context.subscribers stated → Reads context (Ok stated)
reads context stated law s is = let same : stated ≡ s = cc in subst (IsLawful context.subscribers) same law

reads_if : (context : Context) (b : Bool) (r r' : Result Statement LineFault) → (b ≡ true → Reads context r)
    → (b ≡ false → Reads context r') → Reads context (if b then r else r')
reads_if context true r r' where_so where_not = where_so refl
reads_if context false r r' where_so where_not = where_not refl

reads_then : {A : Type 0} (context : Context) (r : Result A LineFault) (next : A → Result Statement LineFault)
    → ((x : A) → Reads context (next x)) → Reads context (r >>= next)
reads_then context (Ok x) next each = each x
reads_then context (Err fault) next each = reads_fault context fault

-- ---- lines

one_more_subscriber : (n : ℕ) → nat_le SUBSCRIBERS n ≡ false → n < SUBSCRIBERS
one_more_subscriber n tested = grind (arith, nat_tests)

reads_stated : (context : Context) (leading : List Placed) (bad : Option Placed) → context.subscribers < SUBSCRIBERS
    → Reads context (subscriber_stated leading bad)
reads_stated context leading None fewer =
    reads_then context (binding_of leading) (λ binding. Ok (states.Subscriber binding))
    (λ binding. reads context (states.Subscriber binding) fewer)
reads_stated context [] (Some bad) fewer = reads_fault context (bad_text bad)
reads_stated context (word ∷ rest) (Some bad) fewer =
    reads_then context (binding_of (word ∷ rest)) (λ binding. Err (bad_text bad))
    (λ binding. reads_fault context (bad_text bad))

reads_subscriber : (context : Context) (first : Placed) (rest : List Placed)
    → Reads context (subscriber_line context.subscribers first rest)
reads_subscriber context first rest =
    reads_if context (nat_le SUBSCRIBERS context.subscribers) (Err (wrong kind.TooManySubscribers first))
    (binding_line rest) (λ _. reads_fault context (wrong kind.TooManySubscribers first))
    (λ tested. reads_stated context (take_while is_clear rest) (find (λ word. not (is_clear word)) rest)
    (one_more_subscriber context.subscribers tested))

reads_ended : (context : Context) (n : ℕ) (rest : List Placed) → IsClient n
    → Reads context (ended kind.WrongCount n rest >>= λ m. Ok (states.Client m))
reads_ended context n [] is = reads context (states.Client n) is
reads_ended context n (word ∷ rest) is = at_fault (is_printable word.bytes)
  where
    at_fault : (b : Bool)
        → Reads context ((if b then Err (wrong kind.WrongCount word) else Err (bad_text word))
        >>= λ m. Ok (states.Client m))
    at_fault true = reads_fault context (wrong kind.WrongCount word)
    at_fault false = reads_fault context (bad_text word)

client_tested : (n : ℕ) → ((n == 0) || nat_lt CLIENTS n) ≡ false → IsClient n
client_tested n tested = record { least = grind (arith, nat_tests); greatest = grind (arith, nat_tests) }

reads_client : (context : Context) (rest : List Placed) → Reads context (client_line rest)
reads_client context rest =
    reads_then context (number_word rest) _ (λ number.
    reads_if context ((number.0 == 0) || nat_lt CLIENTS number.0) (Err (bad_client rest))
    (ended kind.WrongCount number.0 number.1 >>= λ n. Ok (states.Client n)) (λ _. reads_fault context (bad_client rest))
    (λ tested. reads_ended context number.0 number.1 (client_tested number.0 tested)))

reads_account : (context : Context) (open_batch : Option ItemKind) (fault : LineFault) (rest : List Placed)
    → Reads context (account_line open_batch fault rest)
reads_account context None fault rest = reads_fault context fault
reads_account context (Some item.Account) fault rest =
    reads_then context (fields_of item.Account rest) (λ fields. Ok (states.Account (account_of fields)))
    (λ fields. reads context (states.Account (account_of fields)) tt)
reads_account context (Some item.Transfer) fault rest = reads_fault context fault

reads_transfer : (context : Context) (open_batch : Option ItemKind) (fault : LineFault) (rest : List Placed)
    → Reads context (transfer_line open_batch fault rest)
reads_transfer context None fault rest = reads_fault context fault
reads_transfer context (Some item.Account) fault rest = reads_fault context fault
reads_transfer context (Some item.Transfer) fault rest =
    reads_then context (fields_of item.Transfer rest) (λ fields. Ok (states.Transfer fields))
    (λ fields. reads context (states.Transfer fields) tt)

-- ---- all lines

-- each row of a table reads such statements
abbrev AllRead : Context → List (Bool × Result Statement LineFault) → Type 0
AllRead context [] = Unit {0}
AllRead context (row ∷ rows) = Reads context row.1 × AllRead context rows

-- so does its first row that applies
reads_table : (context : Context) (rows : List (Bool × Result Statement LineFault)) (fault : LineFault)
    → AllRead context rows → Reads context (unwrap_or (first_line rows) (Err fault))
reads_table context [] fault all = reads_fault context fault
reads_table context (row ∷ rows) fault all = decided row.0 (reads_table context rows fault all.1)
  where
    decided : (b : Bool) → Reads context (unwrap_or (first_line rows) (Err fault))
        → Reads context (unwrap_or (if b then Some row.1 else first_line rows) (Err fault))
    decided true rest = all.0
    decided false rest = rest

-- the table of the first words of lines
abbrev table : Context → Placed → List Placed → List (Bool × Result Statement LineFault)
table context first rest =
    (bytes_eq first.bytes (codes "subscriber"), subscriber_line context.subscribers first rest) ∷
    (bytes_eq first.bytes (codes "client"), client_line rest) ∷
    (bytes_eq first.bytes (codes "accounts"), (lone_number rest >>= λ now. Ok (states.Accounts now))) ∷
    (bytes_eq first.bytes (codes "transfers"), (lone_number rest >>= λ now. Ok (states.Transfers now))) ∷
    (bytes_eq first.bytes (codes "pulse"), (lone_number rest >>= λ now. Ok (states.Pulse now))) ∷
    (bytes_eq first.bytes (codes "account"), account_line context.open_batch (no_batch context first) rest) ∷
    (bytes_eq first.bytes (codes "transfer"), transfer_line context.open_batch (no_batch context first) rest) ∷
    []

reads_rows : (context : Context) (first : Placed) (rest : List Placed) → AllRead context (table context first rest)
reads_rows context first rest = (
  reads_subscriber context first rest,
  (
    reads_client context rest,
    (
      reads_then context (lone_number rest) (λ now. Ok (states.Accounts now))
          (λ now. reads context (states.Accounts now) tt),
      (
        reads_then context (lone_number rest) (λ now. Ok (states.Transfers now))
            (λ now. reads context (states.Transfers now) tt),
        (
          reads_then context (lone_number rest) (λ now. Ok (states.Pulse now))
              (λ now. reads context (states.Pulse now) tt),
          (
            reads_account context context.open_batch (no_batch context first) rest,
            (reads_transfer context context.open_batch (no_batch context first) rest, tt),
          ),
        ),
      ),
    ),
  ),
)

reads_meaning : (context : Context) (first : Placed) (rest : List Placed) → Reads context (meaning context first rest)
reads_meaning context first rest =
    reads_if context (is_printable first.bytes)
    (unwrap_or (first_line (table context first rest)) (Err (wrong kind.UnknownWord first)))
    (Err (bad_text first))
    (λ _. reads_table context (table context first rest) (wrong kind.UnknownWord first)
    (reads_rows context first rest))
    (λ _. reads_fault context (bad_text first))

-- what was read of several things one after another, if there was no fault
read_first : {A B E : Type 0} (r : Result A E) (next : A → Result B E) (y : B) → (r >>= next) ≡ Ok y
    → (x : A) × ((r ≡ Ok x) × (next x ≡ Ok y))
read_first (Ok x) next y is = (x, (refl, is))
read_first (Err e) next y is = cc

-- how many subscribers there are after a statement
abbrev counted : ℕ → Statement → ℕ
counted above (states.Subscriber binding) = above + 1
counted above _ = above

-- how many there are after a line
abbrev counted_line : ℕ → Option Statement → ℕ
counted_line above None = above
counted_line above (Some stated) = counted above stated

-- statements each of which is lawful at its place
abbrev AreLawful : ℕ → List Statement → Type 0
AreLawful above [] = Unit {0}
AreLawful above (s ∷ rest) = IsLawful above s × AreLawful (counted above s) rest

-- the statement of a line joins those below it
abbrev Joins : ℕ → List Statement → Option Statement → Type 0
Joins above more stated = AreLawful (counted_line above stated) more → AreLawful above (cons_option stated more)

lawful_line : (context : Context) (text : List Placed) (stated : Option Statement) (more : List Statement)
    → words_state context text ≡ Ok stated → Joins context.subscribers more stated
lawful_line context [] stated more is =
    let same : None ≡ stated = cc in subst (Joins context.subscribers more) same (λ below. below)
lawful_line context (first ∷ words) stated more is =
    let found = read_first (meaning context first words) (λ s. Ok (Some s)) stated is in
    let same : Some found.0 ≡ stated = cc (found.1.1) in
    subst (Joins context.subscribers more) same (λ below. (reads_meaning context first words found.0 found.1.0, below))

unplaced : {A : Type 0} (n : ℕ) (line : Placed) (r : Result A LineFault) (x : A) → in_line n line r ≡ Ok x → r ≡ Ok x
unplaced n line (Ok y) x is = let same : y ≡ x = cc in ap Ok same
unplaced n line (Err fault) x is = cc

-- a line leaves so many subscribers
after_counts : (n : ℕ) (context : Context) (stated : Statement)
    → (after n context stated).subscribers ≡ counted context.subscribers stated
after_counts n context (states.Subscriber binding) = refl
after_counts n context (states.Client client) = refl
after_counts n context (states.Accounts now) = refl
after_counts n context (states.Transfers now) = refl
after_counts n context (states.Account a) = refl
after_counts n context (states.Transfer t) = refl
after_counts n context (states.Pulse now) = refl

after_line_counts : (n : ℕ) (context : Context) (stated : Option Statement)
    → (after_line n context stated).subscribers ≡ counted_line context.subscribers stated
after_line_counts n context None = refl
after_line_counts n context (Some stated) = after_counts n context stated

-- the statement of a line comes before those of the other lines
statements_joined : (n : ℕ) (stated : Option Statement) (more : List Numbered)
    → cons_option stated (statements more) ≡ statements (cons_option (numbered n stated) more)
statements_joined n None more = refl
statements_joined n (Some stated) more = refl

lawful_lines : (n : ℕ) (context : Context) (all : List Placed) (out : List Numbered)
    → statements_from n context all ≡ Ok out → AreLawful context.subscribers (statements out)
lawful_lines n context [] out is =
    let same : [] ≡ out = cc in subst (λ (o : List Numbered). AreLawful context.subscribers (statements o)) same tt
lawful_lines n context (line ∷ rest) out is =
    let stated = read_first (in_line n line (line_states context line))
    (λ (s : Option Statement). statements_from (n + 1) (after_line n context s) rest
    >>= λ (ss : List Numbered). Ok (cons_option (numbered n s) ss)) out is in
    let more = read_first (statements_from (n + 1) (after_line n context stated.0) rest)
    (λ (ss : List Numbered). Ok (cons_option (numbered n stated.0) ss)) out stated.1.1 in
    let same : cons_option (numbered n stated.0) more.0 ≡ out = cc (more.1.1) in
    let below = lawful_lines (n + 1) (after_line n context stated.0) rest more.0 more.1.0 in
    let counts = subst (λ (above : ℕ). AreLawful above (statements more.0))
    (after_line_counts n context stated.0) below in
    subst (λ (o : List Numbered). AreLawful context.subscribers (statements o)) same
    (subst (AreLawful context.subscribers) (statements_joined n stated.0 more.0)
    (lawful_line context (spoken line) stated.0 (statements more.0)
    (unplaced n line (line_states context line) stated.0 stated.1.0) counts))

-- ---- the batches of scripts

-- each batch is that of such a client
abbrev AreOfClients : List ClientBatch → Type 0
AreOfClients batches = (k : ℕ) (b : ClientBatch) → slice_get batches k ≡ Some b → IsClient b.client

one_more : (b : ClientBatch) (batches : List ClientBatch) → IsClient b.client → AreOfClients batches
    → AreOfClients (b ∷ batches)
one_more b batches is rest zero b' found =
    let same : b ≡ b' = cc in subst (λ (x : ClientBatch). IsClient x.client) same is
one_more b batches is rest (suc k) b' found = rest k b' found

lawful_batches : (above : ℕ) (client : ℕ) (stated : List Statement) → IsClient client → AreLawful above stated
    → AreOfClients (batches_of client stated)
lawful_batches above client [] is law = λ k b found. cc
lawful_batches above client (states.Subscriber binding ∷ rest) is law = lawful_batches (above + 1) client rest is law.1
lawful_batches above client (states.Client n ∷ rest) is law = lawful_batches above n rest law.0 law.1
lawful_batches above client (states.Accounts now ∷ rest) is law =
    one_more _ (batches_of client rest) is (lawful_batches above client rest is law.1)
lawful_batches above client (states.Transfers now ∷ rest) is law =
    one_more _ (batches_of client rest) is (lawful_batches above client rest is law.1)
lawful_batches above client (states.Account a ∷ rest) is law = lawful_batches above client rest is law.1
lawful_batches above client (states.Transfer t ∷ rest) is law = lawful_batches above client rest is law.1
lawful_batches above client (states.Pulse now ∷ rest) is law =
    one_more _ (batches_of client rest) is (lawful_batches above client rest is law.1)

-- ---- the bindings of scripts

-- with those above them there are no more than there may be
few_bindings : (above : ℕ) (stated : List Statement) → above ≤ SUBSCRIBERS → AreLawful above stated
    → above + length (bindings_of stated) ≤ SUBSCRIBERS
few_bindings above [] few law = omega (arith, few)
few_bindings above (states.Subscriber binding ∷ rest) few law =
    let more = few_bindings (above + 1) rest (omega (arith, law.0)) law.1 in
    omega (arith, more)
few_bindings above (states.Client n ∷ rest) few law = few_bindings above rest few law.1
few_bindings above (states.Accounts now ∷ rest) few law = few_bindings above rest few law.1
few_bindings above (states.Transfers now ∷ rest) few law = few_bindings above rest few law.1
few_bindings above (states.Account a ∷ rest) few law = few_bindings above rest few law.1
few_bindings above (states.Transfer t ∷ rest) few law = few_bindings above rest few law.1
few_bindings above (states.Pulse now ∷ rest) few law = few_bindings above rest few law.1

-- a script has a binding, and the bindings and the batches of its statements
runnable_with : (bindings : List _) (batches : List ClientBatch) (at : ScriptLines) (script : Script)
    → length bindings ≤ SUBSCRIBERS → AreOfClients batches → script_with bindings batches at ≡ Ok script
    → IsRunnable script
runnable_with [] batches at script few of is = cc
runnable_with (binding ∷ rest) batches at script few of is =
    let made : Script = record { bindings = binding ∷ rest; batches = batches; lines = at } in
    let same : made ≡ script = cc in
    subst IsRunnable same (record { some = omega arith; few = few; clients = of })

unless : {A E : Type 0} (b : Bool) (e : E) (r : Result A E) (x : A) → (if b then Err e else r) ≡ Ok x → r ≡ Ok x
unless true e r x is = cc
unless false e r x is = is

-- so a run can be made of every script
pub runnable : (bytes : List ℕ) (script : Script) → script_of bytes ≡ Ok script → IsRunnable script
runnable bytes script is =
    let short : script_of_lines (lines bytes) ≡ Ok script = unless (nat_lt max_bytes (length bytes)) _ _ script is in
    let stated = read_first (statements_from 1 at_top (lines bytes)) script_stated script short in
    let lawful = lawful_lines 1 at_top (lines bytes) stated.0 stated.1.0 in
    let few = few_bindings 0 (statements stated.0) (omega arith) lawful in
    runnable_with (bindings_of (statements stated.0)) (batches_of 1 (statements stated.0)) (lines_of stated.0) script
    (omega (arith, few))
    (lawful_batches 0 1 (statements stated.0) (record { least = omega arith; greatest = omega arith })
    lawful) stated.1.1
