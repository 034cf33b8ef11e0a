-- Runs in which one client submits all batches.
use Rattle.cdc_run_command.proofs.Words.{All, All-cons, All-head, All-nil, All-tail, AreCloses, AreMerged, AreSubscribed, Arguments, Batch, Bool, ClientBatch, History, List, None, Option, Reply, Result, Saved, Script, Some, SubscriberState, [], answered_lines, ap, ap₂, arith, batch_line, client_count, cond, empty_history, entries_of, eq-eqb, filter, fold, kept_text, length, map, max, own_of, owners_of, refl, replies_of, reply_lines, scripts_of, shares_from, subscriber_text, subst, suc, sym, true, zero, ℕ, ◌++◌, ◌+◌, ◌-◌, ◌<◌, ◌==◌, ◌∙◌, ◌∷◌, ◌≡◌}
use Rattle.std.proofs.lemmas.Bool.{ne_eqb}
use Rattle.std.proofs.lemmas.Simd.{map-map}
use Rattle.cdc_actors.specs.Connector.{first_origin}
use Rattle.cdc_laws.specs.Connectors.{held_start}
use Rattle.cdc_laws.specs.Line.{line_after}
use Rattle.cdc_laws.proofs.Lines.{line_after-zero}
use Rattle.cdc_ledger.specs.declared.errors.BatchError.{BatchError}
use Rattle.cdc_ledger.specs.Sound.{IsSound}
use Rattle.cdc_ledger.proofs.KeptLaws.{IsSound-after_batches}
use Rattle.cdc_ledger.proofs.SoundLaws.{IsSound-closed, IsSound-empty}
use Rattle.cdc_ledger.specs.Submit.{after_batches, history_or, submit}
use Rattle.cdc_run.specs.Books.{AreBooks}
use Rattle.cdc_run.specs.Determined.{AllKeepTheLine, HaveNone, IsServedAlone, LoneClientsAreServedAlone, answers_from, kept_of_line}
use Rattle.cdc_types.specs.declared.batches.BatchResults.{BatchResults}
use Rattle.cdc_commands.specs.Feeds.{subscribers_text}
use Rattle.cdc_run_command.specs.LoneRuns.{LoneRunsPrintBooks}
use Rattle.cdc_commands.specs.Printed.{answer, answers_to, printed_books}

-- ---- one client's own

-- these are all the same client
abbrev AllAre : ℕ → List ℕ → Type 0
AllAre client owners = All (λ owner. owner ≡ client) owners

-- what is the client's own of entries that are all its own
own_of-all : {X : Type 0} (client : ℕ) (entries : List (ℕ × X)) → AllAre client (map (λ (e : ℕ × X). e.0) entries)
    → own_of client entries ≡ map (λ (e : ℕ × X). e.1) entries
own_of-all client [] own = refl
own_of-all {X} client (e ∷ entries) own =
    let kept : List (ℕ × X) = filter (λ (e' : ℕ × X). e'.0 == client) entries in
    let owners : List ℕ = map (λ (e' : ℕ × X). e'.0) entries in
    ap (λ (b : Bool). map (λ (e' : ℕ × X). e'.1) (cond b (e ∷ kept) kept))
    (eq-eqb e.0 client (All-head (λ (n : ℕ). n ≡ client) e.0 owners own))
    ∙ ap (λ (xs : List X). e.1 ∷ xs)
    (own_of-all client entries (All-tail (λ (n : ℕ). n ≡ client) e.0 owners own))

-- what another client's is of them: nothing
own_of-none : {X : Type 0} (other client : ℕ) (entries : List (ℕ × X)) → (other ≡ client → ⊥)
    → AllAre client (map (λ (e : ℕ × X). e.0) entries) → own_of other entries ≡ []
own_of-none other client [] differ own = refl
own_of-none {X} other client (e ∷ entries) differ own =
    let kept : List (ℕ × X) = filter (λ (e' : ℕ × X). e'.0 == other) entries in
    let owners : List ℕ = map (λ (e' : ℕ × X). e'.0) entries in
    let is : e.0 ≡ client = All-head (λ (n : ℕ). n ≡ client) e.0 owners own in
    ap (λ (b : Bool). map (λ (e' : ℕ × X). e'.1) (cond b (e ∷ kept) kept))
    (ne_eqb e.0 other (λ same. differ (sym same ∙ is)))
    ∙ own_of-none other client entries differ (All-tail (λ (n : ℕ). n ≡ client) e.0 owners own)

-- so many lists of nothing
abbrev nones : {X : Type 0} → ℕ → List (List X)
nones zero = []
nones (suc k) = [] ∷ nones k

-- which are each client's own, up to the one whose all are
shares_of-last : {X : Type 0} (client k number : ℕ) (entries : List (ℕ × X)) → number + k ≡ client
    → AllAre client (map (λ (e : ℕ × X). e.0) entries)
    → shares_from number (suc k) entries ≡ nones k ++ map (λ (e : ℕ × X). e.1) entries ∷ []
shares_of-last {X} client zero number entries at own =
    let same : client ≡ number = omega arith in
    ap (λ (l : List X). l ∷ [])
    (own_of-all number entries (subst (λ (n : ℕ). AllAre n (map (λ (e : ℕ × X). e.0) entries)) same own))
shares_of-last {X} client (suc k) number entries at own =
    let next : number + 1 + k ≡ client = omega arith in
    let differ : number ≡ client → ⊥ = λ same. omega (arith, same) in
    ap₂ (λ (l : List X) (ls : List (List X)). l ∷ ls) (own_of-none number client entries differ own)
    (shares_of-last client k (number + 1) entries next own)

-- a batch with the number of its client
abbrev entry_of : ClientBatch → ℕ × Batch
entry_of b = (b.client, b.batch)

max_same : (n : ℕ) → max n n ≡ n
max_same n = omega arith

max_first : (n : ℕ) → 0 < n → max 1 n ≡ n
max_first n first = omega (arith, first)

-- the greatest number that there is, after one that isn't greater
greatest : (client before : ℕ) (batches : List ClientBatch) → before ≡ client → AllAre client (owners_of batches)
    → fold (λ (m : ℕ) (b : ClientBatch). max m b.client) before batches ≡ client
greatest client before [] is own = is
greatest client before (b ∷ batches) is own =
    let here : b.client ≡ client = All-head (λ (n : ℕ). n ≡ client) b.client (owners_of batches) own in
    let same : max before b.client ≡ client = ap₂ max is here ∙ max_same client in
    greatest client (max before b.client) batches same
    (All-tail (λ (n : ℕ). n ≡ client) b.client (owners_of batches) own)

-- the clients of a script are those up to the one that submits its batches, or up to the first if it has no batches
up_to_one : (batches : List ClientBatch) (client : ℕ) → 0 < client → AllAre client (owners_of batches)
    → (before : ℕ) × ((client_count batches ≡ suc before) × AllAre (suc before) (owners_of batches))
up_to_one [] client first own = (0, (refl, All-nil (λ (n : ℕ). n ≡ 1)))
up_to_one (b ∷ batches) client first own =
    let here : b.client ≡ client = All-head (λ (n : ℕ). n ≡ client) b.client (owners_of batches) own in
    let same : client ≡ suc (client - 1) = omega (arith, first) in
    let start : max 1 b.client ≡ client = ap (max 1) here ∙ max_first client first in (
      client - 1,
      (
        greatest client (max 1 b.client) batches start
            (All-tail (λ (n : ℕ). n ≡ client) b.client (owners_of batches) own)
            ∙ same,
        subst (λ (n : ℕ). AllAre n (owners_of (b ∷ batches))) same own,
      ),
    )

-- so that one submits all, and those before it none
one_script : (script : Script) (before : ℕ) → client_count script.batches ≡ suc before
    → AllAre (suc before) (owners_of script.batches)
    → scripts_of script ≡ nones before ++ map (λ (b : ClientBatch). b.batch) script.batches ∷ []
one_script script before count all =
    let entries : List (ℕ × Batch) = entries_of script.batches in
    let at : 1 + before ≡ suc before = omega arith in
    ap (λ (n : ℕ). shares_from 1 n entries) count
    ∙ shares_of-last (suc before) before 1 entries at
    (subst (AllAre (suc before)) (sym (map-map (λ (e : ℕ × Batch). e.0) entry_of script.batches)) all)
    ∙ ap (λ (bs : List Batch). nones before ++ bs ∷ []) (map-map (λ (e : ℕ × Batch). e.1) entry_of script.batches)

-- a client that got a reply to no batch got no reply
no_replies : (replies : List Reply) → map (λ (r : Reply). r.batch) replies ≡ [] → replies ≡ []
no_replies [] none = refl
no_replies (r ∷ replies) none = cc

-- and that one is replied to them alone
one_share : (before : ℕ) (replies : List (List Reply)) (batches : List Batch)
    → map (map (λ (r : Reply). r.batch)) replies ≡ nones before ++ batches ∷ []
    → (share : List Reply) × ((replies ≡ nones before ++ share ∷ []) × (map (λ (r : Reply). r.batch) share ≡ batches))
one_share zero [] batches same = cc
one_share zero (share ∷ []) batches same = (share, (refl, cc))
one_share zero (share ∷ other ∷ rest) batches same = cc
one_share (suc before) [] batches same = cc
one_share (suc before) (first ∷ rest) batches same =
    let none : map (λ (r : Reply). r.batch) first ≡ [] = cc in
    let behind : map (map (λ (r : Reply). r.batch)) rest ≡ nones before ++ batches ∷ [] = cc in
    let more = one_share before rest batches behind in
    (more.0, (ap₂ (λ (l : List Reply) (ls : List (List Reply)). l ∷ ls) (no_replies first none) more.1.0, more.1.1))

-- how many they are
count_nones : {X : Type 0} (before : ℕ) (share : List X) → length (nones before ++ share ∷ []) ≡ suc before
count_nones zero share = refl
count_nones (suc before) share = ap (λ (n : ℕ). suc n) (count_nones before share)

all_none : (before : ℕ) → HaveNone (nones before)
all_none zero = All-nil (λ (l : List Reply). l ≡ [])
all_none (suc before) = All-cons (λ (l : List Reply). l ≡ []) [] (nones before) refl (all_none before)

-- the last of them
same_last : {X : Type 0} (before : ℕ) (one other : List X) → nones before ++ one ∷ [] ≡ nones before ++ other ∷ []
    → one ≡ other
same_last zero one other same = cc
same_last (suc before) one other same =
    let behind : nones before ++ one ∷ [] ≡ nones before ++ other ∷ [] = cc in
    same_last before one other behind

-- replies that are merged of one client's are that client's
merged_share : (before : ℕ) (owners : List ℕ) (share : List Reply) (entries : List (ℕ × Reply))
    → AllAre (suc before) owners → AreMerged owners (nones before ++ share ∷ []) entries
    → map (λ (e : ℕ × Reply). e.1) entries ≡ share
merged_share before owners share entries own merged =
    let at : 1 + before ≡ suc before = omega arith in
    same_last before (map (λ (e : ℕ × Reply). e.1) entries) share
    (sym (shares_of-last (suc before) before 1 entries at (subst (AllAre (suc before)) (sym merged.owners) own))
    ∙ ap (λ (n : ℕ). shares_from 1 n entries) (sym (count_nones before share))
    ∙ merged.own)

-- ---- text

-- the lines of answers, the first of which is that to the batch of this number
abbrev lines : ℕ → List (Result BatchResults BatchError) → List ℕ
lines n [] = []
lines n (a ∷ rest) = batch_line n a ++ lines (n + 1) rest

lines_of-replies : (n : ℕ) (entries : List (ℕ × Reply))
    → reply_lines n entries ≡ lines n (map (λ (r : Reply). r.answer) (map (λ (e : ℕ × Reply). e.1) entries))
lines_of-replies n [] = refl
lines_of-replies n (e ∷ entries) =
    ap (λ (l : List ℕ). batch_line n e.1.answer ++ l) (lines_of-replies (n + 1) entries)

lines_of-batches : (n : ℕ) (h : History) (batches : List ClientBatch)
    → lines n (answers_from h (map (λ (b : ClientBatch). b.batch) batches)) ≡ answered_lines (answers_to n h batches)
lines_of-batches n h [] = refl
lines_of-batches n h (b ∷ batches) =
    ap (λ (l : List ℕ). batch_line n (answer (submit h b.batch)) ++ l)
    (lines_of-batches (n + 1) (history_or h (submit h b.batch)) batches)

text_of-kept : (n : ℕ) (h : History) (start : ℕ) (bindings : List Arguments)
    → kept_text n (map (kept_of_line h start) bindings) ≡ subscribers_text n (line_after h start) bindings
text_of-kept n h start [] = refl
text_of-kept n h start (b ∷ bindings) =
    ap (λ (l : List ℕ). subscriber_text n (kept_of_line h start b) ++ l) (text_of-kept (n + 1) h start bindings)

-- the ledger of a script, which no event of 0 is in
abbrev ledger_of : Script → History
ledger_of script =
    record (after_batches empty_history (map (λ (b : ClientBatch). b.batch) script.batches)) { closed = true }

sound_ledger : (script : Script) → IsSound (ledger_of script)
sound_ledger script =
    IsSound-closed (after_batches empty_history (map (λ (b : ClientBatch). b.batch) script.batches))
    (IsSound-after_batches empty_history (map (λ (b : ClientBatch). b.batch) script.batches) IsSound-empty)

-- replies that have the answers to a script's batches, and subscribers that keep the line of its history
text_of-books : (script : Script) (ledger : History) (share : List Reply) (entries : List (ℕ × Reply))
    (subscribers : List SubscriberState) → IsServedAlone ledger share
    → map (λ (r : Reply). r.batch) share ≡ map (λ (b : ClientBatch). b.batch) script.batches
    → map (λ (e : ℕ × Reply). e.1) entries ≡ share
    → subscribers ≡ map (kept_of_line ledger 0) script.bindings
    → reply_lines 1 entries ++ kept_text 1 subscribers ≡ printed_books script
text_of-books script ledger share entries subscribers served delivered merged keeps =
    ap₂ (λ (a b : List ℕ). a ++ b)
    (lines_of-replies 1 entries
    ∙ ap (λ (rs : List Reply). lines 1 (map (λ (r : Reply). r.answer) rs)) merged
    ∙ ap (lines 1) (served.answers ∙ ap (answers_from empty_history) delivered)
    ∙ lines_of-batches 1 empty_history script.batches)
    (ap (kept_text 1) keeps
    ∙ text_of-kept 1 ledger 0 script.bindings
    ∙ ap (λ (h : History). subscribers_text 1 (line_after h 0) script.bindings)
    (served.ledger_is
    ∙ ap (λ (bs : List Batch). record (after_batches empty_history bs) { closed = true }) delivered)
    ∙ ap (λ items. subscribers_text 1 items script.bindings)
    (line_after-zero (ledger_of script) (sound_ledger script)))

-- if no session is given a start, the start is the one that is held
start_of_held : (held : Option Saved) → (first_origin None held).start ≡ held_start held
start_of_held None = refl
start_of_held (Some saved) = refl

-- a run by one client prints what `books` prints
pub lone_runs : LoneClientsAreServedAlone → AllKeepTheLine → LoneRunsPrintBooks
lone_runs alone keeps setting script printed one plain runs =
    let run = runs.comes.run in
    let ledger : History = runs.report.ledger in
    let batches : List Batch = map (λ (b : ClientBatch). b.batch) script.batches in
    let up = up_to_one script.batches one.client one.first one.all in
    let only = one_share up.0 (replies_of runs.report) batches
    (run.scripts_are ∙ one_script script up.0 up.1.0 up.1.1) in
    let served : IsServedAlone ledger only.0 =
    alone run.order ledger (nones up.0) only.0 [] (all_none up.0) (All-nil (λ (l : List Reply). l ≡ []))
    (subst (AreBooks run.order ledger) only.1.0 run.books) in
    let come = runs.comes.subscribers (plain.held ∙ sym plain.held_from) in
    let zero : (first_origin setting.plan.start setting.held).start ≡ 0 =
    ap (λ (o : Option ℕ). (first_origin o setting.held).start) plain.start
    ∙ start_of_held setting.held
    ∙ plain.held_from in
    let kept : runs.report.subscribers.items ≡ map (kept_of_line ledger 0) script.bindings =
    keeps 1 ledger 0 script.bindings come.0 runs.report.subscribers.items
    (subst (λ (given : List (ℕ × ℕ)). AreCloses 1 given come.0) plain.closes come.1.0)
    (subst (λ (n : ℕ). AreSubscribed ledger n script.bindings come.0 runs.report.subscribers.items) zero come.1.1) in
    let entries : List (ℕ × Reply) = runs.prints.replies in
    runs.prints.prints
    ∙ text_of-books script ledger only.0 entries runs.report.subscribers.items served only.1.1
    (merged_share up.0 (owners_of script.batches) only.0 entries up.1.1
    (subst (λ (shares : List (List Reply)). AreMerged (owners_of script.batches) shares entries) only.1.0
    runs.prints.merged)) kept
