-- A state's text, part by part.
use Rattle.cdc_audit_state.proofs.Words.{AllByRecursion, AuditorState, BookEntry, CanBeSaved, EntryFits, GivesParts, List, None, PartsState, Row, RowFits, Some, [], account_line, ap, append_assoc, chain_text, codes, false, flat_map, flat_map-append, heading, known_rows, row_line, rows_text, spaced, subscriber_line, sym, yes_or_no, ℕ, ◌++◌, ◌∙◌, ◌∷◌, ◌≡◌, Bool, arith, nat_eq, refl, true, ◌^◌}
use Rattle.cdc_audit_state.specs.States.{state_text}
use Rattle.cdc_audit_state.specs.declared.saved.Front.{Front}
use Rattle.cdc_audit_state.specs.Headings.{IsFront, ReadsChain, ReadsFront}
use Rattle.cdc_codec.specs.ReadBack.{ReadsFlag, ReadsNumber}
use Rattle.std.specs.List.{starts_with}
use Rattle.std.proofs.Common.{ap₂, nat_lt, if◌then◌else◌}
use Rattle.std.proofs.lemmas.Bool.{ltb-false, ltb-true}
use Rattle.cdc_audit_state.proofs.PartLemmas.{account_rows, accounts_text, contained}

-- what precedes the lines, and the lines
pub state_parts : (auditor : AuditorState)
    → state_text auditor ≡ heading auditor ++ (subscriber_line 1 auditor.kept
    ++ rows_text (account_rows auditor.kept.book ++ known_rows auditor))
unfolding state_text
state_parts auditor =
    let accounts = flat_map account_line auditor.kept.book in
    let known = rows_text (known_rows auditor) in
    ap (λ text. heading auditor ++ text)
    (append_assoc (subscriber_line 1 auditor.kept) accounts known
    ∙ ap (λ text. subscriber_line 1 auditor.kept ++ text)
    (ap (λ text. text ++ known) (sym (accounts_text auditor.kept.book))
    ∙ sym (flat_map-append row_line (account_rows auditor.kept.book) (known_rows auditor))))

-- each line has the widths of its numbers
pub rows_fit : (auditor : AuditorState) → CanBeSaved auditor
    → AllByRecursion RowFits (account_rows auditor.kept.book ++ known_rows auditor)
rows_fit auditor can = by auditor.kept.book can.book.fit
  where
    by : (entries : List BookEntry) → AllByRecursion EntryFits entries
        → AllByRecursion RowFits (account_rows entries ++ known_rows auditor)
    by [] fit = can.rows
    by (entry ∷ rest) fit = (fit.0, by rest fit.1)

regroup : (a w b x z s n p q l m e f c k y rest : List ℕ)
    → ((a ++ w) ++ (b ++ (x ++ z))) ++ (((s ++ n) ++ ((p ++ q) ++ ((l ++ m) ++ ((e ++ f) ++ ((c ++ k) ++ y))))) ++ rest)
    ≡ a ++ (w ++ (b ++ (x ++ (z ++ (s ++ (n ++ (p ++ (q ++ (l ++ (m ++ (e ++ (f ++ (c ++ (k ++ (y ++ rest)))))))))))))))
regroup a w b x z s n p q l m e f c k y rest = simp append_assoc

-- what precedes the lines, number by number
pub front_text : (auditor : AuditorState) (lines : List ℕ)
    → heading auditor ++ (subscriber_line 1 auditor.kept ++ lines)
    ≡ codes "audit-state 1 foreign" ++ (yes_or_no auditor.foreign ++ (codes " linked" ++ (chain_text auditor.chain
    ++ (codes "\nsubscriber" ++ (spaced 1 ++ (codes " applied" ++ (spaced auditor.kept.applied
    ++ (codes " last" ++ (spaced auditor.kept.last ++ (codes " ended" ++ (yes_or_no auditor.kept.ended
    ++ (codes " closed" ++ (yes_or_no auditor.kept.closed ++ 10 ∷ lines)))))))))))))
front_text auditor lines =
    let kept = auditor.kept in
    regroup (codes "audit-state 1 foreign") (yes_or_no auditor.foreign) (codes " linked") (chain_text auditor.chain)
    (codes "\n") (codes "subscriber") (spaced 1) (codes " applied") (spaced kept.applied) (codes " last")
    (spaced kept.last) (codes " ended") (yes_or_no kept.ended) (codes " closed") (yes_or_no kept.closed) (codes "\n")
    lines

-- ---- the whole

-- an auditor put together of what was read
abbrev pub auditor_of : Front → PartsState → AuditorState
auditor_of front parts = record {
  foreign = front.foreign;
  kept = record {
    book = parts.accounts;
    last = front.last;
    applied = front.applied;
    ended = front.ended;
    closed = false;
  };
  transfers = parts.transfers;
  open_ones = parts.open_ones;
  fields = parts.fixed;
  times = parts.times;
  chain = front.chain;
  expired = parts.expired;
}

-- the lines of a state's text
abbrev pub all_rows : AuditorState → List Row
all_rows state = account_rows state.kept.book ++ known_rows state

same_auditor : (state : AuditorState) (front : Front) (lines : List ℕ) → IsFront front state lines
    → state.kept.closed ≡ false
    → auditor_of front (record {
      accounts = state.kept.book;
      expired = state.expired;
      transfers = state.transfers;
      open_ones = state.open_ones;
      fixed = state.fields;
      times = state.times;
    })
    ≡ state
same_auditor state front lines is open_yet = λ i. record {
  foreign = is.foreign i;
  kept = record {
    book = state.kept.book;
    last = is.last i;
    applied = is.applied i;
    ended = is.ended i;
    closed = sym open_yet i;
  };
  transfers = state.transfers;
  open_ones = state.open_ones;
  fields = state.fields;
  times = state.times;
  chain = is.chain i;
  expired = state.expired;
}

-- what was read of a state's text is the state
pub reads_front : (text : List ℕ) (front : Front) (state : AuditorState) → ReadsFront text front → CanBeSaved state
    → text ≡ state_text state → IsFront front state (rows_text (all_rows state))
reads_front text front state reads can is =
    reads state (rows_text (all_rows state)) can.last can.applied can.chain (is ∙ state_parts state)

pub reads_state : (text : List ℕ) (front : Front) (parts : PartsState) (state : AuditorState) → ReadsFront text front
    → GivesParts front.lines.now (Some parts) → CanBeSaved state → text ≡ state_text state
    → auditor_of front parts ≡ state
reads_state text front parts state reads gives can is =
    let it = reads_front text front state reads can is in
    ap (auditor_of front) (gives (all_rows state) (rows_fit state can) it.lines_are ∙ contained state can)
    ∙ same_auditor state front (rows_text (all_rows state)) it can.open_yet

-- and there are lines
pub reads_some : (text : List ℕ) (front : Front) (state : AuditorState) → ReadsFront text front
    → GivesParts front.lines.now None → CanBeSaved state → text ≡ state_text state → ⊥
reads_some text front state reads gives can is =
    gives (all_rows state) (rows_fit state can) (reads_front text front state reads can is).lines_are

-- ---- the chain

-- what is read of a chain's text: a number follows the flag if there are two events or more
pub chain_parts : (text flag_rest value_rest : List ℕ) (linked : Bool) (value : ℕ) → ReadsFlag text linked flag_rest
    → (linked ≡ false → (value ≡ 0) × (value_rest ≡ flag_rest))
    → (linked ≡ true → starts_with nat_eq flag_rest (codes " ") ≡ true
    → ReadsNumber (2 ^ 64) flag_rest value value_rest)
    → (linked ≡ true → starts_with nat_eq flag_rest (codes " ") ≡ false → (value ≡ 1) × (value_rest ≡ flag_rest))
    → ReadsChain text value value_rest
chain_parts text flag_rest value_rest linked value reads none number one chain rest fits is =
    by (nat_lt 0 chain) refl (nat_lt 1 chain) refl
  where
    tail : Bool → List ℕ
    tail more = if more then spaced chain else []

    whole : (some more : Bool) → nat_lt 0 chain ≡ some → nat_lt 1 chain ≡ more
        → text ≡ yes_or_no some ++ (tail more ++ 10 ∷ rest)
    whole some more some_is more_is =
        is ∙ append_assoc (yes_or_no (nat_lt 0 chain)) (tail (nat_lt 1 chain)) (10 ∷ rest)
        ∙ ap₂ (λ b c. yes_or_no b ++ (tail c ++ 10 ∷ rest)) some_is more_is

    by : (some : Bool) → nat_lt 0 chain ≡ some → (more : Bool) → nat_lt 1 chain ≡ more
        → (value ≡ chain) × (value_rest ≡ 10 ∷ rest)
    by false some_is true more_is =
        let few = ltb-false 0 chain some_is in
        let many = ltb-true 1 chain more_is in absurd (let no : ⊥ = omega (arith, few, many) in no)
    by false some_is false more_is =
        let few = ltb-false 0 chain some_is in
        let found = reads false (10 ∷ rest) (whole false false some_is more_is) in
        let it = none found.0 in
        (it.0 ∙ (let same : 0 ≡ chain = omega (arith, few) in same), it.1 ∙ found.1)
    by true some_is false more_is =
        let some = ltb-true 0 chain some_is in
        let few = ltb-false 1 chain more_is in
        let found = reads true (10 ∷ rest) (whole true false some_is more_is) in
        let it = one found.0 (ap (λ bytes. starts_with nat_eq bytes (codes " ")) found.1) in
        (it.0 ∙ (let same : 1 ≡ chain = omega (arith, some, few) in same), it.1 ∙ found.1)
    by true some_is true more_is =
        let found = reads true (spaced chain ++ 10 ∷ rest) (whole true true some_is more_is) in
        number found.0 (ap (λ bytes. starts_with nat_eq bytes (codes " ")) found.1) chain 10 rest fits refl found.1
