-- What is saved of a publisher's way, and the text of it.
use Rattle.std.specs.Prelude.{◌≡◌, ◌⊎◌, ℕ, ◌<◌, ◌≤◌, ◌^◌, List, ◌∷◌, ◌++◌, codes, decimal}
use Rattle.cdc_types.specs.declared.bounds.TheConstants.Limits.{TIMESTAMP}

-- the number of the last session; the timestamp up to which every event after the start is confirmed; and the start,
-- the timestamp after which the first session began: a connector never publishes events up to it
pub record Saved : Type 0 where
  pub session : ℕ
  pub timestamp : ℕ
  pub start : ℕ

-- what is saved of a publisher that began after this start: so many sessions, and the timestamp
abbrev pub saved_from : ℕ → ℕ → ℕ → Saved
saved_from start session timestamp = record { session = session; timestamp = timestamp; start = start }

-- what is saved of a publisher that began at the very start
abbrev pub saved : ℕ → ℕ → Saved
saved session timestamp = saved_from 0 session timestamp

-- the numbers fit: 64 bits, and the greatest timestamp; and the start is no later than the timestamp
pub record Fits (saved : Saved) : Type 0 where
  pub session : saved.session < 2 ^ 64
  pub timestamp : saved.timestamp ≤ TIMESTAMP
  pub start : saved.start ≤ saved.timestamp

-- two numbers with a space between them
abbrev pub numbers_text : ℕ → ℕ → List ℕ
numbers_text first second = decimal first ++ 32 ∷ decimal second

-- the line of a record: what it is, its version, the session, the timestamp and the start
abbrev pub text_of : Saved → List ℕ
text_of saved =
    codes "tb-cdc 2 " ++ ((decimal saved.session ++ 32 ∷ numbers_text saved.timestamp saved.start) ++ codes "\n")

-- the line of the first version, which knew of no start
abbrev pub first_text_of : Saved → List ℕ
first_text_of saved = codes "tb-cdc 1 " ++ (numbers_text saved.session saved.timestamp ++ codes "\n")

-- these bytes are the record's text: its own line or, if its start is 0, the line of the first version
abbrev pub IsTextOf : Saved → List ℕ → Type 0
IsTextOf saved bytes = (bytes ≡ text_of saved) ⊎ ((saved.start ≡ 0) × (bytes ≡ first_text_of saved))
