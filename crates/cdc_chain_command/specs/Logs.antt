-- The log of a chain's states: frames, each of which contains the text of a state. The state of the last save is the one
-- in the last frame.
use Rattle.std.specs.Prelude.{◌≡◌, ◌≤◌, ◌<◌, ◌+◌, ◌^◌, ℕ, List, [], ◌∷◌, ◌++◌, Bool, true, codes, fold, length, map, take}
use Rattle.std.specs.List.{AllByRecursion}
use Rattle.cdc_frames.specs.Frames.{frames}
use Rattle.cdc_frames.specs.Records.{AreRead, AreRecords}
use Rattle.cdc_chain.specs.Chains.{ChainState}
use Rattle.cdc_chain_command.specs.States.{CanBeSaved, state_text}

-- what each frame begins with: the first line of a log is "chain-state 0 bytes ..", and that of a state
-- "chain-state 1 last .."
abbrev pub log_name : List ℕ
log_name = codes "chain-state"

-- a state, with the texts of its bindings
pub record Saved : Type 0 where
  pub names : List (List ℕ)
  pub state : ChainState

-- what its frame contains
abbrev pub saved_text : Saved → List ℕ
saved_text it = state_text it.names it.state

-- it is one of so many queues, as it is read back: how many duplicates were skipped isn't saved
pub record Fits (count : ℕ) (it : Saved) : Type 0 where
  pub can : CanBeSaved it.names it.state
  pub many : length it.names ≡ count
  pub fresh : it.state.duplicates ≡ 0

-- the text of a log
abbrev pub log_text : Saved → List Saved → List ℕ
log_text first later = frames log_name 0 (map saved_text (first ∷ later))

-- a text is that of a log, and then a torn end: no frame, or a last one that contains no state
abbrev pub IsLogText : List ℕ → Saved → List Saved → List ℕ → Type 0
IsLogText text first later torn = AreRecords log_name saved_text 0 text (first ∷ later) torn

-- the state of the last save
abbrev pub last_saved : Saved → List Saved → Saved
last_saved first later = fold (λ before next. next) first later

-- A text is that of a log whose last state is this one, and then a torn end. A frame of the torn end contains no state
-- of so many queues.
pub record IsRead (count : ℕ) (text : List ℕ) (it : Saved) : Type 0 where
  pub first : Saved
  pub later : List Saved
  pub torn : List ℕ
  pub text_is : AreRead log_name (Fits count) saved_text 0 text (first ∷ later) torn
  pub last : it ≡ last_saved first later

-- a log whose last state is this one, with these texts of the bindings
abbrev pub IsTextOf : List (List ℕ) → List ℕ → ChainState → Type 0
IsTextOf names text state =
    (before : List ChainState) × (text ≡ frames log_name 0 (map (state_text names) (before ++ state ∷ [])))

-- a log is cut after n bytes: the states that were saved whole before the cut are kept, and what is left of the next
-- one is torn
pub record IsCut (first : Saved) (later : List Saved) (n : ℕ) : Type 0 where
  pub kept : List Saved
  pub lost : List Saved
  pub torn : List ℕ
  pub parted : later ≡ kept ++ lost
  pub text_is : IsLogText (take n (log_text first later)) first kept torn
  pub next : (one : Saved) (others : List Saved) → lost ≡ one ∷ others
      → n < length (log_text first (kept ++ one ∷ []))

-- so it is wherever a log is cut, after its first state
abbrev pub LogsCanBeCut : Type 0
LogsCanBeCut = (first : Saved) (later : List Saved) (n : ℕ) → length (log_text first later) < 2 ^ 64
    → length (log_text first []) ≤ n → IsCut first later n
