-- Records: frames whose contents are texts of one kind, numbered from 1 on, which are put into a state one after
-- another. Frame 0 precedes them, and has the state that they begin with.
use Rattle.std.specs.Prelude.{◌≡◌, ℕ, List, length, fold, map}
use Rattle.cdc_frames.specs.Frames.{IsSplit}

-- bytes are the text of a record
abbrev pub IsText : {R : Type 0} → (R → List ℕ) → List ℕ → Type 0
IsText {R} text content = (one : R) × (content ≡ text one)

-- bytes are the text of a record that fits: it can be written, and is read back
abbrev pub IsFitText : {R : Type 0} → (R → Type 0) → (R → List ℕ) → List ℕ → Type 0
IsFitText {R} fits text content = (one : R) × (fits one × (content ≡ text one))

-- A text is frames of these records, numbered from this number on, and then a torn end, which is no frame, or a last
-- one that has no record's text.
abbrev pub AreRecords : {R : Type 0} → List ℕ → (R → List ℕ) → ℕ → List ℕ → List R → List ℕ → Type 0
AreRecords name text number bytes records torn = IsSplit name (IsText text) number bytes (map text records) torn

-- The same of what a reader finds. Of the last frame it knows only that it has the text of no record that fits.
abbrev pub AreRead : {R : Type 0} → List ℕ → (R → Type 0) → (R → List ℕ) → ℕ → List ℕ → List R → List ℕ → Type 0
AreRead name fits text number bytes records torn =
    IsSplit name (IsFitText fits text) number bytes (map text records) torn

-- these records were put into a state, so many, and then come so many torn bytes
pub record AreReplayed {S R : Type 0} (step : S → R → S) (old new : S) (count left : ℕ) (records : List R)
    (torn : List ℕ) : Type 0 where
  pub state_is : new ≡ fold step old records
  pub count_is : count ≡ length records
  pub torn_is : left ≡ length torn

-- a text of records was read so
pub record IsReplayed {S R : Type 0} (name : List ℕ) (fits : R → Type 0) (text : R → List ℕ) (step : S → R → S)
    (bytes : List ℕ) (old new : S) (count left : ℕ) : Type 0 where
  pub records : List R
  pub torn : List ℕ
  pub bytes_are : AreRead name fits text 1 bytes records torn
  pub replayed : AreReplayed step old new count left records torn
