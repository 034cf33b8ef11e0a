-- Records that are read one after another, and put into a state.
use Rattle.std.proofs.Common.{◌≡◌, ℕ, ◌+◌, ◌<◌, ◌≤◌, ◌^◌, List, [], ◌∷◌, ◌++◌, length}
use Rattle.std.proofs.Common.{refl, sym, ap, ◌∙◌, arith, subst, append_assoc, append-nil}
use Rattle.std.specs.Prelude.{fold, map}
use Rattle.std.specs.List.{AllByRecursion}
use Rattle.std.proofs.lemmas.List.{length-append, length-map, map-append}
use Rattle.std.proofs.lemmas.List.Sums.{fold-append}
use Rattle.cdc_frames.specs.Frames.{IsSplit, IsTorn, frame, frames}
use Rattle.cdc_frames.specs.Records.{AreRead, AreRecords, AreReplayed, IsFitText, IsReplayed, IsText}
use Rattle.cdc_frames.proofs.FrameLemmas.{content_within, frame_unique, frames-append, other_torn}
use Rattle.cdc_frames.proofs.FrameLemmas.{split-first, split-rest}

-- ---- the first record

-- the frame that a text begins with is that of its first record
pub first_record : {R : Type 0} (name : List ℕ) (text : R → List ℕ) (number : ℕ)
    (bytes content after torn : List ℕ) (one : R) (later : List R) → number < 2 ^ 64 → length bytes < 2 ^ 64
    → bytes ≡ frame name number content ++ after → AreRecords name text number bytes (one ∷ later) torn
    → (content ≡ text one) × AreRecords name text (number + 1) after later torn
first_record name text number bytes content after torn one later small long is split =
    let others = frames name (number + 1) (map text later) ++ torn in
    let whole : bytes ≡ frame name number (text one) ++ others =
    split.whole ∙ append_assoc (frame name number (text one)) (frames name (number + 1) (map text later)) torn in
    let same : content ≡ text one =
    frame_unique name number content (text one) after others small
    (omega (arith, long, content_within name number content bytes after is))
    (omega (arith, long, content_within name number (text one) bytes others whole)) (sym is ∙ whole) in (
      same,
      split-rest name (IsText text) number (text one) after (map text later) torn
          (subst (λ b. IsSplit name (IsText text) number b (text one ∷ map text later) torn)
          (is ∙ ap (λ c. frame name number c ++ after) same) split),
    )

-- a record before others
pub record_before : {R : Type 0} (name : List ℕ) (fits : R → Type 0) (text : R → List ℕ) (number : ℕ)
    (bytes content after torn : List ℕ) (one : R) (later : List R) → bytes ≡ frame name number content ++ after
    → content ≡ text one → AreRead name fits text (number + 1) after later torn
    → AreRead name fits text number bytes (one ∷ later) torn
record_before name fits text number bytes content after torn one later is same split =
    subst (λ b. IsSplit name (IsFitText fits text) number b (text one ∷ map text later) torn)
    (ap (λ c. frame name number c ++ after) (sym same) ∙ sym is)
    (split-first name (IsFitText fits text) number (text one) after (map text later) torn split)

-- ---- the records so far

-- of these records some are left to read
pub record Left {S R : Type 0} (name : List ℕ) (fits : R → Type 0) (text : R → List ℕ) (step : S → R → S) (old : S)
    (records : List R) (torn : List ℕ) (count : ℕ) (rest : List ℕ) (now : S) : Type 0 where
  pub left : List R
  pub split : AreRecords name text (count + 1) rest left torn
  pub fit : AllByRecursion fits left
  pub state : fold step old records ≡ fold step now left
  pub sum : length records ≡ count + length left

-- so many records were read
pub record SoFar {S R : Type 0} (name : List ℕ) (fits : R → Type 0) (text : R → List ℕ) (step : S → R → S)
    (bytes : List ℕ) (old : S) (count : ℕ) (rest : List ℕ) (now : S) : Type 0 where
  pub done : List R
  pub bytes_are : bytes ≡ frames name 1 (map text done) ++ rest
  pub now_is : now ≡ fold step old done
  pub count_is : count ≡ length done
  pub bound : count + length rest ≤ length bytes
  pub all : (records : List R) (torn : List ℕ) → AllByRecursion fits records
      → AreRecords name text 1 bytes records torn → Left name fits text step old records torn count rest now

pub none_yet : {S R : Type 0} (name : List ℕ) (fits : R → Type 0) (text : R → List ℕ) (step : S → R → S)
    (bytes : List ℕ) (old : S) → SoFar name fits text step bytes old 0 bytes old
none_yet name fits text step bytes old = record {
  done = [];
  bytes_are = refl;
  now_is = refl;
  count_is = refl;
  bound = omega arith;
  all = λ records torn fit split.
      record { left = records; split = split; fit = fit; state = refl; sum = omega arith };
}

-- what is the text of a record that fits was read as that record
abbrev pub ReadsAs : {R : Type 0} → (R → Type 0) → (R → List ℕ) → List ℕ → R → Type 0
ReadsAs {R} fits text content read = (one : R) → fits one → content ≡ text one → read ≡ one

-- one more record
pub one_more : {S R : Type 0} (name : List ℕ) (fits : R → Type 0) (text : R → List ℕ) (step : S → R → S)
    (bytes : List ℕ) (old : S) (count : ℕ) (rest : List ℕ) (now : S) (content after : List ℕ) (change : R) (new : S)
    → length bytes < 2 ^ 63 → SoFar name fits text step bytes old count rest now
    → rest ≡ frame name (count + 1) content ++ after → content ≡ text change → ReadsAs fits text content change
    → new ≡ step now change → SoFar name fits text step bytes old (count + 1) after new
one_more {S} {R} name fits text step bytes old count rest now content after change new small before is content_is reads
    takes =
    let done = before.done in
    let texts = map text done in
    let within = content_within name (count + 1) content rest after is in
    let bound = before.bound in
    let count_is = before.count_is in
    let texts_count : length texts ≡ length done = length-map done text in
    let number : 1 + length texts ≡ count + 1 = omega (arith, count_is, texts_count) in
    let texts_are : map text (done ++ change ∷ []) ≡ texts ++ text change ∷ [] =
    map-append text done (change ∷ []) in
    let last : frames name (1 + length texts) (text change ∷ []) ≡ frame name (count + 1) content =
    append-nil (frame name (1 + length texts) (text change)) ∙ ap (λ n. frame name n (text change)) number
    ∙ ap (frame name (count + 1)) (sym content_is) in
    let written : frames name 1 (map text (done ++ change ∷ []))
    ≡ frames name 1 texts ++ frame name (count + 1) content =
    ap (frames name 1) texts_are ∙ frames-append name 1 texts (text change ∷ [])
    ∙ ap (λ l. frames name 1 texts ++ l) last in
    let counts = length-append done (change ∷ []) in
    record {
      done = done ++ change ∷ [];
      bytes_are = before.bytes_are ∙ ap (λ l. frames name 1 texts ++ l) is
          ∙ sym (append_assoc (frames name 1 texts) (frame name (count + 1) content) after)
          ∙ ap (λ l. l ++ after) (sym written);
      now_is = takes ∙ ap (λ s. step s change) before.now_is ∙ sym (fold-append step old done (change ∷ []));
      count_is = omega (arith, count_is, counts);
      bound = omega (arith, bound, within);
      all = λ records torn fit split.
          let was = before.all records torn fit split in
          go records torn was.left was.split was.fit was.state was.sum;
    }
  where
    short : (length rest < 2 ^ 64) × (count + 1 < 2 ^ 64)
    short = let bound = before.bound in (omega (arith, bound, small), omega (arith, bound, small))

    go : (records : List R) (torn : List ℕ) (left : List R) → AreRecords name text (count + 1) rest left torn
        → AllByRecursion fits left → fold step old records ≡ fold step now left
        → length records ≡ count + length left → Left name fits text step old records torn (count + 1) after new
    go records torn [] split fit state sum =
        let last : IsTorn name (IsText text) (count + 1) torn =
        subst (λ n. IsTorn name (IsText text) n torn) (omega arith) split.rest in
        absurd ((last content after (sym split.whole ∙ is)).1 (change, content_is))
    go records torn (one ∷ later) split fit state sum =
        let first = first_record name text (count + 1) rest content after torn one later short.1 short.0 is split in
        let same : change ≡ one = reads one fit.0 first.0 in
        record {
          left = later;
          split = first.1;
          fit = fit.1;
          state = state ∙ ap (λ s. fold step s later) (ap (step now) (sym same) ∙ sym takes);
          sum = omega (arith, sum);
        }

-- ---- the end

-- no further record: what was read is all
pub read_so : {S R : Type 0} (name : List ℕ) (fits : R → Type 0) (text : R → List ℕ) (step : S → R → S)
    (bytes : List ℕ) (old : S) (count : ℕ) (rest : List ℕ) (now : S) (left : ℕ)
    → SoFar name fits text step bytes old count rest now → IsTorn name (IsFitText fits text) (count + 1) rest
    → left ≡ length rest → IsReplayed name fits text step bytes old now count left
read_so name fits text step bytes old count rest now left before last left_is =
    let count_is = before.count_is in
    let texts_count : length (map text before.done) ≡ length before.done = length-map before.done text in
    record {
      records = before.done;
      torn = rest;
      bytes_are = record {
        whole = before.bytes_are;
        rest = subst (λ n. IsTorn name (IsFitText fits text) n rest) (omega (arith, count_is, texts_count)) last;
      };
      replayed = record { state_is = before.now_is; count_is = count_is; torn_is = left_is };
    }

-- none of the records is left if the text that is left begins with none of theirs
pub all_read : {S R : Type 0} (name : List ℕ) (fits : R → Type 0) (text : R → List ℕ) (step : S → R → S)
    (bytes : List ℕ) (old : S) (count : ℕ) (rest : List ℕ) (now : S) (size : ℕ)
    → SoFar name fits text step bytes old count rest now
    → ((one : R) (more : List ℕ) → fits one → rest ≡ frame name (count + 1) (text one) ++ more → ⊥)
    → size ≡ length rest → (records : List R) (torn : List ℕ) → AllByRecursion fits records
    → AreRecords name text 1 bytes records torn
    → AreReplayed step old now count size records torn × AreRecords name text (count + 1) rest [] torn
all_read {S} {R} name fits text step bytes old count rest now size before none size_is records torn fit split =
    let was = before.all records torn fit split in
    go was.left was.split was.fit was.state was.sum
  where
    go : (left : List R) → AreRecords name text (count + 1) rest left torn → AllByRecursion fits left
        → fold step old records ≡ fold step now left → length records ≡ count + length left
        → AreReplayed step old now count size records torn × AreRecords name text (count + 1) rest [] torn
    go [] split fit state sum = (
      record { state_is = sym state; count_is = omega (arith, sum); torn_is = size_is ∙ ap length split.whole },
      split,
    )
    go (one ∷ left) split fit state sum =
        let others = frames name (count + 1 + 1) (map text left) in
        absurd (none one (others ++ torn) fit.0
        (split.whole ∙ append_assoc (frame name (count + 1) (text one)) others torn))

-- a content that isn't the text of a record which fits
abbrev pub Refuses : {R : Type 0} → (R → Type 0) → (R → List ℕ) → List ℕ → Type 0
Refuses {R} fits text content = (one : R) → fits one → content ≡ text one → ⊥

-- a text that begins with a frame of such a content begins with no record's
pub none_first : {R : Type 0} (name : List ℕ) (fits : R → Type 0) (text : R → List ℕ) (number : ℕ)
    (rest content after : List ℕ) → number < 2 ^ 64 → length rest < 2 ^ 64
    → rest ≡ frame name number content ++ after → Refuses fits text content
    → (one : R) (more : List ℕ) → fits one → rest ≡ frame name number (text one) ++ more → ⊥
none_first name fits text number rest content after small long is refuses one more fit begins =
    refuses one fit
    (frame_unique name number content (text one) after more small
    (omega (arith, long, content_within name number content rest after is))
    (omega (arith, long, content_within name number (text one) rest more begins)) (sym is ∙ begins))

-- if nothing follows the frame, it is a torn end
pub torn_frame : {R : Type 0} (name : List ℕ) (fits : R → Type 0) (text : R → List ℕ) (number : ℕ)
    (rest content after : List ℕ) → number < 2 ^ 64 → length rest < 2 ^ 64
    → rest ≡ frame name number content ++ after → after ≡ [] → Refuses fits text content
    → IsTorn name (IsFitText fits text) number rest
torn_frame name fits text number rest content after small long is none refuses =
    other_torn name (IsFitText fits text) number rest content after small long is none
    (λ is_text. refuses is_text.0 is_text.1.0 is_text.1.1)

-- and if something does, the text isn't one of records
pub nothing_after : {R : Type 0} (name : List ℕ) (text : R → List ℕ) (number : ℕ)
    (rest content after torn : List ℕ) → rest ≡ frame name number content ++ after
    → AreRecords name text number rest [] torn → after ≡ []
nothing_after name text number rest content after torn is split =
    let last : IsTorn name (IsText text) number torn =
    subst (λ n. IsTorn name (IsText text) n torn) (omega arith) split.rest in
    (last content after (sym split.whole ∙ is)).0

-- ---- a frame that was read, and whose content isn't that of a record

-- nothing follows it, and it is the torn end of the records that were read
pub refused_all : {S R : Type 0} (name : List ℕ) (fits : R → Type 0) (text : R → List ℕ) (step : S → R → S)
    (bytes : List ℕ) (old : S) (count : ℕ) (rest : List ℕ) (now : S) (content after : List ℕ)
    → length bytes < 2 ^ 63 → SoFar name fits text step bytes old count rest now
    → rest ≡ frame name (count + 1) content ++ after → Refuses fits text content
    → (records : List R) (torn : List ℕ) → AllByRecursion fits records
    → AreRecords name text 1 bytes records torn
    → AreReplayed step old now count (length rest) records torn × (after ≡ [])
refused_all name fits text step bytes old count rest now content after small before is refuses records torn fit split =
    let bound = before.bound in
    let none = none_first name fits text (count + 1) rest content after (omega (arith, bound, small))
    (omega (arith, bound, small)) is refuses in
    let read = all_read name fits text step bytes old count rest now (length rest) before none refl records torn fit
    split in
    (read.0, nothing_after name text (count + 1) rest content after torn is read.1)

-- what is read if nothing follows it
pub refused_read : {S R : Type 0} (name : List ℕ) (fits : R → Type 0) (text : R → List ℕ) (step : S → R → S)
    (bytes : List ℕ) (old : S) (count : ℕ) (rest : List ℕ) (now : S) (content after : List ℕ)
    → length bytes < 2 ^ 63 → SoFar name fits text step bytes old count rest now
    → rest ≡ frame name (count + 1) content ++ after → Refuses fits text content → length after ≤ 0
    → IsReplayed name fits text step bytes old now count (length rest)
refused_read name fits text step bytes old count rest now content after small before is refuses none =
    let bound = before.bound in
    read_so name fits text step bytes old count rest now (length rest) before
    (torn_frame name fits text (count + 1) rest content after (omega (arith, bound, small))
    (omega (arith, bound, small)) is (empty after none) refuses) refl
  where
    empty : (l : List ℕ) → length l ≤ 0 → l ≡ []
    empty [] none = refl
    empty (x ∷ l) none = absurd (omega (arith, none))
