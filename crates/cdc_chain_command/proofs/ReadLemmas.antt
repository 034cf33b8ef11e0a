-- How the text of a state is read.
use Rattle.std.proofs.Common.{◌≡◌, ◌≢◌, ℕ, zero, suc, ◌+◌, ◌<◌, ◌≤◌, ◌^◌, List, [], ◌∷◌, ◌++◌, length, take, drop, map, get_or, Bool}
use Rattle.std.proofs.Common.{◌⊎◌, inl, inr, append-nil, true, false, codes, refl, sym, ap, ap₂, ◌∙◌, append_assoc, arith, length-append}
use Rattle.std.specs.Prelude.{◌&&◌, Err, IfErr, None, Ok, Option, Result, Some, min, nat_le}
use Rattle.std.proofs.lemmas.Bool.{leb-false, leb-true}
use Rattle.std.specs.List.{AllByRecursion, list_all}
use Rattle.std.proofs.lemmas.List.{drop_all, drop_more, take_all, take_more}
use Rattle.cdc_codec.specs.Texts.{is_in_line, spaced, yes_or_no}
use Rattle.cdc_match.specs.Arguments.{Arguments}
use Rattle.cdc_bindings.specs.Bindings.{is_of}
use Rattle.cdc_chain.specs.Chains.{ChainState}
use Rattle.cdc_chain_command.specs.declared.reading.Front.{Front}
use Rattle.cdc_chain_command.specs.declared.reading.Row.{Row}
use Rattle.cdc_chain_command.specs.declared.reading.Rows.{Rows}
use Rattle.cdc_files.specs.declared.errors.StoreError.{StoreError}
use Rattle.cdc_files.specs.declared.errors.StoreError.TheVariants.{BadRecord, OutOfMemory}
use Rattle.cdc_chain_command.specs.Logs.{Fits, IsLogText, Saved, last_saved}
use Rattle.cdc_chain_command.specs.Resuming.{IsNoLog, IsNoState, IsRefused}
use Rattle.cdc_chain_command.specs.States.{CanBeSaved, are_of, fresh, heading, row, rows, state_text}
use Rattle.cdc_chain_command.specs.Private.Reads.{ReadsFront, ReadsRow, ReadsRows}

regroup : (a w b x z rest : List ℕ) → ((a ++ w) ++ ((b ++ x) ++ z)) ++ rest ≡ a ++ (w ++ (b ++ (x ++ (z ++ rest))))
regroup a w b x z rest = simp append_assoc

-- the heading, part by part
pub heading_parts : (state : ChainState) (rest : List ℕ) → heading state ++ rest
    ≡ codes "chain-state 1 last" ++ (spaced state.last ++ (codes " ended" ++ (yes_or_no state.ended ++ 10 ∷ rest)))
heading_parts state rest =
    regroup (codes "chain-state 1 last") (spaced state.last) (codes " ended") (yes_or_no state.ended) (codes "\n") rest

regroup_row : (a w b x z rest : List ℕ) → ((a ++ w) ++ (b ++ (x ++ z))) ++ rest ≡ a ++ (w ++ (b ++ (x ++ (z ++ rest))))
regroup_row a w b x z rest = simp append_assoc

-- the line of a queue, part by part
pub row_parts : (binding : List ℕ) (place : ℕ) (rest : List ℕ)
    → row binding place ++ rest ≡ codes "queue" ++ (spaced place ++ (32 ∷ (binding ++ 10 ∷ rest)))
row_parts binding place rest = regroup_row (codes "queue") (spaced place) (codes " ") binding (codes "\n") rest

-- ---- one line after another

-- what holds of all holds of each
at_place : {X : Type 0} (P : X → Type 0) (xs : List X) (i : ℕ) (d : X) → i < length xs → AllByRecursion P xs
    → P (get_or xs i d)
at_place P [] i d within all = absurd (omega arith)
at_place P (x ∷ xs) zero d within all = all.0
at_place P (x ∷ xs) (suc i) d within all = at_place P xs i d (omega arith) all.1

-- the lines before this one were read, and the others are left
pub record ReadTo (text : List ℕ) (count i : ℕ) (left places : List ℕ) (texts : List (List ℕ)) : Type 0 where
  pub many : length places ≡ i
  pub reads : (bindings : List (List ℕ)) (all : List ℕ) → length bindings ≡ count → length all ≡ count
      → AllByRecursion (λ place. place < 2 ^ 64) all
      → AllByRecursion (λ binding. list_all is_in_line binding ≡ true) bindings → text ≡ rows bindings all
      → (left ≡ rows (drop i bindings) (drop i all)) × (places ≡ take i all) × (texts ≡ take i bindings)

pub read_none : (text : List ℕ) (count : ℕ) → ReadTo text count 0 text [] []
read_none text count = record { many = refl; reads = λ bindings all these those fit lines is. (is, refl, refl) }

-- one more line
pub read_more : (text : List ℕ) (count i : ℕ) (left places : List ℕ) (texts : List (List ℕ)) (it : Row)
    → i < count → ReadTo text count i left places texts → ReadsRow left it
    → ReadTo text count (i + 1) it.rest.now (places ++ it.place ∷ []) (texts ++ it.binding.now ∷ [])
read_more text count i left places texts it within to row_reads = record {
  many = omega (arith, length-append places (it.place ∷ []), to.many);
  reads = λ bindings all these those fit lines is.
      let before = to.reads bindings all these those fit lines is in
      let some : i < length bindings = omega (arith, these) in
      let also : i < length all = omega (arith, those) in
      let binding = get_or bindings i [] in
      let place = get_or all i 0 in
      let starts : left ≡ row binding place ++ rows (drop (i + 1) bindings) (drop (i + 1) all) =
      before.0 ∙ ap₂ rows (drop_more bindings i [] some) (drop_more all i 0 also) in
      let read = row_reads binding place (rows (drop (i + 1) bindings) (drop (i + 1) all))
      (at_place (λ (place : ℕ). place < 2 ^ 64) all i 0 also fit)
      (at_place (λ (binding : List ℕ). list_all is_in_line binding ≡ true) bindings i [] some lines) starts in (
        read.2,
        ap₂ (λ (front : List ℕ) (one : ℕ). front ++ one ∷ []) before.1 read.0 ∙ sym (take_more all i 0 also),
        ap₂ (λ (front : List (List ℕ)) (one : List ℕ). front ++ one ∷ []) before.2 read.1
            ∙ sym (take_more bindings i [] some),
      );
}

-- all lines
pub read_all : (text : List ℕ) (count i : ℕ) (left : List ℕ) (it : Rows) → i ≡ count
    → ReadTo text count i left it.places.items (map (λ t. t.items) it.texts.items) → ReadsRows text count it
read_all text count i left it done to bindings all these those fit lines is =
    let read = to.reads bindings all these those fit lines is in (
      read.1 ∙ take_all i all (omega (arith, done, those)),
      read.2 ∙ take_all i bindings (omega (arith, done, these)),
    )

-- ---- a state

-- how many duplicates were skipped isn't saved
pub text_of_fresh : (bindings : List (List ℕ)) (state : ChainState)
    → state_text bindings state ≡ state_text bindings (fresh state)
unfolding state_text
text_of_fresh bindings state = refl

pub text_parts : (bindings : List (List ℕ)) (state : ChainState)
    → state_text bindings state ≡ heading state ++ rows bindings state.places
unfolding state_text
text_parts bindings state = refl

-- the state that was read
abbrev pub state_read : Front → Rows → ChainState
state_read front it = record { last = front.last; ended = front.ended; places = it.places.items; duplicates = 0 }

pub reads_state : (text : List ℕ) (count : ℕ) (front : Front) (it : Rows) (saved : List (List ℕ)) (state : ChainState)
    → ReadsFront text front → ReadsRows front.rest.now count it → CanBeSaved saved state → length saved ≡ count
    → text ≡ state_text saved state
    → (state_read front it ≡ fresh state) × (map (λ t. t.items) it.texts.items ≡ saved)
reads_state text count front it saved state front_reads rows_read can many is =
    let first = front_reads state (rows saved state.places) can.last (is ∙ text_parts saved state) in
    let places : length state.places ≡ count = omega (arith, can.many, many) in
    let then_rows = rows_read saved state.places many places can.places can.lines first.2 in (
      λ i. record { last = first.0 i; ended = first.1 i; places = then_rows.0 i; duplicates = 0 },
      then_rows.1,
    )

-- so its text is this one
pub same_text : (text : List ℕ) (read : ChainState) (texts saved : List (List ℕ)) (state : ChainState)
    → read ≡ fresh state → texts ≡ saved → text ≡ state_text saved state → text ≡ state_text texts read
same_text text read texts saved state same also is =
    is ∙ text_of_fresh saved state ∙ sym (ap₂ state_text also same)

-- ---- the bindings

no_and : (one two : Bool) → two ≡ false → (one && two) ≡ false
no_and true two is = is
no_and false two is = refl

second_of : (one two : Bool) → (one && two) ≡ true → two ≡ true
second_of true two both = both
second_of false two both = cc

pub other_number : (bindings : List Arguments) (texts : List (List ℕ)) → length bindings ≢ length texts
    → are_of bindings texts ≡ false
other_number [] [] other = absurd (other refl)
other_number [] (text ∷ texts) other = refl
other_number (binding ∷ bindings) [] other = refl
other_number (binding ∷ bindings) (text ∷ texts) other =
    no_and (is_of binding text) (are_of bindings texts)
    (other_number bindings texts (λ same. other (ap suc same)))

-- those of as many are as many
pub many_of : (bindings : List Arguments) (texts : List (List ℕ)) → are_of bindings texts ≡ true
    → length texts ≡ length bindings
many_of [] [] are = refl
many_of [] (text ∷ texts) are = cc
many_of (binding ∷ bindings) [] are = cc
many_of (binding ∷ bindings) (text ∷ texts) are =
    ap suc (many_of bindings texts (second_of (is_of binding text) (are_of bindings texts) are))

-- the texts from this one on decide
pub from_place : (bindings : List Arguments) (texts : List (List ℕ)) (i : ℕ) (b : Arguments) (t : List ℕ)
    → i < length bindings → i < length texts
    → are_of (drop i bindings) (drop i texts)
    ≡ (is_of (get_or bindings i b) (get_or texts i t) && are_of (drop (i + 1) bindings) (drop (i + 1) texts))
from_place bindings texts i b t some also =
    ap₂ are_of (drop_more bindings i b some) (drop_more texts i t also)

-- one text of another binding decides
pub one_other : (bindings : List Arguments) (texts : List (List ℕ)) (i : ℕ) (b : Arguments) (t : List ℕ) (all : Bool)
    → i < length bindings → i < length texts → is_of (get_or bindings i b) (get_or texts i t) ≡ false
    → are_of (drop i bindings) (drop i texts) ≡ all → false ≡ all
one_other bindings texts i b t all some also other are =
    sym (ap (λ one. one && are_of (drop (i + 1) bindings) (drop (i + 1) texts)) other)
    ∙ sym (from_place bindings texts i b t some also) ∙ are

-- else the others do
pub one_same : (bindings : List Arguments) (texts : List (List ℕ)) (i : ℕ) (b : Arguments) (t : List ℕ) (all : Bool)
    → i < length bindings → i < length texts → is_of (get_or bindings i b) (get_or texts i t) ≡ true
    → are_of (drop i bindings) (drop i texts) ≡ all → are_of (drop (i + 1) bindings) (drop (i + 1) texts) ≡ all
one_same bindings texts i b t all some also same are =
    sym (ap (λ one. one && are_of (drop (i + 1) bindings) (drop (i + 1) texts)) same)
    ∙ sym (from_place bindings texts i b t some also) ∙ are

-- ---- the lines of the queues, one after another

-- an element of what a list maps to
pub map_at : {X Y : Type 0} (f : X → Y) (xs : List X) (i : ℕ) (d : X) → i < length xs
    → get_or (map f xs) i (f d) ≡ f (get_or xs i d)
map_at f [] i d within = absurd (omega arith)
map_at f (x ∷ xs) zero d within = refl
map_at f (x ∷ xs) (suc i) d within = map_at f xs i d (omega arith)

pub length_map : {X Y : Type 0} (f : X → Y) (xs : List X) → length (map f xs) ≡ length xs
length_map f [] = refl
length_map f (x ∷ xs) = ap suc (length_map f xs)

-- the lines that are left make this text with what was added
abbrev pub WithRows : List (List ℕ) → List ℕ → ℕ → List ℕ → List ℕ → Type 0
WithRows texts places i now whole = now ++ rows (drop i texts) (drop i places) ≡ whole

pub rows_more : (texts : List (List ℕ)) (places : List ℕ) (i : ℕ) (b : List ℕ) (p : ℕ) (now new whole : List ℕ)
    → i < length texts → i < length places → WithRows texts places i now whole
    → new ≡ now ++ row (get_or texts i b) (get_or places i p) → WithRows texts places (i + 1) new whole
rows_more texts places i b p now new whole some also with_rest adds =
    let later = rows (drop (i + 1) texts) (drop (i + 1) places) in
    ap (λ text. text ++ later) adds ∙ append_assoc now (row (get_or texts i b) (get_or places i p)) later
    ∙ ap (λ left. now ++ left) (sym (ap₂ rows (drop_more texts i b some) (drop_more places i p also))) ∙ with_rest

no_rows : (texts : List (List ℕ)) (places : List ℕ) → (texts ≡ []) ⊎ (places ≡ []) → rows texts places ≡ []
no_rows [] places none = refl
no_rows (text ∷ texts) [] none = refl
no_rows (text ∷ texts) (place ∷ places) (inl none) = cc
no_rows (text ∷ texts) (place ∷ places) (inr none) = cc

pub rows_done : (texts : List (List ℕ)) (places : List ℕ) (i : ℕ) (now whole : List ℕ)
    → (length texts ≤ i) ⊎ (length places ≤ i) → WithRows texts places i now whole → now ≡ whole
rows_done texts places i now whole past with_rest =
    sym (append-nil now) ∙ ap (λ left. now ++ left) (sym (no_rows (drop i texts) (drop i places) (left_none past)))
    ∙ with_rest
  where
    left_none : (length texts ≤ i) ⊎ (length places ≤ i) → (drop i texts ≡ []) ⊎ (drop i places ≡ [])
    left_none (inl past) = inl (drop_all i texts past)
    left_none (inr past) = inr (drop_all i places past)

-- a place that isn't below the lesser number isn't below one of them
pub min_past : (a b i n : ℕ) → n ≡ min a b → n ≤ i → (a ≤ i) ⊎ (b ≤ i)
min_past a b i n is past = by_order (nat_le a b) refl
  where
    by_order : (order : Bool) → nat_le a b ≡ order → (a ≤ i) ⊎ (b ≤ i)
    by_order true le = inl (omega (arith, is, past, leb-true a b le))
    by_order false lt = inr (omega (arith, is, past, leb-false a b lt))

-- ---- a text that isn't resumed

none_some : {X : Type 0} (read : Option X) (x : X) → read ≡ None → read ≡ Some x → ⊥
none_some read x none some = cc

-- if no log is read, there is none
pub no_log : (bindings : List Arguments) (text : List ℕ) (read : Option ChainState) → read ≡ None
    → ((first : Saved) (later : List Saved) (torn : List ℕ) → Fits (length bindings) first
    → AllByRecursion (Fits (length bindings)) later → are_of bindings (last_saved first later).names ≡ true
    → IsLogText text first later torn → read ≡ Some (last_saved first later).state)
    → IsNoLog bindings text
no_log bindings text read none all = λ first later torn fit fits are split.
    none_some read (last_saved first later).state none (all first later torn fit fits are split)

-- so the text is neither that of a log nor that of a state
pub refused_both : {T : Type 0} (bindings : List Arguments) (text : List ℕ) (result : Result T StoreError)
    → IsNoLog bindings text
    → IfErr result (λ error. (error ≡ OutOfMemory) ⊎ ((error ≡ BadRecord) × IsNoState bindings text))
    → IfErr result (IsRefused bindings text)
refused_both bindings text (Ok done) none refused = tt
refused_both bindings text (Err why) none (inl memory) = inl memory
refused_both bindings text (Err why) none (inr other) = inr (other.0, record { log = none; alone = other.1 })
