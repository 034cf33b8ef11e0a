-- How saves are printed: the ghost members of a book, and their laws. Cited by no public contract.
use Rattle.std.proofs.Common.{◌≡◌, ◌⊎◌, ◌==◌, ◌||◌, ℕ, List, [], ◌∷◌, ◌++◌, length, Bool, Option, None, Some, true, false, refl, sym, subst}
use Rattle.std.proofs.Common.{append-nil, append_assoc, ap, ◌∙◌}
use Rattle.std.specs.Prelude.{IfSome, is_some, if◌then◌else◌}
use Rattle.std.specs.Option.{option_map}
use Rattle.std.proofs.lemmas.Bool.{false≢true}
use Rattle.std.proofs.lemmas.Grind.{flat_map-append}
use Rattle.std.proofs.lemmas.List.Sums.{fold-append}
use Rattle.cdc_types.specs.declared.events.Event.{Event}
use Rattle.cdc_message.specs.declared.items.Item.{Item}
use Rattle.cdc_follow.specs.Following.{FollowState, next_follow, outcome_of}
use Rattle.cdc_follow_command.specs.declared.followers.FollowSetup.{FollowSetup}
use Rattle.cdc_book_log.specs.Details.{items_of}
use Rattle.cdc_sql.specs.Places.{place_of}
use Rattle.cdc_sql.specs.Plain.{is_plain}
use Rattle.cdc_sql.specs.Rows.{rows_after, rows_by, show_rows}
use Rattle.cdc_sql.specs.Saves.{Save, event_in, events_in}
use Rattle.cdc_sql.specs.Texts.{transaction_text}
use Rattle.cdc_sql.specs.declared.places.Place.{Place}
use Rattle.cdc_sql.specs.declared.rows.AccountRow.{AccountRow}
use Rattle.cdc_streams.specs.Saving.{PrintsPart}
use Rattle.cdc_sql_book.specs.Books.{HasPrinted, IsRest, IsSavesOf, Prints}
use Rattle.cdc_sql_book.specs.Following.{IsNew}
use Rattle.cdc_sql_book.specs.Recording.{IsRecordedSince, RecordedState, RecordsOn, Taking, events_taken, follow_taken}
use Rattle.cdc_sql_book.specs.Recording.{items_taken}
use Rattle.cdc_sql_book.specs.declared.books.SqlBook.{SqlBook}
use Rattle.cdc_sql_book.specs.declared.followers.SqlFollower.{SqlFollower}

-- these bytes end with the text of the saves of some follower, which has this many bytes, and the follower is at this
-- place; it has since kept what it applied
pub record Continues (setup : FollowSetup) (keeps : Bool) (name : List ℕ) (start place : Place) (printed : ℕ)
    (bytes : List ℕ) (now : RecordedState) : Type 0 where
  pub before : List ℕ
  pub text : List ℕ
  pub past : FollowState
  pub bytes_are : bytes ≡ before ++ text
  pub count : length text ≡ printed
  pub saves : IsSavesOf setup keeps name start text past
  pub at : place_of past ≡ place
  pub since : IsRecordedSince past now

-- some follower was at the place where this one began to keep what it applied; if it was saved then, and it is known
-- what was printed, this ends with the text of its saves
pub record Fits (setup : FollowSetup) (keeps : Bool) (name : List ℕ) (start place : Place) (printed : ℕ)
    (known : Option (List ℕ)) (now : RecordedState) : Type 0 where
  pub first : (past : FollowState) × IsRecordedSince past now
  pub later : now.is_saved ≡ true
      → IfSome known (λ bytes. Continues setup keeps name start place printed bytes now)

abbrev pub FitsSql : {W : Type 0} → (W → Option (List ℕ)) → FollowSetup → SqlBook W → SqlFollower → Type 0
FitsSql contents setup book it =
    Fits setup book.keeps_events book.name.text.items book.start book.place book.printed (contents book.writer)
    it.recorded

-- where the next save of a book begins
abbrev pub next_place : {W : Type 0} → SqlBook W → Place
next_place book = if book.printed == 0 then book.start else book.place

-- a follower has kept what it has applied since that place, and events if the book does
pub record IsNext {W : Type 0} (book : SqlBook W) (now : RecordedState) : Type 0 where
  pub saved : ((book.printed == 0) || now.is_saved) ≡ true
  pub base : now.base ≡ next_place book
  pub events : book.keeps_events ≡ is_some now.events

-- the text of a save of this book's follower
abbrev pub SaveText : {W : Type 0} → FollowSetup → SqlBook W → Save → List ℕ
SaveText setup book save =
    transaction_text book.name.text.items setup.rules.chained setup.binding_text.items save

-- a save that failed changed nothing, or a part of its text was printed
pub record HasTorn {W : Type 0} (contents : W → Option (List ℕ)) (setup : FollowSetup) (old new : SqlBook W)
    (text : List ℕ) : Type 0 where
  pub name : new.name ≡ old.name
  pub events : new.keeps_events ≡ old.keeps_events
  pub start : new.start ≡ old.start
  pub printed : new.printed ≡ old.printed
  pub torn : new.is_torn ≡ true
  pub plain : is_plain setup.binding_text.items ≡ true
  pub part : PrintsPart (contents old.writer) (contents new.writer) text

abbrev pub IsRefused : {W : Type 0} → (W → Option (List ℕ)) → FollowSetup → SqlBook W → SqlBook W → List ℕ → Type 0
IsRefused contents setup old new text = (new ≡ old) ⊎ HasTorn contents setup old new text

pub printed_none : {W : Type 0} (contents : W → Option (List ℕ)) (setup : FollowSetup) (book : SqlBook W)
    → HasPrinted contents setup book book []
printed_none contents setup book = record {
  name = refl;
  events = refl;
  start = refl;
  prints = λ none whole. begun (contents book.writer) refl none whole;
}
  where
    begun : (known : Option (List ℕ)) → contents book.writer ≡ known → book.printed ≡ 0 → book.is_torn ≡ false
        → IfSome known (λ before. (now : List ℕ) × (contents book.writer ≡ Some now)
        × Prints setup book book before now [])
    begun None is none whole = tt
    begun (Some before) is none whole = (
      before,
      is,
      record {
        text = [];
        part = [];
        now_is = sym (append-nil before);
        count = none;
        grows = refl;
        rest = subst (λ torn. IsRest setup book.name.text.items torn []) (sym whole) refl;
      },
    )

pub fits_new : {W : Type 0} (contents : W → Option (List ℕ)) (setup : FollowSetup) (book : SqlBook W)
    (it : SqlFollower) → IsNew it.recorded → FitsSql contents setup book it
fits_new contents setup book it new = record {
  first = (it.recorded.follower, new.1);
  later = λ saved. absurd (false≢true (sym new.0 ∙ saved));
}

-- ---- what was kept while entries were taken

follow_joined : (state : FollowState) (taken more : List Taking)
    → follow_taken state (taken ++ more) ≡ follow_taken (follow_taken state taken) more
follow_joined state [] more = refl
follow_joined state (taking ∷ taken) more =
    follow_joined (next_follow taking.binding state taking.entry) taken more

items_joined : (state : FollowState) (taken more : List Taking)
    → items_taken state (taken ++ more) ≡ items_taken state taken ++ items_taken (follow_taken state taken) more
items_joined state [] more = refl
items_joined state (taking ∷ taken) more =
    let next = next_follow taking.binding state taking.entry in
    let first = items_of (outcome_of taking.binding state taking.entry) taking.entry.content in
    ap (λ (l : List Item). first ++ l) (items_joined next taken more)
    ∙ sym (append_assoc first (items_taken next taken) (items_taken (follow_taken next taken) more))

events_joined : (state : FollowState) (taken more : List Taking)
    → events_taken state (taken ++ more) ≡ events_taken state taken ++ events_taken (follow_taken state taken) more
events_joined state taken more =
    ap events_in (items_joined state taken more)
    ∙ flat_map-append event_in (items_taken state taken) (items_taken (follow_taken state taken) more)

-- events that are kept, and then more
kept_on : (old new : Option (List Event)) (one more all : List Event) → all ≡ one ++ more
    → old ≡ option_map (λ _. one) old → new ≡ option_map (λ kept. kept ++ more) old
    → new ≡ option_map (λ _. all) new
kept_on None new one more all joined was is =
    subst (λ n. n ≡ option_map (λ _. all) n) (sym is) refl
kept_on (Some kept) new one more all joined was is =
    let same : kept ≡ one = cc in
    subst (λ n. n ≡ option_map (λ _. all) n) (sym is) (ap Some (ap (λ l. l ++ more) same ∙ sym joined))

since_on : (past : FollowState) (old new : RecordedState) → RecordsOn old new → IsRecordedSince past old
    → IsRecordedSince past new
since_on past old new moves since =
    let more : events_taken old.follower moves.taken ≡ events_taken (follow_taken past since.taken) moves.taken =
    ap (λ s. events_taken s moves.taken) since.follower in
    let all = events_joined past since.taken moves.taken in
    let joined : events_taken past (since.taken ++ moves.taken)
    ≡ events_taken past since.taken ++ events_taken old.follower moves.taken =
    all ∙ ap (λ (l : List Event). events_taken past since.taken ++ l) (sym more) in record {
      taken = since.taken ++ moves.taken;
      base = moves.base ∙ since.base;
      follower = moves.follower ∙ ap (λ s. follow_taken s moves.taken) since.follower
          ∙ sym (follow_joined past since.taken moves.taken);
      rows = moves.rows ∙ ap (λ r. rows_after r (events_taken old.follower moves.taken)) since.rows
          ∙ sym (fold-append (λ (shown : List (ℕ × AccountRow)) (e : Event). show_rows e shown) []
          (events_taken past since.taken) (events_taken old.follower moves.taken))
          ∙ ap rows_by (sym joined);
      events = kept_on old.events new.events (events_taken past since.taken) (events_taken old.follower moves.taken)
          (events_taken past (since.taken ++ moves.taken)) joined since.events moves.events;
    }

continues_on : (setup : FollowSetup) (keeps : Bool) (name : List ℕ) (start place : Place) (printed : ℕ)
    (bytes : List ℕ) (old new : RecordedState) → RecordsOn old new
    → Continues setup keeps name start place printed bytes old
    → Continues setup keeps name start place printed bytes new
continues_on setup keeps name start place printed bytes old new moves it = record {
  before = it.before;
  text = it.text;
  past = it.past;
  bytes_are = it.bytes_are;
  count = it.count;
  saves = it.saves;
  at = it.at;
  since = since_on it.past old new moves it.since;
}

known_on : (setup : FollowSetup) (keeps : Bool) (name : List ℕ) (start place : Place) (printed : ℕ)
    (known : Option (List ℕ)) (old new : RecordedState) → RecordsOn old new
    → IfSome known (λ bytes. Continues setup keeps name start place printed bytes old)
    → IfSome known (λ bytes. Continues setup keeps name start place printed bytes new)
known_on setup keeps name start place printed None old new moves it = tt
known_on setup keeps name start place printed (Some bytes) old new moves it =
    continues_on setup keeps name start place printed bytes old new moves it

pub goes_on : {W : Type 0} (contents : W → Option (List ℕ)) (setup : FollowSetup) (book : SqlBook W)
    (old new : SqlFollower) → RecordsOn old.recorded new.recorded → FitsSql contents setup book old
    → FitsSql contents setup book new
goes_on contents setup book old new moves fits = record {
  first = (fits.first.0, since_on fits.first.0 old.recorded new.recorded moves fits.first.1);
  later = λ saved. known_on setup book.keeps_events book.name.text.items book.start book.place book.printed
      (contents book.writer) old.recorded new.recorded moves (fits.later (sym moves.is_saved ∙ saved));
}
