-- The saves of a follower that are printed one after another.
use Rattle.std.proofs.Common.{◌≡◌, ◌==◌, ◌||◌, cond, inl, inr, ℕ, suc, ◌+◌, List, [], ◌∷◌, ◌++◌, length, Option, None, Some, Bool, true, false}
use Rattle.std.proofs.Common.{append-nil, append_assoc, arith, length-append, refl, sym, ap, ◌∙◌, subst}
use Rattle.std.specs.Prelude.{Err, IfSome, Ok, OnErr, OnOk, Result, is_some, take}
use Rattle.std.specs.Option.{option_map}
use Rattle.std.specs.Io.KnownBytes.{Appends}
use Rattle.std.specs.declared.alloc.Global.{Global}
use Rattle.std.specs.declared.vec.Vec.{Vec}
use Rattle.std.proofs.lemmas.Bool.Decides.{eqb_tells}
use Rattle.cdc_types.specs.declared.events.Event.{Event}
use Rattle.cdc_follow.specs.Following.{FollowState}
use Rattle.cdc_follow_command.specs.declared.followers.Followed.{Followed}
use Rattle.cdc_follow_command.specs.declared.followers.FollowSetup.{FollowSetup}
use Rattle.cdc_sql.specs.Laws.{place_after}
use Rattle.cdc_sql.specs.Places.{place_of}
use Rattle.cdc_sql.specs.Plain.{is_plain}
use Rattle.cdc_sql.specs.Rows.{events_kept, rows_by}
use Rattle.cdc_sql.specs.Saves.{Save, Step, kept_if, save_between, save_of, saves_from}
use Rattle.cdc_sql.specs.Texts.{saves_text, transaction_text}
use Rattle.cdc_sql.specs.declared.names.SchemaName.{SchemaName}
use Rattle.cdc_sql.specs.declared.places.Place.{Place}
use Rattle.cdc_sql.specs.declared.rows.AccountRow.{AccountRow}
use Rattle.cdc_sql.specs.declared.rows.Recent.{Recent}
use Rattle.cdc_output.specs.declared.faults.ProgramFault.{ProgramFault}
use Rattle.cdc_streams.specs.Saving.{PrintsBy, PrintsPart, is_write_fault}
use Rattle.cdc_sql_book.specs.Books.{AreSavesOf, GrowsFrom, HasPrinted, IsRest, IsSavesOf, Leads, Prints}
use Rattle.cdc_sql_book.specs.Private.Printing.{Continues, Fits, IsNext, IsRefused, SaveText, next_place}
use Rattle.cdc_sql_book.specs.Recording.{IsRecordedSince, RecordedState, Taking, events_taken, follow_taken, step_taken}
use Rattle.cdc_sql_book.specs.declared.books.SqlBook.{SqlBook}

-- ---- lists

-- texts of one length that end the same bytes are the same
same_end : (a b x y : List ℕ) → a ++ x ≡ b ++ y → length x ≡ length y → x ≡ y
same_end [] [] x y is long = is
same_end (n ∷ a) (m ∷ b) x y is long =
    let rest : a ++ x ≡ b ++ y = cc in
    same_end a b x y rest long
same_end [] (m ∷ b) x y is long =
    let more : length x ≡ suc (length (b ++ y)) = ap length is in
    let all : length (b ++ y) ≡ length b + length y = length-append b y in
    absurd (omega (arith, more, all, long))
same_end (n ∷ a) [] x y is long =
    let more : suc (length (a ++ x)) ≡ length y = ap length is in
    let all : length (a ++ x) ≡ length a + length x = length-append a x in
    absurd (omega (arith, more, all, long))

-- a text without bytes
no_bytes : (text : List ℕ) → 0 ≡ length text → text ≡ []
no_bytes [] none = refl
no_bytes (byte ∷ text) none = absurd cc

grows_more : {S : Type 0} (IsText : List ℕ → S → Type 0) (part text more : List ℕ) (states : List S) (state : S)
    → IsText (text ++ more) state → GrowsFrom IsText part text states
    → GrowsFrom IsText part (text ++ more) (states ++ state ∷ [])
grows_more IsText part text more [] state is grows =
    (more, subst (λ t. IsText (t ++ more) state) grows is, ap (λ t. t ++ more) grows)
grows_more IsText part text more (first ∷ states) state is grows =
    (grows.0, grows.1, grows_more IsText (part ++ grows.0) text more states state is grows.2)

if_some_map : {A : Type 0} (known : Option A) (P Q : A → Type 0) → ((a : A) → P a → Q a) → IfSome known P
    → IfSome known Q
if_some_map None P Q maps holds = tt
if_some_map (Some a) P Q maps holds = maps a holds

-- what a writer holds after a text was appended to what it is known to have held
appended : (bytes text : List ℕ) (new : Option (List ℕ)) → Appends (Some bytes) new text → new ≡ Some (bytes ++ text)
appended bytes text None is = absurd is
appended bytes text (Some now) is = ap Some is

-- ---- saves

-- the place of a follower is the one after its steps
place_led : (state now : FollowState) (steps : List Step) → Leads state steps now
    → place_after (place_of state) steps ≡ place_of now
place_led state now [] leads = ap place_of leads
place_led state now (step ∷ steps) leads =
    ap (λ (s : Step). place_after s.after steps) leads.1
    ∙ place_led (follow_taken state leads.0) now steps leads.2

-- one step more
leads_more : (state now : FollowState) (steps : List Step) (taken : List Taking) → Leads state steps now
    → Leads state (steps ++ step_taken now taken ∷ []) (follow_taken now taken)
leads_more state now [] taken leads =
    (taken, ap (λ s. step_taken s taken) (sym leads), ap (λ s. follow_taken s taken) leads)
leads_more state now (step ∷ steps) taken leads =
    (leads.0, leads.1, leads_more (follow_taken state leads.0) now steps taken leads.2)

module _ (setup : FollowSetup) (keeps : Bool) (name : List ℕ) (start : Place) where
  -- the text of one save
  abbrev pub Text : Place → Step → List ℕ
  Text from step =
      transaction_text name setup.rules.chained setup.binding_text.items (save_of keeps from step)

  -- the text of saves
  abbrev pub Texts : Place → List Step → List ℕ
  Texts from steps = saves_text name setup.rules.chained setup.binding_text.items (saves_from keeps from steps)

  -- one save more, which begins where the last one ended
  texts_more : (from : Place) (step : Step) (steps : List Step)
      → Texts from (steps ++ step ∷ []) ≡ Texts from steps ++ Text (place_after from steps) step
  texts_more from step [] = append-nil (Text from step)
  texts_more from step (next ∷ steps) =
      ap (λ t. Text from next ++ t) (texts_more next.after step steps)
      ∙ sym (append_assoc (Text from next) (Texts next.after steps) (Text (place_after next.after steps) step))

  -- the first save of a follower that was at the start
  first_save : (past : FollowState) (taken : List Taking) → place_of past ≡ start
      → is_plain setup.binding_text.items ≡ true
      → IsSavesOf setup keeps name start (Text start (step_taken past taken)) (follow_taken past taken)
  first_save past taken at plain = record {
    begun = past;
    steps = step_taken past taken ∷ [];
    begins = at;
    leads = (taken, refl, refl);
    text_is = sym (append-nil (Text start (step_taken past taken)));
    plain = plain;
  }

  next_save : (text : List ℕ) (place : Place) (past : FollowState) (taken : List Taking)
      → IsSavesOf setup keeps name start text past → place_of past ≡ place
      → IsSavesOf setup keeps name start (text ++ Text place (step_taken past taken)) (follow_taken past taken)
  next_save text place past taken saves at =
      let step = step_taken past taken in
      let to : place_after start saves.steps ≡ place =
      ap (λ p. place_after p saves.steps) (sym saves.begins)
      ∙ place_led saves.begun past saves.steps saves.leads ∙ at in
      record {
        begun = saves.begun;
        steps = saves.steps ++ step ∷ [];
        begins = saves.begins;
        leads = leads_more saves.begun past saves.steps taken saves.leads;
        text_is = ap (λ t. t ++ Text place step) saves.text_is
            ∙ ap (λ p. Texts start saves.steps ++ Text p step) (sym to)
            ∙ sym (texts_more start step saves.steps);
        plain = saves.plain;
      }

  -- these bytes end with a text of so many bytes, which with this one after it is the text of saves of this follower
  pub record Held (printed : ℕ) (bytes more : List ℕ) (state : FollowState) : Type 0 where
    pub before : List ℕ
    pub text : List ℕ
    pub bytes_are : bytes ≡ before ++ text
    pub count : length text ≡ printed
    pub saves : IsSavesOf setup keeps name start (text ++ more) state

  -- of the first save
  pub held_first : (printed : ℕ) (known : Option (List ℕ)) (past : FollowState) (taken : List Taking) → printed ≡ 0
      → place_of past ≡ start → is_plain setup.binding_text.items ≡ true
      → IfSome known (λ bytes. Held printed bytes (Text start (step_taken past taken)) (follow_taken past taken))
  held_first printed None past taken none at plain = tt
  held_first printed (Some bytes) past taken none at plain = record {
    before = bytes;
    text = [];
    bytes_are = sym (append-nil bytes);
    count = sym none;
    saves = first_save past taken at plain;
  }

-- ---- what was kept, as a save

-- the events that are kept of some, if any are
kept_events : (events : Option (Vec Event Global)) (all : List Event) (keeps : Bool)
    → option_map (λ kept. kept.items) events ≡ option_map (λ _. all) (option_map (λ kept. kept.items) events)
    → is_some (option_map (λ kept. kept.items) events) ≡ keeps → events_kept events ≡ kept_if keeps all
kept_events None all keeps is has = subst (λ b. [] ≡ kept_if b all) has refl
kept_events (Some kept) all keeps is has =
    let same : kept.items ≡ all = cc in
    subst (λ b. kept.items ≡ kept_if b all) has same

abbrev saved : Place → Place → List (ℕ × AccountRow) → List Event → Save
saved from to rows events = record { before = from; after = to; rows = rows; events = events }

-- what a follower has kept is the save of its step
pub as_save : (recent : Recent) (now : RecordedState) (keeps : Bool) (from to : Place) → recent.rows.entries ≡ now.rows
    → option_map (λ kept. kept.items) recent.events ≡ now.events → keeps ≡ is_some now.events
    → to ≡ place_of now.follower → (past : FollowState) (since : IsRecordedSince past now)
    → save_between from to recent ≡ save_of keeps from (step_taken past since.taken)
as_save recent now keeps from to rows events has at past since =
    let all = events_taken past since.taken in
    let after : to ≡ place_of (follow_taken past since.taken) = at ∙ ap place_of since.follower in
    let same_rows : recent.rows.entries ≡ rows_by all = rows ∙ since.rows in
    let same_events : events_kept recent.events ≡ kept_if keeps all =
    kept_events recent.events all keeps
    (events ∙ since.events ∙ ap (option_map (λ _. all)) (sym events)) (ap is_some events ∙ sym has) in
    (λ i. saved from (after i) (same_rows i) (same_events i))

or_saved : (zero saved : Bool) → (zero || saved) ≡ true → zero ≡ false → saved ≡ true
or_saved zero saved either is = rw is at either

module _ (setup : FollowSetup) (keeps : Bool) (name : List ℕ) (start place : Place) (printed : ℕ)
    (known : Option (List ℕ)) (now : RecordedState) (save : Save) where
  abbrev pub Save_text : List ℕ
  Save_text = transaction_text name setup.rules.chained setup.binding_text.items save

  later_held : (from : Place) → from ≡ place
      → ((past : FollowState) (since : IsRecordedSince past now)
      → save ≡ save_of keeps from (step_taken past since.taken)) → (all : Option (List ℕ))
      → IfSome all (λ bytes. Continues setup keeps name start place printed bytes now)
      → IfSome all (λ bytes. Held setup keeps name start printed bytes Save_text now.follower)
  later_held from is same_save None has = tt
  later_held from is same_save (Some bytes) has = record {
    before = has.before;
    text = has.text;
    bytes_are = has.bytes_are;
    count = has.count;
    saves = subst (λ t. IsSavesOf setup keeps name start (has.text ++ t) now.follower)
        (ap (transaction_text name setup.rules.chained setup.binding_text.items)
        (ap (λ p. save_of keeps p (step_taken has.past has.since.taken)) (sym is) ∙ sym (same_save has.past has.since)))
        (subst (IsSavesOf setup keeps name start
        (has.text ++ Text setup keeps name start place (step_taken has.past has.since.taken)))
        (sym has.since.follower)
        (next_save setup keeps name start has.text place has.past has.since.taken has.saves has.at));
  }

  first_held : (from : Place) → from ≡ start → printed ≡ 0 → is_plain setup.binding_text.items ≡ true
      → now.base ≡ from
      → ((past : FollowState) (since : IsRecordedSince past now)
      → save ≡ save_of keeps from (step_taken past since.taken))
      → (first : (past : FollowState) × IsRecordedSince past now)
      → IfSome known (λ bytes. Held setup keeps name start printed bytes Save_text now.follower)
  first_held from is none plain base same_save first =
      let past = first.0 in
      let since = first.1 in
      let at : place_of past ≡ start = sym since.base ∙ base ∙ is in
      subst (λ t. IfSome known (λ bytes. Held setup keeps name start printed bytes t now.follower))
      (ap (transaction_text name setup.rules.chained setup.binding_text.items)
      (ap (λ p. save_of keeps p (step_taken past since.taken)) (sym is) ∙ sym (same_save past since)))
      (subst (λ s. IfSome known (λ bytes.
      Held setup keeps name start printed bytes (Text setup keeps name start start (step_taken past since.taken)) s))
      (sym since.follower)
      (held_first setup keeps name start printed known past since.taken none at plain))

  -- the text of this save continues what was printed
  pub held : Fits setup keeps name start place printed known now → ((printed == 0) || now.is_saved) ≡ true
      → is_plain setup.binding_text.items ≡ true → (from : Place) → from ≡ cond (printed == 0) start place
      → now.base ≡ from
      → ((past : FollowState) (since : IsRecordedSince past now)
      → save ≡ save_of keeps from (step_taken past since.taken))
      → IfSome known (λ bytes. Held setup keeps name start printed bytes Save_text now.follower)
  held fits either plain from is base same_save =
      elim (eqb_tells printed 0) [
        | inl zero ↦
            first_held from (is ∙ ap (λ b. cond b start place) zero.0) zero.1 plain base same_save fits.first
        | inr more ↦
            later_held from (is ∙ ap (λ b. cond b start place) more.0) same_save known
            (fits.later (or_saved (printed == 0) now.is_saved either more.0))
      ]

-- the text of what a follower has kept continues what its book has printed
pub book_held : {W : Type 0} (contents : W → Option (List ℕ)) (setup : FollowSetup) (book : SqlBook W)
    (recorded now : RecordedState) (from to : Place) (recent : Recent) → recorded ≡ now → IsNext book recorded
    → from ≡ next_place book → to ≡ place_of recorded.follower → recent.rows.entries ≡ recorded.rows
    → option_map (λ kept. kept.items) recent.events ≡ recorded.events → is_plain setup.binding_text.items ≡ true
    → Fits setup book.keeps_events book.name.text.items book.start book.place book.printed (contents book.writer)
    now
    → IfSome (contents book.writer) (λ bytes. Held setup book.keeps_events book.name.text.items book.start book.printed
    bytes (SaveText setup book (save_between from to recent)) now.follower)
book_held contents setup book recorded now from to recent same next is at rows events plain fits =
    held setup book.keeps_events book.name.text.items book.start book.place book.printed (contents book.writer) now
    (save_between from to recent) fits
    (ap (λ (r : RecordedState). (book.printed == 0) || r.is_saved) (sym same) ∙ next.saved) plain from is
    (ap (λ (r : RecordedState). r.base) (sym same) ∙ next.base ∙ sym is)
    (as_save recent now book.keeps_events from to (rows ∙ ap (λ (r : RecordedState). r.rows) same)
    (events ∙ ap (λ (r : RecordedState). r.events) same)
    (next.events ∙ ap (λ (r : RecordedState). is_some r.events) same)
    (at ∙ ap (λ (r : RecordedState). place_of r.follower) same))

-- what fits after a save of this follower
pub fits_after : (setup : FollowSetup) (keeps : Bool) (name : List ℕ) (start place : Place) (printed later : ℕ)
    (old new : Option (List ℕ)) (more : List ℕ) (state : FollowState) (next : RecordedState)
    → (old ≡ None → new ≡ None) → Appends old new more → later ≡ printed + length more → place ≡ place_of state
    → IfSome old (λ bytes. Held setup keeps name start printed bytes more state)
    → IsRecordedSince state next → Fits setup keeps name start place later new next
fits_after setup keeps name start place printed later None new more state next steady appends long at held since =
    record {
      first = (state, since);
      later = λ _. subst (λ k. IfSome k (λ bytes. Continues setup keeps name start place later bytes next))
          (sym (steady refl)) tt;
    }
fits_after setup keeps name start place printed later (Some was) new more state next steady appends long at held since =
    record {
      first = (state, since);
      later = λ _. subst (λ k. IfSome k (λ all. Continues setup keeps name start place later all next))
          (sym (appended was more new appends)) (record {
            before = held.before;
            text = held.text ++ more;
            past = state;
            bytes_are = ap (λ b. b ++ more) held.bytes_are ∙ append_assoc held.before held.text more;
            count = length-append held.text more ∙ ap (λ n. n + length more) held.count ∙ sym long;
            saves = held.saves;
            at = sym at;
            since = since;
          });
    }

-- ---- books

no_part : (setup : FollowSetup) (name : List ℕ) (torn : Bool) (part : List ℕ) → torn ≡ false
    → IsRest setup name torn part → part ≡ []
no_part setup name torn part not_torn rest = subst (λ t. IsRest setup name t part) not_torn rest

module _ {W : Type 0} (contents : W → Option (List ℕ)) (setup : FollowSetup) (first old new : SqlBook W)
    (states : List Followed) (it : Followed) (more : List ℕ) where
  -- a book after one save more, from what was printed before
  prints_more : (before bytes now : List ℕ) → old.is_torn ≡ false → new.is_torn ≡ old.is_torn
      → now ≡ bytes ++ more → new.printed ≡ old.printed + length more
      → Held setup first.keeps_events first.name.text.items first.start old.printed bytes more it.follower
      → Prints setup first old before bytes states → Prints setup first new before now (states ++ it ∷ [])
  prints_more before bytes now not_torn same now_is long held prints =
      let none : prints.part ≡ [] = no_part setup first.name.text.items old.is_torn prints.part not_torn prints.rest in
      let are : bytes ≡ before ++ prints.text =
      prints.now_is ∙ ap (λ p. before ++ (prints.text ++ p)) none
      ∙ ap (λ t. before ++ t) (append-nil prints.text) in
      let text : held.text ≡ prints.text =
      same_end held.before before held.text prints.text (sym held.bytes_are ∙ are)
      (held.count ∙ prints.count) in
      record {
        text = prints.text ++ more;
        part = [];
        now_is = now_is ∙ ap (λ b. b ++ more) are ∙ append_assoc before prints.text more
            ∙ ap (λ t. before ++ t) (sym (append-nil (prints.text ++ more)));
        count = long ∙ ap (λ n. n + length more) prints.count ∙ sym (length-append prints.text more);
        grows = grows_more (AreSavesOf setup first.keeps_events first.name.text.items first.start) [] prints.text more
            states it
            (subst (λ t. AreSavesOf setup first.keeps_events first.name.text.items first.start (t ++ more) it) text
            held.saves)
            prints.grows;
        rest = subst (λ t. IsRest setup first.name.text.items t []) (sym (same ∙ not_torn)) refl;
      }

  pub printed_more : old.is_torn ≡ false → new.is_torn ≡ old.is_torn
      → Appends (contents old.writer) (contents new.writer) more → new.printed ≡ old.printed + length more
      → new.name ≡ old.name → new.keeps_events ≡ old.keeps_events → new.start ≡ old.start
      → IfSome (contents old.writer) (λ bytes.
      Held setup old.keeps_events old.name.text.items old.start old.printed bytes more it.follower)
      → HasPrinted contents setup first old states → HasPrinted contents setup first new (states ++ it ∷ [])
  printed_more not_torn same appends long name events start held has = record {
    name = name ∙ has.name;
    events = events ∙ has.events;
    start = start ∙ has.start;
    prints = λ none fresh. if_some_map (contents first.writer) _ _ (λ before was. (
      was.0 ++ more,
      appended was.0 more (contents new.writer)
          (subst (λ known. Appends known (contents new.writer) more) was.1 appends),
      prints_more before was.0 (was.0 ++ more) not_torn same refl long
          (subst (λ n. Held setup first.keeps_events n.text.items first.start old.printed was.0 more it.follower)
          has.name
          (subst (λ k. Held setup k old.name.text.items first.start old.printed was.0 more it.follower) has.events
          (subst (λ s. Held setup old.keeps_events old.name.text.items s old.printed was.0 more it.follower) has.start
          (subst (λ known. IfSome known (λ bytes.
          Held setup old.keeps_events old.name.text.items old.start old.printed bytes more it.follower)) was.1 held))))
          was.2,
    )) (has.prints none fresh);
  }

module _ {W : Type 0} (contents : W → Option (List ℕ)) (setup : FollowSetup) (first old new : SqlBook W)
    (states : List Followed) (save : Save) where
  abbrev Part : List ℕ
  Part = transaction_text old.name.text.items setup.rules.chained setup.binding_text.items save

  -- a book after a write that failed
  prints_torn : (before bytes now : List ℕ) (n : ℕ) → old.is_torn ≡ false → new.is_torn ≡ true
      → is_plain setup.binding_text.items ≡ true → old.name ≡ first.name → now ≡ bytes ++ take n Part
      → new.printed ≡ old.printed → Prints setup first old before bytes states
      → Prints setup first new before now states
  prints_torn before bytes now n not_torn torn plain name now_is same prints =
      let none : prints.part ≡ [] = no_part setup first.name.text.items old.is_torn prints.part not_torn prints.rest in
      let are : bytes ≡ before ++ prints.text =
      prints.now_is ∙ ap (λ p. before ++ (prints.text ++ p)) none
      ∙ ap (λ t. before ++ t) (append-nil prints.text) in
      record {
        text = prints.text;
        part = take n Part;
        now_is = now_is ∙ ap (λ b. b ++ take n Part) are ∙ append_assoc before prints.text (take n Part);
        count = same ∙ prints.count;
        grows = prints.grows;
        rest = subst (λ t. IsRest setup first.name.text.items t (take n Part)) (sym torn) (
          save,
          n,
          ap (λ (m : SchemaName). take n
              (transaction_text m.text.items setup.rules.chained setup.binding_text.items save)) name,
          plain,
        );
      }

  pub printed_refused : old.is_torn ≡ false → IsRefused contents setup old new Part
      → HasPrinted contents setup first old states → HasPrinted contents setup first new states
  printed_refused not_torn (inl same) has =
      subst (λ book. HasPrinted contents setup first book states) (sym same) has
  printed_refused not_torn (inr tore) has = record {
    name = tore.name ∙ has.name;
    events = tore.events ∙ has.events;
    start = tore.start ∙ has.start;
    prints = λ none fresh. if_some_map (contents first.writer) _ _ (λ before was. (
      was.0 ++ take tore.part.0 Part,
      appended was.0 (take tore.part.0 Part) (contents new.writer)
          (subst (λ known. Appends known (contents new.writer) (take tore.part.0 Part)) was.1 tore.part.1),
      prints_torn before was.0 (was.0 ++ take tore.part.0 Part) tore.part.0 not_torn tore.torn tore.plain has.name refl
          tore.printed was.2,
    )) (has.prints none fresh);
  }

-- ---- what holds after a call that may fail

pub err_map : {T E A B : Type 0} (result : Result T E) → (A → B) → OnErr result A → OnErr result B
err_map (Ok done) maps holds = tt
err_map (Err why) maps holds = maps holds

pub ok_map_seven : {T E A B C D F G H I : Type 0} (result : Result T E) → (A → B → C → D → F → G → H → I)
    → OnOk result A → OnOk result B → OnOk result C → OnOk result D → OnOk result F → OnOk result G → OnOk result H
    → OnOk result I
ok_map_seven (Ok done) maps a b c d e f g = maps a b c d e f g
ok_map_seven (Err why) maps a b c d e f g = tt

-- a write that failed has printed a part
pub fault_part : (why : ProgramFault) (old new : Option (List ℕ)) (text : List ℕ)
    → PrintsBy (is_write_fault why) old new text → is_write_fault why ≡ true → PrintsPart old new text
fault_part why old new text printed fails = subst (λ failed. PrintsBy failed old new text) fails printed
