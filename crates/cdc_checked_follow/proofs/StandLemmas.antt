-- A checked follower stands for what was followed.
use Rattle.std.proofs.Common.{◌≡◌, ℕ, ◌+◌, Bool, true, false, List, [], ◌∷◌, ◌++◌, Option, Some, None, append-nil, length, refl, sym, ap, ap₂, ◌∙◌, subst, arith}
use Rattle.std.specs.Prelude.{fold, max, min, if◌then◌else◌}
use Rattle.std.proofs.lemmas.List.{length-append}
use Rattle.std.proofs.lemmas.List.Elements.{filter-append}
use Rattle.cdc_types.specs.declared.events.Event.{Event}
use Rattle.cdc_types.specs.Lines.{first_line}
use Rattle.cdc_types.specs.Widths.{max_64}
use Rattle.cdc_match.specs.Arguments.{Arguments}
use Rattle.cdc_subscriber.specs.declared.book.BookEntry.{BookEntry}
use Rattle.cdc_subscriber.specs.Book.{book_of, entries_of}
use Rattle.cdc_subscriber.specs.Steps.{book_after}
use Rattle.cdc_subscriber.proofs.BookLemmas.{book_of-push}
use Rattle.cdc_audit.specs.declared.refusals.Refusal.{Refusal}
use Rattle.cdc_follow.specs.declared.entries.Content.{Content}
use Rattle.cdc_follow.specs.declared.entries.Content.TheVariants as content
use Rattle.cdc_checked.specs.declared.checker.Outcome.{Outcome}
use Rattle.cdc_checked.specs.declared.checker.Outcome.TheVariants as outcome
use Rattle.cdc_checked.specs.Based.{next_by, rules_by}
use Rattle.cdc_checked.specs.Checked.{is_new}
use Rattle.cdc_checked.specs.Standing as standing
use Rattle.cdc_checked.specs.Standing.{CheckerState, outcome_by, outcome_if}
use Rattle.cdc_checked.proofs.StandLemmas.{next_if_applied, next_if_not, next_if_refused}
use Rattle.cdc_checked_follow.specs.declared.follower.Checking.{Checking}
use Rattle.cdc_checked_follow.specs.declared.follower.Checking.TheVariants.{Applied, Late, Refused, Ended, OutOfRange}
use Rattle.cdc_checked_follow.specs.declared.streams.CheckStop.{CheckStop}
use Rattle.cdc_checked_follow.specs.Checking.{CheckedState, checking_of, content_outcome, end_outcome, is_out_of_range, next_content, stop_for}
use Rattle.cdc_checked_follow.specs.Standing.{CheckedFollowerState, StandsFor, changes_nothing, greatest, taken_of, takes}

-- ---- what the checker makes of an event

-- the applied events after an event of which the checker makes this
abbrev pub applied_after : Outcome → List Event → Event → List Event
applied_after outcome.Applied applied e = applied ++ e ∷ []
applied_after outcome.Late applied e = applied
applied_after (outcome.Refused why) applied e = applied

next_is : (baseline : Bool) (applied : List Event) (e : Event)
    → next_by baseline applied e ≡ applied_after (outcome_by baseline applied e) applied e
next_is baseline applied e = by (is_new applied e) refl (first_line (rules_by baseline applied e)) refl
  where
    by : (b : Bool) → is_new applied e ≡ b → (o : Option Refusal) → first_line (rules_by baseline applied e) ≡ o
        → next_by baseline applied e ≡ applied_after (outcome_if b o) applied e
    by false new o lines = next_if_not baseline applied e new
    by true new None lines = next_if_applied baseline applied e new lines
    by true new (Some why) lines = next_if_refused baseline applied e why lines

-- an event within the range, by what the checker makes of it
pub made_within : (state : CheckedState) (e : Event) (made : Outcome) → is_out_of_range e ≡ false
    → made ≡ outcome_by state.baseline state.applied e → content_outcome state (content.Event e) ≡ checking_of made
made_within state e made within is =
    ap₂ (λ b o. if b then OutOfRange else checking_of o) within (sym is)

pub next_within : (state : CheckedState) (e : Event) (made : Outcome) → is_out_of_range e ≡ false
    → made ≡ outcome_by state.baseline state.applied e
    → next_content state (content.Event e) ≡ record state { applied = applied_after made state.applied e }
next_within state e made within is =
    ap₂ (λ b (es : List Event). if b then state else record state { applied = es }) within
    (next_is state.baseline state.applied e ∙ ap (λ o. applied_after o state.applied e) (sym is))

-- an event out of it
pub next_without : (state : CheckedState) (e : Event) → is_out_of_range e ≡ true
    → next_content state (content.Event e) ≡ state
next_without state e out =
    ap (λ b. if b then state else record state { applied = next_by state.baseline state.applied e }) out

-- an entry at which following stops changes nothing
nothing_is : {A : Type 0} (o : Option A) (x : A) → o ≡ None → o ≡ Some x → ⊥
nothing_is None x none is = cc
nothing_is (Some y) x none is = cc

pub unchanged_at_stop : (skips : Bool) (state : CheckedState) (c : Content) (number : ℕ) (why : CheckStop)
    → stop_for skips (content_outcome state c) number ≡ Some why → next_content state c ≡ state
unchanged_at_stop skips state content.End number why stops = absurd (nothing_is _ why (by state.ended) stops)
  where
    by : (ended : Bool) → stop_for skips (end_outcome ended) number ≡ None
    by true = refl
    by false = refl
unchanged_at_stop skips state (content.Event e) number why stops =
    by (is_out_of_range e) refl (outcome_by state.baseline state.applied e) refl
  where
    none : is_out_of_range e ≡ false → (o : Outcome) → outcome_by state.baseline state.applied e ≡ o
        → stop_for skips (checking_of o) number ≡ None
        → stop_for skips (content_outcome state (content.Event e)) number ≡ None
    none within o made is =
        ap (λ c. stop_for skips c number) (made_within state e o within (sym made)) ∙ is

    by : (b : Bool) → is_out_of_range e ≡ b → (o : Outcome) → outcome_by state.baseline state.applied e ≡ o
        → next_content state (content.Event e) ≡ state
    by true out o made = next_without state e out
    by false within outcome.Applied made =
        absurd (nothing_is _ why (none within outcome.Applied made refl) stops)
    by false within outcome.Late made = absurd (nothing_is _ why (none within outcome.Late made refl) stops)
    by false within (outcome.Refused r) made = next_within state e (outcome.Refused r) within (sym made)

-- following that doesn't stop at an entry doesn't stop at it if gaps are skipped
pub skips_too : (skips : Bool) (c : Checking) (number other : ℕ) → stop_for skips c number ≡ None
    → stop_for true c other ≡ None
skips_too skips Applied number other none = refl
skips_too skips Late number other none = refl
skips_too skips (Refused why) number other none = refl
skips_too skips Ended number other none = refl
skips_too skips OutOfRange number other none = cc

-- following stops only at an entry that changes nothing
pub stops_unchanged : (skips : Bool) (c : Checking) (number : ℕ) (why : CheckStop)
    → stop_for skips c number ≡ Some why → changes_nothing c ≡ true
stops_unchanged skips Applied number why stops = cc
stops_unchanged skips Late number why stops = refl
stops_unchanged skips (Refused r) number why stops = refl
stops_unchanged skips Ended number why stops = cc
stops_unchanged skips OutOfRange number why stops = refl

-- ---- what the follower keeps

fold_push : {S X : Type 0} (f : S → X → S) (s : S) (xs : List X) (x : X) → fold f s (xs ++ x ∷ []) ≡ f (fold f s xs) x
fold_push f s [] x = refl
fold_push f s (y ∷ xs) x = fold_push f (f s y) xs x

-- one more event is applied
module _ (binding : Arguments) (applied : List Event) (e : Event) where
  taken_push : taken_of binding (applied ++ e ∷ [])
      ≡ (if takes binding e then taken_of binding applied ++ e ∷ [] else taken_of binding applied)
  taken_push = filter-append (takes binding) applied (e ∷ []) ∙ by (takes binding e)
    where
      by : (b : Bool) → taken_of binding applied ++ (if b then e ∷ [] else [])
          ≡ (if b then taken_of binding applied ++ e ∷ [] else taken_of binding applied)
      by true = refl
      by false = append-nil (taken_of binding applied)

  book_push : (book : List BookEntry) → book ≡ book_of (taken_of binding applied)
      → (if takes binding e then book_after book e else book) ≡ book_of (taken_of binding (applied ++ e ∷ []))
  book_push book is = by (takes binding e) ∙ sym (ap book_of taken_push)
    where
      by : (b : Bool) → (if b then book_after book e else book)
          ≡ book_of (if b then taken_of binding applied ++ e ∷ [] else taken_of binding applied)
      by true =
          ap (λ (entries : List BookEntry). book_after entries e) is
          ∙ sym (book_of-push (taken_of binding applied) e)
      by false = is

  count_push : (count : ℕ) → count ≡ min (length (taken_of binding applied)) max_64
      → (if takes binding e then min (count + 1) max_64 else count)
      ≡ min (length (taken_of binding (applied ++ e ∷ []))) max_64
  count_push count is =
      by (takes binding e) ∙ sym (ap (λ (es : List Event). min (length es) max_64) taken_push)
    where
      more : (n most : ℕ) → min (min n most + 1) most ≡ min (n + 1) most
      more n most = omega arith

      by : (b : Bool) → (if b then min (count + 1) max_64 else count)
          ≡ min (length (if b then taken_of binding applied ++ e ∷ [] else taken_of binding applied)) max_64
      by true =
          ap (λ n. min (n + 1) max_64) is ∙ more (length (taken_of binding applied)) max_64
          ∙ ap (λ n. min n max_64) (sym (length-append (taken_of binding applied) (e ∷ [])))
      by false = is

-- so a follower stands for one more applied event
pub stands_applied : (binding : Arguments) (old new : CheckedFollowerState) (state : CheckedState) (e : Event)
    (taken : Bool) → StandsFor binding old state → taken ≡ takes binding e
    → standing.StandsFor new.checker (state.applied ++ e ∷ [])
    → entries_of new.book ≡ (if taken then book_after (entries_of old.book) e else entries_of old.book)
    → new.applied ≡ (if taken then min (old.applied + 1) max_64 else old.applied)
    → new.last ≡ max old.last e.timestamp → new.ended ≡ old.ended → new.baseline ≡ old.baseline
    → StandsFor binding new (record state { applied = state.applied ++ e ∷ [] })
stands_applied binding old new state e taken stands is checker book applied last ended base = record {
  checker = checker;
  book = book ∙ ap (λ b. if b then book_after (entries_of old.book) e else entries_of old.book) is
      ∙ book_push binding state.applied e (entries_of old.book) stands.book;
  applied = applied ∙ ap (λ b. if b then min (old.applied + 1) max_64 else old.applied) is
      ∙ count_push binding state.applied e old.applied stands.applied;
  last = last ∙ ap (λ t. max t e.timestamp) stands.last
      ∙ sym (fold_push (λ t (x : Event). max t x.timestamp) 0 state.applied e);
  ended = ended ∙ stands.ended;
  baseline = base ∙ stands.baseline;
}

-- ---- one event

-- the checker stands for what it made of the event
checker_stands : (baseline : Bool) (checker : CheckerState) (applied : List Event) (e : Event) (made : Outcome)
    → made ≡ outcome_by baseline applied e → standing.StandsFor checker (next_by baseline applied e)
    → standing.StandsFor checker (applied_after made applied e)
checker_stands baseline checker applied e made is stands =
    subst (standing.StandsFor checker)
    (next_is baseline applied e ∙ ap (λ o. applied_after o applied e) (sym is)) stands

-- an event that isn't applied
pub stands_kept : (binding : Arguments) (old new : CheckedFollowerState) (state : CheckedState) (e : Event)
    (made : Outcome) → StandsFor binding old state → is_out_of_range e ≡ false → made ≡ outcome_by state.baseline state.applied e
    → applied_after made state.applied e ≡ state.applied
    → standing.StandsFor new.checker (next_by state.baseline state.applied e) → new.book ≡ old.book
    → new.applied ≡ old.applied → new.last ≡ old.last → new.ended ≡ old.ended → new.baseline ≡ old.baseline
    → StandsFor binding new (next_content state (content.Event e))
stands_kept binding old new state e made stands within is same checker book applied last ended base =
    subst (StandsFor binding new) (sym (next_within state e made within is)) (record {
      checker = checker_stands state.baseline new.checker state.applied e made is checker;
      book = ap entries_of book ∙ stands.book ∙ ap (λ (es : List Event). book_of (taken_of binding es)) (sym same);
      applied = applied ∙ stands.applied
          ∙ ap (λ (es : List Event). min (length (taken_of binding es)) max_64) (sym same);
      last = last ∙ stands.last ∙ ap greatest (sym same);
      ended = ended ∙ stands.ended;
      baseline = base ∙ stands.baseline;
    })

-- an event that is applied
pub stands_next : (binding : Arguments) (old new : CheckedFollowerState) (state : CheckedState) (e : Event)
    (taken : Bool) → StandsFor binding old state → is_out_of_range e ≡ false
    → outcome.Applied ≡ outcome_by state.baseline state.applied e → standing.StandsFor new.checker (next_by state.baseline state.applied e)
    → taken ≡ takes binding e
    → entries_of new.book ≡ (if taken then book_after (entries_of old.book) e else entries_of old.book)
    → new.applied ≡ (if taken then min (old.applied + 1) max_64 else old.applied)
    → new.last ≡ max old.last e.timestamp → new.ended ≡ old.ended → new.baseline ≡ old.baseline
    → StandsFor binding new (next_content state (content.Event e))
stands_next binding old new state e taken stands within is checker taken_is book applied last ended base =
    subst (StandsFor binding new) (sym (next_within state e outcome.Applied within is))
    (stands_applied binding old new state e taken stands taken_is
    (checker_stands state.baseline new.checker state.applied e outcome.Applied is checker) book applied last ended base)
