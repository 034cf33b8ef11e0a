-- That a follower can be saved after entries of which each has its widths.
use Rattle.std.proofs.Common.{◌≡◌, ◌==◌, ◌<◌, ◌^◌, ◌+◌, ℕ, List, [], ◌∷◌, ◌++◌}
use Rattle.std.proofs.Common.{Bool, true, false, not, ◌&&◌, cond, nat_le}
use Rattle.std.proofs.Common.{Option, Some, None, Result, Ok, Err}
use Rattle.std.proofs.Common.{refl, sym, subst, arith, inl, inr}
use Rattle.std.specs.List.{AllByRecursion}
use Rattle.std.proofs.lemmas.Bool.Decides.{eqb_tells}
use Rattle.cdc_types.specs.declared.events.Event.{Event}
use Rattle.cdc_types.specs.declared.events.EventAccount.{EventAccount}
use Rattle.cdc_message.specs.Widths.{AccountFits, EventFits}
use Rattle.cdc_message.specs.declared.items.Item.TheVariants as item
use Rattle.cdc_subscriber.specs.Answers.{listens}
use Rattle.cdc_subscriber.specs.Book.{are_distinct, entry_of, ids_of, is_among, put}
use Rattle.cdc_subscriber.specs.declared.book.BookEntry.{BookEntry}
use Rattle.cdc_subscriber.specs.Steps.{next_state, taken, with_event}
use Rattle.cdc_subscriber.specs.SubscriberState.{SubscriberState}
use Rattle.cdc_subscriber.proofs.BookLemmas.{eqb_swap, neither}
use Rattle.cdc_follow.specs.declared.entries.Content.{Content}
use Rattle.cdc_follow.specs.declared.entries.Content.TheVariants as content
use Rattle.cdc_follow.specs.declared.entries.Entry.{Entry}
use Rattle.cdc_follow.specs.declared.follower.Following.{Following}
use Rattle.cdc_follow.specs.declared.follower.Following.TheVariants.{Applied, PassedBy, Duplicate, Gap, Ended}
use Rattle.cdc_follow.specs.declared.follower.Following.TheVariants.{AfterEnd, OutOfRange}
use Rattle.cdc_follow.specs.Following.{FollowState, next_follow, outcome_of, state_by}
use Rattle.cdc_follow.specs.Laws.{entries_in, item_of}
use Rattle.cdc_follow.specs.Saved.{AreBook, CanBeSaved, EntryFits}
use Rattle.cdc_follow.specs.Widths.{ContentFits, FollowedBytesCanBeSaved, FollowersCanBeSaved, NewFollowersCanBeSaved}
use Rattle.cdc_follow.specs.declared.errors.LineError.{LineError}
use Rattle.cdc_follow.specs.Entries.{line_entry}
use Rattle.cdc_follow.specs.Lines.{lines_of}
use Rattle.cdc_follow.specs.Streams.{NumberedEntry, Stream, stream_of, stream_of_lines, stream_with}
use Rattle.cdc_follow.proofs.EntryWidths.{entries_fit}
use Rattle.cdc_follow.proofs.FoldLemmas.{folds}

either : {X : Type 0} (P : X → Type 0) (b : Bool) (x y : X) → P x → P y → P (cond b x y)
either P true x y here there = here
either P false x y here there = there

-- ---- the accounts

side_fits : (a : EventAccount) → AccountFits a → EntryFits (entry_of a)
side_fits a fits = record {
  id = fits.id;
  debits_pending = fits.debits_pending;
  debits_posted = fits.debits_posted;
  credits_pending = fits.credits_pending;
  credits_posted = fits.credits_posted;
}

put_fits : (entry : BookEntry) (book : List BookEntry) → EntryFits entry → AllByRecursion EntryFits book
    → AllByRecursion EntryFits (put entry book)
put_fits entry [] fits all = (fits, tt)
put_fits entry (other ∷ rest) fits all =
    either (AllByRecursion EntryFits) (other.id == entry.id) (entry ∷ rest) (other ∷ put entry rest) (fits, all.1)
    (all.0, put_fits entry rest fits all.1)

-- an account that is put is the only further one
put_apart : (id : ℕ) (entry : BookEntry) (book : List BookEntry) → (entry.id == id) ≡ false
    → is_among id (ids_of book) ≡ false → is_among id (ids_of (put entry book)) ≡ false
put_apart id entry [] differs apart = rw differs refl
put_apart id entry (other ∷ rest) differs apart =
    let both = neither (other.id == id) (is_among id (ids_of rest)) apart in
    elim (eqb_tells other.id entry.id) [
      | inl same ↦ rw (same.0, differs, both.1) refl
      | inr other-id ↦ rw (other-id.0, both.0) (put_apart id entry rest differs both.1)
    ]

both_true : (a b : Bool) → (not a && b) ≡ true → (a ≡ false) × (b ≡ true)
both_true true b is = absurd cc
both_true false b is = (refl, is)

put_distinct : (entry : BookEntry) (book : List BookEntry) → are_distinct (ids_of book) ≡ true
    → are_distinct (ids_of (put entry book)) ≡ true
put_distinct entry [] distinct = refl
put_distinct entry (other ∷ rest) distinct =
    let both = both_true (is_among other.id (ids_of rest)) (are_distinct (ids_of rest)) distinct in
    elim (eqb_tells other.id entry.id) [
      | inl same ↦ rw (same.0, sym same.1, both.0) both.1
      | inr apart ↦ rw (apart.0, put_apart other.id entry rest (eqb_swap other.id entry.id apart.0) both.0)
          (put_distinct entry rest both.1)
    ]

put_book : (a : EventAccount) (book : List BookEntry) → AccountFits a → AreBook book → AreBook (put (entry_of a) book)
put_book a book fits are = record {
  fit = put_fits (entry_of a) book (side_fits a fits) are.fit;
  distinct = put_distinct (entry_of a) book are.distinct;
}

-- ---- what is kept

record KeptFits (kept : SubscriberState) : Type 0 where
  pub last : kept.last < 2 ^ 64
  pub applied : kept.applied < 2 ^ 64
  pub book : AreBook kept.book

event_keeps : (kept : SubscriberState) (e : Event) → KeptFits kept → EventFits e → KeptFits (with_event kept e)
event_keeps kept e fits event = record {
  last = event.timestamp;
  applied = omega arith;
  book = put_book e.credit_account _ event.credit_account
      (put_book e.debit_account kept.book event.debit_account fits.book);
}

next_keeps : (kept : SubscriberState) (c : Content) → KeptFits kept → ContentFits c
    → KeptFits (next_state kept (item_of c))
next_keeps kept (content.Event e) fits event =
    either KeptFits (listens kept) (taken kept (item.Event e)) kept
    (either KeptFits (nat_le e.timestamp kept.last) kept (with_event kept e) fits (event_keeps kept e fits event)) fits
next_keeps kept content.End fits event =
    either KeptFits (listens kept) (record kept { ended = true }) kept
    (record { last = fits.last; applied = fits.applied; book = fits.book }) fits

-- ---- the follower

kept_in : (text : List ℕ) (state : FollowState) → CanBeSaved text state → KeptFits state.kept
kept_in text state saved = record { last = saved.last; applied = saved.applied; book = saved.book }

with_kept : (text : List ℕ) (state : FollowState) (kept : SubscriberState) (seen : ℕ) → CanBeSaved text state
    → KeptFits kept → seen < 2 ^ 64 → CanBeSaved text (record { kept = kept; seen = seen })
with_kept text state kept seen saved fits small =
    record { line = saved.line; seen = small; last = fits.last; applied = fits.applied; book = fits.book }

one_more : (text : List ℕ) (outcome : Following) (state : FollowState) (previous : Option ℕ) (c : Content)
    → CanBeSaved text state → ContentFits c → CanBeSaved text (state_by outcome state previous c)
one_more text Applied state previous (content.Event e) saved fits =
    with_kept text state _ e.timestamp saved
    (next_keeps state.kept (content.Event e) (kept_in text state saved) fits) fits.timestamp
one_more text Applied state previous content.End saved fits = saved
one_more text PassedBy state None (content.Event e) saved fits = saved
one_more text PassedBy state (Some previous) (content.Event e) saved fits =
    with_kept text state state.kept e.timestamp saved (kept_in text state saved) fits.timestamp
one_more text PassedBy state previous content.End saved fits = saved
one_more text Duplicate state previous c saved fits = saved
one_more text Gap state previous c saved fits = saved
one_more text AfterEnd state previous c saved fits = saved
one_more text OutOfRange state previous c saved fits = saved
one_more text Ended state previous c saved fits =
    with_kept text state _ state.seen saved (next_keeps state.kept content.End (kept_in text state saved) tt) saved.seen

pub can_be_saved : FollowersCanBeSaved
can_be_saved binding text state [] saved all = saved
can_be_saved binding text state (entry ∷ entries) saved all =
    can_be_saved binding text (next_follow binding state entry) entries
    (one_more text (outcome_of binding state entry) state entry.previous entry.content saved all.0) all.1

-- ---- streams

-- a line in front of others
with_line : (line : ℕ) (read : Result (Option Entry) LineError) (later : Stream)
    → ((entry : Entry) → read ≡ Ok (Some entry) → ContentFits entry.content)
    → AllByRecursion (λ entry. ContentFits entry.content) (entries_in later.entries)
    → AllByRecursion (λ entry. ContentFits entry.content) (entries_in (stream_with line read later).entries)
with_line line (Ok None) later fits all = all
with_line line (Ok (Some entry)) later fits all = (fits entry refl, all)
with_line line (Err why) later fits all = tt

lines_fit : (chained : Bool) (number : ℕ) (lines : List (List ℕ))
    → AllByRecursion (λ entry. ContentFits entry.content) (entries_in (stream_of_lines chained number lines).entries)
unfolding stream_of_lines
lines_fit chained number [] = tt
lines_fit chained number (line ∷ rest) =
    with_line number (line_entry chained line) (stream_of_lines chained (number + 1) rest) (entries_fit chained line)
    (lines_fit chained (number + 1) rest)

first_ones : (before after : List NumberedEntry)
    → AllByRecursion (λ entry. ContentFits entry.content) (entries_in (before ++ after))
    → AllByRecursion (λ entry. ContentFits entry.content) (entries_in before)
first_ones [] after all = tt
first_ones (numbered ∷ before) after all = (all.0, first_ones before after all.1)

pub bytes_can_be_saved : FollowedBytesCanBeSaved
bytes_can_be_saved binding text rules state bytes saved =
    let numbered = (stream_of rules.chained bytes).entries in
    let done = folds binding rules.skips_gaps state numbered in
    subst (CanBeSaved text) (sym done.folds)
    (can_be_saved binding text state (entries_in done.before) saved
    (first_ones done.before done.after
    (subst (λ all. AllByRecursion (λ entry. ContentFits entry.content) (entries_in all)) done.whole
    (lines_fit rules.chained 1 (lines_of bytes)))))

pub new_can_be_saved : NewFollowersCanBeSaved
new_can_be_saved text line = record {
  line = line;
  seen = omega arith;
  last = omega arith;
  applied = omega arith;
  book = record { fit = tt; distinct = refl };
}
