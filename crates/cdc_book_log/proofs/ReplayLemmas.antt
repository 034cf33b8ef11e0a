-- What the records of a follower's saves make of the follower.
use Rattle.std.proofs.Common.{◌≡◌, ◌==◌, ℕ, List, [], ◌∷◌, Bool, true, false, not, ◌&&◌, cond, nat_le}
use Rattle.std.proofs.Common.{Option, refl, sym, ap, ◌∙◌, inl, inr}
use Rattle.std.specs.Prelude.{◌+◌, min}
use Rattle.std.specs.List.{flat_map}
use Rattle.std.proofs.lemmas.Bool.Decides.{eqb_tells}
use Rattle.std.proofs.lemmas.List.Sums.{fold-append}
use Rattle.cdc_types.specs.declared.events.Event.{Event}
use Rattle.cdc_types.specs.Widths.{max_64}
use Rattle.cdc_match.specs.Arguments.{Arguments}
use Rattle.cdc_message.specs.declared.items.Item.TheVariants as item
use Rattle.cdc_subscriber.specs.Answers.{listens}
use Rattle.cdc_subscriber.specs.Book.{are_distinct, entry_of, ids_of, is_among, put}
use Rattle.cdc_subscriber.specs.declared.book.BookEntry.{BookEntry}
use Rattle.cdc_subscriber.specs.Steps.{book_after, next_state, taken, with_event}
use Rattle.cdc_subscriber.specs.SubscriberState.{SubscriberState}
use Rattle.cdc_subscriber.proofs.BookLemmas.{eqb_same, eqb_swap, neither}
use Rattle.cdc_subscriber.proofs.PushLemmas.{is_among-put}
use Rattle.cdc_follow.specs.declared.entries.Content.{Content}
use Rattle.cdc_follow.specs.declared.entries.Content.TheVariants as content
use Rattle.cdc_follow.specs.declared.entries.Entry.{Entry}
use Rattle.cdc_follow.specs.declared.follower.Following.{Following}
use Rattle.cdc_follow.specs.declared.follower.Following.TheVariants.{Applied, PassedBy, Duplicate, Gap, Ended}
use Rattle.cdc_follow.specs.declared.follower.Following.TheVariants.{AfterEnd, OutOfRange}
use Rattle.cdc_follow.specs.Following.{FollowState, follow_all, next_follow, outcome_of, state_by}
use Rattle.cdc_follow.specs.Laws.{item_of}
use Rattle.cdc_book_log.specs.Replay.{ChangesReplay, SavesReplay, changes_by, emptied, put_all, replay, with_changes}

-- ---- the accounts

both_true : (a b : Bool) → (not a && b) ≡ true → (a ≡ false) × (b ≡ true)
both_true true b is = absurd cc
both_true false b is = (refl, is)

-- an account that is put is there
here : (entry : BookEntry) (book : List BookEntry) → is_among entry.id (ids_of (put entry book)) ≡ true
here entry [] = rw (eqb_same entry.id) refl
here entry (other ∷ rest) =
    elim (eqb_tells other.id entry.id) [
      | inl same ↦ rw (same.0, eqb_same entry.id) refl
      | inr apart ↦ rw (apart.0, apart.0) (here entry rest)
    ]

-- of two entries with one number the later counts
put_twice : (a b : BookEntry) (book : List BookEntry) → a.id ≡ b.id → put b (put a book) ≡ put b book
put_twice a b [] same = rw (same, eqb_same b.id) refl
put_twice a b (other ∷ rest) same =
    elim (eqb_tells other.id a.id) [
      | inl is ↦
          let one : (other.id == b.id) ≡ true = rw (← same) is.0 in
          let two : (a.id == b.id) ≡ true = rw (same, eqb_same b.id) refl in
          rw (is.0, one, two) refl
      | inr apart ↦
          let one : (other.id == b.id) ≡ false = rw (← same) apart.0 in
          rw (apart.0, one) (ap (λ (es : List BookEntry). other ∷ es) (put_twice a b rest same))
    ]

-- an entry whose number is there can be put before another one or after it
put_swap : (a b : BookEntry) (book : List BookEntry) → (a.id == b.id) ≡ false → is_among b.id (ids_of book) ≡ true
    → put b (put a book) ≡ put a (put b book)
put_swap a b [] apart there = cc
put_swap a b (other ∷ rest) apart there =
    let back = eqb_swap a.id b.id apart in
    elim (eqb_tells other.id a.id) [
      | inl same ↦
          let no : (other.id == b.id) ≡ false = rw same.1 apart in
          rw (same.0, no, apart, same.0) refl
      | inr not_a ↦ elim (eqb_tells other.id b.id) [
        | inl same ↦ rw (not_a.0, same.0, back) refl
        | inr not_b ↦
            let later : is_among b.id (ids_of rest) ≡ true = rw not_b.0 at there in
            rw (not_a.0, not_b.0, not_a.0)
            (ap (λ (es : List BookEntry). other ∷ es) (put_swap a b rest apart later))
      ]
    ]

-- an entry whose number is there, and not among further entries, can be put before them or after
put_all_swap : (changed : List BookEntry) (entry : BookEntry) (book : List BookEntry)
    → is_among entry.id (ids_of changed) ≡ false → is_among entry.id (ids_of book) ≡ true
    → put_all changed (put entry book) ≡ put entry (put_all changed book)
put_all_swap [] entry book apart there = refl
put_all_swap (first ∷ rest) entry book apart there =
    let both = neither (first.id == entry.id) (is_among entry.id (ids_of rest)) apart in
    ap (put_all rest) (sym (put_swap first entry book both.0 there))
    ∙ put_all_swap rest entry (put first book) both.1 (is_among-put entry.id first book there)

-- one more account among the changes is one more that is put
put_all-put : (entry : BookEntry) (changed book : List BookEntry) → are_distinct (ids_of changed) ≡ true
    → put_all (put entry changed) book ≡ put entry (put_all changed book)
put_all-put entry [] book distinct = refl
put_all-put entry (first ∷ rest) book distinct =
    let both = both_true (is_among first.id (ids_of rest)) (are_distinct (ids_of rest)) distinct in
    elim (eqb_tells first.id entry.id) [
      | inl same ↦
          let apart : is_among entry.id (ids_of rest) ≡ false = rw (← same.1) both.0 in
          let there : is_among entry.id (ids_of (put first book)) ≡ true = rw (← same.1) (here first book) in
          rw same.0 (ap (put_all rest) (sym (put_twice first entry book same.1))
          ∙ put_all_swap rest entry (put first book) apart there)
      | inr other ↦ rw other.0 (put_all-put entry rest (put first book) both.1)
    ]

-- an account that is put is the only further one
put_apart : (id : ℕ) (entry : BookEntry) (book : List BookEntry) → (entry.id == id) ≡ false
    → is_among id (ids_of book) ≡ false → is_among id (ids_of (put entry book)) ≡ false
put_apart id entry [] differs apart = rw differs refl
put_apart id entry (other ∷ rest) differs apart =
    let both = neither (other.id == id) (is_among id (ids_of rest)) apart in
    elim (eqb_tells other.id entry.id) [
      | inl same ↦ rw (same.0, differs, both.1) refl
      | inr other-id ↦ rw (other-id.0, both.0) (put_apart id entry rest differs both.1)
    ]

-- no account occurs twice then
pub put_distinct : (entry : BookEntry) (book : List BookEntry) → are_distinct (ids_of book) ≡ true
    → are_distinct (ids_of (put entry book)) ≡ true
put_distinct entry [] distinct = refl
put_distinct entry (other ∷ rest) distinct =
    let both = both_true (is_among other.id (ids_of rest)) (are_distinct (ids_of rest)) distinct in
    elim (eqb_tells other.id entry.id) [
      | inl same ↦ rw (same.0, sym same.1, both.0) both.1
      | inr apart ↦ rw (apart.0, put_apart other.id entry rest (eqb_swap other.id entry.id apart.0) both.0)
          (put_distinct entry rest both.1)
    ]

after_distinct : (book : List BookEntry) (e : Event) → are_distinct (ids_of book) ≡ true
    → are_distinct (ids_of (book_after book e)) ≡ true
after_distinct book e distinct =
    put_distinct (entry_of e.credit_account) _ (put_distinct (entry_of e.debit_account) book distinct)

-- the accounts of an event can be put into the changes, or into the book after these
after_put : (changed book : List BookEntry) (e : Event) → are_distinct (ids_of changed) ≡ true
    → put_all (book_after changed e) book ≡ book_after (put_all changed book) e
after_put changed book e distinct =
    let debit = entry_of e.debit_account in
    let credit = entry_of e.credit_account in
    put_all-put credit (put debit changed) book (put_distinct debit changed distinct)
    ∙ ap (put credit) (put_all-put debit changed book distinct)

-- ---- what a subscriber keeps

-- what a subscriber keeps, with its book put into another one
abbrev kept_with : List BookEntry → SubscriberState → SubscriberState
kept_with book kept = record kept { book = put_all kept.book book }

-- an item makes of what is kept with changes what it makes of the changes
next_with : (book : List BookEntry) (kept : SubscriberState) (c : Content) → are_distinct (ids_of kept.book) ≡ true
    → next_state (kept_with book kept) (item_of c) ≡ kept_with book (next_state kept (item_of c))
next_with book kept (content.Event e) distinct = go (listens kept) (nat_le e.timestamp kept.last)
  where
    go : (listening early : Bool)
        → cond listening (cond early (kept_with book kept) (with_event (kept_with book kept) e)) (kept_with book kept)
        ≡ kept_with book (cond listening (cond early kept (with_event kept e)) kept)
    go false early = refl
    go true true = refl
    go true false =
        ap (λ b. record {
          book = b;
          last = e.timestamp;
          applied = min (kept.applied + 1) max_64;
          ended = kept.ended;
          closed = kept.closed;
        }) (sym (after_put kept.book book e distinct))
next_with book kept content.End distinct = go (listens kept)
  where
    go : (listening : Bool)
        → cond listening (record (kept_with book kept) { ended = true }) (kept_with book kept)
        ≡ kept_with book (cond listening (record kept { ended = true }) kept)
    go true = refl
    go false = refl

-- what holds in both cases
either : {X : Type 0} (P : X → Type 0) (b : Bool) (x y : X) → P x → P y → P (cond b x y)
either P true x y one other = one
either P false x y one other = other

-- no account occurs twice among what is kept
abbrev IsApart : SubscriberState → Type 0
IsApart kept = are_distinct (ids_of kept.book) ≡ true

next_apart : (kept : SubscriberState) (c : Content) → IsApart kept → IsApart (next_state kept (item_of c))
next_apart kept (content.Event e) distinct =
    either IsApart (listens kept) (taken kept (item.Event e)) kept
    (either IsApart (nat_le e.timestamp kept.last) kept (with_event kept e) distinct
    (after_distinct kept.book e distinct)) distinct
next_apart kept content.End distinct =
    either IsApart (listens kept) (record kept { ended = true }) kept distinct distinct

-- ---- the follower

-- the same of an entry, whatever becomes of it
pub state_with : (from change : FollowState) (outcome : Following) (previous : Option ℕ) (c : Content)
    → IsApart change.kept
    → state_by outcome (with_changes from change) previous c ≡ with_changes from (state_by outcome change previous c)
state_with from change Applied previous (content.Event e) distinct =
    ap (λ kept. record { kept = kept; seen = e.timestamp })
    (next_with from.kept.book change.kept (content.Event e) distinct)
state_with from change Applied previous content.End distinct = refl
state_with from change PassedBy previous (content.Event e) distinct = refl
state_with from change PassedBy previous content.End distinct = refl
state_with from change Duplicate previous c distinct = refl
state_with from change Gap previous c distinct = refl
state_with from change AfterEnd previous c distinct = refl
state_with from change OutOfRange previous c distinct = refl
state_with from change Ended previous c distinct =
    ap (λ kept. record { kept = kept; seen = change.seen })
    (next_with from.kept.book change.kept content.End distinct)

-- no account of the changes occurs twice after it
pub state_apart : (change : FollowState) (outcome : Following) (previous : Option ℕ) (c : Content)
    → IsApart change.kept → IsApart (state_by outcome change previous c).kept
state_apart change Applied previous (content.Event e) distinct = next_apart change.kept (content.Event e) distinct
state_apart change Applied previous content.End distinct = distinct
state_apart change PassedBy previous (content.Event e) distinct = distinct
state_apart change PassedBy previous content.End distinct = distinct
state_apart change Duplicate previous c distinct = distinct
state_apart change Gap previous c distinct = distinct
state_apart change AfterEnd previous c distinct = distinct
state_apart change OutOfRange previous c distinct = distinct
state_apart change Ended previous c distinct = next_apart change.kept content.End distinct

-- entries make of a follower with changes what they make of the changes
follow_with : (binding : Arguments) (from change : FollowState) (entries : List Entry) → IsApart change.kept
    → with_changes from (follow_all binding change entries) ≡ follow_all binding (with_changes from change) entries
follow_with binding from change [] distinct = refl
follow_with binding from change (entry ∷ entries) distinct =
    let outcome = outcome_of binding change entry in
    follow_with binding from (next_follow binding change entry) entries
    (state_apart change outcome entry.previous entry.content distinct)
    ∙ ap (λ state. follow_all binding state entries)
    (sym (state_with from change outcome entry.previous entry.content distinct))

pub changes_replayed : ChangesReplay
changes_replayed binding state entries = follow_with binding state (emptied state) entries refl

pub saves_replayed : SavesReplay
saves_replayed binding state [] = refl
saves_replayed binding state (entries ∷ saves) =
    let after = follow_all binding state entries in
    ap (λ s. replay s (changes_by binding after saves)) (changes_replayed binding state entries)
    ∙ saves_replayed binding after saves
    ∙ sym (fold-append (next_follow binding) state entries (flat_map (λ es. es) saves))
