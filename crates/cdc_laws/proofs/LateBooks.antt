-- The book of events after a start: it has just their accounts, with the ledger's balances, whatever moved before.
use Rattle.std.proofs.Common.{◌≡◌, ℕ, ◌<◌, ◌≤◌, cond, List, [], ◌∷◌, ◌++◌, map, refl, sym, ap, ap₂, ◌∙◌, append_assoc, append-nil, inl, inr}
use Rattle.std.proofs.lemmas.Bool.{cond_both, le-leb, lt-leb}
use Rattle.std.proofs.lemmas.Bool.Decides.{eqb_tells}
use Rattle.std.proofs.lemmas.Grind.{flat_map-append}
use Rattle.std.proofs.lemmas.List.{reverse-append}
use Rattle.std.proofs.lemmas.List.Elements.{filter-append}
use Rattle.std.proofs.lemmas.List.Folds.{find-append}
use Rattle.std.specs.Prelude.{◌==◌, find, fold, reverse, nat_le, nat_lt, Option, Some, None, IsSome, unwrap_or, if◌then◌else◌}
use Rattle.std.specs.Option.{option_or}
use Rattle.std.specs.List.{AllByRecursion, flat_map}
use Rattle.cdc_types.specs.declared.events.Event.{Event}
use Rattle.cdc_types.specs.Timestamps.{RiseFrom, last_timestamp, last_timestamp_from}
use Rattle.cdc_ledger.specs.Balances.{as_of}
use Rattle.cdc_ledger.specs.Events.{events}
use Rattle.cdc_ledger.specs.History.{History}
use Rattle.cdc_ledger.specs.Sound.{IsSound}
use Rattle.cdc_ledger.proofs.Elements.{AllByRecursion_push, AllByRecursion-weaker, map_same}
use Rattle.cdc_laws.specs.Faithful.{HoldsAccounts, accounts_emitted, events_until}
use Rattle.cdc_laws.proofs.Books.{last_shown-prefix}
use Rattle.cdc_laws.proofs.Lines.{split_events}
use Rattle.cdc_laws.proofs.Rising.{RiseFrom-filter, all_later, events_rise, last_behind, last_late}
use Rattle.cdc_log.specs.Log.{events_after}
use Rattle.cdc_message.specs.Replays.{IsPrefix}
use Rattle.cdc_subscriber.specs.declared.book.BookEntry.{BookEntry}
use Rattle.cdc_subscriber.specs.Book.{accounts_of, is_among, last_shown, sides, unseen}

-- ---- the events up to the last of the first ones are the first ones

-- the last event isn't before any other, so none is past it
up_to_last : (t : ℕ) (es : List Event) → RiseFrom t es
    → AllByRecursion (λ e. e.timestamp ≤ last_timestamp_from t es) es
up_to_last t [] rise = tt
up_to_last t (e ∷ es) rise = (last_late e.timestamp es rise.1, up_to_last e.timestamp es rise.1)

-- what a list rises from at its back
rise_behind : (t : ℕ) (xs ys : List Event) → RiseFrom t (xs ++ ys) → RiseFrom (last_timestamp_from t xs) ys
rise_behind t [] ys rise = rise
rise_behind t (x ∷ xs) ys rise = rise_behind x.timestamp xs ys rise.1

-- and that its front rises by itself
rise_before : (t : ℕ) (xs ys : List Event) → RiseFrom t (xs ++ ys) → RiseFrom t xs
rise_before t [] ys rise = tt
rise_before t (x ∷ xs) ys rise = (rise.0, rise_before x.timestamp xs ys rise.1)

-- if none is past it, all stay
until-all : (t : ℕ) (es : List Event) → AllByRecursion (λ e. e.timestamp ≤ t) es → events_until t es ≡ es
until-all t [] low = refl
until-all t (e ∷ es) low =
    ap₂ (λ b more. cond b (e ∷ more) more) (le-leb e.timestamp t low.0) (until-all t es low.1)

-- if all are past it, none does
until-none : (t : ℕ) (es : List Event) → AllByRecursion (λ e. t < e.timestamp) es → events_until t es ≡ []
until-none t [] late = refl
until-none t (e ∷ es) late =
    ap (λ b. cond b (e ∷ events_until t es) (events_until t es)) (lt-leb e.timestamp t late.0) ∙ until-none t es late.1

-- so those up to the last one of the front are the front
until-front : (xs ys : List Event) → RiseFrom 0 (xs ++ ys) → events_until (last_timestamp xs) (xs ++ ys) ≡ xs
until-front xs ys rise =
    let last : ℕ = last_timestamp xs in
    filter-append (λ (e : Event). nat_le e.timestamp last) xs ys
    ∙ ap₂ (λ front back. front ++ back) (until-all last xs (up_to_last 0 xs (rise_before 0 xs ys rise)))
    (until-none last ys (all_later last ys (rise_behind 0 xs ys rise)))
    ∙ append-nil xs

-- ---- what was shown of the accounts that appear

-- what entries show last of this number
abbrev found : ℕ → List BookEntry → Option BookEntry
found id entries = find (λ entry. entry.id == id) (reverse entries)

-- one more entry before them changes nothing if they show it
same_found : (o p : Option BookEntry) → IsSome o → option_or o p ≡ o
same_found None p is = cc
same_found (Some entry) p is = refl

-- what later entries show takes precedence over what earlier ones show
found-append : (id : ℕ) (before entries : List BookEntry)
    → found id (before ++ entries) ≡ option_or (found id entries) (found id before)
found-append id before entries =
    ap (find (λ (entry : BookEntry). entry.id == id)) (reverse-append before entries)
    ∙ find-append (λ entry. entry.id == id) (reverse entries) (reverse before)

-- an entry shows its own number
shows_itself : (entry : BookEntry) (o : Option BookEntry) → IsSome (option_or o (found entry.id (entry ∷ [])))
shows_itself entry (Some other) = refl
shows_itself entry None =
    elim (eqb_tells entry.id entry.id) [
      | inl same ↦ rw same.0 refl
      | inr other ↦ absurd (other.1 refl)
    ]

-- so each number of entries is shown by them
each_found : (entries : List BookEntry)
    → AllByRecursion (λ id. IsSome (found id entries)) (map (λ entry. entry.id) entries)
each_found [] = tt
each_found (entry ∷ entries) = (
  rw (found-append entry.id (entry ∷ []) entries) (shows_itself entry (found entry.id entries)),
  AllByRecursion-weaker (λ id. IsSome (found id entries)) (λ id. IsSome (found id (entry ∷ entries)))
      (λ id is. rw (found-append id (entry ∷ []) entries, same_found (found id entries) _ is) is)
      (map (λ (e : BookEntry). e.id) entries) (each_found entries),
)

-- the numbers that have appeared after one more
abbrev appeared : List ℕ → ℕ → List ℕ
appeared seen id = if is_among id seen then seen else (seen ++ id ∷ [])

-- what holds of numbers holds of those that appear among them
appear_have : (P : ℕ → Type 0) (ids seen : List ℕ) → AllByRecursion P ids → AllByRecursion P seen
    → AllByRecursion P (fold appeared seen ids)
appear_have P [] seen all have = have
appear_have P (id ∷ ids) seen all have =
    cond_both (is_among id seen) seen (seen ++ id ∷ []) (λ now. AllByRecursion P (fold appeared now ids))
    (λ stays. appear_have P ids seen all.1 have)
    (λ joins. appear_have P ids (seen ++ id ∷ []) all.1 (AllByRecursion_push P seen id have all.0))

-- so each account of events is shown by them
accounts_shown : (es : List Event) → AllByRecursion (λ id. IsSome (found id (flat_map sides es))) (accounts_of es)
accounts_shown es =
    appear_have (λ id. IsSome (found id (flat_map sides es))) (map (λ (e : BookEntry). e.id) (flat_map sides es)) []
    (each_found (flat_map sides es)) tt

-- and an account that they show is shown last as it is after earlier events
last_shown-behind : (skipped es : List Event) (id : ℕ) → IsSome (found id (flat_map sides es))
    → last_shown (flat_map sides es) id ≡ last_shown (flat_map sides (skipped ++ es)) id
last_shown-behind skipped es id is =
    sym (ap (λ o. unwrap_or o (unseen id))
    (ap (found id) (flat_map-append sides skipped es)
    ∙ found-append id (flat_map sides skipped) (flat_map sides es)
    ∙ same_found (found id (flat_map sides es)) (found id (flat_map sides skipped)) is))

-- ---- the book

-- each account that appears was shown last with the ledger's balances
each_shown : (h : History) → IsSound h → (skipped emitted : List Event) → IsPrefix (skipped ++ emitted) (events h)
    → AllByRecursion (λ id. last_shown (flat_map sides emitted) id
    ≡ record { id = id; balances = as_of h (last_timestamp emitted) id }) (accounts_of emitted)
each_shown h sound skipped [] front = tt
each_shown h sound skipped (e ∷ es) front =
    AllByRecursion-weaker (λ id. IsSome (found id (flat_map sides (e ∷ es))))
    (λ id. last_shown (flat_map sides (e ∷ es)) id
    ≡ record { id = id; balances = as_of h (last_timestamp (e ∷ es)) id })
    (λ id is.
    last_shown-behind skipped (e ∷ es) id is
    ∙ last_shown-prefix h (skipped ++ e ∷ es) sound front id
    ∙ ap (λ t. let entry : BookEntry = record { id = id; balances = as_of h t id } in entry)
    (last_behind 0 skipped e es))
    (accounts_of (e ∷ es)) (accounts_shown (e ∷ es))

-- a book of events after the start has just the accounts of the ledger's events after it and up to the last of these
pub holds-accounts : (h : History) (start : ℕ) (emitted : List Event) → IsSound h
    → IsPrefix emitted (events_after start (events h)) → HoldsAccounts h start emitted
holds-accounts h start emitted sound front =
    let cut = split_events h start sound in
    let rise : RiseFrom 0 (emitted ++ front.rest) =
    rw front.whole (RiseFrom-filter (λ (e : Event). nat_lt start e.timestamp) 0 (events h) (events_rise h sound)) in
    let accounts : accounts_emitted h start (last_timestamp emitted) ≡ accounts_of emitted =
    ap (λ es. accounts_of (events_until (last_timestamp emitted) es)) (sym front.whole)
    ∙ ap accounts_of (until-front emitted front.rest rise) in
    let all : IsPrefix (cut.0 ++ emitted) (events h) = record {
      rest = front.rest;
      whole = append_assoc cut.0 emitted front.rest ∙ ap (λ es. cut.0 ++ es) front.whole ∙ sym cut.1.whole;
    } in
    map_same _ _ (accounts_of emitted) (each_shown h sound cut.0 emitted all)
    ∙ ap (map (λ id. let entry : BookEntry =
    record { id = id; balances = as_of h (last_timestamp emitted) id } in entry))
    (sym accounts)
