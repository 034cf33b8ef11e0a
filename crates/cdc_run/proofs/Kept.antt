-- What a subscriber keeps that has ended and was never closed.
use Rattle.cdc_run.proofs.Words.{AllKeepTheLine, Bool, Event, History, IsFaithful, IsLeastClose, List, None, Option, Reception, Some, SubscriberState, TimestampsRise, UnaskedKeepTheLine, [], ap, applied_of, ap₂, book_of, emitted, events_emitted, events_of, false, feed_after, fold, has_ended, is_asked, kept_of, kept_of_line, last_timestamp, length, line_after, max_64, min, next, none_there, nothing, queue, queue-line_after, refl, rises, subst, sym, true, ℕ, ◌+◌, ◌∙◌, ◌∷◌, ◌≡◌}
use Rattle.cdc_laws.proofs.Faithful.{ends-emitted, receives-emitted}
use Rattle.cdc_match.specs.Arguments.{Arguments}
use Rattle.cdc_message.proofs.LineLaws.{rises-rising}
use Rattle.cdc_run.proofs.Applied.{kept_emitted}
use Rattle.cdc_run.proofs.Firsts.{rises-of_firsts}

-- ---- a subscriber

-- what is kept of events that were applied
abbrev kept : List Event → Bool → Bool → SubscriberState
kept es ended closed = record {
  book = book_of es;
  last = last_timestamp es;
  applied = min (length es) max_64;
  ended = ended;
  closed = closed;
}

-- one that is faithful, has ended and isn't closed keeps what its whole feed makes, and so does one that takes the line
keeps_line : (h : History) (start : ℕ) (binding : Arguments) (reception : Reception)
    → IsFaithful h start binding reception
    → has_ended reception ≡ true → reception.closed ≡ false → kept_of reception ≡ kept_of_line h start binding
keeps_line h start binding reception faithful ended open_yet =
    let es : List Event = feed_after h start binding in
    let whole = faithful.whole ended in
    let rise : TimestampsRise es = subst TimestampsRise whole.1 faithful.rising in
    let took : applied_of reception ≡ es = sym (rises-of_firsts reception.items faithful.rising) ∙ whole.1 in
    let line_is : queue (line_after h start) binding ≡ emitted es true =
    queue-line_after h start binding ∙ ap (emitted es) whole.0 in
    let receives : fold next nothing (queue (line_after h start) binding) ≡
    record { items = emitted es true; closed = false } =
    ap (fold next nothing) line_is ∙ receives-emitted es in
    let all : rises (events_of (emitted es true)) ≡ es =
    ap rises (events_emitted es rise true) ∙ rises-rising es rise in
    ap (λ (l : List Event). kept l (has_ended reception) reception.closed) took
    ∙ ap₂ (kept es) ended open_yet
    ∙ sym (ap₂ (λ (l : List Event) (b : Bool). kept l b false) all (ends-emitted es))
    ∙ sym (ap kept_of receives)

pub unasked_keep : UnaskedKeepTheLine
unasked_keep h start binding close_after subscriber unasked is =
    let stays = is.come.unasked unasked in
    is.keeps
    ∙ sym (kept_emitted is.reception is.come.faithful.rising)
    ∙ keeps_line h start binding is.reception is.come.faithful stays.ended stays.not_closed

-- ---- all subscribers

-- if no number was given for it, a subscriber isn't asked to close
none_asked : (number : ℕ) (close : Option ℕ) → IsLeastClose number [] close → is_asked close ≡ false
none_asked number None least = refl
none_asked number (Some n) least = absurd (none_there n least.0)

pub all_keep : AllKeepTheLine
all_keep number h start [] [] [] closes are = refl
all_keep number h start [] [] (subscriber ∷ subscribers) closes are = absurd are
all_keep number h start [] (close ∷ rest) subscribers closes are = absurd are
all_keep number h start (binding ∷ bindings) [] subscribers closes are = absurd are
all_keep number h start (binding ∷ bindings) (close ∷ rest) [] closes are = absurd are
all_keep number h start (binding ∷ bindings) (close ∷ rest) (subscriber ∷ subscribers) closes are =
    ap₂ (λ (k : SubscriberState) (ks : List SubscriberState). k ∷ ks)
    (unasked_keep h start binding close subscriber (none_asked number close closes.0) are.0)
    (all_keep (number + 1) h start bindings rest subscribers closes.1 are.1)
