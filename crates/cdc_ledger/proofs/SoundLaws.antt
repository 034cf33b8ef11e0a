-- Each change keeps what holds of every history.
use Rattle.cdc_ledger.proofs.Words.{Some, [], ◌++◌, ◌+◌, ◌-◌, ◌<◌, ◌==◌, ◌∷◌, ◌≡◌, ◌≤◌, AllByRecursion, Balances, Bool, Entry, EventKind, Follows, HasAccounts, HasRoom, History, IsSound, List, None, Opened, RiseFrom, Settles, SettlesOpen, Stands, TwoPhasePending, amount_of, ap, arith, balances, empty_history, false, holds, if◌then◌else◌, max_128, max_timestamp, moves, opened, refl, settles, subst, sym, true, ℕ, stored, settled_id}
use Rattle.std.proofs.lemmas.Bool.{eqb-true}
use Rattle.cdc_ledger.proofs.Changes.{pushed, with_account, timed, IsUpTo, effect_of}
use Rattle.cdc_ledger.proofs.Elements.{AllByRecursion-weaker, AllByRecursion_push}
use Rattle.cdc_ledger.proofs.BalanceLaws.{balances_later, balances-pushed, released_fits, settled_by_is}
use Rattle.cdc_ledger.proofs.OpenedLaws.{AreApart-with_account, HasAccounts-with_account}
use Rattle.cdc_ledger.proofs.StoredLaws.{stored-pushed_kept, once-pushed}

-- pending and posted together fit 128 bits on each side
abbrev FitBoth : Balances → Type 0
FitBoth b = (b.debits_pending + b.debits_posted ≤ max_128) × (b.credits_pending + b.credits_posted ≤ max_128)

-- sums that fit 128 bits still fit at a later timestamp, as long as there is no new entry
bounded_later : (h : History) (t : ℕ) → IsSound h → h.last ≤ t → (id : ℕ) → FitBoth (balances h id t)
bounded_later h t sound later id =
    subst FitBoth (sym (balances_later h id h.last t sound.past later)) (sound.bounded id)

-- what happened by a timestamp has happened by any later one
IsUpTo-later : (h : History) (s t : ℕ) → IsUpTo s h → s ≤ t → IsUpTo t h
IsUpTo-later h s t within later =
    AllByRecursion-weaker (λ e. e.timestamp ≤ s) (λ e. e.timestamp ≤ t) (λ e at. omega arith) h.entries within

-- an entry settles the same transfer in any history with the same entries
Settles-again : (h g : History) (e x : Entry) → g.entries ≡ h.entries → Settles h e x → Settles g e x
Settles-again h g e x same of = let named : stored g (settled_id e.kind e.transfer) ≡ Some x = cc in assumption

-- `Stands` depends on the entries of a history only
Stands-again : (h g : History) (e : Entry) → g.entries ≡ h.entries → Stands h e → Stands g e
Stands-again h g e same stands = record {
  apart = stands.apart;
  dated = stands.dated;
  timely = stands.timely;
  settling = λ is. ((stands.settling is).0, Settles-again h g e (stands.settling is).0 same (stands.settling is).1);
}

-- and so do all of them
standing_again : (h g : History) (es : List Entry) → g.entries ≡ h.entries → AllByRecursion (Stands h) es
    → AllByRecursion (Stands g) es
standing_again h g es same standing =
    AllByRecursion-weaker (Stands h) (Stands g) (λ e stands. Stands-again h g e same stands) es standing

-- the pending transfer that a post, a void or an expiry names is still found after one more entry
Settles-pushed : (h : History) (new e x : Entry) → Settles h e x → Settles (pushed h new) e x
Settles-pushed h new e x of = assumption (stored-pushed_kept h new x (settled_id e.kind e.transfer) of.named)

-- so an entry still satisfies `Stands` after one more entry
pub Stands-pushed : (h : History) (new e : Entry) → Stands h e → Stands (pushed h new) e
Stands-pushed h new e stands = record {
  apart = stands.apart;
  dated = stands.dated;
  timely = stands.timely;
  settling = λ is. ((stands.settling is).0, Settles-pushed h new e (stands.settling is).0 (stands.settling is).1);
}

-- the history of a new ledger is sound
pub IsSound-empty : IsSound empty_history
IsSound-empty = record {
  rising = tt;
  past = tt;
  known = tt;
  unique = tt;
  once = tt;
  standing = tt;
  bounded = λ id. (omega arith, omega arith);
  within = omega arith;
}

-- it stays sound when a refused request takes a timestamp
pub IsSound-timed : (h : History) (t : ℕ) → IsSound h → h.last ≤ t → t ≤ max_timestamp → IsSound (timed h t)
IsSound-timed h t sound later fits =
    assumption (
      IsUpTo-later h h.last t sound.past later,
      standing_again h (timed h t) h.entries refl sound.standing,
      bounded_later h t sound later,
    )

-- closed or not
pub IsSound-shut : (h : History) (closed : Bool) → IsSound h → IsSound (record h { closed = closed })
IsSound-shut h closed sound =
    assumption (standing_again h (record h { closed = closed }) h.entries refl sound.standing)

-- it stays sound when the ledger closes
pub IsSound-closed : (h : History) → IsSound h → IsSound (record h { closed = true })
IsSound-closed h sound = IsSound-shut h true sound

-- it stays sound when an account is opened whose id was free
pub IsSound-with_account : (h : History) (o : Opened) → IsSound h → opened h o.request.id ≡ None → h.last ≤ o.timestamp
    → o.timestamp ≤ max_timestamp
    → IsSound (with_account h o)
IsSound-with_account h o sound free later fits =
    assumption (
      IsUpTo-later h h.last o.timestamp sound.past later,
      AllByRecursion-weaker (HasAccounts h) (HasAccounts (with_account h o)) (HasAccounts-with_account h o) h.entries
          sound.known,
      AreApart-with_account h o sound.unique free,
      standing_again h (with_account h o) h.entries refl sound.standing,
      bounded_later h o.timestamp sound later,
    )

-- an entry later than all before it keeps the timestamps rising
RiseFrom_push : (t m : ℕ) (es : List Entry) (e : Entry) → RiseFrom t es → AllByRecursion (λ x. x.timestamp ≤ m) es
    → t ≤ m → m < e.timestamp → RiseFrom t (es ++ e ∷ [])
RiseFrom_push t m [] e rising past before after = (omega arith, tt)
RiseFrom_push t m (x ∷ es) e rising past before after =
    (rising.0, RiseFrom_push x.timestamp m es e rising.1 past.1 past.0 after)

-- an entry holds its amount or moves it, and not both
one_amount : (k : EventKind) (n : ℕ) → (if holds k then n else 0) + (if moves k then n else 0) ≤ n
one_amount TwoPhasePending n = omega arith
one_amount k n = omega arith

-- what joins the sums of an account fits in the place of what leaves them
module _ (h : History) (e : Entry) (sound : IsSound h) (follows : Follows h e) where
  -- on the debit side of an account
  abbrev pub DebitFits : ℕ → Type 0
  DebitFits a = (balances h a h.last).debits_pending + (balances h a h.last).debits_posted + (effect_of h e).held +
      (effect_of h e).moved ≤ max_128 + (effect_of h e).released

  -- on its credit side
  abbrev pub CreditFits : ℕ → Type 0
  CreditFits a = (balances h a h.last).credits_pending + (balances h a h.last).credits_posted + (effect_of h e).held +
      (effect_of h e).moved ≤ max_128 + (effect_of h e).released

  -- so it is on both, whether the entry settles a transfer or takes new room
  pub both_fit : (b : Bool) → settles e.kind ≡ b
      → DebitFits e.transfer.debit_account_id × CreditFits e.transfer.credit_account_id
  both_fit true is =
      let of : SettlesOpen h e = follows.settling is in
      let out : (effect_of h e).released ≡ of.pending.transfer.amount =
      ap amount_of (settled_by_is h e of.pending is of.settles) in
      let less : e.transfer.amount ≤ of.pending.transfer.amount = of.settles.within in
      let one = one_amount e.kind e.transfer.amount in
      let debits = sound.bounded e.transfer.debit_account_id in
      let credits = sound.bounded e.transfer.credit_account_id in
      (omega (arith, debits.0), omega (arith, credits.1))
  both_fit false is =
      let room : HasRoom h e = follows.room is in
      let one = one_amount e.kind e.transfer.amount in
      (omega (arith, room.debit), omega (arith, room.credit))

-- one side of an account after an entry still fits: the entry has room there, or it names another account
part_fits : (m n held moved released side account top : ℕ) (b : Bool) → (side == account) ≡ b → m + n ≤ top
    → (if b then released else 0) ≤ m → (side ≡ account → m + n + held + moved ≤ top + released)
    → (m + (if b then held else 0) - (if b then released else 0)) + (n + (if b then moved else 0)) ≤ top
part_fits m n held moved released side account top true same small enough fits =
    let more : m + n + held + moved ≤ top + released = fits (eqb-true side account same) in omega arith
part_fits m n held moved released side account top false same small enough fits = omega arith

-- so after an entry the sums of every account fit 128 bits
bounded-pushed : (h : History) (e : Entry) → IsSound h → Follows h e → h.last < e.timestamp → (id : ℕ)
    → FitBoth (balances (pushed h e) id e.timestamp)
bounded-pushed h e sound follows after id =
    let fits : DebitFits h e sound follows e.transfer.debit_account_id × CreditFits h e sound follows
    e.transfer.credit_account_id = both_fit h e sound follows (settles e.kind) refl in
    let f = effect_of h e in
    let now = balances h id h.last in
    let was : FitBoth now = sound.bounded id in
    let enough = released_fits h e id sound follows after in
    subst FitBoth (sym (balances-pushed h e id sound follows after)) (
      part_fits now.debits_pending now.debits_posted f.held f.moved f.released e.transfer.debit_account_id id max_128
          (e.transfer.debit_account_id == id) refl was.0 enough.0
          (λ same. subst (DebitFits h e sound follows) same fits.0),
      part_fits now.credits_pending now.credits_posted f.held f.moved f.released e.transfer.credit_account_id id max_128
          (e.transfer.credit_account_id == id) refl was.1 enough.1
          (λ same. subst (CreditFits h e sound follows) same fits.1),
    )

-- the new entry satisfies `Stands` too
Stands-new : (h : History) (e : Entry) → Follows h e → Stands (pushed h e) e
Stands-new h e follows = record {
  apart = follows.apart;
  dated = follows.dated;
  timely = follows.timely;
  settling =
      λ is. (
        (follows.settling is).pending,
        Settles-pushed h e e (follows.settling is).pending (follows.settling is).settles,
      );
}

-- the history stays sound when an entry comes that may come next, whatever its kind
pub IsSound-pushed : (h : History) (e : Entry) → IsSound h → Follows h e → h.last < e.timestamp
    → e.timestamp ≤ max_timestamp → IsSound (pushed h e)
IsSound-pushed h e sound follows after top = record {
  rising = RiseFrom_push 0 h.last h.entries e sound.rising sound.past (omega arith) after;
  past = AllByRecursion_push (λ x. x.timestamp ≤ e.timestamp) h.entries e
      (IsUpTo-later h h.last e.timestamp sound.past (omega arith)) (omega arith);
  known = AllByRecursion_push (HasAccounts h) h.entries e sound.known follows.accounts;
  unique = sound.unique;
  once = once-pushed h e sound.once follows.fresh;
  standing = AllByRecursion_push (Stands (pushed h e)) h.entries e
      (AllByRecursion-weaker (Stands h) (Stands (pushed h e)) (Stands-pushed h e) h.entries sound.standing)
      (Stands-new h e follows);
  bounded = bounded-pushed h e sound follows after;
  within = top;
}
