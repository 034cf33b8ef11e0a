-- Chains that fail: their accounts and entries are taken out again, the last one first.
use Rattle.cdc_ledger.proofs.Words.{[], ◌++◌, ◌+◌, ◌-◌, ◌<◌, ◌∙◌, ◌∷◌, ◌≡◌, ◌≤◌, AreRecorded, AreUnrefused, Emitted, History, IsEmitted, IsLastOpened, IsLastRecorded, IsRecorded, IsSound, List, NewAccount, Recorded, account_rules, add-one, ap, arith, ends_after, get_or, grown, last_timestamp, length, max_timestamp, opened_by, pushed, refl, settled_transfer, subst, suc, sym, take, taken_all, with_account, without_account, without_entry, zero, ℕ}
use Rattle.std.proofs.lemmas.List.{take_more, length-take-le}
use Rattle.cdc_ledger.proofs.AcceptedLaws.{accepted_account}
use Rattle.cdc_ledger.proofs.BatchLaws.{AreUnrefused_less, no_account, taken_all_more}
use Rattle.cdc_ledger.proofs.ChainLaws.{taken_all-keeps}
use Rattle.cdc_ledger.proofs.RecordedLaws.{AreRecorded_pop, grown_push, without_account-opened, without_entry-pushed}
use Rattle.cdc_ledger.proofs.SoundLaws.{IsSound-timed, IsSound-with_account}
use Rattle.cdc_ledger.proofs.EmittedLaws.{CanEmit, IsEmitted-emitted, emit-later}

-- ---- accounts

module _ (h : History) (t : ℕ) (chain : List NewAccount) (sound : IsSound h) (later : h.last < t)
    (fits : t + length chain ≤ max_timestamp + 1) where
  -- the history after the first n accounts
  abbrev pub opened_all : ℕ → History
  opened_all n = taken_all account_rules h t (take n chain)

  -- none of them was refused
  abbrev pub AllOpened : ℕ → Type 0
  AllOpened n = AreUnrefused account_rules h t (take n chain)

  -- one more of them
  opened_more : (i : ℕ) → i < length chain
      → opened_all (i + 1) ≡ with_account (opened_all i) (opened_by (get_or chain i no_account) (t + i))
  opened_more i inside = taken_all_more account_rules h t chain i no_account inside

  -- it is sound, and has come no further than its accounts
  opened_sound : (i : ℕ) → i ≤ length chain → AllOpened i
      → IsSound (opened_all i) × ((opened_all i).last < t + i)
  opened_sound i inside all =
      let long : length (take i chain) ≡ i = length-take-le i chain inside in
      let found = taken_all-keeps account_rules IsSound (λ n. n ≤ max_timestamp)
      (λ g a n sound' later' within none.
      IsSound-with_account g (opened_by a n) sound' (accepted_account g a none).1 (omega arith) within)
      (λ g n sound' later' within. IsSound-timed g n sound' (omega arith) within)
      (λ g a n. refl) h t (take i chain) sound later
      (λ n from below. let all_in : length (take i chain) ≡ i = long in omega arith) all in
      (found.holds, omega (arith, found.later, long))

  -- when its last account was opened
  pub opened_last : (i : ℕ) → 0 < i → i ≤ length chain → (opened_all i).last ≡ t + i - 1
  opened_last zero some inside = absurd (omega arith)
  opened_last (suc j) some inside =
      let step : opened_all (j + 1) ≡ with_account (opened_all j) (opened_by (get_or chain j no_account) (t + j)) =
      opened_more j (omega arith) in
      ap (λ n. (opened_all n).last) (sym (add-one j)) ∙ ap (λ (g : History). g.last) step ∙ omega arith

  -- the last of the first i + 1 accounts may be taken back
  pub IsLastOpened-chain : (g : History) (i last : ℕ) → i < length chain → g ≡ opened_all (i + 1) → AllOpened (i + 1)
      → last ≡ (opened_all i).last → IsLastOpened g last
  IsLastOpened-chain g i last inside made all dated =
      let less = AreUnrefused_less account_rules h t chain i no_account inside all in
      let found = opened_sound i (omega arith) less.0 in
      record {
        before = opened_all i;
        request = get_or chain i no_account;
        time = t + i;
        made = made ∙ opened_more i inside;
        sound = found.0;
        free = (accepted_account (opened_all i) (get_or chain i no_account) less.1).1;
        dated = dated;
        later = omega (arith, found.1);
      }

  -- which leaves those before it
  pub opened-taken_back : (g g' : History) (i last : ℕ) → i < length chain → g ≡ opened_all (i + 1)
      → last ≡ (opened_all i).last → g' ≡ without_account g last → g' ≡ opened_all i
  opened-taken_back g g' i last inside made dated back =
      back
      ∙ ap (λ k. without_account k last) (made ∙ opened_more i inside)
      ∙ without_account-opened (opened_all i) (opened_by (get_or chain i no_account) (t + i)) last dated

  -- and those before it weren't refused
  pub AllOpened-less : (i : ℕ) → i < length chain → AllOpened (i + 1) → AllOpened i
  AllOpened-less i inside all =
      (AreUnrefused_less account_rules h t chain i no_account inside all).0

-- ---- entries

-- the last of the entries that were recorded may be taken back
pub IsLastRecorded-tail : (h g : History) (rs : List Recorded) (r : Recorded) → g ≡ grown h (rs ++ r ∷ [])
    → AreRecorded h (rs ++ r ∷ []) → IsLastRecorded g r
IsLastRecorded-tail h g rs r made all = record {
  before = grown h rs;
  made = made ∙ grown_push h rs r;
  recorded = (AreRecorded_pop h rs r all).1;
}

-- which leaves those before it
pub grown-taken_back : (h g g' : History) (rs : List Recorded) (r : Recorded) → g ≡ grown h (rs ++ r ∷ [])
    → AreRecorded h (rs ++ r ∷ []) → g' ≡ without_entry g r.last → g' ≡ grown h rs
grown-taken_back h g g' rs r made all back =
    back
    ∙ ap (λ k. without_entry k r.last) (made ∙ grown_push h rs r)
    ∙ without_entry-pushed (grown h rs) r.movement.entry r.last (AreRecorded_pop h rs r all).1.last

-- each of them was recorded after those before it
pub AreRecorded_at : (h : History) (rs : List Recorded) (i : ℕ) (d : Recorded) → i < length rs → AreRecorded h rs
    → IsRecorded (grown h (take i rs)) (get_or rs i d)
AreRecorded_at h [] i d inside all = absurd (omega arith)
AreRecorded_at h (r ∷ rs) zero d inside all = all.0
AreRecorded_at h (r ∷ rs) (suc i) d inside all =
    AreRecorded_at (pushed h r.movement.entry) rs i d (omega arith) all.1

-- one more of them
pub grown_more : (h : History) (rs : List Recorded) (i : ℕ) (d : Recorded) → i < length rs
    → grown h (take (i + 1) rs) ≡ pushed (grown h (take i rs)) (get_or rs i d).movement.entry
grown_more h rs i d inside =
    ap (grown h) (take_more rs i d inside) ∙ grown_push h (take i rs) (get_or rs i d)

-- an entry can be logged once those before it are
pub CanEmit-tail : (h : History) (emitted : Emitted) (rs : List Recorded) (i : ℕ) (d : Recorded) → i < length rs
    → AreRecorded h rs → IsEmitted (grown h (take i rs)) emitted
    → CanEmit (grown h (take i rs)) emitted (get_or rs i d).movement
CanEmit-tail h emitted rs i d inside all is =
    let was = AreRecorded_at h rs i d inside all in assumption

-- its event is later than all logged events
pub tail-later : (h : History) (emitted : Emitted) (rs : List Recorded) (i : ℕ) (d : Recorded) → i < length rs
    → AreRecorded h rs → IsEmitted (grown h (take i rs)) emitted
    → last_timestamp emitted.log.events < (get_or rs i d).event.timestamp
tail-later h emitted rs i d inside all is =
    emit-later (grown h (take i rs)) emitted (get_or rs i d).movement (CanEmit-tail h emitted rs i d inside all is)
    (get_or rs i d).event (AreRecorded_at h rs i d inside all).event

-- after it is logged, one more of the entries is logged
pub IsEmitted-tail : (h : History) (emitted emitted' : Emitted) (rs : List Recorded) (i : ℕ) (d : Recorded)
    → i < length rs
    → AreRecorded h rs → IsEmitted (grown h (take i rs)) emitted
    → emitted'.log.events ≡ emitted.log.events ++ (get_or rs i d).event ∷ []
    → emitted'.index.triples ≡ ends_after (settled_transfer (get_or rs i d).movement) (get_or rs i d).movement.entry
    (get_or rs i d).place emitted.index.triples
    → IsEmitted (grown h (take (i + 1) rs)) emitted'
IsEmitted-tail h emitted emitted' rs i d inside all is log index =
    let was = AreRecorded_at h rs i d inside all in
    subst (λ (g : History). IsEmitted g emitted') (sym (grown_more h rs i d inside))
    (IsEmitted-emitted (grown h (take i rs)) emitted (get_or rs i d).movement
    (CanEmit-tail h emitted rs i d inside all is) emitted'
    (get_or rs i d).place (get_or rs i d).event was.place was.event log index)

-- ---- a chain that failed
