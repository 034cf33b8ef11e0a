-- What is kept of the tables stays kept.
use Rattle.cdc_ledger.proofs.Words.{[], ◌++◌, ◌==◌, ◌∙◌, ◌∷◌, ◌≡◌, ◌≤◌, History, Inside, IsKept, IsSound, NewAccount, None, Opened, Some, account_place, accounts_now, ap, endings_of, fresh_account, history_of, if◌then◌else◌, length, map, max_timestamp, opened, opened_as, place_of, stored_place, subst, sym, with_account, ℕ}
use Rattle.std.proofs.lemmas.List.{map_push}
use Rattle.cdc_ledger.proofs.AccountLaws.{accounts_now-timed, accounts_now-with_account}
use Rattle.cdc_ledger.proofs.PlaceLaws.{accounts_placed-opened}
use Rattle.cdc_ledger.proofs.SoundLaws.{IsSound-timed, IsSound-with_account}

-- from the history that the tables hold
pub IsKept-from : (t : Inside) (h : History) → history_of t ≡ h → t.accounts.items ≡ accounts_now h
    → ((id : ℕ) → place_of t.account_places id ≡ account_place t.accounts.items id)
    → ((id : ℕ) → place_of t.transfer_places id ≡ stored_place t.entries.items id)
    → t.endings.items ≡ endings_of t.entries.items → IsSound h → IsKept t
IsKept-from t h same balanced accounts_placed transfers_placed ended sound = record {
  balanced = balanced ∙ ap accounts_now (sym same);
  accounts_placed = accounts_placed;
  transfers_placed = transfers_placed;
  ended = ended;
  sound = subst IsSound (sym same) sound;
}

-- a refused request, which only takes its timestamp, leaves the balances right
pub IsKept-timed : (t : Inside) (n : ℕ) → IsKept t → t.last ≤ n → n ≤ max_timestamp → IsKept (record t { last = n })
IsKept-timed t n kept later within = record {
  balanced = kept.balanced ∙ sym (accounts_now-timed (history_of t) n kept.sound.past later);
  accounts_placed = kept.accounts_placed;
  transfers_placed = kept.transfers_placed;
  ended = kept.ended;
  sound = IsSound-timed (history_of t) n kept.sound later within;
}

-- tables with one more account hold the history with one more account
pub history-opened : (t t' : Inside) (r : NewAccount) (n : ℕ)
    → t'.accounts.items ≡ t.accounts.items ++ fresh_account r n ∷ []
    → t'.entries.items ≡ t.entries.items → t'.last ≡ n → t'.closed ≡ t.closed
    → history_of t' ≡ with_account (history_of t) (record { request = r; timestamp = n })
history-opened t t' r n accounts entries last closed =
    let opened : map opened_as t'.accounts.items
    ≡ map opened_as t.accounts.items ++ record { request = r; timestamp = n } ∷ [] =
    ap (map opened_as) accounts ∙ map_push opened_as t.accounts.items (fresh_account r n) in
    cc

-- a new account has no amount, so the balances stay right; its place is the last one
pub IsKept-opened : (t t' : Inside) (r : NewAccount) (n : ℕ) → IsKept t → opened (history_of t) r.id ≡ None → t.last ≤ n
    → n ≤ max_timestamp
    → t'.accounts.items ≡ t.accounts.items ++ fresh_account r n ∷ []
    → ((id : ℕ) → place_of t'.account_places id
    ≡ (if r.id == id then Some (length t.accounts.items) else place_of t.account_places id))
    → t'.transfer_places ≡ t.transfer_places → t'.endings.items ≡ t.endings.items
    → t'.entries.items ≡ t.entries.items
    → history_of t' ≡ with_account (history_of t) (record { request = r; timestamp = n }) → IsKept t'
IsKept-opened t t' r n kept free later within accounts added places endings entries same =
    let h : History = history_of t in
    let o : Opened = record { request = r; timestamp = n } in
    IsKept-from t' (with_account h o) same
    (accounts ∙ ap (λ xs. xs ++ fresh_account r n ∷ []) kept.balanced
    ∙ sym (accounts_now-with_account h o kept.sound.past kept.sound.known free later))
    (λ id. accounts_placed-opened h t.account_places t'.account_places t.accounts.items (fresh_account r n)
    kept.balanced free kept.accounts_placed added id ∙ ap (λ xs. account_place xs id) (sym accounts))
    (λ id. ap (λ ids. place_of ids id) places ∙ kept.transfers_placed id
    ∙ ap (λ es. stored_place es id) (sym entries))
    (endings ∙ kept.ended ∙ ap endings_of (sym entries))
    (IsSound-with_account h o kept.sound free later within)
