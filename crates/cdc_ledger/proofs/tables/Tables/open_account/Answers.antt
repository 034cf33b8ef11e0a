use Rattle.cdc_ledger.proofs.Words.{[], ◌++◌, ◌==◌, ◌∙◌, ◌∷◌, ◌≡◌, ◌≤◌, Account, Contents, Inside, None, Some, ap, arith, if◌then◌else◌, length, opened, opened_by, place_of, refl, subst, sym, with_account, ℕ}
use Rattle.cdc_ledger.proofs.Kept.{IsKept-opened, history-opened}
use Rattle.cdc_ledger.proofs.tables.Tables.open_account.Goals as goal

pub invariant_of-self : goal.invariant_of-self
invariant_of-self c =
    let t = c.self.inside in
    let accounts = c.push_reserved.ensures.items
    ∙ ap (λ (a : Account). t.accounts.items ++ a ∷ []) c.opened_account.ensures in
    let t' : Inside =
    record t {
      accounts = c.push_reserved.new.self;
      account_places = c.add.new.self;
      last = c.args.timestamp;
    } in
    let at : c.len-place.result ≡ length t.accounts.items = omega arith in
    let added : (id : ℕ) → place_of t'.account_places id
    ≡ (if c.args.request.now.id == id then Some (length t.accounts.items) else place_of t.account_places id) =
    λ id. c.add.ensures.places id
    ∙ ap (λ n. if c.args.request.now.id == id then Some n else place_of t.account_places id) at in
    IsKept-opened t t' c.args.request.now c.args.timestamp c.self.invariant
    (subst (λ (v : Contents). opened v.history c.args.request.now.id ≡ None) (sym c.self.view_is) c.requires.free)
    (subst (λ (v : Contents). v.history.last ≤ c.args.timestamp) (sym c.self.view_is) c.requires.later)
    c.requires.within accounts added refl refl refl
    (history-opened t t' c.args.request.now c.args.timestamp accounts refl refl refl)

pub returns-clause-history : goal.returns-clause-history
returns-clause-history c =
    let t = c.self.inside in
    let accounts = c.push_reserved.ensures.items
    ∙ ap (λ (a : Account). t.accounts.items ++ a ∷ []) c.opened_account.ensures in
    let t' : Inside =
    record t {
      accounts = c.push_reserved.new.self;
      account_places = c.add.new.self;
      last = c.args.timestamp;
    } in
    history-opened t t' c.args.request.now c.args.timestamp accounts refl refl refl
    ∙ ap (λ (v : Contents). with_account v.history (opened_by c.args.request.now c.args.timestamp)) c.self.view_is
