-- What events show of accounts besides their balances.
use Rattle.std.specs.Prelude.{ℕ, nat_eq, List, [], ◌∷◌, Option}
use Rattle.std.specs.Map.{lookup}
use Rattle.indexmap.specs.IndexMap.{insert_entry}
use Rattle.cdc_types.specs.declared.events.Event.{Event}
use Rattle.cdc_types.specs.declared.events.EventAccount.{EventAccount}
use Rattle.cdc_message.specs.declared.items.Item.{Item}
use Rattle.cdc_message.specs.declared.items.Item.TheVariants as item
use Rattle.cdc_follow.specs.declared.entries.Content.{Content}
use Rattle.cdc_follow.specs.declared.entries.Content.TheVariants as content
use Rattle.cdc_follow.specs.declared.follower.Following.{Following}
use Rattle.cdc_follow.specs.declared.follower.Following.TheVariants.{Applied, Ended}
use Rattle.cdc_book_log.specs.declared.details.Details.{Details}

-- what an event shows of one of its accounts
abbrev pub details_of : Event → EventAccount → Details
details_of e account = record {
  last_timestamp = e.timestamp;
  ledger = e.ledger;
  code = account.code;
  flags = account.flags;
  user_data_128 = account.user_data_128;
  user_data_64 = account.user_data_64;
  user_data_32 = account.user_data_32;
}

-- what is known of the account with this number, if something is
abbrev pub details_in : List (ℕ × Details) → ℕ → Option Details
details_in known id = lookup (nat_eq id) known

-- what is known of accounts once an event has shown its own: the debited one, then the credited one. What is shown of an
-- account takes the place of what was known of it.
abbrev pub show : Event → List (ℕ × Details) → List (ℕ × Details)
show e known =
    insert_entry nat_eq
    (insert_entry nat_eq known e.debit_account.id (details_of e e.debit_account))
    e.credit_account.id (details_of e e.credit_account)

-- the end shows nothing
abbrev pub show_item : List (ℕ × Details) → Item → List (ℕ × Details)
show_item known (item.Event e) = show e known
show_item known item.EndMark = known

-- what a follower gives to its subscriber of an entry of which this became: an event that is applied, or the end
abbrev pub items_of : Following → Content → List Item
items_of Applied (content.Event e) = item.Event e ∷ []
items_of Ended entry = item.EndMark ∷ []
items_of following entry = []
