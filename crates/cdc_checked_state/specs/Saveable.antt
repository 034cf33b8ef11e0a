-- Which states can be saved, so that their text is read back.
use Rattle.std.specs.Prelude.{◌≡◌, ℕ, ◌<◌, ◌^◌, true, List, nat_eq}
use Rattle.std.specs.List.{AllByRecursion, list_all}
use Rattle.cdc_message.specs.Widths.{EventFits}
use Rattle.cdc_codec.specs.Texts.{is_in_line}
use Rattle.cdc_follow.specs.Saved.{EntryFits}
use Rattle.cdc_audit_state.specs.Saveable.{AreDistinct, IsByItsId}
use Rattle.cdc_checked.specs.declared.checker.KnownAccount.{KnownAccount}
use Rattle.cdc_checked_follow.specs.Standing.{CheckedFollowerState}
use Rattle.cdc_checked_state.specs.declared.rows.Row.{Row}
use Rattle.cdc_checked_state.specs.declared.rows.Row.TheVariants.{Account, Known, Open}
use Rattle.cdc_checked_state.specs.declared.saved.SavedState.{SavedState}
use Rattle.cdc_checked_state.specs.States.{all_rows}

-- the numbers of what is known of an account have their widths
pub record KnownFits (known : KnownAccount) : Type 0 where
  pub debits_pending : known.balances.debits_pending < 2 ^ 128
  pub debits_posted : known.balances.debits_posted < 2 ^ 128
  pub credits_pending : known.balances.credits_pending < 2 ^ 128
  pub credits_posted : known.balances.credits_posted < 2 ^ 128
  pub last : known.last < 2 ^ 64

-- the numbers of a line have their widths
abbrev pub RowFits : Row → Type 0
RowFits (Account entry) = EntryFits entry
RowFits (Known id known) = (id < 2 ^ 128) × KnownFits known
RowFits (Open e) = EventFits e

-- what can be saved: the binding is one line, the numbers have their widths, no key is kept twice, and the open pending
-- transfers are kept by their ids
pub record CanBeSaved (binding : List ℕ) (follower : CheckedFollowerState) : Type 0 where
  pub line : list_all is_in_line binding ≡ true
  pub applied : follower.applied < 2 ^ 64
  pub last : follower.last < 2 ^ 64
  pub rows : AllByRecursion RowFits (all_rows follower)
  pub book : AreDistinct follower.book
  pub accounts : AreDistinct follower.checker.accounts
  pub open_ones : AreDistinct follower.checker.open_ones
  pub by_ids : AllByRecursion IsByItsId follower.checker.open_ones

-- a state that was read is this one
pub record IsState (saved : SavedState) (binding : List ℕ) (follower : CheckedFollowerState) : Type 0 where
  pub binding_is : saved.binding.items ≡ binding
  pub follower_is : saved.follower ≡ follower
