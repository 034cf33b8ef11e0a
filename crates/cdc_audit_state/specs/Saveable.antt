-- Which states can be saved, so that their text is read back.
use Rattle.std.specs.Prelude.{◌≡◌, ℕ, ◌<◌, ◌^◌, false, List, nat_eq}
use Rattle.std.specs.List.{AllByRecursion, IsDistinct}
use Rattle.std.specs.Map.{keys_of}
use Rattle.cdc_types.specs.declared.events.Event.{Event}
use Rattle.cdc_message.specs.Widths.{EventFits}
use Rattle.cdc_follow.specs.Saved.{AreBook, EntryFits}
use Rattle.cdc_audit.specs.declared.checks.Stored.{Stored}
use Rattle.cdc_audit.specs.declared.checks.Stored.TheVariants.{Plain, Pending, Settled}
use Rattle.cdc_audit.specs.declared.fields.FixedFields.{FixedFields}
use Rattle.cdc_audit.specs.Standing.{AuditorState}
use Rattle.cdc_audit_state.specs.declared.rows.Row.{Row}
use Rattle.cdc_audit_state.specs.declared.rows.Row.TheVariants.{Account, Expired, Transfer, Open, Fields, Time}
use Rattle.cdc_audit_state.specs.States.{known_rows}

-- the amount of a transfer that is or was pending has its width
abbrev pub StoredFits : Stored → Type 0
StoredFits Plain = Unit {0}
StoredFits (Pending amount) = amount < 2 ^ 128
StoredFits (Settled amount) = amount < 2 ^ 128

-- the numbers of an account's fixed fields have their widths
pub record FieldsFit (fields : FixedFields) : Type 0 where
  pub user_data_128 : fields.user_data_128 < 2 ^ 128
  pub user_data_64 : fields.user_data_64 < 2 ^ 64
  pub user_data_32 : fields.user_data_32 < 2 ^ 32
  pub ledger : fields.ledger < 2 ^ 32
  pub code : fields.code < 2 ^ 16
  pub flags : fields.flags < 2 ^ 16
  pub timestamp : fields.timestamp < 2 ^ 64

-- the numbers of a line have their widths
abbrev pub RowFits : Row → Type 0
RowFits (Account entry) = EntryFits entry
RowFits (Expired e) = EventFits e
RowFits (Transfer id stored) = (id < 2 ^ 128) × StoredFits stored
RowFits (Open e) = EventFits e
RowFits (Fields id fields) = (id < 2 ^ 128) × FieldsFit fields
RowFits (Time timestamp) = timestamp < 2 ^ 64

-- no two keys of a map are equal, as is known of every map
abbrev pub AreDistinct : {V : Type 0} → List (ℕ × V) → Type 0
AreDistinct entries = IsDistinct nat_eq (keys_of entries)

-- the open pending transfers are kept by their ids
abbrev pub IsByItsId : ℕ × Event → Type 0
IsByItsId kept = kept.0 ≡ kept.1.transfer.id

-- what can be saved: the subscriber is open, the numbers have their widths, the accounts are those of a book, and no
-- key is kept twice
pub record CanBeSaved (auditor : AuditorState) : Type 0 where
  pub open_yet : auditor.kept.closed ≡ false
  pub last : auditor.kept.last < 2 ^ 64
  pub applied : auditor.kept.applied < 2 ^ 64
  pub chain : auditor.chain < 2 ^ 64
  pub book : AreBook auditor.kept.book
  pub rows : AllByRecursion RowFits (known_rows auditor)
  pub transfers : AreDistinct auditor.transfers
  pub open_ones : AreDistinct auditor.open_ones
  pub by_ids : AllByRecursion IsByItsId auditor.open_ones
  pub fields : AreDistinct auditor.fields
