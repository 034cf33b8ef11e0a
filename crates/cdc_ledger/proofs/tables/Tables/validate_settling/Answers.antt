use Rattle.cdc_ledger.proofs.Words.{◌<◌, ◌∙◌, ◌≡◌, Entry, History, List, Some, get_or, length, slice_get, stored, stored_place, sym, ℕ}
use Rattle.std.proofs.lemmas.List.Quantifiers.{position-Some}
use Rattle.std.proofs.lemmas.Option.{slice_get-get_or}
use Rattle.cdc_ledger.proofs.BatchLaws.{no_entry}
use Rattle.cdc_ledger.proofs.PlaceLaws.{find-no_place, find-place}
use Rattle.cdc_ledger.proofs.StoredLaws.{is_stored}
use Rattle.cdc_ledger.proofs.Validated.{first_line-no_pending}
use Rattle.cdc_ledger.proofs.tables.Tables.validate_settling.Goals as goal

-- the entry at the place that the map answers is the one that stored the transfer of the id
module _ (h : History) (es : List Entry) (id place : ℕ) (same : es ≡ h.entries)
    (is : stored_place h.entries id ≡ Some place) where
  -- reading it is in bounds
  inside : place < length es
  inside = rw same (position-Some (is_stored id) h.entries place no_entry is).0

  -- it is at this place of the history
  at : slice_get h.entries place ≡ Some (get_or es place no_entry)
  at = rw same (slice_get-get_or h.entries place no_entry (position-Some (is_stored id) h.entries place no_entry is).0)

  -- and is found by the id
  there : stored h id ≡ Some (get_or es place no_entry)
  there = rw same (find-place (is_stored id) h.entries place no_entry is)

-- a request that names no stored transfer is refused
pub returns-in_default : goal.returns-in_default
returns-in_default c =
    let h = c.args.self.now.history in
    let r = c.args.request.now in
    first_line-no_pending h r c.args.timestamp c.requires.shape c.requires.unknown c.requires.settles
    (find-no_place (is_stored r.pending_id) h.entries (sym c.entry_place.ensures ∙ c.in_default.is))

pub bounds-entries-place : goal.bounds-entries-place
bounds-entries-place c =
    inside c.args.self.now.history c.entries-entries.result.now c.args.request.now.pending_id c.in-Some.place
    c.entries-entries.ensures.entries (sym c.entry_place.ensures ∙ c.in-Some.is)

pub validate_named-requires-clause-at : goal.validate_named-requires-clause-at
validate_named-requires-clause-at c =
    at c.args.self.now.history c.entries-entries.result.now c.args.request.now.pending_id c.in-Some.place
    c.entries-entries.ensures.entries (sym c.entry_place.ensures ∙ c.in-Some.is)

pub validate_named-requires-clause-there : goal.validate_named-requires-clause-there
validate_named-requires-clause-there c =
    there c.args.self.now.history c.entries-entries.result.now c.args.request.now.pending_id c.in-Some.place
    c.entries-entries.ensures.entries (sym c.entry_place.ensures ∙ c.in-Some.is)
