-- Worked examples: the text of a record, and a store in memory that fails at its second call.
use Rattle.std.proofs.Common.{◌≡◌, true, false, refl}
use Rattle.std.specs.Prelude.{Some, None, codes}
use Rattle.std.specs.Fmt.{digits}
use Rattle.cdc_progress.specs.Memory.{Memory, fails_next, failures_of, called, after_save}
use Rattle.cdc_progress.specs.Records.{first_text_of, saved, saved_from, text_of}

-- the text of session 3 at timestamp 2000
third_as_text : text_of (saved 3 2000) ≡ codes "tb-cdc 2 3 2000 0\n"
unfolding digits
third_as_text = refl

-- the text of the first version, which is still read
third_as_first_text : first_text_of (saved 3 2000) ≡ codes "tb-cdc 1 3 2000\n"
unfolding digits
third_as_first_text = refl

-- the text of session 4 at timestamp 2001 of a publisher that began after 2000
late_as_text : text_of (saved_from 2000 4 2001) ≡ codes "tb-cdc 2 4 2001 2000\n"
unfolding digits
late_as_text = refl

-- a store that holds nothing, and fails at its second call but keeps the new record then
abbrev planned : Memory
planned = record { held = None; calls = 0; fails_at = 2; keeps_new = true }

-- the plan lets the first call through
first_call_is_done : fails_next planned ≡ false
first_call_is_done = refl

-- the second is the one that fails
second_call_fails : fails_next (called planned) ≡ true
second_call_fails = refl

-- if that call is a save, it fails and the new record is held all the same
failing_save_keeps_the_new_record :
    (after_save (called planned) (saved 1 0)).held ≡ Some (saved 1 0)
failing_save_keeps_the_new_record = refl

-- the failure is counted
it_has_failed_once : failures_of (called (called planned)) ≡ 1
it_has_failed_once = refl

-- and no later call fails
later_calls_are_done : fails_next (called (called planned)) ≡ false
later_calls_are_done = refl
