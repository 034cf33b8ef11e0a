-- The definitions at work: a course with room for three events, whose confirms come out of order.
use Rattle.std.specs.Prelude.{◌≡◌, ℕ, true, false, [], ◌∷◌, Some, None, Ok, Err}
use Rattle.std.proofs.Common.{refl}
use Rattle.cdc_types.specs.declared.events.Event.{Event}
use Rattle.cdc_types.specs.declared.events.EventAccount.{EventAccount}
use Rattle.cdc_types.specs.declared.events.EventKind.TheVariants.{SinglePhase}
use Rattle.cdc_message.specs.declared.items.Item.TheVariants.{Event as OfEvent, EndMark}
use Rattle.cdc_message.specs.declared.packets.Packet.TheVariants.{Connect, Publish}
use Rattle.cdc_progress.specs.Records.{saved, saved_from}
use Rattle.cdc_publisher.specs.declared.errors.StartError.TheVariants.{SessionsExhausted, StartNotAllowed}
use Rattle.cdc_publisher.specs.Courses.{Course, begun, confirmed_timestamp, is_done, new_course, next_packet, next_poll, progress_of, takes_confirm, unconfirmed, with_confirm, with_offer, with_sent}

-- an account as an event shows it
abbrev side : ℕ → EventAccount
side id = record {
  id = id;
  debits_pending = 0;
  debits_posted = 0;
  credits_pending = 0;
  credits_posted = 0;
  user_data_128 = 0;
  user_data_64 = 0;
  user_data_32 = 0;
  code = 10;
  flags = 0;
  timestamp = 1000;
}

-- an event with that timestamp
abbrev event : ℕ → Event
event timestamp = record {
  timestamp = timestamp;
  kind = SinglePhase;
  ledger = 700;
  transfer = record {
    id = timestamp;
    amount = 1;
    pending_id = 0;
    user_data_128 = 0;
    user_data_64 = 0;
    user_data_32 = 0;
    timeout = 0;
    code = 1;
    flags = 0;
    timestamp = timestamp;
  };
  debit_account = side 1;
  credit_account = side 2;
}

-- the session after the sixth
next_number : begun (Some (saved 6 2000)) None ≡ Ok (saved 7 2000)
next_number = refl

-- after the greatest number no session begins
no_next_number : begun (Some (saved 18446744073709551615 2000)) None ≡ Err SessionsExhausted
no_next_number = refl

-- if nothing is held, the first session begins after 0
first_number : begun None None ≡ Ok (saved 1 0)
first_number = refl

-- or after the timestamp that is asked for, up to which everything counts as confirmed
late_start : begun None (Some 2000) ≡ Ok (saved_from 2000 1 2000)
late_start = refl

-- once progress is held none may be asked for, not even the one that there was
no_other_start : begun (Some (saved_from 2000 1 2000)) (Some 2000) ≡ Err StartNotAllowed
no_other_start = refl

-- and this is found before the want of a number
no_start_comes_first : begun (Some (saved 18446744073709551615 2000)) (Some 5) ≡ Err StartNotAllowed
no_start_comes_first = refl

-- one more packet is sent
abbrev sent_one : Course → Course
sent_one course = with_sent (next_packet course) course

-- a session of three events at a time, and after it was offered two
abbrev opened : Course
opened = new_course (saved 7 2000) 3

-- it was offered events 3000 and 3001, and no other follows them
abbrev offered : Course
offered = with_offer (event 3000 ∷ event 3001 ∷ []) true opened

-- whatever it was offered, its connect goes first
it_connects_first : next_packet offered ≡ Some (Connect 7)
it_connects_first = refl

-- at first it wants three events, those after the timestamp that was held
three_are_wanted : next_poll opened ≡ Some (record { after = 2000; limit = 3 })
three_are_wanted = refl

-- both events are sent, under tags 1 and 2
abbrev published : Course
published = sent_one (sent_one (sent_one offered))

-- the connect has no tag, so the second event has tag 2
the_second_has_tag_2 : next_packet (sent_one (sent_one offered)) ≡ Some (Publish 7 2 (OfEvent (event 3001)))
the_second_has_tag_2 = refl

-- both tags wait for their confirms
both_wait : unconfirmed published ≡ 1 ∷ 2 ∷ []
both_wait = refl

-- the end mark isn't sent while an event waits
nothing_follows_yet : next_packet published ≡ None
nothing_follows_yet = refl

-- the second is confirmed before the first
abbrev second_first : Course
second_first = with_confirm 7 2 published

-- the progress that may be saved doesn't advance: the first event isn't confirmed
the_first_holds_it_back : confirmed_timestamp second_first ≡ 2000
the_first_holds_it_back = refl

-- tag 2 was confirmed already
no_confirm_counts_twice : takes_confirm second_first 7 2 ≡ false
no_confirm_counts_twice = refl

-- tag 1 is open, but the confirm names the session before
no_other_session_counts : takes_confirm second_first 6 1 ≡ false
no_other_session_counts = refl

-- then the first
abbrev both_confirmed : Course
both_confirmed = with_confirm 7 1 second_first

-- now the timestamp of the second event may be saved
both_count : confirmed_timestamp both_confirmed ≡ 3001
both_count = refl

-- and the end mark is sent, under the tag after theirs
the_end_follows : next_packet both_confirmed ≡ Some (Publish 7 3 EndMark)
the_end_follows = refl

-- nothing comes after it
the_end_is_sent_once : next_packet (sent_one both_confirmed) ≡ None
the_end_is_sent_once = refl

-- the session is done once the end mark is confirmed
done_when_it_is_confirmed : is_done (with_confirm 7 3 (sent_one both_confirmed)) ≡ true
done_when_it_is_confirmed = refl

-- a late start is kept by every save
abbrev late : Course
late = new_course (saved_from 2000 1 2000) 3

-- after event 3000 is confirmed, the record that is saved still has that start
late_saves : progress_of (with_confirm 1 1 (sent_one (sent_one (with_offer (event 3000 ∷ []) false late))))
    ≡ saved_from 2000 1 3000
late_saves = refl
