use Rattle.std.proofs.Common.{◌∙◌, refl, sym}
use Rattle.cdc_types.specs.declared.events.EventAccount.{EventAccount}
use Rattle.cdc_message.proofs.OwnParts.{account_text-parts, some_rest}
use Rattle.cdc_message.proofs.own_bodies.Cursor.account.Goals as goal

-- member after member
pub returns : goal.returns
returns c =
    let account : EventAccount = record {
      code = c.number_16-code.result;
      credits_pending = c.number_128-credits_pending.result;
      credits_posted = c.number_128-credits_posted.result;
      debits_pending = c.number_128-debits_pending.result;
      debits_posted = c.number_128-debits_posted.result;
      flags = c.number_16-flags.result;
      id = c.number_128-id.result;
      timestamp = c.number_64-timestamp.result;
      user_data_128 = c.number_128-user_data_128.result;
      user_data_32 = c.number_32-user_data_32.result;
      user_data_64 = c.number_64-user_data_64.result;
    } in record {
      fits = record {
        code = c.number_16-code.ensures.fits;
        credits_pending = c.number_128-credits_pending.ensures.fits;
        credits_posted = c.number_128-credits_posted.ensures.fits;
        debits_pending = c.number_128-debits_pending.ensures.fits;
        debits_posted = c.number_128-debits_posted.ensures.fits;
        flags = c.number_16-flags.ensures.fits;
        id = c.number_128-id.ensures.fits;
        timestamp = c.number_64-timestamp.ensures.fits;
        user_data_128 = c.number_128-user_data_128.ensures.fits;
        user_data_32 = c.number_32-user_data_32.ensures.fits;
        user_data_64 = c.number_64-user_data_64.ensures.fits;
      };
      sound = λ more.
          let ends = c.skip.ensures.sound more in
          let user_data_64 = c.number_64-user_data_64.ensures.sound (some_rest ends) in
          let user_data_32 = c.number_32-user_data_32.ensures.sound (some_rest user_data_64) in
          let user_data_128 = c.number_128-user_data_128.ensures.sound (some_rest user_data_32) in
          let timestamp = c.number_64-timestamp.ensures.sound (some_rest user_data_128) in
          let id = c.number_128-id.ensures.sound (some_rest timestamp) in
          let flags = c.number_16-flags.ensures.sound (some_rest id) in
          let debits_posted = c.number_128-debits_posted.ensures.sound (some_rest flags) in
          let debits_pending = c.number_128-debits_pending.ensures.sound (some_rest debits_posted) in
          let credits_posted = c.number_128-credits_posted.ensures.sound (some_rest debits_pending) in
          let credits_pending = c.number_128-credits_pending.ensures.sound (some_rest credits_posted) in
          let code = c.number_16-code.ensures.sound (some_rest credits_pending) in
          rw (
            code,
            credits_pending,
            credits_posted,
            debits_pending,
            debits_posted,
            flags,
            id,
            timestamp,
            user_data_128,
            user_data_32,
            user_data_64,
            ends,
          ) (sym (account_text-parts account c.skip.new.self.rest.now));
      complete = λ written rest is fits.
          let code =
          c.number_16-code.ensures.complete written.code _ (is ∙ account_text-parts written rest) fits.code refl in
          let credits_pending =
          c.number_128-credits_pending.ensures.complete written.credits_pending _ code.1 fits.credits_pending refl in
          let credits_posted =
          c.number_128-credits_posted.ensures.complete written.credits_posted _ credits_pending.1
          fits.credits_posted refl in
          let debits_pending =
          c.number_128-debits_pending.ensures.complete written.debits_pending _ credits_posted.1
          fits.debits_pending refl in
          let debits_posted =
          c.number_128-debits_posted.ensures.complete written.debits_posted _ debits_pending.1
          fits.debits_posted refl in
          let flags = c.number_16-flags.ensures.complete written.flags _ debits_posted.1 fits.flags refl in
          let id = c.number_128-id.ensures.complete written.id _ flags.1 fits.id refl in
          let timestamp = c.number_64-timestamp.ensures.complete written.timestamp _ id.1 fits.timestamp refl in
          let user_data_128 =
          c.number_128-user_data_128.ensures.complete written.user_data_128 _ timestamp.1 fits.user_data_128 refl in
          let user_data_32 =
          c.number_32-user_data_32.ensures.complete written.user_data_32 _ user_data_128.1 fits.user_data_32 refl in
          let user_data_64 =
          c.number_64-user_data_64.ensures.complete written.user_data_64 _ user_data_32.1 fits.user_data_64 refl in (
            λ i. record {
              code = code.0 i;
              credits_pending = credits_pending.0 i;
              credits_posted = credits_posted.0 i;
              debits_pending = debits_pending.0 i;
              debits_posted = debits_posted.0 i;
              flags = flags.0 i;
              id = id.0 i;
              timestamp = timestamp.0 i;
              user_data_128 = user_data_128.0 i;
              user_data_32 = user_data_32.0 i;
              user_data_64 = user_data_64.0 i;
            },
            c.skip.ensures.complete rest user_data_64.1,
          );
    }
