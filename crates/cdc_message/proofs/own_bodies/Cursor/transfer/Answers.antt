use Rattle.std.proofs.Common.{◌∙◌, refl, sym}
use Rattle.cdc_types.specs.declared.events.EventTransfer.{EventTransfer}
use Rattle.cdc_message.proofs.OwnParts.{transfer_text-parts, some_rest}
use Rattle.cdc_message.proofs.own_bodies.Cursor.transfer.Goals as goal

-- member after member
pub returns : goal.returns
returns c =
    let transfer : EventTransfer = record {
      amount = c.number_128-amount.result;
      code = c.number_16-code.result;
      flags = c.number_16-flags.result;
      id = c.number_128-id.result;
      pending_id = c.number_128-pending_id.result;
      timeout = c.number_32-timeout.result;
      timestamp = c.number_64-timestamp.result;
      user_data_128 = c.number_128-user_data_128.result;
      user_data_32 = c.number_32-user_data_32.result;
      user_data_64 = c.number_64-user_data_64.result;
    } in record {
      fits = record {
        amount = c.number_128-amount.ensures.fits;
        code = c.number_16-code.ensures.fits;
        flags = c.number_16-flags.ensures.fits;
        id = c.number_128-id.ensures.fits;
        pending_id = c.number_128-pending_id.ensures.fits;
        timeout = c.number_32-timeout.ensures.fits;
        timestamp = c.number_64-timestamp.ensures.fits;
        user_data_128 = c.number_128-user_data_128.ensures.fits;
        user_data_32 = c.number_32-user_data_32.ensures.fits;
        user_data_64 = c.number_64-user_data_64.ensures.fits;
      };
      sound = λ more.
          let ends = c.skip.ensures.sound more in
          let user_data_64 = c.number_64-user_data_64.ensures.sound (some_rest ends) in
          let user_data_32 = c.number_32-user_data_32.ensures.sound (some_rest user_data_64) in
          let user_data_128 = c.number_128-user_data_128.ensures.sound (some_rest user_data_32) in
          let timestamp = c.number_64-timestamp.ensures.sound (some_rest user_data_128) in
          let timeout = c.number_32-timeout.ensures.sound (some_rest timestamp) in
          let pending_id = c.number_128-pending_id.ensures.sound (some_rest timeout) in
          let id = c.number_128-id.ensures.sound (some_rest pending_id) in
          let flags = c.number_16-flags.ensures.sound (some_rest id) in
          let code = c.number_16-code.ensures.sound (some_rest flags) in
          let amount = c.number_128-amount.ensures.sound (some_rest code) in
          rw (
            amount,
            code,
            flags,
            id,
            pending_id,
            timeout,
            timestamp,
            user_data_128,
            user_data_32,
            user_data_64,
            ends,
          ) (sym (transfer_text-parts transfer c.skip.new.self.rest.now));
      complete = λ written rest is fits.
          let amount =
          c.number_128-amount.ensures.complete written.amount _
          (is ∙ transfer_text-parts written rest) fits.amount refl in
          let code = c.number_16-code.ensures.complete written.code _ amount.1 fits.code refl in
          let flags = c.number_16-flags.ensures.complete written.flags _ code.1 fits.flags refl in
          let id = c.number_128-id.ensures.complete written.id _ flags.1 fits.id refl in
          let pending_id = c.number_128-pending_id.ensures.complete written.pending_id _ id.1 fits.pending_id refl in
          let timeout = c.number_32-timeout.ensures.complete written.timeout _ pending_id.1 fits.timeout refl in
          let timestamp = c.number_64-timestamp.ensures.complete written.timestamp _ timeout.1 fits.timestamp refl in
          let user_data_128 =
          c.number_128-user_data_128.ensures.complete written.user_data_128 _ timestamp.1 fits.user_data_128 refl in
          let user_data_32 =
          c.number_32-user_data_32.ensures.complete written.user_data_32 _ user_data_128.1 fits.user_data_32 refl in
          let user_data_64 =
          c.number_64-user_data_64.ensures.complete written.user_data_64 _ user_data_32.1 fits.user_data_64 refl in (
            λ i. record {
              amount = amount.0 i;
              code = code.0 i;
              flags = flags.0 i;
              id = id.0 i;
              pending_id = pending_id.0 i;
              timeout = timeout.0 i;
              timestamp = timestamp.0 i;
              user_data_128 = user_data_128.0 i;
              user_data_32 = user_data_32.0 i;
              user_data_64 = user_data_64.0 i;
            },
            c.skip.ensures.complete rest user_data_64.1,
          );
    }
