use Rattle.cdc_message.specs.declared.fields.FieldName.TheVariants.{Id, DebitsPending, DebitsPosted, CreditsPending, CreditsPosted, UserData128, UserData64, UserData32, Code, Flags, Timestamp}
use Rattle.cdc_message.specs.Fields.{field}
use Rattle.cdc_message.proofs.UnorderedParts.{field_held}
use Rattle.cdc_message.proofs.own_bodies.Cursor.any_account.Goals as goal

-- field by field
pub returns : goal.returns
returns c =
    let g = c.in_ok-numbers.ensures in
    let numbers = c.in_ok-numbers.numbers in
    record {
      json = g.json;
      value = g.value;
      shallow = g.shallow;
      converts = g.converts;
      tokens = g.tokens;
      holds = record {
        object = g.holds.object;
        fields = λ part. rw (
          field_held 128 (field part Id) g.value numbers c.in_ok-number_128.field-0 g.holds
              c.in_ok-number_128.ensures.is
              c.in_ok-number_128.ensures.fits,
          field_held 128 (field part DebitsPending) g.value numbers c.in_ok-number_128-2.field-0 g.holds
              c.in_ok-number_128-2.ensures.is
              c.in_ok-number_128-2.ensures.fits,
          field_held 128 (field part DebitsPosted) g.value numbers c.in_ok-number_128-3.field-0 g.holds
              c.in_ok-number_128-3.ensures.is
              c.in_ok-number_128-3.ensures.fits,
          field_held 128 (field part CreditsPending) g.value numbers c.in_ok-number_128-4.field-0 g.holds
              c.in_ok-number_128-4.ensures.is
              c.in_ok-number_128-4.ensures.fits,
          field_held 128 (field part CreditsPosted) g.value numbers c.in_ok-number_128-5.field-0 g.holds
              c.in_ok-number_128-5.ensures.is
              c.in_ok-number_128-5.ensures.fits,
          field_held 128 (field part UserData128) g.value numbers c.in_ok-number_128-6.field-0 g.holds
              c.in_ok-number_128-6.ensures.is
              c.in_ok-number_128-6.ensures.fits,
          field_held 64 (field part UserData64) g.value numbers c.in_ok-number_64.field-0 g.holds
              c.in_ok-number_64.ensures.is
              c.in_ok-number_64.ensures.fits,
          field_held 32 (field part UserData32) g.value numbers c.in_ok-number_32.field-0 g.holds
              c.in_ok-number_32.ensures.is
              c.in_ok-number_32.ensures.fits,
          field_held 16 (field part Code) g.value numbers c.in_ok-number_16.field-0 g.holds c.in_ok-number_16.ensures.is
              c.in_ok-number_16.ensures.fits,
          field_held 16 (field part Flags) g.value numbers c.in_ok-number_16-2.field-0 g.holds
              c.in_ok-number_16-2.ensures.is
              c.in_ok-number_16-2.ensures.fits,
          field_held 64 (field part Timestamp) g.value numbers c.in_ok-number_64-2.field-0 g.holds
              c.in_ok-number_64-2.ensures.is
              c.in_ok-number_64-2.ensures.fits,
        );
      };
    }
