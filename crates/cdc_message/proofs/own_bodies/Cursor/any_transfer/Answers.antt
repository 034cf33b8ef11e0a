use Rattle.cdc_message.specs.declared.fields.FieldName.TheVariants.{Id, Amount, PendingId, UserData128, UserData64, UserData32, Timeout, Code, Flags, Timestamp}
use Rattle.cdc_message.specs.declared.fields.Part.TheVariants.{Transfer}
use Rattle.cdc_message.specs.Fields.{field}
use Rattle.cdc_message.proofs.UnorderedParts.{field_held}
use Rattle.cdc_message.proofs.own_bodies.Cursor.any_transfer.Goals as goal

-- field by field
pub returns : goal.returns
returns c =
    let g = c.in_ok-numbers.ensures in
    let numbers = c.in_ok-numbers.numbers in
    record {
      json = g.json;
      value = g.value;
      shallow = g.shallow;
      converts = g.converts;
      tokens = g.tokens;
      holds = record {
        object = g.holds.object;
        fields = rw (
          field_held 128 (field Transfer Id) g.value numbers c.in_ok-number_128.field-0 g.holds
              c.in_ok-number_128.ensures.is
              c.in_ok-number_128.ensures.fits,
          field_held 128 (field Transfer Amount) g.value numbers c.in_ok-number_128-2.field-0 g.holds
              c.in_ok-number_128-2.ensures.is
              c.in_ok-number_128-2.ensures.fits,
          field_held 128 (field Transfer PendingId) g.value numbers c.in_ok-number_128-3.field-0 g.holds
              c.in_ok-number_128-3.ensures.is
              c.in_ok-number_128-3.ensures.fits,
          field_held 128 (field Transfer UserData128) g.value numbers c.in_ok-number_128-4.field-0 g.holds
              c.in_ok-number_128-4.ensures.is
              c.in_ok-number_128-4.ensures.fits,
          field_held 64 (field Transfer UserData64) g.value numbers c.in_ok-number_64.field-0 g.holds
              c.in_ok-number_64.ensures.is
              c.in_ok-number_64.ensures.fits,
          field_held 32 (field Transfer UserData32) g.value numbers c.in_ok-number_32.field-0 g.holds
              c.in_ok-number_32.ensures.is
              c.in_ok-number_32.ensures.fits,
          field_held 32 (field Transfer Timeout) g.value numbers c.in_ok-number_32-2.field-0 g.holds
              c.in_ok-number_32-2.ensures.is
              c.in_ok-number_32-2.ensures.fits,
          field_held 16 (field Transfer Code) g.value numbers c.in_ok-number_16.field-0 g.holds
              c.in_ok-number_16.ensures.is
              c.in_ok-number_16.ensures.fits,
          field_held 16 (field Transfer Flags) g.value numbers c.in_ok-number_16-2.field-0 g.holds
              c.in_ok-number_16-2.ensures.is
              c.in_ok-number_16-2.ensures.fits,
          field_held 64 (field Transfer Timestamp) g.value numbers c.in_ok-number_64-2.field-0 g.holds
              c.in_ok-number_64-2.ensures.is
              c.in_ok-number_64-2.ensures.fits,
        );
      };
    }
