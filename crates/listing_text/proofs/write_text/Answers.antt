-- `write_text` puts the counts and the rows, or the refusal. Assumes nothing.
use Rattle.listing_text.proofs.Answer.{rows_have_room, table_text, refusal_text}
use Rattle.listing_text.proofs.write_text.Goals as goal

pub put_rows-requires : goal.put_rows-requires
put_rows-requires c = rows_have_room c.in-Ok.is c.requires c.put_two-at.ensures

pub returns-in-Ok : goal.returns-in-Ok
returns-in-Ok c = table_text _ c.in-Ok.is c.put_two-at.ensures c.put_rows.ensures

pub returns-in-Err : goal.returns-in-Err
returns-in-Err c = refusal_text _ c.in-Err.is c.number.ensures c.place.ensures c.put_two.ensures
