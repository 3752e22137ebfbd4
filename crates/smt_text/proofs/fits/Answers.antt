-- `fits` measures the text where some text would not fit. Assumes nothing.
use Rattle.smt_text.proofs.Answer.{largest_room_fits}
use Rattle.smt_text.proofs.fits.Goals as goal

pub returns-then-room-ge-MOST_BYTES : goal.returns-then-room-ge-MOST_BYTES
returns-then-room-ge-MOST_BYTES c = largest_room_fits _ c.requires.taken _ c.if-room-ge-MOST_BYTES.true

pub returns : goal.returns
returns c = cc c.script_length.ensures
