-- `fits` measures the text where some text would not fit. Assumes nothing.
use Rattle.laws.proofs.Writing.{put_size}
use Rattle.listing_text.proofs.Answer.{largest_room_fits}
use Rattle.listing_text.proofs.fits.Goals as goal

pub returns-then-room-ge-MOST_BYTES : goal.returns-then-room-ge-MOST_BYTES
returns-then-room-ge-MOST_BYTES c = largest_room_fits _ _ _ c.requires c.if-room-ge-MOST_BYTES.true

pub returns : goal.returns
returns c = cc (put_size c.write_text.ensures)
