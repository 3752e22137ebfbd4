-- `put_number` puts the digits, and then what ends them. Assumes nothing.
use native.Mathlib.Omega.{arith}
use Rattle.listing_text.proofs.Digits.{within_five}
use Rattle.listing_text.proofs.Numbers.{put_one_digit, put_ended}
use Rattle.listing_text.proofs.put_number.Goals as goal

pub returns-then-n-lt10 : goal.returns-then-n-lt10
returns-then-n-lt10 c = put_ended _ _ (put_one_digit c.if-n-lt10.true c.put_byte.ensures c.digit_of.ensures) c.put_byte-then-n-lt10.ensures

pub overflow_add-result-2 : goal.overflow_add-result-2
overflow_add-result-2 c = omega (arith, within_five _ _ _ c.put_digits-place.ensures.place, c.requires)

pub returns : goal.returns
returns c = put_ended _ _ c.put_digits-place.ensures c.put_byte-2.ensures
