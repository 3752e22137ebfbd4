-- `listing_text::put_digits` meets its contract. Assumes nothing.
use Rattle.std.proofs.Common.{arith}
use Rattle.listing_text.proofs.Digits.{within_five}
use Rattle.listing_text.proofs.Numbers.{put_one_digit, put_last_digit}
use Rattle.listing_text.proofs.+put_digits.Goals as goal

pub returns-then-n-lt10 : goal.returns-then-n-lt10
returns-then-n-lt10 t c = put_one_digit c.if-n-lt10.true c.put_byte.ensures c.digit_of.ensures

pub returns-then-n-lt100 : goal.returns-then-n-lt100
returns-then-n-lt100 t c =
    put_last_digit c.if-n-lt10.false (omega arith)
    (put_one_digit (omega arith) c.put_byte-then-n-lt100.ensures c.digit_of-then-n-lt100.ensures)
    c.put_byte-then-n-lt100-2.ensures c.digit_of-then-n-lt100-2.ensures

pub overflow_add-result-2 : goal.overflow_add-result-2
overflow_add-result-2 t c = record { fits = omega (arith, within_five _ _ _ c.put_digits-place.ensures.place, c.requires) }

pub returns : goal.returns
returns t c =
    put_last_digit c.if-n-lt10.false (omega arith) c.put_digits-place.ensures c.put_byte-2.ensures c.digit_of-2.ensures
