-- A name's bytes are letters, digits, `-`, `_` and `@`, and the tests part the byte values between these.
use Rattle.soundness.proofs.NameLaws.{byte_small, byte_large, byte_digit, byte_other}
use Rattle.soundness.proofs.slot.name_byte.Goals as goal

pub returns-then-b-ge97 : goal.returns-then-b-ge97
returns-then-b-ge97 c = byte_small _ c.if-b-ge97.true

pub returns-then-b-ge65 : goal.returns-then-b-ge65
returns-then-b-ge65 c = byte_large _ c.if-b-ge97.false c.if-b-ge65.true

pub returns-then-b-ge48 : goal.returns-then-b-ge48
returns-then-b-ge48 c = byte_digit _ c.if-b-ge97.false c.if-b-ge65.false c.if-b-ge48.true

pub returns : goal.returns
returns c = byte_other _ c.if-b-ge97.false c.if-b-ge65.false c.if-b-ge48.false
