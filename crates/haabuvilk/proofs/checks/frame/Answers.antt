-- No room for a header, a payload past the size and another length than the header says are told as the rule has it.
use mathlib.Core.Path.{sym}
use Rattle.haabuvilk.proofs.CheckLaws.{frame_short, frame_overlong, frame_whole, frame_broken}
use Rattle.haabuvilk.proofs.checks.frame.Goals as goal

pub returns-then-n-lt-HEADER_SIZE : goal.returns-then-n-lt-HEADER_SIZE
returns-then-n-lt-HEADER_SIZE c = sym (frame_short _ c.if-n-lt-HEADER_SIZE.true)

pub returns-then-len-gt-LONGEST_PAYLOAD : goal.returns-then-len-gt-LONGEST_PAYLOAD
returns-then-len-gt-LONGEST_PAYLOAD c = sym (frame_overlong _ _ c.if-n-lt-HEADER_SIZE.false c.number32-len.ensures c.if-len-gt-LONGEST_PAYLOAD.true)

pub returns-then-n-len : goal.returns-then-n-len
returns-then-n-len c = sym (frame_whole _ _ c.if-n-lt-HEADER_SIZE.false c.number32-len.ensures c.if-len-gt-LONGEST_PAYLOAD.false c.if-n-len.true)

pub returns : goal.returns
returns c = sym (frame_broken _ _ c.if-n-lt-HEADER_SIZE.false c.number32-len.ensures c.if-len-gt-LONGEST_PAYLOAD.false c.if-n-len.false)
