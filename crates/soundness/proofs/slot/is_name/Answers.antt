-- The bytes passed are a name's, so those to come decide; an empty text is no name.
use Rattle.soundness.proofs.NameLaws.{name_further, name-refused, name-ended}
use Rattle.soundness.proofs.slot.is_name.Goals as goal

pub returns-then-not-name_byte : goal.returns-then-not-name_byte
returns-then-not-name_byte c =
    name-refused _ c.loop-b.b-index c.loop-b.invariant c.loop-b-test.true c.name_byte.ensures c.if-not-name_byte.true

pub loop-b-preserved : goal.loop-b-preserved
loop-b-preserved c =
    name_further _ c.loop-b.b-index c.loop-b.invariant c.loop-b-test.true c.name_byte.ensures c.if-not-name_byte.false

pub returns : goal.returns
returns c = name-ended _ c.loop-b.b-index c.loop-b.invariant c.loop-b-test.false
