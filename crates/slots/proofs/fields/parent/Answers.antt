-- In a used slot the first byte is the mark, 128, and the parent's seven bits.
use Rattle.octets.proofs.Bytes.{bytes-known}
use Rattle.slots.proofs.Reading.{parent_byte}
use borrow.Author.Rules.{rules}
use Rattle.slots.proofs.fields.parent.Goals as goal

pub returns : goal.returns
returns c = (
  search rules,
  parent_byte c.args.t.now (bytes-known c.args.t.now c.type_inv.t) c.requires.1 _
      c.requires.0 c.requires.2,
)
