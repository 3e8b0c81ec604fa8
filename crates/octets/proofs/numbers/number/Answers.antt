-- The bytes stand at the end of eight, with zeros in front.
use mathlib.Core.Path.{◌≡◌, ◌∙◌}
use Rattle.rules.specs.Octets.{field}
use Rattle.rules.proofs.Fields.{field_bound}
use Rattle.octets.proofs.Bytes.{bytes-known, padded_field}
use Rattle.octets.proofs.numbers.number.Goals as goal

pub returns-clause-read : goal.returns-clause-read
returns-clause-read g c = record {
  value = c.from_be_bytes.ensures ∙ padded_field c.args.s.now c.args.at g.row.N c.requires.0 c.requires.1 _ c.copy.ensures;
  bytes = bytes-known c.args.s.now c.type_inv.s;
}

pub returns-clause-fits : goal.returns-clause-fits
returns-clause-fits g c =
    let s = c.args.s.now in
    let e : c.from_be_bytes.result ≡ field s c.args.at g.row.N =
    c.from_be_bytes.ensures ∙ padded_field s c.args.at g.row.N c.requires.0 c.requires.1 _ c.copy.ensures in
    rw e (field_bound s (bytes-known s c.type_inv.s) g.row.N c.args.at c.requires.1)
