-- The path is as many bytes behind the fields as its length says, and these are all within the record.
use native.Mathlib.Omega.{arith}
use Rattle.events.proofs.RecordLaws.{path-read}
use Rattle.events.proofs.record.path.Goals as goal

pub returns : goal.returns
returns c =
    let e = c.path_length-n.ensures in
    path-read c.args.events.now c.args.i c.path_length-n.result e (omega (arith, e, c.requires.2))
