-- A decimal that is malformed or too large is no number of any range within 64 bits; of any other the range decides.
use mathlib.Core.Path.{sym, ◌∙◌}
use Rattle.octets.proofs.Ranges.{told}
use Rattle.octets.proofs.decimals.number_in.Goals as goal

pub returns-in-Ok : goal.returns-in-Ok
returns-in-Ok c =
    c.within.ensures ∙ sym (told _ _ _ _ _ c.ranges.high.fits c.decimal.ensures c.in-Ok.is)

pub returns-in-Err : goal.returns-in-Err
returns-in-Err c = sym (told _ _ _ _ _ c.ranges.high.fits c.decimal.ensures c.in-Err.is)
