-- The zeros behind the text and the text before them are the padded text.
use mathlib.Core.Path.{sym, ap, ◌∙◌}
use native.Mathlib.Omega.{arith}
use Rattle.rules.specs.Octets.{padded, paste}
use Rattle.rules.proofs.Paste.{paste_append}
use Rattle.octets.proofs.parts.put_text.Goals as goal

pub returns : goal.returns
unfolding padded
returns c =
    let args = c.args in
    c.copy.ensures ∙ ap (paste args.at args.text.now) c.clear.ensures
    ∙ sym (paste_append args.at args.text.now _ args.into.now (omega arith))
