-- Zeros behind the path, the path, and the four bytes of the fields before it are the record's bytes.
use mathlib.Core.Path.{ap, ◌∙◌}
use Rattle.rules.specs.Octets.{paste}
use Rattle.events.proofs.RecordLaws.{put_record}
use Rattle.events.proofs.record.put.Goals as goal

pub returns : goal.returns
returns c = λ m f.
    put_record _ _ _ _ c.requires.0 c.requires.1 m f _ (c.copy.ensures ∙ ap (paste _ _) c.clear.ensures)
