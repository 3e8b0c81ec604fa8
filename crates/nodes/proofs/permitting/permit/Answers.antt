-- The two arrays hold the entries that are meant.
use Rattle.slots.proofs.Canonical.{sound_canonical}
use Rattle.nodes.proofs.PermittingLaws.{given_entries, entries_put}
use Rattle.nodes.proofs.permitting.permit.Goals as goal

pub put_entries-requires : goal.put_entries-requires
put_entries-requires c =
    let at = c.requires.0 in
    (at.below, sound_canonical _ at.sound, at.used, given_entries c.args.entries c.requires.2 c.requires.1)

pub returns : goal.returns
returns c =
    entries_put c.args.entries c.requires.2 _ _ _ c.put_entries.ensures
