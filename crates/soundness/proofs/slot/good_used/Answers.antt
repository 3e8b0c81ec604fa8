-- Lengths, entries, value and name, each with what is behind it, are all the bytes of the slot.
use mathlib.Core.Path.{sym, ◌∙◌}
use Rattle.octets.proofs.Bytes.{bytes-known}
use Rattle.soundness.proofs.Tests.{stop, pass}
use Rattle.soundness.proofs.SlotLaws.{unsized, within_sizes}
use Rattle.soundness.proofs.slot.good_used.Goals as goal

pub returns-then-not-within : goal.returns-then-not-within
returns-then-not-within c =
    let args = c.args in
    unsized args.t.now (bytes-known args.t.now c.type_inv.t) c.requires.whole args.i c.requires.below c.requires.used
    (sym c.within.ensures ∙ c.if-not-within.true)

pub returns-then-not-kept_entries : goal.returns-then-not-kept_entries
returns-then-not-kept_entries c =
    let args = c.args in
    stop _ (sym c.kept_entries.ensures ∙ c.if-not-kept_entries.true)
    ∙ sym (within_sizes args.t.now (bytes-known args.t.now c.type_inv.t) c.requires.whole args.i c.requires.below
    c.requires.used (sym c.within.ensures ∙ c.if-not-within.false))

pub returns-then-not-zero_behind : goal.returns-then-not-zero_behind
returns-then-not-zero_behind c =
    let args = c.args in
    pass (sym c.kept_entries.ensures ∙ c.if-not-kept_entries.false)
    (stop _ (sym c.zero_behind.ensures ∙ c.if-not-zero_behind.true))
    ∙ sym (within_sizes args.t.now (bytes-known args.t.now c.type_inv.t) c.requires.whole args.i c.requires.below
    c.requires.used (sym c.within.ensures ∙ c.if-not-within.false))

pub returns : goal.returns
returns c =
    let args = c.args in
    pass (sym c.kept_entries.ensures ∙ c.if-not-kept_entries.false)
    (pass (sym c.zero_behind.ensures ∙ c.if-not-zero_behind.false) c.good_name.ensures)
    ∙ sym (within_sizes args.t.now (bytes-known args.t.now c.type_inv.t) c.requires.whole args.i c.requires.below
    c.requires.used (sym c.within.ensures
    ∙ c.if-not-within.false))
