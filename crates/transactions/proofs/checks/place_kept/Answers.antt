-- A closed place is zero; an open one is its fields and its changes, and zero behind these.
use mathlib.Core.Path.{sym, ◌∙◌}
use Rattle.octets.proofs.Bytes.{bytes-known}
use Rattle.domains.proofs.Tests.{and_first, and_rest}
use Rattle.transactions.proofs.Kept.{free_same, kept-marked, kept_many, kept-parts}
use Rattle.transactions.proofs.checks.place_kept.Goals as goal

pub returns-then-s-at-lt128 : goal.returns-then-s-at-lt128
returns-then-s-at-lt128 c =
    let s = c.args.s.now in
    let bytes = bytes-known s c.type_inv.s in
    c.all_zero.ensures ∙ free_same s _ c.requires.0 bytes c.requires.1 c.if-s-at-lt128.true

pub returns-then-s-at-ne0 : goal.returns-then-s-at-ne0
returns-then-s-at-ne0 c =
    let s = c.args.s.now in
    let bytes = bytes-known s c.type_inv.s in
    sym (kept-marked s _ c.requires.0 bytes c.requires.1 c.if-s-at-lt128.false c.if-s-at-ne0.true)

pub returns-then-n-gt-MOST_CHANGES : goal.returns-then-n-gt-MOST_CHANGES
returns-then-n-gt-MOST_CHANGES c =
    let s = c.args.s.now in
    let bytes = bytes-known s c.type_inv.s in
    sym (kept_many s _ c.requires.0 bytes c.requires.1 c.if-s-at-lt128.false c.if-n-gt-MOST_CHANGES.true)

pub returns-else-changes_kept : goal.returns-else-changes_kept
returns-else-changes_kept c =
    let s = c.args.s.now in
    let bytes = bytes-known s c.type_inv.s in
    let parts = kept-parts s _ c.requires.0 bytes c.requires.1 c.if-s-at-lt128.false c.if-s-at-ne0.false c.if-n-gt-MOST_CHANGES.false in
    c.if-changes_kept.false ∙ sym (parts ∙ and_first _ _ (sym c.changes_kept.ensures ∙ c.if-changes_kept.false))

pub returns-then-changes_kept : goal.returns-then-changes_kept
returns-then-changes_kept c =
    let s = c.args.s.now in
    let bytes = bytes-known s c.type_inv.s in
    let parts = kept-parts s _ c.requires.0 bytes c.requires.1 c.if-s-at-lt128.false c.if-s-at-ne0.false c.if-n-gt-MOST_CHANGES.false in
    c.rest_zero.ensures ∙ sym (parts ∙ and_rest _ _ (sym c.changes_kept.ensures ∙ c.if-changes_kept.true))
