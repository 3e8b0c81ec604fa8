-- A change is its fields and its full path, and zero behind that.
use mathlib.Core.Path.{sym, ◌∙◌}
use native.Mathlib.Omega.{arith}
use Rattle.rules.proofs.Fields.{field_two}
use Rattle.transactions.proofs.ChangesKept.{change-marked, change_over, change_unfull, change-rest}
use Rattle.transactions.proofs.checks.change_kept.Goals as goal

pub returns-then-fields-ne0 : goal.returns-then-fields-ne0
returns-then-fields-ne0 c =
    let fields = c.number-fields.ensures.read in
    let v = fields.value ∙ field_two c.args.s.now c.args.at (omega (arith, c.requires)) in
    sym (change-marked c.args.s.now c.args.at fields.bytes c.requires (rw v at c.if-fields-ne0.true))

pub returns-then-n-gt-LONGEST_PATH : goal.returns-then-n-gt-LONGEST_PATH
returns-then-n-gt-LONGEST_PATH c =
    let fields = c.number-fields.ensures.read in
    let v = fields.value ∙ field_two c.args.s.now c.args.at (omega (arith, c.requires)) in
    sym (change_over c.args.s.now c.args.at fields.bytes c.requires (rw v at c.if-n-gt-LONGEST_PATH.true))

pub returns-else-is_full : goal.returns-else-is_full
returns-else-is_full c =
    let fields = c.number-fields.ensures.read in
    let v = fields.value ∙ field_two c.args.s.now c.args.at (omega (arith, c.requires)) in
    let full = sym c.is_full.ensures ∙ c.if-is_full.false in
    c.if-is_full.false ∙ sym (change_unfull c.args.s.now c.args.at fields.bytes c.requires (rw v at c.if-n-gt-LONGEST_PATH.false) (rw v at full))

pub returns-then-is_full : goal.returns-then-is_full
returns-then-is_full c =
    let fields = c.number-fields.ensures.read in
    let v = fields.value ∙ field_two c.args.s.now c.args.at (omega (arith, c.requires)) in
    let full = sym c.is_full.ensures ∙ c.if-is_full.true in
    let rest = c.rest_zero.ensures in
    (rw v at rest)
    ∙ sym (change-rest c.args.s.now c.args.at fields.bytes c.requires
    (rw v at c.if-fields-ne0.false) (rw v at c.if-n-gt-LONGEST_PATH.false) (rw v at full))
