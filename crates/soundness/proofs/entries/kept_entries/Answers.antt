-- The domains, and the bits past the entries that count, decide.
use mathlib.Core.Path.{◌≡◌, refl, sym, ◌∙◌}
use mathlib.Core.Bool.{◌&&◌}
use Prim.Native.Nat.{ℕ, ◌+◌, ◌*◌, ◌-◌, ◌%◌, ◌^◌}
use native.Mathlib.Omega.{arith}
use lib.Dec.{eqb}
use lib.ListN.{get_or}
use Rattle.rules.specs.Size.{slot_size, fields_size}
use Rattle.octets.proofs.Bytes.{bytes-known}
use Rattle.soundness.specs.Parts.{low_domains, kept_entries}
use Rattle.soundness.proofs.Tests.{stop, pass}
use Rattle.soundness.proofs.EntryLaws.{shifted, shift_some, lone-high, lone-low}
use Rattle.soundness.proofs.SlotLaws.{sizes_of, entries_by}
use Rattle.soundness.proofs.entries.kept_entries.Goals as goal
use Rattle.soundness.proofs.entries.kept_entries.Goals.{After-entry_count-count}

-- what the numbers that are read decide, where the count is n
parts : (c : After-entry_count-count) (n : ℕ) → c.entry_count-count.result ≡ n →
    low_domains (get_or c.args.t.now (c.args.i * slot_size + fields_size) 0) c.number-rest.result && eqb (c.number-rest.result % 2 ^ (18 * (4 - n))) 0
    ≡ kept_entries c.args.t.now c.args.i
parts c n e =
    let t = c.args.t.now in
    sym (entries_by t (bytes-known t c.type_inv.t) c.requires.0.whole c.args.i c.requires.0.below
    c.requires.0.used c.requires.1 _ _ n refl c.number-rest.ensures.read.value (sym e ∙ c.entry_count-count.ensures))

pub returns-then-first-rest-le-LAST_DOMAIN : goal.returns-then-first-rest-le-LAST_DOMAIN
returns-then-first-rest-le-LAST_DOMAIN c =
    lone-low _ _ c.if-first-rest-le-LAST_DOMAIN.true
    ∙ parts (goal.at.returns-then-first-rest-le-LAST_DOMAIN c).After-entry_count-count 1 c.if-count-eq1.true

pub returns-else-first-rest-le-LAST_DOMAIN : goal.returns-else-first-rest-le-LAST_DOMAIN
returns-else-first-rest-le-LAST_DOMAIN c =
    lone-high _ _ c.if-first-rest-le-LAST_DOMAIN.false
    ∙ parts (goal.at.returns-else-first-rest-le-LAST_DOMAIN c).After-entry_count-count 1 c.if-count-eq1.true

pub overflow_sub-past : goal.overflow_sub-past
overflow_sub-past c = omega (arith, c.entry_count-count.ensures, (sizes_of _ _ c.requires.1).few)

pub overflow_shl-result-then-low_domains : goal.overflow_shl-result-then-low_domains
overflow_shl-result-then-low_domains c = omega (arith, c.entry_count-count.ensures, (sizes_of _ _ c.requires.1).least)

pub nonzero_rem-result-then-low_domains : goal.nonzero_rem-result-then-low_domains
nonzero_rem-result-then-low_domains c =
    let s = sizes_of _ _ c.requires.1 in
    shift_some c.entry_count-count.result (omega (arith, c.entry_count-count.ensures, s.least)) (omega (arith, c.entry_count-count.ensures, s.few))

pub returns-then-low_domains : goal.returns-then-low_domains
returns-then-low_domains c =
    let s = sizes_of _ _ c.requires.1 in
    rw (shifted c.entry_count-count.result (omega (arith, c.entry_count-count.ensures, s.least)) (omega (arith, c.entry_count-count.ensures, s.few)))
    (pass (sym c.low_domains.ensures ∙ c.if-low_domains.true) refl
    ∙ parts (goal.at.returns-then-low_domains c).After-entry_count-count _ refl)

pub returns-else-low_domains : goal.returns-else-low_domains
returns-else-low_domains c =
    c.if-low_domains.false
    ∙ (stop _ (sym c.low_domains.ensures ∙ c.if-low_domains.false)
    ∙ parts (goal.at.returns-else-low_domains c).After-entry_count-count _ refl)
