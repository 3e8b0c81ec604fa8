-- A free place is zero; a used one is its fields, its path and its token, and zero behind these.
use mathlib.Core.Path.{◌≡◌, sym, ◌∙◌}
use mathlib.Core.Bool.{◌&&◌}
use Prim.Native.Nat.{◌+◌, ◌*◌}
use native.Mathlib.Omega.{arith}
use Rattle.rules.specs.Size.{most_watches, watch_size, watch_fields_size, token_at, longest_path, longest_token}
use Rattle.rules.specs.Layout.{watch_bytes, watch_in}
use Rattle.octets.specs.Read.{Bytes}
use Rattle.octets.specs.Numbers.{rest_zero}
use Rattle.octets.proofs.Bytes.{bytes-known}
use Rattle.domains.specs.Kept.{kept_at}
use Rattle.domains.proofs.Tests.{and_first, and_rest}
use Rattle.watches.specs.Watch.{path_length, token_length}
use Rattle.watches.proofs.Kept.{fields_few, free_same, kept-long, kept_unplaced, kept_fields, kept_rests}
use Rattle.watches.proofs.checks.place_kept.Goals as goal
use Rattle.watches.proofs.checks.place_kept.Goals.{Else-not-fields_same, Else-s-at-lt128}

bytes : (c : Else-s-at-lt128) → Bytes c.args.s.now
bytes c = bytes-known c.args.s.now c.type_inv.s

-- where path and fields have passed, the rests decide
rests-decide : (c : Else-not-fields_same) →
    let args = c.args in
    let s = args.s.now in
    let at = args.k * watch_size in
    kept_at most_watches watch_size watch_bytes watch_in s args.k
    ≡ (rest_zero s (at + watch_fields_size) (path_length s args.k) longest_path && rest_zero s (at + token_at) (token_length s args.k) longest_token)
rests-decide c =
    let pre = c.requires in
    let n = c.path_length-n.ensures in
    let place = sym c.place_same.ensures ∙ c.if-not-place_same.false in
    let fields = sym c.fields_same.ensures ∙ c.if-not-fields_same.false in
    kept_rests _ _ pre.0 (bytes-known c.args.s.now c.type_inv.s) pre.1 c.if-s-at-lt128.false (rw (← n) c.if-n-gt-LONGEST_PATH.false) (rw n at place) fields

pub returns-then-s-at-lt128 : goal.returns-then-s-at-lt128
returns-then-s-at-lt128 c =
    let s = c.args.s.now in
    let in_bytes = bytes-known s c.type_inv.s in
    c.all_zero.ensures ∙ free_same s _ c.requires.0 in_bytes c.requires.1 c.if-s-at-lt128.true

pub returns-then-n-gt-LONGEST_PATH : goal.returns-then-n-gt-LONGEST_PATH
returns-then-n-gt-LONGEST_PATH c =
    let places = goal.at.returns-then-n-gt-LONGEST_PATH c in
    let pre = c.requires in
    sym (kept-long _ _ pre.0 (bytes places.Else-s-at-lt128) pre.1 c.if-s-at-lt128.false (rw (← c.path_length-n.ensures) c.if-n-gt-LONGEST_PATH.true))

pub returns-then-not-place_same : goal.returns-then-not-place_same
returns-then-not-place_same c =
    let places = goal.at.returns-then-not-place_same c in
    let pre = c.requires in
    let place = sym c.place_same.ensures ∙ c.if-not-place_same.true in
    sym (kept_unplaced _ _ pre.0 (bytes places.Else-s-at-lt128) pre.1 c.if-s-at-lt128.false (rw c.path_length-n.ensures at place))

pub returns-then-not-fields_same : goal.returns-then-not-fields_same
returns-then-not-fields_same c =
    let pre = c.requires in
    let fields = sym c.fields_same.ensures ∙ c.if-not-fields_same.true in
    sym (kept_fields _ _ pre.0 (bytes (goal.at.returns-then-not-fields_same c).Else-s-at-lt128) pre.1 c.if-s-at-lt128.false fields)

pub returns-else-rest_zero : goal.returns-else-rest_zero
returns-else-rest_zero c =
    let rest = sym c.rest_zero.ensures ∙ c.if-rest_zero.false in
    c.if-rest_zero.false ∙ sym (rests-decide (goal.at.returns-else-rest_zero c).Else-not-fields_same ∙ and_first _ _ (rw c.path_length-n.ensures at rest))

pub rest_zero-requires-then-rest_zero : goal.rest_zero-requires-then-rest_zero
rest_zero-requires-then-rest_zero c =
    let pre = c.requires in
    let fields = sym c.fields_same.ensures ∙ c.if-not-fields_same.false in
    (rw c.token_length.ensures (fields_few _ _ fields), omega (arith, pre.1, pre.0))

pub returns-then-rest_zero : goal.returns-then-rest_zero
returns-then-rest_zero c =
    let rest = sym c.rest_zero.ensures ∙ c.if-rest_zero.true in
    let token = c.rest_zero-then-rest_zero.ensures in
    (rw c.token_length.ensures at token)
    ∙ sym (rests-decide (goal.at.returns-then-rest_zero c).Else-not-fields_same ∙ and_rest _ _ (rw c.path_length-n.ensures at rest))
