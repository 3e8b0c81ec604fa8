-- What is left is made if the domain may write and there is room.
use mathlib.Core.Path.{sym, ap, ◌∙◌}
use mathlib.Core.Bool.{false}
use mathlib.Core.Option.{some}
use Prim.Native.Nat.{ℕ, ◌-◌}
use native.Mathlib.Omega.{arith}
use Rattle.rules.specs.Path.{names_in}
use Rattle.slots.specs.Left.{left_at}
use Rattle.slots.proofs.Canonical.{sound_canonical}
use Rattle.nodes.proofs.Outcomes.{refused_so, changed_so}
use Rattle.nodes.proofs.ChangingLaws.{created_denied, created-full, created-done}
use Rattle.rules.proofs.Fitting.{roomy}
use Rattle.nodes.proofs.RoomLaws.{left-short, some_left}
use Rattle.nodes.proofs.changing.create.Goals as goal

pub returns-then-not-may_write : goal.returns-then-not-may_write
returns-then-not-may_write c =
    refused_so c.args.domain _ c.args.t.now (sound_canonical _ c.requires.0.standing.sound) _ c.args.reply.now _
    (created_denied _ _ _ _ _ c.requires.1 _ (sym c.may_write.ensures ∙ c.if-not-may_write.true))

pub returns-then-not-has_room : goal.returns-then-not-has_room
returns-then-not-has_room c =
    let left = c.names_left-left.ensures in
    refused_so c.args.domain _ c.args.t.now (sound_canonical _ c.requires.0.standing.sound) _ c.args.reply.now _
    (created-full _ _ _ _ _ c.requires.1 _ (sym c.may_write.ensures ∙ c.if-not-may_write.false)
    (sym (c.has_room.ensures c.args.domain _ left) ∙ c.if-not-has_room.true))

pub make-requires : goal.make-requires
make-requires c =
    let left = c.names_left-left.ensures in
    let room = c.has_room.ensures c.args.domain (left_at c.args.path.now c.args.at) left in
    let m = roomy c.args.domain _ _ _ _ (sym room ∙ c.if-not-has_room.false) in record {
      used = (c.requires.1.below, sound_canonical _ c.requires.0.standing.sound, c.requires.1.used);
      short = left-short _ _ _ _ c.requires.1 m.1;
      room = m.2;
      sizes = (m.0, c.requires.0.domain);
    }

pub overflow_sub-parents : goal.overflow_sub-parents
overflow_sub-parents c =
    let left = c.names_left-left.ensures in
    omega (arith, left, some_left c.args.path.now c.args.at c.requires.2)

pub returns : goal.returns
returns c =
    let left = c.names_left-left.ensures in
    changed_so c.args.domain _ _ _ c.args.reply.now _ _ _ _ _ _ _ c.success.ensures
    (ap (λ (n : ℕ). some (record { removal = false; parents = n - 1; names = names_in c.args.path.now })) left)
    (created-done _ _ _ _ _ c.requires.1 _ (sym c.may_write.ensures ∙ c.if-not-may_write.false)
    (sym (c.has_room.ensures c.args.domain (left_at c.args.path.now c.args.at) left) ∙ c.if-not-has_room.false))
    c.make.ensures
