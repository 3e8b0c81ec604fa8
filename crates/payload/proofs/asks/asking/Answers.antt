-- The root is asked only what it is open to; any other path is asked everything.
use mathlib.Core.Path.{sym, ◌∙◌}
use Rattle.payload.specs.Answers.{asking_of}
use Rattle.payload.proofs.asks.asking.Goals as goal
use Rattle.payload.proofs.asks.asking.Goals.{else-is_root-via-then-is_root+else-not-on_root, else-is_root-via-else-is_root}

pub returns-then-not-on_root : goal.returns-then-not-on_root
unfolding asking_of
returns-then-not-on_root c s =
    let told = sym (c.on_root.ensures s) ∙ c.if-not-on_root.true in
    sym (rw (sym c.is_root.ensures ∙ c.if-is_root.true, told))

pub returns : goal.returns
unfolding asking_of
returns c s =
    elim c.else-is_root.branch [
      | else-is_root-via-then-is_root+else-not-on_root w ↦
          let told = sym (w.on_root.ensures s) ∙ w.if-not-on_root.false in
          sym (rw (sym c.is_root.ensures ∙ w.if-is_root.true, told))
      | else-is_root-via-else-is_root w ↦ sym (rw (sym c.is_root.ensures ∙ w.if-is_root.false))
    ]
