-- A watch of the connection is the twin where path and token are the same.
use mathlib.Core.Path.{sym, ap, ◌∙◌}
use Rattle.rules.specs.Octets.{same}
use Rattle.watches.proofs.Laws.{owned_taken, twin_other, twin-path, twin-token}
use Rattle.watches.proofs.places.is_twin.Goals as goal

pub returns-then-not-owned : goal.returns-then-not-owned
returns-then-not-owned c = sym (twin_other _ _ _ _ (sym c.owned.ensures ∙ c.if-not-owned.true))

pub path-requires : goal.path-requires
path-requires c =
    let pre = c.requires in
    record { below = pre.0; kept = pre.1; used = owned_taken _ _ (sym c.owned.ensures ∙ c.if-not-owned.false) }

pub returns-then-not-same : goal.returns-then-not-same
returns-then-not-same c =
    let p = c.args.p.now in
    let own = sym c.owned.ensures ∙ c.if-not-owned.false in
    let other = ap (same p) (sym c.path.ensures) ∙ sym c.same.ensures ∙ c.if-not-same.true in
    sym (twin-path _ p _ _ own other)

pub token-requires : goal.token-requires
token-requires c =
    let pre = c.requires in
    record { below = pre.0; kept = pre.1; used = owned_taken _ _ (sym c.owned.ensures ∙ c.if-not-owned.false) }

pub returns : goal.returns
returns c =
    let args = c.args in
    let own = sym c.owned.ensures ∙ c.if-not-owned.false in
    let path = ap (same args.p.now) (sym c.path.ensures) ∙ sym c.same.ensures ∙ c.if-not-same.false in
    c.same-2.ensures ∙ ap (same args.t.now) c.token.ensures ∙ sym (twin-token _ args.p.now args.t.now _ own path)
