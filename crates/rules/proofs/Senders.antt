-- Who asks: what is known of the control domain, and of the domain that a connection speaks for. Nothing else opens `is_control` and `domain_of`.
use mathlib.Core.Path.{◌≡◌, refl}
use mathlib.Core.Bool.{true, false}
use Prim.Native.Nat.{◌≤◌, ◌<◌}
use native.Mathlib.Omega.{arith}
use lib.Dec.{eqb}
use borrow.Author.Tests.{eqb-true, eqb-false, eq-eqb}
use Rattle.rules.specs.Size.{last_domain}
use Rattle.rules.specs.Domain.{Domain, Connection, domain_of, is_control}
use Rattle.rules.specs.World.{speaks_for}

-- the control domain is domain 0
pub control_test : (d : Domain) → is_control d ≡ eqb d 0
unfolding is_control
control_test d = refl

pub control-zero : (d : Domain) → is_control d ≡ true → d ≡ 0
unfolding is_control
control-zero d h = eqb-true d 0 h

pub zero-control : (d : Domain) → d ≡ 0 → is_control d ≡ true
unfolding is_control
zero-control d h = eq-eqb d 0 h

pub other_domain : (d : Domain) → is_control d ≡ false → d ≡ 0 → ⊥
unfolding is_control
other_domain d h = eqb-false d 0 h

-- a connection that speaks for a domain has a number of 16 bits
pub connection_fits : (c : Connection) → domain_of c ≤ last_domain → c < 65536
unfolding domain_of
connection_fits c h = omega arith

-- a domain that can be released has the connection of its own number, and no other
pub speaks-own : (d : Domain) → 1 ≤ d → d ≤ last_domain → speaks_for d ≡ eqb d
unfolding domain_of speaks_for
speaks-own d low high = refl

-- a connection speaks for the domain of its own number
pub own-number : (c : Connection) → domain_of c ≡ c
unfolding domain_of
own-number c = refl
