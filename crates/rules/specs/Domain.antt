-- Who asks: domains and their connections.
use Rattle.std.specs.Prelude.{Bool, ℕ, eqb}

-- the rights of a request are a domain's; watches and transactions are a connection's
abbrev pub Domain : Type 0
Domain = ℕ

abbrev pub Connection : Type 0
Connection = ℕ

-- the domain that a connection speaks for: each domain has one connection, of its own number
unfoldable pub domain_of : Connection → Domain
domain_of c = c

unfoldable pub is_control : Domain → Bool
is_control d = eqb d 0
