-- What a reading request sees, whatever it then gives of the slot.
use Rattle.std.specs.Prelude.{Result, Ok, Err, ◌≡◌, ℕ}
use Rattle.rules.specs.Octets.{Octets}
use Rattle.rules.specs.Path.{Domain, names_in}
use Rattle.rules.specs.Node.{reach}
use Rattle.rules.specs.Answer as A
use Rattle.rules.specs.Layout.{table_of}
use Rattle.lookup.specs.Rights.{Asked}
use Rattle.replies.specs.Meant.{errno_meant}
use Rattle.replies.specs.declared.kinds.Errno.{Errno}

-- the answer to a reading request of domain d for the path p
abbrev pub looked_at : Octets → Octets → Domain → (ℕ → A.Reply) → A.Answer
looked_at t p d give = A.looked d (names_in p) (table_of t) (reach (table_of t) (names_in p)) give

-- a slot that the domain may read, or the error
abbrev pub Sees : Octets → Octets → Domain → Result ℕ Errno → Type 0
Sees t p d (Ok i) = Asked t i × ((give : ℕ → A.Reply) → looked_at t p d give ≡ A.unchanged d (names_in p) (table_of t) (give i))
Sees t p d (Err e) = (give : ℕ → A.Reply) → looked_at t p d give ≡ A.unchanged d (names_in p) (table_of t) (A.refused (errno_meant e))
