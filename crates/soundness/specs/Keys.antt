-- A number for each slot that siblings with one name share.
use Rattle.std.specs.Prelude.{Bool, false, cond, not, ◌&&◌, ◌||◌, List, [], ◌∷◌, ℕ, ◌+◌, ◌*◌, ◌-◌, ◌/◌, ◌%◌, length, get_or, eqb, ltb}
use Rattle.std.proofs.Math.Option.{Option, none, some}
use Rattle.rules.specs.Octets.{Octets}
use Rattle.rules.specs.Node.{Node}

-- the first and the last two bytes of a name, and its length
unfoldable pub digest_of : Octets → ℕ
digest_of s =
    let n = length s in
    cond (ltb n 2) (get_or s 0 0 % 256) (((get_or s 0 0 + get_or s (n - 1) 0) * 8 + get_or s (n - 2) 0 + n) % 256)

-- an unused slot's is 0
unfoldable pub key_of : Option Node → ℕ
key_of none = 0
key_of (some n) = 32768 + n.parent * 256 + digest_of n.name

-- one of 1,024 places
unfoldable pub place_of : ℕ → ℕ
place_of k = k * 847 / 64 % 1024

-- a key is among some
unfoldable pub has_key : ℕ → List ℕ → Bool
has_key k [] = false
has_key k (x ∷ xs) = eqb x k || has_key k xs

-- a used slot's key, the place of which is taken, is among those so far
unfoldable pub may_clash : Octets → List ℕ → ℕ → ℕ → Bool
may_clash taken keys place k = not (eqb k 0) && (not (eqb (get_or taken place 0) 0) && has_key k keys)
