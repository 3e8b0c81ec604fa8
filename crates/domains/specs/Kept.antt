-- Bytes of a table that re-encode to themselves, as those of a sound table do.
use Rattle.std.specs.Prelude.{◌≡◌, Bool, ℕ, ◌*◌, length, take, drop}
use mathlib.Core.List.{map, flat_map}
use Rattle.std.proofs.Math.Option.{Option}
use Rattle.rules.specs.Size.{most_domains, domain_size}
use Rattle.rules.specs.Octets.{Octets, same, chunks}
use Rattle.rules.specs.Layout.{domain_bytes, domain_in}

-- n places of k bytes each
module _ {A : Type 0} (n k : ℕ) (encode : Option A → Octets) (decode : Octets → Option A) where
  pub record Kept (s : Octets) : Type 0 where
    pub whole : length s ≡ n * k
    pub same : flat_map encode (map decode (chunks n k s)) ≡ s

  -- the bytes of place i re-encode to themselves
  unfoldable pub kept_at : Octets → ℕ → Bool
  kept_at s i = same (encode (decode (take k (drop (i * k) s)))) (take k (drop (i * k) s))

abbrev pub KeptDomains : Octets → Type 0
KeptDomains = Kept most_domains domain_size domain_bytes domain_in
