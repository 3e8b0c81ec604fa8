-- Domains and watches as bytes: an entry that fits its fields is written in its width and read back; and the copies, as rows of bytes.
use mathlib.Core.Path.{◌≡◌, refl, sym, ◌∙◌, ap}
use mathlib.Core.Bool.{Bool, true, false, cond}
use mathlib.Core.List.{List, [], ◌∷◌, ◌++◌, map, flat_map, append-nil, append_assoc}
use mathlib.Core.Option.{Option, none, some}
use Prim.Native.Nat.{ℕ, zero, suc, ◌+◌, ◌*◌, ◌^◌, ◌≤◌, ◌<◌}
use native.Mathlib.Omega.{arith}
use lib.ListN.{length, get_or, set, take, drop, length-append, length-replicate, length-take, length-drop, take-append-drop}
use lib.Seq.{take_at, drop_at}
use lib.Dec.{eqb, lit<}
use Rattle.rules.specs.Size.{longest_token, longest_path, domain_size, most_domains, watch_size, most_watches}
use Rattle.rules.specs.Octets.{Octets, paste, padded, bit, ◌bits◌, chunks, big_endian, big_from, field, pack, pack_from, bits_at}
use Rattle.rules.specs.Path.{Domain, special, given, all_names, path_text}
use Rattle.rules.specs.Payload.{Place, path, event}
use Rattle.rules.specs.Event.{Watch, Watches, place_text}
use Rattle.rules.specs.Layout.{text_at, is_relative, depth_bits, watch_bits, watch_bytes, place_in, watch_at, watch_in, watches_bytes, watches_of}
use Rattle.rules.specs.Layout.{Domains, domain_bytes, domain_in, domains_bytes, domains_of}
use Rattle.rules.proofs.Slots.{length-padded, text-padded}
use Rattle.rules.proofs.Tables.{Each, each_map, length_encoded, written, decoded, decoded_at}
use Rattle.rules.proofs.PathLaws.{text-given}
use Rattle.rules.proofs.Fields.{length_big, field-first, bit_small, bit_back}

-- ── what fits ──

abbrev pub PlaceFits : Place → Type 0
PlaceFits (path r ns) = (all_names ns ≡ true) × (length (path_text ns) ≤ longest_path)
PlaceFits (event e) = (given e ≡ special e) × (length e ≤ longest_path)

abbrev pub DepthFits : Option ℕ → Type 0
DepthFits none = Unit {0}
DepthFits (some k) = k < 256

pub record WatchFits (v : Watch) : Type 0 where
  pub owner : v.owner < 65536
  pub depth : DepthFits v.depth
  pub token : length v.token ≤ longest_token
  pub place : PlaceFits v.place

-- ── domains ──

abbrev pub DomainFits : Option Domain → Type 0
DomainFits none = Unit {0}
DomainFits (some d) = d < 65536

pub domain-width : (m : Option Domain) → DomainFits m → length (domain_bytes m) ≡ domain_size
unfolding domain_bytes
domain-width none f = length-replicate {A = ℕ} domain_size 0
domain-width (some d) f = length_big 3 _

-- an entry whose fields say that it is used
domain-used : (s : Octets) (head d : ℕ) → field s 0 3 ≡ head → bits_at head 23 1 ≡ 1 → bits_at head 0 16 ≡ d → domain_in s ≡ some d
unfolding domain_in
domain-used s head d h u e = rw (h, u, e)

pub domain-read : (m : Option Domain) → DomainFits m → domain_in (domain_bytes m) ≡ m
unfolding domain_in domain_bytes field big_from bits_at pack pack_from
domain-read none f = refl
domain-read (some d) f =
    domain-used (domain_bytes (some d)) (pack (1 bits 1 ∷ 7 bits 0 ∷ 16 bits d ∷ [])) d
    (rw append-nil at (field-first 3 (pack (1 bits 1 ∷ 7 bits 0 ∷ 16 bits d ∷ [])) [] (omega arith)))
    (omega arith) (omega arith)

pub domains-read : (ds : Domains) → length ds ≡ most_domains → Each DomainFits ds → domains_of (domains_bytes ds) ≡ ds
unfolding domains_bytes domains_of
domains-read ds h f =
    ap (λ (n : ℕ). map domain_in (chunks n domain_size (flat_map domain_bytes ds))) (sym h)
    ∙ decoded domain_bytes domain_size domain_in ds (each_map DomainFits _ domain-width ds f) (each_map DomainFits _ domain-read ds f)

pub domain_at : (s : Octets) (i : ℕ) → i < most_domains → get_or (domains_of s) i none ≡ domain_in (take domain_size (drop (i * domain_size) s))
unfolding domains_of
domain_at s i h = decoded_at domain_in most_domains domain_size i s none h

pub length-domains : (ds : Domains) → Each DomainFits ds → length (domains_bytes ds) ≡ length ds * domain_size
unfolding domains_bytes
length-domains ds f = length_encoded domain_bytes domain_size ds (each_map DomainFits _ domain-width ds f)

-- ── watches ──

place_back : (p : Place) → PlaceFits p → place_in (is_relative p) (place_text p) ≡ p
unfolding place_in is_relative place_text
place_back (path r ns) f = rw (text-given ns f.0 (omega (arith, f.1)), place_in)
place_back (event e) f = rw (f.0, place_in)

place_short : (p : Place) → PlaceFits p → length (place_text p) ≤ longest_path
unfolding place_text
place_short (path r ns) f = f.1
place_short (event e) f = f.1

-- whether a depth is given, and the depth
depth_given : Option ℕ → Bool
depth_given none = false
depth_given (some k) = true

depth_of : Option ℕ → ℕ
depth_of none = 0
depth_of (some k) = k

depth_bits_lem : (m : Option ℕ) → depth_bits m ≡ 1 bits bit (depth_given m) ∷ 5 bits 0 ∷ 8 bits depth_of m ∷ []
unfolding depth_bits depth_given depth_of
depth_bits_lem none = refl
depth_bits_lem (some k) = refl

depth_small : (m : Option ℕ) → DepthFits m → depth_of m < 256
unfolding depth_of
depth_small none f = lit< tt
depth_small (some k) f = f

depth_back : (m : Option ℕ) → cond (depth_given m) (some (depth_of m)) none ≡ m
unfolding depth_given depth_of
depth_back none = refl
depth_back (some k) = refl

-- the fields of a watch, as they are read
record WatchHead (b g k o l t m : ℕ) : Type 0 where
  bound : m < 256 ^ 6
  used : bits_at m 47 1 ≡ 1
  relative : bits_at m 46 1 ≡ b
  given : bits_at m 45 1 ≡ g
  depth : bits_at m 32 8 ≡ k
  owner : bits_at m 16 16 ≡ o
  path : bits_at m 7 9 ≡ l
  token : bits_at m 0 6 ≡ t

watch-head : (b g k o l t : ℕ) → b < 2 → g < 2 → k < 256 → o < 65536 → l < 512 → t < 64
    → WatchHead b g k o l t (pack (1 bits 1 ∷ 1 bits b ∷ 1 bits g ∷ 5 bits 0 ∷ 8 bits k ∷ 16 bits o ∷ 9 bits l ∷ 1 bits 0 ∷ 6 bits t ∷ []))
unfolding pack pack_from bits_at
watch-head b g k o l t hb hg hk ho hl ht =
    record {
      bound = omega arith;
      used = omega arith;
      relative = omega arith;
      given = omega arith;
      depth = omega arith;
      owner = omega arith;
      path = omega arith;
      token = omega arith;
    }

watch-used : (s : Octets) (head : ℕ) → field s 0 6 ≡ head → bits_at head 47 1 ≡ 1 → watch_in s ≡ some (watch_at s head)
unfolding watch_in
watch-used s head h u = rw (h, u)

module _ (v : Watch) (f : WatchFits v) where
  head : ℕ
  head = pack (watch_bits v)

  fields : Octets
  fields = big_endian 6 head

  place : Octets
  place = padded longest_path (place_text v.place)

  token : Octets
  token = padded longest_token v.token

  read : WatchHead (bit (is_relative v.place)) (bit (depth_given v.depth)) (depth_of v.depth) v.owner (length (place_text v.place))
      (length v.token) head
  unfolding head watch_bits
  read =
      rw depth_bits_lem
      (watch-head _ _ _ _ _ _ (bit_small (is_relative v.place)) (bit_small (depth_given v.depth)) (depth_small v.depth f.depth) f.owner
      (omega (arith, place_short v.place f.place)) (omega (arith, f.token)))

  -- the watch's bytes, with a seam before the path and one before the token
  before-path : watch_bytes (some v) ≡ fields ++ (place ++ token)
  unfolding watch_bytes head fields place token
  before-path = refl

  before-token : watch_bytes (some v) ≡ (fields ++ place) ++ (token ++ [])
  before-token = before-path ∙ (sym (append_assoc fields place token) ∙ rw (append-nil token))

  length_fields : length fields ≡ 6
  unfolding fields
  length_fields = length_big 6 head

  length_front : length (fields ++ place) ≡ 6 + longest_path
  unfolding place
  length_front = length-append fields _ ∙ rw (length_fields, length-padded longest_path (place_text v.place) (place_short v.place f.place))

  path-read : text_at (watch_bytes (some v)) 6 longest_path (bits_at head 7 9) ≡ place_text v.place
  unfolding place
  path-read = rw before-path (text-padded fields (place_text v.place) token 6 longest_path _ length_fields (place_short v.place f.place) read.path)

  token-read : text_at (watch_bytes (some v)) (6 + longest_path) longest_token (bits_at head 0 6) ≡ v.token
  unfolding token
  token-read = rw before-token (text-padded (fields ++ place) v.token [] (6 + longest_path) longest_token _ length_front f.token read.token)

  head_read : field (watch_bytes (some v)) 0 6 ≡ head
  unfolding fields
  head_read = rw before-path (field-first 6 head (place ++ token) read.bound)

  at_read : watch_at (watch_bytes (some v)) head ≡ v
  unfolding watch_at
  at_read = λ i. record {
    owner = read.owner i;
    place = place_is i;
    depth = depth_is i;
    token = token-read i;
  }
    where
      place_is : place_in (eqb (bits_at head 46 1) 1) (text_at (watch_bytes (some v)) 6 longest_path (bits_at head 7 9)) ≡ v.place
      place_is = rw (path-read, read.relative, bit_back (is_relative v.place)) (place_back v.place f.place)

      depth_is : cond (eqb (bits_at head 45 1) 1) (some (bits_at head 32 8)) none ≡ v.depth
      depth_is = rw (read.given, bit_back (depth_given v.depth), read.depth) (depth_back v.depth)

  some-watch-width : length (watch_bytes (some v)) ≡ watch_size
  unfolding token
  some-watch-width = ap length before-token ∙ (length-append (fields ++ place) (token ++ [])
      ∙ rw (length_front, append-nil (padded longest_token v.token), length-padded longest_token v.token f.token))

  some-watch-read : watch_in (watch_bytes (some v)) ≡ some v
  some-watch-read = watch-used (watch_bytes (some v)) head head_read read.used ∙ ap some at_read

abbrev pub MaybeWatch : Option Watch → Type 0
MaybeWatch none = Unit {0}
MaybeWatch (some v) = WatchFits v

pub watch-width : (m : Option Watch) → MaybeWatch m → length (watch_bytes m) ≡ watch_size
unfolding watch_bytes
watch-width none f = length-replicate {A = ℕ} watch_size 0
watch-width (some v) f = some-watch-width v f

pub watch-read : (m : Option Watch) → MaybeWatch m → watch_in (watch_bytes m) ≡ m
unfolding watch_in watch_bytes field big_from bits_at
watch-read none f = refl
watch-read (some v) f = some-watch-read v f

pub watches-read : (ws : Watches) → length ws ≡ most_watches → Each MaybeWatch ws → watches_of (watches_bytes ws) ≡ ws
unfolding watches_bytes watches_of
watches-read ws h f =
    ap (λ (n : ℕ). map watch_in (chunks n watch_size (flat_map watch_bytes ws))) (sym h)
    ∙ decoded watch_bytes watch_size watch_in ws (each_map MaybeWatch _ watch-width ws f) (each_map MaybeWatch _ watch-read ws f)

pub watch_at_lem : (s : Octets) (i : ℕ) → i < most_watches → get_or (watches_of s) i none ≡ watch_in (take watch_size (drop (i * watch_size) s))
unfolding watches_of
watch_at_lem s i h = decoded_at watch_in most_watches watch_size i s none h

pub length-watches : (ws : Watches) → Each MaybeWatch ws → length (watches_bytes ws) ≡ length ws * watch_size
unfolding watches_bytes
length-watches ws f = length_encoded watch_bytes watch_size ws (each_map MaybeWatch _ watch-width ws f)

-- ── copies: bytes in rows ──

abbrev pub whole : Octets → Octets
whole s = s

pub map_whole : (xs : List Octets) → map whole xs ≡ xs
map_whole [] = refl
map_whole (x ∷ xs) = ap (λ (l : List Octets). x ∷ l) (map_whole xs)

-- rows joined are read back as the rows
pub copies-read : (k : ℕ) (cs : List Octets) → Each (λ (c : Octets). length c ≡ k) cs → chunks (length cs) k (flat_map whole cs) ≡ cs
unfolding chunks flat_map
copies-read k [] h = refl
copies-read k (c ∷ cs) h = rw (take_at c (flat_map whole cs) k h.0, drop_at c (flat_map whole cs) k h.0)
    (ap (λ (l : List Octets). c ∷ l) (copies-read k cs h.1))

-- a written copy changes its own bytes alone
pub copy_written : (k : ℕ) (cs : List Octets) (i : ℕ) (c : Octets) → Each (λ (x : Octets). length x ≡ k) cs → length c ≡ k → i < length cs
    → flat_map whole (set cs i c) ≡ paste (i * k) c (flat_map whole cs)
copy_written k cs i c f g h = written whole k cs i c f g h

-- bytes taken as rows: each of its size, and joined the bytes again
pub rows_sized : (n k : ℕ) (s : Octets) → length s ≡ n * k → Each (λ (r : Octets). length r ≡ k) (chunks n k s)
unfolding chunks
rows_sized zero k s h = tt
rows_sized (suc n) k s h = (simp length-take (omega arith), rows_sized n k (drop k s) (simp length-drop (omega arith)))

pub rows_joined : (n k : ℕ) (s : Octets) → length s ≡ n * k → flat_map whole (chunks n k s) ≡ s
unfolding chunks flat_map
rows_joined zero k [] h = refl
rows_joined zero k (c ∷ s) h = absurd (omega arith)
rows_joined (suc n) k s h = ap (λ (r : Octets). take k s ++ r) (rows_joined n k (drop k s) (simp length-drop (omega arith))) ∙ take-append-drop k s
