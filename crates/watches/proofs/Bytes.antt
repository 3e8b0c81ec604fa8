-- A watch as bytes: its place's text, the bytes that it is written in, and what is sure of one that was read.
use mathlib.Core.Path.{◌≡◌, refl, sym, ap, ap₂, ◌∙◌}
use mathlib.Core.Bool.{Bool}
use mathlib.Core.List.{[], ◌∷◌, ◌++◌}
use mathlib.Core.Option.{Option, none, some}
use Prim.Native.Nat.{ℕ, ◌+◌, ◌*◌, ◌/◌, ◌%◌, ◌≤◌, ◌<◌, zero-le}
use native.Mathlib.Nat.{mod-lt, div-add-mod'}
use native.Mathlib.Omega.{arith}
use lib.ListN.{length, replicate, length-replicate, length-append}
use lib.Dec.{eqb, lit<}
use Rattle.rules.specs.Size.{most_watches, watch_fields_size, token_at, watch_size, longest_path, longest_token}
use Rattle.rules.specs.Octets.{Octets, field, bits_at, big_endian, bit, padded, pack, pack_from, ◌bits◌}
use Rattle.rules.specs.Path.{Given, malformed, absolute, relative, special, given}
use Rattle.rules.specs.Payload.{Place, path, event}
use Rattle.rules.specs.Event.{Watch, place_text}
use Rattle.rules.specs.Layout.{text_at, is_relative, depth_bits, watch_bits, watch_bytes, watch_in, watch_at, place_in, watches_of}
use Rattle.rules.proofs.PathLaws.{Means, means}
use Rattle.rules.proofs.Fields.{bit_small}
use Rattle.rules.proofs.Cases.{cond_case}
use Rattle.rules.proofs.Slots.{text-short, length-padded}
use Rattle.domains.specs.Entry.{taken, entry_or}
use Rattle.domains.proofs.Rows.{length-table}

-- ── a place's text ──

abbrev pub meant_by : Bool → Given → Place
meant_by r g = elim g as (λ g. Place) [ malformed ↦ event [] | absolute ns ↦ path r ns | relative ns ↦ event [] | special e ↦ event e ]

pub place-given : (r : Bool) (x : Octets) (g : Given) → given x ≡ g → place_in r x ≡ meant_by r g
unfolding place_in
place-given r x g e = ap (meant_by r) e

pub place_short : (r : Bool) (x : Octets) → length (place_text (place_in r x)) ≤ length x
unfolding place_in place_text
place_short r x = go (given x) (means x)
  where
    go : (g : Given) → Means x g → length (place_text (meant_by r g)) ≤ length x
    go malformed m = zero-le
    go (absolute ns) m = omega (arith, ap length m.text)
    go (relative ns) m = zero-le
    go (special e) m = omega (arith, ap length m.text)

pub empty_is : (x : Octets) → 0 ≡ length x → [] ≡ x
empty_is [] h = refl
empty_is (c ∷ x) h = absurd (omega arith)

-- a text as long as its place's is that text
pub place-whole : (r : Bool) (x : Octets) → length (place_text (place_in r x)) ≡ length x → place_text (place_in r x) ≡ x
unfolding place_in place_text
place-whole r x = go (given x) (means x)
  where
    go : (g : Given) → Means x g → length (place_text (meant_by r g)) ≡ length x → place_text (meant_by r g) ≡ x
    go malformed m h = empty_is x h
    go (absolute ns) m h = sym m.text
    go (relative ns) m h = empty_is x h
    go (special e) m h = m.text

-- ── the bytes of a watch ──

depth_bits_lem : (m : Option ℕ) → depth_bits m ≡ 1 bits bit (taken m) ∷ 5 bits 0 ∷ 8 bits entry_or 0 m ∷ []
unfolding depth_bits taken entry_or
depth_bits_lem none = refl
depth_bits_lem (some k) = refl

-- the six bytes of the fields: relative, depth given, depth, owner, path length, token length
abbrev pub six_bytes : ℕ → ℕ → ℕ → ℕ → ℕ → ℕ → Octets
six_bytes r g d o l t = (128 + 64 * r + 32 * g) ∷ d ∷ (o / 256 % 256) ∷ (o % 256) ∷ (l / 2 % 256) ∷ (l % 2 * 128 + t) ∷ []

six : (r g d o l t : ℕ) → r < 2 → g < 2 → d < 256 → o < 65536 → l < 512 → t < 64
    → big_endian watch_fields_size (pack (1 bits 1 ∷ 1 bits r ∷ 1 bits g ∷ 5 bits 0 ∷ 8 bits d ∷ 16 bits o ∷ 9 bits l ∷ 1 bits 0 ∷ 6 bits t ∷ []))
    ≡ six_bytes r g d o l t
unfolding big_endian pack pack_from
six r g d o l t hr hg hd ho hl ht =
    let n = pack (1 bits 1 ∷ 1 bits r ∷ 1 bits g ∷ 5 bits 0 ∷ 8 bits d ∷ 16 bits o ∷ 9 bits l ∷ 1 bits 0 ∷ 6 bits t ∷ []) in
    let a : n / 256 / 256 / 256 / 256 / 256 % 256 ≡ 128 + 64 * r + 32 * g = omega arith in
    let b : n / 256 / 256 / 256 / 256 % 256 ≡ d = omega arith in
    let c : n / 256 / 256 / 256 % 256 ≡ o / 256 % 256 = omega arith in
    let e : n / 256 / 256 % 256 ≡ o % 256 = omega arith in
    let f : n / 256 % 256 ≡ l / 2 % 256 = omega arith in
    let h : n % 256 ≡ l % 2 * 128 + t = omega arith in
    λ i. a i ∷ b i ∷ c i ∷ e i ∷ f i ∷ h i ∷ []

pub record Narrow (w : Watch) : Type 0 where
  pub owner : w.owner < 65536
  pub depth : entry_or 0 w.depth < 256
  pub path : length (place_text w.place) ≤ longest_path
  pub token : length w.token ≤ longest_token

abbrev pub six_of : Watch → Octets
six_of w = six_bytes (bit (is_relative w.place)) (bit (taken w.depth)) (entry_or 0 w.depth) w.owner (length (place_text w.place)) (length w.token)

pub watch-parts : (w : Watch) → Narrow w → watch_bytes (some w) ≡ six_of w ++ (padded longest_path (place_text w.place) ++ padded longest_token w.token)
unfolding watch_bytes watch_bits
watch-parts w f =
    rw depth_bits_lem
    (ap (λ (a : Octets). a ++ (padded longest_path (place_text w.place) ++ padded longest_token w.token))
    (six _ _ _ _ _ _ (bit_small (is_relative w.place)) (bit_small (taken w.depth)) f.depth f.owner
    (omega (arith, f.path)) (omega (arith, f.token))))

pub narrow_width : (w : Watch) → Narrow w → length (watch_bytes (some w)) ≡ watch_size
narrow_width w f =
    let p = length-padded longest_path (place_text w.place) f.path in
    let t = length-padded longest_token w.token f.token in
    ap length (watch-parts w f)
    ∙ length-append (six_of w) (padded longest_path (place_text w.place) ++ padded longest_token w.token)
    ∙ ap (λ (n : ℕ). watch_fields_size + n) (length-append (padded longest_path (place_text w.place)) (padded longest_token w.token) ∙ ap₂ ◌+◌ p t)

-- ── a watch that was read ──

abbrev DepthBelow : Option ℕ → Type 0
DepthBelow m = entry_or 0 m < 256

pub read_narrow : (r : Octets) (head : ℕ) → Narrow (watch_at r head)
unfolding watch_at bits_at entry_or
read_narrow r head =
    let text = text_at r watch_fields_size longest_path (bits_at head 7 9) in
    record {
      owner = mod-lt _ (lit< tt);
      depth = cond_case DepthBelow (eqb (bits_at head 45 1) 1) (some (bits_at head 32 8)) none (mod-lt _ (lit< tt)) (lit< tt);
      path = omega (arith, place_short (eqb (bits_at head 46 1) 1) text, text-short r watch_fields_size longest_path (bits_at head 7 9));
      token = text-short r token_at longest_token (bits_at head 0 6);
    }

pub none-bytes : watch_bytes none ≡ replicate watch_size 0
unfolding watch_bytes
none-bytes = refl

pub none-width : length (watch_bytes none) ≡ watch_size
none-width = ap length none-bytes ∙ length-replicate {A = ℕ} watch_size 0

pub watch-wide : (r : Octets) → length (watch_bytes (watch_in r)) ≡ watch_size
unfolding watch_in
watch-wide r =
    let head = field r 0 watch_fields_size in
    cond_case (λ (m : Option Watch). length (watch_bytes m) ≡ watch_size) (eqb (bits_at head 47 1) 1) (some (watch_at r head)) none
    (narrow_width _ (read_narrow r head)) none-width

pub length-watches_of : (s : Octets) → length (watches_of s) ≡ most_watches
unfolding watches_of
length-watches_of s = length-table watch_bytes watch_in watch_size watch-wide most_watches s

pub marks_back : (b r g : ℕ) → b ≡ 128 + 64 * r + 32 * g → r < 2 → g < 2 → (b / 64 % 2 ≡ r) × (b % 32 ≡ 0) × (b / 32 % 2 ≡ g)
marks_back b r g e hr hg = (omega arith, omega arith, omega arith)

packed_back : (n l t : ℕ) → n ≡ l * 128 + t → t ≤ longest_token → (n / 128 ≡ l) × (n % 64 ≡ t)
packed_back n l t e h = (omega arith, omega arith)

pub lengths_back : (x y l t : ℕ) → x ≡ l / 2 % 256 → y ≡ l % 2 * 128 + t → l ≤ longest_path → t ≤ longest_token
    → ((x * 256 + y) / 128 ≡ l) × ((x * 256 + y) % 64 ≡ t) × (y / 64 % 2 ≡ 0)
lengths_back x y l t hx hy hl ht =
    let half : x ≡ l / 2 = omega arith in
    let n : x * 256 + y ≡ l * 128 + t = omega (arith, div-add-mod' l 2) in
    ((packed_back _ l t n ht).0, (packed_back _ l t n ht).1, omega arith)
