-- Watches as bytes: what the bytes of a place say of its watch.
use mathlib.Core.Path.{◌≡◌, refl, sym, ap, ap₂, ◌∙◌}
use mathlib.Core.Bool.{true, false, cond, ◌&&◌, ◌||◌}
use mathlib.Core.List.{[], ◌∷◌, ◌++◌}
use mathlib.Core.Option.{Option, none, some}
use Prim.Native.Nat.{ℕ, ◌+◌, ◌*◌, ◌/◌, ◌%◌, ◌≤◌, ◌<◌}
use native.Mathlib.Nat.{add-zero}
use native.Mathlib.Omega.{arith}
use lib.ListN.{length, get_or, take, drop}
use lib.Dec.{eqb, leb, lit≤}
use borrow.Author.Tests.{le-leb}
use Rattle.rules.specs.Size.{most_watches, watch_fields_size, token_at, watch_size, watches_size, longest_path, longest_token}
use Rattle.rules.specs.Octets.{Octets, same, field, bits_at, bit, padded}
use Rattle.rules.specs.Path.{Connection}
use Rattle.rules.specs.Event.{Watch, place_text}
use Rattle.rules.specs.Layout.{text_at, is_relative, watch_bytes, watch_in, watch_at, place_in, watches_of}
use Rattle.rules.specs.Sound.{twin}
use Rattle.rules.proofs.Fields.{field-part, field_two, field_three, field-split, bit_small, bit_back}
use Rattle.rules.proofs.EntryLayouts.{watch_at_lem}
use Rattle.rules.proofs.Slots.{text-few}
use Rattle.domains.specs.Entry.{taken, passes, entry_or}
use Rattle.octets.specs.Read.{Bytes}
use Rattle.octets.specs.Read.{Read}
use Rattle.watches.specs.Watch.{KeptWatches, nobody, owned_by, watch_of, path_length, token_length}
use Rattle.watches.specs.Checks.{depth_same, fields_same}
use Rattle.domains.proofs.Tests.{taken-cond, entry_is}
use Rattle.octets.proofs.PlaceLaws.{first_bit}
use Rattle.domains.proofs.Rows.{listed_from, first-listed, part_at, text-part, entry-bytes}
use Rattle.watches.proofs.Bytes.{place_short, place-whole, marks_back, lengths_back, six_of, watch-parts, read_narrow, watch-wide}

-- ── place k of a table ──

pub six_listed : (s : Octets) (p : ℕ) → p + watch_fields_size ≤ length s
    → take watch_fields_size (drop p s)
    ≡ get_or s p 0 ∷ get_or s (p + 1) 0 ∷ get_or s (p + 2) 0 ∷ get_or s (p + 3) 0 ∷ get_or s (p + 4) 0 ∷ get_or s (p + 5) 0 ∷ []
six_listed s p h = listed_from s p watch_fields_size (omega arith)

module _ (s : Octets) (k : ℕ) (h : k < most_watches) where
  -- where place k begins
  abbrev at : ℕ
  at = k * watch_size

  abbrev row : Octets
  row = take watch_size (drop at s)

  abbrev head : ℕ
  head = field s at watch_fields_size

  place_is : get_or (watches_of s) k none ≡ cond (eqb (bits_at head 47 1) 1) (some (watch_at row head)) none
  unfolding watch_in
  place_is = watch_at_lem s k h ∙ rw (field-part s at watch_size 0 watch_fields_size (omega arith), add-zero)

  pub is_read : taken (get_or (watches_of s) k none) ≡ true → watch_of s k ≡ watch_at row head
  is_read u = entry_is (eqb (bits_at head 47 1) 1) (watch_at row head) nobody place_is u

  module _ (bytes : Bytes s) (whole : length s ≡ watches_size) where
    record HeadBytes : Type 0 where
      first : get_or s at 0 < 256
      second : get_or s (at + 1) 0 < 256
      third : get_or s (at + 2) 0 < 256
      fourth : get_or s (at + 3) 0 < 256
      fifth : get_or s (at + 4) 0 < 256
      sixth : get_or s (at + 5) 0 < 256
      sum : head ≡ ((get_or s at 0 * 256 + get_or s (at + 1) 0) * 256 + get_or s (at + 2) 0) * 16777216
          + ((get_or s (at + 3) 0 * 256 + get_or s (at + 4) 0) * 256 + get_or s (at + 5) 0)

    head_bytes : HeadBytes
    head_bytes =
        let four : at + 3 + 1 ≡ at + 4 = omega arith in
        let five : at + 3 + 2 ≡ at + 5 = omega arith in
        let low = field_three s (at + 3) (omega arith) in
        record {
          first = bytes at;
          second = bytes (at + 1);
          third = bytes (at + 2);
          fourth = bytes (at + 3);
          fifth = bytes (at + 4);
          sixth = bytes (at + 5);
          sum = field-split s at 3 3 (omega arith) ∙ ap₂ (λ (a b : ℕ). a * 16777216 + b) (field_three s at (omega arith)) (rw (four, five) at low);
        }

    pub used_byte : leb 128 (get_or s at 0) ≡ taken (get_or (watches_of s) k none)
    used_byte = rw (place_is, taken-cond) (first_bit s bytes at 5 47 refl (omega arith))

    pub owner_is : get_or s (at + 2) 0 * 256 + get_or s (at + 3) 0 ≡ bits_at head 16 16
    unfolding bits_at
    owner_is = omega (arith, head_bytes)

    owner-bits : (r : ℕ) → Read s (at + 2) 2 r → r ≡ bits_at head 16 16
    unfolding bits_at
    owner-bits r w =
        let e : at + 2 + 1 ≡ at + 3 = omega arith in
        let v = rw e at (w.value ∙ field_two s (at + 2) (omega arith)) in
        omega (arith, head_bytes)

    pub lengths : ((get_or s (at + 4) 0 * 256 + get_or s (at + 5) 0) / 128 ≡ path_length s k)
        × ((get_or s (at + 4) 0 * 256 + get_or s (at + 5) 0) % 64 ≡ token_length s k)
    unfolding bits_at path_length token_length
    lengths = let f = head_bytes in (omega arith, omega arith)

    pub lengths-read : (r : ℕ) → Read s (at + 4) 2 r → (r / 128 ≡ path_length s k) × (r % 64 ≡ token_length s k)
    lengths-read r w =
        let e : at + 4 + 1 ≡ at + 5 = omega arith in
        let v = rw e at (w.value ∙ field_two s (at + 4) (omega arith)) in
        rw v lengths

    -- the marks and the depth
    pub marks : (get_or s at 0 / 64 % 2 ≡ bits_at head 46 1) × (get_or s at 0 / 32 % 2 ≡ bits_at head 45 1) × (get_or s (at + 1) 0 ≡ bits_at head 32 8)
    unfolding bits_at
    marks = let f = head_bytes in (omega arith, omega arith, omega arith)

    pub owner-read : taken (get_or (watches_of s) k none) ≡ true → (r : ℕ) → Read s (at + 2) 2 r → r ≡ (watch_of s k).owner
    unfolding watch_at
    owner-read u r w = owner-bits r w ∙ sym (ap Watch.owner (is_read u))

    pub depth-read : taken (get_or (watches_of s) k none) ≡ true → (watch_of s k).depth
        ≡ cond (eqb (get_or s at 0 / 32 % 2) 1) (some (get_or s (at + 1) 0)) none
    unfolding watch_at
    depth-read u = ap Watch.depth (is_read u) ∙ rw (marks.1, marks.2)

  -- ── a taken place whose bytes are those of its watch ──

  abbrev pub OwnBytes : Type 0
  OwnBytes = row ≡ watch_bytes (some (watch_at row head))

  pub own-bytes : KeptWatches s → taken (get_or (watches_of s) k none) ≡ true → OwnBytes
  unfolding watches_of
  own-bytes c u =
      entry-bytes watch_bytes watch_in watch_size watch-wide most_watches s c k h nobody u ∙ ap (λ (w : Watch). watch_bytes (some w)) (is_read u)

  module _ (bytes : Bytes s) (whole : length s ≡ watches_size) (own : OwnBytes) where
    abbrev v : Watch
    v = watch_at row head

    first_six : get_or s at 0 ∷ get_or s (at + 1) 0 ∷ get_or s (at + 2) 0 ∷ get_or s (at + 3) 0 ∷ get_or s (at + 4) 0 ∷ get_or s (at + 5) 0 ∷ [] ≡ six_of v
    first_six =
        let texts = padded longest_path (place_text v.place) ++ padded longest_token v.token in
        first-listed s at watch_size watch_fields_size (six_of v) texts (lit≤ tt) (omega arith) refl
        (own ∙ watch-parts v (read_narrow row head))

    record Said : Type 0 where
      path : path_length s k ≡ length (place_text v.place)
      token : token_length s k ≡ length v.token
      relative : bits_at head 46 1 ≡ bit (is_relative v.place)
      zeros : (get_or s at 0 % 32 ≡ 0) × (get_or s (at + 5) 0 / 64 % 2 ≡ 0)
      depth : get_or s (at + 1) 0 ≡ entry_or 0 v.depth
      given : get_or s at 0 / 32 % 2 ≡ bit (taken v.depth)

    said : Said
    said =
        let e = first_six in
        let b0 : get_or s at 0 ≡ 128 + 64 * bit (is_relative v.place) + 32 * bit (taken v.depth) = cc in
        let b1 : get_or s (at + 1) 0 ≡ entry_or 0 v.depth = cc in
        let b4 : get_or s (at + 4) 0 ≡ length (place_text v.place) / 2 % 256 = cc in
        let b5 : get_or s (at + 5) 0 ≡ length (place_text v.place) % 2 * 128 + length v.token = cc in
        let n = read_narrow row head in
        let m = marks_back _ _ _ b0 (bit_small (is_relative v.place)) (bit_small (taken v.depth)) in
        let l = lengths_back _ _ _ _ b4 b5 n.path n.token in
        let f = lengths bytes whole in
        record {
          path = sym f.0 ∙ l.0;
          token = sym f.1 ∙ l.1;
          relative = sym (marks bytes whole).0 ∙ m.0;
          zeros = (m.1, l.2);
          depth = b1;
          given = m.2;
        }

    pub fields_said : fields_same s k ≡ true
    unfolding fields_same depth_same taken entry_or
    fields_said =
        rw (said.zeros.0, said.zeros.1, le-leb (token_length s k) longest_token (rw said.token (read_narrow row head).token))
        (go v.depth said.given said.depth)
      where
        go : (m : Option ℕ) → get_or s at 0 / 32 % 2 ≡ bit (taken m) → get_or s (at + 1) 0 ≡ entry_or 0 m
            → (eqb (get_or s at 0 / 32 % 2) 1 || eqb (get_or s (at + 1) 0) 0) ≡ true
        go none p q = rw (p, q)
        go (some d) p q = rw p

    pub path-within : path_length s k ≤ longest_path
    path-within = rw said.path (read_narrow row head).path

    pub token-within : token_length s k ≤ longest_token
    token-within = rw said.token (read_narrow row head).token

    pub path-text : place_text v.place ≡ text_at row watch_fields_size longest_path (path_length s k)
    unfolding watch_at path_length
    path-text =
        let x = text_at row watch_fields_size longest_path (bits_at head 7 9) in
        let r = eqb (bits_at head 46 1) 1 in
        let q : bits_at head 7 9 ≡ length (place_text (place_in r x)) = said.path in
        place-whole r x (omega (arith, place_short r x, text-few row watch_fields_size longest_path (bits_at head 7 9)))

    pub relative_said : eqb (bits_at head 46 1) 1 ≡ is_relative v.place
    relative_said = rw said.relative (bit_back (is_relative v.place))

  module _ (bytes : Bytes s) (c : KeptWatches s) (u : taken (get_or (watches_of s) k none) ≡ true) where
    own : OwnBytes
    own = own-bytes c u

    pub path-length-within : path_length s k ≤ longest_path
    path-length-within = path-within bytes c.whole own

    pub token-length-within : token_length s k ≤ longest_token
    token-length-within = token-within bytes c.whole own

    pub relative-read : eqb (get_or s at 0 / 64 % 2) 1 ≡ is_relative (watch_of s k).place
    relative-read = rw (is_read u, (marks bytes c.whole).0) (relative_said bytes c.whole own)

    -- the place that its own text and mark mean
    pub place_again : place_in (is_relative (watch_of s k).place) (place_text (watch_of s k).place) ≡ (watch_of s k).place
    unfolding watch_at path_length
    place_again = rw (is_read u, ← relative_said bytes c.whole own, path-text bytes c.whole own)

    pub path-part : part_at s (at + watch_fields_size) (path_length s k) ≡ place_text (watch_of s k).place
    path-part =
        text-part s at watch_size watch_fields_size longest_path (path_length s k) path-length-within (lit≤ tt)
        ∙ sym (rw (is_read u) (path-text bytes c.whole own))

    pub token-part : part_at s (at + token_at) (token_length s k) ≡ (watch_of s k).token
    unfolding watch_at token_length
    token-part = text-part s at watch_size token_at longest_token (token_length s k) token-length-within (lit≤ tt) ∙ sym (ap Watch.token (is_read u))

-- ── finding ──

module _ (c : Connection) (x : Option Watch) where
  pub owned_taken : passes (owned_by c) x ≡ true → taken x ≡ true
  unfolding passes taken
  owned_taken = go x
    where
      go : (x : Option Watch) → passes (owned_by c) x ≡ true → taken x ≡ true
      go none e = e
      go (some w) e = refl

module _ (c : Connection) (p t : Octets) (x : Option Watch) where
  pub twin_other : passes (owned_by c) x ≡ false → passes (twin c p t) x ≡ false
  unfolding passes owned_by twin
  twin_other = go x
    where
      go : (x : Option Watch) → passes (owned_by c) x ≡ false → passes (twin c p t) x ≡ false
      go none e = refl
      go (some w) e = rw e

  module _ (o : passes (owned_by c) x ≡ true) where
    twin_is : passes (twin c p t) x ≡ (same p (place_text (entry_or nobody x).place) && same t (entry_or nobody x).token)
    unfolding passes owned_by twin entry_or
    twin_is = go x o
      where
        go : (x : Option Watch) → passes (owned_by c) x ≡ true
            → passes (twin c p t) x ≡ (same p (place_text (entry_or nobody x).place) && same t (entry_or nobody x).token)
        go none e = let z : ◌≡◌ {A = ℕ} 0 1 = cc in absurd (omega arith)
        go (some w) e = rw e

    pub twin-path : same p (place_text (entry_or nobody x).place) ≡ false → passes (twin c p t) x ≡ false
    twin-path e = twin_is ∙ rw e

    pub twin-token : same p (place_text (entry_or nobody x).place) ≡ true → passes (twin c p t) x ≡ same t (entry_or nobody x).token
    twin-token e = twin_is ∙ rw e
