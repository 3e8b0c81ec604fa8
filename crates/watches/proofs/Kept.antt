-- Whether the bytes of a place are those of the watch that they mean, by tests of its parts.
use mathlib.Core.Path.{◌≡◌, refl, sym, ap, ap₂, ◌∙◌}
use mathlib.Core.Bool.{Bool, true, false, cond, not, ◌&&◌, ◌||◌, true≢false, or-false}
use mathlib.Core.List.{[], ◌∷◌, ◌++◌}
use mathlib.Core.Option.{none, some}
use Prim.Native.Nat.{ℕ, ◌+◌, ◌*◌, ◌/◌, ◌%◌, ◌≤◌, ◌<◌}
use native.Mathlib.Omega.{arith}
use lib.ListN.{length, get_or, take, drop}
use lib.Seq.{take-add, drop-drop, length-take-le}
use lib.Dec.{eqb, leb, lit≤}
use borrow.Author.Tests.{le-leb, lt-leb, eqb-true, leb-true}
use Rattle.rules.specs.Size.{most_watches, watch_fields_size, token_at, watch_size, watches_size, longest_path, longest_token}
use Rattle.rules.specs.Octets.{Octets, same, all_zero, padded, field, bits_at, bit, text}
use Rattle.rules.specs.Path.{Names, Given, malformed, absolute, relative, special, given, introduce_name, release_name, names_in, is_full, split}
use Rattle.rules.specs.Payload.{Place, event}
use Rattle.rules.specs.Event.{Watch, place_text}
use Rattle.rules.specs.Layout.{text_at, is_relative, place_in, watch_bytes, watch_in, watch_at, watches_of}
use Rattle.rules.proofs.Compare.{both_true, same_length, same_eq, eq_same, same_refl}
use Rattle.rules.proofs.PathLaws.{full, full-given, full_slash, given_is_full, given-event}
use Rattle.domains.specs.Entry.{taken, entry_or}
use Rattle.octets.specs.Read.{Bytes}
use Rattle.domains.specs.Kept.{kept_at}
use Rattle.watches.specs.Watch.{nobody, path_length, token_length}
use Rattle.watches.specs.Checks.{place_same, depth_same, fields_same}
use Rattle.octets.specs.Numbers.{rest_zero}
use Rattle.octets.proofs.Bytes.{bit_of, pair_forward}
use Rattle.rules.proofs.Reencoding.{same_append}
use Rattle.rules.proofs.Slots.{length-padded}
use Rattle.domains.proofs.Rows.{part_at, text-part, text-field, part_length, same-field, differ, free_kept, used-kept}
use Rattle.watches.proofs.Bytes.{meant_by, place-given, empty_is, none-bytes, watch-wide, six_of, watch-parts, read_narrow}
use Rattle.watches.proofs.Laws.{used_byte, is_read, OwnBytes, six_listed, path-within, path-text, relative_said, fields_said, lengths, marks, owner_is}

-- ── a place ──

pub same_place : (p : Place) (x : Octets) (r : Bool) → place_text p ≡ x → r ≡ is_relative p → (same (place_text p) x && (not r || is_relative p)) ≡ true
same_place p x r e m = rw (eq_same e, ← m) (go r)
  where
    go : (b : Bool) → (not b || b) ≡ true
    go true = refl
    go false = refl

mark_of : (r : Bool) (x : Octets) → (not r || is_relative (place_in r x)) ≡ true → is_relative (place_in r x) ≡ r
unfolding is_relative place_in
mark_of true x e = e
mark_of false x e = go (given x)
  where
    go : (g : Given) → is_relative (meant_by false g) ≡ false
    go malformed = refl
    go (absolute ns) = refl
    go (relative ns) = refl
    go (special n) = refl

-- by the form of the text
module _ (r : Bool) (x : Octets) where
  pub same_full : is_full x ≡ true → place_same r x ≡ true
  unfolding place_same is_relative place_text
  same_full f =
      let e = place-given r x (absolute (names_in x)) (full-given x f) in
      same_place (place_in r x) x r (ap place_text e ∙ sym (full x f).text) (sym (ap is_relative e))

  pub same-special : given x ≡ special x → place_same r x ≡ not r
  unfolding place_same is_relative place_text
  same-special e = rw (place-given r x (special x) e, place_text, same_refl x, or-false)

  -- no place, so no text
  module _ (e : place_in r x ≡ event []) where
    pub same_empty : length x ≡ 0 → place_same r x ≡ not r
    unfolding place_same is_relative place_text same
    same_empty z = let n : [] ≡ x = empty_is x (sym z) in rw (e, ← n, or-false)

    pub same_other : (length x ≡ 0 → ⊥) → place_same r x ≡ false
    unfolding place_same place_text
    same_other z = rw (e, same_length [] x (λ q. z (sym q)))

  pub place-malformed : given x ≡ malformed → place_in r x ≡ event []
  place-malformed e = place-given r x malformed e

  pub place-relative : given x ≡ relative (split x) → place_in r x ≡ event []
  place-relative e = place-given r x (relative (split x)) e

pub given-long : (x : Octets) → (given x ≡ malformed → ⊥) → length x ≡ 0 → ⊥
unfolding given
given-long [] h z = h refl
given-long (c ∷ x) h z = omega arith

relative_not : (ns : Names) → relative ns ≡ malformed → ⊥
relative_not ns e = let z : ◌≡◌ {A = ℕ} 0 1 = cc in omega arith

special_not : (t : Octets) → special t ≡ malformed → ⊥
special_not t e = let z : ◌≡◌ {A = ℕ} 0 1 = cc in omega arith

pub relative-long : (x : Octets) → given x ≡ relative (split x) → length x ≡ 0 → ⊥
relative-long x e = given-long x λ q. relative_not (split x) (sym e ∙ q)

pub special-long : (x : Octets) → given x ≡ special x → length x ≡ 0 → ⊥
special-long x e = given-long x λ q. special_not x (sym e ∙ q)

event_slash : (x : Octets) → (same x introduce_name || same x release_name) ≡ true → get_or x 0 0 ≡ 47 → ⊥
unfolding introduce_name release_name text
event_slash x e h = go (same x introduce_name) refl e
  where
    go : (b : Bool) → same x introduce_name ≡ b → (b || same x release_name) ≡ true → ⊥
    go true i e = let z : ◌≡◌ {A = ℕ} 64 47 = sym (ap (λ (y : Octets). get_or y 0 0) (same_eq x introduce_name i)) ∙ h in omega arith
    go false i e = let z : ◌≡◌ {A = ℕ} 64 47 = sym (ap (λ (y : Octets). get_or y 0 0) (same_eq x release_name e)) ∙ h in omega arith

-- the text of the place that it means, where it is not empty: its first byte tells whether it is a full path or an event's name
module _ (r : Bool) (x : Octets) (ps : place_same r x ≡ true) (some : length x ≡ 0 → ⊥) where
  somewhere : place_in r x ≡ event [] → ⊥
  somewhere e = true≢false (sym ps ∙ same_other r x e some)

  pub slash_full : get_or x 0 0 ≡ 47 → is_full x ≡ true
  slash_full h = go (given x) refl
    where
      go : (g : Given) → given x ≡ g → is_full x ≡ true
      go malformed e = absurd (somewhere (place-malformed r x e))
      go (absolute ns) e = given_is_full x ns e
      go (relative ns) e = absurd (somewhere (place-given r x (relative ns) e))
      go (special t) e = absurd (event_slash x (given-event x t e).named h)

  pub other_special : (get_or x 0 0 ≡ 47 → ⊥) → given x ≡ special x
  other_special h = go (given x) refl
    where
      go : (g : Given) → given x ≡ g → given x ≡ special x
      go malformed e = absurd (somewhere (place-malformed r x e))
      go (absolute ns) e = absurd (h (ap (λ (y : Octets). get_or y 0 0) (full_slash x (given_is_full x ns e))))
      go (relative ns) e = absurd (somewhere (place-given r x (relative ns) e))
      go (special t) e = e ∙ ap special (given-event x t e).text

-- ── numbers in the fields ──

first_forward : (b : ℕ) → 128 ≤ b → b < 256 → b % 32 ≡ 0 → 128 + 64 * bit (eqb (b / 64 % 2) 1) + 32 * bit (eqb (b / 32 % 2) 1) ≡ b
first_forward b l h z = rw (bit_of (b / 64 % 2) (omega arith), bit_of (b / 32 % 2) (omega arith)) (omega arith)

twice_forward : (x q : ℕ) → x < 256 → q < 2 → ((x * 2 + q) / 2 % 256 ≡ x) × ((x * 2 + q) % 2 ≡ q)
twice_forward x q hx hq =
    let a : (x * 2 + q) / 2 ≡ x = omega arith in
    (ap (λ (n : ℕ). n % 256) a ∙ (omega arith), omega arith)

gap_forward : (y : ℕ) → y < 256 → y / 64 % 2 ≡ 0 → y / 128 * 128 + y % 64 ≡ y
gap_forward y h z = omega arith

lengths_forward : (x y : ℕ) → x < 256 → y < 256 → y / 64 % 2 ≡ 0
    → let n = x * 256 + y in (n / 128 / 2 % 256 ≡ x) × (n / 128 % 2 * 128 + n % 64 ≡ y)
lengths_forward x y hx hy z =
    let n = x * 256 + y in
    let a : n / 128 ≡ x * 2 + y / 128 = omega arith in
    let b : n % 64 ≡ y % 64 = omega arith in
    let q : y / 128 < 2 = omega arith in
    let d = twice_forward x (y / 128) hx q in
    (ap (λ (m : ℕ). m / 2 % 256) a ∙ d.0, ap₂ (λ (m r : ℕ). m % 2 * 128 + r) a b ∙ ap (λ (m : ℕ). m * 128 + y % 64) d.1 ∙ gap_forward y hy z)

pub fields_few : (s : Octets) (k : ℕ) → fields_same s k ≡ true → token_length s k ≤ longest_token
unfolding fields_same
fields_few s k fs =
    let a = both_true (eqb (get_or s (k * watch_size) 0 % 32) 0) _ fs in
    let b = both_true (eqb (get_or s (k * watch_size + 5) 0 / 64 % 2) 0) _ a.1 in
    leb-true _ _ (both_true (leb (token_length s k) longest_token) (depth_same s k) b.1).0

module _ (s : Octets) (k : ℕ) (h : k < most_watches) (bytes : Bytes s) (whole : length s ≡ watches_size) where
  -- where place k begins
  abbrev at : ℕ
  at = k * watch_size

  abbrev row : Octets
  row = take watch_size (drop at s)

  abbrev head : ℕ
  head = field s at watch_fields_size

  abbrev v : Watch
  v = watch_at row head

  abbrev kept : Bool
  kept = kept_at most_watches watch_size watch_bytes watch_in s k

  -- a free place is all zero
  pub free_same : get_or s at 0 < 128 → all_zero (part_at s at watch_size) ≡ kept
  unfolding watches_of
  free_same u = free_kept watch_bytes watch_in watch_size watch-wide most_watches s k h whole none-bytes (sym (used_byte s k h bytes whole) ∙ lt-leb 128 _ u)

  module _ (u : 128 ≤ get_or s at 0) where
    kept_is : kept ≡ same (watch_bytes (some v)) row
    unfolding watches_of
    kept_is =
        let t = sym (used_byte s k h bytes whole) ∙ le-leb 128 _ u in
        used-kept watch_bytes watch_in watch_size watch-wide most_watches s k h nobody t ∙ ap (λ (w : Watch). same (watch_bytes (some w)) row) (is_read s k h t)

    -- a place whose bytes are another watch's
    not_kept : (OwnBytes s k h → ⊥) → kept ≡ false
    not_kept f = kept_is ∙ differ (watch_bytes (some v)) row λ e. f (sym e)

    pub kept-long : longest_path < path_length s k → kept ≡ false
    kept-long l = not_kept λ own. omega (arith, path-within s k h bytes whole own)

    pub kept_unplaced : place_same (eqb (get_or s at 0 / 64 % 2) 1) (part_at s (at + watch_fields_size) (path_length s k)) ≡ false → kept ≡ false
    unfolding place_same watch_at path_length
    kept_unplaced f =
        not_kept λ own.
        let l = path-within s k h bytes whole own in
        let x : part_at s (at + watch_fields_size) (path_length s k) ≡ text_at row watch_fields_size longest_path (path_length s k) =
        text-part s at watch_size watch_fields_size longest_path (path_length s k) l (lit≤ tt) in
        let e = path-text s k h bytes whole own in
        let m = relative_said s k h bytes whole own in
        let r = (marks s k h bytes whole).0 in
        true≢false (sym (rw (x, r) (same_place v.place (text_at row watch_fields_size longest_path (bits_at head 7 9)) (eqb (bits_at head 46 1) 1) e m)) ∙ f)

    pub kept_fields : fields_same s k ≡ false → kept ≡ false
    kept_fields f = not_kept λ own. true≢false (sym (fields_said s k h bytes whole own) ∙ f)

    -- the parts of a place
    abbrev path_part : Octets
    path_part = take longest_path (drop (at + watch_fields_size) s)

    abbrev token_part : Octets
    token_part = take longest_token (drop (at + token_at) s)

    row_parts : row ≡ take watch_fields_size (drop at s) ++ (path_part ++ token_part)
    row_parts =
        let e : at + watch_fields_size + longest_path ≡ at + token_at = omega arith in
        take-add watch_fields_size (longest_path + longest_token) (drop at s)
        ∙ ap (λ (r : Octets). take watch_fields_size (drop at s) ++ r)
        (ap (take (longest_path + longest_token)) (drop-drop watch_fields_size at s)
        ∙ take-add longest_path longest_token (drop (at + watch_fields_size) s)
        ∙ ap (λ (r : Octets). path_part ++ take longest_token r) (drop-drop longest_path (at + watch_fields_size) s ∙ ap (λ (n : ℕ). drop n s) e))

    module _ (l : path_length s k ≤ longest_path)
        (ps : place_same (eqb (get_or s at 0 / 64 % 2) 1) (part_at s (at + watch_fields_size) (path_length s k)) ≡ true)
        (fs : fields_same s k ≡ true) where
      placed : (place_text v.place ≡ text_at row watch_fields_size longest_path (path_length s k)) × (is_relative v.place ≡ eqb (get_or s at 0 / 64 % 2) 1)
      unfolding place_same watch_at path_length
      placed =
          let r = eqb (bits_at head 46 1) 1 in
          let x = text_at row watch_fields_size longest_path (bits_at head 7 9) in
          let m = (marks s k h bytes whole).0 in
          let both =
          both_true (same (place_text (place_in r x)) x) (not r || is_relative (place_in r x))
          (rw (text-part s at watch_size watch_fields_size longest_path (bits_at head 7 9) l (lit≤ tt), m) at ps) in
          (same_eq (place_text (place_in r x)) x both.0, mark_of r x both.1 ∙ ap (λ (n : ℕ). eqb n 1) (sym m))

      record Tests : Type 0 where
        low : get_or s at 0 % 32 ≡ 0
        middle : get_or s (at + 5) 0 / 64 % 2 ≡ 0
        few : token_length s k ≤ longest_token
        depth : depth_same s k ≡ true

      tests : Tests
      unfolding fields_same
      tests =
          let a = both_true (eqb (get_or s at 0 % 32) 0) _ fs in
          let b = both_true (eqb (get_or s (at + 5) 0 / 64 % 2) 0) _ a.1 in
          let c = both_true (leb (token_length s k) longest_token) (depth_same s k) b.1 in
          record { low = eqb-true _ _ a.0; middle = eqb-true _ _ b.0; few = leb-true _ _ c.0; depth = c.1 }

      path_is : place_text v.place ≡ take (path_length s k) path_part
      path_is = placed.0 ∙ text-field s at watch_size watch_fields_size longest_path (path_length s k) l (lit≤ tt)

      token_is : v.token ≡ take (token_length s k) token_part
      unfolding watch_at token_length
      token_is = text-field s at watch_size token_at longest_token (token_length s k) tests.few (lit≤ tt)

      path-long : length (place_text v.place) ≡ path_length s k
      path-long = ap length path_is ∙ length-take-le (path_length s k) path_part (rw (part_length s (at + watch_fields_size) longest_path (omega arith)) l)

      token-long : length v.token ≡ token_length s k
      token-long = ap length token_is ∙ length-take-le (token_length s k) token_part (rw (part_length s (at + token_at) longest_token (omega arith)) tests.few)

      depth_byte : (taken v.depth ≡ eqb (get_or s at 0 / 32 % 2) 1) × (entry_or 0 v.depth ≡ get_or s (at + 1) 0)
      unfolding watch_at depth_same taken entry_or
      depth_byte =
          let m = marks s k h bytes whole in
          rw (← m.1, ← m.2) (go (eqb (get_or s at 0 / 32 % 2) 1) tests.depth)
        where
          go : (b : Bool) → (b || eqb (get_or s (at + 1) 0) 0) ≡ true
              → (taken (cond b (some (get_or s (at + 1) 0)) none) ≡ b) × (entry_or 0 (cond b (some (get_or s (at + 1) 0)) none) ≡ get_or s (at + 1) 0)
          go true e = (refl, refl)
          go false e = (refl, sym (eqb-true (get_or s (at + 1) 0) 0 e))

      six_is : six_of v ≡ take watch_fields_size (drop at s)
      unfolding watch_at
      six_is =
          let x = get_or s (at + 4) 0 in
          let y = get_or s (at + 5) 0 in
          let o = pair_forward (get_or s (at + 2) 0) (get_or s (at + 3) 0) (bytes (at + 2)) (bytes (at + 3)) in
          let n = lengths_forward x y (bytes (at + 4)) (bytes (at + 5)) tests.middle in
          let ls = lengths s k h bytes whole in
          let f = first_forward (get_or s at 0) u (bytes at) tests.low in
          rw (placed.1, depth_byte.0, depth_byte.1, path-long, token-long, f, ← owner_is s k h bytes whole, o.0, o.1, ← ls.0, ← ls.1, n.0, n.1)
          (sym (six_listed s at (omega arith)))

      pub kept_rests : kept
          ≡ (rest_zero s (at + watch_fields_size) (path_length s k) longest_path && rest_zero s (at + token_at) (token_length s k) longest_token)
      kept_rests =
          let n = read_narrow row head in
          let pl = part_length s (at + watch_fields_size) longest_path (omega arith) in
          kept_is
          ∙ ap₂ same (watch-parts v n) row_parts
          ∙ same_append (six_of v) _ (take watch_fields_size (drop at s)) (path_part ++ token_part) (ap length six_is)
          ∙ ap₂ ◌&&◌ (eq_same six_is)
          (same_append (padded longest_path (place_text v.place)) (padded longest_token v.token) path_part token_part
          (length-padded longest_path _ n.path ∙ sym pl))
          ∙ ap₂ ◌&&◌ (ap (λ (z : Octets). same (padded longest_path z) path_part) path_is
          ∙ same-field s (at + watch_fields_size) longest_path (path_length s k) (omega arith) l)
          (ap (λ (z : Octets). same (padded longest_token z) token_part) token_is
          ∙ same-field s (at + token_at) longest_token (token_length s k) (omega arith) tests.few)
