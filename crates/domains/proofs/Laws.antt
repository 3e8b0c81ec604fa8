-- Domains as bytes: what the bytes of a place say, and what a written place leaves.
use mathlib.Core.Path.{◌≡◌, refl, sym, ap, ◌∙◌}
use mathlib.Core.Bool.{Bool, true, false, cond, not, ◌&&◌, and_assoc}
use mathlib.Core.List.{List, [], ◌∷◌}
use mathlib.Core.Option.{Option, none, some}
use Prim.Native.Nat.{ℕ, suc, ◌+◌, ◌*◌, ◌/◌, ◌%◌, ◌≤◌, ◌<◌}
use native.Mathlib.Nat.{add-zero}
use native.Mathlib.Omega.{arith}
use lib.ListN.{length, get_or, take, drop, set, replicate, length-replicate}
use lib.Dec.{eqb, leb}
use borrow.Author.Tests.{le-leb, lt-leb}
use Rattle.rules.specs.Size.{most_domains, domain_size, domains_size, last_domain}
use Rattle.rules.specs.Octets.{Octets, all_zero, paste, field, bits_at, big_endian, pack, pack_from, ◌bits◌}
use Rattle.rules.specs.Path.{Domain}
use Rattle.rules.specs.Entries.{without}
use Rattle.rules.specs.Layout.{Domains, domain_in, domain_bytes, domains_bytes, domains_of}
use Rattle.rules.specs.Sound.{introduced, good_domains, sound_domains}
use Rattle.rules.proofs.Paste.{paste_sets}
use Rattle.rules.proofs.Fields.{length_big, field-part, field_two, field_three}
use Rattle.rules.proofs.EntryLayouts.{domain-read as domain_back, domain_at}
use Rattle.domains.specs.Entry.{taken, passes, entry_or}
use Rattle.octets.specs.Read.{Bytes}
use Rattle.octets.specs.Read.{Read}
use Rattle.domains.specs.Kept.{kept_at, KeptDomains}
use Rattle.domains.specs.Checks.{good_domain}
use Rattle.domains.specs.Freed.{freed_from, Freed}
use Rattle.domains.proofs.Tests.{taken-cond, entry_is}
use Rattle.octets.proofs.PlaceLaws.{first_bit}
use Rattle.domains.proofs.Turns.{ListCheck}
use Rattle.domains.proofs.Search.{free_none, taken-some}
use Rattle.domains.proofs.Rows.{same_first, listed_from, part_at, length-table, free_kept, used-kept}
use Rattle.domains.proofs.FreeLaws.{kept_freed, freed_where}
use Rattle.domains.proofs.Rows.{Writable, wrote, checked-kept}

pub domain-wide : (m : Option Domain) → length (domain_bytes m) ≡ domain_size
unfolding domain_bytes
domain-wide none = length-replicate {A = ℕ} domain_size 0
domain-wide (some d) = length_big domain_size _

pub length-domains_of : (s : Octets) → length (domains_of s) ≡ most_domains
unfolding domains_of
length-domains_of s = length-table domain_bytes domain_in domain_size (λ r. domain-wide (domain_in r)) most_domains s

-- where place k begins
abbrev at : ℕ → ℕ
at k = k * domain_size

module _ (s : Octets) (bytes : Bytes s) (whole : length s ≡ domains_size) (k : ℕ) (h : k < most_domains) where
  head : ℕ
  head = field s (at k) domain_size

  place_is : get_or (domains_of s) k none ≡ cond (eqb (bits_at head 23 1) 1) (some (bits_at head 0 16)) none
  unfolding domain_in head
  place_is = domain_at s k h ∙ rw (field-part s (at k) domain_size 0 domain_size (omega arith), add-zero)

  head_bytes : head ≡ (get_or s (at k) 0 * 256 + get_or s (at k + 1) 0) * 256 + get_or s (at k + 2) 0
  unfolding head
  head_bytes = field_three s (at k) (omega arith)

  pub used_byte : leb 128 (get_or s (at k) 0) ≡ taken (get_or (domains_of s) k none)
  unfolding head
  used_byte = rw (place_is, taken-cond) (first_bit s bytes (at k) 2 23 refl (omega arith))

  pub domain-bytes : taken (get_or (domains_of s) k none) ≡ true → get_or s (at k + 1) 0 * 256 + get_or s (at k + 2) 0
      ≡ entry_or 0 (get_or (domains_of s) k none)
  unfolding bits_at
  domain-bytes u =
      let b = bytes (at k + 1) in
      let d = bytes (at k + 2) in
      omega (arith, head_bytes, entry_is (eqb (bits_at head 23 1) 1) (bits_at head 0 16) 0 place_is u)

  pub domain-read : (r : ℕ) → Read s (at k + 1) 2 r → taken (get_or (domains_of s) k none) ≡ true → r ≡ entry_or 0 (get_or (domains_of s) k none)
  domain-read r w u =
      let e : at k + 1 + 1 ≡ at k + 2 = omega arith in
      w.value ∙ field_two s (at k + 1) (omega arith) ∙ rw e (domain-bytes u)

-- ── whether the bytes are those of what they mean ──

pub wide : (r : Octets) → length (domain_bytes (domain_in r)) ≡ domain_size
wide r = domain-wide (domain_in r)

none-bytes : domain_bytes none ≡ replicate domain_size 0
unfolding domain_bytes
none-bytes = refl

empty : Writable domain_bytes domain_in domain_size wide none
empty = record { width = domain-wide none; back = domain_back none tt }

-- the bytes of a domain
pub three_bytes_lem : (d : ℕ) → d < 65536 → domain_bytes (some d) ≡ 128 ∷ (d / 256 % 256) ∷ (d % 256) ∷ []
unfolding domain_bytes big_endian pack pack_from
three_bytes_lem d h =
    let n = pack (1 bits 1 ∷ 7 bits 0 ∷ 16 bits d ∷ []) in
    let a : n / 256 / 256 % 256 ≡ 128 = omega arith in
    let b : n / 256 % 256 ≡ d / 256 % 256 = omega arith in
    let e : n % 256 ≡ d % 256 = omega arith in
    rw (a, b, e)

module _ (s : Octets) (bytes : Bytes s) (whole : length s ≡ domains_size) (k : ℕ) (h : k < most_domains) where
  row : take domain_size (drop (at k) s) ≡ get_or s (at k) 0 ∷ get_or s (at k + 1) 0 ∷ get_or s (at k + 2) 0 ∷ []
  row = listed_from s (at k) domain_size (omega arith)

  -- a used place has nothing but its id
  pub used-same : 128 ≤ get_or s (at k) 0 → eqb (get_or s (at k) 0) 128 ≡ kept_at most_domains domain_size domain_bytes domain_in s k
  unfolding domains_of
  used-same u =
      let x = get_or s (at k + 1) 0 in
      let y = get_or s (at k + 2) 0 in
      let p = bytes (at k + 1) in
      let q = bytes (at k + 2) in
      let t = sym (used_byte s bytes whole k h) ∙ le-leb 128 _ u in
      let b : (x * 256 + y) / 256 % 256 ≡ x = omega arith in
      let d : (x * 256 + y) % 256 ≡ y = omega arith in
      let kept = used-kept domain_bytes domain_in domain_size wide most_domains s k h 0 t in
      sym (kept ∙ rw (← domain-bytes s bytes whole k h t, three_bytes_lem (x * 256 + y) (omega arith), row, b, d)
      (same_first 128 (get_or s (at k) 0) (x ∷ y ∷ [])))

  -- a free place is all zero
  pub free_same : get_or s (at k) 0 < 128 → all_zero (part_at s (at k) domain_size) ≡ kept_at most_domains domain_size domain_bytes domain_in s k
  unfolding domains_of
  free_same u =
      free_kept domain_bytes domain_in domain_size wide most_domains s k h whole none-bytes (sym (used_byte s bytes whole k h) ∙ lt-leb 128 _ u)

-- ── what is asked of each ──

pub good_cons : (x : Option Domain) (ds : Domains) → good_domains (x ∷ ds) ≡ (good_domain x ds && good_domains ds)
unfolding good_domains good_domain
good_cons none ds = refl
good_cons (some d) ds = rw (and_assoc, and_assoc)

pub good_none : good_domains [] ≡ true
unfolding good_domains
good_none = refl

abbrev pub good_check : ListCheck (Option Domain)
good_check = record { stand = none; all = good_domains; one = good_domain; empty = good_none; next = good_cons }

module _ (x : Option Domain) (ds : Domains) where
  pub good_free : taken x ≡ false → good_domain x ds ≡ true
  unfolding good_domain
  good_free f = rw (free_none x f)

  module _ (t : taken x ≡ true) where
    good_is : good_domain x ds ≡ good_domain (some (entry_or 0 x)) ds
    good_is = ap (λ (y : Option Domain). good_domain y ds) (taken-some 0 x t)

    pub good-zero : entry_or 0 x < 1 → good_domain x ds ≡ false
    unfolding good_domain
    good-zero h = good_is ∙ rw (lt-leb 1 (entry_or 0 x) h)

    pub good_large : 1 ≤ entry_or 0 x → last_domain < entry_or 0 x → good_domain x ds ≡ false
    unfolding good_domain
    good_large l h = good_is ∙ rw (le-leb 1 (entry_or 0 x) l, lt-leb (entry_or 0 x) last_domain h)

    pub good_ranged : 1 ≤ entry_or 0 x → entry_or 0 x ≤ last_domain → good_domain x ds ≡ not (introduced (entry_or 0 x) ds)
    unfolding good_domain
    good_ranged l h = good_is ∙ rw (le-leb 1 (entry_or 0 x) l, le-leb (entry_or 0 x) last_domain h)

-- ── what a written place leaves ──

module _ (s : Octets) (c : KeptDomains s) (k : ℕ) (h : k < most_domains) where
  pub put_domain : (d : ℕ) → d < 65536
      → set (set (set s (at k) 128) (at k + 1) (d / 256 % 256)) (at k + 2) (d % 256) ≡ domains_bytes (set (domains_of s) k (some d))
  unfolding domains_of domains_bytes
  put_domain d l =
      let whole = c.whole in
      let one : at k + 1 ≡ suc (at k) = omega arith in
      let two : at k + 2 ≡ suc (suc (at k)) = omega arith in
      rw (one, two)
      (paste_sets (at k) (128 ∷ (d / 256 % 256) ∷ (d % 256) ∷ []) s (omega arith)
      ∙ ap (λ (r : Octets). paste (at k) r s) (sym (three_bytes_lem d l))
      ∙ sym (wrote domain_bytes domain_in domain_size wide most_domains s c k (some d) h (domain-wide (some d))))

module _ (s : Octets) (c : KeptDomains s) where
  -- places freed, whatever was asked of them
  pub freed-kept : (answers : List Bool) → length answers ≤ most_domains → KeptDomains (freed_from domain_size 0 answers s)
  freed-kept answers h = kept_freed domain_bytes domain_in domain_size wide most_domains empty none-bytes 0 answers s (omega arith) c

  pub freed-domains : (test : Domain → Bool) (says : Octets → ℕ → Bool → Type 0)
      → ((t : Octets) (i : ℕ) (b : Bool) → KeptDomains t → i < most_domains → says t i b → b ≡ passes test (get_or (domains_of t) i none))
      → (t : Octets) → Freed domain_size says most_domains s t → t ≡ domains_bytes (without test (domains_of s))
  unfolding domains_of domains_bytes
  freed-domains test says told t = freed_where domain_bytes domain_in domain_size wide most_domains empty none-bytes test says told s t c

pub sound-kept : (s : Octets) → sound_domains s ≡ true → KeptDomains s
unfolding sound_domains domains_of domains_bytes
sound-kept s h = checked-kept domain_bytes domain_in domain_size wide most_domains s (good_domains (domains_of s)) h

pub kept-domains : (s : Octets) → KeptDomains s → domains_bytes (domains_of s) ≡ s
unfolding domains_of domains_bytes
kept-domains s c = c.same
