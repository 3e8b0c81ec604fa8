-- The 18 bits of an entry: those of a slot, those that are given, and four of them as a slot's bytes.
use mathlib.Core.Path.{◌≡◌, refl, sym, ap, ◌∙◌}
use mathlib.Core.Bool.{Bool, true, false, cond}
use mathlib.Core.List.{List, [], ◌∷◌}
use Prim.Native.Nat.{ℕ, zero, suc, ◌+◌, ◌*◌, ◌-◌, ◌/◌, ◌≤◌, ◌<◌}
use native.Mathlib.Nat.{mod-lt}
use native.Mathlib.Omega.{arith}
use lib.ListN.{length, get_or, take}
use lib.Seq.{get_or-take, length-take-le}
use Rattle.rules.specs.Size.{slots, entries_size}
use Rattle.rules.specs.Octets.{Octets, paste, big_endian, pack, pack_from, bits_at}
use Rattle.rules.specs.Domain.{Domain, is_control}
use Rattle.rules.specs.Node.{Entry, node_at, heir}
use Rattle.rules.specs.Layout.{table_of, entry_bits, entry_at}
use Rattle.rules.proofs.Tables.{Each}
use Rattle.rules.proofs.Slots.{EntryFits}
use Rattle.slots.specs.Slot.{Canonical, slot_at, is_used, entry_count, entry_of}
use Rattle.slots.specs.Written.{entries_of, entry_number, entries_bytes, entry_in, others_in, Given}
use Rattle.slots.proofs.Canonical.{entry-count_is, entry_is}
use Rattle.slots.proofs.Put.{used_is}

numbered : Entry → ℕ
numbered e = e.access * 65536 + e.domain

number_at : (es : List Entry) (k : ℕ) (d : Entry) → k < length es → entry_number es k ≡ numbered (get_or es k d)
unfolding entry_number numbered
number_at [] k d h = absurd (omega arith)
number_at (e ∷ es) zero d h = refl
number_at (e ∷ es) (suc k) d h = number_at es k d (omega arith)

number_past : (es : List Entry) (k : ℕ) → length es ≤ k → entry_number es k ≡ 0
unfolding entry_number
number_past [] k h = refl
number_past (e ∷ es) zero h = absurd (omega arith)
number_past (e ∷ es) (suc k) h = number_past es k (omega arith)

-- four entries at most, packed
packed : (o : Entry) (es : List Entry) → length es ≤ 3 →
    let n = entry_number (o ∷ es) in
    entries_of (n 0) (n 1) (n 2) (n 3) ≡ pack (entry_bits 4 (o ∷ es))
unfolding entry_number entries_of pack pack_from entry_bits
packed o [] h = omega arith
packed o (a ∷ []) h = omega arith
packed o (a ∷ b ∷ []) h = omega arith
packed o (a ∷ b ∷ c ∷ []) h = omega arith
packed o (a ∷ b ∷ c ∷ d ∷ es) h = absurd (omega arith)

entries_bytes_lem : (o : Entry) (es : List Entry) → length es ≤ 3 → {a b c d : ℕ} →
    a ≡ entry_number (o ∷ es) 0 → b ≡ entry_number (o ∷ es) 1 → c ≡ entry_number (o ∷ es) 2 → d ≡ entry_number (o ∷ es) 3 →
    big_endian entries_size (entries_of a b c d) ≡ entries_bytes o es
unfolding entries_bytes
entries_bytes_lem o es h ha hb hc hd = (λ j. big_endian entries_size (entries_of (ha j) (hb j) (hc j) (hd j))) ∙ ap (big_endian 9) (packed o es h)

-- the same, put in place
pub entries_at : (at : ℕ) (t : Octets) (o : Entry) (es : List Entry) → length es ≤ 3 → {a b c d : ℕ} {y : Octets} →
    a ≡ entry_number (o ∷ es) 0 → b ≡ entry_number (o ∷ es) 1 → c ≡ entry_number (o ∷ es) 2 → d ≡ entry_number (o ∷ es) 3 →
    y ≡ paste at (big_endian entries_size (entries_of a b c d)) t → y ≡ paste at (entries_bytes o es) t
entries_at at t o es h ha hb hc hd e = e ∙ ap (λ (s : Octets). paste at s t) (entries_bytes_lem o es h ha hb hc hd)

-- ── a slot's entries ──

pub entry_small : (t : Octets) (i k : ℕ) → EntryFits (entry_of t i k)
unfolding entry_of entry_at bits_at
entry_small t i k = record { access = mod-lt _ (omega arith); domain = mod-lt _ (omega arith) }

module _ (t : Octets) (k : Canonical t) (i : ℕ) (h : i < slots) (u : is_used (slot_at t i) ≡ true) (j : ℕ) where
  pub stored_at : j < entry_count t i → {a d : ℕ} → a ≡ (entry_of t i j).access → d ≡ (entry_of t i j).domain →
      a * 65536 + d ≡ entry_number ((node_at (table_of t) i).owner ∷ (node_at (table_of t) i).others) j
  unfolding numbered
  stored_at b ha hd =
      let n = node_at (table_of t) i in
      let few : j < suc (length n.others) = rw (entry-count_is t k i h n (used_is t i h u)) at b in
      (λ s. ha s * 65536 + hd s)
      ∙ ap numbered (entry_is t i h n (used_is t i h u) j n.owner few)
      ∙ sym (number_at (n.owner ∷ n.others) j n.owner few)

  pub stored_past : entry_count t i ≤ j → 0 ≡ entry_number ((node_at (table_of t) i).owner ∷ (node_at (table_of t) i).others) j
  stored_past b =
      let n = node_at (table_of t) i in
      sym (number_past (n.owner ∷ n.others) j (rw (entry-count_is t k i h n (used_is t i h u)) at b))

-- ── given entries ──

module _ (access domain : List ℕ) where
  abbrev entry : ℕ → Entry
  entry = entry_in access domain

  abbrev four : List Entry
  four = entry 0 ∷ entry 1 ∷ entry 2 ∷ entry 3 ∷ []

  listed : (k : ℕ) (d : Entry) → k < 4 → get_or four k d ≡ entry k
  listed zero d h = refl
  listed (suc zero) d h = refl
  listed (suc (suc zero)) d h = refl
  listed (suc (suc (suc zero))) d h = refl
  listed (suc (suc (suc (suc k)))) d h = absurd (omega arith)

  each_listed : (m : ℕ) → ((k : ℕ) → k ≤ m → EntryFits (entry k)) → Each EntryFits (take m (entry 1 ∷ entry 2 ∷ entry 3 ∷ []))
  each_listed zero f = tt
  each_listed (suc zero) f = (f 1 (omega arith), tt)
  each_listed (suc (suc zero)) f = (f 1 (omega arith), (f 2 (omega arith), tt))
  each_listed (suc (suc (suc zero))) f = (f 1 (omega arith), (f 2 (omega arith), (f 3 (omega arith), tt)))
  each_listed (suc (suc (suc (suc m)))) f = (f 1 (omega arith), (f 2 (omega arith), (f 3 (omega arith), tt)))

module _ (count : ℕ) (access domain : List ℕ) (g : Given count access domain) where
  entry-fits : (k : ℕ) → k < count → EntryFits (entry_in access domain k)
  unfolding entry_in
  entry-fits k h = record { access = g.kinds k h; domain = g.ids k h }

  pub owner-fits : EntryFits (entry_in access domain 0)
  owner-fits = entry-fits 0 g.least

  pub others_fit : Each EntryFits (others_in count access domain)
  unfolding others_in
  others_fit = let c = g.least in each_listed access domain (count - 1) (λ k h. entry-fits k (omega arith))

  pub others_many : length (others_in count access domain) ≡ count - 1
  unfolding others_in
  others_many = let c = g.few in length-take-le (count - 1) (entry_in access domain 1 ∷ entry_in access domain 2 ∷ entry_in access domain 3 ∷ []) (omega arith)

  pub given_at_lem : (k : ℕ) → k < count →
      (get_or access k 0 * 65536 + get_or domain k 0 ≡ entry_number (entry_in access domain 0 ∷ others_in count access domain) k)
      × (get_or access k 0 * 65536 + get_or domain k 0 < 262144)
  unfolding numbered entry_in others_in
  given_at_lem k h =
      let c = g.few in
      let s = g.least in
      let es = entry_in access domain 0 ∷ others_in count access domain in
      let d = entry_in access domain 0 in (
        sym (number_at es k d (omega (arith, others_many)) ∙ ap numbered
            (get_or-take (suc (count - 1)) (four access domain) k d (omega arith) ∙ listed access domain k d (omega arith))),
        omega (arith, g.kinds k h, g.ids k h),
      )

  pub given_past : (k : ℕ) → count ≤ k → 0 ≡ entry_number (entry_in access domain 0 ∷ others_in count access domain) k
  given_past k h = let s = g.least in sym (number_past (entry_in access domain 0 ∷ others_in count access domain) k (omega (arith, others_many)))

-- ── an heir's owner ──

pub heir-number : (o : Entry) (es : List Entry) (d : Domain) {n r : ℕ} → o.domain < 65536 → n ≡ entry_number (o ∷ es) 0 →
    r ≡ cond (is_control d) n (n / 65536 * 65536 + d) → r ≡ entry_number (heir d o ∷ es) 0
unfolding heir entry_number
heir-number o es d {n} h e q = q ∙ go (is_control d)
  where
    go : (b : Bool) → cond b n (n / 65536 * 65536 + d) ≡ entry_number (cond b o (record { access = o.access; domain = d }) ∷ es) 0
    go true = e
    go false = omega arith

-- the other entries of an heir are its parent's
pub heir_other : (o : Entry) (es : List Entry) (d : Domain) (k : ℕ) → (k ≡ 0 → ⊥) → {n : ℕ} → n ≡ entry_number (o ∷ es) k → n ≡ entry_number (heir d o ∷ es) k
unfolding entry_number
heir_other o es d zero z e = absurd (z refl)
heir_other o es d (suc k) z e = e
