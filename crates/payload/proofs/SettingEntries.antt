-- The entries of a SET_PERMS: the first four and their number, and their bounds.
use mathlib.Core.Path.{◌≡◌, refl, ap, sym, subst⁻¹, ◌∙◌}
use mathlib.Core.Bool.{Bool, true, false, cond}
use mathlib.Core.List.{List, [], ◌∷◌, ◌++◌}
use mathlib.Core.Option.{Option, none, some}
use Prim.Native.Nat.{ℕ, zero, suc, ◌+◌, ◌-◌, ◌<◌, ◌≤◌}
use native.Mathlib.Nat.{add-zero}
use native.Mathlib.Omega.{arith}
use lib.Dec.{eqb, ltb, lit≤}
use lib.ListN.{length, take, replicate, get_or, set}
use lib.Seq.{take_all}
use Rattle.rules.specs.Size.{last_domain, most_entries}
use Rattle.rules.specs.Octets.{Octets, number_in}
use Rattle.rules.specs.Node as nodes
use Rattle.rules.specs.Payload.{access_letter, entry_of, entries_of}
use Rattle.rules.proofs.Decimals.{range_bounds}
use Rattle.rules.proofs.Tables.{Each}
use Rattle.payload.specs.Meaning.{blank, kept_at, others_meant, first_others, EntrySound, EntriesSound}
use Rattle.payload.specs.Answers.{entry_held, no_entries, with_entry, added, entries_in}
use Rattle.payload.specs.declared.answer.Entry.{Entry}
use Rattle.payload.specs.declared.answer.Entries.{Entries}
use Rattle.payload.proofs.EntryLaws.{with_more}

-- ── the first four entries, and their number ──

abbrev with_number : ℕ → Entries → Entries
with_number n k = record { count = n; kept = k.kept }

-- from the fifth entry on, entries are counted alone
counted : (k : Entries) (es : List nodes.Entry) → 4 ≤ k.count → added k es ≡ with_number (k.count + length es) k
unfolding added
counted k [] h = ap (λ (n : ℕ). with_number n k) (sym (add-zero k.count))
counted k (e ∷ es) h =
    let w = with_more k (entry_held e) h in
    let n : k.count + 1 + length es ≡ k.count + suc (length es) = omega arith in
    ap (λ (x : Entries). added x es) w
    ∙ (counted (with_number (k.count + 1) k) es (omega arith) ∙ ap (λ (m : ℕ). with_number m k) n)

-- what is kept of an owner's entry and others
pub record Held (o : nodes.Entry) (os : List nodes.Entry) (es : Entries) : Type 0 where
  pub count : es.count ≡ suc (length os)
  pub first : kept_at es 0 ≡ entry_held o
  pub others : others_meant es ≡ first_others os

many : (n : ℕ) (a b c : nodes.Entry) (more : List nodes.Entry) → n ≡ 4 + length more →
    take (n - 1) (a ∷ b ∷ c ∷ []) ++ replicate (n - most_entries) blank ≡ first_others (a ∷ b ∷ c ∷ more)
unfolding first_others
many n a b c more h =
    let m : n - 4 ≡ suc (suc (suc (length more))) - 3 = omega arith in
    ap (λ (l : List nodes.Entry). l ++ replicate (n - 4) blank) (take_all (n - 1) (a ∷ b ∷ c ∷ []) (omega arith))
    ∙ ap (λ (j : ℕ). (a ∷ b ∷ c ∷ []) ++ replicate j blank) m

pub held : (o : nodes.Entry) (os : List nodes.Entry) → Held o os (added no_entries (o ∷ os))
unfolding added with_entry others_meant first_others
held o [] = record { count = refl; first = refl; others = refl }
held o (a ∷ []) = record { count = refl; first = refl; others = refl }
held o (a ∷ b ∷ []) = record { count = refl; first = refl; others = refl }
held o (a ∷ b ∷ c ∷ []) = record { count = refl; first = refl; others = refl }
held o (a ∷ b ∷ c ∷ d ∷ more) =
    subst⁻¹ (Held o (a ∷ b ∷ c ∷ d ∷ more)) (counted four (d ∷ more) (lit≤ tt))
    (record {
      count = omega arith;
      first = refl;
      others = many (4 + suc (length more)) a b c (d ∷ more) refl;
    })
  where
    four : Entries
    four = added no_entries (o ∷ a ∷ b ∷ c ∷ [])

-- ── the bounds of entries ──

abbrev Fit : nodes.Entry → Type 0
Fit e = EntrySound (entry_held e)

letter_small : (c a : ℕ) → access_letter c ≡ some a → a < 4
unfolding access_letter
letter_small c a h = by (eqb c 110) (eqb c 114) (eqb c 119) (eqb c 98) h
  where
    is : (n : ℕ) → n < 4 → some n ≡ some a → a < 4
    is n l e = let f : n ≡ a = cc in omega arith

    by : (p q r t : Bool) → cond p (some 0) (cond q (some 1) (cond r (some 2) (cond t (some 3) none))) ≡ some a → a < 4
    by true q r t e = is 0 (omega arith) e
    by false true r t e = is 1 (omega arith) e
    by false false true t e = is 2 (omega arith) e
    by false false false true e = is 3 (omega arith) e
    by false false false false e = absurd (let z : ◌≡◌ {A = ℕ} 0 1 = cc in omega arith)

entry_fit : (t : Octets) (e : nodes.Entry) → entry_of t ≡ some e → Fit e
unfolding entry_of
entry_fit [] e h = absurd (let z : ◌≡◌ {A = ℕ} 0 1 = cc in omega arith)
entry_fit (c ∷ cs) e h = by (access_letter c) refl (number_in 0 last_domain cs) refl h
  where
    by : (a : Option ℕ) → access_letter c ≡ a → (n : Option ℕ) → number_in 0 last_domain cs ≡ n →
        elim a [ none ↦ none | some x ↦ elim n [ none ↦ none | some d ↦ some (record { access = x; domain = d }) ] ] ≡ some e → Fit e
    by none p n q h = absurd (let z : ◌≡◌ {A = ℕ} 0 1 = cc in omega arith)
    by (some x) p none q h = absurd (let z : ◌≡◌ {A = ℕ} 0 1 = cc in omega arith)
    by (some x) p (some d) q h =
        let f : ◌≡◌ {A = nodes.Entry} (record { access = x; domain = d }) e = cc in
        subst⁻¹ Fit (sym f) (record { access = letter_small c x p; domain = (range_bounds 0 last_domain cs d q).1 })

entries_fit : (ts : List Octets) (es : List nodes.Entry) → entries_of ts ≡ some es → Each Fit es
unfolding entries_of
entries_fit [] es h = let f : [] ≡ es = cc in subst⁻¹ (Each Fit) (sym f) tt
entries_fit (t ∷ ts) es h = by (entry_of t) refl (entries_of ts) (entries_fit ts) h
  where
    by : (e : Option nodes.Entry) → entry_of t ≡ e → (o : Option (List nodes.Entry)) → ((xs : List nodes.Entry) → o ≡ some xs → Each Fit xs) →
        elim e [ none ↦ none | some x ↦ elim o [ none ↦ none | some xs ↦ some (x ∷ xs) ] ] ≡ some es → Each Fit es
    by none p o q h = absurd (let z : ◌≡◌ {A = ℕ} 0 1 = cc in omega arith)
    by (some x) p none q h = absurd (let z : ◌≡◌ {A = ℕ} 0 1 = cc in omega arith)
    by (some x) p (some xs) q h =
        let f : x ∷ xs ≡ es = cc in
        subst⁻¹ (Each Fit) (sym f) (entry_fit t x p, q xs refl)

abbrev AllSound : List Entry → Type 0
AllSound es = (k : ℕ) → EntrySound (get_or es k (entry_held blank))

set_sound : (es : List Entry) (i : ℕ) (e : Entry) → AllSound es → EntrySound e → AllSound (set es i e)
set_sound [] i e h s k = h k
set_sound (x ∷ xs) zero e h s zero = s
set_sound (x ∷ xs) zero e h s (suc k) = h (suc k)
set_sound (x ∷ xs) (suc i) e h s zero = h zero
set_sound (x ∷ xs) (suc i) e h s (suc k) = set_sound xs i e (λ j. h (suc j)) s k

kept-sound : (k : Entries) (es : List nodes.Entry) → AllSound k.kept → Each Fit es → AllSound (added k es).kept
unfolding added with_entry
kept-sound k [] h f = h
kept-sound k (e ∷ es) h f = kept-sound (with_entry k (entry_held e)) es (by (ltb k.count most_entries)) f.1
  where
    by : (b : Bool) → AllSound (cond b (set k.kept k.count (entry_held e)) k.kept)
    by true = set_sound k.kept k.count (entry_held e) h f.0
    by false = h

zero-sound : EntrySound (entry_held blank)
zero-sound = record { access = omega arith; domain = omega arith }

blanks-sound : (n : ℕ) → AllSound (replicate n (entry_held blank))
blanks-sound zero k = zero-sound
blanks-sound (suc n) zero = zero-sound
blanks-sound (suc n) (suc k) = blanks-sound n k

in_fit : (o : Option (List Octets)) (es : List nodes.Entry) → entries_in o ≡ some es → Each Fit es
unfolding entries_in
in_fit none es h = absurd (let z : ◌≡◌ {A = ℕ} 0 1 = cc in omega arith)
in_fit (some ts) es h = entries_fit ts es h

pub entries_sound : (r : Option (List Octets)) (o : nodes.Entry) (os : List nodes.Entry) → entries_in r ≡ some (o ∷ os)
    → EntriesSound (added no_entries (o ∷ os))
entries_sound r o os h =
    let n = (held o os).count in
    record {
      some-entry = omega arith;
      each = kept-sound no_entries (o ∷ os) (blanks-sound most_entries) (in_fit r (o ∷ os) h);
    }
