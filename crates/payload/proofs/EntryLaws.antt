-- Permission entries: kept one by one.
use mathlib.Core.Path.{◌≡◌, refl, ap, sym, ◌∙◌}
use mathlib.Core.List.{List, [], ◌∷◌}
use mathlib.Core.Option.{Option, none, some}
use Prim.Native.Nat.{◌<◌, ◌≤◌, ℕ, ◌+◌}
use native.Mathlib.Omega.{arith}
use lib.ListN.{length, drop, set}
use borrow.Author.Tests.{lt-ltb, le-ltb}
use Rattle.std.specs.Prelude.{Some, None}
use Rattle.rules.specs.Size.{last_domain, most_entries}
use Rattle.rules.specs.Octets.{Octets, number_in}
use Rattle.rules.specs.Node as nodes
use Rattle.rules.specs.Payload.{access_letter, entry_of, entries_of, strings}
use Rattle.payload.specs.Strings.{part, prepended}
use Rattle.payload.specs.Cursor.{taken_at}
use Rattle.payload.specs.Meaning.{entry_meant}
use Rattle.payload.specs.Answers.{with_entry, added, added_to, entries_in}
use Rattle.payload.specs.declared.answer.Entry.{Entry}
use Rattle.payload.specs.declared.answer.Entries.{Entries}
use Rattle.payload.specs.declared.cursor.Cursor.{Cursor}
use Rattle.payload.specs.declared.cursor.Taken.TheVariants.{String, Left, End}
use Rattle.payload.proofs.CursorLaws.{Told, string-told, left-told, end-told}

-- an entry is kept in its place, or only counted
pub with_kept : (es : Entries) (e : Entry) → es.count < most_entries → with_entry es e ≡ record { count = es.count + 1; kept = set es.kept es.count e }
unfolding with_entry
with_kept es e h = rw (lt-ltb es.count most_entries h)

pub with_more : (es : Entries) (e : Entry) → most_entries ≤ es.count → with_entry es e ≡ record { count = es.count + 1; kept = es.kept }
unfolding with_entry
with_more es e h = rw (le-ltb es.count most_entries h)

pub with_count : (es : Entries) (e : Entry) (r : Entries) → r ≡ with_entry es e → r.count ≡ es.count + 1
unfolding with_entry
with_count es e r h = ap (λ (x : Entries). x.count) h

-- ── an entry ──

abbrev entry_by : Option ℕ → Option ℕ → Option nodes.Entry
entry_by a n = elim a [ none ↦ none | some x ↦ elim n [ none ↦ none | some d ↦ some (record { access = x; domain = d }) ] ]

module _ (s : Octets) where
  pub entry_empty : length s ≡ 0 → none ≡ entry_of s
  unfolding entry_of
  entry_empty h = by s h
    where
      by : (t : Octets) → length t ≡ 0 → none ≡ entry_of t
      by [] h = refl
      by (c ∷ cs) h = absurd (omega arith)

  module _ (c : ℕ) (cs : Octets) (e : s ≡ c ∷ cs) where
    pub entry_no_letter : none ≡ access_letter c → none ≡ entry_of s
    unfolding entry_of
    entry_no_letter f = ap (λ (x : Option ℕ). entry_by x (number_in 0 last_domain cs)) f ∙ sym (ap entry_of e)

    pub entry-told : (a : ℕ) (n : Option ℕ) → some a ≡ access_letter c → n ≡ number_in 0 last_domain cs → entry_by (some a) n ≡ entry_of s
    unfolding entry_of
    entry-told a n f g =
        ap (λ (x : Option ℕ). entry_by x n) f ∙ (ap (entry_by (access_letter c)) g ∙ sym (ap entry_of e))

-- ── the entries of some strings ──

abbrev cons_by : Option nodes.Entry → Option (List nodes.Entry) → Option (List nodes.Entry)
cons_by e o = elim e [ none ↦ none | some x ↦ elim o [ none ↦ none | some es ↦ some (x ∷ es) ] ]

module _ (k : Entries) where
  entries_cons : (t : Octets) (o : Option (List Octets)) (e : Entry) → entry_of t ≡ some (entry_meant e) →
      added_to k (entries_in (prepended t o)) ≡ added_to (with_entry k e) (entries_in o)
  unfolding added_to entries_in prepended entries_of added
  entries_cons t none e h = refl
  entries_cons t (some ts) e h = ap (λ (x : Option nodes.Entry). added_to k (cons_by x (entries_of ts))) h ∙ by (entries_of ts)
    where
      by : (o : Option (List nodes.Entry)) → added_to k (cons_by (some (entry_meant e)) o) ≡ added_to (with_entry k e) o
      by none = refl
      by (some es) = refl

  entries_bad : (t : Octets) (o : Option (List Octets)) → entry_of t ≡ none → added_to k (entries_in (prepended t o)) ≡ None
  unfolding added_to entries_in prepended entries_of
  entries_bad t none h = refl
  entries_bad t (some ts) h = ap (λ (x : Option nodes.Entry). added_to k (cons_by x (entries_of ts))) h

  module _ (s : Octets) (at : ℕ) where
    pub entries_end : taken_at s at ≡ End → added_to k (entries_in (strings (drop at s))) ≡ Some k
    unfolding added_to entries_in entries_of added
    entries_end e = rw (end-told s at e).all

    pub entries_left : taken_at s at ≡ Left → added_to k (entries_in (strings (drop at s))) ≡ None
    unfolding added_to entries_in
    entries_left e = rw (left-told s at e).all

    module _ (start end : ℕ) (next : Cursor) (h : taken_at s at ≡ String start end next) where
      told : Told s at start end next
      told = string-told s at start end next h

      all : strings (drop at s) ≡ prepended (part start end s) (strings (drop next.at s))
      all =
          told.string.all
          ∙ (ap (λ (n : ℕ). prepended (part n end s) (strings (drop (end + 1) s))) (sym told.begins)
          ∙ ap (λ (n : ℕ). prepended (part start end s) (strings (drop n s))) (sym told.goes_on))

      pub entries_not : none ≡ entry_of (part start end s) → added_to k (entries_in (strings (drop at s))) ≡ None
      entries_not e = rw all (entries_bad (part start end s) (strings (drop next.at s)) (sym e))

      pub entries_more : (e : Entry) → some (entry_meant e) ≡ entry_of (part start end s) →
          added_to k (entries_in (strings (drop at s))) ≡ added_to (with_entry k e) (entries_in (strings (drop next.at s)))
      entries_more e f = rw all (entries_cons (part start end s) (strings (drop next.at s)) e (sym f))
