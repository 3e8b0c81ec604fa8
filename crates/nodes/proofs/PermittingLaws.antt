-- SET_PERMS: who may set entries, and the entries as two arrays.
use mathlib.Core.Path.{◌≡◌, sym, ap, ap₂, ◌∙◌}
use mathlib.Core.Bool.{true, false}
use mathlib.Core.List.{List, [], ◌∷◌, ◌++◌, append-nil}
use Prim.Native.Nat.{ℕ, zero, suc, ◌-◌, ◌≤◌, ◌<◌}
use native.Mathlib.Omega.{arith}
use lib.ListN.{take, get_or, replicate}
use lib.Dec.{eqb}
use Rattle.rules.specs.Size.{most_entries}
use Rattle.rules.specs.Octets.{Octets}
use Rattle.rules.specs.Domain.{Domain, is_control}
use Rattle.rules.specs.Path.{Names}
use Rattle.rules.specs.Node.{Entry, Node, Table, with_entries}
use Rattle.rules.specs.Rights.{may_own}
use Rattle.rules.specs.Answer.{may_set}
use Rattle.rules.specs.Layout.{table_bytes}
use Rattle.slots.specs.Written.{entry_in, others_in, Given}
use Rattle.payload.specs.Meaning.{entry_meant, kept_at, others_meant, blank, EntriesSound}
use Rattle.payload.specs.declared.answer.Entries.{Entries}

-- ── who may set entries ──

module _ (d : Domain) (ns : Names) (t : Table) (n : Node) (o : Entry) where
  pub set_denied : may_own d n ≡ false → false ≡ may_set d ns t n o
  unfolding may_set
  set_denied m = rw m

  pub set-control : may_own d n ≡ true → is_control d ≡ true → true ≡ may_set d ns t n o
  unfolding may_set
  set-control m e = rw (m, e)

  pub set-owner : may_own d n ≡ true → is_control d ≡ false → (x y : ℕ) → o.domain ≡ x → y ≡ n.owner.domain → eqb x y ≡ may_set d ns t n o
  unfolding may_set
  set-owner m e x y ex ey = rw (m, e) (ap₂ eqb (sym ex) ey)

-- ── the entries that are meant ──

-- any of the first four
below_four : (P : ℕ → Type 0) → P 0 → P 1 → P 2 → P 3 → (k n : ℕ) → n ≤ 4 → k < n → P k
below_four P a b c d zero n h l = a
below_four P a b c d (suc zero) n h l = b
below_four P a b c d (suc (suc zero)) n h l = c
below_four P a b c d (suc (suc (suc zero))) n h l = d
below_four P a b c d (suc (suc (suc (suc k)))) n h l = absurd (omega arith)

module _ (es : Entries) where
  abbrev pub accesses : List ℕ
  accesses = (kept_at es 0).access ∷ (kept_at es 1).access ∷ (kept_at es 2).access ∷ (kept_at es 3).access ∷ []

  abbrev pub domains : List ℕ
  domains = (kept_at es 0).domain ∷ (kept_at es 1).domain ∷ (kept_at es 2).domain ∷ (kept_at es 3).domain ∷ []

  -- those after the owner's that are kept, of as many as there are
  abbrev front : List Entry
  front = take (es.count - 1) (entry_meant (kept_at es 1) ∷ entry_meant (kept_at es 2) ∷ entry_meant (kept_at es 3) ∷ [])

  module _ (few : es.count ≤ most_entries) where
    others_in_lem : others_in es.count accesses domains ≡ others_meant es
    unfolding others_meant others_in entry_in
    others_in_lem = sym (ap (λ (k : ℕ). front ++ replicate k blank) (let e : es.count - most_entries ≡ 0 = omega arith in e) ∙ append-nil front)

    -- four at most are given by the two arrays
    pub given_entries : EntriesSound es → Given es.count accesses domains
    given_entries s =
        record {
          least = s.some-entry;
          few = few;
          accesses = few;
          domains = few;
          kinds = λ k l.
              below_four (λ (j : ℕ). get_or accesses j 0 < 4) (s.each 0).access (s.each 1).access (s.each 2).access (s.each 3).access k _ few l;
          ids = λ k l.
              below_four
              (λ (j : ℕ). get_or domains j 0 < 65536)
              (omega (arith, (s.each 0).domain))
              (omega (arith, (s.each 1).domain))
              (omega (arith, (s.each 2).domain))
              (omega (arith, (s.each 3).domain))
              k
              _
              few
              l;
        }

    -- and what they give is what is meant
    pub entries_put : (t : Table) (i : ℕ) (t' : Octets) →
        t' ≡ table_bytes (with_entries t i (entry_in accesses domains 0) (others_in es.count accesses domains)) →
        t' ≡ table_bytes (with_entries t i (entry_meant (kept_at es 0)) (others_meant es))
    unfolding entry_in
    entries_put t i t' q = q ∙ ap (λ (xs : List Entry). table_bytes (with_entries t i (entry_meant (kept_at es 0)) xs)) others_in_lem
