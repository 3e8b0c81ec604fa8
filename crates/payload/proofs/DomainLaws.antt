-- What requests about a domain, and those of a fixed payload, mean.
use mathlib.Core.Path.{◌≡◌, refl, ap, sym, ◌∙◌}
use mathlib.Core.Bool.{Bool, true, false, cond}
use mathlib.Core.List.{List, [], ◌∷◌, ◌++◌}
use mathlib.Core.Option.{Option, none, some}
use Prim.Native.Nat.{ℕ, ◌+◌, ◌-◌, ◌^◌, ◌≤◌}
use native.Mathlib.Omega.{arith}
use lib.ListN.{length, take}
use borrow.Author.Tests.{eq-eqb, ne_eqb}
use Rattle.rules.specs.Size.{last_domain}
use Rattle.rules.specs.Octets.{Octets, text, nul, same, number_in, signed}
use Rattle.rules.specs.Path.{Domain, Connection}
use Rattle.rules.specs.Payload as rules
use Rattle.rules.specs.Payload.{invalid, request, strings, of_domain, introduce_payload, introducing_of, bare, start_payload, end_payload}
use Rattle.rules.proofs.Decimals.{range_bounds}
use Rattle.payload.specs.Strings.{part}
use Rattle.payload.specs.Parts.{parts_of}
use Rattle.payload.specs.Meaning.{meant, Means}
use Rattle.payload.specs.Answers.{domain_in}
use Rattle.payload.specs.declared.answer.Request.TheVariants.{Invalid, Start, End, Introduce, Release, DomainPath, IsIntroduced, Reset}
use Rattle.payload.specs.declared.parts.Parts.TheVariants.{One, Three}
use Rattle.payload.proofs.PartsLaws.{OneString, ThreeStrings}
use Rattle.payload.proofs.AskLaws.{invalid_means}

-- ── a domain id alone ──

abbrev answered : (Domain → rules.Request) → Option ℕ → rules.Parsed
answered f o = elim o [ none ↦ invalid | some i ↦ request (f i) ]

of_domain_in : (low : ℕ) (f : Domain → rules.Request) (o : Option (List Octets)) → of_domain low f o ≡ answered f (domain_in low o)
unfolding of_domain domain_in
of_domain_in low f none = refl
of_domain_in low f (some []) = refl
of_domain_in low f (some (x ∷ [])) = refl
of_domain_in low f (some (x ∷ y ∷ ys)) = refl

pub domain_other : (low : ℕ) (o : Option (List Octets)) → ((e : ℕ) → parts_of o ≡ One e → ⊥) → none ≡ domain_in low o
unfolding parts_of domain_in
domain_other low none h = refl
domain_other low (some []) h = refl
domain_other low (some (x ∷ [])) h = absurd (h (length x) refl)
domain_other low (some (x ∷ y ∷ ys)) h = refl

pub domain_one : (s : Octets) (e : ℕ) → OneString s e → (low : ℕ) → number_in low last_domain (take e s) ≡ domain_in low (strings s)
unfolding domain_in
domain_one s e one low = sym (ap (domain_in low) one.all)

domain_bounds : (low i : ℕ) (o : Option (List Octets)) → domain_in low o ≡ some i → (low ≤ i) × (i ≤ last_domain)
unfolding domain_in
domain_bounds low i none h = absurd (let z : ◌≡◌ {A = ℕ} 0 1 = cc in omega arith)
domain_bounds low i (some []) h = absurd (let z : ◌≡◌ {A = ℕ} 0 1 = cc in omega arith)
domain_bounds low i (some (x ∷ [])) h = range_bounds _ _ _ _ h
domain_bounds low i (some (x ∷ y ∷ ys)) h = absurd (let z : ◌≡◌ {A = ℕ} 0 1 = cc in omega arith)

pub domain_not : (s : Octets) (low : ℕ) (f : Domain → rules.Request) → domain_in low (strings s) ≡ none →
    Means s Invalid (λ (c : Connection). of_domain low f (strings s))
domain_not s low f h = invalid_means s _ (λ _. of_domain_in low f (strings s) ∙ ap (answered f) h)

module _ (s : Octets) (i : ℕ) where
  domain_at : (low : ℕ) (f : Domain → rules.Request) → domain_in low (strings s) ≡ some i → of_domain low f (strings s) ≡ request (f i)
  domain_at low f h = of_domain_in low f (strings s) ∙ ap (answered f) h

  pub release_means : domain_in 1 (strings s) ≡ some i → Means s (Release i) (λ (c : Connection). of_domain 1 rules.release (strings s))
  unfolding meant
  release_means h = record { meaning = λ _. sym (domain_at 1 rules.release h); sound = domain_bounds 1 i (strings s) h }

  pub domain-path_means : domain_in 0 (strings s) ≡ some i → Means s (DomainPath i) (λ (c : Connection). of_domain 0 rules.domain_path (strings s))
  unfolding meant
  domain-path_means h = record { meaning = λ _. sym (domain_at 0 rules.domain_path h); sound = (domain_bounds 0 i (strings s) h).1 }

  pub introduced_means : domain_in 0 (strings s) ≡ some i → Means s (IsIntroduced i) (λ (c : Connection). of_domain 0 rules.is_introduced (strings s))
  unfolding meant
  introduced_means h = record { meaning = λ _. sym (domain_at 0 rules.is_introduced h); sound = (domain_bounds 0 i (strings s) h).1 }

-- ── INTRODUCE ──

pub introduce_other : (s : Octets) → ((a b c : ℕ) → parts_of (strings s) ≡ Three a b c → ⊥)
    → Means s Invalid (λ (c : Connection). introduce_payload (strings s))
unfolding parts_of introduce_payload
introduce_other s h = invalid_means s _ (λ _. by (strings s) h)
  where
    by : (o : Option (List Octets)) → ((a b c : ℕ) → parts_of o ≡ Three a b c → ⊥) → introduce_payload o ≡ invalid
    by none h = refl
    by (some []) h = refl
    by (some (x ∷ [])) h = refl
    by (some (x ∷ y ∷ [])) h = refl
    by (some (x ∷ y ∷ z ∷ [])) h = absurd (h _ _ _ refl)
    by (some (x ∷ y ∷ z ∷ w ∷ ws)) h = refl

module _ (s : Octets) (a b c : ℕ) (h : ThreeStrings s a b c) where
  introducing_at : introduce_payload (strings s)
      ≡ introducing_of (number_in 1 last_domain (take a s)) (signed (part (a + 1) b s)) (number_in 0 (2 ^ 32 - 1) (part (b + 1) c s))
  unfolding introduce_payload
  introducing_at = ap introduce_payload h.all

  pub introduce_no_domain : number_in 1 last_domain (take a s) ≡ none → Means s Invalid (λ (c : Connection). introduce_payload (strings s))
  unfolding introducing_of
  introduce_no_domain x = invalid_means s _ (λ _. introducing_at ∙ rw x)

  module _ (i : ℕ) (x : number_in 1 last_domain (take a s) ≡ some i) where
    pub introduce_no_page : signed (part (a + 1) b s) ≡ none → Means s Invalid (λ (c : Connection). introduce_payload (strings s))
    unfolding introducing_of
    introduce_no_page y = invalid_means s _ (λ _. introducing_at ∙ rw (x, y))

    module _ (page : ℕ) (y : signed (part (a + 1) b s) ≡ some page) where
      pub introduce_no_channel : number_in 0 (2 ^ 32 - 1) (part (b + 1) c s) ≡ none → Means s Invalid (λ (c : Connection). introduce_payload (strings s))
      unfolding introducing_of
      introduce_no_channel z = invalid_means s _ (λ _. introducing_at ∙ rw (x, y, z))

      pub introduce_means : (channel : ℕ) → number_in 0 (2 ^ 32 - 1) (part (b + 1) c s) ≡ some channel →
          Means s (Introduce i page channel) (λ (c : Connection). introduce_payload (strings s))
      unfolding meant introducing_of
      introduce_means channel z =
          let l = range_bounds _ _ _ _ x in
          let m = range_bounds _ _ _ _ z in
          record {
            meaning = λ _. sym (introducing_at ∙ rw (x, y, z));
            sound = record { low = l.0; high = l.1; channel = omega (arith, m.1) };
          }

-- ── payloads that are fixed ──

module _ (s : Octets) where
  bare_by : (r : rules.Request) (b : Bool) → same s nul ≡ b → bare r s ≡ cond b (request r) invalid
  unfolding bare
  bare_by r b h = rw h

  starting_out : (tx : ℕ) → tx ≡ 0 → start_payload tx s ≡ bare rules.start s
  unfolding start_payload
  starting_out tx e = rw (eq-eqb _ _ e)

  pub start-inside : (tx : ℕ) → (tx ≡ 0 → ⊥) → Means s Invalid (λ (c : Connection). start_payload tx s)
  unfolding start_payload
  start-inside tx e = invalid_means s _ (λ _. rw (ne_eqb _ _ e))

  pub start_means : (tx : ℕ) → tx ≡ 0 → same s nul ≡ true → Means s Start (λ (c : Connection). start_payload tx s)
  unfolding meant
  start_means tx e h = record { meaning = λ _. sym (starting_out tx e ∙ bare_by rules.start true h); sound = tt }

  pub start_not : (tx : ℕ) → tx ≡ 0 → same s nul ≡ false → Means s Invalid (λ (c : Connection). start_payload tx s)
  start_not tx e h = invalid_means s _ (λ _. starting_out tx e ∙ bare_by rules.start false h)

  pub reset_means : same s nul ≡ true → Means s Reset (λ (c : Connection). bare rules.reset s)
  unfolding meant
  reset_means h = record { meaning = λ _. sym (bare_by rules.reset true h); sound = tt }

  pub reset_not : same s nul ≡ false → Means s Invalid (λ (c : Connection). bare rules.reset s)
  reset_not h = invalid_means s _ (λ _. bare_by rules.reset false h)

  ending_by : (b c : Bool) → same s (text "T" ++ nul) ≡ b → same s (text "F" ++ nul) ≡ c →
      end_payload s ≡ cond b (request (rules.end true)) (cond c (request (rules.end false)) invalid)
  unfolding end_payload
  ending_by b c g h = rw (g, h)

  pub end_commit : same s (84 ∷ 0 ∷ []) ≡ true → Means s (End true) (λ (c : Connection). end_payload s)
  unfolding meant text
  end_commit h = record { meaning = λ _. sym (ending_by true (same s (text "F" ++ nul)) h refl); sound = tt }

  pub end-drop : same s (84 ∷ 0 ∷ []) ≡ false → same s (70 ∷ 0 ∷ []) ≡ true → Means s (End false) (λ (c : Connection). end_payload s)
  unfolding meant text
  end-drop g h = record { meaning = λ _. sym (ending_by false true g h); sound = tt }

  pub end_not : same s (84 ∷ 0 ∷ []) ≡ false → same s (70 ∷ 0 ∷ []) ≡ false → Means s Invalid (λ (c : Connection). end_payload s)
  unfolding text
  end_not g h = invalid_means s _ (λ _. ending_by false false g h)
