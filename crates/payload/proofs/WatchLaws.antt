-- What WATCH and UNWATCH mean.
use mathlib.Core.Path.{◌≡◌, refl, ap, sym, ◌∙◌}
use mathlib.Core.Bool.{true, false}
use mathlib.Core.List.{List, [], ◌∷◌}
use mathlib.Core.Option.{Option, none, some}
use Prim.Native.Nat.{ℕ, ◌+◌, ◌<◌}
use native.Mathlib.Omega.{arith}
use lib.Dec.{eqb}
use lib.ListN.{length, take}
use Rattle.std.specs.Prelude.{Some, None}
use Rattle.std.specs.Prelude as std
use Rattle.rules.specs.Size.{deepest_watch}
use Rattle.rules.specs.Octets.{Octets, number_in}
use Rattle.rules.specs.Path.{Domain, Connection, domain_of, Given, malformed, absolute, relative, special, given}
use Rattle.rules.specs.Payload.{Place, Parsed, invalid, strings, place_of, depth_for, watching_to, watch_payload, unwatch_payload}
use Rattle.rules.proofs.Decimals.{range_bounds}
use Rattle.octets.specs.Options as options
use Rattle.paths.specs.Form.{form_of}
use Rattle.paths.specs.declared.answer.Form.{Form}
use Rattle.paths.specs.declared.answer.Form.TheVariants.{Absolute, Relative, Special, Malformed}
use Rattle.payload.specs.Strings.{part}
use Rattle.payload.specs.Parts.{parts_of}
use Rattle.payload.specs.Meaning.{place_from, place_at, meant, Means, WatchSound, DepthSound}
use Rattle.payload.specs.Answers.{placed_of, depth_fits, watch_of}
use Rattle.payload.specs.declared.answer.Path.{Path}
use Rattle.payload.specs.declared.answer.Request.{Request}
use Rattle.payload.specs.declared.answer.Request.TheVariants.{Invalid, Watch, Unwatch}
use Rattle.payload.specs.declared.parts.Parts.TheVariants.{Two, Three}
use Rattle.payload.proofs.AskLaws.{at_path, sound_at, invalid_means, means_as}

-- a path or an event's name: its place, and the depths that it takes
pub record IsPlaced (s : Octets) (e : ℕ) (p : Path) : Type 0 where
  pub end : p.end ≡ e
  pub form : form_of (given (take e s)) ≡ p.form
  pub place : (d : Domain) → place_of d (given (take e s)) ≡ some (place_from d (given (take e s)))
  pub depth : (d : Domain) (k : ℕ) → depth_for (place_from d (given (take e s))) k ≡ depth_fits p k

depth-fits : (p : Path) (f : Form) (k : ℕ) → f ≡ p.form → elim f [ Absolute ↦ true | Relative ↦ true | Special ↦ eqb k 1 | Malformed ↦ true ] ≡ depth_fits p k
unfolding depth_fits
depth-fits p f k h = rw h

placed_by : (s : Octets) (e : ℕ) (p : Path) (g : Given) → given (take e s) ≡ g → placed_of e (form_of g) ≡ Some p → IsPlaced s e p
unfolding placed_of form_of place_of place_from depth_for
placed_by s e p malformed f h = absurd (let z : ◌≡◌ {A = ℕ} 0 1 = cc in omega arith)
placed_by s e p (absolute ns) f h =
    record { end = (at_path h).0; form = rw f (at_path h).1; place = λ d. rw f; depth = λ d k. rw f (depth-fits p Absolute k (at_path h).1) }
placed_by s e p (relative ns) f h =
    record { end = (at_path h).0; form = rw f (at_path h).1; place = λ d. rw f; depth = λ d k. rw f (depth-fits p Relative k (at_path h).1) }
placed_by s e p (special t) f h =
    record { end = (at_path h).0; form = rw f (at_path h).1; place = λ d. rw f; depth = λ d k. rw f (depth-fits p Special k (at_path h).1) }

unplaced_by : (d : Domain) (e : ℕ) (g : Given) → placed_of e (form_of g) ≡ None → place_of d g ≡ none
unfolding placed_of form_of place_of
unplaced_by d e malformed h = refl
unplaced_by d e (absolute ns) h = absurd (let z : ◌≡◌ {A = ℕ} 0 1 = cc in omega arith)
unplaced_by d e (relative ns) h = absurd (let z : ◌≡◌ {A = ℕ} 0 1 = cc in omega arith)
unplaced_by d e (special t) h = absurd (let z : ◌≡◌ {A = ℕ} 0 1 = cc in omega arith)

module _ (s : Octets) (e : ℕ) (h : placed_of e (form_of (given (take e s))) ≡ None) where
  unplaced : (d : Domain) → place_of d (given (take e s)) ≡ none
  unplaced d = unplaced_by d e (given (take e s)) h

  pub watch_not : (t : Octets) (k : Option ℕ) → Means s Invalid (λ (c : Connection). watch_of (place_of (domain_of c) (given (take e s))) t k)
  unfolding watch_of
  watch_not t k = invalid_means s _ (λ c. rw (unplaced (domain_of c)))

  pub unwatch_not : (t : Octets) → strings s ≡ some (take e s ∷ t ∷ []) → Means s Invalid (λ (c : Connection). unwatch_payload (domain_of c) (strings s))
  unfolding unwatch_payload
  unwatch_not t all = invalid_means s _ (λ c. ap (unwatch_payload (domain_of c)) all ∙ rw (unplaced (domain_of c), unwatch_payload))

module _ (s : Octets) (e b : ℕ) (p : Path) (low : e < b) (high : b < length s) (h : placed_of e (form_of (given (take e s))) ≡ Some p) where
  told : IsPlaced s e p
  told = placed_by s e p (given (take e s)) refl h

  place_at_lem : (d : Domain) → place_of d (given (take e s)) ≡ some (place_at d s p)
  place_at_lem d = told.place d ∙ ap (λ (n : ℕ). some (place_from d (given (take n s)))) (sym told.end)

  depth_at : (d : Domain) (k : ℕ) → depth_for (place_at d s p) k ≡ depth_fits p k
  depth_at d k = ap (λ (n : ℕ). depth_for (place_from d (given (take n s))) k) told.end ∙ told.depth d k

  watch-sound : (k : std.Option ℕ) → DepthSound k → WatchSound s p (e + 1) b k
  watch-sound k x =
      record {
        path = sound_at s e p (omega arith) told.end told.form;
        token = record { low = omega arith; high = high };
        depth = x;
      }

  pub unwatch_means : strings s ≡ some (take e s ∷ part (e + 1) b s ∷ []) →
      Means s (Unwatch p (e + 1) b) (λ (c : Connection). unwatch_payload (domain_of c) (strings s))
  unfolding meant unwatch_payload
  unwatch_means all =
      record {
        meaning = λ c. sym (ap (unwatch_payload (domain_of c)) all ∙ rw (place_at_lem (domain_of c), unwatch_payload));
        sound = watch-sound None tt;
      }

  pub watch_unfit : (k : ℕ) → depth_fits p k ≡ false →
      Means s Invalid (λ (c : Connection). watch_of (place_of (domain_of c) (given (take e s))) (part (e + 1) b s) (some k))
  unfolding watch_of watching_to
  watch_unfit k f = invalid_means s _ (λ c. rw (place_at_lem (domain_of c), depth_at (domain_of c) k ∙ f))

  -- the depths that the path takes
  abbrev pub Fits : std.Option ℕ → Type 0
  Fits (Some k) = depth_fits p k ≡ true
  Fits None = Unit

  pub watch_means : (k : std.Option ℕ) → Fits k → DepthSound k →
      Means s (Watch p (e + 1) b k) (λ (c : Connection). watch_of (place_of (domain_of c) (given (take e s))) (part (e + 1) b s) (options.meant k))
  unfolding meant watch_of watching_to
  watch_means (Some k) f x =
      record { meaning = λ c. sym (rw (place_at_lem (domain_of c), depth_at (domain_of c) k ∙ f)); sound = watch-sound (Some k) x }
  watch_means None f x = record { meaning = λ c. sym (rw (place_at_lem (domain_of c))); sound = watch-sound None x }

-- ── two strings, and three ──

module _ (s : Octets) (a b : ℕ) where
  abbrev asked : Option ℕ → Connection → Parsed
  asked k = λ (c : Connection). watch_of (place_of (domain_of c) (given (take a s))) (part (a + 1) b s) k

  pub watch_two : (r : Request) → strings s ≡ some (take a s ∷ part (a + 1) b s ∷ []) → Means s r (asked none) →
      Means s r (λ (c : Connection). watch_payload (domain_of c) (strings s))
  unfolding watch_of watch_payload
  watch_two r all m = means_as _ m (λ c. by (domain_of c) (place_of (domain_of c) (given (take a s))) refl ∙ sym (ap (watch_payload (domain_of c)) all))
    where
      by : (d : Domain) (o : Option Place) → place_of d (given (take a s)) ≡ o →
          watch_of (place_of d (given (take a s))) (part (a + 1) b s) none ≡ watch_payload d (some (take a s ∷ part (a + 1) b s ∷ []))
      by d none f = rw (f, watch_payload)
      by d (some p) f = rw (f, watch_payload)

  module _ (n : ℕ) (all : strings s ≡ some (take a s ∷ part (a + 1) b s ∷ part (b + 1) n s ∷ [])) where
    three_at : (d : Domain) (k : Option ℕ) → number_in 0 deepest_watch (part (b + 1) n s) ≡ k →
        watch_payload d (strings s) ≡ elim (place_of d (given (take a s))) [ none ↦ invalid | some p ↦ watching_to p (part (a + 1) b s) k ]
    unfolding watch_payload
    three_at d k h =
        ap (watch_payload d) all
        ∙ ap (λ (x : Option ℕ). elim (place_of d (given (take a s))) [ none ↦ invalid | some p ↦ watching_to p (part (a + 1) b s) x ]) h

    pub watch_no_depth : number_in 0 deepest_watch (part (b + 1) n s) ≡ none → Means s Invalid (λ (c : Connection). watch_payload (domain_of c) (strings s))
    unfolding watching_to
    watch_no_depth h = invalid_means s _ (λ c. three_at (domain_of c) none h ∙ by (place_of (domain_of c) (given (take a s))))
      where
        by : (o : Option Place) → elim o [ none ↦ invalid | some p ↦ watching_to p (part (a + 1) b s) none ] ≡ invalid
        by none = refl
        by (some p) = refl

    pub watch_three : (r : Request) (k : ℕ) → number_in 0 deepest_watch (part (b + 1) n s) ≡ some k → (DepthSound (Some k) → Means s r (asked (some k))) →
        Means s r (λ (c : Connection). watch_payload (domain_of c) (strings s))
    unfolding watch_of
    watch_three r k h m =
        means_as _ (m (range_bounds _ _ _ _ h).1)
        (λ c. by (place_of (domain_of c) (given (take a s))) ∙ sym (three_at (domain_of c) (some k) h))
      where
        by : (o : Option Place) → watch_of o (part (a + 1) b s) (some k) ≡ elim o [ none ↦ invalid | some p ↦ watching_to p (part (a + 1) b s) (some k) ]
        by none = refl
        by (some p) = refl

-- ── payloads of another number of strings ──

module _ (s : Octets) where
  pub watch_other : ((a b : ℕ) → parts_of (strings s) ≡ Two a b → ⊥) → ((a b c : ℕ) → parts_of (strings s) ≡ Three a b c → ⊥) →
      Means s Invalid (λ (c : Connection). watch_payload (domain_of c) (strings s))
  unfolding parts_of watch_payload
  watch_other g h = invalid_means s _ (λ c. by (domain_of c) (strings s) g h)
    where
      by : (d : Domain) (o : Option (List Octets)) → ((a b : ℕ) → parts_of o ≡ Two a b → ⊥) → ((a b c : ℕ) → parts_of o ≡ Three a b c → ⊥) →
          watch_payload d o ≡ invalid
      by d none g h = refl
      by d (some []) g h = refl
      by d (some (x ∷ [])) g h = refl
      by d (some (x ∷ y ∷ [])) g h = absurd (g _ _ refl)
      by d (some (x ∷ y ∷ z ∷ [])) g h = absurd (h _ _ _ refl)
      by d (some (x ∷ y ∷ z ∷ w ∷ ws)) g h = refl

  pub unwatch_other : ((a b : ℕ) → parts_of (strings s) ≡ Two a b → ⊥) → Means s Invalid (λ (c : Connection). unwatch_payload (domain_of c) (strings s))
  unfolding parts_of unwatch_payload
  unwatch_other h = invalid_means s _ (λ c. by (domain_of c) (strings s) h)
    where
      by : (d : Domain) (o : Option (List Octets)) → ((a b : ℕ) → parts_of o ≡ Two a b → ⊥) → unwatch_payload d o ≡ invalid
      by d none h = refl
      by d (some []) h = refl
      by d (some (x ∷ [])) h = refl
      by d (some (x ∷ y ∷ [])) h = absurd (h _ _ refl)
      by d (some (x ∷ y ∷ z ∷ zs)) h = refl
