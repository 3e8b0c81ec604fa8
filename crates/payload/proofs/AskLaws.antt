-- What a node request's path means, and what is asked of it.
use mathlib.Core.Path.{◌≡◌, refl, ap, sym, subst⁻¹, ◌∙◌}
use mathlib.Core.Bool.{Bool, true, false, cond}
use mathlib.Core.List.{List, [], ◌∷◌}
use mathlib.Core.Option.{Option, none, some}
use mathlib.Core.Logic.{◌⊎◌, ⊎_elim}
use Prim.Native.Nat.{ℕ, ◌+◌, ◌<◌, ◌≤◌}
use native.Mathlib.Omega.{arith}
use lib.Dec.{eqb}
use lib.ListN.{length, take, drop}
use lib.Seq.{length-take-le}
use borrow.Author.Tests.{ne_eqb}
use Rattle.std.specs.Prelude.{Some, None, unwrap_or}
use Rattle.std.specs.Prelude as std
use Rattle.rules.specs.Octets.{Octets}
use Rattle.rules.specs.Path.{Domain, Connection, domain_of, Names, Given, malformed, absolute, relative, special, given, base, path_text, slashed}
use Rattle.rules.specs.Path.{all_names}
use Rattle.rules.specs.Payload as rules
use Rattle.rules.specs.Payload.{Parsed, invalid, request, names_of, proper, on_root, asking, plain, writing, strings, first_string}
use Rattle.rules.proofs.PathLaws.{given-full, no_empty_name}
use Rattle.paths.specs.Form.{form_of}
use Rattle.paths.specs.declared.answer.Form.{Form}
use Rattle.paths.specs.declared.answer.Form.TheVariants.{Absolute, Relative, Special, Malformed}
use Rattle.payload.specs.Parts.{parts_of}
use Rattle.payload.specs.Meaning.{names_from, names_at, ask_meant, meant, PathSound, AskSound, Means, Parses, Sound}
use Rattle.payload.specs.Answers.{named_of, is_root, asking_of}
use Rattle.payload.specs.declared.answer.Path.{Path}
use Rattle.payload.specs.declared.answer.Entries.{Entries}
use Rattle.payload.specs.declared.answer.Ask.{Ask}
use Rattle.payload.specs.declared.answer.Ask.TheVariants as ask
use Rattle.payload.specs.declared.answer.Request.{Request}
use Rattle.payload.specs.declared.answer.Request.TheVariants.{Invalid, Ask as Asked}
use Rattle.payload.specs.declared.parts.Parts.TheVariants.{One}
use Rattle.payload.proofs.CursorLaws.{Untold}

-- what is asked of some names
abbrev pub asked_for : rules.Ask → Names → Parsed
asked_for a ns = cond (proper a ns) (request (rules.ask a ns)) invalid

-- a path that a node request takes: its place, and its names
pub record IsNamed (s : Octets) (e : ℕ) (p : Path) : Type 0 where
  pub end : p.end ≡ e
  pub form : form_of (given (take e s)) ≡ p.form
  pub names : (d : Domain) → names_of d (given (take e s)) ≡ some (names_from d (given (take e s)))

pub at_path : {p : Path} {e : ℕ} {f : Form} → Some (record { end = e; form = f }) ≡ Some p → (p.end ≡ e) × (f ≡ p.form)
at_path {p} {e} {f} h =
    let q : ◌≡◌ {A = Path} (record { end = e; form = f }) p = cc in
    (sym (ap (λ (x : Path). x.end) q), ap (λ (x : Path). x.form) q)

named_by : (s : Octets) (e : ℕ) (p : Path) (g : Given) → given (take e s) ≡ g → named_of e (form_of g) ≡ Some p → IsNamed s e p
unfolding named_of form_of names_of names_from
named_by s e p malformed f h = absurd (let z : ◌≡◌ {A = ℕ} 0 1 = cc in omega arith)
named_by s e p (absolute ns) f h = record { end = (at_path h).0; form = rw f (at_path h).1; names = λ d. rw f }
named_by s e p (relative ns) f h = record { end = (at_path h).0; form = rw f (at_path h).1; names = λ d. rw f }
named_by s e p (special t) f h = absurd (let z : ◌≡◌ {A = ℕ} 0 1 = cc in omega arith)

pub named-told : (s : Octets) (e : ℕ) (p : Path) → named_of e (form_of (given (take e s))) ≡ Some p → IsNamed s e p
named-told s e p h = named_by s e p (given (take e s)) refl h

asking-named : (d : Domain) (a : rules.Ask) (s : Octets) (e : ℕ) (p : Path) → IsNamed s e p →
    asking d a (take e s) ≡ asked_for a (names_from d (given (take e s)))
unfolding asking
asking-named d a s e p h = rw (h.names d, asking)

unnamed_by : (d : Domain) (e : ℕ) (g : Given) → named_of e (form_of g) ≡ None → names_of d g ≡ none
unfolding named_of form_of names_of
unnamed_by d e malformed h = refl
unnamed_by d e (absolute ns) h = absurd (let z : ◌≡◌ {A = ℕ} 0 1 = cc in omega arith)
unnamed_by d e (relative ns) h = absurd (let z : ◌≡◌ {A = ℕ} 0 1 = cc in omega arith)
unnamed_by d e (special t) h = refl

pub asking_not : (d : Domain) (a : rules.Ask) (s : Octets) (e : ℕ) → named_of e (form_of (given (take e s))) ≡ None → asking d a (take e s) ≡ invalid
unfolding asking
asking_not d a s e h = rw (unnamed_by d e (given (take e s)) h, asking)

-- ── the root ──

is_root_lem : (p : Path) (f : Form) → p.form ≡ f → is_root p ≡ elim f [ Absolute ↦ eqb p.end 1 | Relative ↦ false | Special ↦ false | Malformed ↦ false ]
unfolding is_root
is_root_lem p f h = rw h

long_path : (n : Octets) (ns : Names) → all_names (n ∷ ns) ≡ true → 1 < length (path_text (n ∷ ns))
unfolding path_text slashed
long_path [] ns h = absurd (no_empty_name ns h)
long_path (c ∷ n) ns h = omega arith

-- the text of a full path is one byte long at the root alone
root-text : (t : Octets) (a : rules.Ask) (ns : Names) → given t ≡ absolute ns → proper a ns ≡ cond (eqb (length t) 1) (on_root a) true
unfolding proper path_text
root-text t a [] f = rw (given-full t [] f).text
root-text t a (n ∷ ns) f =
    let full = given-full t (n ∷ ns) f in
    let l = long_path n ns full.names in
    let g : length t ≡ length (path_text (n ∷ ns)) = ap length full.text in
    rw (ne_eqb (length t) 1 (λ k. omega arith))

root_by : (d : Domain) (a : rules.Ask) (s : Octets) (e : ℕ) (p : Path) (g : Given) → e ≤ length s → given (take e s) ≡ g → named_of e (form_of g) ≡ Some p →
    proper a (names_from d g) ≡ cond (is_root p) (on_root a) true
unfolding named_of form_of names_from proper base
root_by d a s e p malformed k f h = absurd (let z : ◌≡◌ {A = ℕ} 0 1 = cc in omega arith)
root_by d a s e p (absolute ns) k f h =
    let l : length (take e s) ≡ p.end = length-take-le e s k ∙ sym (at_path h).0 in
    root-text (take e s) a ns f ∙ rw (l, is_root_lem p Absolute (sym (at_path h).1))
root_by d a s e p (relative ns) k f h = rw (is_root_lem p Relative (sym (at_path h).1))
root_by d a s e p (special t) k f h = absurd (let z : ◌≡◌ {A = ℕ} 0 1 = cc in omega arith)

pub root-proper : (d : Domain) (a : rules.Ask) (s : Octets) (e : ℕ) (p : Path) → e ≤ length s → named_of e (form_of (given (take e s))) ≡ Some p →
    proper a (names_from d (given (take e s))) ≡ cond (is_root p) (on_root a) true
root-proper d a s e p k h = root_by d a s e p (given (take e s)) k refl h

-- ── meanings ──

pub invalid_means : (s : Octets) (q : Connection → Parsed) → ((c : Connection) → q c ≡ invalid) → Means s Invalid q
unfolding meant
invalid_means s q h = record { meaning = λ c. sym (h c); sound = tt }

-- a meaning said otherwise
pub means_as : {s : Octets} {r : Request} {q : Connection → Parsed} (q' : Connection → Parsed) → Means s r q → ((c : Connection) → q c ≡ q' c) → Means s r q'
means_as q' m h = record { meaning = λ c. m.meaning c ∙ h c; sound = m.sound }

pub sound_at : (s : Octets) (e : ℕ) (p : Path) → e < length s → p.end ≡ e → form_of (given (take e s)) ≡ p.form → PathSound s p
sound_at s e p k h f =
    record {
      inside = subst⁻¹ (λ (n : ℕ). n < length s) h k;
      form = ap (λ (n : ℕ). form_of (given (take n s))) h ∙ f;
    }

-- ── what is asked of a path ──

-- the root refuses to no one but RM and SET_PERMS
pub open_else : (s : Octets) (a : Ask) → (a ≡ ask.Rm → ⊥) → ((es : Entries) → a ≡ ask.SetPerms es → ⊥) → on_root (ask_meant s a) ≡ true
unfolding on_root
open_else s ask.Directory f g = refl
open_else s ask.Read f g = refl
open_else s ask.GetPerms f g = refl
open_else s (ask.Write from) f g = refl
open_else s ask.Mkdir f g = refl
open_else s ask.Rm f g = absurd (f refl)
open_else s (ask.SetPerms es) f g = absurd (g es refl)

module _ (s : Octets) (e : ℕ) (p : Path) (k : e < length s) (h : named_of e (form_of (given (take e s))) ≡ Some p) where
  told : IsNamed s e p
  told = named-told s e p h

  path-sound : PathSound s p
  path-sound = sound_at s e p k told.end told.form

  asking_at : (d : Domain) (a : rules.Ask) → asked_for a (names_at d s p) ≡ asking d a (take e s)
  asking_at d a = ap (λ (n : ℕ). asked_for a (names_from d (given (take n s)))) told.end ∙ sym (asking-named d a s e p told)

  root_at : (d : Domain) (a : rules.Ask) → proper a (names_at d s p) ≡ cond (is_root p) (on_root a) true
  root_at d a =
      ap (λ (n : ℕ). proper a (names_from d (given (take n s)))) told.end ∙ root-proper d a s e p (omega arith) h

  module _ (a : Ask) (b : Bool) (o : cond (is_root p) (on_root (ask_meant s a)) true ≡ b) where
    is_proper : (d : Domain) → proper (ask_meant s a) (names_at d s p) ≡ b
    is_proper d = root_at d (ask_meant s a) ∙ o

    abbrev asked : Bool → Request
    asked c = unwrap_or (cond c (Some (Asked a p)) None) Invalid

    by_open : (c : Bool) → b ≡ c → (d : Domain) → meant d s (asked c) ≡ asked_for (ask_meant s a) (names_at d s p)
    unfolding meant
    by_open true f d = sym (rw (is_proper d ∙ f))
    by_open false f d = sym (rw (is_proper d ∙ f))

    sound_open : AskSound s a → (c : Bool) → b ≡ c → Sound s (asked c)
    sound_open x true f = record { path = path-sound; ask = x; proper = λ d. is_proper d ∙ f }
    sound_open x false f = tt

  pub asking_means : (a : Ask) (r : std.Option Request) → AskSound s a → r ≡ asking_of s a p →
      Parses s r (λ (c : Connection). asking (domain_of c) (ask_meant s a) (take e s))
  unfolding asking_of
  asking_means a r x t =
      record {
        meaning = λ c.
            ap (λ (o : std.Option Request). meant (domain_of c) s (unwrap_or o Invalid)) t
            ∙ (by_open a _ refl _ refl (domain_of c) ∙ asking_at (domain_of c) (ask_meant s a));
        sound = subst⁻¹ (λ (o : std.Option Request). Sound s (unwrap_or o Invalid)) t (sound_open a _ refl x _ refl);
      }

  pub plain_means : (a : Ask) (r : std.Option Request) → strings s ≡ some (take e s ∷ []) → AskSound s a → r ≡ asking_of s a p →
      Parses s r (λ (c : Connection). plain (domain_of c) (ask_meant s a) (strings s))
  unfolding plain
  plain_means a r all x t = means_as _ (asking_means a r x t) (λ c. sym (ap (plain (domain_of c) (ask_meant s a)) all))

  pub write_means : (rest : ℕ) (r : std.Option Request) → rest ≡ e + 1 → first_string s ≡ some (record { first = take e s; rest = drop (e + 1) s }) →
      r ≡ asking_of s (ask.Write rest) p → Parses s r (λ (c : Connection). writing (domain_of c) (first_string s))
  unfolding writing
  write_means rest r n f t =
      means_as _ (asking_means (ask.Write rest) r (omega arith) t)
      (λ c.
      ap (λ (n : ℕ). asking (domain_of c) (rules.write (drop n s)) (take e s)) n ∙ sym (ap (writing (domain_of c)) f))

-- a payload that is no path alone
pub plain_other : (s : Octets) (a : rules.Ask) → ((e : ℕ) → parts_of (strings s) ≡ One e → ⊥) →
    Means s Invalid (λ (c : Connection). plain (domain_of c) a (strings s))
unfolding parts_of plain
plain_other s a h = invalid_means s _ (λ c. by (domain_of c) (strings s) h)
  where
    by : (d : Domain) (o : Option (List Octets)) → ((e : ℕ) → parts_of o ≡ One e → ⊥) → plain d a o ≡ invalid
    by d none h = refl
    by d (some []) h = refl
    by d (some (x ∷ [])) h = absurd (h (length x) refl)
    by d (some (x ∷ y ∷ ys)) h = refl

module _ (s : Octets) (e : ℕ) (h : named_of e (form_of (given (take e s))) ≡ None) where
  pub plain_not : (a : rules.Ask) → strings s ≡ some (take e s ∷ []) → Means s Invalid (λ (c : Connection). plain (domain_of c) a (strings s))
  unfolding plain
  plain_not a all = invalid_means s _ (λ c. ap (plain (domain_of c) a) all ∙ asking_not (domain_of c) a s e h)

  pub write_not : first_string s ≡ some (record { first = take e s; rest = drop (e + 1) s }) →
      Means s Invalid (λ (c : Connection). writing (domain_of c) (first_string s))
  unfolding writing
  write_not f = invalid_means s _ (λ c. ap (writing (domain_of c)) f ∙ asking_not (domain_of c) (rules.write (drop (e + 1) s)) s e h)

-- a payload with no first string
pub write_other : (s : Octets) → Untold s 0 none ⊎ Untold s 0 (some []) → Means s Invalid (λ (c : Connection). writing (domain_of c) (first_string s))
unfolding writing
write_other s h =
    let f : first_string s ≡ none = ⊎_elim (λ (u : Untold s 0 none). u.none_first) (λ (u : Untold s 0 (some [])). u.none_first) h in
    invalid_means s _ (λ c. ap (writing (domain_of c)) f)
