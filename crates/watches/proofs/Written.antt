-- Watches added and taken out: what a written place leaves.
use mathlib.Core.Path.{◌≡◌, refl, sym, ap, ◌∙◌}
use mathlib.Core.Bool.{Bool, true, false}
use mathlib.Core.List.{List, [], ◌∷◌, ◌++◌}
use mathlib.Core.Option.{none, some}
use Prim.Native.Nat.{ℕ, suc, ◌+◌, ◌*◌, ◌/◌, ◌%◌, ◌≤◌, ◌<◌}
use native.Mathlib.Omega.{arith}
use mir.Val.{bool_byte}
use lib.ListN.{length, get_or, set, replicate}
use Rattle.rules.specs.Size.{most_watches, watch_fields_size, token_at, watch_size, watches_size, longest_path, longest_token}
use Rattle.rules.specs.Octets.{Octets, same, paste, padded, bit}
use Rattle.rules.specs.Entries.{without}
use Rattle.rules.specs.Path.{Connection, absolute, special, names_in}
use Rattle.rules.specs.Event.{Watch, place_text}
use Rattle.rules.specs.Layout.{Domains, is_relative, place_in, watch_bytes, watch_in, watches_bytes, watches_of}
use Rattle.rules.specs.Sound.{good_watches, sound_watches}
use Rattle.rules.proofs.PathLaws as P
use Rattle.rules.proofs.PathLaws.{full-given}
use Rattle.rules.proofs.Paste.{paste_sets, paste_append}
use Rattle.rules.proofs.EntryLayouts.{PlaceFits, DepthFits, watch-read}
use Rattle.domains.specs.Entry.{taken, passes, entry_or}
use Rattle.watches.specs.Watch.{KeptWatches, Placed, full, named, FitWatch, watch_given}
use Rattle.octets.specs.Options.{meant}
use Rattle.std.specs.Prelude.{Some, None, unwrap_or}
use Rattle.std.specs.Prelude as code
use Rattle.domains.specs.Freed.{freed_from, Freed}
use Rattle.domains.proofs.FreeLaws.{kept_freed, freed_where}
use Rattle.rules.proofs.Slots.{length-padded}
use Rattle.domains.proofs.Rows.{Writable, wrote, wrote_kept, without-kept, same_kept, checked-kept}
use Rattle.watches.proofs.Bytes.{place-given, Narrow, watch-parts, narrow_width, none-width, watch-wide}

-- ── what a place can hold ──

-- what a text means, as a place
pub record Meant (r : Bool) (x : Octets) : Type 0 where
  pub text : place_text (place_in r x) ≡ x
  pub mark : is_relative (place_in r x) ≡ r
  pub fits : length x ≤ longest_path → PlaceFits (place_in r x)

pub placed : (r : Bool) (x : Octets) → Placed r x → Meant r x
unfolding place_text is_relative
placed r x (full f) =
    let e = place-given r x (absolute (names_in x)) (full-given x f) in
    let m = P.full x f in
    record { text = ap place_text e ∙ sym m.text; mark = ap is_relative e; fits = λ l. rw e (m.names, rw (← m.text) l) }
placed r x (named e z) =
    let p = place-given r x (special x) e in
    record { text = ap place_text p; mark = ap is_relative p ∙ sym z; fits = λ l. rw p (e, l) }

-- six stores in a row
pub paste_six : (i a b c d e f : ℕ) (xs : Octets) → i + watch_fields_size ≤ length xs →
    set (set (set (set (set (set xs i a) (i + 1) b) (i + 2) c) (i + 3) d) (i + 4) e) (i + 5) f ≡ paste i (a ∷ b ∷ c ∷ d ∷ e ∷ f ∷ []) xs
paste_six i a b c d e f xs h =
    let e₁ : i + 1 ≡ suc i = omega arith in
    let e₂ : i + 2 ≡ suc (suc i) = omega arith in
    let e₃ : i + 3 ≡ suc (suc (suc i)) = omega arith in
    let e₄ : i + 4 ≡ suc (suc (suc (suc i))) = omega arith in
    let e₅ : i + 5 ≡ suc (suc (suc (suc (suc i)))) = omega arith in
    rw (e₁, e₂, e₃, e₄, e₅) (paste_sets i (a ∷ b ∷ c ∷ d ∷ e ∷ f ∷ []) xs h)

pub marks_are : (r g : Bool) → 128 + 64 * bool_byte r + 32 * bool_byte g ≡ 128 + 64 * bit r + 32 * bit g
marks_are true true = refl
marks_are true false = refl
marks_are false true = refl
marks_are false false = refl

-- a depth in the code's terms: whether it was given, and its levels
pub given-taken : (d : code.Option ℕ) → code.is_some d ≡ taken (meant d)
unfolding taken
given-taken (Some k) = refl
given-taken None = refl

pub given-levels : (d : code.Option ℕ) → unwrap_or d 0 ≡ entry_or 0 (meant d)
unfolding entry_or
given-levels (Some k) = refl
given-levels None = refl

depth-fits : (d : code.Option ℕ) → entry_or 0 (meant d) < 256 → DepthFits (meant d)
unfolding entry_or
depth-fits (Some k) h = h
depth-fits None h = tt

module _ (c : Connection) (x : Octets) (r : Bool) (d : code.Option ℕ) (t : Octets) (f : FitWatch c x r t) (below : entry_or 0 (meant d) < 256) where
  abbrev w : Watch
  w = watch_given c x r d t

  given_narrow : Narrow w
  unfolding watch_given
  given_narrow = record { owner = f.owner; depth = below; path = rw (placed r x f.placed).text f.path; token = f.few }

  given-parts : (first depth : ℕ) → first ≡ 128 + 64 * bit r + 32 * bit (taken (meant d)) → depth ≡ entry_or 0 (meant d)
      → watch_bytes (some w) ≡ (first ∷ depth ∷ (c / 256 % 256) ∷ (c % 256) ∷ (length x / 2 % 256) ∷ (length x % 2 * 128 + length t) ∷ [])
      ++ (padded longest_path x ++ padded longest_token t)
  unfolding watch_given
  given-parts first depth p q = watch-parts w given_narrow ∙ rw ((placed r x f.placed).text, (placed r x f.placed).mark, p, q)

  given_back : watch_in (watch_bytes (some w)) ≡ some w
  unfolding watch_given
  given_back = watch-read (some w) (record { owner = f.owner; depth = depth-fits d below; token = f.few; place = (placed r x f.placed).fits f.path })

empty : Writable watch_bytes watch_in watch_size watch-wide none
empty = record { width = none-width; back = watch-read none tt }

none_zero : watch_bytes none ≡ replicate watch_size 0
unfolding watch_bytes
none_zero = refl

module _ (s : Octets) (c : KeptWatches s) (k : ℕ) (h : k < most_watches) where
  -- where place k begins
  abbrev at : ℕ
  at = k * watch_size

  module _ (o : Connection) (x : Octets) (r : Bool) (d : code.Option ℕ) (t : Octets) (f : FitWatch o x r t) (below : entry_or 0 (meant d) < 256) where
    -- three parts put in, the last first
    pub put_watch : (first depth : ℕ) → first ≡ 128 + 64 * bit r + 32 * bit (taken (meant d)) → depth ≡ entry_or 0 (meant d)
        → paste at (first ∷ depth ∷ (o / 256 % 256) ∷ (o % 256) ∷ (length x / 2 % 256) ∷ (length x % 2 * 128 + length t) ∷ [])
        (paste (at + watch_fields_size) (padded longest_path x) (paste (at + token_at) (padded longest_token t) s))
        ≡ watches_bytes (set (watches_of s) k (some (watch_given o x r d t)))
    unfolding watches_of watches_bytes
    put_watch first depth p q =
        let six = first ∷ depth ∷ (o / 256 % 256) ∷ (o % 256) ∷ (length x / 2 % 256) ∷ (length x % 2 * 128 + length t) ∷ [] in
        let whole = c.whole in
        let l = length-padded longest_path x f.path in
        let e : at + watch_fields_size + longest_path ≡ at + token_at = omega arith in
        let inner = paste_append (at + watch_fields_size) (padded longest_path x) (padded longest_token t) s (rw l (omega arith)) in
        sym
        (wrote watch_bytes watch_in watch_size watch-wide most_watches s c k (some (watch_given o x r d t)) h (narrow_width _ (given_narrow o x r d t f below))
        ∙ ap (λ (b : Octets). paste at b s) (given-parts o x r d t f below first depth p q)
        ∙ paste_append at six (padded longest_path x ++ padded longest_token t) s (omega arith)
        ∙ ap (paste at six) (rw (l, e) at inner))

    -- what the bytes are and mean after a watch is put in
    pub put_kept : (b : Octets) → b ≡ watches_bytes (set (watches_of s) k (some (watch_given o x r d t)))
        → KeptWatches b × (watches_of b ≡ set (watches_of s) k (some (watch_given o x r d t)))
    unfolding watches_of watches_bytes
    put_kept =
        wrote_kept watch_bytes watch_in watch_size watch-wide most_watches s c k (some (watch_given o x r d t))
        (record { width = narrow_width _ (given_narrow o x r d t f below); back = given_back o x r d t f below })

-- what places freed leave, whatever was asked of them
module _ (s : Octets) (c : KeptWatches s) where
  pub freed-kept : (answers : List Bool) → length answers ≤ most_watches → KeptWatches (freed_from watch_size 0 answers s)
  freed-kept answers h = kept_freed watch_bytes watch_in watch_size watch-wide most_watches empty none_zero 0 answers s (omega arith) c

  pub freed-watches : (test : Watch → Bool) (says : Octets → ℕ → Bool → Type 0)
      → ((t : Octets) (i : ℕ) (b : Bool) → KeptWatches t → i < most_watches → says t i b → b ≡ passes test (get_or (watches_of t) i none))
      → (t : Octets) → Freed watch_size says most_watches s t → t ≡ watches_bytes (without test (watches_of s))
  unfolding watches_of watches_bytes
  freed-watches test says told t = freed_where watch_bytes watch_in watch_size watch-wide most_watches empty none_zero test says told s t c

pub kept_of : (s : Octets) → length s ≡ watches_size → same (watches_bytes (watches_of s)) s ≡ true → KeptWatches s
unfolding watches_of watches_bytes
kept_of s w e = same_kept watch_bytes watch_in watch_size watch-wide most_watches s w e

pub sound-kept : (ds : Domains) (s : Octets) → sound_watches ds s ≡ true → KeptWatches s
unfolding sound_watches watches_of watches_bytes
sound-kept ds s h = checked-kept watch_bytes watch_in watch_size watch-wide most_watches s (good_watches ds (watches_of s)) h

pub kept-watches : (s : Octets) → KeptWatches s → watches_bytes (watches_of s) ≡ s
unfolding watches_of watches_bytes
kept-watches s c = c.same

-- what the bytes are and mean after entries are taken out
pub without-watches : (s : Octets) → KeptWatches s → (test : Watch → Bool) (t : Octets) → t ≡ watches_bytes (without test (watches_of s))
    → KeptWatches t × (watches_of t ≡ without test (watches_of s))
unfolding watches_of watches_bytes
without-watches s c = without-kept watch_bytes watch_in watch_size watch-wide most_watches s c empty
