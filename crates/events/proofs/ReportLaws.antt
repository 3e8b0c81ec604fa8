-- What a record's path is to a watch, and what the watch reports, by tests of its text.
use mathlib.Core.Path.{◌≡◌, refl, sym, ap, ◌∙◌}
use mathlib.Core.Bool.{Bool, true, false, cond, not, ◌&&◌, ◌||◌, true≢false, false≢true}
use mathlib.Core.List.{[], ◌∷◌, ◌++◌, append-nil}
use mathlib.Core.Option.{Option, none, some}
use Prim.Native.Nat.{ℕ, suc, ◌+◌, ◌-◌, ◌≤◌}
use native.Mathlib.Nat.{lt_of_not-le, le_of_suc-le-suc}
use native.Mathlib.Omega.{arith}
use lib.ListN.{length, take, drop, length-append, length-drop}
use lib.Seq.{take_all}
use lib.Dec.{ltb}
use borrow.Author.Tests.{eq-eqb, ne_eqb}
use Rattle.rules.specs.Size.{longest_path, last_domain}
use Rattle.rules.specs.Octets.{Octets, text, same, begins, decimal, number_in}
use Rattle.rules.specs.Domain.{Domain, Connection, domain_of}
use Rattle.rules.specs.Path.{Name, Names, base, slashed, path_text, fits, beyond, is_below}
use Rattle.rules.specs.Payload.{Place, path, event}
use Rattle.rules.specs.Event.{Watch, place_text}
use Rattle.rules.specs.Layout.{is_relative}
use Rattle.rules.specs.Sound.{strictly_below, good_place}
use Rattle.rules.specs.Message.{is_number, is_domain_path, concerns, cut, nearer, reported}
use Rattle.rules.proofs.Cases.{cond_case}
use Rattle.rules.proofs.Places.{nothing}
use Rattle.rules.proofs.Compare.{both_true, same_eq, begins-short}
use Rattle.rules.proofs.PathLaws.{beyond-rest}
use Rattle.rules.proofs.RelativeLaws.{slashed_append}
use Rattle.rules.proofs.EntryLayouts.{PlaceFits}
use Rattle.octets.specs.Options.{meant}
use Rattle.std.specs.Prelude as code
use Rattle.events.specs.Messages.{RoomToCut}
use Rattle.events.proofs.PlaceLaws.{path_slash, event_slash}

-- ── `/` and a domain id ──

pub domain_empty : (p : Octets) → length p ≡ 0 → false ≡ is_domain_path p
unfolding is_domain_path
domain_empty [] h = refl
domain_empty (c ∷ cs) h = absurd (omega arith)

pub domain_other : (c : ℕ) (cs : Octets) → (c ≡ 47 → ⊥) → false ≡ is_domain_path (c ∷ cs)
unfolding is_domain_path
domain_other c cs n = rw (ne_eqb c 47 n) refl

is_number_lem : (r : code.Option ℕ) → code.is_some r ≡ is_number (meant r)
unfolding is_number
is_number_lem (code.Some n) = refl
is_number_lem code.None = refl

pub domain-told : (c : ℕ) (cs : Octets) → c ≡ 47 → (r : code.Option ℕ) → meant r ≡ number_in 0 last_domain cs → code.is_some r ≡ is_domain_path (c ∷ cs)
unfolding is_domain_path
domain-told c cs h r q = is_number_lem r ∙ ap is_number q ∙ sym (rw (eq-eqb c 47 h) refl)

-- ── the base ──

pub base-length : (d : Domain) → length (path_text (base d)) + 1 ≡ 15 + length (decimal d)
unfolding base path_text slashed text
base-length d = rw (append-nil (decimal d)) (omega arith)

pub cut-whole : (r : Bool) (d : Domain) (p : Octets) → r ≡ false → p ≡ cut r d p
unfolding cut
cut-whole r d p e = rw e refl

pub cut-base : (r : Bool) (d : Domain) (p : Octets) (n : ℕ) → r ≡ true → n ≡ length (decimal d)
    → take (length p - (15 + n)) (drop (15 + n) p) ≡ cut r d p
unfolding cut
cut-base r d p n e h =
    let i : 15 + n ≡ suc (length (path_text (base d))) = omega (arith, base-length d) in
    take_all (length p - (15 + n)) (drop (15 + n) p) (rw length-drop (omega arith)) ∙ rw (e, i) refl

pub cut-same : {r q : Bool} {d e : Domain} {x y : Octets} → r ≡ q → d ≡ e → x ≡ y → cut r d x ≡ cut q e y
cut-same i j k = rw (i, j, k)

-- ── a watch's place, by its text ──

module _ (p : Octets) where
  pub concern_same : (l : Place) → same p (place_text l) ≡ true → true ≡ concerns p l
  unfolding concerns place_text
  concern_same (path r ns) e = rw e refl
  concern_same (event f) e = rw e refl

  pub concern_event : (l : Place) → same p (place_text l) ≡ false → begins (47 ∷ []) (place_text l) ≡ false → is_domain_path p ≡ concerns p l
  unfolding concerns place_text
  concern_event (path r ns) e s = absurd (true≢false (sym (path_slash ns) ∙ s))
  concern_event (event f) e s = rw e refl

  pub concern_below : (l : Place) → PlaceFits l → same p (place_text l) ≡ false → begins (47 ∷ []) (place_text l) ≡ true
      → is_below (place_text l) p ≡ true → true ≡ concerns p l
  unfolding concerns place_text
  concern_below (path r ns) f e s b = rw (e, b) refl
  concern_below (event g) f e s b = absurd (true≢false (sym s ∙ event_slash g f.0))

  pub concern_above : (l : Place) → PlaceFits l → same p (place_text l) ≡ false → begins (47 ∷ []) (place_text l) ≡ true
      → is_below (place_text l) p ≡ false → is_below p (place_text l) ≡ concerns p l
  unfolding concerns place_text
  concern_above (path r ns) f e s b = rw (e, b) refl
  concern_above (event g) f e s b = absurd (true≢false (sym s ∙ event_slash g f.0))

-- ── what is reported ──

module _ (p : Octets) where
  abbrev reported_by : Place → Option ℕ → Domain → Octets
  reported_by l m d = elim l [ path r ns ↦ cut r d (nearer (path_text ns) p) | event e ↦ elim m [ none ↦ e | some k ↦ p ] ]

  pub report_own : (w : Watch) → begins (47 ∷ []) (place_text w.place) ≡ false → w.depth ≡ none → place_text w.place ≡ reported w p
  unfolding reported place_text
  report_own w s e = go w.place w.depth s e
    where
      go : (l : Place) (m : Option ℕ) → begins (47 ∷ []) (place_text l) ≡ false → m ≡ none → place_text l ≡ reported_by l m (domain_of w.owner)
      go (path r ns) m s e = absurd (true≢false (sym (path_slash ns) ∙ s))
      go (event f) none s e = refl
      go (event f) (some k) s e = absurd (nothing (sym e))

  pub report_record : (w : Watch) (k : ℕ) → begins (47 ∷ []) (place_text w.place) ≡ false → w.depth ≡ some k → p ≡ reported w p
  unfolding reported place_text
  report_record w k s e = go w.place w.depth s e
    where
      go : (l : Place) (m : Option ℕ) → begins (47 ∷ []) (place_text l) ≡ false → m ≡ some k → p ≡ reported_by l m (domain_of w.owner)
      go (path r ns) m s e = absurd (true≢false (sym (path_slash ns) ∙ s))
      go (event f) none s e = absurd (nothing e)
      go (event f) (some j) s e = refl

  report_path : (w : Watch) → PlaceFits w.place → begins (47 ∷ []) (place_text w.place) ≡ true
      → cut (is_relative w.place) (domain_of w.owner) (nearer (place_text w.place) p) ≡ reported w p
  unfolding reported place_text is_relative
  report_path w f s = go w.place f s
    where
      go : (l : Place) → PlaceFits l → begins (47 ∷ []) (place_text l) ≡ true
          → cut (is_relative l) (domain_of w.owner) (nearer (place_text l) p) ≡ reported_by l w.depth (domain_of w.owner)
      go (path r ns) f s = refl
      go (event g) f s = absurd (true≢false (sym s ∙ event_slash g f.0))

  pub report_nearer : (w : Watch) → PlaceFits w.place → begins (47 ∷ []) (place_text w.place) ≡ true
      → is_below p (place_text w.place) ≡ true → cut (is_relative w.place) (domain_of w.owner) (place_text w.place) ≡ reported w p
  unfolding nearer
  report_nearer w f s b = sym (rw b) ∙ report_path w f s

  pub report_further : (w : Watch) → PlaceFits w.place → begins (47 ∷ []) (place_text w.place) ≡ true
      → is_below p (place_text w.place) ≡ false → cut (is_relative w.place) (domain_of w.owner) p ≡ reported w p
  unfolding nearer
  report_further w f s b = sym (rw b) ∙ report_path w f s

-- ── sizes ──

cut_short : (q : Bool) (d : Domain) (p : Octets) → length (cut q d p) ≤ length p
unfolding cut
cut_short q d p =
    let cut_off = length-drop (suc (length (path_text (base d)))) p in
    cond_case (λ (x : Octets). length x ≤ length p) q _ _ (omega (arith, cut_off)) (omega arith)

pub reported-short : (w : Watch) (p : Octets) → PlaceFits w.place → length p ≤ longest_path → length (reported w p) ≤ longest_path
unfolding reported nearer
reported-short w p f h = go w.place w.depth f
  where
    go : (l : Place) (m : Option ℕ) → PlaceFits l → length (reported_by p l m (domain_of w.owner)) ≤ longest_path
    go (path q ns) m f =
        let n : length (nearer (path_text ns) p) ≤ longest_path =
        cond_case (λ (x : Octets). length x ≤ longest_path) (is_below p (path_text ns)) _ _ f.1 h in
        omega (arith, cut_short q (domain_of w.owner) (nearer (path_text ns) p))
    go (event g) none f = f.1
    go (event g) (some j) f = h

-- ── room for the cut ──

begins-long : (a b : Octets) → begins a b ≡ true → length a ≤ length b
begins-long a b h = le_of_suc-le-suc (lt_of_not-le (λ l. true≢false (sym h ∙ begins-short a b l)))

below-long : (a s : Octets) → is_below a s ≡ true → length a ≤ length s
unfolding is_below
below-long a s h = go (same a (47 ∷ [])) h
  where
    go : (b : Bool) → cond b (begins a s && ltb 1 (length s)) (begins (a ++ (47 ∷ [])) s) ≡ true → length a ≤ length s
    go true h = begins-long a s (both_true (begins a s) (ltb 1 (length s)) h).0
    go false h = omega (arith, begins-long (a ++ (47 ∷ [])) s h, length-append a (47 ∷ []))

slashed-long : (n : Name) (ms : Names) → 1 ≤ length (slashed (n ∷ ms))
unfolding slashed
slashed-long n ms = omega arith

-- a path is long enough to have a domain's base and a slash cut off
abbrev LongEnough : Domain → Octets → Type 0
LongEnough d p = length (path_text (base d)) + 1 ≤ length p

base-before : (d : Domain) (ns : Names) (m : Option Names) → beyond (base d) ns ≡ m → strictly_below m ≡ true → LongEnough d (path_text ns)
unfolding strictly_below path_text base
base-before d ns none e h = absurd (false≢true h)
base-before d ns (some []) e h = absurd (false≢true h)
base-before d ns (some (n ∷ ms)) e h =
    rw (beyond-rest (base d) ns (n ∷ ms) e, slashed_append (base d) (n ∷ ms), length-append) (omega (arith, slashed-long n ms))

-- a relative watch's path is longer than its base and a slash
room-own : (c : Connection) (m : Option ℕ) (l : Place) → good_place c m l ≡ true → is_relative l ≡ true → LongEnough (domain_of c) (place_text l)
unfolding good_place is_relative place_text
room-own c m (path r ns) g e =
    let below = beyond (base (domain_of c)) ns in
    let q : (not r || strictly_below below) ≡ true = (both_true (fits ns) (not r || strictly_below below) g).1 in
    base-before (domain_of c) ns below refl (rw e at q)
room-own c m (event f) g e = absurd (false≢true e)

-- and so is the path of a record that concerns it and does not lie above it
room-record : (p : Octets) (c : Connection) (m : Option ℕ) (l : Place) → good_place c m l ≡ true → concerns p l ≡ true
    → is_below p (place_text l) ≡ false → is_relative l ≡ true → LongEnough (domain_of c) p
unfolding concerns is_relative place_text
room-record p c m (path r ns) g h b e = go (same p (path_text ns)) refl (is_below (path_text ns) p) refl h
  where
    own : LongEnough (domain_of c) (path_text ns)
    own = room-own c m (path r ns) g e

    go : (x : Bool) → same p (path_text ns) ≡ x → (y : Bool) → is_below (path_text ns) p ≡ y → (x || (y || is_below p (path_text ns))) ≡ true
        → LongEnough (domain_of c) p
    go true q y i h = rw (same_eq p (path_text ns) q) own
    go false q true i h = let l = below-long (path_text ns) p i in omega (arith, own)
    go false q false i h = absurd (true≢false (sym h ∙ b))
room-record p c m (event f) g h b e = absurd (false≢true e)

module _ (w : Watch) (g : good_place w.owner w.depth w.place ≡ true) where
  module _ {r : Bool} {d : Domain} (i : r ≡ is_relative w.place) (j : d ≡ domain_of w.owner) where
    pub nearer-room : {x : Octets} → x ≡ place_text w.place → RoomToCut r d x
    nearer-room k = record { long = λ e. rw (j, k) (room-own w.owner w.depth w.place g (sym i ∙ e)) }

    pub further_room : (p : Octets) → concerns p w.place ≡ true → is_below p (place_text w.place) ≡ false → RoomToCut r d p
    further_room p h b = record { long = λ e. rw j (room-record p w.owner w.depth w.place g h b (sym i ∙ e)) }
