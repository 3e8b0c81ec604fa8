-- The texts of paths and places that a payload gives.
use mathlib.Core.Path.{◌≡◌, refl, sym, ap, subst, ◌∙◌}
use mathlib.Core.Bool.{Bool, true, false, not, cond, ◌&&◌, false≢true, true≢false}
use mathlib.Core.List.{[], ◌++◌}
use Prim.Native.Nat.{ℕ, ◌+◌, ◌≤◌}
use native.Mathlib.Nat.{zero-add}
use native.Mathlib.Omega.{arith}
use lib.ListN.{length, take, drop, set, length-append}
use lib.Seq.{length-take-le, take_at}
use Rattle.rules.specs.Octets.{Octets, paste}
use Rattle.rules.specs.Domain.{Domain, Connection, domain_of, is_control}
use Rattle.rules.specs.Path.{Names, Given, malformed, absolute, relative, special, given, all_names, is_full, names_in, base, split, path_text}
use Rattle.rules.specs.Payload.{path}
use Rattle.rules.specs.Answer.{EACCES, refused}
use Rattle.rules.specs.Event.{place_text}
use Rattle.rules.specs.Layout.{place_in}
use Rattle.rules.specs.World as W
use Rattle.rules.specs.World.{World, left, for_control, for_place}
use Rattle.rules.proofs.Joined.{set-paste}
use Rattle.rules.proofs.PathLaws.{full, full-given, given-names, text-given, given_is_full}
use Rattle.octets.specs.Numbers.{Put}
use Rattle.paths.specs.Form.{form_of}
use Rattle.paths.specs.Full.{base_text}
use Rattle.paths.specs.declared.answer.Form.{Form}
use Rattle.paths.specs.declared.answer.Form.TheVariants.{Absolute, Relative, Special, Malformed}
use Rattle.paths.proofs.FormLaws.{form-absolute, form-relative, form-special, form-malformed}
use Rattle.paths.proofs.FullLaws.{full-text, full-given as relative-given}
use Rattle.payload.specs.Meaning.{names_from, place_from, given_at, names_at, place_at, PathSound}
use Rattle.payload.specs.declared.answer.Path.{Path}
use Rattle.handlers.specs.Watching.{PlacedAs, NamedSo}
use Rattle.handlers.proofs.WatchingLaws.{place-full, place-named}
use Rattle.requests.specs.Place.{is_special, is_relative}

-- ── the front of a buffer ──

module _ (ys before after : Octets) (n : ℕ) (q : Put 0 ys before after n) (e : length after ≡ length before) where
  pub put_within : n ≤ length after
  unfolding paste
  put_within = omega (arith, q.behind, simp length-append at (ap length q.bytes))

  pub put_long : n ≡ length (take n after)
  put_long = sym (length-take-le n after put_within)

  pub put_front : take n after ≡ ys
  unfolding paste
  put_front = ap (take n) q.bytes ∙ take_at ys (drop (0 + length ys) before) n (sym (q.behind ∙ zero-add (length ys)))

-- ── full paths ──

pub root_put : (l : Octets) → 1 ≤ length l → Put 0 (path_text []) l (set l 0 47) 1
unfolding path_text
root_put l h = record { bytes = set-paste l 0 47 h; behind = refl }

module _ (s : Octets) (p : Path) (d : Domain) (k : PathSound s p) where
  pub path-long : length (take p.end s) ≡ p.end
  path-long = length-take-le p.end s (omega (arith, k.inside))

  pub absolute-names : p.form ≡ Absolute → path_text (names_at d s p) ≡ take p.end s
  unfolding names_from
  absolute-names f =
      let h = form-absolute (take p.end s) (k.form ∙ f) in
      ap (λ (g : Given). path_text (names_from d g)) (full-given (take p.end s) h) ∙ sym (full (take p.end s) h).text

  pub absolute_put : p.form ≡ Absolute → (l l' : Octets) → l' ≡ paste 0 (take p.end s) l → Put 0 (path_text (names_at d s p)) l l' p.end
  absolute_put f l l' e = rw (absolute-names f) (record { bytes = e; behind = sym (zero-add _ ∙ path-long) })

  pub relative_put : p.form ≡ Relative → (l l' : Octets) (n : ℕ) → Put 0 (base_text d ++ take p.end s) l l' n → Put 0 (path_text (names_at d s p)) l l' n
  unfolding names_from
  relative_put f l l' n q =
      let h = form-relative (take p.end s) (k.form ∙ f) in
      let e : path_text (names_at d s p) ≡ base_text d ++ take p.end s = ap (λ (g : Given). path_text (names_from d g)) h
      ∙ sym (full-text d (take p.end s) _ h) in
      rw e q

  -- what is no path of a node has no names
  rooted : (g : Given) → given_at s p ≡ g → names_from d g ≡ [] → (l l' : Octets) (n : ℕ) → Put 0 (path_text []) l l' n
      → Put 0 (path_text (names_at d s p)) l l' n
  rooted g e z l l' n q = rw (e, z) q

  pub special-root : p.form ≡ Special → (l l' : Octets) (n : ℕ) → Put 0 (path_text []) l l' n → Put 0 (path_text (names_at d s p)) l l' n
  unfolding names_from
  special-root f = rooted _ (form-special (take p.end s) (k.form ∙ f)) refl

  pub malformed-root : p.form ≡ Malformed → (l l' : Octets) (n : ℕ) → Put 0 (path_text []) l l' n → Put 0 (path_text (names_at d s p)) l l' n
  unfolding names_from
  malformed-root f = rooted _ (form-malformed (take p.end s) (k.form ∙ f)) refl

  -- it is the text of its names
  pub names-given : given (path_text (names_at d s p)) ≡ absolute (names_at d s p)
  unfolding names_from all_names path_text
  names-given = go p.form refl
    where
      at : (ns : Names) → names_at d s p ≡ ns → given (path_text ns) ≡ absolute ns → given (path_text (names_at d s p)) ≡ absolute (names_at d s p)
      at ns e h = rw e h

      go : (x : Form) → p.form ≡ x → given (path_text (names_at d s p)) ≡ absolute (names_at d s p)
      go Absolute q =
          let h = form-absolute (take p.end s) (k.form ∙ q) in
          let g = full-given (take p.end s) h in
          at _ (ap (names_from d) g) (subst (λ (x : Octets). given x ≡ absolute (names_in (take p.end s))) (full (take p.end s) h).text g)
      go Relative q =
          let h = form-relative (take p.end s) (k.form ∙ q) in
          at _ (ap (names_from d) h) (subst (λ (x : Octets). given x ≡ absolute (base d ++ split (take p.end s))) (full-text d (take p.end s) _ h)
          (relative-given d (take p.end s) _ h))
      go Special q = at [] (ap (names_from d) (form-special (take p.end s) (k.form ∙ q))) (text-given [] refl (omega arith))
      go Malformed q = at [] (ap (names_from d) (form-malformed (take p.end s) (k.form ∙ q))) (text-given [] refl (omega arith))

  -- ── places ──

  pub special_put : is_special p.form ≡ true → (l l' : Octets) → l' ≡ paste 0 (take p.end s) l → Put 0 (place_text (place_at d s p)) l l' p.end
  unfolding place_from place_text is_special
  special_put f l l' e = go p.form refl f
    where
      go : (x : Form) → p.form ≡ x → is_special x ≡ true → Put 0 (place_text (place_at d s p)) l l' p.end
      go Absolute q z = absurd (false≢true z)
      go Relative q z = absurd (false≢true z)
      go Malformed q z = absurd (false≢true z)
      go Special q z =
          let t : place_text (place_at d s p) ≡ take p.end s = ap (λ (g : Given). place_text (place_from d g)) (form-special (take p.end s) (k.form ∙ q)) in
          rw t (record { bytes = e; behind = sym (zero-add _ ∙ path-long) })

  -- a place that is no event's name has its path's text
  pub place-path : is_special p.form ≡ false → place_text (place_at d s p) ≡ path_text (names_at d s p)
  unfolding place_from names_from place_text is_special form_of
  place-path f = go (given_at s p) (ap is_special k.form ∙ f)
    where
      go : (g : Given) → is_special (form_of g) ≡ false → place_text (place_from d g) ≡ path_text (names_from d g)
      go malformed z = refl
      go (absolute ns) z = refl
      go (relative ns) z = refl
      go (special e) z = absurd (true≢false z)

  -- what a watch of it is
  pub record Stands (special relative : Bool) (t : Octets) : Type 0 where
    pub placed : PlacedAs special t
    pub named : NamedSo special relative
    pub place : place_in relative t ≡ place_at d s p

  pub stands : Stands (is_special p.form) (is_relative p.form) (place_text (place_at d s p))
  unfolding place_from place_text is_special is_relative all_names path_text
  stands = go p.form refl
    where
      go : (x : Form) → p.form ≡ x → Stands (is_special x) (is_relative x) (place_text (place_at d s p))
      go Absolute q =
          let h = form-absolute (take p.end s) (k.form ∙ q) in
          let g = full-given (take p.end s) h in
          let t : place_text (place_at d s p) ≡ take p.end s = ap (λ (g : Given). place_text (place_from d g)) g ∙ sym (full (take p.end s) h).text in
          rw t (record { placed = h; named = tt; place = place-full false (take p.end s) h ∙ sym (ap (place_from d) g) })
      go Relative q =
          let h = form-relative (take p.end s) (k.form ∙ q) in
          let e = relative-given d (take p.end s) _ h in
          let u = full-text d (take p.end s) _ h in
          let f : is_full (base_text d ++ take p.end s) ≡ true = given_is_full _ _ e in
          let t : place_text (place_at d s p) ≡ base_text d ++ take p.end s = ap (λ (g : Given). place_text (place_from d g)) h ∙ sym u in
          rw t (record {
            placed = f;
            named = tt;
            place = place-full true (base_text d ++ take p.end s) f
                ∙ (ap (path true) (given-names _ _ e) ∙ sym (ap (place_from d) h));
          })
      go Special q =
          let h = form-special (take p.end s) (k.form ∙ q) in
          let t : place_text (place_at d s p) ≡ take p.end s = ap (λ (g : Given). place_text (place_from d g)) h in
          rw t (record { placed = h; named = refl; place = place-named false (take p.end s) h ∙ sym (ap (place_from d) h) })
      go Malformed q =
          let h = form-malformed (take p.end s) (k.form ∙ q) in
          let t : place_text (place_at d s p) ≡ path_text [] = ap (λ (g : Given). place_text (place_from d g)) h in
          let e : given (path_text []) ≡ absolute [] = text-given [] refl (omega arith) in
          let f : is_full (path_text []) ≡ true = given_is_full _ _ e in
          rw t (record {
            placed = f;
            named = tt;
            place = place-full false (path_text []) f
                ∙ (ap (path false) (given-names (path_text []) [] e) ∙ sym (ap (place_from d) h));
          })

  pub stands_so : (named below : Bool) (t : Octets) → named ≡ is_special p.form → below ≡ is_relative p.form → t ≡ place_text (place_at d s p) →
      Stands named below t
  stands_so named below t a b e = rw (a, b, e) stands

  -- step 3: an event's name is for domain 0
  module _ (c : Connection) (speaks : d ≡ domain_of c) (named foreign : Bool) (a : named ≡ is_special p.form) (b : foreign ≡ (named && not (is_control d)))
      (w : World) (o : W.Outcome) where
    turned : (x : Bool) → cond x o (left w (refused EACCES)) ≡ cond (not x) (left w (refused EACCES)) o
    turned true = refl
    turned false = refl

    by_domain : cond (is_control (domain_of c)) o (left w (refused EACCES)) ≡ cond (is_control d) o (left w (refused EACCES))
    by_domain = ap (λ (x : Domain). cond (is_control x) o (left w (refused EACCES))) (sym speaks)

    for_place_lem : (g : Given) → for_place w c (place_from d g) o ≡ cond (is_special (form_of g) && not (is_control d)) (left w (refused EACCES)) o
    unfolding place_from for_place for_control is_special form_of
    for_place_lem malformed = refl
    for_place_lem (absolute ns) = refl
    for_place_lem (relative ns) = refl
    for_place_lem (special e) = by_domain ∙ turned (is_control d)

    decided : for_place w c (place_at d s p) o ≡ cond foreign (left w (refused EACCES)) o
    decided = rw (b, a, sym k.form) (for_place_lem (given_at s p))

    pub foreign_place : foreign ≡ true → for_place w c (place_at d s p) o ≡ left w (refused EACCES)
    foreign_place h = decided ∙ rw h refl

    pub own-place : foreign ≡ false → for_place w c (place_at d s p) o ≡ o
    own-place h = decided ∙ rw h refl
