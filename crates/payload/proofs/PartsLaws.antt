-- Which strings a payload has, from what its cursors find.
use mathlib.Core.Path.{◌≡◌, refl, ap, sym, ◌∙◌}
use mathlib.Core.List.{List, [], ◌∷◌, ◌++◌, append_assoc}
use mathlib.Core.Option.{Option, none, some}
use Prim.Native.Nat.{ℕ, ◌+◌, ◌<◌}
use native.Mathlib.Omega.{arith}
use lib.ListN.{length, take, drop, length-append}
use lib.Seq.{take_at}
use Rattle.rules.specs.Octets.{Octets}
use Rattle.rules.specs.Payload.{strings}
use Rattle.payload.specs.Strings.{part, prepended}
use Rattle.payload.specs.Cursor.{taken_at}
use Rattle.payload.specs.Parts.{parts_of}
use Rattle.payload.specs.declared.cursor.Cursor.{Cursor}
use Rattle.payload.specs.declared.cursor.Taken.{Taken}
use Rattle.payload.specs.declared.cursor.Taken.TheVariants.{String, Left, End}
use Rattle.payload.specs.declared.parts.Parts.{Parts}
use Rattle.payload.specs.declared.parts.Parts.TheVariants.{One, Two, Three, Other}
use Rattle.payload.proofs.Strings.{length_part, flat, strings_flat, part_at}
use Rattle.payload.proofs.CursorLaws.{Told, string-told, left-told, end-told}

-- what is found at a place is left over, or more than what was found before
abbrev Strings : Type 0
Strings = Option (List Octets)

more : (a b c d : Octets) (o : Strings) → Other ≡ parts_of (prepended a (prepended b (prepended c (prepended d o))))
unfolding parts_of prepended
more a b c d none = refl
more a b c d (some ts) = refl

module _ (s : Octets) (a b : ℕ) (low : a < b) (high : b < length s) where
  abbrev two : Strings → Parts
  two o = parts_of (prepended (part 0 a s) (prepended (part (a + 1) b s) o))

  first_two : (o : Strings) → strings (drop (b + 1) s) ≡ o → (p : Parts) → p ≡ two o → p ≡ two (strings (drop (b + 1) s))
  first_two o e p q = q ∙ ap two (sym e)

  pub two_left : taken_at s (b + 1) ≡ Left → Other ≡ two (strings (drop (b + 1) s))
  unfolding parts_of prepended
  two_left e = first_two _ (left-told s (b + 1) e).all _ refl

  pub two_end : taken_at s (b + 1) ≡ End → Two a b ≡ two (strings (drop (b + 1) s))
  unfolding parts_of prepended
  two_end e =
      first_two _ (end-told s (b + 1) e).all _
      (let p = length_part 0 a s (omega arith) in
      let q = length_part (a + 1) b s (omega arith) in
      let x : a ≡ length (part 0 a s) = omega arith in
      let y : b ≡ length (part 0 a s) + 1 + length (part (a + 1) b s) = omega arith in
      cc)

  module _ (start end : ℕ) (next : Cursor) (e : taken_at s (b + 1) ≡ String start end next) where
    third : Told s (b + 1) start end next
    third = string-told s (b + 1) start end next e

    at_end : strings (drop next.at s) ≡ strings (drop (end + 1) s)
    at_end = ap (λ (n : ℕ). strings (drop n s)) third.goes_on

    all_three : (o : Strings) → strings (drop next.at s) ≡ o → strings (drop (b + 1) s) ≡ prepended (part (b + 1) end s) o
    all_three o f = third.string.all ∙ ap (prepended (part (b + 1) end s)) (sym at_end ∙ f)

    pub three_other : (taken_at s next.at ≡ End → ⊥) → Other ≡ two (strings (drop (b + 1) s))
    unfolding parts_of prepended
    three_other f = by (taken_at s next.at) refl
      where
        by : (t : Taken) → taken_at s next.at ≡ t → Other ≡ two (strings (drop (b + 1) s))
        by Left e = first_two _ (all_three _ (left-told s next.at e).all) _ refl
        by (String start₂ end₂ next₂) e = first_two _ (all_three _ (string-told s next.at start₂ end₂ next₂ e).string.all) _ (more _ _ _ _ _)
        by End e = absurd (f e)

    pub three_end : taken_at s next.at ≡ End → Three a b end ≡ two (strings (drop (b + 1) s))
    unfolding parts_of prepended
    three_end f =
        first_two _ (all_three _ (end-told s next.at f).all) _
        (let l = third.string.low in
        let h = third.string.high in
        let p = length_part 0 a s (omega arith) in
        let q = length_part (a + 1) b s (omega arith) in
        let r = length_part (b + 1) end s (omega arith) in
        let x : a ≡ length (part 0 a s) = omega arith in
        let y : b ≡ length (part 0 a s) + 1 + length (part (a + 1) b s) = omega arith in
        let z : end ≡ length (part 0 a s) + 1 + length (part (a + 1) b s) + 1 + length (part (b + 1) end s) = omega arith in
        cc)

module _ (s : Octets) (a : ℕ) (high : a < length s) where
  abbrev one : Strings → Parts
  one o = parts_of (prepended (part 0 a s) o)

  pub one_left : taken_at s (a + 1) ≡ Left → Other ≡ one (strings (drop (a + 1) s))
  unfolding parts_of prepended
  one_left e = rw (left-told s (a + 1) e).all

  pub one_end : taken_at s (a + 1) ≡ End → One a ≡ one (strings (drop (a + 1) s))
  unfolding parts_of prepended
  one_end e =
      let p = length_part 0 a s (omega arith) in
      let x : a ≡ length (part 0 a s) = omega arith in
      rw (end-told s (a + 1) e).all (ap One x)

  pub one_more : (start end : ℕ) (next : Cursor) (p : Parts) → taken_at s (a + 1) ≡ String start end next →
      p ≡ one (prepended (part (a + 1) end s) (strings (drop (end + 1) s))) → p ≡ one (strings (drop (a + 1) s))
  one_more start end next p e q = q ∙ ap one (sym (string-told s (a + 1) start end next e).string.all)

module _ (s : Octets) where
  pub none_more : (start end : ℕ) (next : Cursor) (p : Parts) → taken_at s 0 ≡ String start end next →
      p ≡ parts_of (prepended (part 0 end s) (strings (drop (end + 1) s))) → p ≡ parts_of (strings s)
  none_more start end next p e q = q ∙ ap parts_of (sym (string-told s 0 start end next e).string.all)

  pub none_left : taken_at s 0 ≡ Left → Other ≡ parts_of (strings s)
  unfolding parts_of
  none_left e = rw (left-told s 0 e).all

  pub none_end : taken_at s 0 ≡ End → Other ≡ parts_of (strings s)
  unfolding parts_of
  none_end e = rw (end-told s 0 e).all

-- ── what the ends of the strings tell ──

pub record OneString (s : Octets) (a : ℕ) : Type 0 where
  pub high : a < length s
  pub all : strings s ≡ some (take a s ∷ [])

pub record TwoStrings (s : Octets) (a b : ℕ) : Type 0 where
  pub low : a < b
  pub high : b < length s
  pub all : strings s ≡ some (take a s ∷ part (a + 1) b s ∷ [])

pub record ThreeStrings (s : Octets) (a b c : ℕ) : Type 0 where
  pub low : a < b
  pub mid : b < c
  pub high : c < length s
  pub all : strings s ≡ some (take a s ∷ part (a + 1) b s ∷ part (b + 1) c s ∷ [])

one_string : (s x : Octets) (a : ℕ) → strings s ≡ some (x ∷ []) → length x ≡ a → OneString s a
unfolding flat
one_string s x a e l =
    let f = strings_flat s (x ∷ []) e in
    record {
      high = omega (arith, ap length f, length-append x (0 ∷ []));
      all = e ∙ ap (λ (y : Octets). some (y ∷ [])) (sym (rw f (take_at x (0 ∷ []) a l)));
    }

two_strings : (s x y : Octets) (a b : ℕ) → strings s ≡ some (x ∷ y ∷ []) → length x ≡ a → length x + 1 + length y ≡ b → TwoStrings s a b
unfolding flat
two_strings s x y a b e l m =
    let f = strings_flat s (x ∷ y ∷ []) e in
    let first : take a s ≡ x = rw f (take_at x (0 ∷ (y ++ (0 ∷ []))) a l) in
    let second : part (a + 1) b s ≡ y =
    part_at (x ++ (0 ∷ [])) y (0 ∷ []) s (a + 1) b (f ∙ sym (append_assoc x (0 ∷ []) (y ++ (0 ∷ [])))) (length-append x (0 ∷ []) ∙ omega arith) (omega arith) in
    record {
      low = omega arith;
      high = omega (arith, ap length f, length-append x (0 ∷ (y ++ (0 ∷ []))), length-append y (0 ∷ []));
      all = rw (first, second) e;
    }

three_strings : (s x y z : Octets) (a b c : ℕ) → strings s ≡ some (x ∷ y ∷ z ∷ []) → length x ≡ a → length x + 1 + length y ≡ b →
    length x + 1 + length y + 1 + length z ≡ c → ThreeStrings s a b c
unfolding flat
three_strings s x y z a b c e l m n =
    let f = strings_flat s (x ∷ y ∷ z ∷ []) e in
    let r : Octets = z ++ (0 ∷ []) in
    let q : Octets = y ++ (0 ∷ r) in
    let xs : Octets = x ++ (0 ∷ []) in
    let ys : Octets = y ++ (0 ∷ []) in
    let k : length xs ≡ a + 1 = length-append x (0 ∷ []) ∙ omega arith in
    let j : length (xs ++ ys) ≡ b + 1 = length-append xs ys ∙ omega (arith, length-append y (0 ∷ [])) in
    let g : s ≡ xs ++ q = f ∙ sym (append_assoc x (0 ∷ []) q) in
    let h : s ≡ (xs ++ ys) ++ r = g ∙ (ap (λ (v : Octets). xs ++ v) (sym (append_assoc y (0 ∷ []) r)) ∙ sym (append_assoc xs ys r)) in
    let first : take a s ≡ x = rw f (take_at x (0 ∷ q) a l) in
    let second : part (a + 1) b s ≡ y = part_at xs y (0 ∷ r) s (a + 1) b g k (omega arith) in
    let third : part (b + 1) c s ≡ z = part_at (xs ++ ys) z (0 ∷ []) s (b + 1) c h j (omega arith) in
    record {
      low = omega arith;
      mid = omega arith;
      high = omega (arith, ap length h, length-append (xs ++ ys) r, length-append z (0 ∷ []));
      all = rw (first, second, third) e;
    }

module _ (s : Octets) where
  pub one_told : (a : ℕ) → parts_of (strings s) ≡ One a → OneString s a
  unfolding parts_of
  one_told a e = by (strings s) refl e
    where
      by : (o : Strings) → strings s ≡ o → parts_of o ≡ One a → OneString s a
      by none f e = absurd (let z : ◌≡◌ {A = ℕ} 0 1 = cc in omega arith)
      by (some []) f e = absurd (let z : ◌≡◌ {A = ℕ} 0 1 = cc in omega arith)
      by (some (x ∷ [])) f e = one_string s x a f (cc)
      by (some (x ∷ y ∷ [])) f e = absurd (let z : ◌≡◌ {A = ℕ} 0 1 = cc in omega arith)
      by (some (x ∷ y ∷ z ∷ [])) f e = absurd (let z : ◌≡◌ {A = ℕ} 0 1 = cc in omega arith)
      by (some (x ∷ y ∷ z ∷ w ∷ ws)) f e = absurd (let z : ◌≡◌ {A = ℕ} 0 1 = cc in omega arith)

  pub two_told : (a b : ℕ) → parts_of (strings s) ≡ Two a b → TwoStrings s a b
  unfolding parts_of
  two_told a b e = by (strings s) refl e
    where
      by : (o : Strings) → strings s ≡ o → parts_of o ≡ Two a b → TwoStrings s a b
      by none f e = absurd (let z : ◌≡◌ {A = ℕ} 0 1 = cc in omega arith)
      by (some []) f e = absurd (let z : ◌≡◌ {A = ℕ} 0 1 = cc in omega arith)
      by (some (x ∷ [])) f e = absurd (let z : ◌≡◌ {A = ℕ} 0 1 = cc in omega arith)
      by (some (x ∷ y ∷ [])) f e = two_strings s x y a b f (cc) (cc)
      by (some (x ∷ y ∷ z ∷ [])) f e = absurd (let z : ◌≡◌ {A = ℕ} 0 1 = cc in omega arith)
      by (some (x ∷ y ∷ z ∷ w ∷ ws)) f e = absurd (let z : ◌≡◌ {A = ℕ} 0 1 = cc in omega arith)

  pub three_told : (a b c : ℕ) → parts_of (strings s) ≡ Three a b c → ThreeStrings s a b c
  unfolding parts_of
  three_told a b c e = by (strings s) refl e
    where
      by : (o : Strings) → strings s ≡ o → parts_of o ≡ Three a b c → ThreeStrings s a b c
      by none f e = absurd (let z : ◌≡◌ {A = ℕ} 0 1 = cc in omega arith)
      by (some []) f e = absurd (let z : ◌≡◌ {A = ℕ} 0 1 = cc in omega arith)
      by (some (x ∷ [])) f e = absurd (let z : ◌≡◌ {A = ℕ} 0 1 = cc in omega arith)
      by (some (x ∷ y ∷ [])) f e = absurd (let z : ◌≡◌ {A = ℕ} 0 1 = cc in omega arith)
      by (some (x ∷ y ∷ z ∷ [])) f e = three_strings s x y z a b c f (cc) (cc) (cc)
      by (some (x ∷ y ∷ z ∷ w ∷ ws)) f e = absurd (let z : ◌≡◌ {A = ℕ} 0 1 = cc in omega arith)
