-- A watch's place, told by its text: a path's begins with a slash, an event's does not.
use mathlib.Core.Path.{◌≡◌, refl, sym, ap, ◌∙◌}
use mathlib.Core.Bool.{Bool, true, false, ◌||◌}
use mathlib.Core.List.{[], ◌∷◌}
use Rattle.rules.specs.Octets.{Octets, text, same, begins}
use Rattle.rules.specs.Path.{Names, special, given, introduce_name, release_name, slashed, path_text}
use Rattle.rules.proofs.Compare.{same_eq}
use Rattle.rules.proofs.PathLaws.{given-event}

-- a test's answer, told of what the tested bytes are
pub told : {x y : Octets} {r b : Bool} (f : Octets → Bool) → r ≡ f x → x ≡ y → r ≡ b → f y ≡ b
told f p q t = sym (p ∙ ap f q) ∙ t

pub path_slash : (ns : Names) → begins (47 ∷ []) (path_text ns) ≡ true
unfolding begins path_text slashed
path_slash [] = refl
path_slash (n ∷ ns) = refl

pub event_slash : (e : Octets) → given e ≡ special e → begins (47 ∷ []) e ≡ false
unfolding begins introduce_name release_name text
event_slash e g = go (same e introduce_name) refl (given-event e e g).named
  where
    go : (b : Bool) → same e introduce_name ≡ b → (b || same e release_name) ≡ true → begins (47 ∷ []) e ≡ false
    go true q h = rw (same_eq e introduce_name q) refl
    go false q h = rw (same_eq e release_name h) refl
