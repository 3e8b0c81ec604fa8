-- An option that is no `Some` is `None`.
use mathlib.Core.Path.{◌≡◌, refl}
use Rattle.std.specs.Prelude.{Option, Some, None}

pub is_nothing : {A : Type 0} (o : Option A) → ((x : A) → o ≡ Some x → ⊥) → o ≡ None
is_nothing None h = refl
is_nothing (Some x) h = absurd (h x refl)
