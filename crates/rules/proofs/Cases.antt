-- What holds of both cases holds of the choice.
use mathlib.Core.Bool.{Bool, true, false, cond}
use mathlib.Core.Path.{◌≡◌, refl}

pub cond_case : {A : Type 0} (P : A → Type 0) (b : Bool) (x y : A) → P x → P y → P (cond b x y)
cond_case P true x y p q = p
cond_case P false x y p q = q

-- the same, where the test's answer is known in each case
pub cond-known : {A : Type 0} (P : A → Type 0) (b : Bool) (x y : A) → (b ≡ true → P x) → (b ≡ false → P y) → P (cond b x y)
cond-known P true x y p q = p refl
cond-known P false x y p q = q refl
