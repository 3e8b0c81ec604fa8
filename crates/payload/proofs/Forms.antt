-- What the form of a path decides, by comparing forms.
use mathlib.Core.Path.{◌≡◌, refl}
use mathlib.Core.Bool.{true, false, cond, not, ◌&&◌, ◌||◌}
use Prim.Native.Nat.{ℕ}
use lib.Dec.{eqb}
use denote.Enum.Bare.{sameb}
use Rattle.std.specs.Prelude.{Option, Some, None}
use Rattle.paths.specs.contracts.answer.Form.{the_type}
use Rattle.paths.specs.declared.answer.Form.{Form}
use Rattle.paths.specs.declared.answer.Form.TheVariants.{Absolute, Relative, Special, Malformed}
use Rattle.payload.specs.Answers.{named_of, placed_of, is_root, depth_fits}
use Rattle.payload.specs.declared.answer.Path.{Path}

pub root-form : (p : Path) → is_root p ≡ (sameb the_type p.form Absolute && eqb p.end 1)
unfolding is_root
root-form p = by p.form
  where
    by : (f : Form) → elim f [ Absolute ↦ eqb p.end 1 | Relative ↦ false | Special ↦ false | Malformed ↦ false ] ≡ (sameb the_type f Absolute && eqb p.end 1)
    by Absolute = refl
    by Relative = refl
    by Special = refl
    by Malformed = refl

pub fits-form : (p : Path) (k : ℕ) → depth_fits p k ≡ (not (sameb the_type p.form Special) || eqb k 1)
unfolding depth_fits
fits-form p k = by p.form
  where
    by : (f : Form) → elim f [ Absolute ↦ true | Relative ↦ true | Special ↦ eqb k 1 | Malformed ↦ true ] ≡ (not (sameb the_type f Special) || eqb k 1)
    by Absolute = refl
    by Relative = refl
    by Special = refl
    by Malformed = refl

pub placed-form : (e : ℕ) (f : Form) → placed_of e f ≡ cond (sameb the_type f Malformed) None (Some (record { end = e; form = f }))
unfolding placed_of
placed-form e Absolute = refl
placed-form e Relative = refl
placed-form e Special = refl
placed-form e Malformed = refl

-- a path that is no event's name
abbrev pub no_event : Option Path → Option Path
no_event None = None
no_event (Some p) = cond (sameb the_type p.form Special) None (Some p)

pub named-form : (e : ℕ) (f : Form) → named_of e f ≡ no_event (placed_of e f)
unfolding named_of placed_of
named-form e Absolute = refl
named-form e Relative = refl
named-form e Special = refl
named-form e Malformed = refl
