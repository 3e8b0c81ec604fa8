-- The kinds of request by their types' numbers.
use Rattle.std.specs.Prelude.{Option, Some, None, ◌≡◌, ℕ}
use Rattle.payload.specs.declared.kind.Kind.{Kind}
use Rattle.payload.specs.declared.kind.Kind.TheVariants.{Directory, Read, GetPerms, Watch, Unwatch, Start, End, Introduce, Release, DomainPath}
use Rattle.payload.specs.declared.kind.Kind.TheVariants.{Write, Mkdir, Rm, SetPerms, IsIntroduced, Reset}

abbrev pub number_of : Kind → ℕ
number_of Directory = 1
number_of Read = 2
number_of GetPerms = 3
number_of Watch = 4
number_of Unwatch = 5
number_of Start = 6
number_of End = 7
number_of Introduce = 8
number_of Release = 9
number_of DomainPath = 10
number_of Write = 11
number_of Mkdir = 12
number_of Rm = 13
number_of SetPerms = 14
number_of IsIntroduced = 17
number_of Reset = 21

-- the kind that has a number, or none where no kind has it
abbrev pub IsKind : ℕ → Option Kind → Type 0
IsKind n (Some k) = number_of k ≡ n
IsKind n None = (k : Kind) → number_of k ≡ n → ⊥
