-- Paths: texts, the lists of names that they mean, and the two event names.
use Rattle.std.specs.Prelude.{Bool, true, false, cond, ◌&&◌, ◌||◌, List, [], ◌∷◌, ◌++◌, ℕ, length, eqb, ltb, leb}
use Rattle.std.proofs.Math.Option.{Option, none, some}
use Rattle.rules.specs.Size.{longest_absolute, longest_relative, longest_name, deepest}
pub use Rattle.rules.specs.Domain.{Domain, Connection, domain_of, is_control}
use Rattle.rules.specs.Octets.{Octets, text, same, begins, decimal}

abbrev pub Name : Type 0
Name = Octets

-- a path from the root
abbrev pub Names : Type 0
Names = List Name

-- ── the form of a path ──

-- "letters, digits, `-`, `_`, `@`"
unfoldable pub name_byte : ℕ → Bool
name_byte c = (leb 97 c && leb c 122) || ((leb 65 c && leb c 90) || ((leb 48 c && leb c 57) || (eqb c 45 || (eqb c 95 || eqb c 64))))

unfoldable pub all_bytes : Octets → Bool
all_bytes [] = true
all_bytes (c ∷ cs) = name_byte c && all_bytes cs

unfoldable pub is_name : Name → Bool
is_name [] = false
is_name (c ∷ cs) = all_bytes (c ∷ cs)

unfoldable pub all_names : Names → Bool
all_names [] = true
all_names (n ∷ ns) = is_name n && all_names ns

-- a byte put before the first of some pieces
unfoldable pub glued : ℕ → Names → Names
glued c [] = (c ∷ []) ∷ []
glued c (n ∷ ns) = (c ∷ n) ∷ ns

-- the pieces of a text between its slashes: a doubled or a last slash leaves an empty one
unfoldable pub split : Octets → Names
split [] = [] ∷ []
split (c ∷ cs) =
    let pieces = split cs in
    cond (eqb c 47) ([] ∷ pieces) (glued c pieces)

-- What a path in a payload is. A relative one lies below its sender's base.
pub data Given : Type 0 where
  malformed : Given
  absolute : Names → Given
  relative : Names → Given
  special : Octets → Given

unfoldable pub introduce_name : Octets
introduce_name = text "@introduceDomain"

unfoldable pub release_name : Octets
release_name = text "@releaseDomain"

-- "a path that begins with `@`": exactly one of the two event names
unfoldable pub special_of : Octets → Given
special_of s = cond (same s introduce_name || same s release_name) (special s) malformed

unfoldable pub checked : ℕ → (Names → Given) → Octets → Names → Given
checked most form whole ns = cond (leb (length whole) most && all_names ns) (form ns) malformed

unfoldable pub after_slash : Octets → Octets → Given
after_slash whole [] = absolute []
after_slash whole (c ∷ cs) = checked longest_absolute absolute whole (split (c ∷ cs))

-- "empty, doubles a slash, ends in one (except `/`), has other characters, or is over 3,072 bytes (2,048 if relative)": malformed
unfoldable pub given : Octets → Given
given [] = malformed
given (c ∷ cs) =
    cond (eqb c 47) (after_slash (c ∷ cs) cs)
    (cond (eqb c 64) (special_of (c ∷ cs))
    (checked longest_relative relative (c ∷ cs) (split (c ∷ cs))))

-- the names of a full path's text; what is none is read as the root
unfoldable pub names_in : Octets → Names
names_in s = elim (given s) [ malformed ↦ [] | absolute ns ↦ ns | relative ns ↦ [] | special e ↦ [] ]

unfoldable pub is_full : Octets → Bool
is_full s = elim (given s) [ malformed ↦ false | absolute ns ↦ true | relative ns ↦ false | special e ↦ false ]

-- ── from names to a text ──

-- "a relative path from domain N means `/local/domain/N/` before it, also for N = 0"
unfoldable pub base : Domain → Names
base d = text "local" ∷ text "domain" ∷ decimal d ∷ []

unfoldable pub slashed : Names → Octets
slashed [] = []
slashed (n ∷ ns) = 47 ∷ (n ++ slashed ns)

-- the text of a path from the root
unfoldable pub path_text : Names → Octets
path_text [] = 47 ∷ []
path_text (n ∷ ns) = slashed (n ∷ ns)

-- ── sizes ──

unfoldable pub short_names : Names → Bool
short_names [] = true
short_names (n ∷ ns) = leb (length n) longest_name && short_names ns

-- within the sizes of names and depth
unfoldable pub fits : Names → Bool
fits ns = leb (length ns) deepest && short_names ns

-- ── above and below ──

-- what is left of the second path below the first, where it lies at or below it; so `/ab` is not below `/a`
unfoldable pub beyond : Names → Names → Option Names
beyond [] ps = some ps
beyond (n ∷ ns) [] = none
beyond (n ∷ ns) (p ∷ ps) = cond (same n p) (beyond ns ps) none

-- the same of two texts: the second begins with the first and a slash, and below `/` is all that begins with it and is longer
unfoldable pub is_below : Octets → Octets → Bool
is_below above s = cond (same above (47 ∷ [])) (begins above s && ltb 1 (length s)) (begins (above ++ (47 ∷ [])) s)
