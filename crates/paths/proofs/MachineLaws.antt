-- The machine reads each text as the rule book does.
use mathlib.Core.Path.{◌≡◌, refl, ap, sym, ◌∙◌}
use mathlib.Core.Bool.{Bool, true, false, cond, ◌&&◌, ◌||◌, and-true, and_assoc}
use mathlib.Core.List.{[], ◌∷◌}
use Prim.Native.Nat.{ℕ, ◌+◌, ◌<◌, ◌≤◌}
use native.Mathlib.Numerals.{add-one}
use native.Mathlib.Omega.{arith}
use lib.Dec.{eqb, leb}
use lib.ListN.{length, get_or, drop, drop_of_length-le}
use lib.Seq.{drop-cons}
use borrow.Author.Tests.{eqb-true}
use Rattle.rules.specs.Size.{longest_absolute, longest_relative}
use Rattle.rules.specs.Octets.{Octets, same, is_digit}
use Rattle.rules.specs.Path.{Names, name_byte, all_bytes, is_name, all_names, glued, split, Given, malformed, absolute, relative, special, given}
use Rattle.rules.specs.Path.{after_slash, checked, special_of, introduce_name, release_name}
use Rattle.rules.proofs.PathLaws.{split_slash, split_other}
use Rattle.paths.specs.Classes.{class_of, is_letter}
use Rattle.paths.specs.Machine.{of_name, in_name, at_name, step_of, run}
use Rattle.paths.specs.Form.{form_of, verdict_of, is_event}
use Rattle.paths.specs.declared.answer.Form.{Form}
use Rattle.paths.specs.declared.answer.Form.TheVariants.{Absolute, Relative, Special, Malformed}
use Rattle.paths.proofs.ClassLaws.{class_name, class_slash, class_at}

-- ── the pieces of a text, byte by byte ──

-- the rest of a name, and then names
name_then : Names → Bool
name_then [] = true
name_then (p ∷ ps) = all_bytes p && all_names ps

glued-then : (c : ℕ) (ps : Names) → name_then (glued c ps) ≡ (name_byte c && name_then ps)
unfolding name_then glued all_bytes all_names
glued-then c [] = and-true (name_byte c && true)
glued-then c (p ∷ ps) = and_assoc (name_byte c) (all_bytes p) (all_names ps)

glued-names : (c : ℕ) (ps : Names) → all_names (glued c ps) ≡ name_then (glued c ps)
unfolding name_then glued all_names is_name
glued-names c [] = refl
glued-names c (p ∷ ps) = refl

and_cond : (a b : Bool) → (a && b) ≡ cond a b false
and_cond true b = refl
and_cond false b = refl

slash_no_name : (c : ℕ) → eqb c 47 ≡ true → name_byte c ≡ false
unfolding name_byte
slash_no_name c e = ap name_byte (eqb-true c 47 e)

then_by : (c : ℕ) (cs : Octets) (b : Bool) → eqb c 47 ≡ b
    → name_then (split (c ∷ cs)) ≡ cond (name_byte c) (name_then (split cs)) (cond b (all_names (split cs)) false)
unfolding name_then all_bytes
then_by c cs true e = rw (split_slash c cs e) (rw (slash_no_name c e))
then_by c cs false e = rw (split_other c cs e) (glued-then c (split cs) ∙ and_cond (name_byte c) (name_then (split cs)))

names_by : (c : ℕ) (cs : Octets) (b : Bool) → eqb c 47 ≡ b → all_names (split (c ∷ cs)) ≡ cond (name_byte c) (name_then (split cs)) false
unfolding all_names is_name
names_by c cs true e = rw (split_slash c cs e) (rw (slash_no_name c e))
names_by c cs false e =
    rw (split_other c cs e) (glued-names c (split cs) ∙ (glued-then c (split cs) ∙ and_cond (name_byte c) (name_then (split cs))))

-- ── the states of a form ──

dead : (cs : Octets) → run 7 cs ≡ 7
unfolding run step_of
dead [] = refl
dead (c ∷ cs) = dead cs

marked : (cs : Octets) → run 6 cs ≡ 6
unfolding run step_of
marked [] = refl
marked (c ∷ cs) = marked cs

-- the state in a name and the one after a slash, of paths of one form
record Pair (name slash : ℕ) : Type 0 where
  more : (k : ℕ) → step_of name k ≡ in_name name slash k
  begin : (k : ℕ) → step_of slash k ≡ at_name name k
  unended : (w : Octets) → verdict_of slash w ≡ Malformed

absolutes : Pair 2 3
unfolding step_of verdict_of
absolutes = record { more = λ k. refl; begin = λ k. refl; unended = λ w. refl }

relatives : Pair 4 5
unfolding step_of verdict_of
relatives = record { more = λ k. refl; begin = λ k. refl; unended = λ w. refl }

module _ (name slash : ℕ) (pair : Pair name slash) (w : Octets) where
  after : (c : ℕ) → step_of name (class_of c) ≡ cond (name_byte c) name (cond (eqb c 47) slash 7)
  unfolding in_name
  after c = pair.more (class_of c) ∙ rw (class_name c, class_slash c)

  first : (c : ℕ) → step_of slash (class_of c) ≡ cond (name_byte c) name 7
  unfolding at_name
  first c = pair.begin (class_of c) ∙ rw (class_name c)

  further : (a b p q : Bool) (cs : Octets) → verdict_of (run name cs) w ≡ cond p (verdict_of name w) Malformed
      → verdict_of (run slash cs) w ≡ cond q (verdict_of name w) Malformed
      → verdict_of (run (cond a name (cond b slash 7)) cs) w ≡ cond (cond a p (cond b q false)) (verdict_of name w) Malformed
  unfolding verdict_of
  further true b p q cs g h = g
  further false true p q cs g h = h
  further false false p q cs g h = ap (λ (k : ℕ). verdict_of k w) (dead cs)

  -- a text read from within a name, and one read from after a slash
  ends : (cs : Octets)
      → (verdict_of (run name cs) w ≡ cond (name_then (split cs)) (verdict_of name w) Malformed)
      × (verdict_of (run slash cs) w ≡ cond (all_names (split cs)) (verdict_of name w) Malformed)
  unfolding run split name_then all_bytes all_names is_name
  ends [] = (refl, pair.unended w)
  ends (c ∷ cs) =
      let h = ends cs in
      let p = name_then (split cs) in
      let q = all_names (split cs) in (
        rw (after c, then_by c cs (eqb c 47) refl) (further (name_byte c) (eqb c 47) p q cs h.0 h.1),
        rw (first c, names_by c cs (eqb c 47) refl) (further (name_byte c) false p q cs h.0 h.1),
      )

-- ── a whole text ──

start_slash : (c : ℕ) → eqb c 47 ≡ true → step_of 0 (class_of c) ≡ 1
unfolding step_of in_name of_name class_of is_letter is_digit
start_slash c e = ap (λ (k : ℕ). step_of 0 (class_of k)) (eqb-true c 47 e)

start_at : (c : ℕ) → eqb c 64 ≡ true → step_of 0 (class_of c) ≡ 6
unfolding step_of in_name of_name class_of is_letter is_digit
start_at c e = ap (λ (k : ℕ). step_of 0 (class_of k)) (eqb-true c 64 e)

-- a relative path begins as its later names do
start_other : (c : ℕ) → eqb c 47 ≡ false → eqb c 64 ≡ false → step_of 0 (class_of c) ≡ step_of 5 (class_of c)
unfolding step_of in_name at_name
start_other c s a = rw (sym (class_at c) ∙ a, sym (class_slash c) ∙ s)

checked-form : (q l : Bool) (g : Given) (f : Form) → f ≡ form_of g → cond q (cond l f Malformed) Malformed ≡ form_of (cond (l && q) g malformed)
unfolding form_of
checked-form true true g f e = e
checked-form true false g f e = refl
checked-form false true g f e = refl
checked-form false false g f e = refl

reads_slash : (c : ℕ) (cs : Octets) → verdict_of (run 1 cs) (c ∷ cs) ≡ form_of (after_slash (c ∷ cs) cs)
unfolding run step_of after_slash checked form_of verdict_of
reads_slash c [] = refl
reads_slash c (d ∷ ds) =
    (ends 2 3 absolutes (c ∷ d ∷ ds) (d ∷ ds)).1
    ∙ checked-form (all_names (split (d ∷ ds))) (leb (length (c ∷ d ∷ ds)) longest_absolute) (absolute (split (d ∷ ds))) Absolute refl

special-form : (s : Octets) (b : Bool) → cond b Special Malformed ≡ form_of (cond b (special s) malformed)
unfolding form_of
special-form s true = refl
special-form s false = refl

reads_at : (s cs : Octets) → verdict_of (run 6 cs) s ≡ form_of (special_of s)
unfolding verdict_of special_of is_event
reads_at s cs = ap (λ (k : ℕ). verdict_of k s) (marked cs) ∙ special-form s (same s introduce_name || same s release_name)

reads_other : (c : ℕ) (cs : Octets) → verdict_of (run 5 (c ∷ cs)) (c ∷ cs) ≡ form_of (checked longest_relative relative (c ∷ cs) (split (c ∷ cs)))
unfolding checked verdict_of form_of
reads_other c cs =
    (ends 4 5 relatives (c ∷ cs) (c ∷ cs)).1
    ∙ checked-form (all_names (split (c ∷ cs))) (leb (length (c ∷ cs)) longest_relative) (relative (split (c ∷ cs))) Relative refl

reads_by : (c : ℕ) (cs : Octets) (s a : Bool) → eqb c 47 ≡ s → eqb c 64 ≡ a → verdict_of (run 0 (c ∷ cs)) (c ∷ cs) ≡ form_of (given (c ∷ cs))
unfolding run given
reads_by c cs true a e h = rw (start_slash c e, e) (reads_slash c cs)
reads_by c cs false true e h = rw (start_at c h, e, h) (reads_at (c ∷ cs) cs)
reads_by c cs false false e h = rw (start_other c e h, e, h) (reads_other c cs)

-- the verdict on a text that is read from the start on
pub reads : (s : Octets) → verdict_of (run 0 s) s ≡ form_of (given s)
unfolding run given verdict_of form_of
reads [] = refl
reads (c ∷ cs) = reads_by c cs (eqb c 47) (eqb c 64) refl refl

-- ── the reading's loop ──

-- the last state, which is that of all that was read, decides
pub verdict_right : (state : ℕ) (s : Octets) (i : ℕ) → run 0 s ≡ run state (drop i s) → length s ≤ i → verdict_of state s ≡ form_of (given s)
unfolding run
verdict_right state s i e h = ap (λ (k : ℕ). verdict_of k s) (sym (e ∙ rw (drop_of_length-le s h))) ∙ reads s

cond_small : (b : Bool) (x y : ℕ) → x < 8 → y < 8 → cond b x y < 8
cond_small true x y h k = h
cond_small false x y h k = k

in_small : (name slash k : ℕ) → name < 8 → slash < 8 → in_name name slash k < 8
unfolding in_name
in_small name slash k h l = cond_small (of_name k) _ _ h (cond_small (eqb k 2) _ _ l (omega arith))

at_small : (name k : ℕ) → name < 8 → at_name name k < 8
unfolding at_name
at_small name k h = cond_small (of_name k) _ _ h (omega arith)

pub step_small : (state k : ℕ) → step_of state k < 8
unfolding step_of
step_small state k =
    cond_small (eqb state 0) _ _ (cond_small (eqb k 3) _ _ (omega arith) (in_small 4 1 k (omega arith) (omega arith)))
    (cond_small (eqb state 1 || eqb state 3) _ _ (at_small 2 k (omega arith))
    (cond_small (eqb state 2) _ _ (in_small 2 3 k (omega arith) (omega arith))
    (cond_small (eqb state 4) _ _ (in_small 4 5 k (omega arith) (omega arith))
    (cond_small (eqb state 5) _ _ (at_small 4 k (omega arith)) (cond_small (eqb state 6) _ _ (omega arith) (omega arith))))))

pub run_next : (state : ℕ) (s : Octets) (i : ℕ) → i < length s
    → run state (drop i s) ≡ run (step_of state (class_of (get_or s i 0))) (drop (i + 1) s)
unfolding run
run_next state s i h = rw (add-one, drop-cons s i 0 h)
