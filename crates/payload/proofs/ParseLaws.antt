-- What a type and a payload mean, and what of it is kept.
use mathlib.Core.Path.{◌≡◌, refl, ap, sym, ◌∙◌}
use mathlib.Core.List.{List, [], ◌∷◌, ◌++◌}
use Prim.Native.Nat.{ℕ, zero, suc, ◌-◌}
use native.Mathlib.Omega.{arith}
use mathlib.Core.Bool.{false}
use lib.Dec.{eqb}
use lib.ListN.{length, take, replicate, length-replicate}
use lib.Seq.{take_all}
use borrow.Author.Tests.{ne_eqb}
use Rattle.std.specs.Prelude.{None}
use Rattle.rules.specs.Size.{most_entries}
use Rattle.rules.specs.Octets.{Octets}
use Rattle.rules.specs.Path.{Domain, Connection, domain_of}
use Rattle.rules.specs.Node as nodes
use Rattle.rules.specs.Payload as rules
use Rattle.rules.specs.Payload.{Parsed, request, parse}
use Rattle.payload.specs.Meaning.{names_at, entry_meant, kept_at, blank, others_meant, first_others, ask_meant, meant, kept, request_kept, ask_kept, Means}
use Rattle.payload.specs.Kinds.{number_of, IsKind}
use Rattle.payload.specs.declared.kind.Kind.{Kind}
use Rattle.payload.specs.declared.kind.Kind.TheVariants as kind
use Rattle.payload.specs.declared.kind.Kind.TheVariants.{Directory, Read, GetPerms, Write, Mkdir, Rm, SetPerms}
use Rattle.payload.specs.declared.answer.Ask.{Ask}
use Rattle.payload.specs.declared.answer.Ask.TheVariants as ask
use Rattle.payload.specs.declared.answer.Request.{Request}
use Rattle.payload.specs.declared.answer.Request.TheVariants.{Unknown, Invalid, Ask as Asked, Watch, Unwatch, Start, End, Introduce, Release}
use Rattle.payload.specs.declared.answer.Request.TheVariants.{DomainPath, IsIntroduced, Reset}
use Rattle.payload.proofs.AskLaws.{means_as}

-- ── what is kept stays so ──

abbrev others_by : ℕ → nodes.Entry → nodes.Entry → nodes.Entry → List nodes.Entry
others_by n a b c = take (n - 1) (a ∷ b ∷ c ∷ []) ++ replicate (n - most_entries) blank

kept-others : (n : ℕ) (a b c : nodes.Entry) → first_others (others_by n a b c) ≡ others_by n a b c
unfolding first_others
kept-others zero a b c = refl
kept-others (suc zero) a b c = refl
kept-others (suc (suc zero)) a b c = refl
kept-others (suc (suc (suc zero))) a b c = refl
kept-others (suc (suc (suc (suc n)))) a b c =
    let m : suc (suc (suc (suc n))) - 4 ≡ n = omega arith in
    let e : others_by (suc (suc (suc (suc n)))) a b c ≡ a ∷ b ∷ c ∷ replicate n blank =
    ap (λ (l : List nodes.Entry). l ++ replicate (suc (suc (suc (suc n))) - 4) blank) (take_all (suc (suc (suc (suc n))) - 1) (a ∷ b ∷ c ∷ []) (omega arith))
    ∙ ap (λ (j : ℕ). a ∷ b ∷ c ∷ replicate j blank) m in
    let l = length-replicate n blank in
    let k : suc (suc (suc (length (replicate n blank)))) - 3 ≡ n = omega arith in
    ap first_others e ∙ (ap (λ (j : ℕ). a ∷ b ∷ c ∷ replicate j blank) k ∙ sym e)

kept-ask : (s : Octets) (a : Ask) → ask_kept (ask_meant s a) ≡ ask_meant s a
unfolding ask_kept others_meant
kept-ask s ask.Directory = refl
kept-ask s ask.Read = refl
kept-ask s ask.GetPerms = refl
kept-ask s (ask.Write from) = refl
kept-ask s ask.Mkdir = refl
kept-ask s ask.Rm = refl
kept-ask s (ask.SetPerms es) =
    ap (rules.set_perms (entry_meant (kept_at es 0)))
    (kept-others es.count (entry_meant (kept_at es 1)) (entry_meant (kept_at es 2)) (entry_meant (kept_at es 3)))

pub kept-meant : (d : Domain) (s : Octets) (r : Request) → kept (meant d s r) ≡ meant d s r
unfolding meant kept request_kept ask_kept
kept-meant d s Unknown = refl
kept-meant d s Invalid = refl
kept-meant d s (Asked a p) = ap (λ (q : rules.Ask). request (rules.ask q (names_at d s p))) (kept-ask s a)
kept-meant d s (Watch p a e k) = refl
kept-meant d s (Unwatch p a e) = refl
kept-meant d s Start = refl
kept-meant d s (End b) = refl
kept-meant d s (Introduce i p c) = refl
kept-meant d s (Release i) = refl
kept-meant d s (DomainPath i) = refl
kept-meant d s (IsIntroduced i) = refl
kept-meant d s Reset = refl

-- ── by kind ──

module _ (s : Octets) (r : Request) (kind : Kind) (tx : ℕ) (k : Kind) (e : kind ≡ k) where
  -- a kind's own meaning, of what is kept already
  pub parsed_kept : (q : Connection → Parsed) → Means s r (λ (c : Connection). kept (q c)) → ((c : Connection) → parse c (number_of k) tx s ≡ q c) →
      Means s r (λ (c : Connection). kept (parse c (number_of kind) tx s))
  parsed_kept q m f =
      record {
        meaning = λ c. m.meaning c ∙ sym (ap (λ (j : Kind). kept (parse c (number_of j) tx s)) e ∙ ap kept (f c));
        sound = m.sound;
      }

  -- the same of a meaning that is kept whole
  pub parsed : (q : Connection → Parsed) → Means s r q → ((c : Connection) → parse c (number_of k) tx s ≡ q c) →
      Means s r (λ (c : Connection). kept (parse c (number_of kind) tx s))
  parsed q m f =
      parsed_kept q (record { meaning = λ c. sym (kept-meant (domain_of c) s r) ∙ ap kept (m.meaning c); sound = m.sound }) f

-- a kind's number is the type
pub numbered : (s : Octets) (r : Request) (kind : Kind) (type tx : ℕ) → number_of kind ≡ type →
    Means s r (λ (c : Connection). kept (parse c (number_of kind) tx s)) → Means s r (λ (c : Connection). kept (parse c type tx s))
numbered s r kind type tx e m = means_as _ m (λ c. ap (λ (n : ℕ). kept (parse c n tx s)) e)

-- no type that the box handles
pub unknown_parsed : (s : Octets) (type tx : ℕ) → IsKind type None → Means s Unknown (λ (c : Connection). kept (parse c type tx s))
unfolding parse meant kept
unknown_parsed s type tx h =
    record {
      meaning = λ _.
          sym
          (rw (
            other Directory,
            other Read,
            other GetPerms,
            other kind.Watch,
            other kind.Unwatch,
            other kind.Start,
            other kind.End,
            other kind.Introduce,
            other kind.Release,
            other kind.DomainPath,
            other Write,
            other Mkdir,
            other Rm,
            other SetPerms,
            other kind.IsIntroduced,
            other kind.Reset,
          ));
      sound = tt;
    }
  where
    other : (k : Kind) → eqb type (number_of k) ≡ false
    other k = ne_eqb _ _ (λ e. h k (sym e))
