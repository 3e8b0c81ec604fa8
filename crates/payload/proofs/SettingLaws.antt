-- What SET_PERMS means.
use mathlib.Core.Path.{◌≡◌, refl, ap, sym, subst⁻¹, ◌∙◌}
use mathlib.Core.Bool.{Bool, true, false, cond}
use mathlib.Core.List.{List, [], ◌∷◌}
use mathlib.Core.Logic.{◌⊎◌, ⊎_elim}
use mathlib.Core.Option.{Option, none, some}
use Prim.Native.Nat.{ℕ, ◌+◌}
use native.Mathlib.Omega.{arith}
use lib.ListN.{take, drop}
use borrow.Author.Tests.{ne_eqb}
use Rattle.std.specs.Prelude.{Some, None, unwrap_or}
use Rattle.std.specs.Prelude as std
use Rattle.rules.specs.Octets.{Octets}
use Rattle.rules.specs.Path.{Domain, Connection, domain_of, Names, given}
use Rattle.rules.specs.Node as nodes
use Rattle.rules.specs.Payload as rules
use Rattle.rules.specs.Payload.{invalid, request, strings, names_of, on_root, proper, asking, setting, setting_all}
use Rattle.paths.specs.Form.{form_of}
use Rattle.payload.specs.Strings.{prepended}
use Rattle.payload.specs.Cursor.{taken_at}
use Rattle.payload.specs.Meaning.{entry_meant, others_meant, ask_meant, kept, request_kept, ask_kept, Means, Parses}
use Rattle.payload.specs.Answers.{named_of, no_entries, added, added_to, entries_in, asking_of, setting_of}
use Rattle.payload.specs.declared.answer.Path.{Path}
use Rattle.payload.specs.declared.answer.Entry.{Entry}
use Rattle.payload.specs.declared.answer.Entries.{Entries}
use Rattle.payload.specs.declared.answer.Ask.TheVariants.{SetPerms}
use Rattle.payload.specs.declared.answer.Request.{Request}
use Rattle.payload.specs.declared.answer.Request.TheVariants.{Invalid}
use Rattle.payload.specs.declared.cursor.Cursor.{Cursor}
use Rattle.payload.specs.declared.cursor.Taken.TheVariants.{String}
use Rattle.payload.proofs.Strings.{part-first}
use Rattle.payload.proofs.CursorLaws.{Told, Untold, string-told}
use Rattle.payload.proofs.AskLaws.{invalid_means, means_as, asking_not, asking_means}
use Rattle.payload.proofs.SettingEntries.{held, entries_sound}

-- ── what is kept of an ask ──

-- what is kept is asked of the root as the whole is
root_kept : (a : rules.Ask) → on_root (ask_kept a) ≡ on_root a
unfolding on_root ask_kept
root_kept rules.directory = refl
root_kept rules.read = refl
root_kept rules.get_perms = refl
root_kept (rules.write v) = refl
root_kept rules.mkdir = refl
root_kept rules.rm = refl
root_kept (rules.set_perms o es) = refl

proper-kept : (a : rules.Ask) (ns : Names) → proper (ask_kept a) ns ≡ proper a ns
unfolding proper
proper-kept a [] = root_kept a
proper-kept a (n ∷ ns) = refl

kept-asking : (d : Domain) (a : rules.Ask) (t : Octets) → kept (asking d a t) ≡ asking d (ask_kept a) t
unfolding asking kept request_kept
kept-asking d a t = by (names_of d (given t))
  where
    if_proper : (b : Bool) (ns : Names) → kept (cond b (request (rules.ask a ns)) invalid) ≡ cond b (request (rules.ask (ask_kept a) ns)) invalid
    if_proper true ns = refl
    if_proper false ns = refl

    by : (o : Option Names) →
        kept (elim o [ none ↦ invalid | some ns ↦ cond (proper a ns) (request (rules.ask a ns)) invalid ])
        ≡ elim o [ none ↦ invalid | some ns ↦ cond (proper (ask_kept a) ns) (request (rules.ask (ask_kept a) ns)) invalid ]
    by none = refl
    by (some ns) =
        if_proper (proper a ns) ns
        ∙ ap (λ (b : Bool). cond b (request (rules.ask (ask_kept a) ns)) invalid) (sym (proper-kept a ns))

-- ── the request ──

all-setting : (d : Domain) (t : Octets) (o : Option (List Octets)) → setting_all d (prepended t o) ≡ setting d t (entries_in o)
unfolding setting_all setting prepended entries_in
all-setting d t none = refl
all-setting d t (some ts) = refl

module _ (s : Octets) where
  -- nothing to begin with
  pub setting_other : Untold s 0 none ⊎ Untold s 0 (some []) → Means s Invalid (λ (c : Connection). kept (setting_all (domain_of c) (strings s)))
  unfolding setting_all kept
  setting_other h =
      invalid_means s _
      (λ c.
      ⊎_elim (λ (u : Untold s 0 none). ap (λ (o : Option (List Octets)). kept (setting_all (domain_of c) o)) u.all)
      (λ (u : Untold s 0 (some [])). ap (λ (o : Option (List Octets)). kept (setting_all (domain_of c) o)) u.all) h)

  module _ (start end : ℕ) (next : Cursor) (found : taken_at s 0 ≡ String start end next) where
    told : Told s 0 start end next
    told = string-told s 0 start end next found

    setting_at : (d : Domain) → setting_all d (strings s) ≡ setting d (take end s) (entries_in (strings (drop next.at s)))
    setting_at d =
        ap (setting_all d)
        (told.string.all
        ∙ (ap (λ (t : Octets). prepended t (strings (drop (end + 1) s))) (part-first end s)
        ∙ ap (λ (n : ℕ). prepended (take end s) (strings (drop n s))) (sym told.goes_on)))
        ∙ all-setting d (take end s) (strings (drop next.at s))

    added_none : (o : Option (List nodes.Entry)) → added_to no_entries o ≡ None → o ≡ none
    unfolding added_to
    added_none none h = refl
    added_none (some es) h = absurd (let z : ◌≡◌ {A = ℕ} 0 1 = cc in omega arith)

    pub setting_not : added_to no_entries (entries_in (strings (drop next.at s))) ≡ None →
        Means s Invalid (λ (c : Connection). kept (setting_all (domain_of c) (strings s)))
    unfolding kept setting
    setting_not h =
        invalid_means s _ (λ c. ap kept (setting_at (domain_of c) ∙ ap (setting (domain_of c) (take end s)) (added_none _ h)))

    unnamed : (d : Domain) (o : Option (List nodes.Entry)) → named_of end (form_of (given (take end s))) ≡ None → setting d (take end s) o ≡ invalid
    unfolding setting
    unnamed d none h = refl
    unnamed d (some []) h = refl
    unnamed d (some (e ∷ es)) h = asking_not d (rules.set_perms e es) s end h

    pub setting_unnamed : named_of end (form_of (given (take end s))) ≡ None →
        Means s Invalid (λ (c : Connection). kept (setting_all (domain_of c) (strings s)))
    unfolding kept
    setting_unnamed h = invalid_means s _ (λ c. ap kept (setting_at (domain_of c) ∙ unnamed (domain_of c) _ h))

    module _ (p : Path) (h : named_of end (form_of (given (take end s))) ≡ Some p) where
      module _ (o : nodes.Entry) (os : List nodes.Entry) where
        abbrev es : Entries
        es = added no_entries (o ∷ os)

        set-ask : ask_meant s (SetPerms es) ≡ ask_kept (rules.set_perms o os)
        unfolding ask_kept
        set-ask =
            let k = held o os in
            ap (λ (e : Entry). rules.set_perms (entry_meant e) (others_meant es)) k.first ∙ ap (rules.set_perms o) k.others

        some-set : setting_of s p es ≡ asking_of s (SetPerms es) p
        unfolding setting_of
        some-set =
            let k = held o os in
            let n : es.count ≡ 0 → ⊥ = λ z. omega arith in
            rw (ne_eqb es.count 0 n)

        some_means : (r : std.Option Request) → entries_in (strings (drop next.at s)) ≡ some (o ∷ os) → r ≡ setting_of s p es →
            Parses s r (λ (c : Connection). kept (setting_all (domain_of c) (strings s)))
        unfolding setting
        some_means r e t =
            means_as _ (asking_means s end p told.string.high h (SetPerms es) r (entries_sound _ o os e) (t ∙ some-set))
            (λ c.
            let d = domain_of c in
            ap (λ (a : rules.Ask). asking d a (take end s)) set-ask
            ∙ (sym (kept-asking d (rules.set_perms o os) (take end s)) ∙ sym (ap kept (setting_at d ∙ ap (setting d (take end s)) e))))

      none_means : (r : std.Option Request) → entries_in (strings (drop next.at s)) ≡ some [] → r ≡ setting_of s p no_entries →
          Parses s r (λ (c : Connection). kept (setting_all (domain_of c) (strings s)))
      unfolding setting setting_of kept
      none_means r e t =
          subst⁻¹ (λ (x : std.Option Request). Parses s x (λ (c : Connection). kept (setting_all (domain_of c) (strings s)))) t
          (invalid_means s _ (λ c. ap kept (setting_at (domain_of c) ∙ ap (setting (domain_of c) (take end s)) e)))

      pub setting_means : (k : Entries) (r : std.Option Request) → added_to no_entries (entries_in (strings (drop next.at s))) ≡ Some k →
          r ≡ setting_of s p k → Parses s r (λ (c : Connection). kept (setting_all (domain_of c) (strings s)))
      unfolding added_to added
      setting_means k r f t = by (entries_in (strings (drop next.at s))) refl f
        where
          by : (o : Option (List nodes.Entry)) → entries_in (strings (drop next.at s)) ≡ o → added_to no_entries o ≡ Some k →
              Parses s r (λ (c : Connection). kept (setting_all (domain_of c) (strings s)))
          by none e f = absurd (let z : ◌≡◌ {A = ℕ} 0 1 = cc in omega arith)
          by (some []) e f = none_means r e (t ∙ ap (setting_of s p) (let g : no_entries ≡ k = cc in sym g))
          by (some (o ∷ os)) e f = some_means o os r e (t ∙ ap (setting_of s p) (let g : added no_entries (o ∷ os) ≡ k = cc in sym g))
