-- What a node request of a payload asks, and where.
use mathlib.Core.Path.{◌≡◌, sym, ap, ◌∙◌}
use mathlib.Core.Option.{Option, none, some}
use Prim.Native.Nat.{ℕ, ◌-◌, ◌≤◌}
use borrow.Author.Tests.{eq-eqb, ne_eqb}
use Rattle.rules.specs.Size.{last_domain}
use Rattle.rules.specs.Octets.{Octets}
use Rattle.rules.specs.Domain.{Domain, Connection, domain_of}
use Rattle.rules.specs.Path.{Names, names_in, path_text}
use Rattle.rules.specs.Payload as P
use Rattle.rules.specs.Answer.{ENOENT, refused, answer}
use Rattle.rules.specs.Layout.{Transaction}
use Rattle.rules.specs.World as W
use Rattle.rules.specs.World.{World, left, copy_of}
use Rattle.rules.proofs.PathLaws.{given-names, given_is_full}
use Rattle.handlers.specs.Asking.{Asking}
use Rattle.payload.specs.Meaning.{ask_meant, names_at, AskedSound}
use Rattle.payload.specs.declared.answer.Path.{Path}
use Rattle.payload.specs.declared.answer.Ask.{Ask}
use Rattle.requests.proofs.PlaceLaws.{names-given}

-- ── what is asked ──

module _ (s : Octets) (a : Ask) (p : Path) (k : AskedSound s a p) (d : Domain) (path : Octets) (e : path ≡ path_text (names_at d s p)) where
  pub names_back : names_in path ≡ names_at d s p
  names_back = given-names path (names_at d s p) (rw e (names-given s p d k.path))

  -- of the full path, where its text is at hand
  pub asking_of_lem : d ≤ last_domain → Asking d a path s
  asking_of_lem h =
      record {
        domain = h;
        full = given_is_full path (names_at d s p) (rw e (names-given s p d k.path));
        sound = k.ask;
        proper = rw names_back (k.proper d);
      }

  pub asked-names : (w : World) (c : Connection) (tx : ℕ) → W.asked w c tx (ask_meant s a) (names_at d s p) ≡ W.asked w c tx (ask_meant s a) (names_in path)
  asked-names w c tx = ap (W.asked w c tx (ask_meant s a)) (sym names_back)

-- ── where it is asked ──

module _ (w : World) (c : Connection) {d : Domain} (speaks : d ≡ domain_of c) (tx : ℕ) (a : P.Ask) (ns : Names) where
  pub asked-plain : tx ≡ 0 → W.asked w c tx a ns ≡ W.on_store w (answer d a ns w.nodes)
  unfolding W.asked
  asked-plain e = rw (eq-eqb tx 0 e) (ap (λ (x : Domain). W.on_store w (answer x a ns w.nodes)) (sym speaks))

  -- in the transaction that it names
  within : Domain → Option Transaction → W.Outcome
  within x m = elim m [ none ↦ left w (refused ENOENT) | some t ↦ W.in_transaction w (tx - 1) t (answer x a ns (copy_of w (tx - 1))) ]

  in_one : (tx ≡ 0 → ⊥) → (m : Option Transaction) → W.transaction_of w c tx ≡ m → W.asked w c tx a ns ≡ within d m
  unfolding W.asked within
  in_one z m e = rw (ne_eqb tx 0 z) (ap (within (domain_of c)) e) ∙ ap (λ (x : Domain). within x m) (sym speaks)

  pub asked_nowhere : (tx ≡ 0 → ⊥) → W.transaction_of w c tx ≡ none → W.asked w c tx a ns ≡ left w (refused ENOENT)
  unfolding within
  asked_nowhere z e = in_one z none e

  pub asked-inside : (tx ≡ 0 → ⊥) → (x : Transaction) → W.transaction_of w c tx ≡ some x →
      W.asked w c tx a ns ≡ W.in_transaction w (tx - 1) x (answer d a ns (copy_of w (tx - 1)))
  unfolding within
  asked-inside z x e = in_one z (some x) e
