-- The ways out of a handler: what it leaves where a request was refused, or done without an event.
use mathlib.Core.Path.{◌≡◌, refl, sym, subst}
use mathlib.Core.List.{List, [], flat_map}
use lib.ListN.{length}
use Prim.Native.Nat.{ℕ}
use Rattle.rules.specs.Octets.{Octets, paste}
use Rattle.rules.specs.Answer as A
use Rattle.rules.specs.Answer.{refused}
use Rattle.rules.specs.Event.{Record}
use Rattle.rules.specs.Layout.{record_bytes}
use Rattle.rules.specs.World as W
use Rattle.rules.specs.World.{World, left, to}
use Rattle.rules.specs.Call.{Tables, tables_of}
use Rattle.rules.proofs.Paste.{paste_nil}
use Rattle.octets.proofs.Options.{is_nothing}
use Rattle.replies.specs.Meant.{Reply, errno_meant}
use Rattle.replies.specs.declared.kinds.Errno.{Errno}
use Rattle.std.specs.Prelude.{Ok, Err, Option, None, Some, IfSome, ◌<◌}
use Rattle.std.specs.Option.{unwrap_or}
use Rattle.replies.specs.Framed.{Told}
use Rattle.replies.specs.Handled.{Outcome, Handled, reply_of, with_events}
use Rattle.replies.specs.Does.{tables, its_nodes, its_copies, its_watches, its_transactions, its_domains}

-- five tables, one by one
pub same_tables_lem : {a a' b b' c c' d d' e e' : Octets} → a ≡ a' → b ≡ b' → c ≡ c' → d ≡ d' → e ≡ e' → tables a b c d e ≡ tables a' b' c' d' e'
same_tables_lem p q r s t = λ i. record { nodes = p i; copies = q i; watches = r i; transactions = s i; domains = t i }

abbrev pub its_tables : World → Tables
its_tables w = tables (its_nodes w) (its_copies w) (its_watches w) (its_transactions w) (its_domains w)

-- the lowest free place, where there is one
module _ (o : Option ℕ) (n m : ℕ) (e : unwrap_or o n ≡ m) where
  pub none-free : ((k : ℕ) → o ≡ Some k → ⊥) → n ≡ m
  none-free h = rw (is_nothing o h) at e

  pub some_free : (k : ℕ) → o ≡ Some k → k ≡ m
  some_free k h = rw h at e

pub free-below : (o : Option ℕ) (n : ℕ) → IfSome o (λ k. k < n) → (k : ℕ) → o ≡ Some k → k < n
free-below o n e k h = rw h at e

-- the outcome by another name
pub handled_as : {o o' : W.Outcome} {t : Tables} {reply reply' events events' : Octets} {r : Outcome} → o ≡ o' → Handled o' t reply reply' events events' r →
    Handled o t reply reply' events events' r
handled_as {t = t} {reply = a} {reply' = b} {events = c} {events' = d} {r = r} e h = subst (λ (x : W.Outcome). Handled x t a b c d r) (sym e) h

pub back : (x : Reply) (n : ℕ) → reply_of (with_events x n) ≡ x
back (Ok k) n = refl
back (Err e) n = refl

module _ (w : World) (o : W.Outcome) (reply : Octets) where
  -- refused, with every table as it was
  pub refused_so : (events : Octets) (e : Errno) (t : Tables) → o ≡ left w (refused (errno_meant e)) → t ≡ its_tables w →
      Handled o t reply reply events events (Err e)
  unfolding left flat_map tables_of
  refused_so events e t q k =
      rw q (record { tables = k; reply = (refl, refl); events = sym (paste_nil 0 events); count = refl; page = refl; channel = refl })

  -- done, with no event
  pub done_so : (r : Outcome) (events : Octets) (a : A.Reply) (after : World) (reply' : Octets) (x : Reply) (t : Tables) → o ≡ to w a after [] →
      r ≡ with_events x 0 → Told a x reply reply' → t ≡ its_tables after → Handled o t reply reply' events events r
  unfolding to flat_map tables_of
  done_so r events a after reply' (Ok n) t q p h k =
      rw (q, p) (record { tables = k; reply = h; events = sym (paste_nil 0 events); count = refl; page = refl; channel = refl })
  done_so r events a after reply' (Err e) t q p h k =
      rw (q, p) (record { tables = k; reply = h; events = sym (paste_nil 0 events); count = refl; page = refl; channel = refl })

  -- done, with event records from the first on
  pub heard_so : (r : Outcome) (a : A.Reply) (after : World) (rs : List Record) (reply' events events' : Octets) (x n : ℕ) (t : Tables) →
      o ≡ to w a after rs → r ≡ with_events (Ok x) n → Told a (Ok x) reply reply' →
      events' ≡ paste 0 (flat_map record_bytes rs) events → n ≡ length rs → t ≡ its_tables after →
      Handled o t reply reply' events events' r
  unfolding to tables_of
  heard_so r a after rs reply' events events' x n t q p h b l k =
      rw (q, p) (record { tables = k; reply = h; events = b; count = l; page = refl; channel = refl })
