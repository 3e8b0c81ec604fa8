-- What INTRODUCE and RELEASE come to.
use mathlib.Core.Path.{◌≡◌, refl}
use mathlib.Core.Bool.{true, false}
use mathlib.Core.List.{List, flat_map}
use mathlib.Core.Option.{some}
use Prim.Native.Nat.{ℕ, ◌≤◌, ◌<◌}
use lib.ListN.{length, set}
use borrow.Author.Tests.{lt-ltb, le-ltb}
use Rattle.rules.specs.Size.{most_domains}
use Rattle.rules.specs.Octets.{Octets, paste}
use Rattle.rules.specs.Entries.{lowest}
use Rattle.rules.specs.Domain.{Domain}
use Rattle.rules.specs.Path.{introduce_name}
use Rattle.rules.specs.Answer.{OK, EEXIST, ENOSPC, refused}
use Rattle.rules.specs.Event.{Record, heard_of}
use Rattle.rules.specs.Layout.{Domains, record_bytes}
use Rattle.rules.specs.Sound.{introduced}
use Rattle.rules.specs.World as W
use Rattle.rules.specs.World.{World, left, introducing, with_domains}
use Rattle.rules.specs.Call.{Tables, tables_of}
use Rattle.std.specs.Prelude.{Ok}
use Rattle.replies.specs.Framed.{Told}
use Rattle.replies.specs.Handled.{Outcome, Handled}
use Rattle.handlers.proofs.Ways.{its_tables}

module _ (w : World) (d : Domain) (page channel : ℕ) (ds : Domains) (here : w.domains ≡ ds) (all : length ds ≡ most_domains) where
  pub introduce_twice : introduced d ds ≡ true → introducing w d page channel ≡ left w (refused EEXIST)
  unfolding introducing left
  introduce_twice h = rw (here, h) refl

  module _ (new : introduced d ds ≡ false) (k : ℕ) (found : k ≡ lowest ds) where
    pub introduce-full : most_domains ≤ k → introducing w d page channel ≡ left w (refused ENOSPC)
    unfolding introducing left
    introduce-full h = rw (here, new, all, ← found, le-ltb k most_domains h) refl

    pub introduce-done : k < most_domains → introducing w d page channel
        ≡ record {
          reply = OK;
          world = with_domains w (set ds k (some d));
          records = heard_of introduce_name d w.watches;
          page = page;
          channel = channel;
        }
    unfolding introducing left
    introduce-done h = rw (here, new, all, ← found, lt-ltb k most_domains h) refl

-- an outcome with a page and a channel
pub introduced_so : (o : W.Outcome) (after : World) (rs : List Record) (page channel : ℕ) (reply reply' events events' : Octets) (x n : ℕ)
    (t : Tables) (r : Outcome) → o ≡ record { reply = OK; world = after; records = rs; page = page; channel = channel } →
    r ≡ Ok (record { length = x; events = n; page = page; channel = channel }) →
    Told OK (Ok x) reply reply' → events' ≡ paste 0 (flat_map record_bytes rs) events → n ≡ length rs → t ≡ its_tables after →
    Handled o t reply reply' events events' r
unfolding tables_of
introduced_so o after rs page channel reply reply' events events' x n t r q p h b l k =
    rw (q, p) (record { tables = k; reply = h; events = b; count = l; page = refl; channel = refl })
