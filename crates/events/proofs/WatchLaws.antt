-- What is known of a used place of sound watches.
use mathlib.Core.Path.{◌≡◌, subst}
use mathlib.Core.Bool.{true, ◌&&◌}
use mathlib.Core.Option.{none, some}
use Prim.Native.Nat.{ℕ}
use lib.ListN.{length, get_or}
use lib.Dec.{eqb}
use Rattle.rules.specs.Size.{watches_size}
use Rattle.rules.specs.Octets.{Octets, same}
use Rattle.rules.specs.Domain.{domain_of}
use Rattle.rules.specs.Event.{Watch}
use Rattle.rules.specs.Layout.{watches_of, watches_bytes}
use Rattle.rules.specs.Sound.{known, no_nul, good_place, good_watch, good_watches, sound_watches}
use Rattle.rules.proofs.Compare.{both_true}
use Rattle.rules.proofs.Places.{every_at}
use Rattle.rules.proofs.Tables.{each_at}
use Rattle.rules.proofs.EntryLayouts.{WatchFits, MaybeWatch}
use Rattle.rules.proofs.DecodedEntries.{sound-watches_fit}
use Rattle.rules.proofs.SoundTables.{watches-parts}
use Rattle.watches.specs.Watch.{TakenWatch, nobody, watch_of}
use Rattle.domains.proofs.Search.{taken-some}
use Rattle.watches.proofs.Bytes.{length-watches_of}
use Rattle.watches.proofs.Written.{sound-kept}
use Rattle.events.specs.Messages.{UsedWatch}

module _ (s : Octets) (k : ℕ) (u : UsedWatch s k) where
  abbrev w : Watch
  w = watch_of s k

  stands : get_or (watches_of s) k none ≡ some w
  stands = taken-some nobody (get_or (watches_of s) k none) u.used

  pub taken-watch : TakenWatch s k
  taken-watch = record { below = u.below; kept = sound-kept u.watches.domains s u.watches.sound; used = u.used }

  pub watch-fits : WatchFits w
  watch-fits =
      let e = each_at MaybeWatch (watches_of s) k none (sound-watches_fit u.watches.domains s u.watches.sound) (rw (length-watches_of s) u.below) in
      subst MaybeWatch stands e

  pub good-place : good_place w.owner w.depth w.place ≡ true
  unfolding sound_watches good_watch
  good-place =
      let ds = u.watches.domains in
      let kept = (both_true (eqb (length s) watches_size) (same (watches_bytes (watches_of s)) s && good_watches ds (watches_of s)) u.watches.sound).1 in
      let all = (both_true (same (watches_bytes (watches_of s)) s) (good_watches ds (watches_of s)) kept).1 in
      let this = every_at (good_watch ds) (watches_of s) (watches-parts ds (watches_of s) all).0 k w stands in
      let token-on = (both_true (known (domain_of w.owner) ds) (no_nul w.token && good_place w.owner w.depth w.place) this).1 in
      (both_true (no_nul w.token) (good_place w.owner w.depth w.place) token-on).1
