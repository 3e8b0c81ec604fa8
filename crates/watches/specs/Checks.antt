-- When the bytes of a used place are those of the watch that they mean, part by part; and when that watch is good.
use Rattle.std.specs.Prelude.{Bool, true, not, ◌&&◌, ◌||◌, ℕ, ◌+◌, ◌*◌, ◌/◌, ◌%◌, eqb, leb, get_or}
use Rattle.std.proofs.Math.Option.{Option, none, some}
use Rattle.rules.specs.Size.{watch_size, longest_token}
use Rattle.rules.specs.Octets.{Octets, same}
use Rattle.rules.specs.Event.{Watch, Watches, place_text}
use Rattle.rules.specs.Layout.{Domains, is_relative, place_in}
use Rattle.rules.specs.Sound.{good_watch, watched}
use Rattle.watches.specs.Watch.{token_length}

-- a path's text and its mark are those of the place that they mean
unfoldable pub place_same : Bool → Octets → Bool
place_same r x = same (place_text (place_in r x)) x && (not r || is_relative (place_in r x))

-- a depth is given, or is 0
unfoldable pub depth_same : Octets → ℕ → Bool
depth_same s k = eqb (get_or s (k * watch_size) 0 / 32 % 2) 1 || eqb (get_or s (k * watch_size + 1) 0) 0

unfoldable pub fields_same : Octets → ℕ → Bool
fields_same s k =
    eqb (get_or s (k * watch_size) 0 % 32) 0
    && (eqb (get_or s (k * watch_size + 5) 0 / 64 % 2) 0 && (leb (token_length s k) longest_token && depth_same s k))

-- a good watch, which no later place has too
unfoldable pub good_watch_at : Domains → Option Watch → Watches → Bool
good_watch_at ds none ws = true
good_watch_at ds (some w) ws = good_watch ds w && not (watched w.owner (place_text w.place) w.token ws)
