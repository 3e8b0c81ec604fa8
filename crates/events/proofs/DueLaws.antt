-- Whether a message is due, by the tests that the code makes, and which one it is.
use mathlib.Core.Path.{◌≡◌, refl, sym, ◌∙◌}
use mathlib.Core.Bool.{Bool, true, false, cond, ◌&&◌}
use mathlib.Core.Option.{Option, none, some}
use Prim.Native.Nat.{ℕ, ◌≤◌, ◌<◌}
use native.Mathlib.Nat.{zero-add}
use native.Mathlib.Omega.{arith}
use lib.Dec.{leb}
use lib.ListN.{length, get_or}
use borrow.Author.Tests.{le-leb, lt-leb, le-ltb, lt-ltb, leb-true}
use Rattle.rules.specs.Size.{most_watches, most_records, longest_path, record_path_at}
use Rattle.rules.specs.Octets.{Octets}
use Rattle.rules.specs.Event.{Watch}
use Rattle.rules.specs.Layout.{watches_of}
use Rattle.rules.specs.Message.{record_at, mask_bit, path_length, path_in, concerns, reported, event_message, message_for, message_of, sent, refused_with}
use Rattle.rules.proofs.Compare.{both_true}
use Rattle.rules.proofs.Slots.{text-few}
use Rattle.octets.specs.Numbers.{Put}
use Rattle.domains.specs.Entry.{taken, passes, entry_or}
use Rattle.watches.specs.Watch.{nobody, watch_of}
use Rattle.domains.proofs.Search.{passes_free, passes-taken}
use Rattle.events.specs.Messages.{due_for, due, sent_as, sent_over}
use Rattle.std.specs.Prelude.{Some, None}

passes_is : {A : Type 0} (test : A → Bool) (x : Option A) → passes test x ≡ true → taken x ≡ true
unfolding passes taken
passes_is test none e = e
passes_is test (some x) e = refl

module _ (s e : Octets) (i k : ℕ) where
  abbrev r : Octets
  r = record_at e i

  abbrev w : Watch
  w = watch_of s k

  pub due_free : taken (get_or (watches_of s) k none) ≡ false → false ≡ due s e i k
  unfolding due
  due_free f = sym (passes_free (due_for r k) (get_or (watches_of s) k none) f)

  module _ (u : taken (get_or (watches_of s) k none) ≡ true) where
    due_is : due s e i k ≡ (mask_bit r k && (leb 1 (path_length r) && (leb (path_length r) longest_path && concerns (path_in r) w.place)))
    unfolding due due_for
    due_is = passes-taken (due_for r k) nobody (get_or (watches_of s) k none) u

    pub due_unheard : mask_bit r k ≡ false → false ≡ due s e i k
    due_unheard m = sym (due_is ∙ rw m)

    module _ (m : mask_bit r k ≡ true) (n : ℕ) (q : n ≡ path_length r) where
      pub due_empty : n < 1 → false ≡ due s e i k
      due_empty h = sym (due_is ∙ rw (m, ← q, lt-leb 1 n h))

      pub due-long : 1 ≤ n → longest_path < n → false ≡ due s e i k
      due-long l h = sym (due_is ∙ rw (m, ← q, le-leb 1 n l, lt-leb n longest_path h))

      pub due-concerns : 1 ≤ n → n ≤ longest_path → concerns (path_in r) w.place ≡ due s e i k
      due-concerns l h = sym (due_is ∙ rw (m, ← q, le-leb 1 n l, le-leb n longest_path h))

  module _ (d : due s e i k ≡ true) where
    pub due-used : taken (get_or (watches_of s) k none) ≡ true
    unfolding due
    due-used = passes_is (due_for r k) (get_or (watches_of s) k none) d

    due-rest : (leb (path_length r) longest_path && concerns (path_in r) w.place) ≡ true
    due-rest =
        let a = (both_true (mask_bit r k) _ (sym (due_is due-used) ∙ d)).1 in
        (both_true (leb 1 (path_length r)) _ a).1

    pub due-short : path_length r ≤ longest_path
    due-short = leb-true (path_length r) longest_path (both_true (leb (path_length r) longest_path) _ due-rest).0

    pub due_concerned : concerns (path_in r) w.place ≡ true
    due_concerned = (both_true (leb (path_length r) longest_path) _ due-rest).1

    pub path-short : length (path_in r) ≤ longest_path
    unfolding path_in
    path-short = omega (arith, text-few r record_path_at longest_path (path_length r), due-short)

-- ── the message ──

message_for_lem : (r : Octets) (k : ℕ) (x : Option Watch)
    → message_for r k x ≡ cond (passes (due_for r k) x) (some (event_message (reported (entry_or nobody x) (path_in r)) (entry_or nobody x).token)) none
unfolding message_for passes due_for entry_or
message_for_lem r k none = refl
message_for_lem r k (some w) = refl

module _ (s e : Octets) (count i k : ℕ) where
  abbrev asked : Option Octets
  asked = message_of (watches_of s) e count i k

  pub past_count : count ≤ i → asked ≡ none
  unfolding message_of
  past_count h = rw (le-ltb i count h)

  pub past_records : i < count → most_records ≤ i → asked ≡ none
  unfolding message_of
  past_records h l = rw (lt-ltb i count h, le-ltb i most_records l)

  module _ (h : i < count) (l : i < most_records) where
    pub past_watches : most_watches ≤ k → asked ≡ none
    unfolding message_of
    past_watches m = rw (lt-ltb i count h, lt-ltb i most_records l, le-ltb k most_watches m)

    module _ (m : k < most_watches) where
      -- what the watch is told of the record
      abbrev message : Octets
      message = event_message (reported (watch_of s k) (path_in (record_at e i))) (watch_of s k).token

      asked_is : asked ≡ cond (due s e i k) (some message) none
      unfolding message_of due
      asked_is =
          rw (lt-ltb i count h, lt-ltb i most_records l, lt-ltb k most_watches m) (message_for_lem (record_at e i) k (get_or (watches_of s) k none))

      pub undue : due s e i k ≡ false → asked ≡ none
      undue d = asked_is ∙ rw d

      pub message-due : due s e i k ≡ true → asked ≡ some message
      message-due d = asked_is ∙ rw d

-- ── the answer ──

pub nothing_sent : (m : Octets) (o : Option Octets) → o ≡ none → sent_as None m ≡ sent_over m o
unfolding sent refused_with
nothing_sent m o e = rw e refl

pub message-sent : (before after x : Octets) (o : Option Octets) (n : ℕ) → o ≡ some x → Put 0 x before after n
    → sent_as (Some n) after ≡ sent_over before o
unfolding sent
message-sent before after x o n e p = rw (e, p.bytes, p.behind, zero-add) refl
