-- What is written of a list of slots or entries, one after the other.
use mathlib.Core.Path.{◌≡◌, refl, sym, ap, ◌∙◌}
use mathlib.Core.List.{List, [], ◌∷◌, ◌++◌, flat_map, append_assoc}
use Prim.Native.Nat.{ℕ, suc, ◌+◌, ◌*◌, ◌-◌, ◌≤◌, ◌<◌}
use native.Mathlib.Nat.{add-zero, add_assoc}
use native.Mathlib.Numerals.{add-one}
use native.Mathlib.Omega.{arith}
use lib.ListN.{length, get_or, take, drop, set, length-append}
use lib.Seq as Seq
use lib.Dec.{lit≤}
use Rattle.rules.specs.Size.{longest_name}
use Rattle.rules.specs.Octets.{Octets, nul, paste, decimal, bits_at}
use Rattle.rules.specs.Node.{Entry, Node, Table, node_at}
use Rattle.rules.specs.Answer.{name_list, access_text, entry_text}
use Rattle.rules.specs.Layout.{table_of, entry_at}
use Rattle.rules.proofs.Decimals.{length-decimal_lt}
use Rattle.rules.proofs.Paste.{paste_nil, length-paste}
use Rattle.rules.proofs.Joined.{paste-behind, set-paste}
use Rattle.rules.proofs.Fitting.{node_at-fits, decoded_fits}
use Rattle.rules.proofs.Tables.{flat_append, flat_last}
use Rattle.octets.specs.Numbers.{Put}
use Rattle.slots.specs.Slot.{slot_at, name_length, entry_of}
use Rattle.slots.proofs.Reading.{node-some}
use Rattle.slots.proofs.Canonical.{sound_canonical, used-some, name-length_is, entry_is}
use Rattle.lookup.specs.Rights.{Asked}
use Rattle.lookup.proofs.RightsLaws.{few}

-- ── one more of a list ──

pub flat_next : {A : Type 0} (f : A → Octets) (xs : List A) (k : ℕ) (d : A) → k < length xs →
    flat_map f (take (k + 1) xs) ≡ flat_map f (take k xs) ++ f (get_or xs k d)
unfolding flat_map
flat_next f xs k d h =
    ap (λ (j : ℕ). flat_map f (take j xs)) (add-one k)
    ∙ ap (flat_map f) (Seq.take-suc xs k d h)
    ∙ flat_last f (take k xs) (get_or xs k d)

pub names_next : (ts : Table) (is : List ℕ) (k : ℕ) → k < length is → name_list ts (take (k + 1) is)
    ≡ name_list ts (take k is) ++ ((node_at ts (get_or is k 0)).name ++ nul)
unfolding name_list
names_next ts is k h = flat_next (λ (i : ℕ). (node_at ts i).name ++ nul) is k 0 h

-- ── a used slot's name ──

pub name-length : (t : Octets) (i : ℕ) → Asked t i → name_length t i ≡ length (node_at (table_of t) i).name
name-length t i a =
    let n = used-some (slot_at t i) a.used in
    name-length_is t (sound_canonical t a.sound) i a.below n.0 n.1
    ∙ ap (λ (m : Node). length m.name) (sym (node-some (table_of t) i n.0 n.1))

pub name-fits : (t : Octets) (i : ℕ) → length (node_at (table_of t) i).name ≤ longest_name
name-fits t i = (node_at-fits (table_of t) i (decoded_fits t).all).name

-- how long the names are with one more
pub names_longer : (t : Octets) (is : List ℕ) (k : ℕ) → k < length is → Asked t (get_or is k 0) →
    length (name_list (table_of t) (take (k + 1) is)) ≡ length (name_list (table_of t) (take k is)) + (name_length t (get_or is k 0) + 1)
names_longer t is k h a =
    ap length (names_next (table_of t) is k h)
    ∙ length-append (name_list (table_of t) (take k is)) ((node_at (table_of t) (get_or is k 0)).name ++ nul)
    ∙ ap (λ (m : ℕ). length (name_list (table_of t) (take k is)) + m) (length-append (node_at (table_of t) (get_or is k 0)).name nul
    ∙ ap (λ (m : ℕ). m + 1) (sym (name-length t (get_or is k 0) a)))

-- fewer names are not longer
names_mono : (ts : Table) (is : List ℕ) (j n : ℕ) → j ≤ n → length (name_list ts (take j is)) ≤ length (name_list ts (take n is))
unfolding name_list
names_mono ts is j n h =
    let f : ℕ → Octets = λ i. (node_at ts i).name ++ nul in
    let d = n - j in
    let e : n ≡ j + d = omega arith in
    let l : length (flat_map f (take n is)) ≡ length (flat_map f (take j is)) + length (flat_map f (take d (drop j is))) =
    ap (λ (m : ℕ). length (flat_map f (take m is))) e ∙ ap (λ (r : List ℕ). length (flat_map f r)) (Seq.take-add j d is)
    ∙ ap length (flat_append f (take j is) (take d (drop j is))) ∙ length-append (flat_map f (take j is)) (flat_map f (take d (drop j is))) in
    omega (arith, l)

-- where all names have room, one more than the first k has
pub room_for : (ts : Table) (is : List ℕ) (k : ℕ) → k < length is → (at size : ℕ) → at + length (name_list ts is) ≤ size →
    at + (length (name_list ts (take k is)) + (length (node_at ts (get_or is k 0)).name + 1)) ≤ size
room_for ts is k h at size room =
    let xs = name_list ts (take k is) in
    let ys = (node_at ts (get_or is k 0)).name in
    let all : length (name_list ts (take (length is) is)) ≡ length (name_list ts is) =
    ap (λ (r : List ℕ). length (name_list ts r)) (Seq.take-length is) in
    omega (arith, names_mono ts is (k + 1) (length is) (omega arith), ap length (names_next ts is k h), length-append xs (ys ++ nul), length-append ys nul)

-- ── a text and a nul written behind what is there ──

module _ (at : ℕ) (xs before into : Octets) (to : ℕ) (written : into ≡ paste at xs before) (behind : to ≡ at + length xs) (ys : Octets)
    (room : at + (length xs + (length ys + 1)) ≤ length before) where
  pub same-room : length into ≡ length before
  same-room = ap length written ∙ length-paste at xs before (omega arith)

  module _ (after : Octets) (copied : after ≡ paste to ys into) where
    joined : after ≡ paste at (xs ++ ys) before
    joined = copied ∙ ap (paste to ys) written ∙ paste-behind at to xs ys before (omega arith) behind

    pub room_after : length after ≡ length before
    room_after = ap length joined ∙ length-paste at (xs ++ ys) before (rw (length-append xs ys) (omega arith))

    pub nul-behind : set after (to + length ys) 0 ≡ paste at (xs ++ (ys ++ nul)) before
    nul-behind =
        let e : to + length ys ≡ at + length (xs ++ ys) = ap (λ (n : ℕ). n + length ys) behind ∙ add_assoc at (length xs) (length ys)
        ∙ ap (λ (n : ℕ). at + n) (sym (length-append xs ys)) in
        set-paste after (to + length ys) 0 (omega (arith, room_after))
        ∙ ap (paste (to + length ys) nul) joined
        ∙ paste-behind at (to + length ys) (xs ++ ys) nul before (omega arith) e
        ∙ ap (λ (l : Octets). paste at l before) (append_assoc xs ys nul)

-- ── an entry ──

module _ (before : Octets) (at access domain letter : ℕ) (is : letter ≡ access_text access) (low : domain < 65536) (room : at + 22 ≤ length before)
    (after : Octets) (next : ℕ) (put : Put (at + 1) (decimal domain) (set before at letter) after next) where
  digits : length (decimal domain) ≤ 5
  digits = length-decimal_lt 5 domain (lit≤ tt) (omega arith)

  front : set before at letter ≡ paste at (letter ∷ []) before
  front = set-paste before at letter (omega arith)

  enough : at + (1 + (length (decimal domain) + 1)) ≤ length before
  enough = omega (arith, digits)

  pub entry-room : length after ≡ length before
  entry-room = room_after at (letter ∷ []) before (set before at letter) (at + 1) front refl (decimal domain) enough after put.bytes

  pub entry_next : (next ≤ at + 6) × (next < length after)
  entry_next = omega (arith, digits, put.behind, entry-room)

  pub entry_put : Put at (entry_text (record { access = access; domain = domain })) before (set after next 0) (next + 1)
  unfolding entry_text
  entry_put =
      record {
        bytes = ap (λ (n : ℕ). set after n 0) put.behind
            ∙ nul-behind at (letter ∷ []) before (set before at letter) (at + 1) front refl (decimal domain) enough after put.bytes
            ∙ ap (λ (l : ℕ). paste at (l ∷ (decimal domain ++ nul)) before) is;
        behind = omega (arith, put.behind, length-append (decimal domain) nul);
      }

-- an entry's text has at most seven bytes
pub entry-short : (e : Entry) → e.domain < 65536 → length (entry_text e) ≤ 7
unfolding entry_text
entry-short e low = omega (arith, length-decimal_lt 5 e.domain (lit≤ tt) (omega arith), length-append (decimal e.domain) nul)

-- ── a node's entries, one after the other ──

-- the owner's entry and the others
abbrev pub entries : Octets → ℕ → List Entry
entries t i = (node_at (table_of t) i).owner ∷ (node_at (table_of t) i).others

pub entry_listed : (t : Octets) (i : ℕ) → Asked t i → (k : ℕ) → k < suc (length (node_at (table_of t) i).others) →
    entry_of t i k ≡ get_or (entries t i) k (entry_of t i k)
entry_listed t i a k h =
    let n = used-some (slot_at t i) a.used in
    let e = node-some (table_of t) i n.0 n.1 in
    let b : k < suc (length n.0.others) = rw e at h in
    entry_is t i a.below n.0 n.1 k (entry_of t i k) b ∙ ap (λ (m : Node). get_or (m.owner ∷ m.others) k (entry_of t i k)) (sym e)

-- the first k entries are written
pub record Written (t : Octets) (i at : ℕ) (before : Octets) (k : ℕ) (into : Octets) (to : ℕ) : Type 0 where
  pub bytes : into ≡ paste at (flat_map entry_text (take k (entries t i))) before
  pub behind : to ≡ at + length (flat_map entry_text (take k (entries t i)))
  pub short : to ≤ at + 7 * k

module _ (t : Octets) (i : ℕ) (a : Asked t i) (at : ℕ) (before : Octets) (room : at + 64 ≤ length before) where
  pub none_written : Written t i at before 0 before at
  unfolding flat_map
  none_written = record { bytes = sym (paste_nil at before); behind = sym (add-zero at); short = omega arith }

  module _ (k : ℕ) (into : Octets) (to : ℕ) (w : Written t i at before k into to) (h : k < suc (length (node_at (table_of t) i).others)) where
    low : k < 4
    low = omega (arith, few t i a)

    pub entry-fits : ((entry_of t i k).access < 4) × ((entry_of t i k).domain < 65536)
    unfolding entry_of entry_at bits_at
    entry-fits = omega arith

    pub written-room : length into ≡ length before
    written-room = ap length w.bytes ∙ length-paste at (flat_map entry_text (take k (entries t i))) before (omega (arith, w.behind, w.short, low))

    pub one_more : (access domain : ℕ) → access ≡ (entry_of t i k).access → domain ≡ (entry_of t i k).domain → (after : Octets) (next : ℕ) →
        Put to (entry_text (record { access = access; domain = domain })) into after next → Written t i at before (k + 1) after next
    one_more access domain ea ed after next p =
        let xs = flat_map entry_text (take k (entries t i)) in
        let e : Entry = record { access = access; domain = domain } in
        let same : e ≡ get_or (entries t i) k (entry_of t i k) = (λ j. record { access = ea j; domain = ed j }) ∙ entry_listed t i a k h in
        let more : xs ++ entry_text e ≡ flat_map entry_text (take (k + 1) (entries t i)) =
        ap (λ (x : Entry). xs ++ entry_text x) same ∙ sym (flat_next entry_text (entries t i) k (entry_of t i k) h) in
        record {
          bytes = p.bytes ∙ ap (paste to (entry_text e)) w.bytes ∙ paste-behind at to xs (entry_text e) before (omega arith) w.behind
              ∙ ap (λ (l : Octets). paste at l before) more;
          behind = p.behind ∙ ap (λ (n : ℕ). n + length (entry_text e)) w.behind ∙ add_assoc at (length xs) (length (entry_text e))
              ∙ ap (λ (n : ℕ). at + n) (sym (length-append xs (entry_text e)) ∙ ap length more);
          short = omega (arith, p.behind, w.short, entry-short e (omega (arith, entry-fits)));
        }

  pub all-written : (k : ℕ) (into : Octets) (to : ℕ) → Written t i at before k into to → length (entries t i) ≤ k →
      Put at (flat_map entry_text (entries t i)) before into to
  all-written k into to w h =
      let e = Seq.take_all k (entries t i) h in
      record {
        bytes = w.bytes ∙ ap (λ (es : List Entry). paste at (flat_map entry_text es) before) e;
        behind = w.behind ∙ ap (λ (es : List Entry). at + length (flat_map entry_text es)) e;
      }
