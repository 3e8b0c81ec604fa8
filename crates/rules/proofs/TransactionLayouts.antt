-- Transactions and their changes as bytes: what fits its fields is written in its width and read back.
use mathlib.Core.Path.{◌≡◌, refl, sym, ◌∙◌, ap, ap₂}
use mathlib.Core.Bool.{true}
use mathlib.Core.List.{List, [], ◌∷◌, ◌++◌, map, flat_map, append-nil, append_assoc}
use mathlib.Core.Option.{Option, none, some}
use Prim.Native.Nat.{ℕ, zero, suc, ◌*◌, ◌-◌, ◌^◌, ◌≤◌, ◌<◌}
use native.Mathlib.Omega.{arith}
use lib.ListN.{length, get_or, take, drop, replicate, length-append, length-replicate}
use lib.Seq.{take_at, drop_at}
use lib.Dec.{eqb}
use Rattle.rules.specs.Size.{longest_path, most_changes, change_size, transaction_size, most_transactions}
use Rattle.rules.specs.Octets.{Octets, padded, bit, ◌bits◌, chunks, big_endian, big_from, field, pack, pack_from, bits_at}
use Rattle.rules.specs.Path.{all_names, path_text, names_in}
use Rattle.rules.specs.Answer.{Change}
use Rattle.rules.specs.Layout.{text_at, change_bits, change_bytes, transaction_bytes, change_in, transaction_at, transaction_in, transactions_bytes}
use Rattle.rules.specs.Layout.{transactions_of, Transactions, Transaction}
use Rattle.rules.proofs.Slots.{length-padded, text-padded}
use Rattle.rules.proofs.Tables.{Each, each_map, length_encoded, decoded, decoded_at}
use Rattle.rules.proofs.PathLaws.{text-names}
use Rattle.rules.proofs.Fields.{length_big, field-first, bit_small, bit_back}

pub record ChangeFits (c : Change) : Type 0 where
  pub parents : c.parents < 8
  pub names : all_names c.names ≡ true
  pub short : length (path_text c.names) ≤ longest_path

pub record TransactionFits (x : Transaction) : Type 0 where
  pub holder : x.holder < 65536
  pub few : length x.changes ≤ most_changes
  pub changes : Each ChangeFits x.changes

-- ── changes ──

change-head : (b k l : ℕ) → b < 2 → k < 8 → l < 512
    → let m = pack (1 bits b ∷ 3 bits 0 ∷ 3 bits k ∷ 9 bits l ∷ []) in (m < 256 ^ 2) × (bits_at m 15 1 ≡ b) × (bits_at m 9 3 ≡ k) × (bits_at m 0 9 ≡ l)
unfolding pack pack_from bits_at
change-head b k l hb hk hl = (omega arith, omega arith, omega arith, omega arith)

module _ (c : Change) (f : ChangeFits c) where
  change_fields : ℕ
  change_fields = pack (change_bits c)

  change_seam : change_bytes c ≡ big_endian 2 change_fields ++ (padded longest_path (path_text c.names) ++ [])
  unfolding change_bytes change_fields
  change_seam = rw (append-nil (padded longest_path (path_text c.names)))

  fields_read : (change_fields < 256 ^ 2) × (bits_at change_fields 15 1 ≡ bit c.removal) × (bits_at change_fields 9 3 ≡ c.parents)
      × (bits_at change_fields 0 9 ≡ length (path_text c.names))
  unfolding change_fields change_bits
  fields_read = change-head _ _ _ (bit_small c.removal) f.parents (omega (arith, f.short))

  change-width : length (change_bytes c) ≡ change_size
  unfolding change_bytes
  change-width = length-append (big_endian 2 _) (padded longest_path (path_text c.names))
      ∙ rw (length_big 2, length-padded longest_path (path_text c.names) f.short)

  change-head-read : field (change_bytes c) 0 2 ≡ change_fields
  change-head-read = rw change_seam (field-first 2 change_fields _ fields_read.0)

  change-names : names_in (text_at (change_bytes c) 2 longest_path (bits_at change_fields 0 9)) ≡ c.names
  change-names =
      ap names_in (rw change_seam (text-padded (big_endian 2 change_fields) (path_text c.names) [] 2 longest_path _ (length_big 2 change_fields) f.short
      fields_read.3))
      ∙ text-names c.names f.names (omega (arith, f.short))

  change-read : change_in (change_bytes c) ≡ c
  unfolding change_in
  change-read = rw change-head-read λ i. record { removal = removal-read i; parents = fields_read.2 i; names = change-names i }
    where
      removal-read : eqb (bits_at change_fields 15 1) 1 ≡ c.removal
      removal-read = rw fields_read.1 (bit_back c.removal)

-- ── transactions ──

-- the first rows of bytes that begin with encoded entries
first_rows : {A : Type 0} (encode : A → Octets) (k n : ℕ) (xs : List A) (rest : Octets) → length xs ≤ n → Each (λ (x : A). length (encode x) ≡ k) xs
    → take (length xs) (chunks n k (flat_map encode xs ++ rest)) ≡ map encode xs
unfolding flat_map chunks
first_rows encode k n [] rest h w = refl
first_rows encode k zero (x ∷ xs) rest h w = absurd (omega arith)
first_rows encode k (suc n) (x ∷ xs) rest h w =
    rw (
      append_assoc (encode x) (flat_map encode xs) rest,
      take_at (encode x) (flat_map encode xs ++ rest) k w.0,
      drop_at (encode x) (flat_map encode xs ++ rest) k w.0,
    )
    (ap (λ (l : List Octets). encode x ∷ l) (first_rows encode k n xs rest (omega arith) w.1))

map_back : {A : Type 0} (encode : A → Octets) (decode : Octets → A) (xs : List A) → Each (λ (x : A). decode (encode x) ≡ x) xs → map decode (map encode xs) ≡ xs
map_back encode decode [] h = refl
map_back encode decode (x ∷ xs) h = ap₂ ◌∷◌ h.0 (map_back encode decode xs h.1)

transaction_head : (b l o : ℕ) → b < 2 → l < 16 → o < 65536
    → let m = pack (1 bits 1 ∷ 1 bits b ∷ 2 bits 0 ∷ 4 bits l ∷ 16 bits o ∷ []) in
    (m < 256 ^ 3) × (bits_at m 23 1 ≡ 1) × (bits_at m 22 1 ≡ b) × (bits_at m 16 4 ≡ l) × (bits_at m 0 16 ≡ o)
unfolding pack pack_from bits_at
transaction_head b l o hb hl ho = (omega arith, omega arith, omega arith, omega arith, omega arith)

transaction_used : (s : Octets) (head : ℕ) → field s 0 3 ≡ head → bits_at head 23 1 ≡ 1 → transaction_in s ≡ some (transaction_at s head)
unfolding transaction_in
transaction_used s head h u = rw (h, u)

module _ (x : Transaction) (f : TransactionFits x) where
  transaction_fields : ℕ
  transaction_fields = pack (1 bits 1 ∷ 1 bits bit x.stale ∷ 2 bits 0 ∷ 4 bits length x.changes ∷ 16 bits x.holder ∷ [])

  heads : (transaction_fields < 256 ^ 3) × (bits_at transaction_fields 23 1 ≡ 1) × (bits_at transaction_fields 22 1 ≡ bit x.stale)
      × (bits_at transaction_fields 16 4 ≡ length x.changes) × (bits_at transaction_fields 0 16 ≡ x.holder)
  unfolding transaction_fields
  heads = transaction_head _ _ _ (bit_small x.stale) (omega (arith, f.few)) f.holder

  rows : Each (λ (c : Change). length (change_bytes c) ≡ change_size) x.changes
  rows = each_map ChangeFits _ change-width x.changes f.changes

  changes-short : length (flat_map change_bytes x.changes) ≤ most_changes * change_size
  changes-short = rw (length_encoded change_bytes change_size x.changes rows) (omega (arith, f.few))

  transaction_seam : transaction_bytes (some x) ≡ big_endian 3 transaction_fields ++ padded (most_changes * change_size) (flat_map change_bytes x.changes)
  unfolding transaction_bytes transaction_fields
  transaction_seam = refl

  some_transaction_width : length (transaction_bytes (some x)) ≡ transaction_size
  some_transaction_width =
      ap length transaction_seam
      ∙ (length-append (big_endian 3 transaction_fields) _ ∙ rw (
        length_big 3,
        length-padded (most_changes * change_size) (flat_map change_bytes x.changes) changes-short,
      ))

  transaction_head_read : field (transaction_bytes (some x)) 0 3 ≡ transaction_fields
  transaction_head_read = rw transaction_seam (field-first 3 transaction_fields _ heads.0)

  changes-read : map change_in (take (bits_at transaction_fields 16 4) (chunks most_changes change_size (drop 3 (transaction_bytes (some x))))) ≡ x.changes
  unfolding padded
  changes-read =
      rw (
        transaction_seam,
        drop_at (big_endian 3 transaction_fields) (padded (most_changes * change_size) (flat_map change_bytes x.changes)) 3 (length_big 3 transaction_fields),
        heads.3,
        first_rows change_bytes change_size most_changes x.changes (replicate (most_changes * change_size - length (flat_map change_bytes x.changes)) 0) f.few
            rows,
      )
      (map_back change_bytes change_in x.changes (each_map ChangeFits _ change-read x.changes f.changes))

  some_transaction_read : transaction_in (transaction_bytes (some x)) ≡ some x
  unfolding transaction_at
  some_transaction_read =
      transaction_used (transaction_bytes (some x)) transaction_fields transaction_head_read heads.1
      ∙ ap some (λ i. record { holder = heads.4 i; stale = stale-read i; changes = changes-read i })
    where
      stale-read : eqb (bits_at transaction_fields 22 1) 1 ≡ x.stale
      stale-read = rw heads.2 (bit_back x.stale)

abbrev pub MaybeTransaction : Option Transaction → Type 0
MaybeTransaction none = Unit {0}
MaybeTransaction (some x) = TransactionFits x

pub transaction_width : (m : Option Transaction) → MaybeTransaction m → length (transaction_bytes m) ≡ transaction_size
unfolding transaction_bytes
transaction_width none f = length-replicate {A = ℕ} transaction_size 0
transaction_width (some x) f = some_transaction_width x f

pub transaction_read : (m : Option Transaction) → MaybeTransaction m → transaction_in (transaction_bytes m) ≡ m
unfolding transaction_in transaction_bytes field big_from bits_at
transaction_read none f = refl
transaction_read (some x) f = some_transaction_read x f

pub transactions-read : (xs : Transactions) → length xs ≡ most_transactions → Each MaybeTransaction xs → transactions_of (transactions_bytes xs) ≡ xs
unfolding transactions_bytes transactions_of
transactions-read xs h f =
    ap (λ (n : ℕ). map transaction_in (chunks n transaction_size (flat_map transaction_bytes xs))) (sym h)
    ∙ decoded transaction_bytes transaction_size transaction_in xs (each_map MaybeTransaction _ transaction_width xs f)
    (each_map MaybeTransaction _ transaction_read xs f)

pub transaction_at_lem : (s : Octets) (i : ℕ) → i < most_transactions → get_or (transactions_of s) i none
    ≡ transaction_in (take transaction_size (drop (i * transaction_size) s))
unfolding transactions_of
transaction_at_lem s i h = decoded_at transaction_in most_transactions transaction_size i s none h

pub length-transactions : (xs : Transactions) → Each MaybeTransaction xs → length (transactions_bytes xs) ≡ length xs * transaction_size
unfolding transactions_bytes
length-transactions xs f = length_encoded transaction_bytes transaction_size xs (each_map MaybeTransaction _ transaction_width xs f)
