-- The fresh tables' bytes, and what the fresh call answers.
use mathlib.Core.Path.{◌≡◌, refl, sym, ap, ◌∙◌}
use mathlib.Core.Bool.{true, false}
use mathlib.Core.List.{◌∷◌, ◌++◌, flat_map}
use mathlib.Core.Option.{none, some}
use Prim.Native.Nat.{ℕ, zero, suc, ◌+◌, ◌*◌, ◌-◌}
use native.Mathlib.Nat.{zero-mul, suc-mul, add_comm}
use lib.ListN.{length, set, replicate, length-replicate, replicate-append-replicate}
use lib.Dec.{eqb}
use borrow.Author.Tests.{eqb-true}
use Rattle.rules.specs.Size.{table_size, copies_size, watches_size, transactions_size, domains_size, watch_size}
use Rattle.rules.specs.Size.{transaction_size, domain_size, slots, slot_size}
use Rattle.rules.specs.Octets.{Octets, paste, padded, big_endian, pack_from, pack}
use Rattle.rules.specs.Node.{root, fresh_table}
use Rattle.rules.specs.Layout.{entry_bits, node_bits, slot_bytes, table_bytes, domain_bytes, domains_bytes, watch_bytes, watches_bytes, transaction_bytes}
use Rattle.rules.specs.Layout.{transactions_bytes}
use Rattle.rules.specs.World.{fresh_world}
use Rattle.rules.specs.Call.{wrong_size, Tables, call_number, sized_tables, tables_of, fresh_call}
use Rattle.rules.proofs.Compare.{both_true}
use Rattle.rules.proofs.Paste.{paste-whole}
use Rattle.replies.specs.Does.{tables}
use Rattle.haabuvilk.specs.Lent.{refreshed, FreshMeets}

-- ── bytes ──

pub cleared : (s t : Octets) → t ≡ paste 0 (replicate (length s) 0) s → t ≡ replicate (length s) 0
cleared s t e = e ∙ paste-whole (replicate (length s) 0) s (length-replicate (length s) 0)

-- entries that are all zeros
zeros : {A : Type 0} (encode : A → Octets) (x : A) (k : ℕ) → encode x ≡ replicate k 0 → (n : ℕ) → flat_map encode (replicate n x) ≡ replicate (n * k) 0
unfolding flat_map
zeros encode x k e zero = ap (λ (m : ℕ). replicate m 0) (sym (zero-mul k))
zeros encode x k e (suc n) =
    rw (e, zeros encode x k e n) (replicate-append-replicate k (n * k) 0)
    ∙ ap (λ (m : ℕ). replicate m 0) (add_comm k (n * k) ∙ sym (suc-mul n k))

-- ── the root alone ──

root-bytes : slot_bytes (some root) ≡ 128 ∷ 0 ∷ 1 ∷ replicate 105 0
unfolding slot_bytes root node_bits entry_bits pack pack_from big_endian padded
root-bytes = refl

fresh_bytes : table_bytes fresh_table ≡ 128 ∷ 0 ∷ 1 ∷ replicate (slot_size - 3 + (slots - 1) * slot_size) 0
unfolding flat_map table_bytes fresh_table slot_bytes
fresh_bytes =
    ap (λ (l : Octets). slot_bytes (some root) ++ l) (zeros slot_bytes none slot_size refl (slots - 1))
    ∙ ap (λ (l : Octets). l ++ replicate ((slots - 1) * slot_size) 0) root-bytes
    ∙ ap (λ (l : Octets). 128 ∷ 0 ∷ 1 ∷ l) (replicate-append-replicate (slot_size - 3) ((slots - 1) * slot_size) 0)

marked : (m : ℕ) (l : Octets) → l ≡ replicate (suc (suc (suc m))) 0 → set (set l 0 128) 2 1 ≡ 128 ∷ 0 ∷ 1 ∷ replicate m 0
marked m l e = rw e refl

pub root_put : (s t : Octets) → length s ≡ table_size → t ≡ replicate (length s) 0 → set (set t 0 128) 2 1 ≡ table_bytes fresh_table
root_put s t h e = marked 13821 t (e ∙ ap (λ (m : ℕ). replicate m 0) h) ∙ sym fresh_bytes

-- ── the call ──

pub record Sized (t : Tables) : Type 0 where
  pub nodes : length t.nodes ≡ table_size
  pub copies : length t.copies ≡ copies_size
  pub watches : length t.watches ≡ watches_size
  pub transactions : length t.transactions ≡ transactions_size
  pub domains : length t.domains ≡ domains_size

pub tables-sized : (t : Tables) → sized_tables t ≡ true → Sized t
unfolding sized_tables
tables-sized t z =
    let a = both_true (eqb (length t.nodes) table_size) _ z in
    let b = both_true (eqb (length t.copies) copies_size) _ a.1 in
    let c = both_true (eqb (length t.watches) watches_size) _ b.1 in
    let d = both_true (eqb (length t.transactions) transactions_size) (eqb (length t.domains) domains_size) c.1 in
    record {
      nodes = eqb-true _ _ a.0;
      copies = eqb-true _ _ b.0;
      watches = eqb-true _ _ c.0;
      transactions = eqb-true _ _ d.0;
      domains = eqb-true _ _ d.1;
    }

pub fresh_refused : (t : Tables) → sized_tables t ≡ false → FreshMeets t (refreshed (call_number wrong_size) t)
unfolding fresh_call
fresh_refused t z = rw z refl

fresh_tables : tables_of fresh_world
    ≡ tables (table_bytes fresh_table) (replicate copies_size 0) (replicate watches_size 0) (replicate transactions_size 0) (replicate domains_size 0)
unfolding tables_of fresh_world watches_bytes transactions_bytes domains_bytes watch_bytes transaction_bytes domain_bytes
fresh_tables =
    rw (
      zeros (λ (copy : Octets). copy) (replicate table_size 0) table_size refl 3,
      zeros watch_bytes none watch_size refl 16,
      zeros transaction_bytes none transaction_size refl 3,
      zeros domain_bytes none domain_size refl 8,
    )
    refl

pub fresh_done : (t : Tables) {n c w x d : Octets} → sized_tables t ≡ true → n ≡ table_bytes fresh_table → c ≡ replicate (length t.copies) 0
    → w ≡ replicate (length t.watches) 0 → x ≡ replicate (length t.transactions) 0 → d ≡ replicate (length t.domains) 0
    → FreshMeets t (refreshed 0 (tables n c w x d))
unfolding fresh_call call_number
fresh_done t z en ec ew ex ed =
    let s = tables-sized t z in
    rw (z, fresh_tables, en, ec, ew, ex, ed, s.copies, s.watches, s.transactions, s.domains) refl
