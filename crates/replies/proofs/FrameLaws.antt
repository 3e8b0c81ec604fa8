-- The reply's frame, put together.
use mathlib.Core.Path.{◌≡◌, sym, ap, subst, ◌∙◌}
use mathlib.Core.List.{◌++◌, append_assoc}
use mathlib.Core.Option.{none-ne-some, some-injective}
use Prim.Native.Nat.{ℕ, ◌+◌, ◌≤◌}
use native.Mathlib.Omega.{arith}
use lib.ListN.{length, take, drop, length-append, length-drop}
use lib.Seq.{length-take-le}
use Rattle.rules.specs.Size.{reply_size, header_size}
use Rattle.rules.specs.Octets.{Octets, text, nul, paste, four_bytes}
use Rattle.rules.specs.Answer as A
use Rattle.rules.specs.Answer.{done, refused, errno_text}
use Rattle.rules.specs.Call.{reply_to, reply_type, reply_payload, type_of}
use Rattle.rules.proofs.Paste.{paste_append}
use Rattle.rules.proofs.Joined as Joined
use Rattle.replies.proofs.Payloads.{payload-fits}
use Rattle.std.specs.Prelude.{Ok, Err}
use Rattle.replies.specs.Meant.{Reply, errno_meant, refusal_meant}
use Rattle.replies.specs.declared.kinds.Errno.{Errno}
use Rattle.replies.specs.declared.kinds.Errno.TheVariants.{Invalid, Access, Exists, NoEntry, NoSpace, TooBig, Again, NoSystem}
use Rattle.replies.specs.Framed.{Written, Held, header, Framed}

-- ── the header ──

ids : (m : Octets) → 16 ≤ length m → length (take 8 (drop 4 m)) ≡ 8
ids m h = length-take-le 8 (drop 4 m) (rw length-drop (omega arith))

pub header-length : (k : ℕ) (m : Octets) (n : ℕ) → 16 ≤ length m → length (header k m n) ≡ 16
unfolding header
header-length k m n h = Joined.header-length k (take 8 (drop 4 m)) n (ids m h)

pub header_put : (k : ℕ) (m : Octets) (n : ℕ) (l l₁ l₂ l₃ : Octets) → 16 ≤ length m → l₁ ≡ paste 0 (four_bytes k) l → l₂ ≡ paste 4 (take 8 (drop 4 m)) l₁ →
    l₃ ≡ paste 12 (four_bytes n) l₂ → l₃ ≡ paste 0 (header k m n) l
unfolding header
header_put k m n l l₁ l₂ l₃ h e₁ e₂ e₃ = Joined.header_put k (take 8 (drop 4 m)) n (ids m h) l l₁ l₂ l₃ e₁ e₂ e₃

-- ── the whole reply ──

reply-parts : (m : Octets) (a : A.Reply) → reply_to m a ≡ header (reply_type (type_of m) a) m (length (reply_payload a)) ++ reply_payload a
unfolding reply_to header
reply-parts m a =
    sym (append_assoc (four_bytes (reply_type (type_of m) a)) (take 8 (drop 4 m) ++ four_bytes (length (reply_payload a))) (reply_payload a)
    ∙ ap (λ (x : Octets). four_bytes (reply_type (type_of m) a) ++ x)
    (append_assoc (take 8 (drop 4 m)) (four_bytes (length (reply_payload a))) (reply_payload a)))

-- a header put before a payload that stands in its place
pub reply_put : (m : Octets) (a : A.Reply) (before after : Octets) (l : ℕ) → 16 ≤ length m → 16 ≤ length before →
    after ≡ paste 0 (header (reply_type (type_of m) a) m (length (reply_payload a))) (paste header_size (reply_payload a) before) → l
    ≡ 16 + length (reply_payload a) →
    (after ≡ paste 0 (reply_to m a) before) × (l ≡ length (reply_to m a))
reply_put m a before after l h b e q =
    let w = header-length (reply_type (type_of m) a) m (length (reply_payload a)) h in (
      e ∙ (sym (paste_append 0 (header (reply_type (type_of m) a) m (length (reply_payload a))) (reply_payload a) before (rw w b)
          ∙ ap (λ (n : ℕ). paste 0 (header (reply_type (type_of m) a) m (length (reply_payload a))) (paste n (reply_payload a) before))
          (ap (λ (n : ℕ). 0 + n) w))
          ∙ ap (λ (x : Octets). paste 0 x before) (sym (reply-parts m a))),
      q ∙ sym (ap length (reply-parts m a) ∙ (length-append (header (reply_type (type_of m) a) m (length (reply_payload a))) (reply_payload a)
          ∙ ap (λ (n : ℕ). n + length (reply_payload a)) w)),
    )

-- ── what stands behind the header ──

pub held_done : (r : Reply) (n : ℕ) → r ≡ Ok n → Held r → 16 + n ≤ reply_size
held_done r n q h = subst Held q h

pub written-fits : (s before after : Octets) (n : ℕ) → Written s before after n → length before ≡ reply_size → length after ≡ reply_size → 16 + n ≤ reply_size
written-fits s before after n w b a = rw w.long (subst (λ (k : ℕ). 16 + length s ≤ k) b
    (payload-fits s before after w.bytes (a ∙ sym b) (rw b (omega arith))))

-- each error's name has room behind the header
pub errno-fits : (e : Errno) → header_size + length (errno_text (errno_meant e) ++ nul) ≤ reply_size
unfolding errno_text text
errno-fits Invalid = omega arith
errno-fits Access = omega arith
errno-fits Exists = omega arith
errno-fits NoEntry = omega arith
errno-fits NoSpace = omega arith
errno-fits TooBig = omega arith
errno-fits Again = omega arith
errno-fits NoSystem = omega arith

pub done_framed : (m : Octets) (r : Reply) (n : ℕ) (told after : Octets) (l : ℕ) → 16 ≤ length m → r ≡ Ok n →
    after ≡ paste 0 (header (type_of m) m n) told → l ≡ 16 + n → Framed m r told after l
unfolding reply_type reply_payload
done_framed m r n told after l h q e k (done s) before b t =
    let i : n ≡ length s = cc in
    reply_put m (done s) before after l h (rw b (omega arith)) (e ∙ (ap (paste 0 (header (type_of m) m n)) t.1
    ∙ ap (λ (j : ℕ). paste 0 (header (type_of m) m j) (paste header_size s before)) i))
    (k ∙ ap (λ (j : ℕ). 16 + j) i)
done_framed m r n told after l h q e k (refused x) before b t = absurd (none-ne-some x (sym (ap refusal_meant q) ∙ t.0))

pub error_framed : (m : Octets) (r : Reply) (x : Errno) (n : ℕ) (told put after : Octets) (l : ℕ) → 16 ≤ length m → r ≡ Err x →
    Written (errno_text (errno_meant x) ++ nul) told put n → after ≡ paste 0 (header 16 m n) put → l ≡ 16 + n → Framed m r told after l
unfolding reply_type reply_payload
error_framed m r x n told put after l h q w e k (done s) before b t = let z : ◌≡◌ {A = ℕ} 0 1 = cc in absurd (omega arith)
error_framed m r x n told put after l h q w e k (refused y) before b t =
    let i : errno_meant x ≡ y = some-injective (errno_meant x) y (sym (ap refusal_meant q) ∙ t.0) in
    let p : put ≡ paste header_size (errno_text y ++ nul) before = w.bytes ∙ (ap (λ (z : A.Errno). paste header_size (errno_text z ++ nul) told) i ∙ t.1) in
    let j : n ≡ length (errno_text y ++ nul) = w.long ∙ ap (λ (z : A.Errno). length (errno_text z ++ nul)) i in
    reply_put m (refused y) before after l h (rw b (omega arith)) (e ∙ (ap (paste 0 (header 16 m n)) p
    ∙ ap (λ (o : ℕ). paste 0 (header 16 m o) (paste header_size (errno_text y ++ nul) before)) j))
    (k ∙ ap (λ (o : ℕ). 16 + o) j)
