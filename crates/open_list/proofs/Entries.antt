-- Laws of the list of open records.
--   entry_head                     a word before the list changes no entry
--   exchange_long, exchange_among  an exchange: as long as before; what was among the first records still is
--   keeps_refl, keeps_then, keeps_exchange, keeps_head      no record is lost: nothing happens; one thing after the other; an exchange; a word before the list
--   shift_beside                   an entry moved to the free place
--   insert_start, insert_new, insert_old      a record put into the free place
--   listed_set, number_more        how many records are listed; one more record, in their order
-- Assumes nothing.
use Prim.Native.Nat.{ℕ, ◌+◌, ◌≤◌, ◌<◌}
use mathlib.Core.Path.{◌≡◌, refl, sym, ap, ◌∙◌}
use mathlib.Core.Logic.{◌≢◌}
use mathlib.Core.List.{List}
use native.Mathlib.Omega.{arith}
use native.Mathlib.Decide.{ℕ_discrete}
use lib.ListN.{length, set, length-set}
use lib.Seq.{get_or-set_same, get_or-set_other}
use Rattle.std.proofs.lemmas.Grind.{common_steps}
use Rattle.open_list.specs.Entries.{head, entry_at, listed_of, Among, Beside, Keeps, exchanged}

pub entry_head : (ws : List ℕ) (j v k : ℕ) → j < head → entry_at (set ws j v) k ≡ entry_at ws k
entry_head ws j v k h = get_or-set_other ws j (33 + k) v 0 (omega arith)

-- ---- exchange
module _ (k m : ℕ) (ws : List ℕ) where
  pub exchange_long : length (exchanged k m ws) ≡ length ws
  unfolding exchanged
  exchange_long = length-set (set ws (33 + k) (entry_at ws m)) (33 + m) (entry_at ws k) ∙ length-set ws (33 + k) (entry_at ws m)

  module _ (hk : head + k < length ws) (hm : head + m < length ws) where
    at_m : entry_at (exchanged k m ws) m ≡ entry_at ws k
    unfolding exchanged
    at_m = grind (arith, common_steps)

    at_k : k ≢ m → entry_at (exchanged k m ws) k ≡ entry_at ws m
    unfolding exchanged
    at_k o = grind (arith, common_steps)

    at_other : (j : ℕ) → j ≢ k → j ≢ m → entry_at (exchanged k m ws) j ≡ entry_at ws j
    unfolding exchanged
    at_other j p q = grind (arith, common_steps)

    pub exchange_among : (n i : ℕ) → k < n → m < n → Among n ws i → Among n (exchanged k m ws) i
    exchange_among n i bk bm a = go (ℕ_discrete a.0 k) (ℕ_discrete a.0 m)
      where
        go : Dec (a.0 ≡ k) → Dec (a.0 ≡ m) → Among n (exchanged k m ws) i
        go (yes p) d = (m, bm, at_m ∙ ap (entry_at ws) (sym p) ∙ a.2)
        go (no p) (yes q) = (k, bk, at_k (λ e. p (q ∙ sym e)) ∙ ap (entry_at ws) (sym q) ∙ a.2)
        go (no p) (no q) = (a.0, a.1, at_other a.0 p q ∙ a.2)

-- ---- no record is lost
pub keeps_refl : (n : ℕ) (ws : List ℕ) → Keeps n ws ws
keeps_refl n ws = record { long = refl; all = λ m i h a. a }

pub keeps_then : (n k : ℕ) (a b c : List ℕ) → k ≤ n → Keeps n a b → Keeps k b c → Keeps n a c
keeps_then n k a b c l p q = record { long = q.long ∙ p.long; all = λ m i h x. q.all m i (omega arith) (p.all m i h x) }

pub keeps_exchange : (n k m : ℕ) (ws ws' : List ℕ) → head + n ≤ length ws → k < n → m < n → ws' ≡ exchanged k m ws → Keeps n ws ws'
keeps_exchange n k m ws ws' h bk bm e =
    rw e (record {
      long = exchange_long k m ws;
      all = λ l i b a. exchange_among k m ws (omega arith) (omega arith) l i (omega arith) (omega arith) a;
    })

pub keeps_head : (n j v : ℕ) (ws : List ℕ) → j < head → Keeps n ws (set ws j v)
keeps_head n j v ws h = record { long = length-set ws j v; all = λ m i l a. (a.0, a.1, entry_head ws j v a.0 h ∙ a.2) }

-- ---- a record moves to the free place
pub shift_beside : (p : ℕ) (ws : List ℕ) → head + p < length ws → (b g v : ℕ) → g < head → b ≤ p → (n i : ℕ) → p < n → Beside n p ws i → Beside n b (set (set ws (head + p) (entry_at ws b)) g v) i
shift_beside p ws h b g v l t n i u a = go (ℕ_discrete a.0 b)
  where
    go : Dec (a.0 ≡ b) → Beside n b (set (set ws (33 + p) (entry_at ws b)) g v) i
    go (yes q) = (p, u, (λ e. a.2 (q ∙ sym e)), grind (arith, common_steps))
    go (no o) = (a.0, a.1, o, grind (arith, common_steps))

-- ---- a record joins
module _ (p : ℕ) (ws : List ℕ) (h : head + p < length ws) where
  pub insert_new : (i j v : ℕ) → j < head → entry_at (set (set ws (head + p) i) j v) p ≡ i
  insert_new i j v l = entry_head (set ws (33 + p) i) j v p l ∙ get_or-set_same ws (33 + p) i 0 h

  pub insert_old : (i j v n k : ℕ) → j < head → Beside n p ws k → Among n (set (set ws (head + p) i) j v) k
  insert_old i j v n k l a = (a.0, a.1, entry_head (set ws (33 + p) i) j v a.0 l ∙ get_or-set_other ws (33 + p) (33 + a.0) i 0 (omega (arith, a.2)) ∙ a.3)

-- the place behind the first n is free
pub insert_start : (n i : ℕ) (ws : List ℕ) → Among n ws i → Beside (n + 1) n ws i
insert_start n i ws a = (a.0, omega (arith, a.1), omega (arith, a.1), a.2)

-- ---- records in their order
pub listed_set : (ws : List ℕ) (n : ℕ) → head + n ≤ length ws → listed_of (set ws 32 n) ≡ n
listed_set ws n h = omega (arith, get_or-set_same ws 32 n 0 (omega arith), length-set ws 32 n)

pub number_more : (ws : List ℕ) (k : ℕ) → head + k < length ws → ((j : ℕ) → j < k → entry_at ws j ≡ j) → (j : ℕ) → j < k + 1 → entry_at (set ws (head + k) k) j ≡ j
number_more ws k h f j l = go (ℕ_discrete j k)
  where
    go : Dec (j ≡ k) → entry_at (set ws (33 + k) k) j ≡ j
    go (yes q) = rw q (get_or-set_same ws (33 + k) k 0 h)
    go (no o) = get_or-set_other ws (33 + k) (33 + j) k 0 (omega (arith, o)) ∙ f j (omega (arith, o))
