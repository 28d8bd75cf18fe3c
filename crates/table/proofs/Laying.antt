-- The places of a book's clauses are laid in the table.
--   Laying            the invariant of `lay_clauses`: the places of the clauses behind are in the table
--   laying_start      it holds at the first clause
--   laying_here       the clause at hand
--   laying_inside, laying_fits      it stands inside the book, and is there as a whole
--   laying_next       with its place stored the next one can have its turn
--   laying_end        at the end all places are in the table
-- Assumes nothing.
use Prim.Native.Nat.{ℕ, ◌+◌, ◌-◌, ◌≤◌, ◌<◌}
use mathlib.Core.Path.{◌≡◌, refl, ap, ◌∙◌}
use mathlib.Core.List.{List}
use native.Mathlib.Omega.{arith}
use native.Mathlib.Decide.{dec_lt}
use lib.ListN.{length, get_or, take, drop, set, length-drop, length-set}
use lib.Seq.{get_or-set_same, get_or-set_other, take-set-le, drop-set-lt}
use Rattle.field.specs.Field.{size}
use Rattle.field.proofs.Parts.{part_end}
use Rattle.book.specs.declared.accepted.Book.{Book}
use Rattle.book.proofs.Walk.{begun, is_book}
use Rattle.lists.specs.Space.{Aside}
use Rattle.table.specs.Table.{Placed, Places, Tabled}
use Rattle.table.proofs.Stores.{sized, small}
use Rattle.table.proofs.Places.{Here, here, here_next, place_inside}

-- n is the number of the clause at hand, and `at` its place
pub record Laying (b : Book) (w₀ w : List ℕ) (at n : ℕ) : Type 0 where
  pub place : Placed b.bytes.now at n
  pub so_far : Places b.bytes.now b.variables n w
  pub levels : take b.variables w ≡ take b.variables w₀
  pub rest : drop 8192 w ≡ drop 8192 w₀
  pub long : length w ≡ length w₀

module _ (b : Book) where
  pub laying_start : (w : List ℕ) → Laying b w w 7 0
  laying_start w =
      let s = b.bytes.now in
      record {
        place = (begun s (is_book s b.accepted)).walk.bytes ∙ part_end s 7;
        so_far = λ c h. absurd (omega arith);
        levels = refl;
        rest = refl;
        long = refl;
      }

  module _ (w₀ w : List ℕ) (at n : ℕ) (L : Laying b w₀ w at n) where
    pub laying_here : n < b.clauses → Here b.bytes.now at n
    laying_here h = let s = b.bytes.now in here s (is_book s b.accepted) at n (omega (arith, h, b.clauses_are)) L.place

    pub laying_inside : (at ≤ length b.bytes.now) × (length b.bytes.now ≤ 65535)
    laying_inside = let s = b.bytes.now in (place_inside s at n L.place, (begun s (is_book s b.accepted)).short)

    pub laying_fits : n < b.clauses → at + size (take (length b.bytes.now - at) (drop at b.bytes.now)) ≤ length b.bytes.now
    laying_fits h =
        let s = b.bytes.now in
        omega (arith, laying_inside.0, (laying_here h).stands.fits, ap length (part_end s at), length-drop at s)

    pub laying_end : b.clauses ≤ n → Tabled b.bytes.now b.variables b.clauses w₀ w
    laying_end e = record { places = λ c h. L.so_far c (omega (arith, h, e)); levels = L.levels; rest = L.rest; long = L.long }

    module _ (room : 8192 ≤ length w₀) (more : n < b.clauses) (k : ℕ) (entry : k ≡ b.variables + n) where
      low : k < 8192
      low = let few = small _ _ _ (sized b) in omega (arith, entry, more, few.variables, few.clauses)

      store : (c : ℕ) → c < n + 1 → Placed b.bytes.now (get_or (set w k at) (b.variables + c) 0) c
      store c h = go (dec_lt c n)
        where
          go : Dec (c < n) → Placed b.bytes.now (get_or (set w k at) (b.variables + c) 0) c
          go (yes l) = rw (get_or-set_other w k (b.variables + c) at 0 (λ e. omega (arith, entry))) (L.so_far c l)
          go (no l) =
              let e : c ≡ n = omega arith in
              rw e (rw (← entry) (rw (get_or-set_same w k at 0 (omega (arith, low, room, L.long))) L.place))

      -- stores among the lists may follow that of the place
      pub laying_next : (size' : ℕ) → size' ≡ size (take (length b.bytes.now - at) (drop at b.bytes.now)) → (w' : List ℕ) → Aside b.variables b.clauses (set w k at) w'
          → Laying b w₀ w' (at + size') (n + 1)
      laying_next size' is w' A =
          record {
            place = here_next b.bytes.now at n (laying_here more) size' is;
            so_far = λ c h. rw (A.beside.places c (omega (arith, more))) (store c h);
            levels = A.levels ∙ take-set-le b.variables w k at (omega (arith, entry)) ∙ L.levels;
            rest = A.beside.rest ∙ drop-set-lt 8192 w k at low ∙ L.rest;
            long = A.beside.long ∙ length-set w k at ∙ L.long;
          }
