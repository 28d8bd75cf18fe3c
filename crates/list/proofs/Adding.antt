-- Records added one after the other.
--   found_explains, found_repairs      what a seed yields, by what is found within it
--   Going                  on the way: the records that stand in the front of the words, and the seed that remains
--   going_start            the records that were there
--   going_long, going_reads, going_seed      the words are as many as before; the records are read from them; a seed is a choice of the groups
--   added_long, added_reads, added_falls, going_more      one record more: it is read behind the others, what they leave lies below the seed, and so on
--   going_done, going_full      no seed remains, and no round
-- Assumes nothing.
use Prim.Native.Nat.{ℕ, ◌+◌, ◌-◌, ◌*◌, ◌^◌, ◌≤◌, ◌<◌}
use mathlib.Core.Path.{◌≡◌, refl, sym, ap, ap₂, ◌∙◌, subst}
use mathlib.Core.Logic.{◌⊎◌, inl, inr}
use mathlib.Core.List.{List, [], ◌∷◌, ◌++◌, head-eq_of_cons-eq}
use mathlib.Core.Bool.{Bool, true, false, cond}
use mathlib.Core.Option.{Option, some, none}
use native.Mathlib.Omega.{arith}
use Rattle.std.specs.Prelude.{Some, None}
use lib.ListN.{length, drop, length-append}
use Rattle.answer.specs.Space.{over}
use Rattle.answer.proofs.Spaces.{length_over}
use Rattle.meaning.specs.Book.{Book}
use Rattle.meaning.specs.Choice.{complement}
use Rattle.meaning.specs.Forced.{inconsistent}
use Rattle.rounds.specs.Records.{Record, explains, repairs, allowed}
use Rattle.rounds.specs.Rounds.{seed, smallest, found, listing, complete}
use Rattle.rounds.proofs.Seeds.{seed_lt, complete_none, complete_some}
use Rattle.rounds.proofs.Rounds.{allowed_falls, listing_zero, listing_next, listing_still}
use Rattle.records.specs.Words.{record_words, room, records_of, kind_of, set_of, words_of, put_record, fault}
use Rattle.records.proofs.Words.{words_length, length_records, record_back, records_read, records_kept, record_put}
use Rattle.path.specs.Paths.{Fits}
use Rattle.explain.specs.Explains.{explained, within_is}
use Rattle.list.specs.Lists.{rounds, said, Adds, Rounding}
use Rattle.list.specs.declared.Listed.TheVariants as ListedV

-- ---- what a seed yields
module _ (b : Book) (x : ℕ) where
  abbrev rule : Bool → Record
  rule t = elim t as (λ _. Record) [ true ↦ explains (smallest (inconsistent b) x) | false ↦ repairs (complement b.groups x) ]

  pub found_explains : (e : ℕ) → within_is (Some e) ≡ explained b x → explains e ≡ found b.groups (inconsistent b) x
  unfolding explained found
  found_explains e q = go (inconsistent b x) q
    where
      go : (t : Bool) → (e ∷ []) ≡ cond t (smallest (inconsistent b) x ∷ []) [] → explains e ≡ rule t
      go true z = ap explains (head-eq_of_cons-eq z)
      go false z = let y : ◌≡◌ {A = ℕ} 1 0 = ap length z in absurd (omega arith)

  pub found_repairs : within_is None ≡ explained b x → repairs (complement b.groups x) ≡ found b.groups (inconsistent b) x
  unfolding explained found
  found_repairs q = go (inconsistent b x) q
    where
      go : (t : Bool) → [] ≡ cond t (smallest (inconsistent b) x ∷ []) [] → repairs (complement b.groups x) ≡ rule t
      go false z = refl
      go true z = let y : ◌≡◌ {A = ℕ} 0 1 = ap length z in absurd (omega arith)

-- ---- a record as its words
kind_is : (r : Record) → (kind_of r ≡ 1) ⊎ (kind_of r ≡ 2)
unfolding kind_of
kind_is (explains e) = inl refl
kind_is (repairs r) = inr refl

-- ---- on the way
pub record Going (b : Book) (ws : List ℕ) (c most : ℕ) (ws' : List ℕ) (w : ℕ) (o : Option ℕ) : Type 0 where
  pub rs : List Record
  pub counts : w ≡ length rs
  pub fits : w ≤ most
  pub stands : ws' ≡ over (words_of rs) ws
  pub goes : listing b.groups (inconsistent b) (most - w) rs ≡ rounds b (most - c) ws c
  pub next : o ≡ seed b.groups rs

-- n is the number of groups, and h says that the rounds have room
module _ (b : Book) (ws : List ℕ) (c most n : ℕ) (en : n ≡ b.groups) (h : most ≤ room ws) where
  pub going_start : (o : Option ℕ) → c ≤ most → fault n ws c ≡ record_words * c → o ≡ seed n (records_of ws c) → Going b ws c most ws c o
  unfolding rounds
  going_start o l f e =
      record {
        rs = records_of ws c;
        counts = sym (length_records ws c);
        fits = l;
        stands = sym (records_kept n ws c f (omega (arith, l, h)));
        goes = refl;
        next = e ∙ ap (λ (k : ℕ). seed k (records_of ws c)) en;
      }

  module _ (ws' : List ℕ) (w : ℕ) (o : Option ℕ) (G : Going b ws c most ws' w o) where
    pub going_long : length ws' ≡ length ws
    going_long = ap length G.stands ∙ length_over (words_of G.rs) ws (omega (arith, words_length G.rs, G.counts, G.fits, h))

    pub going_reads : records_of ws' w ≡ G.rs
    going_reads = ap₂ records_of G.stands G.counts ∙ records_read G.rs (drop (length (words_of G.rs)) ws)

    pub going_seed : (x : ℕ) → o ≡ some x → x < 2 ^ n
    going_seed x e = subst (λ (k : ℕ). x < 2 ^ k) (sym en) (seed_lt b.groups G.rs x (sym G.next ∙ e))

    pub going_done : o ≡ none → Rounding b (most - c) (ListedV.Complete w) ws c ws'
    unfolding said
    going_done e = (
      ap₂ (λ (n k : ℕ). n ∷ k ∷ []) (G.counts ∙ ap length same)
          (sym (ap (λ (t : Bool). cond t 1 0) (ap (complete b.groups) (sym same) ∙ complete_none b.groups G.rs (sym G.next ∙ e)))),
      G.stands ∙ ap (λ (l : List Record). over (words_of l) ws) same,
    )
      where
        same : G.rs ≡ rounds b (most - c) ws c
        same = sym (listing_still b.groups (inconsistent b) (most - w) G.rs (sym G.next ∙ e)) ∙ G.goes

    pub going_full : (x : ℕ) → o ≡ some x → most ≤ w → Rounding b (most - c) (ListedV.Stopped w) ws c ws'
    unfolding said
    going_full x e l = (
      ap₂ (λ (n k : ℕ). n ∷ k ∷ []) (G.counts ∙ ap length same)
          (sym (ap (λ (t : Bool). cond t 1 0) (ap (complete b.groups) (sym same) ∙ complete_some b.groups G.rs x (sym G.next ∙ e)))),
      G.stands ∙ ap (λ (l : List Record). over (words_of l) ws) same,
    )
      where
        same : G.rs ≡ rounds b (most - c) ws c
        same =
            sym (listing_zero b.groups (inconsistent b) G.rs) ∙ ap (λ (k : ℕ). listing b.groups (inconsistent b) k G.rs) (let z : 0 ≡ most - w = omega arith in z) ∙ G.goes

    -- one record more
    module _ (x : ℕ) (e : o ≡ some x) (l : w < most) (ws'' : List ℕ) (A : Adds b x w ws' ws'') where
      abbrev more : List Record
      more = G.rs ++ (found b.groups (inconsistent b) x ∷ [])

      more_length : w + 1 ≡ length more
      more_length = omega (arith, G.counts, length-append G.rs (found b.groups (inconsistent b) x ∷ []))

      added_stands : ws'' ≡ over (words_of more) ws
      added_stands =
          let r = found b.groups (inconsistent b) x in
          A ∙ ap (λ (u : List ℕ). put_record u w (kind_of r) (set_of r)) G.stands
          ∙ record_put G.rs ws w (kind_of r) (set_of r) G.counts (omega (arith, G.counts, l, h)) (kind_is r)
          ∙ ap (λ (q : Record). over (words_of (G.rs ++ (q ∷ []))) ws) (record_back r)

      pub added_long : length ws'' ≡ length ws
      added_long = ap length added_stands ∙ length_over (words_of more) ws (omega (arith, words_length more, more_length, l, h))

      pub added_reads : records_of ws'' (w + 1) ≡ more
      added_reads = ap₂ records_of added_stands more_length ∙ records_read more (drop (length (words_of more)) ws)

      pub added_falls : (z : ℕ) → Fits n (records_of ws'' (w + 1)) z → z < x
      added_falls z F =
          allowed_falls b.groups (inconsistent b) G.rs x z (sym G.next ∙ e) (subst (λ (k : ℕ). z < 2 ^ k) en F.0) (subst (λ (l : List Record). allowed l z ≡ true) added_reads F.1)

      pub going_more : (o' : Option ℕ) → o' ≡ seed n (records_of ws'' (w + 1)) → Going b ws c most ws'' (w + 1) o'
      going_more o' q =
          record {
            rs = more;
            counts = more_length;
            fits = omega arith;
            stands = added_stands;
            goes =
                ap (λ (k : ℕ). listing b.groups (inconsistent b) k more) (let z : most - (w + 1) ≡ most - w - 1 = omega arith in z)
                ∙ sym (listing_next b.groups (inconsistent b) (most - w) G.rs x (omega arith) (sym G.next ∙ e)) ∙ G.goes;
            next = q ∙ ap₂ seed en added_reads;
          }
