-- What is given in plain form is taken back: taking the plain form of a well_formed book gives that book.
--   length_each        as many numbers with a sign as without
--   clause_numbers     how many numbers a clause is
--   number_right       a number within its limits is taken
--   plain_one          the parts of a clause
--   Fine, body_taken   a clause's literals are taken back
--   taking_given       the whole book is
-- Assumes nothing.
use Prim.Native.Nat.{ℕ, zero, suc, ◌+◌, ◌≤◌}
use mathlib.Core.Path.{◌≡◌, refl, ap, ◌∙◌}
use mathlib.Core.List.{List, [], ◌∷◌, ◌++◌, append_assoc}
use mathlib.Core.Bool.{true}
use native.Mathlib.Omega.{arith}
use lib.IntN.{ℤ, pos, negsuc}
use lib.ListN.{length, length-append}
use borrow.Author.Tests.{le-ltb, le-leb, lt-leb, ne_eqb}
use Rattle.answer.specs.Answer.{Answer, answered, and_then, first, unless}
use Rattle.answer.proofs.Answers.{then_by, unless_none}
use Rattle.field.specs.Words.{within, rising}
use Rattle.field.proofs.Words.{within_one, within_cons, rising_cons}
use Rattle.meaning.specs.Book.{Clause, Book}
use Rattle.book.specs.Bytes.{most_variables, most_groups, most_clauses, most_body, GoodClause, GoodClauses, WellFormed}
use Rattle.plain.specs.Plain.{minus, each, literals, head_literal, plain_clause, plain_clauses, plain_of}
use Rattle.plain.specs.Taking.{between, number_at, named, groups_at, body_tests, Ended, ended, literals_at, starting, clauses_at, after_variables, taking}

pub length_each : (sign : ℕ → ℤ) (ns : List ℕ) → length (each sign ns) ≡ length ns
unfolding each
length_each sign [] = refl
length_each sign (n ∷ ns) = ap suc (length_each sign ns)

pub clause_numbers : (c : Clause) → length (plain_clause c) ≡ length c.groups + length c.body + length (head_literal c.head) + 1
unfolding plain_clause
clause_numbers c =
    omega (
      arith,
      length-append (each pos c.groups) (each minus c.body ++ (head_literal c.head ++ (pos 0 ∷ []))),
      length-append (each minus c.body) (head_literal c.head ++ (pos 0 ∷ [])),
      length-append (head_literal c.head) (pos 0 ∷ []),
      length_each pos c.groups,
      length_each minus c.body,
    )

pub number_right : (low high i n : ℕ) → low ≤ n → n ≤ high → number_at low high i (pos n) ≡ answered n
unfolding number_at between first unless
number_right low high i n l h = simp (le-leb low n l, le-leb n high h)

-- a clause of one group, with more numbers after it
pub plain_one : (c : Clause) (g : ℕ) (xs : List ℤ) → c.groups ≡ g ∷ [] → plain_clause c ++ xs ≡ pos g ∷ (literals c.body ++ (head_literal c.head ++ (pos 0 ∷ xs)))
unfolding plain_clause each
plain_one c g xs e = simp (e, append_assoc)

groups_right : (g left i n : ℕ) (xs : List ℤ) → n ≤ g → groups_at g (suc left) i (pos n) xs ≡ named (n ∷ []) (i + 1) xs
unfolding groups_at first
groups_right g left i n xs h =
    let z : suc left ≡ 0 → ⊥ = λ e. omega arith in
    simp (ne_eqb (suc left) 0 z) (unless_none 0 i _ refl ∙ then_by _ n _ (number_right 0 g i n (omega arith) h))

-- the numbers of a body that are still to come, after `count` others, the last of them `last`
pub record Fine (v last count : ℕ) (ws : List ℕ) : Type 0 where
  pub inside : within 1 v ws ≡ true
  pub rises : rising last ws ≡ true
  pub few : count + length ws ≤ most_body

-- after the body: the head, if any, and the 0
head_taken : (v last count i h : ℕ) (xs : List ℤ) → h ≤ v → (j : ℕ) × (literals_at v 0 last count i (head_literal h ++ (pos 0 ∷ xs)) ≡ ended h [] j xs)
unfolding literals_at head_literal first unless
head_taken v last count i zero xs k = (i + 1, refl)
head_taken v last count i (suc h) xs k = (i + 1 + 1, simp (le-ltb v (suc h) k))

pub body_taken : (v last count i h : ℕ) (ws : List ℕ) (xs : List ℤ) → h ≤ v → Fine v last count ws
    → (j : ℕ) × (literals_at v 0 last count i (literals ws ++ (head_literal h ++ (pos 0 ∷ xs))) ≡ ended h ws j xs)
unfolding each literals_at first
body_taken v last count i h [] xs k f = head_taken v last count i h xs k
body_taken v last count i h (zero ∷ ws) xs k f = let one = (within_cons 1 v zero ws f.inside).0 in absurd (omega arith)
body_taken v last count i h (suc w ∷ ws) xs k f = go (λ fine. body_taken v (suc w) (count + 1) (i + 1) h ws xs k fine)
  where
    more : (e : Answer Ended) (j : ℕ) → e ≡ ended h ws j xs → first (body_tests v 0 last count (suc w)) ≡ 0
        → unless (first (body_tests v 0 last count (suc w))) i (and_then e (λ e. ended e.head (suc w ∷ e.body) e.next e.rest)) ≡ ended h (suc w ∷ ws) j xs
    more e j p z = unless_none _ i _ z ∙ then_by e _ _ p

    go : (Fine v (suc w) (count + 1) ws → (j : ℕ) × (literals_at v 0 (suc w) (count + 1) (i + 1) (literals ws ++ (head_literal h ++ (pos 0 ∷ xs))) ≡ ended h ws j xs))
        → (j : ℕ) × (literals_at v 0 last count i (negsuc w ∷ (literals ws ++ (head_literal h ++ (pos 0 ∷ xs)))) ≡ ended h (suc w ∷ ws) j xs)
    go again =
        let p = within_cons 1 v (suc w) ws f.inside in
        let q = rising_cons last (suc w) ws f.rises in
        let r = again (record { inside = p.2; rises = q.1; few = omega (arith, f.few) }) in
        let n : count ≡ most_body → ⊥ = λ z. omega (arith, f.few) in
        (r.0, more _ r.0 r.1 (simp (le-ltb v (suc w) p.1, lt-leb (suc w) last q.0, ne_eqb count most_body n)))

-- clause by clause
module _ (v g : ℕ) where
  clause_taken : (left i : ℕ) (c : Clause) (cs : List Clause) (n : ℕ) → GoodClause v g c → c.groups ≡ n ∷ []
      → ((j : ℕ) → clauses_at v g left j (plain_clauses cs) ≡ answered cs)
      → clauses_at v g (suc left) i (plain_clause c ++ plain_clauses cs) ≡ answered (c ∷ cs)
  unfolding clauses_at starting
  clause_taken left i c cs n k e again =
      let b = body_taken v 0 0 (i + 1) c.head c.body (plain_clauses cs) k.head (record { inside = k.variables; rises = k.rises; few = omega (arith, k.few) }) in
      let small : n ≤ g = within_one 0 g n (simp e at k.inside) in
      let is : record { groups = n ∷ []; head = c.head; body = c.body } ≡ c = simp (← e) in
      ap (clauses_at v g (suc left) i) (plain_one c n (plain_clauses cs) e)
      ∙ then_by _ _ _ (groups_right g left i n _ small)
      ∙ then_by _ _ _ b.1
      ∙ then_by _ cs _ (again b.0)
      ∙ ap (λ (d : Clause). answered (d ∷ cs)) is

  clauses_taken : (left i : ℕ) (cs : List Clause) → GoodClauses v g cs → length cs ≤ left → clauses_at v g left i (plain_clauses cs) ≡ answered cs
  unfolding clauses_at starting plain_clauses
  clauses_taken zero i [] good h = refl
  clauses_taken (suc left) i [] good h = refl
  clauses_taken zero i (c ∷ cs) good h = absurd (omega arith)
  clauses_taken (suc left) i (c ∷ cs) good h = go c.groups refl (λ j. clauses_taken left j cs good.1 (omega arith))
    where
      go : (gs : List ℕ) → c.groups ≡ gs → ((j : ℕ) → clauses_at v g left j (plain_clauses cs) ≡ answered cs) → clauses_at v g (suc left) i (plain_clause c ++ plain_clauses cs) ≡ answered (c ∷ cs)
      go [] e again = absurd (omega (arith, ap length e, good.0.one))
      go (n ∷ []) e again = clause_taken left i c cs n good.0 e again
      go (n ∷ (m ∷ gs)) e again = absurd (omega (arith, ap length e, good.0.one))

pub taking_given : (b : Book) → WellFormed b → taking (plain_of b) ≡ answered b
unfolding plain_of taking after_variables
taking_given b k =
    then_by _ _ _ (number_right 1 most_variables 0 b.variables k.some k.variables)
    ∙ then_by _ _ _ (number_right 0 most_groups 1 b.groups (omega arith) k.groups)
    ∙ then_by _ _ _ (clauses_taken b.variables b.groups most_clauses 2 b.clauses k.good k.clauses)
