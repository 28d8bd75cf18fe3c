-- How a plain form is taken: the book that it is, or the refusal with its number and the index of the number at fault.
-- Numbers are tested one by one, `i` is the index of the next, and `xs` are the numbers from there on.
--   between low high x          x is a number from low to high
--   number_at low high i x       that number, or refusal 7
--   Named, named gs j xs        the groups of a clause, and what follows them from index j on
--   groups_at g left i x xs      a clause's groups, where there are g and room is left for so many clauses
--   head_tests v h n             what is tested of a positive literal n, after the head h (0 for none)
--   body_tests v h last count n  what is tested of a negative literal -n, after the head h and count others, the last of them -last
--   Ended, ended h ws j xs      the head and the body of a clause, and what follows its 0 from index j on
--   literals_at v h last count i xs      a clause's literals up to its 0
--   starting xs go              a clause is to begin, unless the numbers are at their end
--   clauses_at v g left i xs     clause by clause up to the end
--   after_variables v xs         the numbers after the first
--   taking xs                   the whole
-- Assumes nothing: these are definitions.
use Rattle.std.specs.Prelude.{ℕ, zero, suc, ◌+◌, List, [], ◌∷◌, Bool, false, not, ◌&&◌, ℤ, pos, negsuc, nat_abs, ltb, leb, eqb}
use Rattle.answer.specs.Answer.{Answer, answered, refused, and_then, Test, ◌⇒◌, first, unless}
use Rattle.meaning.specs.Book.{Clause, Book}
use Rattle.book.specs.Bytes.{most_variables, most_groups, most_clauses, most_body}
use Rattle.book.specs.Reading.{with_clauses}

unfoldable pub between : ℕ → ℕ → ℤ → Bool
between low high (pos n) = leb low n && leb n high
between low high (negsuc n) = false

unfoldable pub number_at : ℕ → ℕ → ℕ → ℤ → Answer ℕ
number_at low high i x = unless (first ((not (between low high x) ⇒ 7) ∷ [])) i (answered (nat_abs x))

pub record Named : Type 0 where
  pub groups : List ℕ
  pub next : ℕ
  pub rest : List ℤ

abbrev pub named : List ℕ → ℕ → List ℤ → Answer Named
named gs j xs = answered (record { groups = gs; next = j; rest = xs })

unfoldable pub groups_at : ℕ → ℕ → ℕ → ℤ → List ℤ → Answer Named
groups_at g left i x xs = unless (first ((eqb left 0 ⇒ 6) ∷ [])) i (and_then (number_at 0 g i x) (λ n. named (n ∷ []) (i + 1) xs))

abbrev pub head_tests : ℕ → ℕ → ℕ → List Test
head_tests v h n = (ltb v n ⇒ 7) ∷ (ltb 0 h ⇒ 13) ∷ []

abbrev pub body_tests : ℕ → ℕ → ℕ → ℕ → ℕ → List Test
body_tests v h last count n = (ltb v n ⇒ 7) ∷ (ltb 0 h ⇒ 8) ∷ (leb n last ⇒ 8) ∷ (eqb count most_body ⇒ 5) ∷ []

pub record Ended : Type 0 where
  pub head : ℕ
  pub body : List ℕ
  pub next : ℕ
  pub rest : List ℤ

abbrev pub ended : ℕ → List ℕ → ℕ → List ℤ → Answer Ended
ended h ws j xs = answered (record { head = h; body = ws; next = j; rest = xs })

unfoldable pub literals_at : ℕ → ℕ → ℕ → ℕ → ℕ → List ℤ → Answer Ended
literals_at v h last count i [] = refused 12 i
literals_at v h last count i (pos zero ∷ xs) = ended h [] (i + 1) xs
literals_at v h last count i (pos (suc n) ∷ xs) = unless (first (head_tests v h (suc n))) i (literals_at v (suc n) last count (i + 1) xs)
literals_at v h last count i (negsuc n ∷ xs) =
    unless (first (body_tests v h last count (suc n))) i
    (and_then (literals_at v h (suc n) (count + 1) (i + 1) xs) (λ e. ended e.head (suc n ∷ e.body) e.next e.rest))

unfoldable pub starting : List ℤ → (ℤ → List ℤ → Answer (List Clause)) → Answer (List Clause)
starting [] go = answered []
starting (x ∷ xs) go = go x xs

-- where no room is left a clause is refused by its group already, so the first line's own 6 is never given
unfoldable pub clauses_at : ℕ → ℕ → ℕ → ℕ → List ℤ → Answer (List Clause)
clauses_at v g zero i xs = starting xs (λ x ys. and_then (groups_at g zero i x ys) (λ n. refused 6 i))
clauses_at v g (suc left) i xs =
    starting xs
    (λ x ys. and_then (groups_at g (suc left) i x ys)
    (λ n. and_then (literals_at v 0 0 0 n.next n.rest)
    (λ e. and_then (clauses_at v g left e.next e.rest)
    (λ cs. answered (record { groups = n.groups; head = e.head; body = e.body } ∷ cs)))))

unfoldable pub after_variables : ℕ → List ℤ → Answer Book
after_variables v [] = refused 12 1
after_variables v (y ∷ xs) = and_then (number_at 0 most_groups 1 y) (λ g. and_then (clauses_at v g most_clauses 2 xs) (with_clauses v g))

unfoldable pub taking : List ℤ → Answer Book
taking [] = refused 12 0
taking (x ∷ xs) = and_then (number_at 1 most_variables 0 x) (λ v. after_variables v xs)
