-- A book that a text is taken as is well formed.
--   Right v g left k zs      nothing is wrong with a clause of group k and those literals
--   tests_right      where no test holds, nothing is wrong
--   clause_good      then the clause is good
--   clauses_good     the clauses from a line on, and how many there are at most
--   taken_good       the whole book
-- Assumes nothing.
use Prim.Native.Nat.{ℕ, ◌+◌, ◌-◌, ◌≤◌}
use mathlib.Core.Path.{◌≡◌, refl, sym, subst}
use mathlib.Core.List.{List, [], ◌∷◌}
use mathlib.Core.Bool.{true}
use native.Mathlib.Omega.{arith}
use lib.IntN.{ℤ}
use lib.ListN.{length, get_or}
use borrow.Author.Tests.{ltb-false, eqb-false, not-false}
use Rattle.answer.specs.Answer.{answered, refused, and_then, first, unless}
use Rattle.answer.proofs.Answers.{never, then_is, unless_is}
use Rattle.answer.proofs.Tests.{first_clear}
use Rattle.field.specs.Words.{within}
use Rattle.field.proofs.Words.{within_cons, one_within}
use Rattle.meaning.specs.Book.{Clause, Book}
use Rattle.book.specs.Bytes.{most_variables, most_groups, most_clauses, most_body, GoodClause, GoodClauses, WellFormed}
use Rattle.book.specs.Reading.{with_clauses}
use Rattle.text.specs.Lines.{lines}
use Rattle.text.specs.Forms.{Line, skipped, heading, clause, formless, by_form, line_of}
use Rattle.text.specs.Taking.{heads, bodies, head_in, each, body_in, clause_in, heading_tests, clause_tests, clauses_at, count_tests, following, opening_at, taking_text}
use Rattle.text.proofs.Gathering.{gather_within, body_rising}

-- the first of some numbers, or 0 for none
first_within : (v : ℕ) (ns : List ℕ) → within 1 v ns ≡ true → get_or ns 0 0 ≤ v
first_within v [] e = omega arith
first_within v (n ∷ ns) e = (within_cons 1 v n ns e).1

pub record Right (v g left k : ℕ) (zs : List ℤ) : Type 0 where
  pub group : k ≤ g
  pub positive : within 1 v (heads zs) ≡ true
  pub negative : within 1 v (bodies zs) ≡ true
  pub one : each (head_in zs) (heads zs) ≡ true
  pub room : left ≡ 0 → ⊥
  pub few : length (body_in zs) ≤ most_body

module _ (v g left k : ℕ) (zs : List ℤ) (right : first (clause_tests v g left k zs) ≡ 0) where
  pub tests_right : Right v g left k zs
  tests_right =
      let t = first_clear (clause_tests v g left k zs) right in
      record {
        group = ltb-false g k t.0;
        positive = not-false (within 1 v (heads zs)) t.1.0;
        negative = not-false (within 1 v (bodies zs)) t.1.1.0;
        one = not-false (each (head_in zs) (heads zs)) t.1.1.1.0;
        room = eqb-false left 0 t.1.1.1.1.0;
        few = ltb-false most_body (length (body_in zs)) t.1.1.1.1.1.0;
      }

  pub clause_good : GoodClause v g (clause_in k zs)
  unfolding within
  clause_good =
      let r = tests_right in
      record {
        one = refl;
        inside = one_within 0 g k (omega arith) r.group;
        head = first_within v (heads zs) r.positive;
        few = r.few;
        variables = gather_within 1 v [] (bodies zs) r.negative refl;
        rises = body_rising zs;
      }

abbrev Good : ℕ → ℕ → ℕ → List Clause → Type 0
Good v g left cs = GoodClauses v g cs × (length cs ≤ left)

pub clauses_good : (v g left i : ℕ) (ls : List (List ℕ)) (cs : List Clause) → clauses_at v g left i ls ≡ answered cs → GoodClauses v g cs × (length cs ≤ left)
unfolding clauses_at by_form
clauses_good v g left i [] cs e = let q : cs ≡ [] = cc in subst (Good v g left) (sym q) (tt, omega arith)
clauses_good v g left i (l ∷ ls) cs e = go (line_of l) (clauses_good v g left (i + 1) ls cs) (clauses_good v g (left - 1) (i + 1) ls) e
  where
    more : (k : ℕ) (zs : List ℤ) (cs' : List Clause) → first (clause_tests v g left k zs) ≡ 0 → Good v g (left - 1) cs' → clause_in k zs ∷ cs' ≡ cs → Good v g left cs
    more k zs cs' r q e' = subst (Good v g left) e' ((clause_good v g left k zs r, q.0), let h = (tests_right v g left k zs r).room in let m = q.1 in omega arith)

    go : (f : Line) → (clauses_at v g left (i + 1) ls ≡ answered cs → Good v g left cs)
        → ((cs' : List Clause) → clauses_at v g (left - 1) (i + 1) ls ≡ answered cs' → Good v g (left - 1) cs')
        → by_form f (clauses_at v g left (i + 1) ls) (λ v' n' g'. refused 22 i)
        (λ k zs. unless (first (clause_tests v g left k zs)) i (and_then (clauses_at v g (left - 1) (i + 1) ls) (λ ds. answered (clause_in k zs ∷ ds))))
        (refused 22 i)
        ≡ answered cs
        → Good v g left cs
    go skipped ih next q = ih q
    go (heading a b c) ih next q = absurd (never cs 22 i (sym q))
    go formless ih next q = absurd (never cs 22 i (sym q))
    go (clause k zs) ih next q =
        let u = unless_is (first (clause_tests v g left k zs)) i (and_then (clauses_at v g (left - 1) (i + 1) ls) (λ ds. answered (clause_in k zs ∷ ds))) cs q in
        let t = then_is (clauses_at v g (left - 1) (i + 1) ls) (λ ds. answered (clause_in k zs ∷ ds)) cs u.1 in
        more k zs t.0 u.0 (next t.0 t.1) (let d = t.2 in cc)

-- what follows a `p` line with which nothing is wrong
following_good : (v n g i : ℕ) (ls : List (List ℕ)) (b : Book) → first (heading_tests v n g) ≡ 0 → following v n g i ls ≡ answered b → WellFormed b
unfolding following
following_good v n g i ls b h e =
    let t = first_clear (heading_tests v n g) h in
    let a = then_is (clauses_at v g most_clauses (i + 1) ls) (λ cs. unless (first (count_tests n cs)) i (with_clauses v g cs)) b e in
    let cs = a.0 in
    let c = clauses_good v g most_clauses (i + 1) ls cs a.1 in
    let u = (unless_is (first (count_tests n cs)) i (with_clauses v g cs) b a.2).1 in
    let q : record { variables = v; groups = g; clauses = cs } ≡ b = cc in
    subst WellFormed q
    (record {
      some = ltb-false v 1 t.0;
      variables = ltb-false most_variables v t.1.0;
      groups = ltb-false most_groups g t.1.1.0;
      clauses = c.1;
      good = c.0;
    })

opening_good : (i : ℕ) (ls : List (List ℕ)) (b : Book) → opening_at i ls ≡ answered b → WellFormed b
unfolding opening_at by_form
opening_good i [] b e = absurd (never b 22 0 (sym e))
opening_good i (l ∷ ls) b e = go (line_of l) (opening_good (i + 1) ls b) e
  where
    go : (f : Line) → (opening_at (i + 1) ls ≡ answered b → WellFormed b)
        → by_form f (opening_at (i + 1) ls) (λ v n g. unless (first (heading_tests v n g)) i (following v n g i ls)) (λ k zs. refused 22 i) (refused 22 i) ≡ answered b
        → WellFormed b
    go skipped ih q = ih q
    go (heading v n g) ih q =
        let u = unless_is (first (heading_tests v n g)) i (following v n g i ls) b q in
        following_good v n g i ls b u.0 u.1
    go (clause k zs) ih q = absurd (never b 22 i (sym q))
    go formless ih q = absurd (never b 22 i (sym q))

pub taken_good : (t : List ℕ) (b : Book) → taking_text t ≡ answered b → WellFormed b
unfolding taking_text
taken_good t b e = opening_good 1 (lines t) b e
