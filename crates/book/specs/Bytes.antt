-- The bytes of a rule book, and the limits.
--   most_bytes, most_variables, most_groups, most_clauses      the limits of a book
--   most_body           ... and of the size of a body
--   GoodClause v g c   what is asked of a clause in a book of v variables and g groups
--   GoodClauses        the same of each of some clauses
--   WellFormed b       what is asked of a book, save the length of its bytes
--   clause_bytes c      a clause's field: its group, its head, its body
--   clauses_bytes cs    a field for each clause, and the end
--   bytes_of b          the whole book: the header, the clauses, the end
--   sizes_of cs         7, and twice the size of the body, for each clause
--   bytes_in room b     the bytes of b that are to be written into a space of so many; or refusal 1, then 11
-- Assumes nothing: these are definitions.
use Rattle.std.specs.Prelude.{ℕ, ◌+◌, ◌*◌, ◌≤◌, ◌≡◌, List, [], ◌∷◌, ◌++◌, true, length, ltb}
use Rattle.answer.specs.Answer.{Answer, ◌⇒◌, first, unless}
use Rattle.answer.specs.Space.{fitting}
use Rattle.field.specs.Words.{word_bytes, within, rising}
use Rattle.field.specs.Field.{field_bytes}
use Rattle.meaning.specs.Book.{Clause, Book}

abbrev pub most_bytes : ℕ
most_bytes = 65535

abbrev pub most_variables : ℕ
most_variables = 1024

abbrev pub most_groups : ℕ
most_groups = 32

abbrev pub most_clauses : ℕ
most_clauses = 2048

abbrev pub most_body : ℕ
most_body = 32

pub record GoodClause (v g : ℕ) (c : Clause) : Type 0 where
  pub one : length c.groups ≡ 1
  pub inside : within 0 g c.groups ≡ true
  pub head : c.head ≤ v
  pub few : length c.body ≤ most_body
  pub variables : within 1 v c.body ≡ true
  pub rises : rising 0 c.body ≡ true

abbrev pub GoodClauses : ℕ → ℕ → List Clause → Type 0
GoodClauses v g [] = Unit {0}
GoodClauses v g (c ∷ cs) = GoodClause v g c × GoodClauses v g cs

pub record WellFormed (b : Book) : Type 0 where
  pub some : 1 ≤ b.variables
  pub variables : b.variables ≤ most_variables
  pub groups : b.groups ≤ most_groups
  pub clauses : length b.clauses ≤ most_clauses
  pub good : GoodClauses b.variables b.groups b.clauses

unfoldable pub clause_bytes : Clause → List ℕ
clause_bytes c = field_bytes 2 (word_bytes (c.groups ++ (c.head ∷ c.body)))

unfoldable pub clauses_bytes : List Clause → List ℕ
clauses_bytes [] = field_bytes 0 []
clauses_bytes (c ∷ cs) = clause_bytes c ++ clauses_bytes cs

unfoldable pub bytes_of : Book → List ℕ
bytes_of b = field_bytes 1 (word_bytes (b.variables ∷ (b.groups ∷ []))) ++ clauses_bytes b.clauses

unfoldable pub sizes_of : List Clause → ℕ
sizes_of [] = 0
sizes_of (c ∷ cs) = 7 + 2 * length c.body + sizes_of cs

abbrev pub bytes_in : ℕ → Book → Answer (List ℕ)
bytes_in room b = unless (first ((ltb most_bytes (length (bytes_of b)) ⇒ 1) ∷ [])) 0 (fitting room (bytes_of b))
