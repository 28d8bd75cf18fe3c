-- Document 01's starred cases as one statement over a table: of a book, a question, and the answer that the paper gives.
--   without_5        X without group 5 and its clause
--   nothing, never   one variable, no group; no clause, and an always false one in the core
--   Question         asks x, explains x, lists k: about a choice; for its smallest explanation; for a listing, begun empty, in room for k records
--   answer_to b q     the answer, by the definitions that the contracts cite: the marks of the variables and the goal that is broken; the explanation, or
--                    nothing; the words of the records, their number, and 1 for complete or 0 for stopped
--   Case             a row
--   Holds            each of some rows is so
--   starred          the table, cases 1 to 11 in their order
--   smaller_rooms    case 12: room for 3 records, and for none
-- Assumes nothing.
use Prim.Native.Nat.{ℕ}
use mathlib.Core.Path.{◌≡◌, refl}
use mathlib.Core.List.{List, [], ◌∷◌}
use Rattle.meaning.specs.Book.{clause_from, Book}
use Rattle.meaning.specs.Choice.{digit, chosen}
use Rattle.meaning.specs.Consistent.{every}
use Rattle.meaning.specs.Forced.{marked, put, pass, passes, broken, lowest, forced, forced_in, broken_in, inconsistent}
use Rattle.rounds.specs.Records.{allows, allowed}
use Rattle.rounds.specs.Rounds.{largest, first_from, seed, smallest, found, listing, is_none, complete}
use Rattle.records.specs.Words.{records_of, kind_of, set_of, words_of}
use Rattle.ask.specs.Asks.{goals}
use Rattle.explain.specs.Explains.{explained}
use Rattle.list.specs.Lists.{rounds, said}
use Rattle.cases.proofs.BookX.{x}
use Rattle.cases.proofs.Choices.{eleven}

abbrev pub without_5 : Book
without_5 =
    record {
      variables = 3;
      groups = 4;
      clauses = clause_from (0 ∷ []) 0 (3 ∷ [])
          ∷ clause_from (1 ∷ []) 1 []
          ∷ clause_from (2 ∷ []) 3 (1 ∷ [])
          ∷ clause_from (3 ∷ []) 2 []
          ∷ clause_from (4 ∷ []) 3 (2 ∷ [])
          ∷ [];
    }

abbrev pub nothing : Book
nothing = record { variables = 1; groups = 0; clauses = [] }

abbrev pub never : Book
never = record { variables = 1; groups = 0; clauses = clause_from (0 ∷ []) 0 [] ∷ [] }

pub data Question : Type 0 where
  asks explains lists : ℕ → Question

abbrev pub answer_to : Book → Question → List (List ℕ)
answer_to b (asks c) = forced_in b c ∷ goals (broken_in b c) ∷ []
answer_to b (explains c) = explained b c ∷ []
answer_to b (lists k) = words_of (rounds b k [] 0) ∷ said b (rounds b k [] 0) ∷ []

pub record Case : Type 0 where
  pub book : Book
  pub question : Question
  pub answer : List (List ℕ)

abbrev pub Holds : List Case → Type 0
Holds [] = Unit {0}
Holds (c ∷ cs) = (answer_to c.book c.question ≡ c.answer) × Holds cs

pub starred : Holds
    (record { book = x; question = lists 7; answer = (1 ∷ 3 ∷ 1 ∷ 12 ∷ 2 ∷ 5 ∷ 1 ∷ 25 ∷ 2 ∷ 9 ∷ 2 ∷ 10 ∷ 2 ∷ 22 ∷ []) ∷ (7 ∷ 1 ∷ []) ∷ [] }
    ∷ record { book = x; question = explains 31; answer = (3 ∷ []) ∷ [] }
    ∷ record { book = x; question = explains 28; answer = (12 ∷ []) ∷ [] }
    ∷ record { book = x; question = explains 25; answer = (25 ∷ []) ∷ [] }
    ∷ record { book = x; question = explains 26; answer = [] ∷ [] }
    ∷ record { book = x; question = asks 21; answer = (1 ∷ 1 ∷ 0 ∷ []) ∷ [] ∷ [] }
    ∷ record { book = x; question = asks 31; answer = (1 ∷ 1 ∷ 1 ∷ []) ∷ (1 ∷ []) ∷ [] }
    ∷ record { book = without_5; question = lists 6; answer = (1 ∷ 3 ∷ 1 ∷ 12 ∷ 2 ∷ 5 ∷ 2 ∷ 6 ∷ 2 ∷ 9 ∷ 2 ∷ 10 ∷ []) ∷ (6 ∷ 1 ∷ []) ∷ [] }
    ∷ record { book = nothing; question = lists 1; answer = (2 ∷ 0 ∷ []) ∷ (1 ∷ 1 ∷ []) ∷ [] }
    ∷ record { book = never; question = lists 1; answer = (1 ∷ 0 ∷ []) ∷ (1 ∷ 1 ∷ []) ∷ [] }
    ∷ record { book = eleven; question = lists 3; answer = (1 ∷ 3 ∷ 2 ∷ 1 ∷ 2 ∷ 2 ∷ []) ∷ (3 ∷ 1 ∷ []) ∷ [] }
    ∷ [])
unfolding digit chosen every marked put pass passes broken lowest forced forced_in broken_in inconsistent allows allowed largest first_from seed smallest found listing is_none complete records_of kind_of set_of words_of goals explained rounds said
starred = (refl, (refl, (refl, (refl, (refl, (refl, (refl, (refl, (refl, (refl, (refl, tt)))))))))))

pub smaller_rooms : Holds
    (record { book = x; question = lists 3; answer = (1 ∷ 3 ∷ 1 ∷ 12 ∷ 2 ∷ 5 ∷ []) ∷ (3 ∷ 0 ∷ []) ∷ [] }
    ∷ record { book = x; question = lists 0; answer = [] ∷ (0 ∷ 0 ∷ []) ∷ [] }
    ∷ [])
unfolding digit chosen every marked put pass passes broken lowest forced forced_in broken_in inconsistent allows allowed largest first_from seed smallest found listing is_none complete records_of kind_of set_of words_of goals explained rounds said
smaller_rooms = (refl, (refl, tt))
