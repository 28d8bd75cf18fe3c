-- A book and its clauses, as code has them.
--   meant b           the book that the bytes of b are
--   clause_is c       the clause whose parts c has
--   clauses_left w    the clauses that a walk has left
--   GivesFirst w      a walk gives the first of the clauses that it has left, its groups and body as they stand in the bytes, and goes on behind it
-- Assumes nothing: these are definitions.
use Rattle.std.specs.Prelude.{◌≡◌, ◌-◌, Option, MatchOption, List, length, take, drop}
use Rattle.std.specs.Iterator.{YieldsFirstBy}
use Rattle.field.specs.Words.{words}
use Rattle.field.specs.Field.{size, after}
use Rattle.meaning.specs.Book.{clause_from, Clause as Meant, Book as MeantBook}
use Rattle.book.specs.Walk.{book_of, left}
use Rattle.book.specs.declared.accepted.Book.{Book}
use Rattle.book.specs.declared.accepted.Clause.{Clause}
use Rattle.book.specs.declared.accepted.Clauses.{Clauses}

abbrev pub meant : Book → MeantBook
meant b = book_of b.bytes.now

abbrev pub clause_is : Clause → Meant
clause_is c = clause_from (words c.groups.now) c.head (words c.body.now)

abbrev pub clauses_left : Clauses → List Meant
clauses_left w = left (length w.rest.now) w.rest.now

abbrev pub GivesFirst : Clauses → Option Clause → Clauses → Type 0
GivesFirst w first new =
    YieldsFirstBy clause_is clauses_left w first new
    × MatchOption first (new.rest.now ≡ w.rest.now)
    (λ c. (c.groups.now ≡ take 2 (drop 3 w.rest.now)) × (c.body.now ≡ take (size w.rest.now - 7) (drop 7 w.rest.now)) × (new.rest.now ≡ after w.rest.now))
