-- What is left after one read or write and then another.
--   Loses-none, Loses-then        nothing lost; lost by one and then by another
--   AppendsPart-first             a part of what comes first is a part of the whole
--   AppendsPart-then              all of what comes first, and a part of the rest
--   Prints-then                   all of what comes first, and then the rest is printed
--   Prints-err                    a part is what is printed where an error is told
-- Assumes nothing.
use Rattle.std.proofs.Common.{◌≡◌, ℕ, ◌+◌, ◌≤◌, List, [], ◌++◌, Option, Result, Ok, Err, IsErr, length, take, arith, sym, ◌∙◌, subst}
use Rattle.std.specs.Io.KnownBytes.{Appends}
use Rattle.std.proofs.KnownBytes.{Appends-trans, Consumes-nil, Consumes-trans}
use Rattle.std.proofs.lemmas.List.{take_all, take-append-le}
use Rattle.std.proofs.Math.Seq.{take-append-add, take-append_seam}
use native.Mathlib.Decide.{dec_le}
use Rattle.streams.specs.Streams.{AppendsPart, Prints, Loses}

pub Loses-none : (a : Option (List ℕ)) → Loses a a
Loses-none a = ([], Consumes-nil a)

pub Loses-then : (a b c : Option (List ℕ)) → Loses a b → Loses b c → Loses a c
Loses-then a b c p q = (p.0 ++ q.0, Consumes-trans a b c p.0 q.0 p.1 q.1)

pub AppendsPart-first : (a b : Option (List ℕ)) (xs ys : List ℕ) → AppendsPart a b xs → AppendsPart a b (xs ++ ys)
AppendsPart-first a b xs ys p = go (dec_le p.0 (length xs))
  where
    go : Dec (p.0 ≤ length xs) → AppendsPart a b (xs ++ ys)
    go (yes within) = (p.0, subst (Appends a b) (sym (take-append-le p.0 xs ys within)) p.1)
    go (no beyond) =
        let all : take p.0 xs ≡ xs = take_all p.0 xs (omega arith) in
        let front : take (length xs) (xs ++ ys) ≡ xs = take-append_seam xs ys in
        (length xs, subst (Appends a b) (all ∙ sym front) p.1)

pub AppendsPart-then : (a b c : Option (List ℕ)) (xs ys : List ℕ) → Appends a b xs → AppendsPart b c ys → AppendsPart a c (xs ++ ys)
AppendsPart-then a b c xs ys p q = (length xs + q.0, subst (Appends a c) (sym (take-append-add xs ys q.0)) (Appends-trans a b c xs (take q.0 ys) p q.1))

pub Prints-then : {A E : Type 0} (r : Result A E) (a b c : Option (List ℕ)) (xs ys : List ℕ) → Appends a b xs → Prints r b c ys → Prints r a c (xs ++ ys)
Prints-then (Ok v) a b c xs ys p q = Appends-trans a b c xs ys p q
Prints-then (Err e) a b c xs ys p q = AppendsPart-then a b c xs ys p q

pub Prints-err : {A E : Type 0} (r : Result A E) (a b : Option (List ℕ)) (xs : List ℕ) → IsErr r → AppendsPart a b xs → Prints r a b xs
Prints-err (Ok v) a b xs h p = cc
Prints-err (Err e) a b xs h p = p
