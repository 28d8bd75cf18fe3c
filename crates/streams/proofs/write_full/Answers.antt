-- What a write took is what comes next of the bytes; after an error what was written before is a part of them.
use Rattle.std.proofs.Common.{◌≡◌, ℕ, ◌-◌, List, ◌++◌, Option, length, take, drop, sym, ap, ◌∙◌, subst, le_refl, append_assoc, take-append-drop}
use Rattle.std.proofs.lemmas.Slice.{between_to_end}
use Rattle.std.proofs.Math.Seq.{take-append_seam}
use Rattle.std.specs.Io.KnownBytes.{Appends}
use Rattle.std.proofs.KnownBytes.{Appends-trans, Appends-kept}
use Rattle.streams.specs.Streams.{AppendsPart}
use Rattle.streams.proofs.Leaving.{Prints-err}
use Rattle.streams.proofs.write_full.Goals as goal

split : (n : ℕ) (bytes done rest : List ℕ) → bytes ≡ done ++ rest → bytes ≡ (done ++ take n rest) ++ take (length rest - n) (drop n rest)
split n bytes done rest e =
    let after = take (length rest - n) (drop n rest) in
    let whole : rest ≡ take n rest ++ after = sym (take-append-drop n rest) ∙ ap (λ l. take n rest ++ l) (sym (between_to_end rest n (length rest) (le_refl (length rest)))) in
    e ∙ ap (λ l. done ++ l) whole ∙ sym (append_assoc done (take n rest) after)

part : (a b : Option (List ℕ)) (bytes done rest : List ℕ) → bytes ≡ done ++ rest → Appends a b done → AppendsPart a b bytes
part a b bytes done rest e p = (length done, subst (Appends a b) (sym (ap (take (length done)) e ∙ take-append_seam done rest)) p)

pub returns-in_err-n : goal.returns-in_err-n
returns-in_err-n g c =
    let i = c.loop-rest.invariant in
    Prints-err c.from_residual.result _ _ _ c.from_residual.ensures.0 (part _ _ _ _ _ i.1 (Appends-kept _ _ _ _ i.2 c.in_err-n.ensures.bytes))

pub returns-then-n-eq0 : goal.returns-then-n-eq0
returns-then-n-eq0 g c =
    let i = c.loop-rest.invariant in
    part _ _ _ _ _ (split c.in_ok-n.n _ _ _ i.1) (Appends-trans _ _ _ _ _ i.2 c.in_ok-n.ensures.bytes)

pub loop-rest-preserved : goal.loop-rest-preserved
loop-rest-preserved g c =
    let i = c.loop-rest.invariant in
    (i.0 ++ take c.in_ok-n.n c.loop-rest.rest.now, split c.in_ok-n.n c.args.bytes.now i.0 c.loop-rest.rest.now i.1, Appends-trans _ _ _ _ _ i.2 c.in_ok-n.ensures.bytes)
