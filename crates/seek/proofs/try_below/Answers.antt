-- What `seek::try_below` leaves open, from the laws.
use Prim.Native.Nat.{ℕ, ◌-◌, ◌^◌}
use mathlib.Core.Path.{◌≡◌, refl, sym, ap, ◌∙◌}
use native.Mathlib.Omega.{arith}
use lib.ListN.{length-set}
use borrow.Author.Tests.{eqb-true, eqb-false}
use Rattle.meaning.specs.Choice.{digit}
use Rattle.meaning.proofs.Choices.{digit_lt}
use Rattle.path.specs.Paths.{Leaves}
use Rattle.seek.specs.Paths.{above}
use Rattle.seek.proofs.Below.{along_parts, along_reasons, held_fits, clear_other, along_next, along_after, tries_ruled, tries_sought}
use Rattle.seek.proofs.try_below.Goals as goal

pub returns-then-not-has : goal.returns-then-not-has
returns-then-not-has c = let F = Leaves c.args.listed in
    let d : digit c.args.last c.args.g ≡ 0 = omega (arith, digit_lt c.args.last c.args.g, eqb-false (digit c.args.last c.args.g) 1 (sym c.has.ensures ∙ c.if-not-has.true)) in
    ((c.requires.5, clear_other F c.args.last c.requires.4 c.args.g d c.requires.6), along_next _ _ _ c.args.why.now c.requires.3, refl, refl)

pub returns-then-ruled-held : goal.returns-then-ruled-held
returns-then-ruled-held c = let F = Leaves c.args.listed in (
  tries_ruled F c.args.last c.requires.4 c.args.g c.args.ruled c.above-held.result c.requires.5 c.above-held.ensures c.if-ruled-held.true,
  along_next _ _ _ c.args.why.now c.requires.3,
  refl,
  refl,
)

pub overflow_sub-left-2 : goal.overflow_sub-left-2
overflow_sub-left-2 c = omega (
  arith,
  c.all.ensures,
  c.above-held.ensures,
  c.bit-free.ensures,
  held_fits c.args.listed.groups c.args.last c.args.g c.requires.2 (eqb-true (digit c.args.last c.args.g) 1 (sym c.has.ensures ∙ c.if-not-has.false)),
)

pub search-requires : goal.search-requires
search-requires c = let n = c.args.listed.groups in let F = Leaves c.args.listed in let last = c.args.last in let g = c.args.g in
    let d = (eqb-true (digit last g) 1 (sym c.has.ensures ∙ c.if-not-has.false)) in
    let P = along_parts n last g c.requires.2 d (2 ^ n - 1 - above last g - (2 ^ g - 1)) refl in
    let R = along_reasons n last g c.requires.2 d (2 ^ n - 1 - above last g - (2 ^ g - 1)) refl F c.args.why.now c.requires.3 (omega (arith, c.requires.0, c.requires.1)) c.requires.4 c.requires.6 in (
      simp length-set c.requires.0,
      rw (c.above-held.ensures, c.bit-free.ensures, c.all.ensures) P,
      rw (c.above-held.ensures, c.bit-free.ensures, c.all.ensures) R,
      omega (arith, c.bound.ensures, c.requires.7),
      c.requires.8,
    )

pub returns : goal.returns
returns c = let F = Leaves c.args.listed in (
  tries_sought F c.args.last c.requires.4 c.args.g c.above-held.result c.search.result c.above-held.ensures c.search.ensures.0,
  along_after c.args.last c.args.listed.groups c.args.g (c.bit-free.result - 1) c.above-held.result c.args.why.now c.search.new.why c.requires.3
      (ap (λ (x : ℕ). x - 1) c.bit-free.ensures) c.search.ensures.1,
  c.search.ensures.1.long ∙ length-set c.args.why.now c.args.g c.above-held.result,
  c.search.ensures.2,
)
