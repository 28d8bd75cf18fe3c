-- What one record decides: which groups are decided, and why.
--   Fits n rs z            z is a choice of n groups that the records leave
--   Leaves l z             z is a choice of the book's groups that the listed records leave
--   Bars Fit set v         no choice that fits gives all groups of the set the value v: 1 for an explanation, 0 for a repair
--   Parts n taken left free      each of the n groups is taken, left or free
--   Decides Fit held set why v   each group of the set has the value v, 1 in and 0 out, in every choice that fits and contains what the group rests on;
--                          this lies in held
--   Reasons Fit held taken left why    the groups taken and left are so decided; held, the trials, are among those taken
--   Rules Fit held c       no choice that fits contains the groups c, and these lie in held
--   gathered why set k     what the groups of the set rest on, of the first k
--   Same free why why'     the reasons of all groups that are not free stay
-- What functions answer:
--   Last n set side free g       group g is the only one of the set that is not on the side, and it is free
--   in_favour k s, against k s, decided k g s     the groups decided in favour of the records of a kind, and against them; the sides where a free group is decided in their favour
--   Pressing n set side free why r why'   a record whose groups cannot all be on one side: all are, or nothing changes, or the last one goes to the other side
--   Narrows n Fit taken left free why f t l why'      more groups are decided: f are free, t taken, l left, for reasons why'
--   Closing n Fit taken left free why r why'    records decided more groups, or rule the path out
-- Assumes nothing: these are definitions.
use Rattle.std.specs.Prelude.{ℕ, zero, suc, ◌+◌, ◌-◌, ◌^◌, ◌≤◌, ◌<◌, ◌≡◌, ◌≢◌, List, true, cond, eqb, length, get_or, set as put, Option, Some, None, Result, Ok, Err}
use Rattle.std.specs.Int.Bits.{bit_and, bit_or}
use Rattle.meaning.specs.Choice.{digit, Inside}
use Rattle.rounds.specs.Records.{Record, allowed}
use Rattle.records.specs.Words.{records_of}
use Rattle.records.specs.declared.Listed.{Listed}
use Rattle.records.specs.declared.Kind.{Kind}
use Rattle.records.specs.declared.Kind.TheVariants.{Explanation, Repair}
use Rattle.path.specs.declared.Sides.{Sides}

abbrev pub Fits : ℕ → List Record → ℕ → Type 0
Fits n rs z = (z < 2 ^ n) × (allowed rs z ≡ true)

abbrev pub Leaves : Listed → ℕ → Type 0
Leaves l = Fits l.groups (records_of l.records.now l.count)

abbrev pub Bars : (ℕ → Type 0) → ℕ → ℕ → Type 0
Bars Fit set v = (z : ℕ) → Fit z → ((g : ℕ) → digit set g ≡ 1 → digit z g ≡ v) → ⊥

pub record Parts (n taken left free : ℕ) : Type 0 where
  pub taken_in : taken < 2 ^ n
  pub left_in : left < 2 ^ n
  pub free_in : free < 2 ^ n
  pub one : (g : ℕ) → g < n → digit taken g + digit left g + digit free g ≡ 1

abbrev pub Decides : (ℕ → Type 0) → ℕ → ℕ → List ℕ → ℕ → Type 0
Decides Fit held set why v = (g : ℕ) → digit set g ≡ 1 → Inside (get_or why g 0) held × ((z : ℕ) → Fit z → Inside (get_or why g 0) z → digit z g ≡ v)

pub record Reasons (Fit : ℕ → Type 0) (held taken left : ℕ) (why : List ℕ) : Type 0 where
  pub trial : Inside held taken
  pub takes : Decides Fit held taken why 1
  pub leaves : Decides Fit held left why 0

abbrev pub Rules : (ℕ → Type 0) → ℕ → ℕ → Type 0
Rules Fit held c = Inside c held × ((z : ℕ) → Fit z → Inside c z → ⊥)

unfoldable pub gathered : List ℕ → ℕ → ℕ → ℕ
gathered why set zero = 0
gathered why set (suc k) = cond (eqb (digit set k) 1) (bit_or (gathered why set k) (get_or why k 0)) (gathered why set k)

pub record Same (free : ℕ) (why why' : List ℕ) : Type 0 where
  pub long : length why' ≡ length why
  pub rest : (g : ℕ) → digit free g ≡ 0 → get_or why' g 0 ≡ get_or why g 0

pub record Last (n set side free g : ℕ) : Type 0 where
  pub within : set < 2 ^ n
  pub is_free : digit free g ≡ 1
  pub others : (j : ℕ) → digit set j ≡ 1 → j ≢ g → digit side j ≡ 1

abbrev pub in_favour : Kind → Sides → ℕ
in_favour Explanation s = s.left
in_favour Repair s = s.taken

abbrev pub against : Kind → Sides → ℕ
against Explanation s = s.taken
against Repair s = s.left

abbrev pub decided : Kind → ℕ → Sides → Sides
decided Explanation g s = record { free = s.free - 2 ^ g; taken = s.taken; left = s.left + 2 ^ g }
decided Repair g s = record { free = s.free - 2 ^ g; taken = s.taken + 2 ^ g; left = s.left }

abbrev pub Pressing : (n set side free : ℕ) (why : List ℕ) → Result (Option ℕ) ℕ → List ℕ → Type 0
Pressing n set side free why (Err c) why' = (set < 2 ^ n) × Inside set side × (c ≡ gathered why set n) × (why' ≡ why)
Pressing n set side free why (Ok None) why' = why' ≡ why
Pressing n set side free why (Ok (Some g)) why' = Last n set side free g × (why' ≡ put why g (gathered why (bit_and set side) n))

pub record Narrows (n : ℕ) (Fit : ℕ → Type 0) (taken left free : ℕ) (why : List ℕ) (f t l : ℕ) (why' : List ℕ) : Type 0 where
  pub parts : Parts n t l f
  pub fewer : f ≤ free
  pub inside : (g : ℕ) → digit free g ≡ 0 → digit f g ≡ 0
  pub reasons : (held : ℕ) → Reasons Fit held taken left why → Reasons Fit held t l why'

abbrev pub Closing : (n : ℕ) → (ℕ → Type 0) → (taken left free : ℕ) (why : List ℕ) → Result Sides ℕ → List ℕ → Type 0
Closing n Fit taken left free why (Err c) why' = Same free why why' × ((held : ℕ) → Reasons Fit held taken left why → Rules Fit held c)
Closing n Fit taken left free why (Ok s) why' = Same free why why' × Narrows n Fit taken left free why s.free s.taken s.left why'
