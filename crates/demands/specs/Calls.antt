-- Serves laws only. What the contract of a call says, whichever call it is: that it asks nothing, and that it determines the result and everything lent
-- (document 01, "How much a contract has to say").
-- Assumes nothing.
use Rattle.std.specs.Prelude.{ℕ, ◌≡◌, List}
use contract.Lifetimes.{Lfts}
use Rattle.std.specs.Borrow.{Bor, MutBor}
use denote.Triple.Clauses.{Lasts, at_exit}
use borrow.Fn.Kinds.{ParamKind, ResultKind, In, Out, Dens, res_t, ended_of}
use Rattle.tables.specs.Lent.{Lent, lent}

-- a call as its contract has it: its lifetimes, parameters and result, what it asks of the arguments (its `requires`), and what it promises of
-- the arguments, the result and what is lent at exit (all its `ensures`)
pub record Call : Type 3 where
  pub lifetimes : ℕ
  pub parameters : List (ParamKind lifetimes)
  pub result : ResultKind lifetimes
  pub asked : In lifetimes parameters
  pub promised : Out lifetimes parameters result

module _ (c : Call) (κs : Lfts c.lifetimes) where
  abbrev pub Arguments : Type 0
  Arguments = Dens κs c.parameters

  abbrev pub Result : Type 0
  Result = (res_t c.result κs).Denot

  -- what stands at exit in each thing that is lent to be changed, in the order of the parameters; for every other parameter there is nothing to say
  abbrev pub Exit : Arguments → Type 0
  Exit a = Lasts (ended_of c.lifetimes c.parameters c.result) κs a

  -- the contract allows this result and this exit
  abbrev pub Allows : (a : Arguments) → Result → Exit a → Type 0
  Allows a r x = c.promised κs a r (at_exit (ended_of c.lifetimes c.parameters c.result) κs a x)

-- a result and an exit are what the definitions tell and leave
pub record Is {R X : Type 0} (told : R) (left : X) (result : R) (exit : X) : Type 0 where
  pub result_is : result ≡ told
  pub exit_is : exit ≡ left

module _ (c : Call) {Shown : Type 0} (shown : (κs : Lfts c.lifetimes) → Result c κs → Shown) where
  -- the call asks nothing, and its contract allows only what the definitions tell of the arguments and leave in what is lent. What is shown of
  -- the result is all of it, but for a part of a slice (`part_of`)
  pub record Defined (told : (κs : Lfts c.lifetimes) → Arguments c κs → Shown)
      (left : (κs : Lfts c.lifetimes) (a : Arguments c κs) → Exit c κs a) : Type 0 where
    pub asks_nothing : (κs : Lfts c.lifetimes) (a : Arguments c κs) → c.asked κs a
    pub only : (κs : Lfts c.lifetimes) (a : Arguments c κs) (r : Result c κs) (x : Exit c κs a) → Allows c κs a r x → Is (told κs a) (left κs a) (shown κs r) x

  -- any two results and exits that the contract allows for the same arguments are equal
  abbrev pub Determined : Type 0
  Determined =
      (κs : Lfts c.lifetimes) (a : Arguments c κs) (r r' : Result c κs) (x x' : Exit c κs a)
      → Allows c κs a r x → Allows c κs a r' x' → (shown κs r ≡ shown κs r') × (x ≡ x')

-- ---- a part of a slice as the result

-- its bytes, and where they stand in memory: a block and an offset in it. The reference has a ghost name besides, which no program sees
pub record Part : Type 0 where
  pub bytes : List ℕ
  pub place : ℕ × ℕ

abbrev pub part_of : Bor (List ℕ) → Part
part_of r = record { bytes = r.now; place = r.ref_ptr }

-- ---- a text and three tables among the arguments

-- four slices that stand one behind the other in the arguments, as they are at entry
abbrev pub lent_in : {Rest : Type 0} → Bor (List ℕ) × (Bor (List ℕ) × (Bor (List ℕ) × (Bor (List ℕ) × Rest))) → Lent
lent_in a = lent a.0.now a.1.0.now a.1.1.0.now a.1.1.1.0.now

-- the same of four slices that the call may change
abbrev pub changed_in : {Rest : Type 0} → MutBor (List ℕ) × (MutBor (List ℕ) × (MutBor (List ℕ) × (MutBor (List ℕ) × Rest))) → Lent
changed_in a = lent a.0.now a.1.0.now a.1.1.0.now a.1.1.1.0.now

-- and of a text that it only reads with three tables that it may change
abbrev pub filled_in : {Rest : Type 0} → Bor (List ℕ) × (MutBor (List ℕ) × (MutBor (List ℕ) × (MutBor (List ℕ) × Rest))) → Lent
filled_in a = lent a.0.now a.1.0.now a.1.1.0.now a.1.1.1.0.now

-- what each of the tables holds at exit, before what is lent behind them; and the text before them, where it can change
abbrev pub tables_in : {Rest : Type 0} → Lent → Rest → List ℕ × (List ℕ × (List ℕ × Rest))
tables_in b rest = (b.components, (b.properties, (b.parameters, rest)))

abbrev pub left_in : {Rest : Type 0} → Lent → Rest → List ℕ × (List ℕ × (List ℕ × (List ℕ × Rest)))
left_in b rest = (b.text, tables_in b rest)
