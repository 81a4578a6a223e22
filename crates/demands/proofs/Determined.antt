-- A contract of equations determines the call: any two results and exits that it allows for one entry are equal. Assumes nothing.
use mathlib.Core.Path.{sym, ◌∙◌}
use contract.Lifetimes.{Lfts}
use Rattle.demands.specs.Calls.{Call, Arguments, Result, Exit, Defined, Determined}

pub determined : {c : Call} {Shown : Type 0} {shown : (κs : Lfts c.lifetimes) → Result c κs → Shown}
    {told : (κs : Lfts c.lifetimes) → Arguments c κs → Shown} {left : (κs : Lfts c.lifetimes) (a : Arguments c κs) → Exit c κs a}
    → Defined c shown told left → Determined c shown
determined d κs a r r' x x' p q =
    let e = d.only κs a r x p in
    let e' = d.only κs a r' x' q in
    (e.result_is ∙ sym e'.result_is, e.exit_is ∙ sym e'.exit_is)
