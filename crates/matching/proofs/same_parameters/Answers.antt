-- `matching::same_parameters`: both have as many rows, and these are compared as runs.
use mathlib.Core.Path.{sym, ◌∙◌}
use native.Mathlib.Omega.{arith}
use Rattle.matching.proofs.Parameters.{rows_there, other_count, no_rows, as_runs}
use Rattle.matching.proofs.same_parameters.Goals as goal

pub returns-then-run_of-count : goal.returns-then-run_of-count
returns-then-run_of-count c =
    let t = c.args.tables.now in
    other_count t.parameters.now t.text.now c.args.a c.args.b (λ e. omega (arith, c.run_of.ensures, c.run_of-count.ensures, c.if-run_of-count.true))

pub returns-then-count-eq0 : goal.returns-then-count-eq0
returns-then-count-eq0 c =
    let t = c.args.tables.now in
    no_rows t.parameters.now t.text.now c.args.a c.args.b c.run_of-count.ensures (sym c.run_of.ensures ∙ c.if-run_of-count.false) c.if-count-eq0.true

pub invariant_of-runs : goal.invariant_of-runs
invariant_of-runs c =
    let words = c.args.tables.now.parameters.now in
    record {
      a_inside = rows_there words c.args.a c.run_of-count.ensures (omega arith);
      b_inside = rows_there words c.args.b (sym c.if-run_of-count.false ∙ c.run_of.ensures) (omega arith);
    }

pub returns : goal.returns
returns c =
    let t = c.args.tables.now in
    c.same_runs.ensures
    ∙ as_runs t.parameters.now t.text.now c.args.a c.args.b c.run_of-count.ensures (sym c.run_of.ensures ∙ c.if-run_of-count.false)
