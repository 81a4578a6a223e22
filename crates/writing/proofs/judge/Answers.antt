-- `writing::judge`: a broken row, or one that cannot be written, is told.
use borrow.Author.Rules.{rules}
use mathlib.Core.Path.{◌≡◌, sym, ap, ◌∙◌}
use Rattle.std.specs.Prelude.{None}
use Rattle.std.proofs.lemmas.Result.{err_from_is_err_and}
use Rattle.octets.specs.Answers.{bad_table, output}
use Rattle.tables.specs.Lent.{held, broken_in}
use Rattle.tables.specs.declared.Tables.{Tables}
use Rattle.writing.proofs.Answers.{row_refused, unfit_refused, mapped_err, mapped_ok}
use Rattle.writing.proofs.judge.Goals as goal

pub returns-in_err-checked : goal.returns-in_err-checked
returns-in_err-checked c =
    let told = mapped_err _ _ _ c.check.result c.map_err.ensures.cases c.check.ensures c.in_err-checked.was in
    let p = err_from_is_err_and c.from_residual.result c.from_residual.ensures.1 in
    let e : c.in_err-checked.field-0.0 ≡ output bad_table told.0 0 = let q = told.2 in search rules in
    rw (p.1, p.2) (row_refused (held c.args.tables.now) told.1 e)

pub returns-in_err-judge : goal.returns-in_err-judge
returns-in_err-judge c =
    let same = mapped_ok _ _ _ c.check.result c.map_err.ensures.cases c.check.ensures c.in_ok-checked.was in
    let p = err_from_is_err_and c.from_residual-in_err-judge.result c.from_residual-in_err-judge.ensures.1 in
    let none : broken_in (held c.args.tables.now) ≡ None = sym (ap (λ (t : Tables). broken_in (held t)) same) ∙ c.in_ok-checked.checked.meets in
    rw p.1 (unfit_refused (held c.args.tables.now) none (sym c.judge.ensures ∙ c.in_err-judge.was) p.2)
