-- Each row was asked about, or one has none.
use Rattle.std.proofs.Common.{◌≡◌, true, false, refl, arith, rules}
use Rattle.std.proofs.lemmas.Iterator.{cases_from_all, YieldsList-from_range}
use Rattle.comparing.specs.Runs.{settled}
use Rattle.comparing.proofs.Rows.{all_settled_same}
use Rattle.comparing.proofs.Runs.all_settled.Goals as goal

pub returns : goal.returns
returns c =
    let s = c.args.self.now in
    all_settled_same s.text.now s.parameters.now s.a s.b s.count s.a_inside s.b_inside _
    (cases_from_all _ _ _ (λ k. settled s.text.now s.parameters.now s.a s.b s.count k ≡ true) (λ k. settled s.text.now s.parameters.now s.a s.b s.count k ≡ false)
    c.all.ensures.ran (YieldsList-from_range 0 s.count s.count refl (omega arith)) (λ x q k. search rules) (λ x q k. search rules))
