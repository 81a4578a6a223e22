-- The letters up to there leave it to those behind them.
use Rattle.std.proofs.Common.{◌≡◌, length, drop}
use Rattle.sifting.specs.Orders.{key_order}
use Rattle.sifting.proofs.key_order.Given as goal

abbrev pub invariant-loop-x : goal.invariant-loop-x
invariant-loop-x l = key_order (drop (length l.yielded) l.a) (drop (length l.yielded) l.b) ≡ key_order l.a l.b
