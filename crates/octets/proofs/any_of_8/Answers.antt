use Rattle.std.proofs.Common.{arith}
use Rattle.octets.specs.Bytes.{other}
use Rattle.octets.proofs.Numbers.{any_mark}
use Rattle.octets.proofs.any_of_8.Goals as goal

pub returns : goal.returns
returns c = any_mark (other c.args.b) c.args.a.now c.args.at (omega arith) c.marks_of.result c.marks_of.ensures
