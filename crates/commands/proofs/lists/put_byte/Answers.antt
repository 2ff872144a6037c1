-- `commands::lists::put_byte` meets its contract: a stored byte is a part of length one. Assumes nothing.
use native.Mathlib.Omega.{arith}
use Rattle.octets.proofs.Strings.{set_over}
use Rattle.commands.proofs.lists.put_byte.Goals as goal

pub returns : goal.returns
returns c = set_over c.args.out.now c.args.i c.args.x (omega arith)
