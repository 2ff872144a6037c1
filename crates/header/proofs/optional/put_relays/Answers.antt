-- `put_relays` meets its contract: the relay written is the one at its place. Assumes nothing.
use Rattle.std.proofs.Common.{arith, length-take, get_or-take}
use Rattle.header.proofs.OptionalFields.{relay_length, relays_more}
use Rattle.header.proofs.optional.put_relays.Goals as goal

pub put_u16-requires : goal.put_u16-requires
put_u16-requires c = grind (arith, relay_length, length-take)

pub loop-j-preserved : goal.loop-j-preserved
loop-j-preserved c = grind (arith, relay_length, relays_more, length-take, get_or-take)
