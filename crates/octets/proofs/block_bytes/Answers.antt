-- `octets::block_bytes` meets its contract: word by word. Assumes nothing.
use Rattle.octets.specs.Numbers.{le, bytes_of}
use Rattle.octets.proofs.block_bytes.Goals as goal

pub returns : goal.returns
unfolding bytes_of le
returns c = rw (c.bytes_of-a.ensures, c.bytes_of-b.ensures, c.bytes_of-c.ensures, c.bytes_of-d.ensures)
