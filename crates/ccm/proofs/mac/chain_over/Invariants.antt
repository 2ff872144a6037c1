-- The loop's invariant: the words are those of Y_i. Assumes nothing.
use mathlib.Core.Path.{◌≡◌}
use Rattle.octets.specs.Numbers.{bytes_of}
use Rattle.aes.specs.Cipher.{cipher}
use Rattle.ccm.specs.Formatting.{block_at}
use Rattle.ccm.specs.Mac.{chain}
use Rattle.ccm.proofs.mac.chain_over.Given as goal

abbrev pub invariant-loop-i : goal.invariant-loop-i
invariant-loop-i l = bytes_of l.y ≡ (chain (cipher l.keys) (block_at l.formatted) l.i).block
