-- The loop's invariant: S_1 to S_i stand at the front. Assumes nothing.
use mathlib.Core.Path.{◌≡◌}
use Rattle.octets.specs.Strings.{over}
use Rattle.aes.specs.Cipher.{cipher}
use Rattle.ccm.specs.Counters.{key_stream}
use Rattle.ccm.proofs.counter.key_stream.Given as goal

abbrev pub invariant-loop-i : goal.invariant-loop-i
invariant-loop-i l = l.stream ≡ over l.initial.stream 0 (key_stream (cipher l.keys) l.nonce l.i).bytes
