-- `open` meets its contract: opening under the key's round keys is opening under the key. Assumes nothing.
use Rattle.ccm.proofs.RoundKeys.{cipher_is}
use Rattle.frame.proofs.opening.open.Goals as goal

pub returns : goal.returns
returns c =
    let same = cipher_is _ _ c.expand.ensures in
    record {
      answer = rw same at c.open_under.ensures.answer;
      buffer = rw same at c.open_under.ensures.buffer;
    }
