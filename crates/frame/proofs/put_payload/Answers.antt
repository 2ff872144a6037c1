-- `put_payload` meets its contract. Assumes nothing.
use lib.ListN.{length-set}
use Rattle.frame.proofs.Payloads.{copy_more}
use Rattle.frame.proofs.put_payload.Goals as goal

pub loop-k-preserved : goal.loop-k-preserved
loop-k-preserved c =
    let a = c.args in
    let l = c.loop-k in (
      simp length-set l.invariant.0,
      rw l.invariant.1 (copy_more a.out.now a.payload.now a.i l.k c.requires c.loop-k-test.true),
    )
