-- `put_shrunk` meets its contract: the records before the senders, and then one sender's behind the other. Assumes nothing.
use Rattle.std.proofs.Common.{arith}
use Rattle.senders.specs.Records.{free_record}
use Rattle.journal.proofs.ShrunkBytes.{first_put, first_next, first_within}
use Rattle.journal.proofs.shrunk.put_shrunk.Goals as goal

pub loop-r-init : goal.loop-r-init
loop-r-init c =
    let p = first_put c.args.found c.args.senders.now c.args.out.now _ _ _ _ _ _ c.key_number_record.ensures c.ceiling_record.ensures
    c.put_some-behind.ensures.place c.put_some-behind.ensures.out c.put_some-at.ensures.place c.put_some-at.ensures.out in
    record { place = p.0; out = p.1 }

pub put-at-requires : goal.put-at-requires
put-at-requires c =
    let l = c.loop-r in
    omega (arith, l.invariant.place, c.requires, first_within c.args.found c.args.senders.now l.r-index c.loop-r-test.true free_record, l.auto.out)

pub loop-r-preserved : goal.loop-r-preserved
loop-r-preserved c =
    let l = c.loop-r in
    let p = first_next c.args.found c.args.senders.now l.r-index c.loop-r-test.true free_record c.args.out.now l.out _ l.at _
    l.invariant.place l.invariant.out c.put-at.ensures.place c.put-at.ensures.out in
    record { place = p.0; out = p.1 }
