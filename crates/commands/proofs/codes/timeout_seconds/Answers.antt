-- `commands::codes::timeout_seconds` meets its contract: the answer goes by the code's value (`seconds_by_lem`). Assumes nothing.
use Rattle.std.proofs.lemmas.Result.{err_from_is_err_and}
use Rattle.commands.proofs.CodeLaws.{seconds_by_lem}
use Rattle.commands.proofs.codes.timeout_seconds.Goals as goal

pub returns-in_err-try_from : goal.returns-in_err-try_from
returns-in_err-try_from c =
    let p = err_from_is_err_and c.from_residual.result c.from_residual.ensures.1 in
    rw (← seconds_by_lem c.args.code, ← c.in_err-try_from.ensures.0, p.1, p.2, c.in_err-try_from.ensures.1)

pub returns : goal.returns
returns c = rw (← seconds_by_lem c.args.code, ← c.in_ok-try_from.ensures.0, c.duration.ensures)
