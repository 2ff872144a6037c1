-- `command_reader::from_bytes` meets its contract: above 108 bytes the refusal, else the typed command with its list, else all
-- the bytes. Assumes nothing.
use native.Mathlib.Omega.{arith}
use Rattle.commands.specs.Reading.{parsed}
use Rattle.commands.proofs.RoundTrip.{read_accepts, read_refuses}
use Rattle.command_reader.proofs.from_bytes.Goals as goal

pub returns-then-s-gt-MAX_NSDU_SIZE : goal.returns-then-s-gt-MAX_NSDU_SIZE
returns-then-s-gt-MAX_NSDU_SIZE c = rw (read_refuses c.args.s.now (omega arith))

pub returns-in_default : goal.returns-in_default
unfolding parsed
returns-in_default c = rw (c.keep_unparsed.ensures, read_accepts c.args.s.now (omega arith), ← c.try_parse.ensures, c.in_default.is)

pub returns : goal.returns
unfolding parsed
returns c = rw (c.with_list.ensures, read_accepts c.args.s.now (omega arith), ← c.try_parse.ensures, c.in-Some.is)
