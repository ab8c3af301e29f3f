use Rattle.reading.proofs.Canonical.{draft-written}
use Rattle.reading.proofs.lines.read_process.Goals as goal

pub returns : goal.returns
returns c = record { read = c.read_lines.ensures; writing = draft-written c.args.text.now c.read_lines.result c.read_lines.ensures }
