use Rattle.std.proofs.Common.{◌≡◌, ◌+◌, length, drop}
use Rattle.process.specs.Drafts.{number_of}
use Rattle.text.specs.Pieces.{pieces}
use Rattle.reading.specs.Lines.{later_lines}
use Rattle.reading.specs.Readings.{sofar}
use Rattle.reading.proofs.lines.later_lines.Given as goal

abbrev pub invariant-loop-index : goal.invariant-loop-index
invariant-loop-index l =
    (later_lines (length l.yielded + 2) (sofar l.draft) (drop (length l.yielded) (pieces 10 l.lines)) ≡ later_lines 2 (sofar l.initial.draft) (pieces 10 l.lines))
    × (number_of l.draft ≡ number_of l.initial.draft)
