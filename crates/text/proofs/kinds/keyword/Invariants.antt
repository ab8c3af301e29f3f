use Rattle.std.proofs.Common.{◌≡◌, drop}
use Rattle.text.specs.Words.{spelled_by, spelling, all_keywords}
use Rattle.text.proofs.kinds.keyword.Given as goal

abbrev pub invariant-loop-keyword : goal.invariant-loop-keyword
invariant-loop-keyword l = spelled_by spelling (drop l.keyword-index all_keywords) l.bytes ≡ spelled_by spelling all_keywords l.bytes
