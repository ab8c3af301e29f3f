use Rattle.std.proofs.Common.{sym, ap, ◌∙◌}
use Rattle.std.specs.Str.{bytes_eq}
use Rattle.text.specs.declared.words.Keyword.TheVariants.{Process}
use Rattle.text.specs.Words.{spelling, keyword_of, all_keywords}
use Rattle.text.proofs.Spellings.{spelled-more, spelled-here, spelled_none}
use Rattle.text.proofs.kinds.keyword.Goals as goal

pub returns-then-eq : goal.returns-then-eq
unfolding keyword_of
returns-then-eq c = spelled-here spelling all_keywords c.args.bytes.now c.loop-keyword.keyword-index c.loop-keyword.invariant Process c.loop-keyword-test.true (ap (bytes_eq c.args.bytes.now) (sym c.spelling.ensures) ∙ sym c.eq.ensures ∙ c.if-eq.true)

pub loop-keyword-preserved : goal.loop-keyword-preserved
loop-keyword-preserved c = spelled-more spelling all_keywords c.args.bytes.now c.loop-keyword.keyword-index c.loop-keyword.invariant Process c.loop-keyword-test.true (ap (bytes_eq c.args.bytes.now) (sym c.spelling.ensures) ∙ sym c.eq.ensures ∙ c.if-eq.false)

pub returns : goal.returns
unfolding keyword_of
returns c = spelled_none spelling all_keywords c.args.bytes.now c.loop-keyword.keyword-index c.loop-keyword.invariant c.loop-keyword-test.false
