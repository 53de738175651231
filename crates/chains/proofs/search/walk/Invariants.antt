use Rattle.chains.specs.LastChain.{OnLastChain}
use Rattle.chains.proofs.search.walk.Given as goal

abbrev pub invariant-loop-j : goal.invariant-loop-j
invariant-loop-j l = OnLastChain l.rows.layout l.rows.file.now l.rows.spans.now l.start l.sought.spans.now l.sought.line.now l.link

abbrev pub decreases-loop-j : goal.decreases-loop-j
decreases-loop-j l = l.link
