use Rattle.cc_tool.proofs.PlacesLemmas.{NoneAt}
use Rattle.cc_tool.proofs.entries.Entries.find_among.Given as goal

abbrev pub invariant-loop-place : goal.invariant-loop-place
invariant-loop-place l = NoneAt l.self.items l.place-items l.place-index l.key.question.now
