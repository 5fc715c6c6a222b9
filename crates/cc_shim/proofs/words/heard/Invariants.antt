use Rattle.std.proofs.Common.{◌≡◌, ◌++◌, take, flat_map}
use Rattle.cc_shim.specs.Shim.{lines_asked, text_asked}
use Rattle.cc_shim.proofs.words.heard.Given as goal

abbrev pub invariant-loop-word : goal.invariant-loop-word
invariant-loop-word l = l.text ≡ flat_map lines_asked (take l.word-index l.words)

abbrev pub invariant-loop-said : goal.invariant-loop-said
invariant-loop-said l = l.text ≡ flat_map lines_asked l.words ++ flat_map text_asked (take l.said-index l.words)
