use Rattle.std.proofs.Common.{◌≡◌, take}
use Rattle.cc_flags.specs.Folders.{in_folders}
use Rattle.cc_flags.proofs.folders.in_folders.Given as goal

abbrev pub invariant-loop-folder : goal.invariant-loop-folder
invariant-loop-folder l = l.paths ≡ in_folders (take l.folder-index l.folders) l.name
