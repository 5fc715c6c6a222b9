use Rattle.std.proofs.Common.{◌≡◌, ◌≤◌, true}
use Rattle.std.specs.List.{list_all}
use Rattle.cc_host.specs.Call.{part}
use Rattle.cc_host.specs.Question.{Holds}
use Rattle.cc_tool.specs.Probing.{is_asked}
use Rattle.cc_build.specs.Build.{probes}
use Rattle.cc_build.specs.Kept.{Asking}
use Rattle.cc_fresh.specs.Choice.{AsksForObject, HasReason}
use Rattle.cc_fresh.specs.Reads.{Adds}
use Rattle.cc_fresh.proofs.InTurnLaws.{Going}
use Rattle.cc_fresh.proofs.choice.reasons_of.Given as goal

-- the reasons of the sources so far
abbrev pub invariant-loop-unit : goal.invariant-loop-unit
invariant-loop-unit g l =
    record {
      asks : Asking g.W.World.steady g.W.World.answer (probes l.build) (AsksForObject l.units) g.H.Host.log g.H.Host.patience l.fn.host l.host l.fn.answers l.answers;
      quiet : list_all is_asked (part g.H.Host.log l.fn.host l.host) ≡ true;
      read : Holds l.answers (λ look. Adds (g.F.Files.reads l.fn.files) (g.F.Files.reads l.files) (Going (HasReason l.kept look) l.units l.unit-index l.reasons));
      later : g.F.Files.faults l.fn.files ≤ g.F.Files.faults l.files;
    }
