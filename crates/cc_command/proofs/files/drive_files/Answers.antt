use Rattle.std.proofs.Common.{length, map, take, drop, ◌-◌, string_bytes}
use Rattle.cc_host.specs.Part.{since}
use Rattle.cc_build.specs.Course.{course}
use Rattle.cc_build.specs.Went.{means}
use Rattle.cc_command.specs.Graphed.{shelf, file_of}
use Rattle.cc_command.proofs.GraphedLaws.{graph_words, graph_promises}
use Rattle.cc_command.proofs.files.drive_files.Goals as goal

pub returns-in-len1-up-clause-graphs : goal.returns-in-len1-up-clause-graphs
returns-in-len1-up-clause-graphs g c =
    let run = c.graph_job.ensures.answer in
    let before = means c.args.turns (g.J.Jobs.faults c.args.seat.now) (g.J.Jobs.taken c.args.seat.now) (g.J.Jobs.load c.args.seat.now) in
    let after = means run.0 (g.J.Jobs.faults c.graph_job.new.seat) (g.J.Jobs.taken c.graph_job.new.seat) (g.J.Jobs.load c.graph_job.new.seat) in
    graph_words c.args.words.now _ c.in-len1-up.len_at_least (
      run.0,
      graph_promises (g.H.Host.listens c.args.host.now) (file_of (map string_bytes (take (length c.args.words.now - 1) (drop 1 c.args.words.now)))) (shelf g.F.Files.reads g.F.Files.faults c.args.files.now) (shelf g.F.Files.reads g.F.Files.faults c.graph_job.new.files) c.graph_job.result (since (g.H.Host.log c.args.host.now) (g.H.Host.log c.graph_job.new.host)) (course (g.J.Jobs.total c.args.seat.now) (g.H.Host.patience c.args.host.now) before after) run.1,
    )
