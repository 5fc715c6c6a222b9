use Rattle.std.proofs.Common.{◌∙◌, ap, ◌++◌, ◌∷◌, []}
use Rattle.cc_host.specs.declared.event.Event.TheVariants.{Dropped}
use Rattle.cc_tool.specs.Files.{contents_of}
use Rattle.cc_tool.proofs.ProbingLemmas.{probes_dropped, probes_last}
use Rattle.cc_tool.proofs.ProbeLemmas.{served_both, source_asked, open_asked, open_dropped}
use Rattle.cc_host.specs.Call.{part}
use Rattle.cc_tool.proofs.UsedLemmas.{part_then, used_parts, used_always, used_since, used_probed}
use Rattle.cc_tool.proofs.probes.ask_both.Goals as goal

pub drop_probe-requires : goal.drop_probe-requires
drop_probe-requires g c =
    let n = c.requires.needs in
    let s = served_both c.args.kinds.source c.args.kinds.object c.args.q.now c.args.files n.1 n.2 c.requires.given c.requires.source c.requires.object in
    let o = open_asked c.args.dir.now c.args.q.now c.args.files c.probe-outcome.ensures.adds.0 c.probe-outcome.result c.requires.open s c.probe-outcome.ensures.adds.1 in
    rw c.as_str.ensures o

pub drop_probe-requires-2 : goal.drop_probe-requires-2
drop_probe-requires-2 g c =
    let n = c.requires.needs in
    let s = served_both c.args.kinds.source c.args.kinds.object c.args.q.now c.args.files n.1 n.2 c.requires.given c.requires.source c.requires.object in
    let p = source_asked c.args.q.now c.args.files c.probe-outcome.ensures.adds.0 c.probe-outcome.result s c.probe-outcome.ensures.adds.1 (c.drop_probe.ensures.adds ∙ ap (λ path. g.H.Host.log c.probe-outcome.new.self ++ Dropped path ∷ []) c.as_str.ensures) in
    rw c.as_str-2.ensures (open_dropped c.requires.open p)

pub returns-clause-probes : goal.returns-clause-probes
returns-clause-probes g c =
    let n = c.requires.needs in
    let s = served_both c.args.kinds.source c.args.kinds.object c.args.q.now c.args.files n.1 n.2 c.requires.given c.requires.source c.requires.object in
    let p = source_asked c.args.q.now c.args.files c.probe-outcome.ensures.adds.0 c.probe-outcome.result s c.probe-outcome.ensures.adds.1 (c.drop_probe.ensures.adds ∙ ap (λ path. g.H.Host.log c.probe-outcome.new.self ++ Dropped path ∷ []) c.as_str.ensures) in
    probes_last p (probes_dropped c.args.files.object (contents_of c.args.kinds.object) [] (c.drop_probe-2.ensures.adds ∙ ap (λ path. g.H.Host.log c.drop_probe.new.self ++ Dropped path ∷ []) c.as_str-2.ensures))

pub returns-clause-used : goal.returns-clause-used
returns-clause-used g c =
    let log = g.H.Host.log in
    let asked = c.probe-outcome.ensures.adds in
    let first = c.drop_probe.ensures.adds in
    let last = c.drop_probe-2.ensures.adds in
    let start = log c.args.host.now in
    let mid = log c.probe-outcome.new.self in
    let after = log c.drop_probe.new.self in
    let end = log c.drop_probe-2.new.self in
    let probed = used_since start mid _ asked.1 (used_probed c.args.q.now c.args.files asked.0 c.probe-outcome.result) in
    let dropped = used_parts start mid after (_, asked.1) (_, first) probed (used_since mid after _ first tt) in
    used_always c.probe-outcome.result (part log c.args.host.now c.drop_probe-2.new.self) (used_parts start after end (part_then start mid after (_, asked.1) (_, first)) (_, last) dropped (used_since after end _ last tt))
