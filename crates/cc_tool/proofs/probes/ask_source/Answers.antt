use Rattle.std.proofs.Common.{◌∙◌, ap, ◌++◌, ◌∷◌, []}
use Rattle.cc_host.specs.declared.event.Event.TheVariants.{Dropped}
use Rattle.cc_tool.proofs.ProbeLemmas.{served_source, source_asked, open_asked}
use Rattle.cc_host.specs.Call.{part}
use Rattle.cc_tool.proofs.UsedLemmas.{used_parts, used_always, used_since, used_probed}
use Rattle.cc_tool.proofs.probes.ask_source.Goals as goal

pub drop_probe-requires : goal.drop_probe-requires
drop_probe-requires g c =
    let n = c.requires.needs in
    let s = served_source c.args.kind c.args.q.now c.args.files n.1 n.2 c.requires.given.0 c.requires.given.1 c.requires.named in
    let o = open_asked c.args.dir.now c.args.q.now c.args.files c.probe-outcome.ensures.adds.0 c.probe-outcome.result c.requires.open s c.probe-outcome.ensures.adds.1 in
    rw c.as_str.ensures o

pub returns-clause-probes : goal.returns-clause-probes
returns-clause-probes g c =
    let n = c.requires.needs in
    let s = served_source c.args.kind c.args.q.now c.args.files n.1 n.2 c.requires.given.0 c.requires.given.1 c.requires.named in
    source_asked c.args.q.now c.args.files c.probe-outcome.ensures.adds.0 c.probe-outcome.result s c.probe-outcome.ensures.adds.1 (c.drop_probe.ensures.adds ∙ ap (λ path. g.H.Host.log c.probe-outcome.new.self ++ Dropped path ∷ []) c.as_str.ensures)

pub returns-clause-used : goal.returns-clause-used
returns-clause-used g c =
    let log = g.H.Host.log in
    let asked = c.probe-outcome.ensures.adds in
    let start = log c.args.host.now in
    let mid = log c.probe-outcome.new.self in
    let end = log c.drop_probe.new.self in
    let probed = used_since start mid _ asked.1 (used_probed c.args.q.now c.args.files asked.0 c.probe-outcome.result) in
    used_always c.probe-outcome.result (part log c.args.host.now c.drop_probe.new.self) (used_parts start mid end (_, asked.1) (_, c.drop_probe.ensures.adds) probed (used_since mid end _ c.drop_probe.ensures.adds tt))
