use Rattle.std.proofs.Common.{◌∙◌, sym, ap, Some, ◌++◌, ◌∷◌, []}
use Rattle.cc_host.specs.declared.event.Event.TheVariants.{Dropped}
use Rattle.cc_tool.specs.Files.{contents_of}
use Rattle.cc_tool.proofs.OpenLemmas.{open_then, open_first}
use Rattle.cc_tool.proofs.ProbingLemmas.{probes_dropped, probes_last, probes_then}
use Rattle.cc_tool.proofs.ProbeLemmas.{left_asked, made_file, made_none}
use Rattle.cc_host.specs.Call.{part}
use Rattle.cc_tool.proofs.UsedLemmas.{part_of, part_then, used_parts, used_last, used_always, used_since, used_unasked}
use Rattle.cc_tool.proofs.probes.ask_object.Goals as goal

pub ask_both-requires-clause-open : goal.ask_both-requires-clause-open
ask_both-requires-clause-open g c κs within =
    let from = (c.args.files.source, contents_of c.args.kinds.source) ∷ [] in
    let p = made_file c.args.kinds.object c.in-Ok-Some.field-0 c.into_path.result (c.in-Ok-Some.field-0-is ∙ ap Some (sym c.into_path.ensures)) (c.in-Ok-Some.ensures.makes from) in
    open_then c.requires.open p

pub drop_probe-requires : goal.drop_probe-requires
drop_probe-requires g c =
    let from = (c.args.files.source, contents_of c.args.kinds.source) ∷ [] in
    let m = made_none c.args.kinds.object c.in-Ok-None.field-0 c.in-Ok-None.field-0-is (c.in-Ok-None.ensures.makes from) in
    let p = left_asked c.args.kinds.source c.args.q.now c.leave-outcome.result c.requires.needs.1 m c.leave-outcome.ensures.adds c.leave-outcome.ensures.unanswered in
    rw c.as_str.ensures (open_first _ c.args.files.source (contents_of c.args.kinds.source) [] (open_then c.requires.open p))

pub drop_probe-requires-in-Err : goal.drop_probe-requires-in-Err
drop_probe-requires-in-Err g c =
    let from = (c.args.files.source, contents_of c.args.kinds.source) ∷ [] in
    rw c.as_str-in-Err.ensures (open_first _ c.args.files.source (contents_of c.args.kinds.source) [] (open_then c.requires.open (c.in-Err.ensures.makes from)))

pub returns-in-Ok-Some-clause-probes : goal.returns-in-Ok-Some-clause-probes
returns-in-Ok-Some-clause-probes g c =
    let from = (c.args.files.source, contents_of c.args.kinds.source) ∷ [] in
    let p = made_file c.args.kinds.object c.in-Ok-Some.field-0 c.into_path.result (c.in-Ok-Some.field-0-is ∙ ap Some (sym c.into_path.ensures)) (c.in-Ok-Some.ensures.makes from) in
    probes_then p c.ask_both.ensures.probes

pub returns-in-Ok-None-clause-probes : goal.returns-in-Ok-None-clause-probes
returns-in-Ok-None-clause-probes g c =
    let from = (c.args.files.source, contents_of c.args.kinds.source) ∷ [] in
    let m = made_none c.args.kinds.object c.in-Ok-None.field-0 c.in-Ok-None.field-0-is (c.in-Ok-None.ensures.makes from) in
    let p = left_asked c.args.kinds.source c.args.q.now c.leave-outcome.result c.requires.needs.1 m c.leave-outcome.ensures.adds c.leave-outcome.ensures.unanswered in
    probes_last p (probes_dropped c.args.files.source (contents_of c.args.kinds.source) [] (c.drop_probe.ensures.adds ∙ ap (λ path. g.H.Host.log c.leave-outcome.new.host ++ Dropped path ∷ []) c.as_str.ensures))

pub returns-in-Err-clause-probes : goal.returns-in-Err-clause-probes
returns-in-Err-clause-probes g c =
    let from = (c.args.files.source, contents_of c.args.kinds.source) ∷ [] in
    probes_last (c.in-Err.ensures.makes from) (probes_dropped c.args.files.source (contents_of c.args.kinds.source) [] (c.drop_probe-in-Err.ensures.adds ∙ ap (λ path. g.H.Host.log c.make_file.new.host ++ Dropped path ∷ []) c.as_str-in-Err.ensures))

pub returns-in-Ok-Some-clause-used : goal.returns-in-Ok-Some-clause-used
returns-in-Ok-Some-clause-used g c = used_last (g.H.Host.log c.args.host.now) (g.H.Host.log c.make_file.new.host) (g.H.Host.log c.ask_both.new.host) c.ask_both.result (part_of (c.in-Ok-Some.ensures.makes [])) (part_of c.ask_both.ensures.probes) c.in-Ok-Some.ensures.used c.ask_both.ensures.used

pub returns-in-Ok-None-clause-used : goal.returns-in-Ok-None-clause-used
returns-in-Ok-None-clause-used g c =
    let log = g.H.Host.log in
    let made = part_of (c.in-Ok-None.ensures.makes []) in
    let left = c.leave-outcome.ensures.adds in
    let drop = c.drop_probe.ensures.adds in
    let start = log c.args.host.now in
    let mid = log c.make_file.new.host in
    let after = log c.leave-outcome.new.host in
    let end = log c.drop_probe.new.self in
    let noted = used_parts start mid after made (_, left) c.in-Ok-None.ensures.used (used_since mid after _ left (used_unasked c.args.q.now c.leave-outcome.result)) in
    used_always c.leave-outcome.result (part log c.args.host.now c.drop_probe.new.self) (used_parts start after end (part_then start mid after made (_, left)) (_, drop) noted (used_since after end _ drop tt))
