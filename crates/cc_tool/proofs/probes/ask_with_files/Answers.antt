use Rattle.std.proofs.Common.{◌∙◌, sym, ap, Some, [], rules}
use Rattle.cc_tool.proofs.OpenLemmas.{open_none, open_then}
use Rattle.cc_tool.proofs.ProbingLemmas.{probes_then}
use Rattle.cc_tool.proofs.ProbeLemmas.{left_asked, made_file, made_none}
use Rattle.cc_host.specs.Call.{part}
use Rattle.cc_tool.proofs.UsedLemmas.{part_of, used_parts, used_last, used_always, used_since, used_unasked}
use Rattle.cc_tool.proofs.probes.ask_with_files.Goals as goal

pub ask_object-requires-clause-open : goal.ask_object-requires-clause-open
ask_object-requires-clause-open g c κs within =
    let p = made_file c.args.kind c.in_ok-make_source.field-0 c.into_path.result (c.in-Some.is ∙ ap Some (sym c.into_path.ensures)) (c.in_ok-make_source.ensures.makes []) in
    open_then (open_none _ c.log-tidy.ensures.tidy) p

pub ask_source-requires-clause-open : goal.ask_source-requires-clause-open
ask_source-requires-clause-open g c κs within =
    let p = made_file c.args.kind c.in_ok-make_source.field-0 c.into_path.result (c.in-Some.is ∙ ap Some (sym c.into_path.ensures)) (c.in_ok-make_source.ensures.makes []) in
    open_then (open_none _ c.log-tidy.ensures.tidy) p

pub returns-in-None-clause-probes : goal.returns-in-None-clause-probes
returns-in-None-clause-probes g c =
    let m = made_none c.args.kind c.in_ok-make_source.field-0 c.in-None.is (c.in_ok-make_source.ensures.makes []) in
    left_asked c.args.kind c.args.q.now c.leave.result c.requires.needs m c.leave.ensures.adds c.leave.ensures.unanswered

pub returns-in-Some-object_of-clause-probes : goal.returns-in-Some-object_of-clause-probes
returns-in-Some-object_of-clause-probes g c =
    let p = made_file c.args.kind c.in_ok-make_source.field-0 c.into_path.result (c.in-Some.is ∙ ap Some (sym c.into_path.ensures)) (c.in_ok-make_source.ensures.makes []) in
    probes_then p c.ask_object.ensures.probes

pub returns-in-None-object_of-clause-probes : goal.returns-in-None-object_of-clause-probes
returns-in-None-object_of-clause-probes g c =
    let p = made_file c.args.kind c.in_ok-make_source.field-0 c.into_path.result (c.in-Some.is ∙ ap Some (sym c.into_path.ensures)) (c.in_ok-make_source.ensures.makes []) in
    probes_then p c.ask_source.ensures.probes

pub returns-in_err-make_source-clause-probes : goal.returns-in_err-make_source-clause-probes
returns-in_err-make_source-clause-probes g c = let p = c.in_err-make_source.ensures.makes [] in search (rules, p)

pub returns-in-None-clause-used : goal.returns-in-None-clause-used
returns-in-None-clause-used g c =
    let log = g.H.Host.log in
    let left = c.leave.ensures.adds in
    used_always c.leave.result (part log c.args.host.now c.leave.new.host) (used_parts _ (log c.make_source.new.host) (log c.leave.new.host) (part_of (c.in_ok-make_source.ensures.makes [])) (_, left) c.in_ok-make_source.ensures.used (used_since (log c.make_source.new.host) (log c.leave.new.host) _ left (used_unasked c.args.q.now c.leave.result)))

pub returns-in-Some-object_of-clause-used : goal.returns-in-Some-object_of-clause-used
returns-in-Some-object_of-clause-used g c = used_last _ (g.H.Host.log c.make_source.new.host) (g.H.Host.log c.ask_object.new.host) c.ask_object.result (part_of (c.in_ok-make_source.ensures.makes [])) (part_of c.ask_object.ensures.probes) c.in_ok-make_source.ensures.used c.ask_object.ensures.used

pub returns-in-None-object_of-clause-used : goal.returns-in-None-object_of-clause-used
returns-in-None-object_of-clause-used g c = used_last _ (g.H.Host.log c.make_source.new.host) (g.H.Host.log c.ask_source.new.host) c.ask_source.result (part_of (c.in_ok-make_source.ensures.makes [])) (part_of c.ask_source.ensures.probes) c.in_ok-make_source.ensures.used c.ask_source.ensures.used
