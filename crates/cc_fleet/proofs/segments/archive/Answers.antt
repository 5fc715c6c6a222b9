use Rattle.std.proofs.lemmas.Result.{err_from_is_err_and}
use Rattle.cc_host.specs.Part.{since}
use Rattle.cc_host.proofs.Parts.{since_since}
use Rattle.cc_fleet.specs.Fleet.{member_seen, site}
use Rattle.cc_fleet.proofs.EndLemmas.{segment_refused, segment_linked, links_still, left_behind}
use Rattle.cc_fleet.proofs.segments.archive.Goals as goal

pub returns-in_err-library-clause-segment : goal.returns-in_err-library-clause-segment
returns-in_err-library-clause-segment g c =
    let s = site g.W.World.steady g.W.World.answer (g.H.Host.patience c.args.host.now) in
    let made = since (g.H.Host.log c.args.host.now) (g.H.Host.log c.create_archive.new.host) in
    let p = err_from_is_err_and c.from_residual.result c.from_residual.ensures.1 in
    rw (p.1, p.2)
    (segment_refused s (member_seen c.args.member.now) (g.H.Host.listens c.args.host.now) c.args.objects.now c.as_str-output.result.now c.requires.objects c.as_str-output.ensures c.args.left.now made c.create_archive.ensures.asked
    c.in_err-library.field-0.0 c.in_err-library.ensures.outcome)

pub returns-clause-segment : goal.returns-clause-segment
returns-clause-segment g c =
    let s = site g.W.World.steady g.W.World.answer (g.H.Host.patience c.args.host.now) in
    let old = g.H.Host.log c.args.host.now in
    let mid = g.H.Host.log c.create_archive.new.host in
    let new = g.H.Host.log c.emit_link_directives.new.host in
    segment_linked s (member_seen c.args.member.now) (g.H.Host.listens c.args.host.now) c.args.objects.now c.as_str-output.result.now c.requires.objects c.as_str-output.ensures c.args.left.now (since old mid) c.create_archive.ensures.asked
    c.in_ok-library.library c.as_str.result.now c.listens-listens.result c.emit_link_directives.result (since mid new) (since old new) c.in_ok-library.ensures.outcome c.in_ok-library.ensures.library
    (since_since old mid new c.create_archive.ensures.extends c.emit_link_directives.ensures.extends) c.as_str.ensures c.listens-listens.ensures c.emit_link_directives.ensures.asked c.emit_link_directives.ensures.outcome

pub returns-clause-sum : goal.returns-clause-sum
returns-clause-sum g c =
    let s = site g.W.World.steady g.W.World.answer (g.H.Host.patience c.args.host.now) in
    let old = g.H.Host.log c.args.host.now in
    let mid = g.H.Host.log c.create_archive.new.host in
    let new = g.H.Host.log c.emit_link_directives.new.host in
    left_behind old mid new c.create_archive.new.left c.args.left.now c.create_archive.ensures.extends c.emit_link_directives.ensures.extends c.create_archive.ensures.sum
    (links_still s (member_seen c.args.member.now) c.listens-listens.result c.as_str.result.now c.emit_link_directives.result (since mid new) c.emit_link_directives.ensures.asked c.emit_link_directives.ensures.outcome)
