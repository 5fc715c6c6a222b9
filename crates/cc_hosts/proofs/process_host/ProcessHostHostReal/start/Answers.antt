use Rattle.std.proofs.Common.{rules, append-nil, ap, sym, subst, ◌∙◌, ◌≡◌, [], ◌++◌}
use Rattle.cc_host.specs.ChildLog.{ChildLogSeen}
use Rattle.cc_host.specs.Children.{IsFresh}
use Rattle.cc_host.specs.Event.{started}
use Rattle.cc_host.specs.declared.event.Start.TheVariants.{Child}
use Rattle.cc_hosts.specs.HostSeen.{HostSeen}
use Rattle.cc_hosts.proofs.process_host.ProcessHostHostReal.start.Goals as goal

pub returns-in_err-begin-clause-adds : goal.returns-in_err-begin-clause-adds
returns-in_err-begin-clause-adds g c =
    let none : started c.args.role c.args.cmd.now c.args.pipes c.args.held c.from_residual-in_err-begin.result ≡ [] = search rules in
    ap (λ (s : ChildLogSeen). s.log) c.reserve_child.ensures.same ∙ ap (λ (h : HostSeen). h.log) c.self.view_is ∙ sym (append-nil c.args.self.now.log) ∙ ap (λ l. c.args.self.now.log ++ l) (sym none)

pub returns-in-Child-clause-fresh : goal.returns-in-Child-clause-fresh
returns-in-Child-clause-fresh g c = subst (λ l. IsFresh l (Child c.note_child-id.result)) (ap (λ (s : ChildLogSeen). s.log) c.reserve_child.ensures.same ∙ ap (λ (h : HostSeen). h.log) c.self.view_is) c.note_child-id.ensures.fresh
