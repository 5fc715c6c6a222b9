use Rattle.std.proofs.Common.{Some, Ok, Err, refl}
use Rattle.cc_host.specs.Part.{since}
use Rattle.cc_build.specs.Went.{terms, means, alone_rules, begins, turns_at}
use Rattle.cc_build.proofs.Running.{ran_one, list_extends, list_patient, list_asks_none, list_sum}
use Rattle.cc_fleet.proofs.RunLemmas.{lone_after}
use Rattle.cc_fleet.proofs.run.run_lone.Goals as goal

pub returns-in-Ok-clause-ran : goal.returns-in-Ok-clause-ran
returns-in-Ok-clause-ran g c = λ total faults taken load.
    let t = terms c.args.shows.now total (g.H.Host.patience c.args.host.now) in
    let old = g.H.Host.log c.args.host.now in
    let new = g.H.Host.log c.run_one.new.host in
    let x = means c.args.turns.now.left faults taken load in
    let y = means c.run_one.new.turns.left faults taken load in
    let ran = c.in-Ok.ensures.ran in
    lone_after t c.args.cmd.now c.args.joined.now (Ok tt) c.failures_by.result (since old new) x y
    (ran_one t c.args.cmd.now old new (g.H.Host.patience c.run_one.new.host) x y c.args.turns.now.used c.run_one.new.turns.used (Ok tt) ran.0 ran.1 (ran.2.0, ran.2.1) c.log-least.ensures.least ran.2.2 c.in-Ok.ensures.lines (refl, refl, refl))
    c.failures_by.ensures

pub returns-in-Ok-clause-aside : goal.returns-in-Ok-clause-aside
returns-in-Ok-clause-aside g c =
    let t = terms c.args.shows.now (Some 1) (g.H.Host.patience c.args.host.now) in
    let x = means c.args.turns.now.left 0 0 0 in
    let y = means c.run_one.new.turns.left 0 0 0 in
    let ran = c.in-Ok.ensures.ran in
    let old = begins t (g.H.Host.log c.args.host.now) ran.0 (turns_at x c.args.turns.now.used) in
    record {
      patient = list_patient (alone_rules t c.args.cmd.now) (Some 1) old (Ok tt) (g.H.Host.log c.run_one.new.host) (g.H.Host.patience c.run_one.new.host) ran.1 (turns_at y c.run_one.new.turns.used) ran.2.2;
      extends = list_extends (alone_rules t c.args.cmd.now) (Some 1) old (Ok tt) (g.H.Host.log c.run_one.new.host) (g.H.Host.patience c.run_one.new.host) ran.1 (turns_at y c.run_one.new.turns.used) ran.2.2;
      asks_none = list_asks_none (alone_rules t c.args.cmd.now) (Some 1) old (Ok tt) (g.H.Host.log c.run_one.new.host) (g.H.Host.patience c.run_one.new.host) ran.1 (turns_at y c.run_one.new.turns.used) ran.2.2;
    }

pub returns-in-Ok-clause-sum : goal.returns-in-Ok-clause-sum
returns-in-Ok-clause-sum g c =
    let t = terms c.args.shows.now (Some 1) (g.H.Host.patience c.args.host.now) in
    let x = means c.args.turns.now.left 0 0 0 in
    let y = means c.run_one.new.turns.left 0 0 0 in
    let ran = c.in-Ok.ensures.ran in
    list_sum (alone_rules t c.args.cmd.now) (Some 1) (begins t (g.H.Host.log c.args.host.now) ran.0 (turns_at x c.args.turns.now.used)) (Ok tt) (g.H.Host.log c.run_one.new.host) (g.H.Host.patience c.run_one.new.host) ran.1 (turns_at y c.run_one.new.turns.used) ran.2.2

pub returns-in-Err-clause-ran : goal.returns-in-Err-clause-ran
returns-in-Err-clause-ran g c = λ total faults taken load.
    let t = terms c.args.shows.now total (g.H.Host.patience c.args.host.now) in
    let old = g.H.Host.log c.args.host.now in
    let new = g.H.Host.log c.run_one.new.host in
    let x = means c.args.turns.now.left faults taken load in
    let y = means c.run_one.new.turns.left faults taken load in
    let ran = c.in-Err.ensures.ran in
    lone_after t c.args.cmd.now c.args.joined.now (Err c.in-Err.e) c.failures_alone.result (since old new) x y
    (ran_one t c.args.cmd.now old new (g.H.Host.patience c.run_one.new.host) x y c.args.turns.now.used c.run_one.new.turns.used (Err c.in-Err.e) ran.0 ran.1 (ran.2.0, ran.2.1) c.log-least.ensures.least ran.2.2 c.in-Err.ensures.lines (refl, refl, refl))
    c.failures_alone.ensures

pub returns-in-Err-clause-aside : goal.returns-in-Err-clause-aside
returns-in-Err-clause-aside g c =
    let t = terms c.args.shows.now (Some 1) (g.H.Host.patience c.args.host.now) in
    let x = means c.args.turns.now.left 0 0 0 in
    let y = means c.run_one.new.turns.left 0 0 0 in
    let ran = c.in-Err.ensures.ran in
    let old = begins t (g.H.Host.log c.args.host.now) ran.0 (turns_at x c.args.turns.now.used) in
    record {
      patient = list_patient (alone_rules t c.args.cmd.now) (Some 1) old (Err c.in-Err.e) (g.H.Host.log c.run_one.new.host) (g.H.Host.patience c.run_one.new.host) ran.1 (turns_at y c.run_one.new.turns.used) ran.2.2;
      extends = list_extends (alone_rules t c.args.cmd.now) (Some 1) old (Err c.in-Err.e) (g.H.Host.log c.run_one.new.host) (g.H.Host.patience c.run_one.new.host) ran.1 (turns_at y c.run_one.new.turns.used) ran.2.2;
      asks_none = list_asks_none (alone_rules t c.args.cmd.now) (Some 1) old (Err c.in-Err.e) (g.H.Host.log c.run_one.new.host) (g.H.Host.patience c.run_one.new.host) ran.1 (turns_at y c.run_one.new.turns.used) ran.2.2;
    }

pub returns-in-Err-clause-sum : goal.returns-in-Err-clause-sum
returns-in-Err-clause-sum g c =
    let t = terms c.args.shows.now (Some 1) (g.H.Host.patience c.args.host.now) in
    let x = means c.args.turns.now.left 0 0 0 in
    let y = means c.run_one.new.turns.left 0 0 0 in
    let ran = c.in-Err.ensures.ran in
    list_sum (alone_rules t c.args.cmd.now) (Some 1) (begins t (g.H.Host.log c.args.host.now) ran.0 (turns_at x c.args.turns.now.used)) (Err c.in-Err.e) (g.H.Host.log c.run_one.new.host) (g.H.Host.patience c.run_one.new.host) ran.1 (turns_at y c.run_one.new.turns.used) ran.2.2
