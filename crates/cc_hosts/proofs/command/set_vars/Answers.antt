use Rattle.std.proofs.Common.{◌≡◌, ◌∙◌, ◌+◌, ◌-◌, ◌≤◌, ◌<◌, length, take, drop, ap, arith}
use Rattle.std.proofs.lemmas.Grind.{common_steps}
use Rattle.std.proofs.lemmas.List.{take-take}
use Rattle.std.specs.Process.{command_var}
use Rattle.cc_hosts.specs.Child.{value_over}
use Rattle.cc_hosts.proofs.AscendingLemmas.{run_put}
use Rattle.cc_hosts.proofs.command.set_vars.Goals as goal

pub loop-start-preserved : goal.loop-start-preserved
loop-start-preserved c =
    let vars = c.as_slice-pairs.result.now in
    let start = c.loop-start.start in
    let count = c.ascending-count.result in
    let test : start < length vars = grind (arith, c.loop-start-test.true) in
    let within : start + count ≤ length vars = grind (arith, common_steps, c.ascending-count.ensures.within) in
    let few : count ≤ length vars - start = omega (arith, within) in
    let run : take count (take (length vars - start) (drop start vars)) ≡ take count (drop start vars) = take-take count (length vars - start) (drop start vars) few in
    record {
      within = within;
      vars = run_put vars start count (command_var c.loop-start.child) (command_var c.set_ascending.new.child) c.loop-start.invariant.vars
          (λ name. c.in_ok-set_ascending.ensures.vars name ∙ ap (λ l. value_over l (command_var c.loop-start.child) name) run);
      clears = c.in_ok-set_ascending.ensures.clears ∙ c.loop-start.invariant.clears;
      call = (c.in_ok-set_ascending.ensures.call.0 ∙ c.loop-start.invariant.call.0, c.in_ok-set_ascending.ensures.call.1 ∙ c.loop-start.invariant.call.1);
      dir = c.in_ok-set_ascending.ensures.dir ∙ c.loop-start.invariant.dir;
    }
