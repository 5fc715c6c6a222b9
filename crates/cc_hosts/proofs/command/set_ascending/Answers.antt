use Rattle.std.proofs.Common.{◌≡◌, ℕ, ◌+◌, ◌-◌, ◌<◌, List, length, drop, get_or, sym, ap, ◌∙◌, arith}
use Rattle.std.specs.Process.{command_var}
use Rattle.cc_hosts.specs.Child.{value_over}
use Rattle.cc_hosts.proofs.AscendingLemmas.{put_before}
use Rattle.cc_hosts.proofs.command.set_ascending.Goals as goal

pub loop-left-preserved : goal.loop-left-preserved
loop-left-preserved c =
    let vars = c.args.vars.now in
    let left = c.loop-left.left in
    let pair = c.index-vars-left.result in
    let init = command_var c.args.child.now in
    let some : 0 < left = grind (arith, c.loop-left-test.true) in
    let within : left - 1 < length vars = grind (arith, c.loop-left.invariant.within) in
    let is : pair ≡ get_or vars (left - 1) pair = grind (arith, c.index-vars-left.is) in
    let next : left - 1 + 1 ≡ left = omega arith in
    let before : (name : List ℕ) → command_var c.loop-left.child name ≡ value_over (drop (left - 1 + 1) vars) init name = λ name. c.loop-left.invariant.vars name ∙ ap (λ n. value_over (drop n vars) init name) (sym next) in
    record {
      within = omega (arith, within);
      vars = put_before vars (left - 1) pair init (command_var c.loop-left.child) (command_var c.set_var.new.child) within is c.requires before
          (cc (c.in_ok-set_var.ensures.set, c.as_str.ensures, c.as_str-in-loop-left.ensures))
          (λ k differ. c.in_ok-set_var.ensures.others k (λ e. differ (e ∙ c.as_str.ensures)));
      clears = c.in_ok-set_var.ensures.clears ∙ c.loop-left.invariant.clears;
      call = (c.in_ok-set_var.ensures.call.0 ∙ c.loop-left.invariant.call.0, c.in_ok-set_var.ensures.call.1 ∙ c.loop-left.invariant.call.1);
      dir = c.in_ok-set_var.ensures.dir ∙ c.loop-left.invariant.dir;
    }
