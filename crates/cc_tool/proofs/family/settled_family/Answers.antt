use Rattle.std.proofs.Common.{ap, ◌∙◌}
use Rattle.cc_tool.specs.Family.{settled_family, zig_family, family_or, family_of_file, name_of}
use Rattle.cc_tool.specs.Plans.{done}
use Rattle.cc_tool.proofs.PassLemmas.{pass_as, pass_ok, pass_done, pass_try}
use Rattle.cc_tool.proofs.family.settled_family.Goals as goal

pub returns-in_err-family : goal.returns-in_err-family
unfolding settled_family
returns-in_err-family c =
    pass_try (zig_family c.args.path.now c.args.vars.now (family_or c.args.detected.0 (family_of_file (name_of c.args.path.now) c.args.args.now))) (λ family. done (family, c.args.detected.1)) c.from_residual.result c.from_residual.ensures.1
    (pass_as (ap (zig_family c.args.path.now c.args.vars.now) (c.family_or-family.ensures ∙ ap (family_or c.args.detected.0) (c.family_of_file.ensures ∙ ap (λ name. family_of_file name c.args.args.now) c.name_of.ensures))) c.in_err-family.ensures)

pub returns : goal.returns
unfolding settled_family
returns c =
    pass_ok (zig_family c.args.path.now c.args.vars.now (family_or c.args.detected.0 (family_of_file (name_of c.args.path.now) c.args.args.now))) (λ family. done (family, c.args.detected.1))
    (pass_as (ap (zig_family c.args.path.now c.args.vars.now) (c.family_or-family.ensures ∙ ap (family_or c.args.detected.0) (c.family_of_file.ensures ∙ ap (λ name. family_of_file name c.args.args.now) c.name_of.ensures))) c.in_ok-family.ensures)
    pass_done
