use Rattle.std.proofs.Common.{ap, ◌∙◌}
use Rattle.cc_flags.specs.Pairs.{pairs_of}
use Rattle.cc_flags.specs.Fields.{flags_of}
use Rattle.cc_flags.proofs.FlagLemmas.{none_given}
use Rattle.cc_flags.proofs.flags.RustcCodegenFlags.parse.Goals as goal

pub returns-clause-empty : goal.returns-clause-empty
returns-clause-empty c =
    λ e. c.in_ok-flags.ensures ∙ ap flags_of (c.deref-2.ensures.value ∙ c.in_ok-pairs.ensures) ∙ ap (λ t. flags_of (pairs_of t)) e ∙ none_given
