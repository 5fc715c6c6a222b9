-- What the plan of link lines asks, and what the answers settle of them.
use Rattle.std.proofs.Common.{◌≡◌, ℕ, List, Option, sym, ap, ◌∙◌}
use Rattle.cc_env.specs.Env.{EnvSeen}
use Rattle.cc_host.specs.Question.{Look, Answer, Settles}
use Rattle.cc_host.specs.declared.question.Question.{Question}
use Rattle.cc_tool.specs.Plans as plans
use Rattle.cc_tool.proofs.SettleLemmas.{settles_so}
use Rattle.cc_flags.specs.LinkLines.{lines_by}
use Rattle.cc_flags.specs.declared.link_line.LinkLine.{LinkLine}
use Rattle.cc_flags.specs.declared.settings.BuildConfig.{BuildConfig}
use Rattle.cc_plan.specs.Link.{link_lines}
use Rattle.cc_plan.specs.Questions.{LinkAsks}
use Rattle.cc_plan.specs.Stdlib.{library_plan, linked_library}

-- what the plan of the C++ library wants
pub link_asks : (set : BuildConfig) (env : EnvSeen) (look : Look) (q : Question) → plans.PlanAsks (library_plan set env) look q → LinkAsks set env look q
unfolding LinkAsks
link_asks set env look q h = h

-- the lines by the library that is settled
pub lines_settled : (set : BuildConfig) (env : EnvSeen) {known : List Answer} {lines : List LinkLine} {library : Option (List ℕ)} (name folder : List ℕ) → Settles known (linked_library set env) library → lines ≡ lines_by set env name folder library → Settles known (link_lines set env name folder) lines
unfolding link_lines
lines_settled set env name folder s is = settles_so s (λ look a. ap (lines_by set env name folder) a ∙ sym is)
