-- Plans that may be refused: a refusal is a value.
use Rattle.std.specs.Prelude.{List, Option, Some, None, Result, Ok, Err}
use Rattle.cc_host.specs.Question.{Answer}
use Rattle.cc_tool.specs.Notes.{Noted}
use Rattle.cc_tool.specs.Plans.{Plan, Passes, bind, done}
use Rattle.cc_tool.specs.declared.want.Want.{Want}
use Rattle.cc_tool.specs.declared.want.Want.TheVariants.{NoMemory as WantsMemory}
use Rattle.cc_plan.specs.declared.error.PlanError.{PlanError}
use Rattle.cc_plan.specs.declared.error.PlanError.TheVariants.{NoMemory}
use Rattle.cc_plan.specs.declared.halt.Halt.{Halt}
use Rattle.cc_plan.specs.declared.halt.Halt.TheVariants.{Want as Wants, Refused}

-- why a check ends a pass
abbrev pub halt_of : PlanError → Halt
halt_of NoMemory = Wants WantsMemory
halt_of error = Refused error

-- what a pass came to
abbrev pub outcome_of : {X : Type 0} → Result X Halt → Result (Result X PlanError) Want
outcome_of (Ok x) = Ok (Ok x)
outcome_of (Err (Refused error)) = Ok (Err error)
outcome_of (Err (Wants want)) = Err want

-- a pass over a plan that may be refused
abbrev pub Tries : {X : Type 0} → List Answer → Noted → Noted → Plan (Result X PlanError) → Result X Halt → Type 0
Tries known before after p result = Passes known before after p (outcome_of result)

-- a plan whose value isn't refused
unfoldable pub allowed : {X : Type 0} → X → Plan (Result X PlanError)
allowed x = done (Ok x)

-- a plan, unless it is refused
unfoldable pub unless : {X : Type 0} → Option PlanError → Plan (Result X PlanError) → Plan (Result X PlanError)
unless None p = p
unless (Some error) p = done (Err error)

-- one plan, and then another by its value, unless it is refused
abbrev pub on_ok : {X Y : Type 0} → (X → Plan (Result Y PlanError)) → Result X PlanError → Plan (Result Y PlanError)
on_ok k (Ok x) = k x
on_ok k (Err error) = done (Err error)

unfoldable pub bind_ok : {X Y : Type 0} → Plan (Result X PlanError) → (X → Plan (Result Y PlanError))
    → Plan (Result Y PlanError)
bind_ok p k = bind p (on_ok k)

-- a value, unless it is refused
abbrev pub by_refusal : {X : Type 0} → Option PlanError → X → Result X PlanError
by_refusal None x = Ok x
by_refusal (Some error) x = Err error
