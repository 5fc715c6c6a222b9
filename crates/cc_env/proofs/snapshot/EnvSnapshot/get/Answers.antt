use Rattle.std.proofs.Common.{ℕ, List, Some, ap, ◌∙◌}
use Rattle.std.specs.Option.{option_copied, option_map}
use Rattle.cc_env.specs.Snapshot.{last_value}
use Rattle.cc_env.proofs.IndexLemmas.{value_found, value_missing}
use Rattle.cc_env.proofs.snapshot.EnvSnapshot.get.Goals as goal

pub returns-in_err-place : goal.returns-in_err-place
returns-in_err-place c =
    ap option_copied c.from_residual.ensures
    ∙ value_missing c.self.inside.vars c.args.name.now c.self.invariant.distinct (c.in_err-place.ensures ∙ c.self.invariant.places_is c.args.name.now)
    ∙ ap (λ vars. last_value vars c.args.name.now) c.self.view_is

pub returns-in_err-value : goal.returns-in_err-value
returns-in_err-value c =
    ap option_copied c.from_residual-in_err-value.ensures
    ∙ ap (option_map (λ (pair : List ℕ × List ℕ). pair.1)) c.in_err-value.ensures
    ∙ value_found c.self.inside.vars c.args.name.now c.in_ok-place.place c.self.invariant.distinct (c.in_ok-place.ensures ∙ c.self.invariant.places_is c.args.name.now)
    ∙ ap (λ vars. last_value vars c.args.name.now) c.self.view_is

pub returns : goal.returns
returns c =
    ap (λ value. Some value) c.as_str.ensures
    ∙ ap (option_map (λ (pair : List ℕ × List ℕ). pair.1)) c.in_ok-value.ensures
    ∙ value_found c.self.inside.vars c.args.name.now c.in_ok-place.place c.self.invariant.distinct (c.in_ok-place.ensures ∙ c.self.invariant.places_is c.args.name.now)
    ∙ ap (λ vars. last_value vars c.args.name.now) c.self.view_is
