-- The search among the code's pairs is the search among the definition's.
use Rattle.std.proofs.Common.{ap, ◌∙◌, bytes_eq, find, option_map}
use Rattle.cc_text.proofs.FindLemmas.{find-map}
use Rattle.cc_flags.specs.Features.{feature_of, feature_seen}
use Rattle.cc_flags.proofs.features.feature_named.Goals as goal

pub returns : goal.returns
unfolding feature_of
returns c =
    ap (option_map feature_seen) c.feature_among.ensures ∙ find-map feature_seen (λ f. bytes_eq f.0 c.args.name.now) c.features.result.now
    ∙ ap (find (λ f. bytes_eq f.0 c.args.name.now)) c.features.ensures
