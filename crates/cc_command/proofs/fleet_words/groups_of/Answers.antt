use Rattle.std.proofs.Common.{◌∙◌, ap, map, rules, string_bytes, tests}
use Rattle.std.proofs.lemmas.Iterator.Consumers.{map_from_collect}
use Rattle.std.proofs.lemmas.Iterator.Splits.{YieldsList-from_slice_split}
use Rattle.std.proofs.lemmas.Result.{IfOk-at_ok}
use Rattle.cc_command.specs.FleetWords.{is_gap}
use Rattle.cc_command.proofs.FleetWordLaws.{bytes_parts, map_split}
use Rattle.cc_command.proofs.fleet_words.groups_of.Goals as goal

pub returns : goal.returns
returns c =
    let h = map_from_collect _ c.collect.ensures.ran (YieldsList-from_slice_split _ (λ word. is_gap (string_bytes word)) c.args.words.now c.split.ensures.rest c.split.ensures.done c.split.ensures.closure (λ x r q k. search (rules, tests))) in
    bytes_parts c.in_ok-groups.groups.items ∙ ap (map (map string_bytes)) (IfOk-at_ok _ c.in_ok-groups.was h) ∙ map_split string_bytes is_gap c.args.words.now
