use Rattle.std.proofs.Common.{◌≡◌, ◌<◌, inr, false, ◌+◌, ◌∷◌, [], ◌++◌, length, take, get_or, map, Some, None, is_none, bytes_eq, sym, ◌∙◌, ap, arith}
use Rattle.std.proofs.lemmas.Grind.{common_steps, take_at_read}
use Rattle.std.proofs.lemmas.List.{map-append}
use Rattle.std.specs.Map.{update}
use Rattle.std.specs.Option.{option_copied}
use Rattle.std.specs.Path.{path_file_name}
use Rattle.cc_flags.specs.Object.{object_path}
use Rattle.cc_text.specs.Places.{place_at}
use Rattle.cc_plan.specs.Refusal.{place_from}
use Rattle.cc_plan.proofs.SourceLaws.{refused_source, taken_source, nameless_source, doubled_source, fresh_source, places_more}
use Rattle.cc_plan.proofs.objects.objects_from_files.Goals as goal

pub returns-then-is_none-clause-refused : goal.returns-then-is_none-clause-refused
returns-then-is_none-clause-refused c =
    let within : c.loop-place.place < length c.args.files.now = grind (arith, c.loop-place-test.true) in
    let is : c.as_str-src.result.now ≡ get_or c.args.files.now c.loop-place.place c.as_str-src.result.now = grind (arith, c.src-item.is) in
    let none : path_file_name c.as_str-src.result.now ≡ None = grind arith in
    inr (refused_source (object_path c.args.env.now (option_copied c.args.source_root) c.args.dst.now) c.args.files.now c.loop-place.place c.as_str-src.result.now _ within is c.loop-place.invariant.rest (nameless_source (object_path c.args.env.now (option_copied c.args.source_root) c.args.dst.now) c.args.files.now c.loop-place.place c.as_str-src.result.now within none))

pub returns-in-Some-clause-refused : goal.returns-in-Some-clause-refused
returns-in-Some-clause-refused c =
    let within : c.loop-place.place < length c.args.files.now = grind (arith, c.loop-place-test.true) in
    let is : c.as_str-src.result.now ≡ get_or c.args.files.now c.loop-place.place c.as_str-src.result.now = grind (arith, c.src-item.is) in
    let named : is_none (path_file_name c.as_str-src.result.now) ≡ false = grind arith in
    let path : c.as_str.result.now ≡ object_path c.args.env.now (option_copied c.args.source_root) c.args.dst.now c.as_str-src.result.now = grind arith in
    let found : place_at c.loop-place.places c.as_str.result.now ≡ Some c.in-Some.earlier = grind (arith, c.in_ok-earlier.ensures.old) in
    let at : place_from 0 (object_path c.args.env.now (option_copied c.args.source_root) c.args.dst.now c.as_str-src.result.now) (map (object_path c.args.env.now (option_copied c.args.source_root) c.args.dst.now) (take c.loop-place.place c.args.files.now)) ≡ Some c.in-Some.earlier =
    sym (c.loop-place.invariant.places (object_path c.args.env.now (option_copied c.args.source_root) c.args.dst.now c.as_str-src.result.now)) ∙ ap (place_at c.loop-place.places) (sym path) ∙ found in
    inr (refused_source (object_path c.args.env.now (option_copied c.args.source_root) c.args.dst.now) c.args.files.now c.loop-place.place c.as_str-src.result.now _ within is c.loop-place.invariant.rest (doubled_source (object_path c.args.env.now (option_copied c.args.source_root) c.args.dst.now) c.args.files.now c.loop-place.place c.in-Some.earlier c.as_str-src.result.now within named at))

pub loop-place-preserved : goal.loop-place-preserved
loop-place-preserved c =
    let within : c.loop-place.place < length c.args.files.now = grind (arith, c.loop-place-test.true) in
    let is : c.as_str-src.result.now ≡ get_or c.args.files.now c.loop-place.place c.as_str-src.result.now = grind (arith, c.src-item.is) in
    let named : is_none (path_file_name c.as_str-src.result.now) ≡ false = grind arith in
    let path : c.as_str.result.now ≡ object_path c.args.env.now (option_copied c.args.source_root) c.args.dst.now c.as_str-src.result.now = grind arith in
    let absent : place_at c.loop-place.places (object_path c.args.env.now (option_copied c.args.source_root) c.args.dst.now c.as_str-src.result.now) ≡ None = grind (arith, c.in_ok-earlier.ensures.old) in
    let none : place_from 0 (object_path c.args.env.now (option_copied c.args.source_root) c.args.dst.now c.as_str-src.result.now) (map (object_path c.args.env.now (option_copied c.args.source_root) c.args.dst.now) (take c.loop-place.place c.args.files.now)) ≡ None =
    sym (c.loop-place.invariant.places (object_path c.args.env.now (option_copied c.args.source_root) c.args.dst.now c.as_str-src.result.now)) ∙ absent in
    let fresh = fresh_source (object_path c.args.env.now (option_copied c.args.source_root) c.args.dst.now) c.args.files.now c.loop-place.place c.as_str-src.result.now named none in
    let more : take (c.loop-place.place + 1) c.args.files.now ≡ take c.loop-place.place c.args.files.now ++ c.as_str-src.result.now ∷ [] =
    (take_at_read c.args.files.now c.loop-place.place c.as_str-src.result.now within).1 ∙ ap (λ s. take c.loop-place.place c.args.files.now ++ s ∷ []) (sym is) in
    record {
      objects = grind (arith, common_steps);
      places = λ text.
          c.in_ok-earlier.ensures.new text
          ∙ ap (λ k. update bytes_eq (place_at c.loop-place.places) k (Some c.loop-place.place) text) path
          ∙ places_more (place_at c.loop-place.places) (map (object_path c.args.env.now (option_copied c.args.source_root) c.args.dst.now) (take c.loop-place.place c.args.files.now)) (object_path c.args.env.now (option_copied c.args.source_root) c.args.dst.now c.as_str-src.result.now) c.loop-place.place (grind (arith, common_steps)) c.loop-place.invariant.places absent text
          ∙ ap (place_from 0 text) (sym (ap (map (object_path c.args.env.now (option_copied c.args.source_root) c.args.dst.now)) more ∙ map-append (object_path c.args.env.now (option_copied c.args.source_root) c.args.dst.now) (take c.loop-place.place c.args.files.now) (c.as_str-src.result.now ∷ [])));
      rest = taken_source (object_path c.args.env.now (option_copied c.args.source_root) c.args.dst.now) c.args.files.now c.loop-place.place c.as_str-src.result.now within is c.loop-place.invariant.rest fresh;
    }
