use Rattle.std.proofs.Common.{◌≡◌, List, ℕ, map, take, drop, []}
use Rattle.std.specs.Option.{option_copied}
use Rattle.cc_flags.specs.Object.{object_path, objects_of}
use Rattle.cc_text.specs.Places.{place_at}
use Rattle.cc_plan.specs.Refusal.{place_from, sources_after}
use Rattle.cc_plan.proofs.objects.objects_from_files.Given as goal

-- the objects so far, their places, and what is wrong with the sources that are left
abbrev pub invariant-loop-place : goal.invariant-loop-place
invariant-loop-place l = record {
  objects : l.objects.items ≡ objects_of l.fn.env (option_copied l.fn.source_root) l.fn.dst (take l.place l.fn.files);
  places : (text : List ℕ) → place_at l.places text ≡ place_from 0 text (map (object_path l.fn.env (option_copied l.fn.source_root) l.fn.dst) (take l.place l.fn.files));
  rest : sources_after (object_path l.fn.env (option_copied l.fn.source_root) l.fn.dst) (take l.place l.fn.files) (drop l.place l.fn.files) ≡ sources_after (object_path l.fn.env (option_copied l.fn.source_root) l.fn.dst) [] l.fn.files;
}
