-- What became of nodes.
use Rattle.std.specs.Prelude.{ℕ, List, [], ◌∷◌, Bool, true, false, Option, None, Some, slice_set, replicate}
use Rattle.std.specs.List.{slice_get}
use Rattle.cc_host.specs.Status.{is_success}
use Rattle.cc_run.specs.declared.mark.Mark.{Mark}
use Rattle.cc_run.specs.declared.mark.Mark.TheVariants.{Began, Over}
use Rattle.cc_graph.specs.declared.ends.NodeEnd.{NodeEnd}
use Rattle.cc_graph.specs.declared.ends.NodeEnd.TheVariants.{Ended, Skipped}

abbrev pub note_end : List NodeEnd → Mark → List NodeEnd
note_end ends (Began p) = ends
note_end ends (Over p status) = slice_set ends p (Ended status)

abbrev pub ends_from : List NodeEnd → List Mark → List NodeEnd
ends_from ends [] = ends
ends_from ends (m ∷ ms) = ends_from (note_end ends m) ms

-- what became of so many nodes: skipped are those that never ended
abbrev pub ends_of : ℕ → List Mark → List NodeEnd
ends_of n marks = ends_from (replicate n Skipped) marks

-- it ended with the status 0
abbrev pub went_well : Option NodeEnd → Bool
went_well None = false
went_well (Some (Ended status)) = is_success status
went_well (Some Skipped) = false

abbrev pub is_skipped : Option NodeEnd → Bool
is_skipped None = false
is_skipped (Some (Ended status)) = false
is_skipped (Some Skipped) = true

abbrev pub end_at : List NodeEnd → ℕ → Option NodeEnd
end_at ends p = slice_get ends p
