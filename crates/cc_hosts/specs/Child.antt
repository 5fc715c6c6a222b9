-- A command as a child of the machine, and what is kept of its end.
use Rattle.std.specs.Prelude.{◌≡◌, ℕ, ℤ, Bool, false, List, [], reverse, Option, Some, None, option_map, if◌then◌else◌}
use Rattle.std.specs.Option.{option_or}
use Rattle.cc_text.specs.Vars.{lookup}
use Rattle.cc_host.specs.Event.{is_captured}
use Rattle.cc_host.specs.declared.event.Pipes.{Pipes}
use Rattle.cc_host.specs.declared.event.Status.{Status}
use Rattle.cc_host.specs.declared.event.Status.TheVariants.{Code, NoCode}
use Rattle.cc_hosts.specs.declared.child.Outcome.{Outcome}
use Rattle.cc_hosts.specs.declared.child.Outcome.TheVariants.{Missing, Failed, Ended, Lost, Unread}

-- what a child gets for a name: the value of the last pair of that name
abbrev pub child_value : List (List ℕ × List ℕ) → List ℕ → Option (Option (List ℕ))
child_value env name = option_map Some (lookup (reverse env) name)

-- what a child gets for a name that had another value before: that of the last pair of the name, where there is one
abbrev pub value_over : List (List ℕ × List ℕ) → (List ℕ → Option (Option (List ℕ))) → List ℕ → Option (Option (List ℕ))
value_over env before name = option_or (child_value env name) (before name)

-- how a child ended, by the number that it ended with
abbrev pub status_of : Option ℤ → Status
status_of (Some code) = Code code
status_of None = NoCode

-- what is kept of an output
abbrev pub kept : Bool → List ℕ → List ℕ
kept wanted bytes = if wanted then bytes else []

-- what wasn't captured or heard wasn't kept
abbrev pub IsSilentEnd : Pipes → Outcome → Type 0
IsSilentEnd pipes Missing = Unit {0}
IsSilentEnd pipes (Failed why) = Unit {0}
IsSilentEnd pipes (Ended end) = (is_captured pipes.out ≡ false → end.out ≡ []) × (pipes.hear ≡ false → end.err ≡ [])
IsSilentEnd pipes (Lost end why) = (is_captured pipes.out ≡ false → end.out ≡ []) × (pipes.hear ≡ false → end.err ≡ [])
IsSilentEnd pipes (Unread end) = (is_captured pipes.out ≡ false → end.out ≡ []) × (pipes.hear ≡ false → end.err ≡ [])

-- an end that can't be learned has no code
abbrev pub IsLostEnd : Outcome → Type 0
IsLostEnd Missing = Unit {0}
IsLostEnd (Failed why) = Unit {0}
IsLostEnd (Ended end) = Unit {0}
IsLostEnd (Lost end why) = end.status ≡ NoCode
IsLostEnd (Unread end) = Unit {0}

-- what ended is whole: no other process holds an output of it on
abbrev pub IsWholeEnd : Bool → Bool → Outcome → Type 0
IsWholeEnd out_is_held err_is_held Missing = Unit {0}
IsWholeEnd out_is_held err_is_held (Failed why) = Unit {0}
IsWholeEnd out_is_held err_is_held (Ended end) = (out_is_held ≡ false) × (err_is_held ≡ false)
IsWholeEnd out_is_held err_is_held (Lost end why) = Unit {0}
IsWholeEnd out_is_held err_is_held (Unread end) = Unit {0}

-- an end of which all is known, so that it may answer a question
abbrev pub IsKnownEnd : Outcome → Type 0
IsKnownEnd Missing = Unit {0}
IsKnownEnd (Failed why) = ⊥
IsKnownEnd (Ended end) = Unit {0}
IsKnownEnd (Lost end why) = ⊥
IsKnownEnd (Unread end) = ⊥
