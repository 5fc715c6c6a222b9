-- The calls of a host, counted by kind, and those that are to fail.
use Rattle.std.specs.Prelude.{ℕ, ◌+◌, ◌-◌, ◌^◌, min, List, Bool, true, false, ◌&&◌, ◌==◌}
use Rattle.std.specs.List.{list_any}
use Rattle.cc_host.specs.declared.event.Scope.{Scope}
use Rattle.cc_host.specs.declared.event.Scope.TheVariants.{Build, Probe as ForProbes}
use Rattle.cc_host.specs.declared.event.HostCall.{HostCall}
use Rattle.cc_host.specs.declared.event.HostCall.TheVariants.{Start, Turn, Output, Probe, MakeDir, CreateProbe, Write, Copy, Remove, CurrentDir, Print, Say, Vars}
use Rattle.cc_host.specs.declared.calls.Failure.{Failure}
use Rattle.cc_host.specs.declared.calls.Counts.{Counts}

abbrev pub same_scope : Scope → Scope → Bool
same_scope Build Build = true
same_scope ForProbes ForProbes = true
same_scope _ _ = false

abbrev pub same_call : HostCall → HostCall → Bool
same_call Start Start = true
same_call Turn Turn = true
same_call Output Output = true
same_call Probe Probe = true
same_call (MakeDir a) (MakeDir b) = same_scope a b
same_call CreateProbe CreateProbe = true
same_call Write Write = true
same_call Copy Copy = true
same_call Remove Remove = true
same_call CurrentDir CurrentDir = true
same_call Print Print = true
same_call Say Say = true
same_call Vars Vars = true
same_call _ _ = false

-- whether a call of the kind is to fail, before which there were so many of its kind
abbrev pub is_due : HostCall → ℕ → List Failure → Bool
is_due call before = list_any (λ f. same_call f.call call && (f.nth == before + 1))

-- no call of any kind
abbrev pub no_calls : Counts
no_calls = record { starts = 0; turns = 0; outputs = 0; probes = 0; build_dirs = 0; probe_dirs = 0; probe_files = 0; writes = 0; copies = 0; removals = 0; folders = 0; prints = 0; sayings = 0; listings = 0 }

-- the count of a kind
abbrev pub count_of : HostCall → Counts → ℕ
count_of Start c = c.starts
count_of Turn c = c.turns
count_of Output c = c.outputs
count_of Probe c = c.probes
count_of (MakeDir Build) c = c.build_dirs
count_of (MakeDir ForProbes) c = c.probe_dirs
count_of CreateProbe c = c.probe_files
count_of Write c = c.writes
count_of Copy c = c.copies
count_of Remove c = c.removals
count_of CurrentDir c = c.folders
count_of Print c = c.prints
count_of Say c = c.sayings
count_of Vars c = c.listings

-- one more, up to the last value of a count
abbrev pub plus_one : ℕ → ℕ
plus_one count = min (count + 1) (2 ^ 64 - 1)

-- one call of the kind more
abbrev pub counted : HostCall → Counts → Counts
counted Start c = record c { starts = plus_one c.starts }
counted Turn c = record c { turns = plus_one c.turns }
counted Output c = record c { outputs = plus_one c.outputs }
counted Probe c = record c { probes = plus_one c.probes }
counted (MakeDir Build) c = record c { build_dirs = plus_one c.build_dirs }
counted (MakeDir ForProbes) c = record c { probe_dirs = plus_one c.probe_dirs }
counted CreateProbe c = record c { probe_files = plus_one c.probe_files }
counted Write c = record c { writes = plus_one c.writes }
counted Copy c = record c { copies = plus_one c.copies }
counted Remove c = record c { removals = plus_one c.removals }
counted CurrentDir c = record c { folders = plus_one c.folders }
counted Print c = record c { prints = plus_one c.prints }
counted Say c = record c { sayings = plus_one c.sayings }
counted Vars c = record c { listings = plus_one c.listings }
