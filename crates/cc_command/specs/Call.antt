-- What a call of the program is given, and what it leaves.
use Rattle.std.specs.Prelude.{◌≡◌, ℕ, Bool, List, Option}
use Rattle.cc_host.specs.Call.{part}
use Rattle.cc_host.specs.Question.{Look, answers, Holds}
use Rattle.cc_host.specs.declared.event.Event.{Event}
use Rattle.cc_host.specs.declared.question.Outcome.{Outcome}
use Rattle.cc_host.specs.declared.question.Question.{Question}
use Rattle.cc_build.specs.Course.{Course, course}
use Rattle.cc_build.specs.Went.{Means, means}

-- the counts of a seat
pub record Counts : Type 0 where
  pub faults : ℕ
  pub taken : ℕ
  pub load : ℕ

-- how its host and its world are, the total of its pool where one caller owns it, its turns, its seat before and behind
-- it, and what it did
pub record Call : Type 0 where
  pub listens : Bool
  pub patience : Option ℕ
  pub steady : Bool
  pub world : Question → Outcome
  pub total : Option ℕ
  pub turns : ℕ
  pub before : Counts
  pub after : Counts
  pub part : List Event

abbrev pub seat_counts : ℕ → ℕ → ℕ → Counts
seat_counts faults taken load = record { faults = faults; taken = taken; load = load }

-- the call of a host and a seat that are viewed so
abbrev pub call_of : {X S : Type 0} → (X → List Event) → (X → Option ℕ) → (X → Bool) → Bool → (Question → Outcome)
    → (S → Option ℕ) → (S → ℕ) → (S → ℕ) → (S → ℕ) → ℕ → X → X → S → S → Call
call_of log patience listens steady world total faults taken load turns host host' seat seat' = record {
  listens = listens host;
  patience = patience host;
  steady = steady;
  world = world;
  total = total seat;
  turns = turns;
  before = seat_counts (faults seat) (taken seat) (load seat);
  after = seat_counts (faults seat') (taken seat') (load seat');
  part = part log host host';
}

-- no token was taken
abbrev pub KeepsSeat : Call → Type 0
KeepsSeat c = c.after ≡ c.before

abbrev pub means_of : ℕ → Counts → Means
means_of left seat = means left seat.faults seat.taken seat.load

-- its course, where so many of the turns are left
abbrev pub course_of : Call → ℕ → Course
course_of c left = course c.total c.patience (means_of c.turns c.before) (means_of left c.after)

-- a fact of its part and its course, whichever verdicts agree with what it was answered
abbrev pub ByVerdicts : Call → (Look → List Event → Course → Type 0) → Type 0
ByVerdicts c fact = Holds (answers c.part) (λ look. (left : ℕ) × fact look c.part (course_of c left))
