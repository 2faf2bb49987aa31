-- A command as a course of stages, in their order. A stage passes on a value that the stages behind it speak of, or stops the
-- run with a fault. Behind the last stage the course ends: with a status that it says, and a text.
use Rattle.std.specs.Prelude.{◌≡◌, ◌⊎◌, ℕ, List}
use Rattle.report.specs.FaultLines.{fault_text}
use Rattle.report.specs.declared.fault_lines.Fault.{Fault}
use Rattle.command_courses.specs.Statuses.{status_of}
use Rattle.command_courses.specs.declared.status.Status.{Status}
use Rattle.command_courses.specs.declared.status.Status.TheVariants as status

-- one stage: the status of its faults, what it passes on, and which fault it has
pub record Stage (A : Type 0) : Type 1 where
  pub status : Status
  pub Passes : A → Type 0
  pub FaultIs : Fault → Type 0

-- the end says with which status, and with which text; a stage stands before a course that speaks of what it passes on
pub data Course : Type 1 where
  ends : (Status → Type 0) → (List ℕ → Type 0) → Course
  behind : {A : Type 0} → Stage A → (A → Course) → Course

-- the end of most courses: the command is done, and has such a text
abbrev pub tells : (List ℕ → Type 0) → Course
tells IsText = ends (λ s. s ≡ status.Done) IsText

-- what stops a course: the fault of a stage, behind stages that pass
abbrev pub Stops : Course → Fault → Type 0
Stops (ends Ending IsText) f = ⊥
Stops (behind {A} stage next) f = stage.FaultIs f ⊎ ((a : A) × stage.Passes a × Stops (next a) f)

-- what a course tells that nothing stops
abbrev pub Tells : Course → Status → List ℕ → Type 0
Tells (ends Ending IsText) s text = Ending s × IsText text
Tells (behind {A} stage next) s text = (a : A) × stage.Passes a × Tells (next a) s text

-- a status is due: that of a stage that passes nothing, behind stages that pass, or that of the end
abbrev pub IsDue : Course → Status → Type 0
IsDue (ends Ending IsText) s = Ending s
IsDue (behind {A} stage next) s = ((stage.status ≡ s) × ((a : A) → stage.Passes a → ⊥)) ⊎ ((a : A) × stage.Passes a × IsDue (next a) s)

-- each stage passes
abbrev pub IsPassed : Course → Type 0
IsPassed (ends Ending IsText) = Unit {0}
IsPassed (behind {A} stage next) = (a : A) × stage.Passes a × IsPassed (next a)

-- the status and the text of a course: those of the fault that stops it, or what it tells
pub data Answers (c : Course) (s : Status) (text : List ℕ) : Type 0 where
  stopped : (f : Fault) → Stops c f → s ≡ status_of f → text ≡ fault_text f → Answers c s text
  told : Tells c s text → Answers c s text
