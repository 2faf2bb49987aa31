-- The files of a command, read one after another: of each a read that may fail and a length that may exceed the limit, in the
-- order of the command.
use Rattle.std.specs.Prelude.{◌≡◌, ◌⊎◌, ℕ, suc, List, [], ◌∷◌, Option, Result}
use Rattle.std.specs.Global.{Vec}
use Rattle.report.specs.declared.fault_lines.Fault.{Fault}
use Rattle.report.specs.declared.fault_lines.Fault.TheVariants as fault
use Rattle.command_courses.specs.Course.{Course, Stage, behind}
use Rattle.command_courses.specs.Inputs.{bytes_of}
use Rattle.command_courses.specs.Stopping.{AnswersBy}
use Rattle.command_courses.specs.declared.status.Status.TheVariants as status
use Rattle.command_courses.specs.declared.stop.Stop.{Stop}
use Rattle.contract_cli.specs.Seen.{Failed, FilesSeen, IsLong, WasRead}

-- a read fails only where the count of the file rose
abbrev pub opened : FilesSeen → List ℕ → ℕ → Stage (Unit {0})
opened files file place = record {
  status = status.ReadFault;
  Passes = λ _. Unit {0};
  FaultIs = λ f. (f ≡ fault.Read place) × Failed files file;
}

-- a file is too long only if it has more bytes than the limit
abbrev pub fitting : FilesSeen → List ℕ → ℕ → Stage (List ℕ)
fitting files file place = record {
  status = status.TooLong;
  Passes = WasRead files.contents file;
  FaultIs = λ f. (f ≡ fault.TooLong place) × IsLong files.contents file;
}

-- the files of these names, the first of which stands at a place, and then what is made of their bytes
abbrev pub reading : FilesSeen → List (List ℕ) → ℕ → (List (List ℕ) → Course) → Course
reading files [] place next = next []
reading files (file ∷ more) place next =
    behind (opened files file place) (λ _.
    behind (fitting files file place) (λ bytes. reading files more (suc place) (λ others. next (bytes ∷ others))))

-- ---- the same as a part of a run sees it

-- these were read of files
abbrev pub WereRead : (List ℕ → Option (List ℕ)) → List (List ℕ) → List (List ℕ) → Type 0
WereRead contents [] [] = Unit {0}
WereRead contents (file ∷ more) (bytes ∷ others) = WasRead contents file bytes × WereRead contents more others
WereRead contents _ _ = ⊥

-- why the file at a place was not read
pub data FileFault (files : FilesSeen) (file : List ℕ) (place : ℕ) (f : Fault) : Type 0 where
  read_failed : f ≡ fault.Read place → Failed files file → FileFault files file place f
  read_long : f ≡ fault.TooLong place → IsLong files.contents file → FileFault files file place f

-- what stops the reading of files, of which the first stands at a place: the fault of one, behind files that were read
abbrev pub StopsReading : FilesSeen → List (List ℕ) → ℕ → Fault → Type 0
StopsReading files [] place f = ⊥
StopsReading files (file ∷ more) place f =
    FileFault files file place f ⊎ ((bytes : List ℕ) × WasRead files.contents file bytes × StopsReading files more (suc place) f)

-- the bytes of the file at a place, or why there are none
abbrev pub AnswersFile : FilesSeen → List ℕ → ℕ → Result (Vec ℕ) Stop → Type 0
AnswersFile files file place r = AnswersBy (λ bytes. WasRead files.contents file bytes.items) (FileFault files file place) r

-- the bytes of files of these names, or what stops the reading of them
abbrev pub AnswersFiles : FilesSeen → List (List ℕ) → Result (Vec (Vec ℕ)) Stop → Type 0
AnswersFiles files names r = AnswersBy (λ inputs. WereRead files.contents names (bytes_of inputs.items)) (StopsReading files names 1) r
