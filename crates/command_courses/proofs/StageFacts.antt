-- The stages of the day of a word and of a table exclude each what passes and what stops it, and each has one fault, with its status.
use Rattle.std.proofs.Common.{◌≡◌, ◌∙◌, ℕ, ℤ, List, ap, subst, sym}
use Rattle.std.specs.Prelude.{Option, Some, None}
use Rattle.term_model.specs.declared.rules.Rule.{Rule}
use Rattle.term_model.specs.Declarations.{Declarations}
use Rattle.term_model.specs.Environments.{Environment}
use Rattle.fixing_files.specs.Tables.{IsFirstFault, table_of}
use Rattle.fixing_files.specs.declared.faults.RowFault.{RowFault}
use Rattle.fixing_files.proofs.LawFacts.{faults_unique, faulty_hold_nothing}
use Rattle.report.specs.declared.fault_lines.Fault.TheVariants as fault
use Rattle.command_courses.specs.Days.{day_of_word, greatest_day}
use Rattle.command_courses.specs.FixingTables.{AreFixings, fixed_by}
use Rattle.command_courses.specs.Statuses.{status_of}
use Rattle.command_courses.proofs.CourseFacts.{IsStage}
use Rattle.command_courses.proofs.DayFacts.{in_range_or_not}

pub some_same : {A : Type 0} (x y : A) → Some x ≡ Some y → x ≡ y
some_same x y e = cc

pub none_or_some : {A : Type 0} (o : Option A) (x : A) → o ≡ None → o ≡ Some x → ⊥
none_or_some o x none some = cc

-- ---- days

pub day_is : (d : Declarations) (word : List ℕ) → IsStage ℤ (day_of_word d word)
day_is d word = record {
  excludes = λ day f p h. in_range_or_not d greatest_day word day p h.out;
  one_fault = λ f g h k. h.fault_is ∙ sym k.fault_is;
  status_is = λ f h. ap status_of h.fault_is;
}

-- ---- acceptance

pub refused_same : (name other : List ℕ) (rule law : Rule) (node place : ℕ) → name ≡ other → rule ≡ law → node ≡ place → fault.Refused name rule node ≡ fault.Refused other law place
refused_same name other rule law node place e f g =
    ap (λ (x : List ℕ). fault.Refused x rule node) e ∙ ap (λ (x : Rule). fault.Refused other x node) f ∙ ap (λ (x : ℕ). fault.Refused other law x) g

-- ---- tables

-- no fixings are those of a table of which a row is refused
pub fault_or_fixings : (d : Declarations) (table : Option (List ℕ)) (bytes : List ℕ) (row : RowFault) (fixings : Environment)
    → table ≡ Some bytes → IsFirstFault d (table_of bytes) row → AreFixings d table fixings → ⊥
fault_or_fixings d table bytes row fixings named first are =
    faulty_hold_nothing d (table_of bytes) row fixings first (subst (λ (t : Option (List ℕ)). AreFixings d t fixings) named are)

pub fixed_by_is : (d : Declarations) (table : Option (List ℕ)) (place : ℕ) → IsStage Environment (fixed_by d table place)
fixed_by_is d table place = record {
  excludes = λ fixings f p h. fault_or_fixings d table h.bytes h.row fixings h.named h.first p;
  one_fault = λ f g h k.
      (let same = some_same k.bytes h.bytes (sym k.named ∙ h.named) in
      let one = faults_unique d (table_of h.bytes) h.row k.row h.first (subst (λ (x : List ℕ). IsFirstFault d (table_of x) k.row) same k.first) in
      h.fault_is ∙ ap (λ (x : RowFault). fault.Row place x) one ∙ sym k.fault_is);
  status_is = λ f h. ap status_of h.fault_is;
}
