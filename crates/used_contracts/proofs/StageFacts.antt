-- The stages of contracts exclude each what passes and what stops it, and each has one fault, with its status.
use Rattle.std.proofs.Common.{ℕ, List, refl, ◌≡◌, ◌∙◌, ℤ, true, false, ap, sym}
use Rattle.std.specs.Prelude.{Option}
use Rattle.term_model.specs.declared.name.Name.{Name}
use Rattle.term_model.specs.Books.{Book}
use Rattle.term_model.specs.Declarations.{Declarations}
use Rattle.term_model.specs.Environments.{Environment, Place}
use Rattle.term_model.specs.Terms.{Contract}
use Rattle.contract_parse.specs.TextFaults.{IsNoText}
use Rattle.contract_grammar.specs.declared.faults.TextFault.{TextFault}
use Rattle.contract_grammar.specs.declared.terms.Language.{Language}
use Rattle.report.specs.declared.fault_lines.Fault.TheVariants as fault
use Rattle.command_courses.specs.Course.{Course, behind}
use Rattle.command_courses.specs.Names.{label_name}
use Rattle.command_courses.specs.Statuses.{status_of}
use Rattle.command_courses.specs.declared.status.Status.TheVariants as status
use Rattle.command_courses.proofs.CourseFacts.{Alike, IsStage, alike_behind}
use Rattle.command_courses.proofs.FixingFacts.{HoldSame}
use Rattle.command_courses.proofs.StageFacts.{refused_same, some_same}
use Rattle.command_courses.proofs.TextFaults.{one_text_fault}
use Rattle.used_contracts.specs.AllAccepted.{all_accepted}
use Rattle.used_contracts.specs.AllFixed.{IsFirstMissing, all_fixed}
use Rattle.used_contracts.specs.Portfolios.{IsBadText, known, portfolio_of}
use Rattle.used_contracts.proofs.FirstFacts.{accepted_or_not, fixed_or_not, one_missing, one_not_accepted, same_fixed, same_missing}

-- what is no portfolio's text has this fault
pub bad_text : (bytes : List ℕ) (f : TextFault) → IsNoText bytes f → IsBadText bytes (fault.Text f)
bad_text bytes f h = record { first = f; is_first = h.0; no_text = h.1; fault_is = refl }

-- ---- texts

pub portfolio_is : (bytes : List ℕ) → IsStage Book (portfolio_of bytes)
portfolio_is bytes = record {
  excludes = λ b f p h. h.no_text b p;
  one_fault = λ f g h k. h.fault_is ∙ ap (λ (x : TextFault). fault.Text x) (one_text_fault Language.Contracts bytes h.first k.first h.is_first k.is_first) ∙ sym k.fault_is;
  status_is = λ f h. ap status_of h.fault_is;
}

-- ---- names

pub known_is : (b : Book) (only : Option (List ℕ)) → IsStage (Unit {0}) (known b only)
known_is b only = record {
  excludes = λ a f p h. (let e : false ≡ true = sym h.unknown ∙ p in cc);
  one_fault = λ f g h k. h.fault_is ∙ ap (λ (x : List ℕ). fault.UnknownName x) (some_same h.name k.name (sym h.given ∙ k.given)) ∙ sym k.fault_is;
  status_is = λ f h. ap status_of h.fault_is;
}

-- ---- acceptance

module _ (d : Declarations) (entries : List (Name × Contract)) where
  pub all_accepted_is : IsStage (Unit {0}) (all_accepted d entries)
  all_accepted_is = record {
    excludes = λ a f p h. accepted_or_not d entries h.name h.rule h.node p h.first;
    one_fault = λ f g h k.
        (let one = one_not_accepted d entries h.name k.name h.rule k.rule h.node k.node h.first k.first in
        h.fault_is ∙ refused_same h.name k.name h.rule k.rule h.node k.node one.0 one.1 one.2 ∙ sym k.fault_is);
    status_is = λ f h. ap status_of h.fault_is;
  }

  pub all_fixed_is : (fixings : Environment) (last : ℤ) → IsStage (Unit {0}) (all_fixed d fixings last entries)
  all_fixed_is fixings last = record {
    excludes = λ a f p h. fixed_or_not d last entries fixings h.place p h.first;
    one_fault = λ f g h k.
        (let one = one_missing d last entries fixings h.place k.place h.first k.first in
        h.fault_is ∙ ap (λ (x : Place). fault.Missing (label_name d x.label) x.day) one ∙ sym k.fault_is);
    status_is = λ f h. ap status_of h.fault_is;
  }

same_first : (d : Declarations) (last : ℤ) (one other : Environment) → HoldSame one other
    → (entries : List (Name × Contract)) (place : Place) → IsFirstMissing d one last entries place → IsFirstMissing d other last entries place
same_first d last one other same entries place h = record {
  before = h.before;
  entry = h.entry;
  after = h.after;
  split = h.split;
  fixed = same_fixed d last other one (λ q. sym (same q)) h.before h.fixed;
  missing = sym (same_missing d one other last h.entry.1 same) ∙ h.missing;
}

pub fixed_alike : (d : Declarations) (last : ℤ) (entries : List (Name × Contract)) (one other : Environment) (next more : Course) → HoldSame one other → Alike next more
    → Alike (behind (all_fixed d one last entries) (λ _. next)) (behind (all_fixed d other last entries) (λ _. more))
fixed_alike d last entries one other next more same alike =
    alike_behind (Unit {0}) (all_fixed d one last entries) (all_fixed d other last entries) (λ _. next) (λ _. more)
    (record {
      status = refl;
      passes = λ a p. same_fixed d last other one (λ q. sym (same q)) entries p;
      back = λ a p. same_fixed d last one other same entries p;
      faults = λ f h. record { place = h.place; first = same_first d last one other same entries h.place h.first; fault_is = h.fault_is };
    }) (λ a p. alike)
