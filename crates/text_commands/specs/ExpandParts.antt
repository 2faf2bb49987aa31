-- What the parts of `expand` make of plans: the contracts that they are written for, under their
-- names, where these are accepted, and their text.
use Rattle.std.specs.Prelude.{◌≡◌, ◌++◌, [], ℕ, List, map, Result}
use Rattle.std.specs.List.{All}
use Rattle.term_model.specs.declared.name.Name.{Name}
use Rattle.term_model.specs.declared.terms.Contr.{Contr}
use Rattle.term_model.specs.Acceptance.{IsAccepted}
use Rattle.term_model.specs.Books.{Book}
use Rattle.term_model.specs.Declarations.{Declarations}
use Rattle.term_model.specs.Terms.{Contract, contract}
use Rattle.contract_grammar.specs.Names.{declared_by}
use Rattle.contract_print.specs.Canon.{IsCanon, contract_text}
use Rattle.contract_grammar.specs.Writable.{IsWritableTerm}
use Rattle.schedule_forms.specs.DeclaredPlans.{IsPlanOfTexts}
use Rattle.schedule_forms.specs.Expansions.{expansion}
use Rattle.schedule_forms.specs.declared.plans.Plan.{Plan}
use Rattle.used_contracts.specs.AllAccepted.{AreAllAccepted}
use Rattle.used_contracts.specs.AcceptingParts.{IsRefusedOne}
use Rattle.command_courses.specs.Stopping.{AnswersBy}
use Rattle.command_courses.specs.declared.stop.Stop.{Stop}

-- ---- one plan

abbrev pub expanded_entry : Name × Plan → Name × Contract
expanded_entry entry = (entry.0, expansion entry.1)

-- the contract that a plan is written for
pub record IsAcceptedExpansion (d : Declarations) (plan : Plan) (contr : Contr) : Type 0 where
  pub is : contract contr ≡ expansion plan
  pub accepted : IsAccepted d (expansion plan)

abbrev pub AnswersExpansion : Declarations → List ℕ → Plan → Result Contr Stop → Type 0
AnswersExpansion d name plan r =
    AnswersBy (IsAcceptedExpansion d plan) (IsRefusedOne d (name, expansion plan)) r

-- its line is put behind a text
pub record AppendsExpansion (d : Declarations) (name : List ℕ) (plan : Plan)
    (before after : List ℕ) : Type 0 where
  pub line : after ≡ before ++ contract_text (declared_by d []) name (expansion plan)
  pub accepted : IsAccepted d (expansion plan)

abbrev pub AnswersLine :
    Declarations → List ℕ → Plan → List ℕ → List ℕ → Result (Unit {0}) Stop → Type 0
AnswersLine d name plan before after r =
    AnswersBy (λ _. AppendsExpansion d name plan before after) (IsRefusedOne d (name, expansion plan)) r

-- ---- all plans

-- what the plans of a text are
abbrev pub ArePlansOfTexts : Declarations → List (Name × Plan) → Type 0
ArePlansOfTexts d plans = All (λ entry. IsPlanOfTexts d entry.1) plans

abbrev pub AreWritableExpansions : List (Name × Plan) → Type 0
AreWritableExpansions plans = All (λ entry. IsWritableTerm (expansion entry.1)) plans

abbrev pub book_of : Declarations → List (Name × Contract) → Book
book_of d contracts = record { declarations = d; contracts = contracts }

-- the text is that of the portfolio of accepted contracts that plans are written for
pub record ArePrintedExpansions (d : Declarations) (plans : List (Name × Plan))
    (text : List ℕ) : Type 0 where
  pub canon : IsCanon text (book_of d (map expanded_entry plans))
  pub accepted : AreAllAccepted d (map expanded_entry plans)

-- the same of the plans before those that are left
pub record ArePrintedBefore (d : Declarations) (plans left : List (Name × Plan))
    (text : List ℕ) : Type 0 where
  pub entries : List (Name × Contract)
  pub before : entries ++ map expanded_entry left ≡ map expanded_entry plans
  pub canon : IsCanon text (book_of d entries)
  pub accepted : AreAllAccepted d entries
