-- Laws on fronts of schedule files: a fault that stands at a token leaves a front before it, and is of Syntax exactly where
-- the token ends all fronts; a text is whole; a front is what some text goes on from, names and limits aside.
use Rattle.std.specs.Prelude.{◌≡◌, ◌-◌, ◌↔◌, ℕ, List, [], ◌∷◌, ◌++◌, length}
use Rattle.std.specs.Str.{IsUtf8}
use Rattle.contract_grammar.specs.Tokens.{Tok, tokens}
use Rattle.contract_parse.specs.Lines.{line_at, column_at}
use Rattle.contract_grammar.specs.declared.faults.TextKind.{TextKind}
use Rattle.contract_grammar.specs.declared.faults.TextKind.TheVariants.{Syntax}
use Rattle.contract_grammar.specs.declared.faults.TextFault.{TextFault}
use Rattle.schedule_forms.specs.PlanBooks.{PlanBook}
use Rattle.schedule_forms.specs.PlanSpelling.{PlanText}
use Rattle.schedule_forms.specs.PlanTexts.{IsPlanFault}
use Rattle.schedule_forms.specs.PlanFronts.{IsPlanFront, IsWholePlanFile}

-- the tokens before this one are a front, and its fault is of Syntax exactly where with it they are none
pub record EndsPlanFront (before : List Tok) (t : Tok) (kind : TextKind) : Type 0 where
  pub front : IsPlanFront before
  pub syntax : (kind ≡ Syntax) ↔ (IsPlanFront (before ++ t ∷ []) → ⊥)

-- the token of a text that is refused where so many bytes are left
pub record RefusedPlanToken (bytes : List ℕ) (kind : TextKind) (left : ℕ) : Type 0 where
  pub before : List Tok
  pub token : Tok
  pub after : List Tok
  pub are : tokens bytes ≡ before ++ token ∷ after
  pub bytes_left : token.left ≡ left
  pub ends : EndsPlanFront before token kind

-- the token of a text at which it has its fault
pub record FaultyPlanToken (bytes : List ℕ) (f : TextFault) : Type 0 where
  pub left : ℕ
  pub refused : RefusedPlanToken bytes f.kind left
  pub line : f.line ≡ line_at bytes (length bytes - left)
  pub column : f.column ≡ column_at bytes (length bytes - left)

abbrev pub PlanFaultsEndFronts : Type 0
PlanFaultsEndFronts = (bytes : List ℕ) (f : TextFault) → IsUtf8 bytes → IsPlanFault bytes f → FaultyPlanToken bytes f

-- the tokens of a schedule file's text are whole
abbrev pub PlanTextsAreWhole : Type 0
PlanTextsAreWhole = (bytes : List ℕ) (b : PlanBook) → PlanText bytes b → IsWholePlanFile (tokens bytes)

-- a front is what goes on to a whole
abbrev pub PlanFrontsGoOn : Type 0
PlanFrontsGoOn = (ts : List Tok) → IsPlanFront ts ↔ ((more : List Tok) × IsWholePlanFile (ts ++ more))
