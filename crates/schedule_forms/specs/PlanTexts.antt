-- The first fault of bytes that are no text of a schedule file. In the first line and the declarations the same is expected
-- as in portfolios; behind them, over the declarations that were made, plans are expected.
use Rattle.std.specs.Prelude.{◌≡◌, ◌-◌, ℕ, List, [], ◌∷◌, Some, Result, Ok, Err, codes, length}
use Rattle.std.specs.Str.{IsUtf8, IsValidUpTo}
use Rattle.term_model.specs.Declarations.{Declarations}
use Rattle.contract_grammar.specs.Tokens.{Tok, tokens}
use Rattle.contract_parse.specs.Lines.{line_at, column_at}
use Rattle.contract_grammar.specs.Versions.{One}
use Rattle.contract_grammar.specs.Names.{declared_by, nothing_declared}
use Rattle.contract_grammar.specs.Spelling.{◌⨟◌}
use Rattle.contract_grammar.specs.Statements.{decls}
use Rattle.contract_parse.specs.Expecting.{AnyTokens, Expected, Stops, TheMark, TheVersion, TheWord, decls_expected, run}
use Rattle.contract_grammar.specs.declared.faults.TextKind.{TextKind}
use Rattle.contract_grammar.specs.declared.faults.TextKind.TheVariants.{Utf8}
use Rattle.contract_grammar.specs.declared.faults.TextFault.{TextFault}
use Rattle.contract_parse.specs.declared.faults.Refusal.{Refusal}
use Rattle.contract_parse.specs.declared.faults.PartErr.{PartErr}
use Rattle.contract_parse.specs.declared.faults.PartErr.TheVariants as read_err
use Rattle.contract_parse.specs.declared.faults.ParseErr.{ParseErr}
use Rattle.contract_parse.specs.declared.faults.ParseErr.TheVariants as err
use Rattle.schedule_forms.specs.declared.plan_file.PlanFile.{PlanFile}
use Rattle.schedule_forms.specs.PlanBooks.{PlanBook, plan_book}
use Rattle.schedule_forms.specs.PlanSpelling.{PlanText, first_line, plan_file}
use Rattle.schedule_forms.specs.PlanExpecting.{plan_fault, plan_expected}

-- the first line, and the declarations behind it
abbrev pub heading_expected : List Expected → List Expected
heading_expected ps = TheWord (codes "schedules") ∷ TheVersion ∷ TheMark (codes ";") ∷ decls_expected One ps

-- these declarations of version 1 stand before these tokens, and their lines end there whatever may stand behind them
pub record Heading (ts : List Tok) (d : Declarations) (rest : List Tok) : Type 0 where
  pub version : d.version ≡ 1
  pub spelled : (first_line ⨟ decls d) ts rest
  pub whole : (ps : List Expected) → run nothing_declared (heading_expected ps) ts ≡ run (declared_by d []) ps rest

-- the first token that is refused: before the plans, or in them
pub data FirstRefusal (ts : List Tok) : Refusal → Type 0 where
  in_heading : {r : Refusal} → run nothing_declared (heading_expected (AnyTokens ∷ [])) ts ≡ Stops r.kind r.left → FirstRefusal ts r
  in_plans : {r : Refusal} {d : Declarations} {rest : List Tok}
      → Heading ts d rest → plan_fault [] (plan_expected d) rest ≡ Some r → FirstRefusal ts r

-- the kind and the position of the first fault; what is no UTF-8 comes before all
pub data FirstPlanFault (bytes : List ℕ) : TextKind → ℕ → Type 0 where
  no_utf8 : {at : ℕ} → (IsUtf8 bytes → ⊥) → IsValidUpTo bytes at → FirstPlanFault bytes Utf8 at
  refused : {r : Refusal} → IsUtf8 bytes → FirstRefusal (tokens bytes) r → FirstPlanFault bytes r.kind (length bytes - r.left)

-- the first fault of the bytes, with its line and column
pub record IsPlanFault (bytes : List ℕ) (f : TextFault) : Type 0 where
  pub at : ℕ
  pub first : FirstPlanFault bytes f.kind at
  pub line : f.line ≡ line_at bytes at
  pub column : f.column ≡ column_at bytes at

-- the schedule file of the text, or, just where the bytes are no text, their first fault
abbrev pub PlanAnswers : List ℕ → Result PlanFile ParseErr → Type 0
PlanAnswers bytes (Ok file) = PlanText bytes (plan_book file)
PlanAnswers bytes (Err (err.Text f)) = IsPlanFault bytes f × ((b : PlanBook) → PlanText bytes b → ⊥)
PlanAnswers bytes (Err err.NoMemory) = Unit {0}

-- the same of tokens, for their reader
abbrev pub ReadsPlans : List Tok → Result PlanFile PartErr → Type 0
ReadsPlans ts (Ok file) = plan_file (plan_book file) ts []
ReadsPlans ts (Err (read_err.Refused r)) = FirstRefusal ts r
ReadsPlans ts (Err read_err.NoMemory) = Unit {0}
