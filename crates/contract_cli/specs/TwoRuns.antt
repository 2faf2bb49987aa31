-- Laws of two runs, of which the second reads what the first has printed. Code that `payoff` prints has by `value` the present
-- value of the contract (Annenkov and Elsman, PPDP 2018); and a portfolio that `advance` prints is left by a later `advance` with
-- contracts that carry the first ones (Bahr, Berthold and Elsman, ICFP 2015). What `migrate` prints is the same portfolio in
-- version 2.
use Rattle.std.specs.Prelude.{◌≡◌, ◌++◌, ℕ, false, List, Some}
use Rattle.term_model.specs.Books.{Book}
use Rattle.term_model.specs.Environments.{Extends}
use Rattle.contract_grammar.specs.Texts.{Text}
use Rattle.contract_print.specs.Canon.{IsCanon}
use Rattle.contract_print.specs.Migrated.{migrated}
use Rattle.contract_print.specs.Spellable.{IsSpellableBook}
use Rattle.valuation_commands.specs.ScenariosPromise.{inquiry_in}
use Rattle.command_words.specs.Commands.{Advance, AdvanceAsked, Check, Migrate, Payoff, PayoffAsked, Scenarios, ScenariosAsked, Value, ValueAsked}
use Rattle.contract_cli.specs.AdvanceLaws.{IsCarriedBook}
use Rattle.contract_cli.specs.Headline.{AreWorthIn, HasAdvanced, HasCompiled, HasMigrated, HasTotalled, HasValued, IsAcceptedAtNumbers, IsPresentValue, SaysTheSame}
use Rattle.contract_cli.specs.PayoffLaws.{counted}
use Rattle.contract_cli.specs.RunLaws.{IsOrNoMemory, IsReadWhole}
use Rattle.contract_cli.specs.RunPromise.{Meets, Names}
use Rattle.contract_cli.specs.Seen.{Edge, SinkLeft}
use Rattle.command_courses.specs.declared.status.Status.{Status}
use Rattle.command_courses.specs.declared.status.Status.TheVariants as status

-- these bytes were written, where it is told what a sink holds
pub record Printed (sink : SinkLeft) (text : List ℕ) : Type 0 where
  pub before : List ℕ
  pub held : sink.taken_before ≡ Some before
  pub holds : sink.taken_after ≡ Some (before ++ text)

-- a run has printed what another finds in a file
pub record Passes (first second : Edge) (file : List ℕ) : Type 0 where
  pub text : List ℕ
  pub printed : Printed first.sink text
  pub told : second.files.contents file ≡ Some text

-- ---- `payoff`, and then `value`

-- `payoff` has printed the code of a contract
pub record Compiles (words : List (List ℕ)) (edge : Edge) (asked : PayoffAsked) : Type 0 where
  pub named : Names words (Payoff asked)
  pub done : Meets words edge status.Done

-- `value` has printed a number
pub record Values (words : List (List ℕ)) (edge : Edge) (asked : ValueAsked) : Type 0 where
  pub named : Names words (Value asked)
  pub done : Meets words edge status.Done

-- the code that `value` has read is that which `payoff` has written, on the declarations of the portfolio, and the number that
-- `value` has written is the present value of the named contract of the portfolio, under the portfolio's own declarations
pub record ValuesContract (first : Edge) (compiled : PayoffAsked) (second : Edge) (asked : ValueAsked) : Type 0 where
  pub compiling : HasCompiled first compiled
  pub valuing : HasValued second asked
  pub same_code : valuing.book ≡ compiling.code.file
  pub worth : IsPresentValue valuing.book asked valuing.inputs valuing.can compiling.book.declarations valuing.amount compiling.code.contr

abbrev pub PrintedCodeIsValued : Type 0
PrintedCodeIsValued =
    (words more : List (List ℕ)) (first second : Edge) (compiled : PayoffAsked) (asked : ValueAsked)
    → Compiles words first compiled → compiled.plain ≡ false → Values more second asked → Passes first second asked.files.code
    → ValuesContract first compiled second asked

-- what `payoff` has written is for the words of `value` a text of code, which is not refused at numbers at which the contract is accepted
pub record IsTaken (first : Edge) (compiled : PayoffAsked) (asked : ValueAsked) (s : Status) : Type 0 where
  pub compiling : HasCompiled first compiled
  pub is_code : s ≡ status.BadText → ⊥
  pub not_refused : IsAcceptedAtNumbers asked compiling.book.declarations compiling.code.contr → s ≡ status.Refused → ⊥

abbrev pub PrintedCodeIsTaken : Type 0
PrintedCodeIsTaken =
    (words more : List (List ℕ)) (first second : Edge) (s : Status) (compiled : PayoffAsked) (asked : ValueAsked) (inputs : List (List ℕ))
    → Compiles words first compiled → Meets more second s → IsReadWhole more second (Value asked) inputs
    → Passes first second asked.files.code → IsTaken first compiled asked s

-- ---- `payoff`, and then `scenarios`

-- `scenarios` has printed values and their total
pub record Totals (words : List (List ℕ)) (edge : Edge) (asked : ScenariosAsked) : Type 0 where
  pub named : Names words (Scenarios asked)
  pub done : Meets words edge status.Done

-- the code that `scenarios` has read is that which `payoff` has written, and each value that `scenarios` has written is what the named
-- contract of the portfolio is worth in its scenario, under the portfolio's own declarations: what is left to pay of it, or all of
-- it where the code is plain
pub record TotalsContract (first : Edge) (compiled : PayoffAsked) (second : Edge) (asked : ScenariosAsked) : Type 0 where
  pub compiling : HasCompiled first compiled
  pub totalling : HasTotalled second asked
  pub same_code : totalling.book ≡ compiling.code.file
  pub worth :
      AreWorthIn compiling.book.declarations asked.value (inquiry_in totalling.can.asks).asked totalling.can.asks.set
      totalling.totals.values.items compiling.code.contr (counted compiled.plain)

abbrev pub PrintedCodeIsTotalled : Type 0
PrintedCodeIsTotalled =
    (words more : List (List ℕ)) (first second : Edge) (compiled : PayoffAsked) (asked : ScenariosAsked)
    → Compiles words first compiled → Totals more second asked → Passes first second asked.value.files.code
    → TotalsContract first compiled second asked

-- what `payoff` has written is for `scenarios` a text of code, which is not refused at numbers at which the contract is accepted
abbrev pub PrintedCodeIsTakenByScenarios : Type 0
PrintedCodeIsTakenByScenarios =
    (words more : List (List ℕ)) (first second : Edge) (s : Status) (compiled : PayoffAsked) (asked : ScenariosAsked) (inputs : List (List ℕ))
    → Compiles words first compiled → Meets more second s → IsReadWhole more second (Scenarios asked) inputs
    → Passes first second asked.value.files.code → IsTaken first compiled asked.value s

-- ---- `advance`, and then `advance`

-- `advance` has printed a portfolio
pub record Advances (words : List (List ℕ)) (edge : Edge) (asked : AdvanceAsked) : Type 0 where
  pub named : Names words (Advance asked)
  pub done : Meets words edge status.Done

-- the portfolio that the second run has read is the one that the first has left; and the contracts that the second has left
-- carry those that the first has read to the later day, where the later fixings extend the first ones
pub record AdvancesOn (first : Edge) (asked : AdvanceAsked) (second : Edge) (later : AdvanceAsked) : Type 0 where
  pub earlier : HasAdvanced first asked
  pub next : HasAdvanced second later
  pub same_portfolio : next.book ≡ earlier.rest.rest
  pub carries : Extends earlier.rest.fixings next.rest.fixings → IsCarriedBook earlier.book next.rest.fixings next.rest.day next.rest.rest

abbrev pub AdvancedTextsAdvance : Type 0
AdvancedTextsAdvance =
    (words more : List (List ℕ)) (first second : Edge) (asked later : AdvanceAsked)
    → Advances words first asked → Advances more second later → Passes first second later.portfolio
    → AdvancesOn first asked second later

-- `check` accepts each contract of what `advance` has printed: it ends well, or for want of memory
abbrev pub AdvancedTextsAreAccepted : Type 0
AdvancedTextsAreAccepted =
    (words more : List (List ℕ)) (first second : Edge) (s : Status) (asked : AdvanceAsked) (file : List ℕ) (inputs : List (List ℕ))
    → Advances words first asked → Meets more second s → IsReadWhole more second (Check file) inputs → Passes first second file
    → IsOrNoMemory status.Done s

-- ---- `migrate`, and then any command

-- `migrate` has printed a portfolio
pub record Migrates (words : List (List ℕ)) (edge : Edge) (file : List ℕ) : Type 0 where
  pub named : Names words (Migrate file)
  pub done : Meets words edge status.Done

-- what is printed is a text of the same portfolio in version 2
pub record IsTextOfMigrated (first : Edge) (file : List ℕ) (printed : List ℕ) : Type 0 where
  pub migrating : HasMigrated first file
  pub spelled : Text printed (migrated migrating.book)

abbrev pub MigratedTextsAreTexts : Type 0
MigratedTextsAreTexts =
    (words : List (List ℕ)) (first second : Edge) (file from : List ℕ)
    → Migrates words first file → (passes : Passes first second from) → IsTextOfMigrated first file passes.text

-- a portfolio in version 2 has the verdicts and the flow lines that it has as it is
abbrev pub MigratedSayTheSame : Type 0
MigratedSayTheSame = (b : Book) → SaysTheSame b

-- and the text of what was migrated is migrated to itself, where texts can stand for the portfolio
abbrev pub MigratedStay : Type 0
MigratedStay =
    (b rest : Book) (text more : List ℕ)
    → IsSpellableBook b → IsCanon text (migrated b) → Text text rest → IsCanon more (migrated rest) → more ≡ text
