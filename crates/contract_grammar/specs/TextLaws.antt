-- Laws on what texts are: what a text holds is bounded by its length, its numbers are within the limits of texts, and its
-- contracts are closed.
use Rattle.std.specs.Prelude.{◌≡◌, ℕ, ◌+◌, ◌*◌, ◌≤◌, ◌<◌, true, List, All, length}
use Rattle.std.specs.List.{sum_by}
use Rattle.term_model.specs.Sizes.{height_of_contract, nodes_of_contract}
use Rattle.term_model.specs.Declarations.{Declarations}
use Rattle.term_model.specs.Books.{Book}
use Rattle.term_model.specs.Limits.{have_decimals, is_a_version}
use Rattle.term_model.specs.WellFormed.{IsClosed}
use Rattle.term_model.specs.Instances.{HasSmallSums}
use Rattle.contract_grammar.specs.Tokens.{Tok}
use Rattle.contract_grammar.specs.Versions.{version_of}
use Rattle.contract_grammar.specs.Sums.{HasCountsOfTexts}
use Rattle.contract_grammar.specs.Statements.{decls}
use Rattle.contract_grammar.specs.Payments.{payments_in}
use Rattle.contract_grammar.specs.Texts.{Text}

-- each asset that is spelled has at most the decimals of the amounts, in a version other than 2 just as many
abbrev pub AssetsHaveDecimals : Type 0
AssetsHaveDecimals = (d : Declarations) (ts rest : List Tok) → decls d ts rest → have_decimals d.version d.amounts d.assets ≡ true

-- a text is one of version 1 or 2
abbrev pub TextsHaveVersions : Type 0
TextsHaveVersions = (bytes : List ℕ) (b : Book) → Text bytes b → is_a_version b.declarations.version ≡ true

abbrev pub ContractsFitText : Type 0
ContractsFitText = (bytes : List ℕ) (b : Book) → Text bytes b → length b.contracts ≤ length bytes

abbrev pub NodesFitText : Type 0
NodesFitText = (bytes : List ℕ) (b : Book) → Text bytes b → sum_by (λ entry. nodes_of_contract entry.1) b.contracts ≤ length bytes

pub record NamesFit (bytes : List ℕ) (d : Declarations) : Type 0 where
  pub parties : length d.parties ≤ length bytes
  pub assets : length d.assets ≤ length bytes
  pub labels : length d.labels ≤ length bytes
  pub templates : length d.templates ≤ length bytes

abbrev pub NamesFitText : Type 0
NamesFitText = (bytes : List ℕ) (b : Book) → Text bytes b → NamesFit bytes b.declarations

-- a contract of a text names only what is declared or bound round it, and at most 200 terms are open at once
abbrev pub ContractsAreClosed : Type 0
ContractsAreClosed =
    (bytes : List ℕ) (b : Book) → Text bytes b
    → All (λ entry. IsClosed b.declarations entry.1 × (height_of_contract entry.1 ≤ 200)) b.contracts

-- the sums of a text are within the limits of sums
abbrev pub TextsHaveSmallSums : Type 0
TextsHaveSmallSums = (bytes : List ℕ) (b : Book) → Text bytes b → All (λ entry. HasSmallSums entry.1) b.contracts

-- and more: a sum of a text stands under version 2, is just what items make, and is no number and no name
abbrev pub TextsHaveCounts : Type 0
TextsHaveCounts = (bytes : List ℕ) (b : Book) → Text bytes b → All (λ entry. HasCountsOfTexts (version_of b.declarations.version) entry.1) b.contracts

-- `pay(E,A,B)` takes 10 bytes, and each further payment a `both(`, `,` and `)` or more
abbrev pub PaymentsFitText : Type 0
PaymentsFitText = (bytes : List ℕ) (b : Book) → Text bytes b → All (λ entry. 17 * payments_in entry.1 ≤ length bytes + 7) b.contracts

-- 16 MiB is the most that a text may have
abbrev pub PaymentsAreBounded : Type 0
PaymentsAreBounded =
    (bytes : List ℕ) (b : Book) → Text bytes b → length bytes ≤ 16_777_216 → All (λ entry. payments_in entry.1 < 1_000_000) b.contracts
