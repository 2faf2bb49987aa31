-- A portfolio's text that is read a contract at a time: what has been read, and what comes next.
use Rattle.std.specs.Prelude.{◌≡◌, ◌≤◌, ◌<◌, ◌^◌, ◌∷◌, ◌++◌, ℕ, [], List, Option, Some, None, Result, Ok, Err, false, length}
use Rattle.std.specs.Map.{keys_of}
use Rattle.std.specs.Str.{IsUtf8}
use Rattle.term_model.specs.Declarations.{Declarations, declarations}
use Rattle.term_model.specs.Instances.{HasSmallSums}
use Rattle.term_model.specs.Sizes.{height_of_contract, nodes_of_contract}
use Rattle.term_model.specs.Terms.{Contract, contract}
use Rattle.term_model.specs.WellFormed.{IsClosed}
use Rattle.term_model.specs.declared.decls.Decls.{Decls}
use Rattle.term_model.specs.declared.name.Name.{Name}
use Rattle.contract_grammar.specs.Tokens.{Tok, tokens}
use Rattle.contract_grammar.specs.Versions.{version_of}
use Rattle.contract_grammar.specs.Names.{declared_by, is_declared, nothing_declared}
use Rattle.contract_grammar.specs.Spelling.{Part, ◌⨟◌, contr, end}
use Rattle.contract_grammar.specs.Statements.{Entry, Repeat, contract_line, portfolio}
use Rattle.contract_parse.specs.Expecting.{Fails, expected_behind, run, text_expected}
use Rattle.contract_parse.specs.Reading.{tokens_ahead}
use Rattle.contract_parse.specs.TextFaults.{Tells}
use Rattle.contract_grammar.specs.Texts.{Text}
use Rattle.contract_parse.specs.declared.faults.ParseErr.{ParseErr}
use Rattle.contract_parse.specs.declared.faults.PartErr.{PartErr}
use Rattle.contract_parse.specs.declared.next_contracts.ContractReader.{ContractReader}
use Rattle.contract_parse.specs.declared.next_contracts.NextContract.{NextContract}

-- a contract of a text, as it may be tried
pub record IsSoundContract (d : Declarations) (c : Contract) : Type 0 where
  pub closed : IsClosed d c
  pub low : height_of_contract c ≤ 200
  pub small : nodes_of_contract c < 2 ^ 32
  pub sums : HasSmallSums c

-- the lines of contracts behind these, to the end of the text
abbrev pub further_contracts : Declarations → List (Name × Contract) → List (Name × Contract) → Part
further_contracts d before after =
    Repeat (Entry (contract_line (declared_by d []))) before after ⨟ end

-- tokens spell a contract, with the names of declarations
pub record HasTokens (d : Declarations) (c : Contract) : Type 0 where
  pub before : List Tok
  pub behind : List Tok
  pub spelled : contr (declared_by d []) [] c before behind

-- of a text with these declarations so many contracts are read: what is expected goes on from here,
-- and what follows completes it
pub record IsReadTo (bytes : List ℕ) (d : Declarations) (entries : List (Name × Contract))
    (reader : ContractReader) : Type 0 where
  pub text : reader.text.bytes.now ≡ bytes
  pub utf8 : IsUtf8 bytes
  pub short : length bytes ≤ 16_777_216
  pub within : length reader.ahead.after.now ≤ length bytes
  pub named : keys_of entries ≡ reader.names.keys
  pub follows :
      run nothing_declared text_expected (tokens bytes)
      ≡ run (declared_by d reader.names.keys) (expected_behind (version_of d.version))
      (tokens_ahead reader.ahead)
  pub completed :
      (all : List (Name × Contract))
      → further_contracts d entries all (tokens_ahead reader.ahead) []
      → portfolio (record { declarations = d; contracts = all }) (tokens bytes) []

-- the contract behind these
pub record IsNext (bytes : List ℕ) (d : Declarations) (entries : List (Name × Contract))
    (after : ContractReader) (next : NextContract) : Type 0 where
  pub read : IsReadTo bytes d (entries ++ (next.name.now, contract next.contr) ∷ []) after
  pub sound : IsSoundContract d (contract next.contr)
  pub spelled : HasTokens d (contract next.contr)
  pub new : is_declared (keys_of entries) next.name.now ≡ false

abbrev pub AnswersNext :
    List ℕ → Declarations → List (Name × Contract) → ContractReader
    → Result (Option NextContract) ParseErr → Type 0
AnswersNext bytes d entries after (Ok (Some next)) = IsNext bytes d entries after next
AnswersNext bytes d entries after (Ok None) =
    Text bytes (record { declarations = d; contracts = entries })
AnswersNext bytes d entries after (Err e) = Tells bytes e

-- the same while a fault has no line and no column
abbrev pub ReadsNext :
    List ℕ → Declarations → List (Name × Contract) → ContractReader
    → Result (Option NextContract) PartErr → Type 0
ReadsNext bytes d entries after (Ok (Some next)) = IsNext bytes d entries after next
ReadsNext bytes d entries after (Ok None) =
    Text bytes (record { declarations = d; contracts = entries })
ReadsNext bytes d entries after (Err e) = Fails e (run nothing_declared text_expected (tokens bytes))

-- whatever has been read of whichever text
abbrev pub GoesOn :
    Declarations → ContractReader → ContractReader → Result (Option NextContract) ParseErr → Type 0
GoesOn d before after result =
    (bytes : List ℕ) (entries : List (Name × Contract)) → IsReadTo bytes d entries before
    → AnswersNext bytes d entries after result

abbrev pub ReadsOn :
    Declarations → ContractReader → ContractReader → Result (Option NextContract) PartErr → Type 0
ReadsOn d before after result =
    (bytes : List ℕ) (entries : List (Name × Contract)) → IsReadTo bytes d entries before
    → ReadsNext bytes d entries after result

-- the reader stands where it stood
pub record IsUnmoved (before after : ContractReader) : Type 0 where
  pub text : after.text ≡ before.text
  pub names : after.names.keys ≡ before.names.keys
  pub ahead : after.ahead ≡ before.ahead

abbrev pub StartsContracts : List ℕ → Result (Decls × ContractReader) ParseErr → Type 0
StartsContracts bytes (Ok start) = IsReadTo bytes (declarations start.0) [] start.1
StartsContracts bytes (Err e) = Tells bytes e

-- these are the contracts of whichever text has none before them
abbrev pub HasContracts : Declarations → ContractReader → List (Name × Contract) → Type 0
HasContracts d start all =
    (bytes : List ℕ) → IsReadTo bytes d [] start
    → Text bytes (record { declarations = d; contracts = all })

-- whichever text has contracts that go on so is refused
abbrev pub Refuses : Declarations → ContractReader → ParseErr → Type 0
Refuses d start e = (bytes : List ℕ) → IsReadTo bytes d [] start → Tells bytes e

-- how many bytes of the text are not yet read
abbrev pub bytes_left : ContractReader → ℕ
bytes_left reader = length reader.ahead.after.now
