-- Plain rows: their fields stand between commas, without quotation marks. These are for the private steps of reading.
use Rattle.std.specs.Prelude.{◌≡◌, ◌⊎◌, ℕ, Some, Ok, List, [], ◌∷◌, ◌++◌, length, slice_get, true}
use Rattle.csv.specs.Reading.{default_config, records}
use Rattle.term_model.specs.Declarations.{Declarations}
use Rattle.term_model.specs.Environments.{Place, label_of}
use Rattle.term_model.specs.Limits.{is_label}
use Rattle.term_model.specs.declared.label.Label.{Label}
use Rattle.term_model.specs.declared.values.Value.{Value}
use Rattle.fixing_files.specs.Gathering.{Collects}
use Rattle.fixing_files.specs.Records.{Fields, label_named, said, value_said}
use Rattle.fixing_files.specs.Rows.{AreRuns}
use Rattle.fixing_files.specs.Tables.{Table}
use Rattle.fixing_files.specs.Words.{IsBare}
use Rattle.fixing_files.specs.declared.rows.Run.{Run}

-- the records of a text that has no byte order mark
abbrev pub rows_of : List ℕ → Table
rows_of text = records default_config text

-- a line ends here, by its mark or with the text, and then the rest follows
abbrev pub EndsLine : List ℕ → List ℕ → Type 0
EndsLine text rest = ((text ≡ []) × (rest ≡ [])) ⊎ (text ≡ 10 ∷ rest) ⊎ (text ≡ 13 ∷ 10 ∷ rest)

-- a text begins with a word that ends its line
pub record BeginsWithLast (text word rest : List ℕ) : Type 0 where
  pub after : List ℕ
  pub split : text ≡ word ++ after
  pub ends : EndsLine after rest

-- each name is that of one label, and is written without quotation marks
abbrev pub HasPlainNames : Declarations → Type 0
HasPlainNames d =
    (l : ℕ) (name : List ℕ) (label : Label)
    → slice_get d.labels l ≡ Some (name, label) → IsBare name × (label_named d name ≡ Some l)

-- a text begins with the name of a label and a comma
pub record BeginsWithLabel (d : Declarations) (text : List ℕ) (l : ℕ) (label : Label) (rest : List ℕ) : Type 0 where
  pub name : List ℕ
  pub split : text ≡ name ++ 44 ∷ rest
  pub bare : IsBare name
  pub number : label_named d name ≡ Some l
  pub declared : label_of d l ≡ Some label
  pub limits : is_label label ≡ true

-- a text begins with a value of a label that ends its line
pub record BeginsWithValue (label : Label) (text : List ℕ) (v : Value) (rest : List ℕ) : Type 0 where
  pub word : List ℕ
  pub last : BeginsWithLast text word rest
  pub bare : IsBare word
  pub said : value_said (Some label) word ≡ Ok v

-- the first record of a text says that v is fixed at q
pub record BeginsWithRow (d : Declarations) (text : List ℕ) (q : Place) (v : Value) (rest : List ℕ) : Type 0 where
  pub fields : Fields
  pub split : rows_of text ≡ fields ∷ rows_of rest
  pub meaning : said d fields ≡ Ok (q, v)

-- the first n records of a table, of which none breaks a rule by itself, say these rows, and more follow
pub record IsFront (d : Declarations) (table : Table) (n : ℕ) (runs : List Run) (more : Table) : Type 0 where
  pub read : Table
  pub split : table ≡ read ++ more
  pub counted : n ≡ length read
  pub are_runs : AreRuns runs
  pub collects : Collects d table n runs
