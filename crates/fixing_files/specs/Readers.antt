-- A reader that has read the first records of a text. This is for the private steps of reading.
use Rattle.std.specs.Prelude.{◌≡◌, ℕ, List, Some}
use denote.Ref.{Bor}
use Rattle.csv.specs.Reading.{Reached, Ready, default_config, reader_config, reader_state, reader_trim, source_of, strip_bom}
use Rattle.csv.specs.declared.parser.State.TheVariants as st
use Rattle.csv.specs.declared.reader.Reader.{Reader}
use Rattle.csv.specs.declared.reader.Trim.TheVariants as trim
use Rattle.fixing_files.specs.Tables.{Table}

-- the records that were read, and the bytes that are left
pub record HasRead (text : List ℕ) (read : Table) (reader : Reader (Bor (List ℕ))) : Type 0 where
  pub rest : List ℕ
  pub untrimmed : reader_trim reader ≡ trim.None
  pub ready : Ready reader
  pub config : reader_config reader ≡ default_config
  pub source : source_of (λ s. Some s.now) reader ≡ Some rest
  pub reached : Reached default_config st.StartRecord (strip_bom text) read (reader_state reader) rest
