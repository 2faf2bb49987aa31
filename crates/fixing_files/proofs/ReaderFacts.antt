-- A reader after one read more: the record that it found is the next of the table, and where it found none, those that were
-- read are all.
use Rattle.std.proofs.Common.{Bor, ◌≡◌, ◌∙◌, ℕ, ◌+◌, Bool, true, false, List, [], ◌∷◌, ◌++◌, length, Some, ap, inl, subst, sym}
use Rattle.csv.specs.Reading.{ReadRecord, default_config, strip_bom, took_first}
use Rattle.csv.specs.declared.parser.State.TheVariants as st
use Rattle.csv.specs.declared.reader.Reader.{Reader}
use Rattle.csv.proofs.ReadFacts.{rows-end, rows-more}
use Rattle.fixing_files.specs.Readers.{HasRead}
use Rattle.fixing_files.specs.Records.{Fields}
use Rattle.fixing_files.specs.Tables.{Table, record_at, table_of}
use Rattle.fixing_files.proofs.ReachedFacts.{Follows, are_all, are_first, follows_last}
use Rattle.fixing_files.proofs.TableFacts.{record_seam}

-- what one read does
abbrev pub ReadsOne : Reader (Bor (List ℕ)) → Reader (Bor (List ℕ)) → Bool → Fields → Type 0
ReadsOne old new found f = ReadRecord (λ s. Some s.now) old new found f

pub read_more : (text : List ℕ) (t : Table) (old new : Reader (Bor (List ℕ))) (f : Fields) → HasRead text t old → ReadsOne old new true f → took_first new ≡ true → HasRead text (t ++ f ∷ []) new
read_more text t old new f h s first =
    let m = rows-more (λ (s : Bor (List ℕ)). Some s.now) old new f default_config st.StartRecord (strip_bom text) h.rest t h.config h.source h.reached s in
    record { rest = m.0; untrimmed = s.3 ∙ h.untrimmed; ready = inl first; config = s.2 ∙ h.config; source = m.1; reached = m.2 }

pub read_all : (text : List ℕ) (t : Table) (old new : Reader (Bor (List ℕ))) (f : Fields) → HasRead text t old → ReadsOne old new false f → t ≡ table_of text
read_all text t old new f h s =
    let none = rows-end (λ (s : Bor (List ℕ)). Some s.now) old new f default_config h.rest h.config h.source s in
    are_all default_config (strip_bom text) t old.state h.rest h.reached none

pub read_first : (text : List ℕ) (t : Table) (reader : Reader (Bor (List ℕ))) → HasRead text t reader → Follows t (table_of text)
read_first text t reader h = are_first default_config (strip_bom text) t reader.state h.rest h.reached

-- the last record that was read has its number in the table
pub last_stands : (text : List ℕ) (t : Table) (f : Fields) (reader : Reader (Bor (List ℕ))) (n : ℕ) → HasRead text (t ++ f ∷ []) reader → n ≡ length t → record_at (table_of text) (n + 1) ≡ Some f
last_stands text t f reader n h is =
    let first = read_first text (t ++ f ∷ []) reader h in
    let all = follows_last t f (table_of text) first in
    let stands : record_at (table_of text) (length t + 1) ≡ Some f = ap (λ (table : Table). record_at table (length t + 1)) all ∙ record_seam t f first.rest in
    subst (λ (k : ℕ). record_at (table_of text) (k + 1) ≡ Some f) (sym is) stands
