-- The front of a table, as plain rows are read, and the records behind it.
use Rattle.std.proofs.Common.{Bor, ◌≡◌, ◌∙◌, inl, inr, ℕ, suc, ◌+◌, ◌≤◌, Bool, true, false, List, [], ◌∷◌, ◌++◌, length, Some, Result, refl, sym, ap, subst, arith, ◌-◌, append_assoc, add-one, slice_get, take, drop, get_or}
use Rattle.std.proofs.lemmas.List.{length-append, take_all}
use Rattle.std.specs.Prelude.{codes, if◌then◌else◌}
use Rattle.csv.specs.Reading.{is_bom, strip_bom}
use Rattle.csv.specs.declared.reader.Reader.{Reader}
use Rattle.term_model.specs.Declarations.{Declarations}
use Rattle.term_model.specs.Environments.{Place}
use Rattle.term_model.specs.declared.values.Value.{Value}
use Rattle.fixing_files.specs.Gathering.{AddsSaid, Collects, row_of}
use Rattle.fixing_files.specs.PlainRows.{BeginsWithLast, BeginsWithRow, IsFront, rows_of}
use Rattle.fixing_files.specs.Readers.{HasRead}
use Rattle.fixing_files.specs.Records.{Fields, header, said}
use Rattle.fixing_files.specs.Rows.{AddsRowAt, AreRuns}
use Rattle.fixing_files.specs.Tables.{Table, record_at, table_of}
use Rattle.fixing_files.specs.declared.faults.RowKind.{RowKind}
use Rattle.fixing_files.specs.declared.rows.Run.{Run}
use Rattle.fixing_files.proofs.GatherFacts.{collects_more, collects_none}
use Rattle.fixing_files.proofs.PlainFacts.{header_row}
use Rattle.fixing_files.proofs.RowFacts.{runs_none, same_itself}
use Rattle.fixing_files.proofs.TableFacts.{record_seam}

pub front_none : (d : Declarations) (table : Table) → IsFront d table 0 [] table
front_none d table = record { read = []; split = refl; counted = refl; are_runs = runs_none; collects = collects_none d table }

pub front_header : (d : Declarations) (more : Table) → IsFront d (header ∷ more) 1 [] more
front_header d more = record {
  read = header ∷ [];
  split = refl;
  counted = refl;
  are_runs = runs_none;
  collects = collects_more d (header ∷ more) 0 header refl [] [] (collects_none d (header ∷ more)) (inl (refl, refl, same_itself []));
}

pub front_more : (d : Declarations) (table : Table) (n : ℕ) (before after : List Run) (text rest : List ℕ) (q : Place) (v : Value)
    → 1 ≤ n → IsFront d table n before (rows_of text) → BeginsWithRow d text q v rest → AreRuns after → AddsRowAt before after q.label (row_of (n + 1) q v)
    → IsFront d table (n + 1) after (rows_of rest)
front_more d table n before after text rest q v below h row runs adds =
    let f = row.fields in
    let all : table ≡ h.read ++ f ∷ rows_of rest = h.split ∙ ap (λ (more : Table). h.read ++ more) row.split in
    let seam : record_at table (length h.read + 1) ≡ Some f = ap (λ (t : Table). record_at t (length h.read + 1)) all ∙ record_seam h.read f (rows_of rest) in
    let stands : record_at table (n + 1) ≡ Some f = ap (λ (k : ℕ). record_at table (k + 1)) h.counted ∙ seam in
    let added : AddsSaid (said d f) (n + 1) before after = subst (λ (s : Result (Place × Value) RowKind). AddsSaid s (n + 1) before after) (sym row.meaning) adds in
    record {
      read = h.read ++ f ∷ [];
      split = all ∙ sym (append_assoc h.read (f ∷ []) (rows_of rest));
      counted = omega (arith, h.counted, length-append h.read (f ∷ []));
      are_runs = runs;
      collects = collects_more d table n f stands before after h.collects (inr (omega arith, added));
    }

-- a byte order mark

pub mark_behind : (text : List ℕ) → 3 ≤ length text → is_bom (get_or text 0 0) (get_or text 1 0) (get_or text 2 0) ≡ true → take (length text - 3) (drop 3 text) ≡ strip_bom text
unfolding strip_bom
mark_behind [] long h = absurd (omega arith)
mark_behind (a ∷ []) long h = absurd (omega arith)
mark_behind (a ∷ b ∷ []) long h = absurd (omega arith)
mark_behind (a ∷ b ∷ c ∷ rest) long h = rw h (take_all (length (a ∷ b ∷ c ∷ rest) - 3) rest (omega arith))

pub mark_missing : (text : List ℕ) → is_bom (get_or text 0 0) (get_or text 1 0) (get_or text 2 0) ≡ false → text ≡ strip_bom text
unfolding strip_bom
mark_missing [] h = refl
mark_missing (a ∷ []) h = refl
mark_missing (a ∷ b ∷ []) h = refl
mark_missing (a ∷ b ∷ c ∷ rest) h = rw h refl

pub not_marked : (text : List ℕ) → length text ≤ length (strip_bom text) → strip_bom text ≡ text
unfolding strip_bom
not_marked [] h = refl
not_marked (a ∷ []) h = refl
not_marked (a ∷ b ∷ []) h = refl
not_marked (a ∷ b ∷ c ∷ rest) h = by (is_bom a b c) h
  where
    by : (marked : Bool) → length (a ∷ b ∷ c ∷ rest) ≤ length (if marked then rest else a ∷ b ∷ c ∷ rest) → (if marked then rest else a ∷ b ∷ c ∷ rest) ≡ a ∷ b ∷ c ∷ rest
    by true k = absurd (omega arith)
    by false k = refl

-- a record behind the front

behind : (front more : Table) (n : ℕ) → slice_get (front ++ more) (length front + n) ≡ slice_get more n
behind [] more n = let at : 0 + n ≡ n = omega arith in ap (slice_get more) at
behind (r ∷ front) more n =
    let at : length (r ∷ front) + n ≡ suc (length front + n) = omega arith in
    ap (slice_get (r ∷ (front ++ more))) at ∙ behind front more n

pub record_behind : (front more : Table) (n : ℕ) → record_at (front ++ more) (length front + n + 1) ≡ record_at more (n + 1)
record_behind front more n =
    ap (record_at (front ++ more)) (add-one (length front + n)) ∙ behind front more n ∙ sym (ap (record_at more) (add-one n))

-- the next record behind a front
pub next_stands : (d : Declarations) (table more : Table) (m n : ℕ) (runs : List Run) (f : Fields) → IsFront d table m runs more → record_at more (n + 1) ≡ Some f
    → record_at table (m + n + 1) ≡ Some f
next_stands d table more m n runs f h stands =
    ap (λ (t : Table). record_at t (m + n + 1)) h.split ∙ ap (λ (k : ℕ). record_at (h.read ++ more) (k + n + 1)) h.counted ∙ record_behind h.read more n ∙ stands

pub all_read : (d : Declarations) (table more : Table) (m n : ℕ) (runs : List Run) → IsFront d table m runs more → n ≡ length more → m + n ≡ length table
all_read d table more m n runs h all = omega (arith, h.counted, ap length h.split, length-append h.read more)

-- the front behind a header
pub front_whole : (d : Declarations) (bytes text rows rest marked : List ℕ) (n : ℕ) (runs : List Run) → text ≡ strip_bom bytes → BeginsWithLast text (codes "label,day,value") rows
    → IsFront d (header ∷ rows_of rows) n runs (rows_of rest) → marked ≡ strip_bom rest → length rest ≤ length marked → IsFront d (table_of bytes) n runs (table_of rest)
front_whole d bytes text rows rest marked n runs is h front unmarked long =
    let table : header ∷ rows_of rows ≡ table_of bytes = sym (header_row text rows h) ∙ ap rows_of is in
    let more : rows_of rest ≡ table_of rest = ap rows_of (sym (not_marked rest (omega (arith, ap length unmarked, long)))) in
    subst (λ (t : Table). IsFront d t n runs (table_of rest)) table (subst (λ (m : Table). IsFront d (header ∷ rows_of rows) n runs m) more front)

-- what is known while the records behind the front are read: of all so far none breaks a rule by itself, and the rows are what they say
pub record ReadsOn (d : Declarations) (table : Table) (reader : Reader (Bor (List ℕ))) (n : ℕ) (runs : List Run) : Type 0 where
  pub records : ℕ
  pub first : List Run
  pub rest : List ℕ
  pub behind : Table
  pub front : IsFront d table records first (table_of rest)
  pub has_read : HasRead rest behind reader
  pub counted : n ≡ records + length behind
  pub are_runs : AreRuns runs
  pub collects : Collects d table n runs

pub reads_none : (d : Declarations) (table : Table) (reader : Reader (Bor (List ℕ))) (n : ℕ) (runs : List Run) (rest : List ℕ)
    → IsFront d table n runs (table_of rest) → HasRead rest [] reader → ReadsOn d table reader n runs
reads_none d table reader n runs rest front reads = record {
  records = n;
  first = runs;
  rest = rest;
  behind = [];
  front = front;
  has_read = reads;
  counted = omega arith;
  are_runs = front.are_runs;
  collects = front.collects;
}
