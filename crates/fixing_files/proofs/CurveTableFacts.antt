-- A table of discount factors, record by record: what is known of the records before the next one holds with it, or it is
-- the first record that breaks a rule.
use Rattle.std.proofs.Common.{true, false, ◌≡◌, ◌≢◌, ◌∙◌, inl, inr, ℕ, zero, suc, ◌+◌, ◌<◌, ◌≤◌, List, [], ◌∷◌, ◌++◌, length, Option, Some, None, Result, Ok, Err, slice_get, refl, sym, ap, subst, arith, add-one}
use Rattle.std.proofs.lemmas.Bool.{cases_lt}
use Rattle.term_model.specs.Factors.{CurveRow, Rises}
use Rattle.fixing_files.specs.CurveRecords.{curve_header, row_said}
use Rattle.fixing_files.specs.CurveSteps.{BeginsCurve, IsFront, TakesRecord, is_curve_header}
use Rattle.fixing_files.specs.CurveTables.{AnswersCurve, BreaksCurve, HoldsCurve, IsFirstCurveFault, SaysRow, SayRows}
use Rattle.fixing_files.specs.Curves.{IsKept}
use Rattle.fixing_files.specs.Records.{Fields}
use Rattle.fixing_files.specs.Tables.{StandsAt, Table, record_at}
use Rattle.fixing_files.specs.declared.faults.RowErr.{RowErr}
use Rattle.fixing_files.specs.declared.faults.RowErr.TheVariants.{Row, NoMemory}
use Rattle.fixing_files.specs.declared.faults.RowKind.{RowKind}
use Rattle.fixing_files.specs.declared.faults.RowKind.TheVariants as kind
use Rattle.fixing_files.proofs.CurveRecordFacts.{header_from, other_from}
use Rattle.fixing_files.proofs.TableFacts.{get_front}

-- records and their rows

-- the row that record n says, below the header
abbrev pub row_at : List CurveRow → ℕ → Option CurveRow
row_at rows zero = None
row_at rows (suc zero) = None
row_at rows (suc (suc i)) = slice_get rows i

pub one_row : (a b : CurveRow) → ◌≡◌ {A = Result CurveRow RowKind} (Ok a) (Ok b) → a ≡ b
one_row a b e = cc

one_option : (a b : CurveRow) → Some a ≡ Some b → a ≡ b
one_option a b e = cc

one_record : (a b : Fields) → Some a ≡ Some b → a ≡ b
one_record a b e = cc

-- what a record says that stands among those that say rows
pub record IsSaid (fields : Fields) (rows : List CurveRow) (i : ℕ) : Type 0 where
  pub row : CurveRow
  pub meaning : row_said fields ≡ Ok row
  pub stands : slice_get rows i ≡ Some row

said_there : (records : List Fields) (rows : List CurveRow) (i : ℕ) (fields : Fields) → SayRows records rows → slice_get records i ≡ Some fields → IsSaid fields rows i
said_there [] rows i fields h e = absurd (cc)
said_there (r ∷ records) [] i fields h e = absurd h
said_there (r ∷ records) (row ∷ rows) zero fields h e =
    let same = one_record r fields e in
    record { row = row; meaning = ap row_said (sym same) ∙ h.0; stands = refl }
said_there (r ∷ records) (row ∷ rows) (suc i) fields h e =
    let more = said_there records rows i fields h.1 e in
    record { row = more.row; meaning = more.meaning; stands = more.stands }

pub record SaysThere (records : List Fields) (i : ℕ) (row : CurveRow) : Type 0 where
  pub fields : Fields
  pub stands : slice_get records i ≡ Some fields
  pub meaning : row_said fields ≡ Ok row

pub said_by : (records : List Fields) (rows : List CurveRow) (i : ℕ) (row : CurveRow) → SayRows records rows → slice_get rows i ≡ Some row → SaysThere records i row
said_by [] [] i row h e = absurd (cc)
said_by [] (w ∷ rows) i row h e = absurd h
said_by (r ∷ records) [] i row h e = absurd h
said_by (r ∷ records) (w ∷ rows) zero row h e =
    let same = one_option w row e in
    record { fields = r; stands = refl; meaning = h.0 ∙ ap (λ (x : CurveRow). Ok x) same }
said_by (r ∷ records) (w ∷ rows) (suc i) row h e =
    let more = said_by records rows i row h.1 e in
    record { fields = more.fields; stands = more.stands; meaning = more.meaning }

pub as_many : (records : List Fields) (rows : List CurveRow) → SayRows records rows → length records ≡ length rows
as_many [] [] h = refl
as_many [] (w ∷ rows) h = absurd h
as_many (r ∷ records) [] h = absurd h
as_many (r ∷ records) (w ∷ rows) h = omega (arith, as_many records rows h.1)

pub say_more : (records : List Fields) (rows : List CurveRow) (f : Fields) (row : CurveRow) → SayRows records rows → row_said f ≡ Ok row → SayRows (records ++ f ∷ []) (rows ++ row ∷ [])
say_more [] [] f row h e = (e, tt {0})
say_more [] (w ∷ rows) f row h e = absurd h
say_more (r ∷ records) [] f row h e = absurd h
say_more (r ∷ records) (w ∷ rows) f row h e = (h.0, say_more records rows f row h.1 e)

-- rows that rise

rising_pair : (first : ℕ) (rows : List CurveRow) (i : ℕ) (a b : CurveRow) → Rises first rows → slice_get rows i ≡ Some a → slice_get rows (suc i) ≡ Some b → a.offset < b.offset
rising_pair first [] i a b h e f = absurd (cc)
rising_pair first (x ∷ []) i a b h e f = absurd (cc)
rising_pair first (x ∷ y ∷ rows) zero a b h e f = subst (λ (r : CurveRow). r.offset < b.offset) (one_option x a e) (subst (λ (r : CurveRow). x.offset < r.offset) (one_option y b f) h.1.0)
rising_pair first (x ∷ y ∷ rows) (suc i) a b h e f = rising_pair x.offset (y ∷ rows) i a b h.1 e f

begun_pair : (rows : List CurveRow) (i : ℕ) (a b : CurveRow) → BeginsCurve rows → slice_get rows i ≡ Some a → slice_get rows (suc i) ≡ Some b → a.offset < b.offset
begun_pair [] i a b h e f = absurd (cc)
begun_pair (x ∷ []) i a b h e f = absurd (cc)
begun_pair (x ∷ y ∷ rows) zero a b h e f =
    let below : 0 < b.offset = subst (λ (r : CurveRow). 0 < r.offset) (one_option y b f) h.1.0 in
    let start : a.offset ≡ 0 = subst (λ (r : CurveRow). r.offset ≡ 0) (one_option x a e) h.0 in
    omega (arith, below, start)
begun_pair (x ∷ y ∷ rows) (suc i) a b h e f = rising_pair 0 (y ∷ rows) i a b h.1 e f

begun_start : (rows : List CurveRow) (a : CurveRow) → BeginsCurve rows → slice_get rows 0 ≡ Some a → a.offset ≡ 0
begun_start [] a h e = absurd (cc)
begun_start (x ∷ rows) a h e = subst (λ (r : CurveRow). r.offset ≡ 0) (one_option x a e) h.0

pair_at : (rows : List CurveRow) (n : ℕ) (a b : CurveRow) → BeginsCurve rows → row_at rows n ≡ Some a → row_at rows (suc n) ≡ Some b → a.offset < b.offset
pair_at rows zero a b h e f = absurd (cc)
pair_at rows (suc zero) a b h e f = absurd (cc)
pair_at rows (suc (suc i)) a b h e f = begun_pair rows i a b h e f

-- the records in front break no rule

module _ (head : Fields) (records more : Table) (rows : List CurveRow) (said : SayRows records rows) where
  row_in_front : (n : ℕ) (row : CurveRow) → n ≤ length records + 1 → SaysRow ((head ∷ records) ++ more) n row → row_at rows n ≡ Some row
  row_in_front zero row within s = absurd (omega (arith, s.at.below_header))
  row_in_front (suc zero) row within s = absurd (omega (arith, s.at.below_header))
  row_in_front (suc (suc i)) row within s =
      let there = said_there records rows i s.fields said (sym (get_front records more i (omega (arith, within))) ∙ s.at.stands) in
      let same = one_row there.row row (sym there.meaning ∙ s.meaning) in
      there.stands ∙ ap (λ (r : CurveRow). Some r) same

  none_broken : (n : ℕ) (k : RowKind) (fields : Fields) → n ≤ length records + 1 → StandsAt ((head ∷ records) ++ more) n fields → row_said fields ≢ Err k
  none_broken zero k fields within s e = absurd (omega (arith, s.below_header))
  none_broken (suc zero) k fields within s e = absurd (omega (arith, s.below_header))
  none_broken (suc (suc i)) k fields within s e =
      let there = said_there records rows i fields said (sym (get_front records more i (omega (arith, within))) ∙ s.stands) in
      let wrong : ◌≡◌ {A = Result CurveRow RowKind} (Ok there.row) (Err k) = sym there.meaning ∙ e in
      absurd (cc)

second_there : (head : Fields) (records more : Table) → 2 ≤ length records + 1 → record_at ((head ∷ records) ++ more) 2 ≡ None → ⊥
second_there head [] more within e = omega (arith, within)
second_there head (r ∷ records) more within e = absurd (cc)

pub front_sound : (t more : Table) (rows : List CurveRow) (n : ℕ) (k : RowKind) → IsFront t rows → n ≤ length t → BreaksCurve (t ++ more) n k → ⊥
front_sound [] more rows n k front within (inl b) = omega (arith, within, b.number)
front_sound [] more rows n k front within (inr (inl b)) = omega (arith, within, b.at.below_header)
front_sound [] more rows n k front within (inr (inr (inl b))) = omega (arith, within, b.number)
front_sound [] more rows n k front within (inr (inr (inr (inl b)))) = omega (arith, within, b.number)
front_sound [] more rows n k front within (inr (inr (inr (inr b)))) = omega (arith, within, b.says.at.below_header)
front_sound (head ∷ records) more rows n k front within (inl b) = b.other (ap (λ (f : Fields). Some f) front.0)
front_sound (head ∷ records) more rows n k front within (inr (inl b)) = none_broken head records more rows front.1 n k b.fields (omega (arith, within)) b.at b.meaning
front_sound (head ∷ records) more rows n k front within (inr (inr (inl b))) = second_there head records more (omega (arith, within, b.number)) b.none
front_sound (head ∷ records) more rows n k front within (inr (inr (inr (inl b)))) =
    b.late (begun_start rows b.row front.2 (row_in_front head records more rows front.1 2 b.row (omega (arith, within, b.number)) b.says))
front_sound (head ∷ records) more rows n k front within (inr (inr (inr (inr b)))) =
    let before = row_in_front head records more rows front.1 b.earlier b.before (omega (arith, within, b.next)) b.says_before in
    let next : n ≡ suc b.earlier = b.next ∙ add-one b.earlier in
    let here = ap (row_at rows) (sym next) ∙ row_in_front head records more rows front.1 n b.row (omega (arith, within)) b.says in
    omega (arith, pair_at rows b.earlier b.before b.row front.2 before here, b.not_above)

-- what breaks a rule directly behind them is the first
pub next_is_first : (t more : Table) (rows : List CurveRow) (n : ℕ) (k : RowKind) → IsFront t rows → n ≡ length t + 1 → BreaksCurve (t ++ more) n k → IsFirstCurveFault (t ++ more) (record { row = n; kind = k })
next_is_first t more rows n k front next breaks = record {
  breaks = breaks;
  first = λ m l b. elim (cases_lt (length t) m) [
    | inl above ↦ omega (arith, above, next)
    | inr within ↦ absurd (front_sound t more rows m l front within b)
  ];
}

pub next_answers : (table t more : Table) (f : Fields) (n : ℕ) (before after : List CurveRow) (e : RowErr) → table ≡ t ++ f ∷ more → n ≡ length t + 1 → IsFront t before → TakesRecord n f before after (Err e) → AnswersCurve table (Err e)
next_answers table t more f n before after (Row fault) is next front takes = subst (λ (all : Table). IsFirstCurveFault all fault) (sym is) (takes t more next front)
next_answers table t more f n before after NoMemory is next front takes = tt {0}

-- the first record

pub header_front : (t : Table) (f : Fields) (rows : List CurveRow) → 1 ≡ length t + 1 → is_curve_header f ≡ true → IsFront t rows → IsFront (t ++ f ∷ []) rows
header_front [] f rows is header front = subst (λ (r : List CurveRow). IsFront (f ∷ []) r) (sym front) (header_from f header, tt {0}, tt {0}, tt {0})
header_front (r ∷ t) f rows is header front = absurd (omega (arith, is))

pub header_lacks : (t : Table) (f : Fields) (more : Table) (rows : List CurveRow) → 1 ≡ length t + 1 → is_curve_header f ≡ false → IsFront t rows → IsFirstCurveFault (t ++ f ∷ more) (record { row = 1; kind = kind.Shape })
header_lacks [] f more rows is other front =
    next_is_first [] (f ∷ more) rows 1 kind.Shape front refl (inl (record {
      number = refl;
      kind = refl;
      other = λ e. other_from f other (let same : Some f ≡ Some curve_header = e in cc);
    }))
header_lacks (r ∷ t) f more rows is other front = absurd (omega (arith, is))

-- the answer behind the last record

pub front_kept : (t : Table) (rows : List CurveRow) (n : ℕ) → n ≡ length t → IsFront t rows → 2 ≤ n → IsKept rows
front_kept [] rows n is front two = absurd (omega (arith, is, two))
front_kept (head ∷ []) rows n is front two = absurd (omega (arith, is, two))
front_kept (head ∷ r ∷ records) [] n is front two = absurd front.1
front_kept (head ∷ r ∷ records) (row ∷ rows) n is front two = record { curve = front.2; near = front.3 }

pub none_ended : (t : Table) (rows : List CurveRow) → 0 ≡ length t → IsFront t rows → IsFirstCurveFault t (record { row = 1; kind = kind.Shape })
none_ended [] rows is front = next_is_first [] [] rows 1 kind.Shape front refl (inl (record { number = refl; kind = refl; other = λ e. absurd (cc) }))
none_ended (r ∷ t) rows is front = absurd (omega (arith, is))

pub header_ended : (t : Table) (rows : List CurveRow) → 1 ≡ length t → IsFront t rows → IsFirstCurveFault t (record { row = 2; kind = kind.Zero })
header_ended [] rows is front = absurd (omega (arith, is))
header_ended (r ∷ []) rows is front = next_is_first (r ∷ []) [] rows 2 kind.Zero front refl (inr (inr (inl (record { number = refl; kind = refl; none = refl }))))
header_ended (r ∷ q ∷ t) rows is front = absurd (omega (arith, is))

pub rows_ended : (t : Table) (rows : List CurveRow) → 2 ≤ length t → IsFront t rows → HoldsCurve t rows
rows_ended [] rows two front = absurd (omega (arith, two))
rows_ended (head ∷ records) rows two front =
    record { records = records; headed = ap (λ (f : Fields). f ∷ records) front.0; said = front.1; curve = (front_kept (head ∷ records) rows (length (head ∷ records)) refl front two).curve }
