-- A table of discount factors has one answer.
use Rattle.std.proofs.Common.{◌≡◌, ◌∙◌, ◌⊎◌, inl, inr, ℕ, ◌+◌, ◌≤◌, List, [], ◌∷◌, ◌++◌, length, Option, Some, None, Result, Ok, Err, refl, sym, ap, ap₂, subst, arith, append_assoc}
use Rattle.std.proofs.lemmas.List.{length-append}
use Rattle.term_model.specs.Factors.{CurveRow, IsCurve}
use Rattle.fixing_files.specs.CurveRecords.{curve_header, row_said}
use Rattle.fixing_files.specs.CurveSteps.{BeginsCurve, IsFront, TellsNext, broken_behind, is_curve_header, last_of}
use Rattle.fixing_files.specs.CurveTables.{BreaksCurve, HoldsCurve, IsFirstCurveFault, SaysRow, SayRows}
use Rattle.fixing_files.specs.Curves.{AreNear, row_of, rows_of}
use Rattle.fixing_files.specs.LawsCurves.{CurveFaultsAreUnique, CurveTablesAreAnswered, FaultyTablesHoldNoCurve, TablesHoldOneCurve}
use Rattle.fixing_files.specs.Records.{Fields}
use Rattle.fixing_files.specs.Tables.{StandsAt, Table, record_at}
use Rattle.fixing_files.specs.declared.curves.CurveStep.{CurveStep}
use Rattle.fixing_files.specs.declared.faults.RowFault.{RowFault}
use Rattle.fixing_files.specs.declared.faults.RowKind.{RowKind}
use Rattle.fixing_files.specs.declared.faults.RowKind.TheVariants as kind
use Rattle.std.proofs.lemmas.Bool.{cases_Bool}
use Rattle.fixing_files.proofs.CurveStepFacts.{breaks_next, front_more, row_within}
use Rattle.fixing_files.proofs.CurveTableFacts.{front_sound, header_ended, header_front, header_lacks, next_is_first, none_ended, one_row, rows_ended}
use Rattle.fixing_files.proofs.LawFacts.{same_fields}
use Rattle.fixing_files.proofs.TableFacts.{record_within}

-- one record breaks one rule

one_broken : (k l : RowKind) → ◌≡◌ {A = Result CurveRow RowKind} (Err k) (Err l) → k ≡ l
one_broken k l e = cc

says_or_breaks : (t : Table) (n : ℕ) (row : CurveRow) (fields : Fields) (k : RowKind) → SaysRow t n row → StandsAt t n fields → row_said fields ≡ Err k → ⊥
says_or_breaks t n row fields k s at broken =
    let same = same_fields t n s.fields fields s.at at in
    let wrong : ◌≡◌ {A = Result CurveRow RowKind} (Ok row) (Err k) = sym s.meaning ∙ ap row_said same ∙ broken in
    absurd (cc)

stands_somewhere : (t : Table) (n : ℕ) (fields : Fields) → StandsAt t n fields → n ≡ 2 → record_at t 2 ≡ None → ⊥
stands_somewhere t n fields at is none =
    let wrong : None ≡ Some fields = sym none ∙ ap (record_at t) (sym is) ∙ at.stands in
    absurd (cc)

same_kind : (t : Table) (n : ℕ) (k l : RowKind) → BreaksCurve t n k → BreaksCurve t n l → k ≡ l
same_kind t n k l (inl b) (inl c) = b.kind ∙ sym c.kind
same_kind t n k l (inl b) (inr (inl c)) = absurd (omega (arith, b.number, c.at.below_header))
same_kind t n k l (inl b) (inr (inr (inl c))) = absurd (omega (arith, b.number, c.number))
same_kind t n k l (inl b) (inr (inr (inr (inl c)))) = absurd (omega (arith, b.number, c.number))
same_kind t n k l (inl b) (inr (inr (inr (inr c)))) = absurd (omega (arith, b.number, c.says.at.below_header))
same_kind t n k l (inr (inl b)) (inl c) = absurd (omega (arith, c.number, b.at.below_header))
same_kind t n k l (inr (inl b)) (inr (inl c)) = one_broken k l (sym b.meaning ∙ ap row_said (same_fields t n b.fields c.fields b.at c.at) ∙ c.meaning)
same_kind t n k l (inr (inl b)) (inr (inr (inl c))) = absurd (stands_somewhere t n b.fields b.at c.number c.none)
same_kind t n k l (inr (inl b)) (inr (inr (inr (inl c)))) = absurd (says_or_breaks t n c.row b.fields k (subst (λ (m : ℕ). SaysRow t m c.row) (sym c.number) c.says) b.at b.meaning)
same_kind t n k l (inr (inl b)) (inr (inr (inr (inr c)))) = absurd (says_or_breaks t n c.row b.fields k c.says b.at b.meaning)
same_kind t n k l (inr (inr (inl b))) (inl c) = absurd (omega (arith, b.number, c.number))
same_kind t n k l (inr (inr (inl b))) (inr (inl c)) = absurd (stands_somewhere t n c.fields c.at b.number b.none)
same_kind t n k l (inr (inr (inl b))) (inr (inr (inl c))) = b.kind ∙ sym c.kind
same_kind t n k l (inr (inr (inl b))) (inr (inr (inr (inl c)))) = b.kind ∙ sym c.kind
same_kind t n k l (inr (inr (inl b))) (inr (inr (inr (inr c)))) = absurd (stands_somewhere t n c.says.fields c.says.at b.number b.none)
same_kind t n k l (inr (inr (inr (inl b)))) (inl c) = absurd (omega (arith, b.number, c.number))
same_kind t n k l (inr (inr (inr (inl b)))) (inr (inl c)) = absurd (says_or_breaks t n b.row c.fields l (subst (λ (m : ℕ). SaysRow t m b.row) (sym b.number) b.says) c.at c.meaning)
same_kind t n k l (inr (inr (inr (inl b)))) (inr (inr (inl c))) = b.kind ∙ sym c.kind
same_kind t n k l (inr (inr (inr (inl b)))) (inr (inr (inr (inl c)))) = b.kind ∙ sym c.kind
same_kind t n k l (inr (inr (inr (inl b)))) (inr (inr (inr (inr c)))) = absurd (omega (arith, b.number, c.next, c.says_before.at.below_header))
same_kind t n k l (inr (inr (inr (inr b)))) (inl c) = absurd (omega (arith, c.number, b.says.at.below_header))
same_kind t n k l (inr (inr (inr (inr b)))) (inr (inl c)) = absurd (says_or_breaks t n b.row c.fields l b.says c.at c.meaning)
same_kind t n k l (inr (inr (inr (inr b)))) (inr (inr (inl c))) = absurd (stands_somewhere t n b.says.fields b.says.at c.number c.none)
same_kind t n k l (inr (inr (inr (inr b)))) (inr (inr (inr (inl c)))) = absurd (omega (arith, c.number, b.next, b.says_before.at.below_header))
same_kind t n k l (inr (inr (inr (inr b)))) (inr (inr (inr (inr c)))) = b.kind ∙ sym c.kind

pub faults_unique : CurveFaultsAreUnique
faults_unique t one other h i =
    let row : one.row ≡ other.row = omega (arith, h.first other.row other.kind i.breaks, i.first one.row one.kind h.breaks) in
    let kinds = same_kind t other.row one.kind other.kind (subst (λ (n : ℕ). BreaksCurve t n one.kind) row h.breaks) i.breaks in
    ap₂ (λ (n : ℕ) (k : RowKind). record { row = n; kind = k }) row kinds

-- a table that holds a curve breaks no rule

near_said : (records : List Fields) (rows : List CurveRow) → SayRows records rows → AreNear rows
near_said [] [] h = tt {0}
near_said [] (row ∷ rows) h = absurd h
near_said (r ∷ records) [] h = absurd h
near_said (r ∷ records) (row ∷ rows) h = ((row_within r row h.0).near, near_said records rows h.1)

begun : (rows : List CurveRow) → IsCurve rows → BeginsCurve rows
begun [] h = absurd h
begun (row ∷ rows) h = h

some_records : (records : List Fields) (rows : List CurveRow) → SayRows records rows → IsCurve rows → 1 ≤ length records
some_records [] [] h curve = absurd curve
some_records [] (row ∷ rows) h curve = absurd h
some_records (r ∷ records) rows h curve = omega arith

within_table : (t : Table) (n : ℕ) (k : RowKind) → 2 ≤ length t → BreaksCurve t n k → n ≤ length t
within_table t n k two (inl b) = omega (arith, two, b.number)
within_table t n k two (inr (inl b)) = record_within t n b.fields b.at.stands
within_table t n k two (inr (inr (inl b))) = omega (arith, two, b.number)
within_table t n k two (inr (inr (inr (inl b)))) = omega (arith, two, b.number)
within_table t n k two (inr (inr (inr (inr b)))) = record_within t n b.says.fields b.says.at.stands

nothing_behind : (t : Table) → t ++ [] ≡ t
nothing_behind [] = refl
nothing_behind (r ∷ t) = ap (λ (x : Table). r ∷ x) (nothing_behind t)

sound_table : (records : List Fields) (rows : List CurveRow) (n : ℕ) (k : RowKind) → SayRows records rows → IsCurve rows → BreaksCurve (curve_header ∷ records) n k → ⊥
sound_table records rows n k said curve breaks =
    let t = curve_header ∷ records in
    let within = within_table t n k (omega (arith, some_records records rows said curve)) breaks in
    front_sound t [] rows n k (refl, said, begun rows curve, near_said records rows said) within (subst (λ (x : Table). BreaksCurve x n k) (sym (nothing_behind t)) breaks)

pub faulty_hold_none : FaultyTablesHoldNoCurve
faulty_hold_none t fault rows h holds =
    sound_table holds.records rows fault.row fault.kind holds.said holds.curve (subst (λ (x : Table). BreaksCurve x fault.row fault.kind) holds.headed h.breaks)

-- a table holds one curve

same_rows : (records : List Fields) (one other : List CurveRow) → SayRows records one → SayRows records other → one ≡ other
same_rows [] [] [] h i = refl
same_rows [] [] (row ∷ rows) h i = absurd i
same_rows [] (row ∷ rows) other h i = absurd h
same_rows (r ∷ records) [] other h i = absurd h
same_rows (r ∷ records) (a ∷ one) [] h i = absurd i
same_rows (r ∷ records) (a ∷ one) (b ∷ other) h i =
    ap₂ (λ (x : CurveRow) (xs : List CurveRow). x ∷ xs) (one_row a b (sym h.0 ∙ i.0)) (same_rows records one other h.1 i.1)

abbrev behind_first : Table → Table
behind_first [] = []
behind_first (r ∷ t) = t

pub one_curve : TablesHoldOneCurve
one_curve t one other h i =
    let same : h.records ≡ i.records = ap behind_first (sym h.headed ∙ i.headed) in
    same_rows i.records one other (subst (λ (x : List Fields). SayRows x one) same h.said) i.said

-- each table has an answer

abbrev IsAnswered : Table → Type 0
IsAnswered t = ((rows : List CurveRow) × HoldsCurve t rows) ⊎ ((fault : RowFault) × IsFirstCurveFault t fault)

ends_with : (head : Fields) (records : List Fields) (rows : List CurveRow) → IsFront (head ∷ records) rows → IsAnswered (head ∷ records)
ends_with head [] rows front = inr (record { row = 2; kind = kind.Zero }, header_ended (head ∷ []) rows refl front)
ends_with head (r ∷ records) rows front = inl (rows, rows_ended (head ∷ r ∷ records) rows (omega arith) front)

abbrev step_from : CurveRow → CurveStep
step_from row = record { offset = row.offset; factor = row.factor }

-- what follows these records is answered, whatever they are
abbrev GoesOn : Table → Type 0
GoesOn more = (t : Table) (steps : List CurveStep) → 1 ≤ length t → IsFront t (rows_of steps) → IsAnswered (t ++ more)

module _ (t : Table) (steps : List CurveStep) (f : Fields) (more : Table) (some : 1 ≤ length t) (front : IsFront t (rows_of steps)) where
  refused : (k : RowKind) → TellsNext (last_of steps) f (Err k) → IsAnswered (t ++ f ∷ more)
  refused k tells =
      let fault : RowFault = record { row = length t + 1; kind = k } in
      inr (fault, next_is_first t (f ∷ more) (rows_of steps) (length t + 1) k front refl (breaks_next t f more steps k some front tells))

  by_rule : GoesOn more → (s : CurveStep) (o : Option RowKind) → row_said f ≡ Ok (row_of s) → broken_behind (last_of steps) s ≡ o → IsAnswered (t ++ f ∷ more)
  by_rule on s (Some k) said broken = refused k (inr (s, said, broken))
  by_rule on s None said follows =
      let rest = on (t ++ f ∷ []) (steps ++ s ∷ []) (omega (arith, some, length-append t (f ∷ []))) (front_more t f steps s some front said follows) in
      subst IsAnswered (append_assoc t (f ∷ []) more) rest

  by_record : GoesOn more → (r : Result CurveRow RowKind) → row_said f ≡ r → IsAnswered (t ++ f ∷ more)
  by_record on (Err k) broken = refused k (inl broken)
  by_record on (Ok row) said = by_rule on (step_from row) (broken_behind (last_of steps) (step_from row)) said refl

goes_on : (more : Table) → GoesOn more
goes_on [] [] steps some front = absurd (omega (arith, some))
goes_on [] (head ∷ records) steps some front = subst IsAnswered (sym (nothing_behind (head ∷ records))) (ends_with head records (rows_of steps) front)
goes_on (f ∷ more) t steps some front = by_record t steps f more some front (goes_on more) (row_said f) refl

pub are_answered : CurveTablesAreAnswered
are_answered [] =
    inr (record { row = 1; kind = kind.Shape }, none_ended [] [] refl refl)
are_answered (f ∷ more) = elim (cases_Bool (is_curve_header f)) [
  | inl is ↦ goes_on more (f ∷ []) [] (omega arith) (header_front [] f [] refl is refl)
  | inr other ↦ inr (record { row = 1; kind = kind.Shape }, header_lacks [] f more [] refl other refl)
]
