-- A row that is taken behind the others, or the rule that it breaks.
use Rattle.std.proofs.Common.{◌≡◌, ◌≢◌, ◌∙◌, inl, inr, ℕ, zero, suc, ◌+◌, ◌-◌, ◌<◌, ◌≤◌, ◌==◌, ℤ, pos, ◌^◌, ◌&&◌, true, List, [], ◌∷◌, ◌++◌, length, Option, Some, None, Ok, Err, slice_get, refl, sym, ap, subst, arith}
use Rattle.std.specs.Prelude.{◌≤ℤ◌, nat_lt, nat_le, int_le}
use Rattle.std.proofs.lemmas.Bool.{and_parts, cases_Bool}
use Rattle.std.proofs.lemmas.Bool.Decides.{nat_tests}
use Rattle.std.proofs.lemmas.Int.{ints}
use Rattle.std.proofs.lemmas.Option.{slice_get_within}
use Rattle.decimal.specs.Mantissas.{decimal_of}
use Rattle.term_model.specs.Factors.{CurveRow, HasFactors, IsFactor, Rises}
use Rattle.fixing_files.specs.CurveRecords.{factor_said, offset_said, row_said, row_with, within_factors, within_offsets}
use Rattle.fixing_files.specs.CurveSteps.{BeginsCurve, IsFront, TellsNext, broken_behind, last_of}
use Rattle.fixing_files.specs.CurveTables.{BreaksCurve, SaysRow, SayRows}
use Rattle.fixing_files.specs.Curves.{AreNear, row_of, rows_of}
use Rattle.fixing_files.specs.Days.{count_of}
use Rattle.fixing_files.specs.Records.{Fields, mantissa_at}
use Rattle.fixing_files.specs.Tables.{StandsAt, Table, record_at}
use Rattle.fixing_files.specs.declared.curves.CurveStep.{CurveStep}
use Rattle.fixing_files.specs.declared.faults.RowKind.{RowKind}
use Rattle.fixing_files.specs.declared.faults.RowKind.TheVariants as kind
use Rattle.fixing_files.proofs.CurveTableFacts.{as_many, said_by, say_more}
use Rattle.fixing_files.proofs.TableFacts.{get_front, record_seam}

-- what a record says is within the limits

offset_in : (o : Option ℕ) (n : ℕ) → within_offsets o ≡ Some n → n ≤ 2_000_000
offset_in None n h = absurd (cc)
offset_in (Some m) n h = elim (cases_Bool (nat_le m 2_000_000)) [
  | inl is ↦
      let one : ◌≡◌ {A = Option ℕ} (Some m) (Some n) = rw is at h in
      let same : m ≡ n = cc in
      let few : m ≤ 2_000_000 = grind (arith, nat_tests) in
      omega (arith, few, same)
  | inr other ↦ let wrong : ◌≡◌ {A = Option ℕ} None (Some n) = rw other at h in absurd (cc)
]

le_from : (a b : ℤ) → int_le a b ≡ true → a ≤ℤ b
le_from a b h = grind (arith, ints)

factor_said_in : (o : Option ℤ) (v : ℤ) → within_factors o ≡ Some v → IsFactor v
factor_said_in None v h = absurd (cc)
factor_said_in (Some m) v h = elim (cases_Bool (int_le (pos 0) m && int_le m (pos (10 ^ 10)))) [
  | inl is ↦
      let one : ◌≡◌ {A = Option ℤ} (Some m) (Some v) = rw is at h in
      let same : m ≡ v = cc in
      let parts = and_parts (int_le (pos 0) m) (int_le m (pos (10 ^ 10))) is in
      subst IsFactor same (le_from (pos 0) m parts.0, le_from m (pos (10 ^ 10)) parts.1)
  | inr other ↦ let wrong : ◌≡◌ {A = Option ℤ} None (Some v) = rw other at h in absurd (cc)
]

with_parts : (o : Option ℕ) (v : Option ℤ) (row : CurveRow) → row_with o v ≡ Ok row → (o ≡ Some row.offset) × (v ≡ Some row.factor)
with_parts None v row h = absurd (cc)
with_parts (Some o) None row h = absurd (cc)
with_parts (Some o) (Some v) row h =
    let same : record { offset = o; factor = v } ≡ row = cc in
    (ap (λ (r : CurveRow). Some r.offset) same, ap (λ (r : CurveRow). Some r.factor) same)

-- a row that a record says
pub record IsWithin (row : CurveRow) : Type 0 where
  pub near : row.offset ≤ 2_000_000
  pub factor : IsFactor row.factor

pub row_within : (fields : Fields) (row : CurveRow) → row_said fields ≡ Ok row → IsWithin row
unfolding row_said
row_within [] row h = absurd (cc)
row_within (a ∷ []) row h = absurd (cc)
row_within (a ∷ b ∷ []) row h =
    let parts = with_parts (offset_said a) (factor_said b) row h in
    record { near = offset_in (count_of a) row.offset parts.0; factor = factor_said_in (mantissa_at 9 (decimal_of b)) row.factor parts.1 }
row_within (a ∷ b ∷ c ∷ more) row h = absurd (cc)

-- what a row breaks behind the last one, or does not

start_at : (s : CurveStep) → broken_behind None s ≡ None → s.offset ≡ 0
start_at s h = elim (cases_Bool (s.offset == 0)) [
  | inl is ↦ grind (arith, nat_tests)
  | inr other ↦ let wrong : ◌≡◌ {A = Option RowKind} (Some kind.Zero) None = rw other at h in absurd (cc)
]

above_last : (l s : CurveStep) → broken_behind (Some l) s ≡ None → l.offset < s.offset
above_last l s h = elim (cases_Bool (nat_lt l.offset s.offset)) [
  | inl is ↦ grind (arith, nat_tests)
  | inr other ↦ let wrong : ◌≡◌ {A = Option RowKind} (Some kind.Rising) None = rw other at h in absurd (cc)
]

late_start : (s : CurveStep) (k : RowKind) → broken_behind None s ≡ Some k → (k ≡ kind.Zero) × (s.offset ≢ 0)
late_start s k h = elim (cases_Bool (s.offset == 0)) [
  | inl is ↦ let wrong : ◌≡◌ {A = Option RowKind} None (Some k) = rw is at h in absurd (cc)
  | inr other ↦
      let one : ◌≡◌ {A = Option RowKind} (Some kind.Zero) (Some k) = rw other at h in
      let same : k ≡ kind.Zero = cc in
      (same, λ zero_is. grind (arith, nat_tests))
]

no_rise : (l s : CurveStep) (k : RowKind) → broken_behind (Some l) s ≡ Some k → (k ≡ kind.Rising) × (s.offset ≤ l.offset)
no_rise l s k h = elim (cases_Bool (nat_lt l.offset s.offset)) [
  | inl is ↦ let wrong : ◌≡◌ {A = Option RowKind} None (Some k) = rw is at h in absurd (cc)
  | inr other ↦
      let one : ◌≡◌ {A = Option RowKind} (Some kind.Rising) (Some k) = rw other at h in
      let same : k ≡ kind.Rising = cc in
      (same, grind (arith, nat_tests))
]

-- rows with one more

rows_more : (steps : List CurveStep) (s : CurveStep) → rows_of (steps ++ s ∷ []) ≡ rows_of steps ++ row_of s ∷ []
rows_more [] s = refl
rows_more (x ∷ steps) s = ap (λ (rows : List CurveRow). row_of x ∷ rows) (rows_more steps s)

near_more : (steps : List CurveStep) (s : CurveStep) → AreNear (rows_of steps) → s.offset ≤ 2_000_000 → AreNear (rows_of (steps ++ s ∷ []))
near_more [] s h near = (near, tt {0})
near_more (x ∷ steps) s h near = (h.0, near_more steps s h.1 near)

factors_more : (steps : List CurveStep) (s : CurveStep) → HasFactors (rows_of steps) → IsFactor s.factor → HasFactors (rows_of (steps ++ s ∷ []))
factors_more [] s h factor = (factor, tt {0})
factors_more (x ∷ steps) s h factor = (h.0, factors_more steps s h.1 factor)

-- the offset of the last row, or o where there is none
abbrev highest : ℕ → List CurveStep → ℕ
highest o [] = o
highest o (x ∷ steps) = highest x.offset steps

rises_more : (first : ℕ) (steps : List CurveStep) (s : CurveStep) → Rises first (rows_of steps) → highest first steps < s.offset → Rises first (rows_of (steps ++ s ∷ []))
rises_more first [] s h above = (above, tt {0})
rises_more first (x ∷ steps) s h above = (h.0, rises_more x.offset steps s h.1 above)

last_highest : (x : CurveStep) (steps : List CurveStep) (l : CurveStep) → slice_get (x ∷ steps) (length steps) ≡ Some l → l.offset ≡ highest x.offset steps
last_highest x [] l h = let same : x ≡ l = cc in ap (λ (s : CurveStep). s.offset) (sym same)
last_highest x (y ∷ steps) l h = last_highest y steps l h

some_last : (x : CurveStep) (steps : List CurveStep) → slice_get (x ∷ steps) (length steps) ≡ None → ⊥
some_last x [] e = absurd (cc)
some_last x (y ∷ steps) e = some_last y steps e

begins_more : (steps : List CurveStep) (s : CurveStep) → BeginsCurve (rows_of steps) → IsFactor s.factor → broken_behind (last_of steps) s ≡ None → BeginsCurve (rows_of (steps ++ s ∷ []))
begins_more [] s h factor follows = (start_at s follows, tt {0}, (factor, tt {0}))
begins_more (x ∷ steps) s h factor follows = (h.0, rises_more 0 steps s h.1 above, (h.2.0, factors_more steps s h.2.1 factor))
  where
    place : length (x ∷ steps) - 1 ≡ length steps
    place = omega arith

    at_last : (o : Option CurveStep) → slice_get (x ∷ steps) (length steps) ≡ o → broken_behind o s ≡ None → highest x.offset steps < s.offset
    at_last None e f = absurd (some_last x steps e)
    at_last (Some l) e f = omega (arith, above_last l s f, last_highest x steps l e)

    above : highest 0 steps < s.offset
    above = subst (λ (o : ℕ). highest o steps < s.offset) h.0 (at_last (slice_get (x ∷ steps) (length steps)) refl (subst (λ (i : ℕ). broken_behind (slice_get (x ∷ steps) i) s ≡ None) place follows))

pub front_more : (t : Table) (f : Fields) (steps : List CurveStep) (s : CurveStep) → 1 ≤ length t → IsFront t (rows_of steps) → row_said f ≡ Ok (row_of s) → broken_behind (last_of steps) s ≡ None
    → IsFront (t ++ f ∷ []) (rows_of (steps ++ s ∷ []))
front_more [] f steps s some front said follows = absurd (omega (arith, some))
front_more (head ∷ records) f steps s some front said follows =
    let within = row_within f (row_of s) said in (
      front.0,
      subst (λ (rows : List CurveRow). SayRows (records ++ f ∷ []) rows) (sym (rows_more steps s)) (say_more records (rows_of steps) f (row_of s) front.1 said),
      begins_more steps s front.2 within.factor follows,
      near_more steps s front.3 within.near,
    )

-- a record that breaks a rule behind the others

get_row : (steps : List CurveStep) (i : ℕ) (l : CurveStep) → slice_get steps i ≡ Some l → slice_get (rows_of steps) i ≡ Some (row_of l)
get_row [] i l h = absurd (cc)
get_row (x ∷ steps) zero l h = let same : x ≡ l = cc in ap (λ (s : CurveStep). Some (row_of s)) same
get_row (x ∷ steps) (suc i) l h = get_row steps i l h

many_rows : (steps : List CurveStep) → length (rows_of steps) ≡ length steps
many_rows [] = refl
many_rows (x ∷ steps) = omega (arith, many_rows steps)

none_last : (steps : List CurveStep) → last_of steps ≡ None → length steps ≡ 0
none_last [] h = refl
none_last (x ∷ steps) h = absurd (some_last x steps (subst (λ (i : ℕ). slice_get (x ∷ steps) i ≡ None) (omega arith) h))

says_last : (head : Fields) (records more : Table) (steps : List CurveStep) (l : CurveStep) → SayRows records (rows_of steps) → last_of steps ≡ Some l → SaysRow ((head ∷ records) ++ more) (length records + 1) (row_of l)
says_last head records more steps l said last =
    let i = length steps - 1 in
    let within : i < length steps = slice_get_within steps i l last in
    let many : length records ≡ length steps = as_many records (rows_of steps) said ∙ many_rows steps in
    let there = said_by records (rows_of steps) i (row_of l) said (get_row steps i l last) in
    let next : suc (suc i) ≡ length records + 1 = omega (arith, within, many) in
    let stands : record_at ((head ∷ records) ++ more) (suc (suc i)) ≡ Some there.fields = get_front records more i (omega (arith, within, many)) ∙ there.stands in
    record {
      fields = there.fields;
      at = record { below_header = omega (arith, next); stands = subst (λ (n : ℕ). record_at ((head ∷ records) ++ more) n ≡ Some there.fields) next stands };
      meaning = there.meaning;
    }

pub breaks_next : (t : Table) (f : Fields) (more : Table) (steps : List CurveStep) (k : RowKind) → 1 ≤ length t → IsFront t (rows_of steps) → TellsNext (last_of steps) f (Err k) → BreaksCurve (t ++ f ∷ more) (length t + 1) k
breaks_next [] f more steps k some front tells = absurd (omega (arith, some))
breaks_next (head ∷ records) f more steps k some front tells = elim tells [
  | inl broken ↦ inr (inl (record { fields = f; at = stands; meaning = broken }))
  | inr behind ↦ at_last (last_of steps) refl behind.0 behind.1 behind.2
]
  where
    stands : StandsAt ((head ∷ records) ++ f ∷ more) (length (head ∷ records) + 1) f
    stands = record { below_header = omega (arith, some); stands = record_seam (head ∷ records) f more }

    at_last : (o : Option CurveStep) → last_of steps ≡ o → (s : CurveStep) → row_said f ≡ Ok (row_of s) → broken_behind o s ≡ Some k → BreaksCurve ((head ∷ records) ++ f ∷ more) (length (head ∷ records) + 1) k
    at_last None e s said broken =
        let late = late_start s k broken in
        let none : length records ≡ 0 = omega (arith, none_last steps e, as_many records (rows_of steps) front.1, many_rows steps) in
        let next : length (head ∷ records) + 1 ≡ 2 = omega (arith, none) in
        inr (inr (inr (inl (record {
          number = next;
          kind = late.0;
          row = row_of s;
          says = subst (λ (n : ℕ). SaysRow ((head ∷ records) ++ f ∷ more) n (row_of s)) next (record { fields = f; at = stands; meaning = said });
          late = late.1;
        }))))
    at_last (Some l) e s said broken =
        let falls = no_rise l s k broken in
        inr (inr (inr (inr (record {
          kind = falls.0;
          earlier = length records + 1;
          before = row_of l;
          row = row_of s;
          next = omega arith;
          says_before = says_last head records (f ∷ more) steps l front.1 e;
          says = record { fields = f; at = stands; meaning = said };
          not_above = falls.1;
        }))))
