-- What the two rows that are kept of a group tell.
use Rattle.std.proofs.Common.{◌≡◌, ◌≢◌, ◌∙◌, ◌⊎◌, inl, inr, ◌<◌, ◌≤◌, Bool, true, false, Option, Some, None, if◌then◌else◌, refl, sym, ap, arith}
use Rattle.std.specs.Prelude.{nat_le}
use Rattle.std.proofs.lemmas.Bool.Decides.{nat_tests}
use Rattle.term_model.specs.declared.values.Value.{Value}
use Rattle.fixing_files.specs.Rows.{same_value}
use Rattle.fixing_files.proofs.ValueFacts.{differ, same_from}
use Rattle.scenario_set.specs.Mentions.{FirstIs, IsOther, IsSeen, next, next_first, next_other, none_seen, or_row, told_of}
use Rattle.scenario_set.specs.Watches.{earlier}
use Rattle.scenario_set.specs.declared.mentions.Mention.{Mention}
use Rattle.scenario_set.specs.Mentions.{Seen}

-- ---- the same rows

pub first_moves : (In Out : Mention → Type 0) → ((x : Mention) → In x → Out x) → ((x : Mention) → Out x → In x) → (o : Option Mention) → FirstIs In o → FirstIs Out o
first_moves In Out to from None none = λ x h. none x (from x h)
first_moves In Out to from (Some f) first = (to f first.0, λ x h. first.1 x (from x h))

other_moves : (In Out : Mention → Type 0) → ((x : Mention) → In x → Out x) → (o : Option Mention) → (x : Mention) → IsOther In o x → IsOther Out o x
other_moves In Out to None x h = h
other_moves In Out to (Some f) x h = (to x h.0, h.1)

pub seen_moves : (In Out : Mention → Type 0) → ((x : Mention) → In x → Out x) → ((x : Mention) → Out x → In x) → (s : Seen) → IsSeen In s → IsSeen Out s
seen_moves In Out to from s h = record {
  first_is = first_moves In Out to from s.first h.first_is;
  other_is = first_moves (IsOther In s.first) (IsOther Out s.first) (other_moves In Out to s.first) (other_moves Out In from s.first) s.other h.other_is;
}

pub none_is_seen : (In : Mention → Type 0) → ((x : Mention) → ¬ (In x)) → IsSeen In none_seen
none_is_seen In none = record { first_is = none; other_is = λ x h. h }

-- ---- one row more

module _ (In Out : Mention → Type 0) (row : Mention) (old : (x : Mention) → In x → Out x) (new : Out row) (cases : (x : Mention) → Out x → In x ⊎ (row ≡ x))
    (above : (x : Mention) → In x → x.number < row.number) where
  number_is : (x : Mention) → row ≡ x → row.number ≡ x.number
  number_is x e = ap (λ (m : Mention). m.number) e

  value_is : (x : Mention) → row ≡ x → row.value ≡ x.value
  value_is x e = ap (λ (m : Mention). m.value) e

  more_first : (o : Option Mention) → FirstIs In o → FirstIs Out (next_first o row)
  more_first None none = (new, λ x h. elim (cases x h) [ inl was ↦ absurd (none x was) | inr is ↦ omega (arith, number_is x is) ])
  more_first (Some f) first =
      (old f first.0, λ x h. elim (cases x h) [ inl was ↦ first.1 x was | inr is ↦ omega (arith, number_is x is, above f first.0) ])

  more_other : (b : Bool) (f : Mention) (o : Option Mention) → same_value f.value row.value ≡ b → FirstIs (IsOther In (Some f)) o → FirstIs (IsOther Out (Some f)) (if b then o else or_row o row)
  more_other true f o is h =
      let same : f.value ≡ row.value = same_from f.value row.value is in
      first_moves (IsOther In (Some f)) (IsOther Out (Some f)) (λ x i. (old x i.0, i.1))
      (λ x i. elim (cases x i.0) [ inl was ↦ (was, i.1) | inr here ↦ absurd (i.1 (sym (value_is x here) ∙ sym same)) ])
      o h
  more_other false f None is none =
      let apart : row.value ≢ f.value = λ e. differ f.value row.value is (sym e) in
      ((new, apart), λ x i. elim (cases x i.0) [ inl was ↦ absurd (none x (was, i.1)) | inr here ↦ omega (arith, number_is x here) ])
  more_other false f (Some o) is first =
      (old_other, λ x i. elim (cases x i.0) [ inl was ↦ first.1 x (was, i.1) | inr here ↦ omega (arith, number_is x here, above o first.0.0) ])
    where
      old_other : IsOther Out (Some f) o
      old_other = (old o first.0.0, first.0.1)

  more_seen : (first other : Option Mention) → FirstIs In first → FirstIs (IsOther In first) other → FirstIs (IsOther Out (next_first first row)) (next_other first other row)
  more_seen None None none others =
      λ x i. elim (cases x i.0) [ inl was ↦ none x was | inr here ↦ i.1 (sym (value_is x here)) ]
  more_seen None (Some o) none others = absurd (others.0)
  more_seen (Some f) other first others = more_other (same_value f.value row.value) f other refl others

  pub next_seen : (s : Seen) → IsSeen In s → IsSeen Out (next s row)
  next_seen s h = record { first_is = more_first s.first h.first_is; other_is = more_seen s.first s.other h.first_is h.other_is }

-- ---- the first row with another value

abbrev pub IsApart : (Mention → Type 0) → Value → Mention → Type 0
IsApart In v x = In x × (x.value ≢ v)

told_by : (In : Mention → Type 0) (v : Value) (b : Bool) (f : Mention) (o : Option Mention) → same_value v f.value ≡ b → FirstIs In (Some f) → FirstIs (IsOther In (Some f)) o → FirstIs (IsApart In v) (if b then o else Some f)
told_by In v true f o is first others =
    let same : v ≡ f.value = same_from v f.value is in
    first_moves (IsOther In (Some f)) (IsApart In v) (λ x i. (i.0, λ e. i.1 (e ∙ same))) (λ x i. (i.0, λ e. i.1 (e ∙ sym same))) o others
told_by In v false f o is first others = ((first.0, λ e. differ v f.value is (sym e)), λ x i. first.1 x i.0)

pub told_first : (In : Mention → Type 0) (v : Value) (first other : Option Mention) → FirstIs In first → FirstIs (IsOther In first) other → FirstIs (IsApart In v) (told_of first other v)
told_first In v None other none others = λ x i. none x i.0
told_first In v (Some f) other first others = told_by In v (same_value v f.value) f other refl first others

-- ---- the first of two

abbrev pub IsEither : (Mention → Type 0) → (Mention → Type 0) → Mention → Type 0
IsEither P Q x = P x ⊎ Q x

by_number : (P Q : Mention → Type 0) (c : Bool) (a b : Mention) → nat_le a.number b.number ≡ c → FirstIs P (Some a) → FirstIs Q (Some b) → FirstIs (IsEither P Q) (if c then Some a else Some b)
by_number P Q true a b is one other =
    let le : a.number ≤ b.number = grind (arith, nat_tests) in
    (inl one.0, λ x h. elim h [ inl p ↦ one.1 x p | inr q ↦ omega (arith, le, other.1 x q) ])
by_number P Q false a b is one other =
    let lt : b.number < a.number = grind (arith, nat_tests) in
    (inr other.0, λ x h. elim h [ inl p ↦ omega (arith, lt, one.1 x p) | inr q ↦ other.1 x q ])

pub first_of_both : (P Q : Mention → Type 0) (a b : Option Mention) → FirstIs P a → FirstIs Q b → FirstIs (IsEither P Q) (earlier a b)
first_of_both P Q (Some a) (Some b) one other = by_number P Q (nat_le a.number b.number) a b refl one other
first_of_both P Q (Some a) None one other = (inl one.0, λ x h. elim h [ inl p ↦ one.1 x p | inr q ↦ absurd (other x q) ])
first_of_both P Q None o one other =
    first_moves Q (IsEither P Q) (λ x q. inr q) (λ x h. elim h [ inl p ↦ absurd (one x p) | inr q ↦ q ]) o other
