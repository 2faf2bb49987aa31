-- The records that were reached are the first records of the text; where no more follows they are all, and there are no
-- more of them than bytes and one.
use Rattle.std.proofs.Common.{◌≡◌, ℕ, zero, suc, ◌+◌, ◌<◌, ◌⊎◌, Bool, true, false, cond, List, [], ◌∷◌, ◌++◌, length, Some, None, refl, sym, ap, ◌∙◌, inl, inr, arith, append_assoc}
use Rattle.std.proofs.lemmas.Bool.{cases_Bool}
use Rattle.csv.specs.Machine.{Read, ends_at_end, field_after, fields_after, is_end, next_record, step}
use Rattle.csv.specs.Reading.{Reached, records, records_from}
use Rattle.csv.specs.declared.parser.Config.{Config}
use Rattle.csv.specs.declared.parser.State.{State}
use Rattle.csv.specs.declared.parser.State.TheVariants as st
use Rattle.fixing_files.specs.Records.{Fields}
use Rattle.fixing_files.specs.Tables.{Table}

-- what a record leaves
abbrev pub Leaves : List ℕ → Read → Type 0
Leaves xs r = (length r.2 < length xs) ⊎ ((xs ≡ []) × (r.1 ≡ st.StartRecord) × (r.2 ≡ []))

at_end : (b : Bool) (q r : Read) → cond b (Some q) None ≡ Some r → q ≡ r
at_end true q r e = cc
at_end false q r e = absurd cc

pub consumes : (cfg : Config) (s : State) (fields : List (List ℕ)) (field xs : List ℕ) (r : Read) → next_record cfg s fields field xs ≡ Some r → Leaves xs r
unfolding next_record
consumes cfg s fields field [] r e =
    let is = at_end (ends_at_end s) _ r e in
    inr (refl, ap (λ (q : Read). q.1) (sym is), ap (λ (q : Read). q.2) (sym is))
consumes cfg s fields field (c ∷ rest) r e = elim (cases_Bool (is_end (step cfg s c).1)) [
  | inl ends ↦ let h = rw ends at e in let is : rest ≡ r.2 = cc in inl (omega (arith, ap length is))
  | inr goes ↦
      let h = consumes cfg (step cfg s c).0 (fields_after (step cfg s c).1 fields field) (field_after (step cfg s c).1 c field) rest r (rw goes at e) in
      elim h [ inl shorter ↦ inl (omega arith) | inr last ↦ inl (omega (arith, ap length last.2)) ]
]

pub none_left : (cfg : Config) (n : ℕ) → records_from cfg n st.StartRecord [] ≡ []
unfolding records_from next_record
none_left cfg zero = refl
none_left cfg (suc n) = refl

no_more : (cfg : Config) (rows : Table) (s2 : State) (ys : List ℕ) → Reached cfg st.StartRecord [] rows s2 ys → (rows ≡ []) × (ys ≡ [])
unfolding Reached next_record
no_more cfg [] s2 ys h = (refl, sym h.1)
no_more cfg (r ∷ rs) s2 ys h = absurd (let e = h.1 in cc)

reached_all : (cfg : Config) (n : ℕ) (s : State) (xs : List ℕ) (rows : Table) (s2 : State) (ys : List ℕ) → length xs < n → Reached cfg s xs rows s2 ys
    → next_record cfg s2 [] [] ys ≡ None → rows ≡ records_from cfg n s xs
unfolding Reached records_from
reached_all cfg zero s xs rows s2 ys enough h none = absurd (omega arith)
reached_all cfg (suc n) s xs [] s2 ys enough h none = rw (h.0, h.1, none) refl
reached_all cfg (suc n) s xs (r ∷ rs) s2 ys enough h none =
    let p = h.0 in
    let rest : rs ≡ records_from cfg n p.1 p.2 = elim (consumes cfg s [] [] xs p h.1) [
      | inl shorter ↦ reached_all cfg n p.1 p.2 rs s2 ys (omega arith) h.3 none
      | inr last ↦ (no_more cfg rs s2 ys (rw (last.1, last.2) at h.3)).0 ∙ sym (rw (last.1, last.2) (none_left cfg n))
    ] in
    rw h.1 (λ i. h.2 i ∷ rest i)

pub are_all : (cfg : Config) (xs : List ℕ) (rows : Table) (s2 : State) (ys : List ℕ) → Reached cfg st.StartRecord xs rows s2 ys → next_record cfg s2 [] [] ys ≡ None → rows ≡ records cfg xs
are_all cfg xs rows s2 ys h none = reached_all cfg (length xs + 1) st.StartRecord xs rows s2 ys (omega arith) h none

-- the records that were reached, and those that follow
pub record Follows (rows all : Table) : Type 0 where
  pub rest : Table
  pub joined : all ≡ rows ++ rest

reached_first : (cfg : Config) (n : ℕ) (s : State) (xs : List ℕ) (rows : Table) (s2 : State) (ys : List ℕ) → length xs < n → Reached cfg s xs rows s2 ys → Follows rows (records_from cfg n s xs)
unfolding Reached records_from
reached_first cfg zero s xs rows s2 ys enough h = absurd (omega arith)
reached_first cfg (suc n) s xs [] s2 ys enough h = record { rest = records_from cfg (suc n) s xs; joined = refl }
reached_first cfg (suc n) s xs (r ∷ rs) s2 ys enough h =
    let p = h.0 in
    let more : Follows rs (records_from cfg n p.1 p.2) = elim (consumes cfg s [] [] xs p h.1) [
      | inl shorter ↦ reached_first cfg n p.1 p.2 rs s2 ys (omega arith) h.3
      | inr last ↦
          let none = (no_more cfg rs s2 ys (rw (last.1, last.2) at h.3)).0 in
          record { rest = records_from cfg n p.1 p.2; joined = rw none refl }
    ] in
    record { rest = more.rest; joined = rw h.1 (let head = sym h.2 in λ i. head i ∷ more.joined i) }

pub are_first : (cfg : Config) (xs : List ℕ) (rows : Table) (s2 : State) (ys : List ℕ) → Reached cfg st.StartRecord xs rows s2 ys → Follows rows (records cfg xs)
are_first cfg xs rows s2 ys h = reached_first cfg (length xs + 1) st.StartRecord xs rows s2 ys (omega arith) h

-- the last record that was reached, and those that follow
pub follows_last : (t : Table) (f : Fields) (all : Table) (h : Follows (t ++ f ∷ []) all) → all ≡ t ++ f ∷ h.rest
follows_last t f all h = h.joined ∙ append_assoc t (f ∷ []) h.rest
